-- Valid references: their ranges, and the one that is empty.
use Rattle.std.specs.Prelude.{◌≡◌, ◌<◌, ◌≤◌, ℕ, zero, suc, ◌+◌, ◌%◌, ◌^◌, Option, Some, None, refl}
use Rattle.std.proofs.Common.{ap, sym, ◌∙◌, arith, inl, inr, subst}
use Rattle.std.proofs.Math.Nat.{mod_self}
use Rattle.h2_ref.specs.declared.reference.Kind.{Kind}
use Rattle.h2_ref.specs.declared.reference.Kind.TheVariants.{Empty, Inode, Indirect, Content, Dirent as Entry_kind, MapNode, MapLeaf}
use Rattle.h2_ref.specs.declared.reference.Check.{Check}
use Rattle.h2_ref.specs.declared.reference.Check.TheVariants.{Nothing, Crc, Xx}
use Rattle.h2_ref.specs.declared.reference.Dirent.{Dirent}
use Rattle.h2_ref.specs.declared.reference.Ref.{Ref}
use Rattle.h2_ref.specs.declared.table.Row.{Row}
use Rattle.h2_ref.specs.Table.{row_of, empty_row}
use Rattle.h2_ref.specs.Ref.{IsValid, FitsRow, empty_ref, kind_number, method_number, EntryFits}
use Rattle.h2_ref.specs.Fault.{kind_of}
use Rattle.h2_ref.specs.FaultLaws.{kind_back}
use Rattle.std.proofs.lemmas.Option.{same_Some}
use Rattle.h2_set.specs.Ranges.{limit}
use Rattle.h2_set.specs.ChangeLaws.{step_up, lower_power}

-- a multiple of a power below a higher power ends its range there or before
ends_below : (bits n key : ℕ) → bits ≤ n → key % 2 ^ bits ≡ 0 → key < 2 ^ n → key + 2 ^ bits ≤ 2 ^ n
ends_below bits n key le multiple lt = step_up key (2 ^ n) (2 ^ bits) multiple (lower_power (2 ^ n) bits n le (mod_self (2 ^ n))) lt

-- the check of a method of none
no_check : (c : Check) → method_number c ≡ 0 → c ≡ Nothing
no_check Nothing e = refl
no_check (Crc n) e = absurd (omega arith)
no_check (Xx n) e = absurd (omega arith)

no_entry : (w : Row) (o : Option Dirent) → EntryFits w None o → o ≡ None
no_entry w None h = refl
no_entry w (Some e) h = absurd h

-- by its kind, a valid reference of kind Empty is the empty one
empty_fits : (r : Ref) → r.kind ≡ Empty → FitsRow empty_row r → r ≡ empty_ref
empty_fits r kind h =
    let check : r.check ≡ Nothing = no_check r.check h.method in
    let entry : r.dirent ≡ None = no_entry empty_row r.dirent h.entry in
    let last_key = h.key.key.last in
    let last_id = h.id.last in
    let key : r.key ≡ 0 = omega arith in
    let id : r.id ≡ 0 = omega arith in
    let keybits : r.keybits ≡ 0 = h.key.keybits in
    let radix : r.radix ≡ 0 = h.radix in
    let place : r.place ≡ 0 = h.place in
    λ z. record { kind = kind z; key = key z; keybits = keybits z; place = place z; radix = radix z; id = id z; check = check z; dirent = entry z }

pub valid_empty : (r : Ref) → IsValid r → r.kind ≡ Empty → r ≡ empty_ref
valid_empty r h kind = empty_fits r kind (subst (λ k. FitsRow (row_of k (method_number r.check)) r) kind h)

-- the range of a valid reference ends at 2^64 or before
row_limit : (k : Kind) (m : ℕ) (r : Ref) → FitsRow (row_of k m) r → limit r ≤ 2 ^ 64
row_limit Empty m r h = let bits : r.keybits ≡ 0 = h.key.keybits in let last = h.key.key.last in let one : 2 ^ r.keybits ≡ 1 = ap (λ n. 2 ^ n) bits in omega arith
row_limit Inode m r h = let bits : r.keybits ≡ 0 = h.key.keybits in let last = h.key.key.last in let one : 2 ^ r.keybits ≡ 1 = ap (λ n. 2 ^ n) bits in omega arith
row_limit Indirect m r h = let last = h.key.key.last in let most = h.key.keybits.1 in ends_below r.keybits 64 r.key (omega arith) h.key.multiple (omega arith)
row_limit Content m r h = let bits : r.keybits ≡ 14 = h.key.keybits in let last = h.key.key.last in let one : 2 ^ r.keybits ≡ 16384 = ap (λ n. 2 ^ n) bits in omega arith
row_limit Entry_kind zero r h = let bits : r.keybits ≡ 0 = h.key.keybits in let last = h.key.key.last in let one : 2 ^ r.keybits ≡ 1 = ap (λ n. 2 ^ n) bits in omega arith
row_limit Entry_kind (suc m) r h = let bits : r.keybits ≡ 0 = h.key.keybits in let last = h.key.key.last in let one : 2 ^ r.keybits ≡ 1 = ap (λ n. 2 ^ n) bits in omega arith
row_limit MapNode m r h = let last = h.key.key.last in elim h.key.keybits [
  | inl bits ↦ let one : 2 ^ r.keybits ≡ 268435456 = ap (λ n. 2 ^ n) bits in omega arith
  | inr bits ↦ let one : 2 ^ r.keybits ≡ 2147483648 = ap (λ n. 2 ^ n) bits in omega arith
]
row_limit MapLeaf m r h = let bits : r.keybits ≡ 25 = h.key.keybits in let last = h.key.key.last in let one : 2 ^ r.keybits ≡ 33554432 = ap (λ n. 2 ^ n) bits in omega arith

pub valid_limit : (r : Ref) → IsValid r → limit r ≤ 2 ^ 64
valid_limit r h = row_limit r.kind (method_number r.check) r h

-- only the kind Empty has the number 0
pub number_zero : (k : Kind) → kind_number k ≡ 0 → k ≡ Empty
number_zero k e = same_Some k Empty (sym (kind_back k) ∙ ap kind_of e)
