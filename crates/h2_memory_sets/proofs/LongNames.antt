-- The first name of a list that has the block at a place.
use Rattle.std.proofs.Common.{◌≡◌, ℕ, Bool, true, false, refl, cond, sym, ◌∙◌, ap, List, [], ◌∷◌, length, Option, Some, None, slice_get, suc, zero, nat_eq, subst}
use Rattle.std.specs.Prelude.{IfNone}
use Rattle.std.specs.List.{position}
use Rattle.std.proofs.lemmas.Option.{none-some}
use Rattle.h2_memory_sets.specs.declared.naming.LongName.{LongName}
use Rattle.h2_memory_sets.specs.Names.{is_name_at, name_in}
use Rattle.h2_memory_sets.proofs.Parting.{alike, after_one, first_of, position_first, none_false}
use Rattle.h2_memory_sets.proofs.Passing.{and_parts}

-- the first place, and the rest of it
rest_some : (o : Option ℕ) (i : ℕ) → after_one o ≡ Some i → (j : ℕ) × (o ≡ Some j) × (i ≡ suc j)
rest_some None i e = absurd (none-some i e)
rest_some (Some j) i e = (j, refl, (let it : suc j ≡ i = (cc) in sym it))

found_first : (place len : ℕ) (xs : List LongName) (i : ℕ) (x : LongName) → first_of (is_name_at place len) xs ≡ Some i → slice_get xs i ≡ Some x → name_in xs place len ≡ Some x.name
found_first place len [] i x first read = absurd (none-some i first)
found_first place len (y ∷ ys) i x first read = head (is_name_at place len y) refl i first read (found_first place len ys)
  where
    head : (b : Bool) → is_name_at place len y ≡ b → (i : ℕ) → cond b (Some 0) (after_one (first_of (is_name_at place len) ys)) ≡ Some i → slice_get (y ∷ ys) i ≡ Some x → ((j : ℕ) (z : LongName) → first_of (is_name_at place len) ys ≡ Some j → slice_get ys j ≡ Some z → name_in ys place len ≡ Some z.name) → cond (is_name_at place len y) (Some y.name) (name_in ys place len) ≡ Some x.name
    head true is zero first read ih = ap (λ b. cond b (Some y.name) (name_in ys place len)) is ∙ (let same : y ≡ x = (cc) in ap (λ (z : LongName). Some z.name) same)
    head true is (suc i) first read ih = absurd (cc)
    head false is i first read ih =
        let it = rest_some (first_of (is_name_at place len) ys) i first in
        ap (λ b. cond b (Some y.name) (name_in ys place len)) is ∙ ih it.0 x it.1 (subst (λ k. slice_get (y ∷ ys) k ≡ Some x) it.2 read)

pub found_name : (place len : ℕ) (xs : List LongName) (i : ℕ) (x : LongName) → position (is_name_at place len) xs ≡ Some i → slice_get xs i ≡ Some x → name_in xs place len ≡ Some x.name
found_name place len xs i x first read = found_first place len xs i x (sym (position_first (is_name_at place len) xs) ∙ first) read

pub no_name : (place len : ℕ) (xs : List LongName) → position (is_name_at place len) xs ≡ None → name_in xs place len ≡ None
no_name place len xs e = go xs (none_false (is_name_at place len) xs e)
  where
    go : (ys : List LongName) → ((i : ℕ) (y : LongName) → slice_get ys i ≡ Some y → is_name_at place len y ≡ false) → name_in ys place len ≡ None
    go [] none = refl
    go (y ∷ ys) none = ap (λ b. cond b (Some y.name) (name_in ys place len)) (none 0 y refl) ∙ go ys (λ i z read. none (suc i) z read)

-- the name of this length has that length
pub name_len : (place len : ℕ) (xs : List LongName) (name : List ℕ) → name_in xs place len ≡ Some name → length name ≡ len
name_len place len [] name e = absurd (none-some name e)
name_len place len (x ∷ xs) name e = head (is_name_at place len x) refl e (name_len place len xs name)
  where
    head : (b : Bool) → is_name_at place len x ≡ b → cond b (Some x.name) (name_in xs place len) ≡ Some name → (name_in xs place len ≡ Some name → length name ≡ len) → length name ≡ len
    head true is e ih = let same : x.name ≡ name = (cc) in subst (λ (n : List ℕ). length n ≡ len) same (alike (length x.name) len (and_parts (nat_eq x.place place) (nat_eq (length x.name) len) is).1)
    head false is e ih = ih e

-- a fact that holds whether there is a value or not
pub if_none : {X P : Type 0} (o : Option X) → P → IfNone o P
if_none None p = p
if_none (Some x) p = tt
