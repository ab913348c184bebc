-- Leaves of a directory's tree are entries, and an entry may go in.
use Rattle.std.specs.Prelude.{◌≡◌, ◌<◌, ◌≤◌, ℕ, zero, suc, ◌+◌, ◌%◌, ◌^◌, true, List, Option, Some, None, refl}
use Rattle.std.proofs.Common.{ap, sym, ◌∙◌, arith, inr, subst}
use Rattle.h2_num.specs.declared.block.Block.{Block}
use Rattle.h2_ref.specs.declared.reference.Kind.{Kind}
use Rattle.h2_ref.specs.declared.reference.Kind.TheVariants as kinds
use Rattle.h2_ref.specs.declared.reference.Check.{Check}
use Rattle.h2_ref.specs.declared.reference.Dirent.{Dirent}
use Rattle.h2_ref.specs.declared.reference.Ref.{Ref}
use Rattle.h2_ref.specs.declared.table.Span.{Span}
use Rattle.h2_ref.specs.declared.table.Row.{Row}
use Rattle.h2_ref.specs.Ref.{IsValid, FitsRow, EntryFits, method_number}
use Rattle.h2_ref.specs.Table.{row_of}
use Rattle.h2_set.specs.Ranges.{leads_on}
use Rattle.h2_set.specs.RefSet.{RefSet}
use Rattle.h2_set.specs.SetBytes.{IsHeld}
use Rattle.h2_set.specs.Forest.{Forest, IsSound, Reaches}
use Rattle.h2_tree.specs.Changes.{Takes, IsFree}
use Rattle.h2_inode.specs.declared.kind.InodeKind.{InodeKind}
use Rattle.h2_inode.specs.declared.kind.InodeKind.TheVariants.{Directory}
use Rattle.h2_inode.specs.declared.inode.Body.{Body}
use Rattle.h2_inode.specs.declared.inode.Body.TheVariants.{Refs, Bytes}
use Rattle.h2_inode.specs.declared.inode.Inode.{Inode}
use Rattle.h2_inode.specs.Inode.{keys_from}
use Rattle.h2_inode.specs.Nodes.{Fields, HasInode, MayHave, leaf_kind, leaf_keybits}
use Rattle.h2_dir.specs.Changing.{HasRefs, entry_ref}
use Rattle.h2_dir.proofs.Paths.{leaf_may}

-- what the table of references says of an entry
pub record OfEntry (r : Ref) : Type 0 where
  pub low : 2 ^ 63 ≤ r.key
  pub high : r.key < 2 ^ 64
  pub bits : r.keybits ≡ 0
  pub entry : Dirent
  pub entry_is : r.dirent ≡ Some entry

has_entry : (w : Row) (names : Span) (o : Option Dirent) → EntryFits w (Some names) o → (e : Dirent) × (o ≡ Some e)
has_entry w names None h = absurd h
has_entry w names (Some e) h = (e, refl)

by_row : (m : ℕ) (r : Ref) → FitsRow (row_of kinds.Dirent m) r → OfEntry r
by_row zero r h = let e = has_entry (row_of kinds.Dirent zero) _ r.dirent h.entry in let low = h.key.key.least in let high = h.key.key.last in record { low = low; high = omega (arith, high); bits = h.key.keybits; entry = e.0; entry_is = e.1 }
by_row (suc m) r h = let e = has_entry (row_of kinds.Dirent (suc m)) _ r.dirent h.entry in let low = h.key.key.least in let high = h.key.key.last in record { low = low; high = omega (arith, high); bits = h.key.keybits; entry = e.0; entry_is = e.1 }

pub of_entry : (r : Ref) → IsValid r → r.kind ≡ kinds.Dirent → OfEntry r
of_entry r valid kind = by_row (method_number r.check) r (subst (λ (k : Kind). FitsRow (row_of k (method_number r.check)) r) kind valid)

-- a directory's tree may have leaves of this kind alone
kind_by : (kind : InodeKind) (body : Body) (leaf : Ref) → kind ≡ Directory → MayHave kind body leaf → leaf.kind ≡ kinds.Dirent
kind_by kind (Refs s) leaf is may = may.0 ∙ ap leaf_kind is
kind_by kind (Bytes b) leaf is may = absurd may

pub entry_kind : (f : Forest) (holds : ℕ → Option Fields) (dir : ℕ) (i : Inode) (key : ℕ) (leaf : Ref) → IsSound f → HasInode f holds dir i → i.kind ≡ Directory → Reaches f key dir (Some leaf) → leaf.kind ≡ kinds.Dirent
entry_kind f holds dir i key leaf sound is kind path =
    kind_by i.kind i.body leaf kind (leaf_may sound is path)

-- nothing belongs to an entry
pub nothing_belongs : (f : Forest) (holds : ℕ → Option Fields) (dir : ℕ) (i : Inode) (m key : ℕ) → IsSound f → HasInode f holds dir i → i.kind ≡ Directory → f.stands m ≡ true → f.belongs m dir key ≡ true → ⊥
nothing_belongs f holds dir i m key sound is kind stands belongs =
    let owner = sound.owner m dir key stands belongs in
    let entry : owner.leaf.kind ≡ kinds.Dirent = entry_kind f holds dir i key owner.leaf sound is kind owner.path in
    let inode : owner.leaf.kind ≡ kinds.Inode = owner.kind_is in
    cc

-- so nothing that does is held
pub entry_free : (f : Forest) (holds : ℕ → Option Fields) (dir : ℕ) (i : Inode) (key : ℕ) (leaf : Ref) → IsSound f → HasInode f holds dir i → i.kind ≡ Directory → Reaches f key dir (Some leaf) → IsFree f dir key
entry_free f holds dir i key leaf sound is kind path m stands belongs = absurd (nothing_belongs f holds dir i m key sound is kind stands belongs)

-- the fields of a new entry
pub ref_kind : (epoch key : ℕ) (name : List ℕ) (block : Option (Block × Check)) (number target : ℕ) → (let r = entry_ref epoch key name block number target in (r.kind ≡ kinds.Dirent) × (r.key ≡ key))
ref_kind epoch key name None number target = (refl, refl)
ref_kind epoch key name (Some b) number target = (refl, refl)

may_entry : (body : Body) (kind : InodeKind) (set_is : (s : RefSet) × (body ≡ Refs s)) (leaf : Ref) → kind ≡ Directory → leaf.kind ≡ kinds.Dirent → IsHeld leaf → MayHave kind body leaf
may_entry (Refs s) kind set_is leaf is e held = (e ∙ sym (ap leaf_kind is), held)
may_entry (Bytes b) kind set_is leaf is e held = let no = set_is.1 in cc

-- a directory's tree takes a valid entry
pub takes_entry : (f : Forest) (holds : ℕ → Option Fields) (dir : ℕ) (i : Inode) (leaf : Ref) → HasInode f holds dir i → i.kind ≡ Directory → HasRefs i → IsValid leaf → leaf.kind ≡ kinds.Dirent → Takes f dir leaf
takes_entry f holds dir i leaf is kind has_refs valid entry =
    let of = of_entry leaf valid entry in
    let low = of.low in
    let high = of.high in
    let start : f.low dir ≡ 2 ^ 63 = is.tree.low ∙ ap keys_from kind in
    let bits : f.bits dir ≡ 63 = is.tree.bits in
    let ends : leaf.key + 2 ^ 0 ≤ 2 ^ 63 + 2 ^ 63 = omega (arith, high) in
    record {
      is_leaf = ap leads_on entry;
      allowed = subst (λ m. f.allows m leaf ≡ true) (sym is.root) ((is.tree.allows leaf).1 (may_entry i.body i.kind (has_refs.set, has_refs.body_is) leaf kind entry (record { valid = valid; something = λ e. let clash : leaf.kind ≡ kinds.Dirent = entry in cc })));
      aligned = subst (λ n. leaf.key % 2 ^ n ≡ 0) (sym of.bits) (omega arith);
      class = inr low;
      keybits = of.bits ∙ sym (ap f.leaf_bits is.root ∙ is.tree.leaf_bits ∙ ap leaf_keybits kind);
      low = subst (λ n. n ≤ leaf.key) (sym start) low;
      high = subst (λ n. leaf.key + 2 ^ n ≤ f.low dir + 2 ^ f.bits dir) (sym of.bits) (subst (λ n. leaf.key + 2 ^ 0 ≤ n + 2 ^ f.bits dir) (sym start) (subst (λ n. leaf.key + 2 ^ 0 ≤ 2 ^ 63 + 2 ^ n) (sym bits) ends));
    }

refs_by : (body : Body) (kind : InodeKind) (leaf : Ref) → MayHave kind body leaf → (s : RefSet) × (body ≡ Refs s)
refs_by (Refs s) kind leaf may = (s, refl)
refs_by (Bytes b) kind leaf may = absurd may

-- an inode whose tree has a leaf has references
pub leaf_refs : (f : Forest) (holds : ℕ → Option Fields) (dir : ℕ) (i : Inode) (key : ℕ) (leaf : Ref) → IsSound f → HasInode f holds dir i → Reaches f key dir (Some leaf) → HasRefs i
leaf_refs f holds dir i key leaf sound is path =
    let refs = refs_by i.body i.kind leaf (leaf_may sound is path) in
    record { set = refs.0; body_is = refs.1 }
