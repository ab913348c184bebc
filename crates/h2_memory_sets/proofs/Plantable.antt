-- A new inode that may be planted has references that may stand in its root.
use Rattle.std.proofs.Common.{◌≡◌, ℕ, ◌+◌, ◌%◌, ◌<◌, ◌≤◌, ◌^◌, true, false, arith, refl, sym, ◌∙◌, ap, List, Some, subst, ◌⊎◌, inl, inr, slice_get, suc, zero}
use Rattle.std.proofs.lemmas.Option.{none-some}
use Rattle.h2_ref.specs.declared.reference.Kind.{Kind}
use Rattle.h2_ref.specs.declared.reference.Kind.TheVariants.{Empty, Inode as Inode_kind, Indirect, Content, Dirent, MapNode, MapLeaf}
use Rattle.h2_ref.specs.declared.reference.Ref.{Ref}
use Rattle.h2_ref.specs.Ref.{FitsRow, method_number}
use Rattle.h2_ref.specs.Table.{row_of}
use Rattle.h2_set.specs.Ranges.{limit, is_indirect, leads_on}
use Rattle.h2_set.specs.RefSet.{RefSet, IsRefSet}
use Rattle.h2_set.specs.SetBytes.{IsHeld}
use Rattle.h2_set.specs.ValidLaws.{valid_limit}
use Rattle.h2_set.specs.ChangeLaws.{step_up, lower_power}
use Rattle.h2_inode.specs.declared.kind.InodeKind.{InodeKind}
use Rattle.h2_inode.specs.declared.kind.InodeKind.TheVariants.{Directory, File, Pfs}
use Rattle.h2_inode.specs.declared.inode.Body.{Body}
use Rattle.h2_inode.specs.declared.inode.Body.TheVariants.{Refs, Bytes}
use Rattle.h2_inode.specs.declared.inode.Inode.{Inode}
use Rattle.h2_inode.specs.Block.{refs_of_body}
use Rattle.h2_inode.specs.Inode.{keys_from, keys_end, IsLeafOf, IsPartOf, IsRootSet, BodyFits}
use Rattle.h2_inode.specs.Nodes.{leaf_kind, leaf_keybits, set_of as set_of_body, IsPlantable}
use Rattle.h2_memory_sets.specs.declared.node.Owner.{Owner}
use Rattle.h2_memory_sets.specs.Inodes.{inode_node}
use Rattle.h2_memory_sets.specs.Owners.{inode_allows}
use Rattle.h2_memory_sets.specs.View.{FitsBelow, range_of}
use Rattle.h2_memory_sets.proofs.Coming.{IsFitRoot}
use Rattle.h2_memory_sets.proofs.Fitting.{read_all}
use Rattle.h2_memory_sets.proofs.Inoded.{kind_allows}

-- a multiple of a power below 2 ^ 62 ends its range there or before
ends_below : (bits key : ℕ) → bits ≤ 62 → key % 2 ^ bits ≡ 0 → key < 2 ^ 62 → key + 2 ^ bits ≤ 2 ^ 62
ends_below bits key le multiple lt = step_up key (2 ^ 62) (2 ^ bits) multiple (lower_power (2 ^ 62) bits 62 le refl) lt

-- what the table says of a reference that an inode's root has
record Sized (kind : InodeKind) (r : Ref) : Type 0 where
  leaf : is_indirect r ≡ false → r.keybits ≡ leaf_keybits kind
  kind_is : is_indirect r ≡ false → r.kind ≡ leaf_kind kind
  some_bits : is_indirect r ≡ true → 0 < r.keybits
  most : r.keybits ≤ 62

leaf_kind_is : (kind : InodeKind) (size : ℕ) (r : Ref) → IsLeafOf kind size r → r.kind ≡ leaf_kind kind
leaf_kind_is Directory size r h = h
leaf_kind_is File size r h = h.0
leaf_kind_is Pfs size r h = h

-- the keybits of a leaf
row_bits : (kind : InodeKind) (m : ℕ) (r : Ref) → FitsRow (row_of (leaf_kind kind) m) r → r.keybits ≡ leaf_keybits kind
row_bits Directory zero r h = h.key.keybits
row_bits Directory (suc m) r h = h.key.keybits
row_bits File m r h = h.key.keybits
row_bits Pfs m r h = h.key.keybits

few_bits : (kind : InodeKind) → leaf_keybits kind ≤ 62
few_bits Directory = omega arith
few_bits File = omega arith
few_bits Pfs = omega arith

not_indirect : (kind : InodeKind) → leads_on (leaf_kind kind) ≡ false
not_indirect Directory = refl
not_indirect File = refl
not_indirect Pfs = refl

sized : (kind : InodeKind) (size : ℕ) (r : Ref) → IsHeld r → IsPartOf kind size r → Sized kind r
sized kind size r held part = elim part.part as (λ _. Sized kind r) [
  | inl ind ↦
      let row : FitsRow (row_of Indirect (method_number r.check)) r = subst (λ k. FitsRow (row_of k (method_number r.check)) r) ind held.valid in
      let on : is_indirect r ≡ true = ap leads_on ind in
      record {
        leaf = λ e. let clash : true ≡ false = sym on ∙ e in absurd (cc);
        kind_is = λ e. let clash : true ≡ false = sym on ∙ e in absurd (cc);
        some_bits = λ e. let least = row.key.keybits.0 in omega (arith, least);
        most = row.key.keybits.1;
      }
  | inr is ↦
      let same = leaf_kind_is kind size r is in
      let row : FitsRow (row_of (leaf_kind kind) (method_number r.check)) r = subst (λ k. FitsRow (row_of k (method_number r.check)) r) same held.valid in
      let bits = row_bits kind (method_number r.check) r row in
      let off : is_indirect r ≡ false = ap leads_on same ∙ not_indirect kind in
      record {
        leaf = λ e. bits;
        kind_is = λ e. same;
        some_bits = λ e. let clash : true ≡ false = sym e ∙ off in absurd (cc);
        most = subst (λ n. n ≤ 62) (sym bits) (few_bits kind);
      }
]

class_of : (kind : InodeKind) (key : ℕ) → keys_from kind ≤ key → key < keys_end kind → (key < 2 ^ 62) ⊎ (2 ^ 63 ≤ key)
class_of Directory key from to = inr from
class_of File key from to = inl to
class_of Pfs key from to = inl to

-- the range of a reference with keys of the kind ends in its half
high_of : (kind : InodeKind) (r : Ref) → IsHeld r → keys_from kind ≤ r.key → r.key < keys_end kind → r.keybits ≤ 62 → r.key % 2 ^ r.keybits ≡ 0 → limit r ≤ keys_from kind + 2 ^ 63
high_of Directory r held from to most aligned = valid_limit r held.valid
high_of File r held from to most aligned = let it = ends_below r.keybits r.key most aligned to in omega (arith, it)
high_of Pfs r held from to most aligned = let it = ends_below r.keybits r.key most aligned to in omega (arith, it)

pub from_aligned : (kind : InodeKind) → keys_from kind % 2 ^ 63 ≡ 0
from_aligned Directory = refl
from_aligned File = refl
from_aligned Pfs = refl

pub from_ends : (kind : InodeKind) → keys_from kind + 2 ^ 63 ≤ 2 ^ 64
from_ends Directory = omega arith
from_ends File = omega arith
from_ends Pfs = omega arith

module _ (n : ℕ) (leaf : Owner) (i : Inode) (s : RefSet) (body : i.body ≡ Refs s) (may : IsPlantable i) where
  root_set : IsRootSet i.kind i.size s.refs
  root_set = (subst (λ (b : Body). BodyFits i.kind i.size b) body may.inode.body_fits).2

  refs_is : refs_of_body i.body ≡ s.refs
  refs_is = ap refs_of_body body

  -- each reference may stand there
  fits_there : (j : ℕ) (r : Ref) → slice_get s.refs j ≡ Some r → FitsBelow (range_of (inode_node n leaf i)) (Some (inode_node n leaf i)) r
  fits_there j r read =
      let held = read_all IsHeld s.refs root_set.held j r read in
      let part = read_all (IsPartOf i.kind i.size) s.refs root_set.parts j r read in
      let size = sized i.kind i.size r held part in
      let most = size.most in
      let aligned = held.valid.key.multiple in
      record {
        named = held.something;
        held = λ e. held;
        low = part.key_low;
        high = high_of i.kind r held part.key_low part.key_high most aligned;
        aligned = aligned;
        class = class_of i.kind r.key part.key_low part.key_high;
        fewer = omega (arith, most);
        leaf = size.leaf;
        allowed = λ e. ap (λ (b : Body). inode_allows i.kind b r) body ∙ (kind_allows i.kind r).1 (size.kind_is e, held);
        wide = λ e. may.wide j r (ap (λ (l : List Ref). slice_get l j) refs_is ∙ read) (indirect_is r.kind e);
        some_bits = size.some_bits;
      }
    where
      indirect_is : (k : Kind) → leads_on k ≡ true → k ≡ Indirect
      indirect_is Empty e = absurd (cc)
      indirect_is Inode_kind e = absurd (cc)
      indirect_is Indirect e = refl
      indirect_is Content e = absurd (cc)
      indirect_is Dirent e = absurd (cc)
      indirect_is MapNode e = absurd (cc)
      indirect_is MapLeaf e = absurd (cc)

-- the root of an inode that may be planted
pub planted_fits : (n : ℕ) (leaf : Owner) (i : Inode) → IsPlantable i → IsRefSet (set_of_body i.body) → IsFitRoot (inode_node n leaf i)
planted_fits n leaf i may set = record {
  set = set;
  capacity = four i.body refl;
  aligned = from_aligned i.kind;
  ends = from_ends i.kind;
  fits = fits i.body refl;
}
  where
    four : (b : Body) → i.body ≡ b → (let s = set_of_body i.body in s.capacity) ≡ 4
    four (Refs s) e = ap (λ (b : Body). let t = set_of_body b in t.capacity) e ∙ (subst (λ (b : Body). BodyFits i.kind i.size b) e may.inode.body_fits).1
    four (Bytes bytes) e = ap (λ (b : Body). let t = set_of_body b in t.capacity) e

    fits : (b : Body) → i.body ≡ b → (j : ℕ) (r : Ref) → (let s = set_of_body i.body in slice_get s.refs j) ≡ Some r → FitsBelow (range_of (inode_node n leaf i)) (Some (inode_node n leaf i)) r
    fits (Refs s) e j r read = fits_there n leaf i s e may j r (sym (ap (λ (b : Body). let t = set_of_body b in slice_get t.refs j) e) ∙ read)
    fits (Bytes bytes) e j r read = absurd (none-some r (sym (ap (λ (b : Body). let t = set_of_body b in slice_get t.refs j) e) ∙ read))
