-- What callers over inodes may rely on: names and trees stay where nodes stay, and an inode's leaves are those of its set.
use Rattle.std.specs.Prelude.{◌≡◌, ◌⊎◌, ◌↔◌, ◌<◌, ◌≤◌, ◌+◌, ◌^◌, ℕ, true, false, List, [], Option, refl}
use Rattle.std.proofs.Common.{ap, sym, ◌∙◌, subst, inl, inr}
use Rattle.std.proofs.lemmas.Bool.{cases_Bool, cases_eq}
use Rattle.h2_ref.specs.declared.reference.Ref.{Ref}
use Rattle.h2_set.specs.Ranges.{Rising, is_indirect}
use Rattle.h2_set.specs.RefSet.{RefSet}
use Rattle.h2_inode.specs.declared.kind.InodeKind.{InodeKind}
use Rattle.h2_set.specs.Forest.{Forest, refs, HasLeaves, done, LeavesOf, KeepsLeaves, IsSound, loaded, Fits, IsRootOf}
use Rattle.h2_set.specs.Calls.{Alike, InPlace, Same, Stays, Storable, GoesWith, Stores}
use Rattle.h2_set.specs.StayLaws.{Alike-refl, leaves_stay, leaves_stay_all}
use Rattle.h2_inode.specs.declared.inode.Body.{Body}
use Rattle.h2_inode.specs.declared.inode.Body.TheVariants.{Refs, Bytes}
use Rattle.h2_inode.specs.declared.inode.Inode.{Inode}
use Rattle.h2_inode.specs.Inode.{keys_from}
use Rattle.h2_inode.specs.Block.{refs_of_body}
use Rattle.h2_inode.specs.Nodes.{Fields, set_of, MayHave, IsTreeOf, HasInode, FitsIn, Replaceable, Brings, Replaces}

-- which leaf names a root stays where both roots stay
pub named_stays : (f g : Forest) (top key c : ℕ) → InPlace f g top → InPlace f g c → IsRootOf f top key c → IsRootOf g top key c
named_stays f g top key c above here h = record {
  stands = here.stands;
  root = here.root ∙ h.root;
  belongs = λ t k.
      subst (λ x. (x ≡ true) ↔ (((t ≡ top) × (k ≡ key)) ⊎ (g.belongs top t k ≡ true))) (sym (here.belongs t k))
      (subst (λ x. (f.belongs c t k ≡ true) ↔ (((t ≡ top) × (k ≡ key)) ⊎ (x ≡ true))) (sym (above.belongs t k)) (h.belongs t k));
}

-- what a leaf names now it named before, where both roots stood
pub named_back : (f g : Forest) (top key c : ℕ) → InPlace f g top → f.stands c ≡ true → InPlace f g c → IsRootOf g top key c → IsRootOf f top key c
named_back f g top key c above stood here h = record {
  stands = stood;
  root = sym here.root ∙ h.root;
  belongs = λ t k.
      subst (λ x. (x ≡ true) ↔ (((t ≡ top) × (k ≡ key)) ⊎ (f.belongs top t k ≡ true))) (here.belongs t k)
      (subst (λ x. (g.belongs c t k ≡ true) ↔ (((t ≡ top) × (k ≡ key)) ⊎ (x ≡ true))) (above.belongs t k) (h.belongs t k));
}

-- a node that is the same stays
pub same_stays : (f g : Forest) (m : ℕ) → Same f g m → Stays f g m
same_stays f g m h = record {
  place = h.place;
  alike = subst (λ (s : RefSet). Alike (refs f m) s.refs) (sym h.set) (Alike-refl (refs f m));
  near = λ k c e. h.link k ∙ e;
  far = λ k l e. inl (h.link k ∙ e);
}

-- the inode of a root, where the root and all that it holds stay
pub inode_held : (f g : Forest) (old new : ℕ → Option Fields) (at : ℕ) (i : Inode) → InPlace f g at → g.leaf_bits at ≡ f.leaf_bits at → ((r : Ref) → g.allows at r ≡ f.allows at r) → g.set at ≡ f.set at → new at ≡ old at
    → HasInode f old at i → HasInode g new at i
inode_held f g old new at i place bits allows set same is = record {
  stands = place.stands;
  root = place.root ∙ is.root;
  tree = record {
    low = place.low ∙ is.tree.low;
    bits = place.bits ∙ is.tree.bits;
    leaf_bits = bits ∙ is.tree.leaf_bits;
    allows = λ r. subst (λ x. (x ≡ true) ↔ MayHave i.kind i.body r) (sym (allows r)) (is.tree.allows r);
  };
  fields = same ∙ is.fields;
  set = set ∙ is.set;
}

-- a call that brings one root keeps the leaves of all trees
pub brings_leaves : (f g : Forest) (c : ℕ) → IsSound f → Brings f g c → (at : ℕ) → f.stands at ≡ true → KeepsLeaves f g at
brings_leaves f g c sound h = leaves_stay_all f g sound (λ m stands. same_stays f g m (h.same m stands))

-- where all nodes of another tree are the same, that tree keeps its leaves
pub tree_leaves : (f g : Forest) (top : ℕ) → IsSound f → ((m : ℕ) → f.stands m ≡ true → f.root m ≡ top → Same f g m) → (m : ℕ) → f.stands m ≡ true → f.root m ≡ top → KeepsLeaves f g m
tree_leaves f g top sound same m stands root l leaves =
    leaves_stay f g IsOf closed stay (stands, root) leaves (refs g m) (stay m (stands, root)).alike
  where
    IsOf : ℕ → Type 0
    IsOf n = (f.stands n ≡ true) × (f.root n ≡ top)

    closed : (n k c : ℕ) → IsOf n → f.link n k ≡ loaded c → IsOf c
    closed n k c is link = let child = (sound.node n is.0).child k c link in (child.stands, child.root ∙ is.1)

    stay : (n : ℕ) → IsOf n → Stays f g n
    stay n is = same_stays f g n (same n is.0 is.1)

-- nothing of the tree goes with a leaf that the set of node at loses
abbrev pub NoneGoes : Forest → ℕ → RefSet → ℕ → Type 0
NoneGoes f at s top = (m : ℕ) → f.stands m ≡ true → f.root m ≡ top → GoesWith f m at s → ⊥

-- where nothing of another tree goes with a leaf of the set, that tree keeps its leaves

pub stores_leaves : (f g : Forest) (at : ℕ) (s : RefSet) (top : ℕ) → IsSound f → Stores f g at s → (top ≡ f.root at → ⊥) → NoneGoes f at s top → (m : ℕ) → f.stands m ≡ true → f.root m ≡ top → KeepsLeaves f g m
stores_leaves f g at s top sound h other none = tree_leaves f g top sound (λ n stands root. h.others n stands (λ e. other (sym root ∙ ap f.root e)) (λ goes. other (sym root ∙ goes.tree)) (λ goes. none n stands root goes))

pub replaces_leaves : (f g : Forest) (at : ℕ) (s : RefSet) (top : ℕ) → IsSound f → Replaces f g at s → (top ≡ f.root at → ⊥) → NoneGoes f at s top → (m : ℕ) → f.stands m ≡ true → f.root m ≡ top → KeepsLeaves f g m
replaces_leaves f g at s top sound h other none = tree_leaves f g top sound (λ n stands root. h.others n stands (λ e. other (sym root ∙ ap f.root e)) (λ goes. other (sym root ∙ goes.tree)) (λ goes. none n stands root goes))

-- where the inode of a root is replaced, what stands before and after stays in its place
pub replaced_place : (f g : Forest) (at : ℕ) (s : RefSet) → Replaces f g at s → (m : ℕ) → f.stands m ≡ true → g.stands m ≡ true → InPlace f g m
replaced_place f g at s h m stood stands = elim (cases_eq m at) as (λ _. InPlace f g m) [
  | inl e ↦ subst (λ n. InPlace f g n) (sym e) h.place
  | inr ne ↦ (h.others m stood ne (λ goes. let clash : true ≡ false = sym stands ∙ h.gone m stood (inl goes) in absurd (cc)) (λ goes. let clash : true ≡ false = sym stands ∙ h.gone m stood (inr goes) in absurd (cc))).place
]

-- the references of a body
set_refs : (body : Body) → (let s = set_of body in s.refs) ≡ refs_of_body body
set_refs (Refs s) = refl
set_refs (Bytes bytes) = refl

-- the leaves of an inode's tree are those below the references of its body
pub inode_leaves : (f : Forest) (holds : ℕ → Option Fields) (at : ℕ) (i : Inode) (l : List Ref) → HasInode f holds at i → HasLeaves f at (refs_of_body i.body) l → LeavesOf f at l
inode_leaves f holds at i l h leaves = subst (λ rs. HasLeaves f at rs l) (sym (ap (λ (s : RefSet). s.refs) h.set ∙ set_refs i.body)) leaves

-- an inode without references has no leaf
pub no_leaves : (f : Forest) (holds : ℕ → Option Fields) (at : ℕ) (i : Inode) → HasInode f holds at i → refs_of_body i.body ≡ [] → LeavesOf f at []
no_leaves f holds at i h none = inode_leaves f holds at i [] h (subst (λ rs. HasLeaves f at rs []) (sym none) done)

-- What the root of an inode with references may be given by a store, it may be given with a new body.

fits_in : (f : Forest) (at : ℕ) (kind : InodeKind) (t : RefSet) (r : Ref) → f.root at ≡ at → IsTreeOf f at kind (Refs t) → Fits f at r → FitsIn kind r
fits_in f at kind t r root tree h = record {
  -- an indirect reference fits only where it can be written, and a leaf is one of those that the inode may have
  held = elim (cases_Bool (is_indirect r)) [ inl ind ↦ h.held ind | inr leaf ↦ (may leaf).1 ];
  aligned = h.aligned;
  class = h.class;
  leaf = λ e. h.leaf e ∙ ap f.leaf_bits root ∙ tree.leaf_bits;
  allowed = λ e. (may e).0;
  wide = λ e. subst (λ n. n ≤ r.keybits) (ap f.leaf_bits root ∙ tree.leaf_bits) (h.wide e);
  some_bits = h.some_bits;
  falls = λ e. subst (λ n. r.keybits < n) tree.bits (h.falls e);
}
  where
    may : is_indirect r ≡ false → MayHave kind (Refs t) r
    may e = (tree.allows r).0 (subst (λ m. f.allows m r ≡ true) root (h.allowed e))

pub storable_replaceable : (f : Forest) (holds : ℕ → Option Fields) (at : ℕ) (i : Inode) (t s : RefSet) → i.body ≡ Refs t → t.capacity ≡ 4 → HasInode f holds at i → Storable f at s → Replaceable f at i.kind s
storable_replaceable f holds at i t s body four h may = record {
  capacity = may.capacity ∙ ap (λ (x : RefSet). x.capacity) (h.set ∙ ap set_of body) ∙ four;
  set = may.set;
  inside = subst (λ n. Rising (keys_from i.kind) (keys_from i.kind + 2 ^ n) s.refs) h.tree.bits (subst (λ n. Rising n (n + 2 ^ f.bits at) s.refs) h.tree.low may.inside);
  fits = λ j r there. fits_in f at i.kind t r h.root (subst (λ x. IsTreeOf f at i.kind x) body h.tree) (may.fits j r there);
  stood = may.stood;
  free = may.free;
}
