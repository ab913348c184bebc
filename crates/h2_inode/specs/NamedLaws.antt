-- Which inodes leaves name while inodes are loaded, made and replaced, as the reading of loaded nodes tells.
use Rattle.std.specs.Prelude.{◌≡◌, ◌⊎◌, ℕ, true, false, Option, refl}
use Rattle.std.proofs.Common.{ap, sym, ◌∙◌, inl, inr, subst}
use Rattle.std.proofs.lemmas.Bool.{cases_Bool, cases_eq}
use Rattle.std.proofs.lemmas.Option.{none-some, same_Some}
use Rattle.h2_ref.specs.declared.reference.Ref.{Ref}
use Rattle.h2_set.specs.RefSet.{RefSet}
use Rattle.h2_set.specs.Forest.{Forest, IsSound, IsRootOf}
use Rattle.h2_set.specs.Calls.{InPlace, Same, Stays}
use Rattle.h2_set.specs.StayLaws.{Same-Stays}
use Rattle.h2_inode.specs.declared.inode.Body.{Body}
use Rattle.h2_inode.specs.declared.inode.Body.TheVariants.{Refs, Bytes}
use Rattle.h2_inode.specs.declared.inode.Inode.{Inode}
use Rattle.h2_inode.specs.Nodes.{Fields, fields_of, bytes_of, set_of, HasInode, IsUnloaded, Brings, Replaces}
use Rattle.h2_inode.specs.NodeLaws.{named_stays, named_back, inode_held, replaced_place}
use Rattle.h2_inode.specs.Loaded.{Tree, at_root, IsTold, IsLoaded, NamesInode, View, IsSameTree, HoldsOn, HoldsBut, TellsOn}

-- A root has one inode.

body_one : (x y : Body) → bytes_of x ≡ bytes_of y → set_of x ≡ set_of y → x ≡ y
body_one (Refs s) (Refs t) b e = ap Refs e
body_one (Refs s) (Bytes c) b e = absurd (none-some c b)
body_one (Bytes b) (Refs s) e f = absurd (none-some b (sym e))
body_one (Bytes b) (Bytes c) e f = ap Bytes (same_Some b c e)

pub inode_one : (f : Forest) (holds : ℕ → Option Fields) (at : ℕ) (i j : Inode) → HasInode f holds at i → HasInode f holds at j → i ≡ j
inode_one f holds at i j p q =
    let same : fields_of i ≡ fields_of j = same_Some (fields_of i) (fields_of j) (sym p.fields ∙ q.fields) in
    let body : i.body ≡ j.body = body_one i.body j.body (ap (λ (x : Fields). x.bytes) same) (sym p.set ∙ q.set) in
    λ k. record { kind = (same k).kind; number = (same k).number; size = (same k).size; links = (same k).links; next = (same k).next; name = (same k).name; body = body k }

-- Where a leaf names one root, it names the inode of that root.
pub names_one : (v : View) (top c : ℕ) (leaf : Ref) (i j : Inode) (t : Tree) → NamesInode v.forest v.holds v.tells (at_root top) leaf i t → IsRootOf v.forest top leaf.key c
    → ((d : ℕ) → IsRootOf v.forest top leaf.key d → d ≡ c) → HasInode v.forest v.holds c j → (i ≡ j) × (t ≡ at_root c)
names_one v top c leaf i j t (inl is) named one has =
    let e = one is.0 is.1 in
    (inode_one v.forest v.holds c i j (subst (λ m. HasInode v.forest v.holds m i) e is.2) has, is.3 ∙ ap at_root e)
names_one v top c leaf i j t (inr is) named one has = absurd (is.0 c named)

module _ (u v : View) (told : TellsOn u v) where
  -- what was told is told, with the same leaves
  pub told_on : (r : Ref) (i : Inode) (t : Tree) → IsTold u.tells r i t → IsTold v.tells r i t × IsSameTree u v t t
  told_on r i t x = ((x.0, told r x.0 x.1, x.2, x.3), subst (λ z. IsSameTree u v z z) (sym x.3) refl)

  -- an inode that isn't loaded now, and wasn't, is as it was told
  pub unloaded_on : (top : ℕ) (r : Ref) (i : Inode) (t : Tree) → IsUnloaded v.forest top r.key → IsTold u.tells r i t
      → (w : Tree) × NamesInode v.forest v.holds v.tells (at_root top) r i w × IsSameTree u v t w
  unloaded_on top r i t none is = let g = told_on r i t is in (t, inr (none, g.0), g.1)

-- an inode that was loaded, and whose root stays, is the same
pub loaded_on : (u v : View) (top : ℕ) (r : Ref) (i : Inode) (t : Tree) → InPlace u.forest v.forest top → (is : IsLoaded u.forest u.holds top r.key i t) → InPlace u.forest v.forest is.0
    → HasInode v.forest v.holds is.0 i → (w : Tree) × NamesInode v.forest v.holds v.tells (at_root top) r i w × IsSameTree u v t w
loaded_on u v top r i t above is place has = (
  at_root is.0,
  inl (is.0, named_stays u.forest v.forest top r.key is.0 above place is.1, has, refl),
  subst (λ z. IsSameTree u v z (at_root is.0)) (sym is.3) (refl, is.1.stands),
)

-- One root comes, and only one leaf names it: that of a new inode, or of one that is loaded.

module _ (u v : View) (top key c : ℕ) (sound : IsSound u.forest) (brings : Brings u.forest v.forest c) (only : u.forest.stands c ≡ false → (t k : ℕ) → IsRootOf v.forest t k c → (t ≡ top) × (k ≡ key))
    (holds : HoldsOn u v) (told : TellsOn u v) where
  here : (m : ℕ) → u.forest.stands m ≡ true → InPlace u.forest v.forest m
  here m stands = (brings.same m stands).place

  pub brings_stays : (m : ℕ) → u.forest.stands m ≡ true → Stays u.forest v.forest m
  brings_stays m stands = Same-Stays u.forest v.forest m (brings.same m stands)

  -- the inodes of roots stay
  pub brings_inode : (m : ℕ) (i : Inode) → HasInode u.forest u.holds m i → HasInode v.forest v.holds m i
  brings_inode m i has = inode_held u.forest v.forest u.holds v.holds m i (here m has.stands) (brings.leaf_bits m has.stands) (λ r. brings.allows m r has.stands) (brings.same m has.stands).set (holds m has.stands (here m has.stands).stands) has

  -- what stands now and didn't is the root that came
  came : (m : ℕ) → v.forest.stands m ≡ true → u.forest.stands m ≡ false → m ≡ c
  came m stands gone = elim (brings.new m stands) [ inl e ↦ e | inr stood ↦ let clash : true ≡ false = sym stood ∙ gone in absurd (cc) ]

  -- where a leaf's inode wasn't loaded, the root that it names now has come
  pub brings_fresh : (t k m : ℕ) → u.forest.stands t ≡ true → IsUnloaded u.forest t k → IsRootOf v.forest t k m → u.forest.stands m ≡ false
  brings_fresh t k m stands none named = elim (cases_Bool (u.forest.stands m)) [
    | inl stood ↦ absurd (none m (named_back u.forest v.forest t k m (here t stands) stood (here m stood) named))
    | inr gone ↦ gone
  ]

  -- another leaf's inode isn't loaded still
  brings_others : (t k : ℕ) → u.forest.stands t ≡ true → IsUnloaded u.forest t k → ((t ≡ top) × (k ≡ key) → ⊥) → IsUnloaded v.forest t k
  brings_others t k stands none other m named =
      let gone = brings_fresh t k m stands none named in
      let e = came m named.stands gone in
      other (only (subst (λ z. u.forest.stands z ≡ false) e gone) t k (subst (λ z. IsRootOf v.forest t k z) e named))

  -- each other leaf names the same inode, with the same tree
  pub brings_names : (t : ℕ) (r : Ref) (i : Inode) (tree : Tree) → u.forest.stands t ≡ true → NamesInode u.forest u.holds u.tells (at_root t) r i tree → ((t ≡ top) × (r.key ≡ key) → ⊥)
      → (w : Tree) × NamesInode v.forest v.holds v.tells (at_root t) r i w × IsSameTree u v tree w
  brings_names t r i tree stands (inl x) other = loaded_on u v t r i tree (here t stands) x (here x.0 x.1.stands) (brings_inode x.0 i x.2)
  brings_names t r i tree stands (inr x) other = unloaded_on u v told t r i tree (brings_others t r.key stands x.0 other) x.1

  -- so does one whose inode was loaded
  pub brings_loaded : (t : ℕ) (r : Ref) (i : Inode) (tree : Tree) → u.forest.stands t ≡ true → IsLoaded u.forest u.holds t r.key i tree
      → (w : Tree) × NamesInode v.forest v.holds v.tells (at_root t) r i w × IsSameTree u v tree w
  brings_loaded t r i tree stands x = loaded_on u v t r i tree (here t stands) x (here x.0 x.1.stands) (brings_inode x.0 i x.2)

  -- below the root that came nothing is loaded: what belongs to one of its leaves would have stood before it
  pub brings_bare : (n k : ℕ) → u.forest.stands n ≡ false → v.forest.stands n ≡ true → IsUnloaded v.forest n k
  brings_bare n k gone stands m named = elim (cases_Bool (u.forest.stands m)) as (λ _. ⊥) [
    | inl stood ↦
        let own = sound.owner m n k stood (sym ((here m stood).belongs n k) ∙ (named.belongs n k).1 (inl (refl, refl))) in
        let clash : true ≡ false = sym own.stands ∙ gone in
        absurd (cc)
    | inr new ↦
        let own = brings.sound.owner m n k named.stands ((named.belongs n k).1 (inl (refl, refl))) in
        own.other (named.root ∙ came m named.stands new ∙ sym (came n stands gone))
  ]

-- The inode of a root is replaced.

module _ (u v : View) (at : ℕ) (s : RefSet) (h : Replaces u.forest v.forest at s) where
  -- what stands before and after is the same, but for the root itself
  pub replaces_kept : (m : ℕ) → u.forest.stands m ≡ true → v.forest.stands m ≡ true → (m ≡ at → ⊥) → Same u.forest v.forest m
  replaces_kept m stood stands ne =
      h.others m stood ne (λ goes. let clash : true ≡ false = sym stands ∙ h.gone m stood (inl goes) in absurd (cc)) (λ goes. let clash : true ≡ false = sym stands ∙ h.gone m stood (inr goes) in absurd (cc))

  -- all that stands before and after stays in its place
  pub replaces_place : (m : ℕ) → u.forest.stands m ≡ true → v.forest.stands m ≡ true → InPlace u.forest v.forest m
  replaces_place = replaced_place u.forest v.forest at s h

  module _ (holds : HoldsBut at u v) (told : TellsOn u v) where
    -- the inodes of other roots stay
    pub replaces_inode : (m : ℕ) (i : Inode) → (m ≡ at → ⊥) → v.forest.stands m ≡ true → HasInode u.forest u.holds m i → HasInode v.forest v.holds m i
    replaces_inode m i ne stands has =
        inode_held u.forest v.forest u.holds v.holds m i (replaces_place m has.stands stands) (h.leaf_bits m has.stands stands) (λ r. h.allows m r has.stands stands ne) (replaces_kept m has.stands stands ne).set (holds m ne has.stands stands) has

    -- A leaf that named the root names the new inode. Each other one names the same as before, if the root that it names
    -- stands still, or if it isn't loaded.
    pub replaces_names : (top : ℕ) (r : Ref) (i new : Inode) (tree : Tree) → u.forest.stands top ≡ true → v.forest.stands top ≡ true → HasInode v.forest v.holds at new
        → NamesInode u.forest u.holds u.tells (at_root top) r i tree → ((c : ℕ) → IsRootOf u.forest top r.key c → v.forest.stands c ≡ true)
        → ((tree ≡ at_root at) × NamesInode v.forest v.holds v.tells (at_root top) r new (at_root at)) ⊎ ((w : Tree) × NamesInode v.forest v.holds v.tells (at_root top) r i w × IsSameTree u v tree w)
    replaces_names top r i new tree stood stands has (inl x) alive = elim (cases_eq x.0 at) as (λ _. ((tree ≡ at_root at) × NamesInode v.forest v.holds v.tells (at_root top) r new (at_root at)) ⊎ ((w : Tree) × NamesInode v.forest v.holds v.tells (at_root top) r i w × IsSameTree u v tree w)) [
      | inl e ↦
          let named = named_stays u.forest v.forest top r.key x.0 (replaces_place top stood stands) (replaces_place x.0 x.1.stands (alive x.0 x.1)) x.1 in
          inl (x.3 ∙ ap at_root e, inl (at, subst (λ m. IsRootOf v.forest top r.key m) e named, has, refl))
      | inr ne ↦
          inr (loaded_on u v top r i tree (replaces_place top stood stands) x (replaces_place x.0 x.1.stands (alive x.0 x.1)) (replaces_inode x.0 i ne (alive x.0 x.1) x.2))
    ]
    replaces_names top r i new tree stood stands has (inr x) alive =
        inr (unloaded_on u v told top r i tree (λ d named. let before = h.none_new d named.stands in
        x.0 d (named_back u.forest v.forest top r.key d (replaces_place top stood stands) before (replaces_place d before named.stands) named)) x.1)
