-- Loaded paths and leaves stay where a call over inodes leaves them: where one root comes, in trees of which nothing
-- goes with a leaf that is lost, and where an inode is replaced by one with the same set.
use Rattle.std.specs.Prelude.{◌≡◌, ◌<◌, ℕ, true, Option, Some, slice_get, refl}
use Rattle.std.proofs.Common.{ap, sym, ◌∙◌, arith, inl, inr, subst}
use Rattle.std.proofs.lemmas.Bool.{cases_eq}
use Rattle.h2_ref.specs.declared.reference.Ref.{Ref}
use Rattle.h2_set.specs.Ranges.{is_indirect}
use Rattle.h2_set.specs.RefSet.{RefSet}
use Rattle.h2_set.specs.Forest.{Forest, refs, loaded, KeepsLeaves, IsSound, Reaches, nowhere, here, below}
use Rattle.h2_set.specs.Calls.{Alike, InPlace, Same, Loses, Walks}
use Rattle.h2_set.specs.StayLaws.{Alike-refl}
use Rattle.h2_set.specs.ChangeLaws.{Same-Keeps, below_keeps, leaves_move}
use Rattle.h2_inode.specs.Nodes.{IsInodeLeaf, Brings, Replaces, Visits}
use Rattle.h2_inode.specs.NodeLaws.{tree_leaves, NoneGoes}
use Rattle.h2_inode.specs.VisitLaws.{walks_visit, visits_trans}

module _ (f g : Forest) (P : ℕ → Type 0) (closed : (m k c : ℕ) → P m → f.link m k ≡ loaded c → P c) (sets : (m : ℕ) → P m → g.set m ≡ f.set m)
    (links : (m i : ℕ) (r : Ref) → P m → slice_get (refs f m) i ≡ Some r → is_indirect r ≡ true → g.link m r.key ≡ f.link m r.key) where
  -- a path stays where the nodes on it keep their sets, and what is below their references
  pub path_kept : {key at : ℕ} {o : Option Ref} → P at → Reaches f key at o → Reaches g key at o
  path_kept is (nowhere {at = at} miss) = nowhere (λ i r read. miss i r (ap (λ (s : RefSet). slice_get s.refs i) (sym (sets at is)) ∙ read))
  path_kept is (here {at = at} {r = r} i read within leaf) = here {r = r} i (ap (λ (s : RefSet). slice_get s.refs i) (sets at is) ∙ read) within leaf
  path_kept is (below {at = at} {c = c} {r = r} i read within ind link rest) =
      below {r = r} i (ap (λ (s : RefSet). slice_get s.refs i) (sets at is) ∙ read) within ind (links at i r is read ind ∙ link) (path_kept (closed at r.key c is link) rest)

-- One root comes

pub brings_path : (f g : Forest) (c : ℕ) → IsSound f → Brings f g c → {key at : ℕ} {o : Option Ref} → f.stands at ≡ true → Reaches f key at o → Reaches g key at o
brings_path f g c sound h =
    path_kept f g (λ m. f.stands m ≡ true) (λ m k d stands link. ((sound.node m stands).child k d link).stands) (λ m stands. (h.same m stands).set) (λ m i r stands read ind. (h.same m stands).link r.key)

pub brings_leaf : (f g : Forest) (c top : ℕ) (leaf : Ref) → IsSound f → Brings f g c → IsInodeLeaf f top leaf → IsInodeLeaf g top leaf
brings_leaf f g c top leaf sound h is =
    let place = (h.same top is.stands).place in
    record { stands = place.stands; root = place.root ∙ is.root; kind = is.kind; path = brings_path f g c sound h is.stands is.path }

-- Loads of blocks, before or after others

pub walks_then : (f g h : Forest) → Walks f g → Visits g h → Visits f h
walks_then f g h w v = visits_trans f g h (walks_visit f g w) v

pub then_walks : (f g h : Forest) → Visits f g → Walks g h → Visits f h
then_walks f g h v w = visits_trans f g h v (walks_visit g h w)

-- Another tree than the one in which a set is replaced

module _ (f g : Forest) (at : ℕ) (s : RefSet) (top : ℕ) (sound : IsSound f) (h : Replaces f g at s) (other : top ≡ f.root at → ⊥) (none : NoneGoes f at s top) where
  pub replaces_same : (m : ℕ) → f.stands m ≡ true → f.root m ≡ top → Same f g m
  replaces_same m stands root = h.others m stands (λ e. other (sym root ∙ ap f.root e)) (λ goes. other (sym root ∙ goes.tree)) (λ goes. none m stands root goes)

  pub replaces_path : {key m : ℕ} {o : Option Ref} → f.stands m ≡ true → f.root m ≡ top → Reaches f key m o → Reaches g key m o
  replaces_path stands root =
      path_kept f g (λ m. (f.stands m ≡ true) × (f.root m ≡ top))
      (λ m k c is link. let child = (sound.node m is.0).child k c link in (child.stands, child.root ∙ is.1))
      (λ m is. (replaces_same m is.0 is.1).set) (λ m i r is read ind. (replaces_same m is.0 is.1).link r.key) (stands, root)

-- An inode is replaced by one with the same set

module _ (f g : Forest) (at : ℕ) (sound : IsSound f) (h : Replaces f g at (f.set at)) where
  none_lost : (key : ℕ) → Loses f at (f.set at) key → ⊥
  none_lost key loses = loses.lacks loses.place loses.lost loses.was refl refl

  -- all other nodes are the same
  pub refit_same : (m : ℕ) → f.stands m ≡ true → (m ≡ at → ⊥) → Same f g m
  refit_same m stands ne = h.others m stands ne (λ goes. none_lost (f.low m) goes.loses) (λ goes. none_lost goes.key goes.loses)

  -- no node goes
  pub refit_place : (m : ℕ) → f.stands m ≡ true → InPlace f g m
  refit_place m stands = elim (cases_eq m at) as (λ _. InPlace f g m) [
    | inl e ↦ subst (λ n. InPlace f g n) (sym e) h.place
    | inr ne ↦ (refit_same m stands ne).place
  ]

  pub refit_set : (m : ℕ) → f.stands m ≡ true → g.set m ≡ f.set m
  refit_set m stands = elim (cases_eq m at) as (λ _. g.set m ≡ f.set m) [
    | inl e ↦ subst (λ n. g.set n ≡ f.set n) (sym e) h.set
    | inr ne ↦ (refit_same m stands ne).set
  ]

  refit_link : (m i : ℕ) (r : Ref) → f.stands m ≡ true → slice_get (refs f m) i ≡ Some r → is_indirect r ≡ true → g.link m r.key ≡ f.link m r.key
  refit_link m i r stands read ind = elim (cases_eq m at) as (λ _. g.link m r.key ≡ f.link m r.key) [
    | inl e ↦
        let there : slice_get (refs f at) i ≡ Some r = subst (λ n. slice_get (refs f n) i ≡ Some r) e read in
        subst (λ n. g.link n r.key ≡ f.link n r.key) (sym e) (h.link i r there ind)
    | inr ne ↦ (refit_same m stands ne).link r.key
  ]

  -- loaded paths stay
  pub refit_path : {key m : ℕ} {o : Option Ref} → f.stands m ≡ true → Reaches f key m o → Reaches g key m o
  refit_path = path_kept f g (λ m. f.stands m ≡ true) (λ m k c stands link. ((sound.node m stands).child k c link).stands) refit_set refit_link

  -- the leaves of its tree stay
  pub refit_own : f.stands at ≡ true → KeepsLeaves f g at
  refit_own stands = λ l has.
      leaves_move has (refs g at) (subst (λ (s : RefSet). Alike (refs f at) s.refs) (sym h.set) (Alike-refl (refs f at))) h.link
      (λ i c r read ind link. let child = (sound.node at stands).child r.key c link in
      below_keeps f g at sound (λ m st root ne. Same-Keeps f g m (refit_same m st ne)) c child.stands child.root child.fewer)

  -- a node below a root has a shorter range
  below_root : (m : ℕ) → f.stands m ≡ true → f.root at ≡ at → f.stands at ≡ true → (m ≡ at → ⊥) → f.root m ≡ f.root at → f.bits m < f.bits at
  below_root m stands own stood ne root =
      let up = sound.parent m stands (λ e. ne (sym e ∙ root ∙ own)) in
      let less = ((sound.node up.parent up.stands).child (f.low m) m up.link).fewer in
      let most = (sound.node up.parent up.stands).slope in
      let half = (sound.node at stood).half own in
      omega (arith, less, most, half)

  -- and those of all others
  pub refit_leaves : f.stands at ≡ true → f.root at ≡ at → (m : ℕ) → f.stands m ≡ true → KeepsLeaves f g m
  refit_leaves stood own m stands = elim (cases_eq m at) as (λ _. KeepsLeaves f g m) [
    | inl e ↦ subst (λ n. KeepsLeaves f g n) (sym e) (refit_own stood)
    | inr ne ↦ elim (cases_eq (f.root m) (f.root at)) as (λ _. KeepsLeaves f g m) [
      | inl root ↦ below_keeps f g at sound (λ n st r apart. Same-Keeps f g n (refit_same n st apart)) m stands root (below_root m stands own stood ne root)
      | inr apart ↦ tree_leaves f g (f.root m) sound (λ n st root. refit_same n st (λ e. apart (sym root ∙ ap f.root e))) m stands refl
    ]
  ]
