-- A node that is altered, and the tree of a file, to which nothing belongs.
use Rattle.std.proofs.Common.{◌≡◌, ℕ, true, arith, refl, sym, ◌∙◌, ap, List, [], ◌∷◌, length, Option, Some, subst, inl, inr, slice_get, suc}
use Rattle.std.proofs.lemmas.Option.{none-some}
use Rattle.h2_ref.specs.declared.reference.Ref.{Ref}
use Rattle.h2_ref.specs.declared.reference.Kind.TheVariants.{Inode, Content}
use Rattle.h2_set.specs.RefSet.{RefSet}
use Rattle.h2_set.specs.Forest.{Forest, refs, IsSoundNode, IsSound, Reaches, nowhere, here, below}
use Rattle.h2_set.specs.Calls.{InPlace, Fixed, Alters, AllRenewed, GoesWith, OnWay, inside, across, IsAbove, by}
use Rattle.h2_set.specs.ChangeLaws.{same_or_not}
use Rattle.h2_set.specs.RenewLaws.{Alike-length}
use Rattle.h2_file.specs.Blocks.{HasContents}

-- The set of a node that is altered

-- lists of one length, of which one has all that the other has, each at its place
same_list : (rs qs : List Ref) → length qs ≡ length rs → ((i : ℕ) (r : Ref) → slice_get rs i ≡ Some r → slice_get qs i ≡ Some r) → qs ≡ rs
same_list [] [] n each = refl
same_list [] (q ∷ qs) n each = absurd (omega (arith, n))
same_list (r ∷ rs) [] n each = absurd (omega (arith, n))
same_list (r ∷ rs) (q ∷ qs) n each =
    let first : slice_get (q ∷ qs) 0 ≡ Some r = each 0 r refl in
    let head : q ≡ r = (cc) in
    let tail : qs ≡ rs = same_list rs qs (omega (arith, n)) (λ i x read. each (suc i) x read) in
    rw (head, tail) refl

pub same_set : (s t : RefSet) → s.refs ≡ t.refs → s.capacity ≡ t.capacity → s ≡ t
same_set s t refs_are capacity =
    let with_refs : RefSet = record { refs = t.refs; capacity = s.capacity } in
    let first : s ≡ with_refs = ap (λ z. let w : RefSet = record { refs = z; capacity = s.capacity } in w) refs_are in
    let second : with_refs ≡ t = ap (λ z. let w : RefSet = record { refs = t.refs; capacity = z } in w) capacity in
    first ∙ second

-- no reference of a node is on the way to it
not_own : (f : Forest) (at i : ℕ) (r : Ref) → IsSoundNode f at → slice_get (refs f at) i ≡ Some r → OnWay f at r at → ⊥
not_own f at i r node read (inside root ind in_r bits) = omega (arith, (node.fits i r read).falls ind, bits)
not_own f at i r node read (across key other in_r belongs) = other refl

-- the set of a node that is altered stays
pub own_set : (f h : Forest) (at : ℕ) → IsSound f → f.stands at ≡ true → Alters f h at → h.set at ≡ f.set at
own_set f h at sound stands alters =
    let node = sound.node at stands in
    let n = Alike-length (refs f at) (refs h at) (alters.tree at stands refl).alike in
    same_set (h.set at) (f.set at) (same_list (refs f at) (refs h at) n (λ i r read. alters.exact at i r stands read (not_own f at i r node read))) (alters.capacity at stands)

pub altered_place : (f h : Forest) (at : ℕ) → Alters f h at → (m : ℕ) → f.stands m ≡ true → InPlace f h m
altered_place f h at alters m st = elim (same_or_not (f.root m) (f.root at)) as (λ _. InPlace f h m) [
  | inl same ↦ (alters.tree m st same).place
  | inr differs ↦ (alters.above m st differs).place
]

pub altered_link : (f h : Forest) (at : ℕ) → Alters f h at → (m k : ℕ) → f.stands m ≡ true → h.link m k ≡ f.link m k
altered_link f h at alters m k st = elim (same_or_not (f.root m) (f.root at)) as (λ _. h.link m k ≡ f.link m k) [
  | inl same ↦ (alters.tree m st same).link k
  | inr differs ↦ (alters.above m st differs).link k
]

renewed_length : (rs qs : List Ref) → AllRenewed rs qs → length qs ≡ length rs
renewed_length [] [] a = refl
renewed_length [] (q ∷ qs) a = absurd a
renewed_length (r ∷ rs) [] a = absurd a
renewed_length (r ∷ rs) (q ∷ qs) a = ap suc (renewed_length rs qs a.1)

pub altered_length : (f h : Forest) (at : ℕ) → Alters f h at → (m : ℕ) → f.stands m ≡ true → length (refs h m) ≡ length (refs f m)
altered_length f h at alters m st = elim (same_or_not (f.root m) (f.root at)) as (λ _. length (refs h m) ≡ length (refs f m)) [
  | inl same ↦ Alike-length (refs f m) (refs h m) (alters.tree m st same).alike
  | inr differs ↦ renewed_length (refs f m) (refs h m) (alters.above m st differs).renewed
]

-- the set of a node that isn't above the one that is altered stays
pub off_set : (f h : Forest) (at m : ℕ) → f.stands m ≡ true → Alters f h at → (IsAbove f m at → ⊥) → h.set m ≡ f.set m
off_set f h at m st alters off = same_set (h.set m) (f.set m) (same_list (refs f m) (refs h m) (altered_length f h at alters m st) (λ i r read. alters.exact m i r st read (λ way. off (by i r read way)))) (alters.capacity m st)

-- A file's tree holds content alone, to which nothing belongs

-- a leaf that is reached is one that the tree may have
pub reached_allowed : {f : Forest} {key at : ℕ} {o : Option Ref} → IsSound f → f.stands at ≡ true → Reaches f key at o → (leaf : Ref) → o ≡ Some leaf → f.allows (f.root at) leaf ≡ true
reached_allowed sound stands (nowhere none) leaf e = absurd (none-some leaf e)
reached_allowed {f} sound stands (here {at = at} {r = r} i read in_r k) leaf e =
    let same : r ≡ leaf = (cc) in
    subst (λ (y : Ref). f.allows (f.root at) y ≡ true) same (((sound.node at stands).fits i r read).allowed k)
reached_allowed {f} sound stands (below {at = at} {c = c} {r = r} i read in_r ind link rest) leaf e =
    let child = (sound.node at stands).child r.key c link in
    subst (λ m. f.allows m leaf ≡ true) child.root (reached_allowed sound child.stands rest leaf e)

pub nothing_goes : (f : Forest) (at : ℕ) (s : RefSet) → IsSound f → HasContents f at → (m : ℕ) → f.stands m ≡ true → GoesWith f m at s → ⊥
nothing_goes f at s sound holds m st goes =
    let it = sound.owner m (f.root at) goes.key st goes.belongs in
    let may : f.allows (f.root (f.root at)) it.leaf ≡ true = reached_allowed sound it.stands it.path it.leaf refl in
    let is : it.leaf.kind ≡ Content = (holds.kinds it.leaf (subst (λ n. f.allows n it.leaf ≡ true) it.root may)).0 in
    let clash : Inode ≡ Content = sym it.kind_is ∙ is in
    cc

pub contents_keep : (f g : Forest) (at : ℕ) → IsSound f → IsSound g → f.stands at ≡ true → InPlace f g at → Fixed f g → HasContents f at → HasContents g at
contents_keep f g at sound sound_g stands place fixed h =
    let root : f.root at ≡ g.root at = sym place.root in
    let top : f.stands (f.root at) ≡ true = (sound.top at stands).0 in
    let top_g : g.stands (f.root at) ≡ true = subst (λ n. g.stands n ≡ true) place.root (sound_g.top at place.stands).0 in
    let allows : (r : Ref) → g.allows (f.root at) r ≡ f.allows (f.root at) r = λ r. fixed.allows (f.root at) r top top_g in
    record {
      kinds = λ r e. h.kinds r (sym (allows r) ∙ subst (λ m. g.allows m r ≡ true) (sym root) e);
      kinds_all = λ r e is. subst (λ m. g.allows m r ≡ true) root (allows r ∙ h.kinds_all r e is);
      keybits = ap g.leaf_bits (sym root) ∙ (fixed.leaf_bits (f.root at) top top_g ∙ h.keybits);
    }
