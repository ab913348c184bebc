-- Where the leaves of a node are known, no bad block is met below it.
use Rattle.std.proofs.Common.{◌≡◌, ℕ, true, false, sym, ◌∙◌, List, Some, subst, slice_get, suc, zero, Result, Ok, Err, IfErr}
use Rattle.std.specs.Result.{IsErrAnd}
use Rattle.std.proofs.lemmas.Option.{none-some}
use Rattle.h2_ref.specs.declared.reference.Ref.{Ref}
use Rattle.h2_ref.specs.declared.faults.Trouble.{Trouble}
use Rattle.h2_set.specs.RefSet.{RefSet}
use Rattle.h2_set.specs.Ranges.{is_indirect}
use Rattle.h2_set.specs.Forest.{Forest, refs, loaded, told, HasLeaves, done, one, near, far, LeavesOf, IsSound}
use Rattle.h2_set.specs.Calls.{Walks, IsBad}
use Rattle.h2_set.specs.StayLaws.{Walks-leaves}

-- what is below a reference of such a node: a loaded node whose leaves are known, or a block that is told
pub data KnownBelow (f : Forest) (at : ℕ) (r : Ref) : Type 0 where
  in_node : (c : ℕ) (l : List Ref) → f.link at r.key ≡ loaded c → LeavesOf f c l → KnownBelow f at r
  in_block : (l : List Ref) → f.link at r.key ≡ told l → KnownBelow f at r

pub known_below : {f : Forest} {at : ℕ} {rs l : List Ref} → HasLeaves f at rs l → (i : ℕ) (r : Ref) → slice_get rs i ≡ Some r → is_indirect r ≡ true → KnownBelow f at r
known_below done i r read ind = absurd (none-some r read)
known_below (one {r = x} leaf rest) zero r read ind =
    let same : x ≡ r = (cc) in
    let out : is_indirect r ≡ false = subst (λ (y : Ref). is_indirect y ≡ false) same leaf in
    absurd (let clash : true ≡ false = sym ind ∙ out in cc)
known_below (one leaf rest) (suc i) r read ind = known_below rest i r read ind
known_below {f} {at} (near {c = c} {r = x} {below = b} ind' link kids inside rest) zero r read ind =
    let same : x ≡ r = (cc) in
    in_node c b (subst (λ (y : Ref). f.link at y.key ≡ loaded c) same link) kids
known_below (near ind' link kids inside rest) (suc i) r read ind = known_below rest i r read ind
known_below {f} {at} (far {r = x} {below = b} ind' link inside rest) zero r read ind =
    let same : x ≡ r = (cc) in
    in_block b (subst (λ (y : Ref). f.link at y.key ≡ told b) same link)
known_below (far ind' link inside rest) (suc i) r read ind = known_below rest i r read ind

-- the load of what is below it
pub good_load : (f : Forest) (at i : ℕ) (r : Ref) (e : Trouble) → slice_get (refs f at) i ≡ Some r → is_indirect r ≡ true → ((q : Ref) (c : ℕ) → slice_get (refs f at) i ≡ Some q → f.link at q.key ≡ loaded c → ⊥) → ((q : Ref) (l : List Ref) → slice_get (refs f at) i ≡ Some q → f.link at q.key ≡ told l → IsBad e → ⊥)
    → (l : List Ref) → LeavesOf f at l → IsBad e → ⊥
good_load f at i r e read ind unloaded good l hl bad = by (known_below hl i r read ind)
  where
    by : KnownBelow f at r → ⊥
    by (in_node c b link kids) = unloaded r c read link
    by (in_block b link) = good r b read link bad

loaded_same : {a b : ℕ} → loaded a ≡ loaded b → a ≡ b
loaded_same e = (cc)

-- and what is done below the node that was loaded
pub good_below : (f h : Forest) (at i c : ℕ) (r : Ref) (e : Trouble) → IsSound f → f.stands at ≡ true → Walks f h → slice_get (refs f at) i ≡ Some r → is_indirect r ≡ true → h.link at r.key ≡ loaded c → ((b : List Ref) → LeavesOf h c b → IsBad e → ⊥)
    → (l : List Ref) → LeavesOf f at l → IsBad e → ⊥
good_below f h at i c r e sound stands walks read ind link good l hl bad = by (known_below (Walks-leaves f h sound walks at stands l hl) i r read_h ind)
  where
    read_h : slice_get (refs h at) i ≡ Some r
    read_h = subst (λ (s : RefSet). slice_get s.refs i ≡ Some r) (sym (walks.sets at stands)) read

    by : KnownBelow h at r → ⊥
    by (in_node d b link' kids) = let same : d ≡ c = loaded_same (sym link' ∙ link) in good b (subst (λ z. LeavesOf h z b) same kids) bad
    by (in_block b link') = let clash : told b ≡ loaded c = sym link' ∙ link in cc

-- no bad block stopped a call, if the leaves of node at are known
abbrev pub IsGood : Forest → ℕ → Trouble → Type 0
IsGood f at e = (l : List Ref) → LeavesOf f at l → IsBad e → ⊥

-- what is so after a walk was so before it
pub good_before : (f h : Forest) (at : ℕ) (e : Trouble) → IsSound f → Walks f h → f.stands at ≡ true → IsGood h at e → IsGood f at e
good_before f h at e sound walks stands good l has = good l (Walks-leaves f h sound walks at stands l has)

-- an error that is handed on
pub carried_good : {T : Type 0} (f : Forest) (at : ℕ) (r : Result T Trouble) (e : Trouble) → IsErrAnd r (λ x. x ≡ e) → IsGood f at e → IfErr r (IsGood f at)
carried_good f at (Ok v) e same good = tt
carried_good f at (Err x) e same good = λ l has bad. good l has (subst IsBad same bad)
