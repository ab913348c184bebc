-- Where the leaves of a tree are known, no bad block is met.
use Rattle.std.proofs.Common.{◌≡◌, ℕ, ◌∙◌, sym, ap, subst, inl, inr, true, false, List, Some, slice_get, suc, zero, Result, Ok, Err, IfErr}
use Rattle.std.specs.Result.{IsErrAnd}
use Rattle.std.proofs.lemmas.Option.{none-some, same_Some}
use Rattle.h2_ref.specs.declared.reference.Ref.{Ref}
use Rattle.h2_ref.specs.declared.faults.Trouble.{Trouble}
use Rattle.h2_ref.specs.declared.faults.Trouble.TheVariants.{NoMemory}
use Rattle.h2_set.specs.RefSet.{RefSet}
use Rattle.h2_set.specs.Ranges.{is_indirect}
use Rattle.h2_set.specs.Forest.{loaded, told, Forest, refs, HasLeaves, done, one, near, far, LeavesOf, IsSound}
use Rattle.h2_set.specs.Calls.{Below, Walks, IsBad}
use Rattle.h2_set.specs.StayLaws.{Walks-leaves}

-- the leaves of node at are known
abbrev pub Known : Forest → ℕ → Type 0
Known f at = (l : List Ref) × LeavesOf f at l

-- no bad block stopped a call, if the leaves of node at are known
abbrev pub IsGood : Forest → ℕ → Trouble → Type 0
IsGood f at e = (l : List Ref) → LeavesOf f at l → IsBad e → ⊥

-- then it is known what is below each reference that leads on
below_known : {f : Forest} {at : ℕ} {rs l : List Ref} → HasLeaves f at rs l → (i : ℕ) (q : Ref) → slice_get rs i ≡ Some q → is_indirect q ≡ true → (b : List Ref) × Below f at q.key b
below_known done i q read ind = absurd (none-some q read)
below_known (one {r = r} leaf rest) zero q read ind = let same : r ≡ q = same_Some r q read in let clash : true ≡ false = sym ind ∙ sym (ap is_indirect same) ∙ leaf in cc
below_known (one leaf rest) (suc i) q read ind = below_known rest i q read ind
below_known {f} (near {at = at} {c = c} {r = r} {below = b} is link kids inside rest) zero q read ind =
    let same : r ≡ q = same_Some r q read in
    (b, inr (c, subst (λ (x : Ref). f.link at x.key ≡ loaded c) same link, kids))
below_known (near is link kids inside rest) (suc i) q read ind = below_known rest i q read ind
below_known {f} (far {at = at} {r = r} {below = b} is link inside rest) zero q read ind =
    let same : r ≡ q = same_Some r q read in
    (b, inl (subst (λ (x : Ref). f.link at x.key ≡ told b) same link))
below_known (far is link inside rest) (suc i) q read ind = below_known rest i q read ind

same_loaded : {d c : ℕ} → loaded d ≡ loaded c → d ≡ c
same_loaded e = cc

-- and after a walk that has loaded the child, its leaves are known
pub child_known : (f h : Forest) (at i c : ℕ) (q : Ref) → IsSound f → Walks f h → f.stands at ≡ true → slice_get (refs f at) i ≡ Some q → is_indirect q ≡ true → h.link at q.key ≡ loaded c → (l : List Ref) → LeavesOf f at l → Known h c
child_known f h at i c q sound walks stands read ind link l has =
    let read_h : slice_get (refs h at) i ≡ Some q = ap (λ (s : RefSet). slice_get s.refs i) (walks.sets at stands) ∙ read in
    let it = below_known (Walks-leaves f h sound walks at stands l has) i q read_h ind in
    elim it.1 as (λ _. Known h c) [
      | inl away ↦ let clash : told it.0 ≡ loaded c = sym away ∙ link in cc
      | inr close ↦ (it.0, subst (λ n. LeavesOf h n it.0) (same_loaded (sym close.1 ∙ link)) close.2)
    ]

-- a child that isn't loaded is told, and then not bad
pub child_good : (f : Forest) (at i : ℕ) (q : Ref) (e : Trouble) → slice_get (refs f at) i ≡ Some q → is_indirect q ≡ true → ((r : Ref) (c : ℕ) → slice_get (refs f at) i ≡ Some r → f.link at r.key ≡ loaded c → ⊥) → ((r : Ref) (b : List Ref) → slice_get (refs f at) i ≡ Some r → f.link at r.key ≡ told b → IsBad e → ⊥) → IsGood f at e
child_good f at i q e read ind unloaded good l has bad =
    let it = below_known has i q read ind in
    elim it.1 as (λ _. ⊥) [
      | inl away ↦ good q it.0 read away bad
      | inr close ↦ unloaded q close.0 read close.1
    ]

-- what is so of the child is so of the node above it
pub good_above : (f h : Forest) (at i c : ℕ) (q : Ref) → IsSound f → Walks f h → f.stands at ≡ true → slice_get (refs f at) i ≡ Some q → is_indirect q ≡ true → h.link at q.key ≡ loaded c → (e : Trouble) → IsGood h c e → IsGood f at e
good_above f h at i c q sound walks stands read ind link e good l has = let it = child_known f h at i c q sound walks stands read ind link l has in good it.0 it.1

-- and what is so after a walk was so before it
pub good_before : (f h : Forest) (at : ℕ) (e : Trouble) → IsSound f → Walks f h → f.stands at ≡ true → IsGood h at e → IsGood f at e
good_before f h at e sound walks stands good l has = good l (Walks-leaves f h sound walks at stands l has)

pub no_memory_good : (f : Forest) (at : ℕ) (e : Trouble) → e ≡ NoMemory → IsGood f at e
no_memory_good f at e is l has bad = subst IsBad is bad

-- an error that is handed on
pub carried_good : {T : Type 0} (f : Forest) (at : ℕ) (r : Result T Trouble) (e : Trouble) → IsErrAnd r (λ x. x ≡ e) → IsGood f at e → IfErr r (IsGood f at)
carried_good f at (Ok v) e same good = tt
carried_good f at (Err x) e same good = λ l has bad. good l has (subst IsBad same bad)

-- or answered as it is
pub result_good : {T : Type 0} (f h : Forest) (at c : ℕ) (r : Result T Trouble) → ((e : Trouble) → IsGood h c e → IsGood f at e) → IfErr r (IsGood h c) → IfErr r (IsGood f at)
result_good f h at c (Ok v) up good = tt
result_good f h at c (Err e) up good = up e good
