-- The front of references that are a set, one by one.
use Rattle.std.specs.Prelude.{◌≡◌, ◌<◌, ◌≤◌, ℕ, zero, suc, ◌+◌, ◌^◌, List, [], ◌∷◌, ◌++◌, length, take, slice_index_or, None, ◌↔◌}
use Rattle.std.proofs.Common.{ap, sym, ◌∙◌, refl, arith, inl, inr, subst}
use Rattle.std.proofs.Math.ListN.{get_or-append}
use Rattle.std.proofs.Math.Seq.{get_or-append_seam}
use Rattle.std.proofs.lemmas.Bool.{cases_lt}
use Rattle.std.proofs.lemmas.List.{append-nil, length-append, ext_get_or, get_or-take, length-take-le}
use Rattle.h2_num.specs.Places.{Places}
use Rattle.h2_ref.specs.declared.reference.Kind.TheVariants.{Empty}
use Rattle.h2_ref.specs.declared.reference.Ref.{Ref}
use Rattle.h2_ref.specs.Ref.{RefBytes, IsValid, empty_ref}
use Rattle.h2_ref.specs.Spelling.{one_value}
use Rattle.h2_ref.specs.Fault.{first_fault}
use Rattle.h2_set.specs.declared.set.PutAnswer.{PutAnswer}
use Rattle.h2_set.specs.declared.set.PutAnswer.TheVariants.{Placed, Full}
use Rattle.h2_set.specs.Ranges.{Rising, limit, put, IsApart}
use Rattle.h2_set.specs.RefSet.{RefSet}
use Rattle.h2_set.specs.SplitLaws.{below_high}
use Rattle.h2_set.specs.ChangeLaws.{put-append_right}
use Rattle.h2_set.specs.declared.set_decoding.SetFault.{SetFault}
use Rattle.h2_set.specs.declared.set_decoding.SetFault.TheVariants.{Reference, Shape}
use Rattle.h2_set.specs.SetBytes.{slot, IsHeld, IsSetAt, IsFaultOf}
use Rattle.h2_set.specs.ValidLaws.{valid_empty, number_zero}
use Rattle.h2_set.specs.Front.{Extends, FrontAt, IsFront, EmptyFrom, SomeFrom, IsRestFault}

-- what holds of each place of a list and of one more
one_more : (P : ℕ → Ref → Type 0) (xs : List Ref) (r : Ref) → ((i : ℕ) (d : Ref) → i < length xs → P i (slice_index_or xs i d)) → P (length xs) r
    → (i : ℕ) (d : Ref) → i < length (xs ++ r ∷ []) → P i (slice_index_or (xs ++ r ∷ []) i d)
one_more P xs r all last i d lt = elim (cases_lt i (length xs)) [
  | inl inside ↦ subst (P i) (sym (get_or-append xs (r ∷ []) d i inside)) (all i d inside)
  | inr past ↦
      let here : i ≡ length xs = omega (arith, length-append {A = Ref} xs (r ∷ [])) in
      subst (λ j. P j (slice_index_or (xs ++ r ∷ []) j d)) (sym here) (subst (P (length xs)) (sym (get_or-append_seam xs r [] d)) last)
]

-- it is put at the end
put_last : (r : Ref) (refs : List Ref) → Rising 0 r.key refs → put r refs ≡ refs ++ r ∷ []
put_last r refs rising = ap (put r) (sym (append-nil refs)) ∙ put-append_right r 0 r.key refs [] rising (omega arith)

-- it is apart from the others
pub apart_last : (r : Ref) (refs : List Ref) → Rising 0 r.key refs → IsApart r refs
apart_last r refs rising = λ i q get. inr (below_high 0 r.key refs i q rising get)

pub front_more : (r : Ref) (refs : List Ref) (b : Places) → FrontAt refs b → IsValid r → RefBytes r (slot b (length refs)) → first_fault (slot b (length refs)) ≡ None → Extends r refs → FrontAt (put r refs) b
front_more r refs b f valid there decoded more = subst (λ l. FrontAt l b) (sym (put_last r refs more.1)) (record {
  held = one_more (λ i x. IsHeld x) refs r f.held (record { valid = valid; something = more.0 });
  each = one_more (λ i x. RefBytes x (slot b i)) refs r f.each there;
  decoded = λ i lt. elim (cases_lt i (length refs)) [
    | inl inside ↦ f.decoded i inside
    | inr past ↦ let here : i ≡ length refs = omega (arith, length-append {A = Ref} refs (r ∷ [])) in rw here decoded
  ];
})

pub length_more : (r : Ref) (refs : List Ref) → Rising 0 r.key refs → length (put r refs) ≡ length refs + 1
length_more r refs rising = ap length (put_last r refs rising) ∙ length-append refs (r ∷ [])

-- nothing but Full and Placed
pub placed_if : (a : PutAnswer) → (a ≡ Full → ⊥) → a ≡ Placed
placed_if Placed not_full = refl
placed_if Full not_full = absurd (not_full refl)

pub front_none : (b : Places) → FrontAt [] b
front_none b = record { held = λ i d lt. absurd (omega arith); each = λ i d lt. absurd (omega arith); decoded = λ i lt. absurd (omega arith) }

-- the front with one more
pub front_step : (cap i : ℕ) (r : Ref) (old new : RefSet) (answer : PutAnswer) (b : Places) → old.capacity ≡ cap → length old.refs ≡ i → i < cap
    → FrontAt old.refs b → IsValid r × RefBytes r (slot b i) → first_fault (slot b i) ≡ None → Extends r old.refs
    → (answer ≡ Full) ↔ (length old.refs ≡ old.capacity) → (answer ≡ Placed → new ≡ record old { refs = put r old.refs })
    → (new.capacity ≡ cap) × (length new.refs ≡ i + 1) × FrontAt new.refs b
front_step cap i r old new answer b capacity len lt front valid decoded more full placed =
    let not_full : answer ≡ Full → ⊥ = λ e. let all = full.0 e in omega arith in
    let is = placed (placed_if answer not_full) in
    let refs_are : new.refs ≡ put r old.refs = ap (λ s. s.refs) is in (
      ap (λ s. s.capacity) is ∙ capacity,
      ap length refs_are ∙ length_more r old.refs more.1 ∙ ap (λ n. n + 1) len,
      subst (λ l. FrontAt l b) (sym refs_are) (front_more r old.refs b front valid.0 (subst (λ j. RefBytes r (slot b j)) (sym len) valid.1) (subst (λ j. first_fault (slot b j) ≡ None) (sym len) decoded) more),
    )

-- a reference of kind Empty is the empty one, in its bytes
pub nothing_there : (r : Ref) (b : Places) → IsValid r × RefBytes r b → r.kind ≡ Empty → RefBytes empty_ref b
nothing_there r b h kind = subst (λ x. RefBytes x b) (valid_empty r h.0 kind) h.1

-- the references up to a place end before the one that stands there
rising_take : (low high m : ℕ) (ss : List Ref) (d : Ref) → Rising low high ss → m < length ss → Rising low (slice_index_or ss m d).key (take m ss)
rising_take low high m [] d h lt = absurd (omega arith)
rising_take low high zero (s ∷ ss) d h lt = h.0
rising_take low high (suc m) (s ∷ ss) d h lt = (h.0, rising_take (limit s) high m ss d h.1 (omega arith))

-- references of a set that has more begin with those of a front
begins : (n : ℕ) (refs ss : List Ref) (b : Places) → FrontAt refs b → IsSetAt n ss b → length refs ≤ length ss → take (length refs) ss ≡ refs
begins n refs ss b f at le = ext_get_or empty_ref (take (length refs) ss) refs (length-take-le (length refs) ss le) (λ i lt.
    let inside : i < length refs = omega (arith, length-take-le (length refs) ss le) in
    get_or-take (length refs) ss i empty_ref inside
    ∙ one_value (slice_index_or refs i empty_ref) (slice_index_or ss i empty_ref) (slot b i) (f.held i empty_ref inside).valid (at.held i empty_ref (omega arith)).valid (f.each i empty_ref inside) (at.bytes.each i empty_ref (omega arith)))

-- where a front stops and something comes behind, there is no set
no_set : (n : ℕ) (refs ss : List Ref) (b : Places) → IsFront n refs b → SomeFrom (length refs) n b → IsSetAt n ss b → ⊥
no_set n refs ss b f (k, ge, lt, r, held, there) at = elim (cases_lt k (length ss)) [
  | inl inside ↦
      let fits = at.bytes.fits in
      let m = length refs in
      let stop = f.stop (omega arith) in
      let same : slice_index_or ss m empty_ref ≡ stop.0 = one_value stop.0 (slice_index_or ss m empty_ref) (slot b m) stop.1 (at.held m empty_ref (omega arith)).valid stop.2 (at.bytes.each m empty_ref (omega arith)) in
      let rises = rising_take 0 (2 ^ 64) m ss empty_ref at.rising (omega arith) in
      stop.3 (λ e. (at.held m empty_ref (omega arith)).something (ap (λ x. x.kind) same ∙ e), subst (λ x. Rising 0 x.key refs) same (subst (λ l. Rising 0 (slice_index_or ss m empty_ref).key l) (begins n refs ss b f.front at (omega arith)) rises))
  | inr past ↦ held.something (number_zero r.kind (sym there.fields.kind ∙ (at.bytes.empty k past lt).fields.kind))
]

-- what is at fault behind a front is at fault in all
pub rest_fault : (n from : ℕ) (refs : List Ref) (b : Places) (f : SetFault) → IsFront n refs b → from ≡ length refs → IsRestFault from n b f → IsFaultOf n b f
rest_fault n from refs b (Reference at fault) front e h = h
rest_fault n from refs b Shape front e h = (h.0, λ ss at. no_set n refs ss b front (subst (λ m. SomeFrom m n b) e h.1) at)

-- a front with empty references behind it is a set
pub front_found : (n from : ℕ) (refs : List Ref) (b : Places) → IsFront n refs b → from ≡ length refs → Rising 0 (2 ^ 64) refs → EmptyFrom from n b → IsSetAt n refs b
front_found n from refs b front e rising empty = record {
  held = front.front.held;
  rising = rising;
  bytes = record { fits = front.fits; each = front.front.each; empty = subst (λ m. EmptyFrom m n b) e empty };
}

-- so they are, however the numbers are written
pub fault_at : (m n from : ℕ) (refs : List Ref) (b : Places) (f : SetFault) → IsFront n refs b → n ≡ m → from ≡ length refs → IsRestFault from m b f → IsFaultOf m b f
fault_at m n from refs b f front same e h = rest_fault m from refs b f (subst (λ x. IsFront x refs b) same front) e h

pub found_at : (cap m n from : ℕ) (refs : List Ref) (b : Places) → IsFront n refs b → cap ≡ n → n ≡ m → from ≡ length refs → Rising 0 (2 ^ 64) refs → EmptyFrom from m b → IsSetAt cap refs b
found_at cap m n from refs b front is same e rising empty =
    subst (λ x. IsSetAt x refs b) (sym (is ∙ same)) (front_found m from refs b (subst (λ x. IsFront x refs b) same front) e rising empty)
