-- A name and the zeros behind it.
use Rattle.std.specs.Prelude.{◌≡◌, ◌<◌, ◌≤◌, ℕ, ◌+◌, ◌-◌, List, ◌++◌, replicate, length}
use Rattle.std.proofs.Common.{ap, sym, ◌∙◌, arith, inl, inr, length-append, get_or}
use Rattle.std.proofs.lemmas.Bool.{cases_lt}
use Rattle.std.proofs.lemmas.List.{ext_get_or, get_or_append_left, get_or-append_right, length-replicate}
use Rattle.h2_num.specs.Places.{places, Lays}
use Rattle.h2_ref.specs.Spelled.{zeros_at}

abbrev zeros : ℕ → List ℕ
zeros n = replicate n 0

abbrev get_or_zero : List ℕ → ℕ → ℕ
get_or_zero xs k = get_or {A = ℕ} xs k 0

same_length : (name new : List ℕ) → length name ≤ 64 → length new ≡ 64 → length new ≡ length (name ++ zeros (64 - length name))
same_length name new few long =
    let e : length (name ++ zeros (64 - length name)) ≡ length name + length (zeros (64 - length name)) = length-append name (zeros (64 - length name)) in
    let n : length (zeros (64 - length name)) ≡ 64 - length name = length-replicate {A = ℕ} (64 - length name) 0 in
    omega arith

pub area_is : (name new : List ℕ) → length name ≤ 64 → length new ≡ length (zeros 64) → Lays 0 name (places (zeros 64)) (places new) → new ≡ name ++ zeros (64 - length name)
area_is name new few long lays = ext_get_or {A = ℕ} 0 new (name ++ zeros (64 - length name)) (same_length name new few (long ∙ length-replicate {A = ℕ} 64 0)) each
  where
    each : (k : ℕ) → k < length new → get_or {A = ℕ} new k 0 ≡ get_or {A = ℕ} (name ++ zeros (64 - length name)) k 0
    each k lt = elim (cases_lt k (length name)) as (λ _. get_or {A = ℕ} new k 0 ≡ get_or {A = ℕ} (name ++ zeros (64 - length name)) k 0) [
      | inl inside ↦ let start : k ≡ 0 + k = omega arith in ap (get_or_zero new) start ∙ lays.inside k inside ∙ sym (get_or_append_left {A = ℕ} name (zeros (64 - length name)) 0 k inside)
      | inr behind ↦ let back : 0 + length name ≤ k = omega (arith, behind) in lays.others.after k back ∙ zeros_at 64 k ∙ sym (zeros_at (64 - length name) (k - length name)) ∙ sym (get_or-append_right {X = ℕ} name (zeros (64 - length name)) (length name) k 0 (λ i. length name) behind)
    ]
