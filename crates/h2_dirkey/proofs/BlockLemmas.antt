-- The block of a long name, as the name and zeros behind it.
use Rattle.std.specs.Prelude.{◌≡◌, ◌≤◌, ℕ, ◌+◌, List, length, replicate}
use Rattle.std.proofs.Common.{ap, sym, ◌∙◌, arith, inl, inr}
use Rattle.std.proofs.lemmas.Bool.{cases_lt}
use Rattle.std.proofs.lemmas.List.{get_or_past}
use Rattle.h2_num.specs.Places.{Places, places, Lays}
use Rattle.h2_dirkey.specs.Block.{NameBytes}
use Rattle.h2_dirkey.proofs.MarkLemmas.{zeros_at}

-- a name laid over zeros
pub laid : (name : List ℕ) (b : Places) → 65 ≤ length name → length name ≤ 255 → Lays 0 name (places (replicate 1024 0)) b → NameBytes name b
laid name b long few lays = record {
  long = long;
  few = few;
  bytes = λ k lt. elim (cases_lt k (length name)) [
    | inl inside ↦ let at : k ≡ 0 + k = omega arith in ap b at ∙ lays.inside k inside
    | inr past ↦ lays.others.after k (omega arith) ∙ zeros_at 1024 k ∙ sym (get_or_past name k 0 past)
  ];
}
