-- Facts of each member of a list, one more at a time.
use Rattle.std.proofs.Common.{ℕ, ◌≡◌, ◌⊎◌, ◌+◌, ◌<◌, List, length, slice_index_or, inl, inr, arith}
use Rattle.std.proofs.lemmas.Bool.{cases_eq}
use Rattle.std.proofs.lemmas.List.{get_or_default}

pub one_more_member : {X : Type 0} (Q : X → Type 0) (xs : List X) (n : ℕ) (e : X) → n < length xs → Q (slice_index_or xs n e)
    → ((k : ℕ) (d : X) → k < n → Q (slice_index_or xs k d)) → (k : ℕ) (d : X) → k < n + 1 → Q (slice_index_or xs k d)
one_more_member Q xs n e lt here before k d below = split (cases_eq k n)
  where
    split : (k ≡ n) ⊎ (k ≡ n → ⊥) → Q (slice_index_or xs k d)
    split (inl same) = rw (same, get_or_default xs n d e lt) here
    split (inr ne) = before k d (omega arith)
