-- The first padding of a reference, found gap by gap.
use Rattle.std.proofs.Common.{◌≡◌, ◌<◌, ◌≤◌, ℕ, ◌+◌, sym, arith}
use Rattle.std.specs.Prelude.{Option, Some, None, MatchOption}
use Rattle.h2_num.specs.Places.{Places, ZeroIn}
use Rattle.h2_ref.specs.declared.table.Span.{Span}
use Rattle.h2_ref.specs.declared.table.Row.{Row}
use Rattle.h2_ref.specs.Fault.{area_len_at, fields_end_at, first_place, is_padding}
use Rattle.h2_ref.specs.Padding.{must_before_key, must_before_area, must_behind, no_padding_below, padding_found}

-- the fields end behind the key
end_behind_key : (names : Option Span) → 16 ≤ fields_end_at names
end_behind_key None = omega arith
end_behind_key (Some s) = omega arith

module _ (w : Row) (b : Places) where
  -- a nonzero byte before the key
  pub padding_before_key : (k : ℕ) → 4 ≤ k → k < 8 → 0 < b k → ZeroIn 4 k b → Some k ≡ first_place (is_padding w b) 128
  padding_before_key k ge lt above zeros =
      let behind_key = end_behind_key w.names in
      sym (padding_found w b 128 k
      record { in_key = λ j from below before. zeros j from before; in_area = λ j from below before. absurd (omega arith); in_tail = λ j from before. absurd (omega arith) }
      (must_before_key w b k ge lt) above (omega arith))

  -- the first nonzero byte between the fields and the check area
  pub padding_before_area : (k : ℕ) → ZeroIn 4 8 b → fields_end_at w.names ≤ k → k < 64 → 0 < b k → ZeroIn (fields_end_at w.names) k b → Some k ≡ first_place (is_padding w b) 128
  padding_before_area k low ge lt above zeros =
      sym (padding_found w b 128 k
      record { in_key = λ j from below before. low j from below; in_area = λ j from below before. zeros j from before; in_tail = λ j from before. absurd (omega arith) }
      (must_before_area w b k ge lt) above (omega arith))

  -- the first nonzero byte behind what is in use of the check area, or none
  pub padding_behind : (o : Option ℕ) → ZeroIn 4 8 b → ZeroIn (fields_end_at w.names) 64 b
      → MatchOption o (ZeroIn (64 + area_len_at w w.names b) 128 b) (λ at. (64 + area_len_at w w.names b ≤ at) × (at < 128) × (0 < b at) × ZeroIn (64 + area_len_at w w.names b) at b)
      → o ≡ first_place (is_padding w b) 128
  padding_behind None low middle zeros =
      sym (no_padding_below w b 128 record { in_key = λ j from below before. low j from below; in_area = λ j from below before. middle j from below; in_tail = λ j from before. zeros j from before })
  padding_behind (Some k) low middle h =
      sym (padding_found w b 128 k
      record { in_key = λ j from below before. low j from below; in_area = λ j from below before. middle j from below; in_tail = λ j from before. h.3 j from before }
      (must_behind w b k h.0) h.2 h.1)
