-- A format by which the demands on formats are tried.
use Rattle.std.specs.Prelude.{◌≡◌, ℕ, ◌+◌, [], ◌∷◌}
use Rattle.h2_geom.specs.Places.{header_bytes}
use Rattle.h2_checkpoint.specs.Format.{Format}
use Rattle.h2_checkpoint.specs.Toy.{ToyHeader, IsToyHeader}

-- the small format, but for its blocks of one byte, which lead on by the byte behind them
abbrev pub leading_past_end : Format
leading_past_end = record {
  Ref = ℕ;
  Header = ToyHeader;
  Forest = ℕ;
  place = λ r. r;
  size = λ r. 1;
  Child = λ r b s. header_bytes + b 1 ≡ s;
  HeaderAt = IsToyHeader;
  number = λ h. h.number;
  roots = λ h. h.place ∷ [];
  Stands = λ image h forest. image h.place ≡ forest;
}
