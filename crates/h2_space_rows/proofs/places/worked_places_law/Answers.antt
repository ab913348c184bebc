use Rattle.std.proofs.Common.{◌<◌, ◌≤◌, ◌⊎◌, arith, inl, inr, refl}
use Rattle.h2_space_rows.proofs.places.worked_places_law.Goals as goal

over : (66560 ≤ 66559) ⊎ (67583 ≤ 65536) → ⊥
over (inl le) = absurd (let f : 66560 ≤ 66559 = le in omega arith)
over (inr le) = absurd (let f : 67583 ≤ 65536 = le in omega arith)

first_behind : 66560 ≤ 66560
first_behind = omega arith

in_segment : 255 < 256
in_segment = omega arith

pub returns : goal.returns
returns c = record {
  slot = refl;
  first_turn = refl;
  last_turn = refl;
  next_round = refl;
  leaf = refl;
  node = refl;
  top = refl;
  last_leaf = record { in_levels = omega arith; in_zones = omega arith; in_copies = omega arith };
  last_node = record { in_levels = omega arith; in_zones = omega arith; in_copies = omega arith };
  not_level = λ is. absurd (let lt : 3 < 3 = is.in_levels in omega arith);
  not_zone = λ is. absurd (let lt : 512 < 512 = is.in_zones in omega arith);
  not_copy = λ is. absurd (let lt : 4 < 4 = is.in_copies in omega arith);
  apart = inl first_behind;
  not_apart = over;
  reserved = in_segment;
  not_reserved = λ lt. absurd (let f : 256 < 256 = lt in omega arith);
}
