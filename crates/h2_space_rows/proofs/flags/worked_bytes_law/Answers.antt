use Rattle.std.proofs.Common.{◌<◌, ℕ, zero, suc, [], ◌∷◌, arith, refl}
use Rattle.std.specs.Prelude.{slice_index}
use Rattle.h2_space_rows.proofs.flags.worked_bytes_law.Goals as goal

is_byte : (k : ℕ) → slice_index (255 ∷ []) k < 256
is_byte zero = let lt : 255 < 256 = omega arith in lt
is_byte (suc k) = let lt : 0 < 256 = omega arith in lt

pub returns : goal.returns
returns c = record {
  flags = refl;
  flagged = refl;
  too_few = refl;
  codes = refl;
  coded = refl;
  is_byte = is_byte;
  not_byte = λ all. absurd (let lt : 256 < 256 = all 0 in omega arith);
}
