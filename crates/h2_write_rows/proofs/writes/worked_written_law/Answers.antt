use Rattle.std.proofs.Common.{◌≡◌, ◌<◌, ℕ, max, length, arith, ◌∙◌, refl, get_or}
use Rattle.std.proofs.lemmas.List.{get_or-replicate, length-replicate}
use Rattle.h2_contents.specs.ByteLaws.{byte_written, length-written_at}
use Rattle.h2_write_rows.specs.Writes.{ones, written}
use Rattle.h2_write_rows.proofs.writes.worked_written_law.Goals as goal

one_at : (k : ℕ) → k < 20000 → get_or ones k 0 ≡ 1
one_at k lt = get_or-replicate 20000 k 1 0 lt

longest : (n : ℕ) → n ≡ 20000 → max n 16386 ≡ 20000
longest n e = omega arith

pub returns : goal.returns
returns c = record {
  inside = refl;
  over_end = refl;
  over_hole = refl;
  nothing = refl;
  long = length-written_at ones 16382 written (omega arith) ∙ longest (length ones) (length-replicate {A = ℕ} 20000 1);
  last_kept = byte_written ones 16382 written 16381 ∙ one_at 16381 (omega arith);
  in_first = byte_written ones 16382 written 16383;
  in_second = byte_written ones 16382 written 16384;
  next_kept = byte_written ones 16382 written 16386 ∙ one_at 16386 (omega arith);
}
