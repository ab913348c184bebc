use Rattle.std.proofs.Common.{◌≡◌, ◌<◌, ◌≤◌, ◌*◌, ℕ, take, length}
use Rattle.h2_codes.specs.declared.code.Code.TheVariants.{Staged, Used}
use Rattle.h2_codes.specs.Codes.{code_at}
use Rattle.h2_codes.specs.Seen.{has_chunk}
use Rattle.h2_codes.specs.Bulkfree.{swept_code, count_unseen}
use Rattle.h2_codes.specs.Packed.{codes_in, AllBytes}
use Rattle.h2_codes.proofs.segment.Segment.apply.Given as goal

abbrev pub invariant-loop-j : goal.invariant-loop-j
invariant-loop-j l = record {
  size : length l.self-inside.codes ≡ 64;
  bytes : AllBytes l.self-inside.codes;
  below : (c : ℕ) → c < 32 * l.j → code_at (codes_in l.self-inside.codes) c ≡ swept_code (has_chunk l.seen c) (code_at (codes_in l.initial.self-inside.codes) c);
  above : (c : ℕ) → 32 * l.j ≤ c → c < 256 → code_at (codes_in l.self-inside.codes) c ≡ code_at (codes_in l.initial.self-inside.codes) c;
  staged : l.staged ≡ count_unseen Used (take (32 * l.j) (codes_in l.initial.self-inside.codes)) l.seen;
  freed : l.freed ≡ count_unseen Staged (take (32 * l.j) (codes_in l.initial.self-inside.codes)) l.seen;
  kept : l.self-inside.free ≡ l.initial.self-inside.free;
  bounds : (l.staged ≤ 32 * l.j) × (l.freed ≤ 32 * l.j);
}
