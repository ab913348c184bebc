use Rattle.std.proofs.Common.{◌≡◌, ◌<◌, ◌+◌, ◌*◌, ℕ, List, [], length, slice_index_or}
use Rattle.h2_codes.specs.declared.code.Code.{Code}
use Rattle.h2_freeleaf.proofs.planning.segments_of.Given as goal

abbrev pub invariant-loop-k : goal.invariant-loop-k
invariant-loop-k l = record {
  size : length l.segments ≡ 8;
  each : (k : ℕ) (d : List Code) → k < l.k → slice_index_or l.segments k d ≡ slice_index_or l.m.segments (8 * l.zone + k) [];
}
