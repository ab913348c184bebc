use Rattle.std.proofs.Common.{◌≡◌, ◌<◌, ◌+◌, ◌*◌, ℕ, length, slice_index_or}
use Rattle.h2_ref.specs.declared.reference.Ref.{Ref}
use Rattle.h2_ref.specs.Ref.{empty_ref, IsValid}
use Rattle.h2_freeleaf.proofs.planning.eight_of.Given as goal

abbrev pub invariant-loop-k : goal.invariant-loop-k
invariant-loop-k l = record {
  size : length l.eight ≡ 8;
  each : (k : ℕ) (d : Ref) → k < l.k → (slice_index_or l.eight k d ≡ slice_index_or l.refs (8 * l.i + k) empty_ref) × IsValid (slice_index_or l.eight k d);
}
