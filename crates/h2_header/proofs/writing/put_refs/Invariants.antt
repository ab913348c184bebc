use Rattle.std.proofs.Common.{ℕ, ◌<◌, ◌*◌, slice_index_or}
use Rattle.h2_num.specs.Places.{places, from_place, SameOutside}
use Rattle.h2_ref.specs.declared.reference.Ref.{Ref}
use Rattle.h2_ref.specs.Ref.{RefBytes}
use Rattle.h2_header.proofs.writing.put_refs.Given as goal

abbrev pub invariant-loop-i : goal.invariant-loop-i
invariant-loop-i l = record {
  bytes : (i : ℕ) (d : Ref) → i < l.i → RefBytes (slice_index_or l.refs i d) (from_place (from_place (places l.out) l.at) (128 * i));
  others : SameOutside l.at (128 * l.i) (places l.fn.out) (places l.out);
}
