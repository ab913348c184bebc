use Rattle.std.proofs.Common.{◌≡◌, ◌*◌, [], slice_index_or, refl, ap, arith, subst, List}
use Rattle.std.proofs.lemmas.List.{get_or_read}
use Rattle.std.proofs.lemmas.List.Elements.{AllWithin-none, AllWithin-more}
use Rattle.h2_codes.specs.Codes.{IsSegment, count_of}
use Rattle.h2_codes.specs.declared.code.Code.{Code}
use Rattle.h2_codes.specs.declared.code.Code.TheVariants.{Free}
use Rattle.h2_freemap.specs.Space.{code_in}
use Rattle.h2_codes.specs.Free.{free_below}
use Rattle.h2_freemap.proofs.SegmentCodes.{count_more, free_at_most}
use Rattle.h2_freemap.proofs.search.count_free.Goals as goal

pub loop-segment-init : goal.loop-segment-init
unfolding free_below
loop-segment-init c = record { count = refl; segments = AllWithin-none IsSegment c.args.segments.now 0 }

pub overflow_add-free : goal.overflow_add-free
overflow_add-free c = omega (arith, free_at_most (code_in c.args.segments.now) (256 * c.loop-segment.segment-index))

pub loop-segment-preserved : goal.loop-segment-preserved
loop-segment-preserved c =
    let read : (d : List Code) → c.segment-item.result ≡ slice_index_or c.args.segments.now c.loop-segment.segment-index d = get_or_read c.args.segments.now c.loop-segment.segment-index c.segment-item.result c.loop-segment-test.true c.segment-item.is in
    let whole : (d : List Code) → IsSegment (slice_index_or c.args.segments.now c.loop-segment.segment-index d) = λ d. subst IsSegment (read d) c.free.ensures.chunks in
    let counted : count_of Free c.segment-item.result ≡ count_of Free (slice_index_or c.args.segments.now c.loop-segment.segment-index []) = ap (count_of Free) (read []) in
    record {
      count = omega (arith, count_more c.args.segments.now c.loop-segment.segment-index (whole []));
      segments = AllWithin-more IsSegment c.args.segments.now 0 c.loop-segment.segment-index c.loop-segment.invariant.segments whole;
    }
