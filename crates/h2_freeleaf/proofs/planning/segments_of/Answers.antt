use Rattle.std.proofs.Common.{◌≡◌, ◌<◌, ◌+◌, ◌*◌, ℕ, List, [], length, slice_index_or, sym, ◌∙◌, arith, length-set}
use Rattle.std.proofs.lemmas.Option.{get_or_from_slice_get}
use Rattle.h2_codes.specs.declared.code.Code.{Code}
use Rattle.h2_freeleaf.proofs.Parts.{fill_more}
use Rattle.h2_freeleaf.proofs.planning.segments_of.Goals as goal

pub loop-k-preserved : goal.loop-k-preserved
loop-k-preserved c =
    let h = c.loop-k.invariant in
    let size : length c.loop-k.segments ≡ 8 = h.size in
    let below : c.loop-k.k < 8 = c.loop-k-test.true in
    let inside : c.loop-k.k < length c.loop-k.segments = omega (arith, size, below) in
    record {
      size = length-set c.loop-k.segments c.loop-k.k c.segment.result ∙ size;
      each = fill_more (λ (k : ℕ) (s : List Code). s ≡ slice_index_or c.args.m.now.segments (8 * c.args.zone + k) []) c.loop-k.segments c.segment.result c.loop-k.k inside h.each
          (sym (get_or_from_slice_get c.args.m.now.segments (8 * c.args.zone + c.loop-k.k) c.segment.result [] c.segment.ensures));
    }
