use Rattle.std.proofs.Common.{◌≡◌, ◌<◌, length, arith, rules}
use Rattle.std.proofs.lemmas.List.{get_or_default}
use Rattle.h2_num.specs.Places.{places}
use Rattle.h2_codes.specs.Codes.{IsSegment}
use Rattle.h2_freeleaf.specs.Leaf.{PartBytes}
use Rattle.h2_freeleaf.specs.LeafLaws.{PartBytes-same}
use Rattle.h2_freeleaf.proofs.Parts.{put_more, all_more}
use Rattle.h2_freeleaf.proofs.leaf.encode_leaf.Goals as goal

pub loop-i-preserved : goal.loop-i-preserved
loop-i-preserved c =
    let len : length c.args.s.now ≡ 8 = search rules in
    let below : c.loop-i.i < 8 = c.loop-i-test.true in
    let inside : c.loop-i.i < length c.args.s.now = omega (arith, len, below) in
    record {
      size = search rules;
      each = all_more IsSegment c.args.s.now _ c.loop-i.i (λ d. get_or_default c.args.s.now c.loop-i.i d _ inside) c.loop-i.invariant.each c.put_part.ensures.chunks;
      bytes = put_more PartBytes PartBytes-same c.args.s.now _ c.loop-i.i (places c.loop-i.out) (places c.put_part.new.out) (λ d. get_or_default c.args.s.now c.loop-i.i d _ inside)
          c.loop-i.invariant.bytes c.put_part.ensures.bytes c.put_part.ensures.others;
    }
