use Rattle.std.proofs.Common.{arith, sym, ◌∙◌}
use Rattle.std.proofs.lemmas.List.{get_or_past}
use Rattle.std.proofs.lemmas.Option.{get_or_from_slice_get}
use Rattle.h2_num.specs.Places.{places}
use Rattle.h2_ref.specs.Ref.{empty_ref}
use Rattle.h2_set.proofs.Slots.{written_more, written_set}
use Rattle.h2_set.proofs.set_encoding.encode_set.Goals as goal

pub loop-i-preserved : goal.loop-i-preserved
loop-i-preserved c =
    written_more c.loop-i.i c.args.s.now.refs c.at.result.now (places c.loop-i.out) (places c.put_slot.new.out) c.loop-i.invariant c.put_slot.ensures
    (get_or_from_slice_get c.args.s.now.refs c.loop-i.i c.at.result.now empty_ref c.at.ensures)

pub loop-i-2-preserved : goal.loop-i-2-preserved
loop-i-2-preserved c =
    written_more c.loop-i-2.i c.args.s.now.refs c.empty.result (places c.loop-i-2.out) (places c.put_slot-in-loop-i-2.new.out) c.loop-i-2.invariant c.put_slot-in-loop-i-2.ensures
    (get_or_past c.args.s.now.refs c.loop-i-2.i empty_ref (omega arith) ∙ sym c.empty.ensures)

pub returns : goal.returns
returns c = written_set c.args.s.now.capacity c.args.s.now.refs (places c.loop-i-2.out) c.len-i.ensures.set.fits (λ i lt. c.loop-i-2.invariant i (omega arith))
