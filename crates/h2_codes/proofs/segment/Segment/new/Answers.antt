use Rattle.h2_codes.proofs.segment.Segment.new.Goals as goal

pub returns-then-reserved : goal.returns-then-reserved
returns-then-reserved c = rw c.if-reserved.true c.all_reserved.ensures

pub returns-else-reserved : goal.returns-else-reserved
returns-else-reserved c = rw c.if-reserved.false c.all_free.ensures
