use Rattle.h2_num.specs.Places.{places, from_place}
use Rattle.h2_inode.proofs.SetLemmas.{are_refs, not_own}
use Rattle.h2_inode.proofs.contents.check_own.Goals as goal

pub returns-else-are_parts_of-clause-fault : goal.returns-else-are_parts_of-clause-fault
returns-else-are_parts_of-clause-fault c = (
  are_refs c.args.set.now.refs (from_place (places c.args.b.now) 512) c.requires.found,
  not_own c.args.kind c.args.size c.args.set.now.refs (from_place (places c.args.b.now) 512) c.requires.found (λ all. let yes = c.are_parts_of.ensures.1 all in let no = c.if-are_parts_of.false in cc),
)
