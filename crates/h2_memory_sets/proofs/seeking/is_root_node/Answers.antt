use Rattle.h2_memory_sets.proofs.seeking.is_root_node.Goals as goal

pub returns-clause-fits : goal.returns-clause-fits
returns-clause-fits c = λ e. record {
  set = c.all_fit_in.ensures.set;
  capacity = c.has_root_room.ensures.0 c.if-not-has_root_room.false;
  number = c.has_number.ensures.0 c.if-not-has_number.false;
  inode = c.is_valid.ensures.0 c.if-not-is_valid.false;
  fits = c.all_fit_in.ensures.fits e;
}
