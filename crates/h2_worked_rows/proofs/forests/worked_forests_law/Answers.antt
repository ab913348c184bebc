use Rattle.std.proofs.Common.{◌<◌, arith}
use Rattle.h2_consistent.specs.Consistent.{IsConsistent}
use Rattle.h2_consistent.specs.Example.{two_names, names_nothing}
use Rattle.h2_worked_rows.specs.Forests.{pfs_of}
use Rattle.h2_worked_rows.proofs.Lists.{all_none, all_one}
use Rattle.h2_worked_rows.proofs.forests.worked_forests_law.Goals as goal

pub returns : goal.returns
returns c = record {
  consistent = all_one IsConsistent (pfs_of 1 97 3 (two_names 2)) c.example_law.ensures.two_links;
  none = all_none IsConsistent;
  wrong_links = λ all. let lt : 0 < 1 = omega arith in c.example_law.ensures.one_link (all 0 (pfs_of 1 97 3 (two_names 1)) lt);
  second_wrong = λ all. let lt : 1 < 2 = omega arith in c.example_law.ensures.dangling (all 1 (pfs_of 2 98 3 names_nothing) lt);
  next_in_use = c.example_law.ensures.next_number;
}
