use Rattle.std.proofs.Common.{◌/◌}
use Rattle.std.specs.Ordering.{nat_cmp}
use Rattle.std.specs.BTreeMap.{get}
use Rattle.h2_num.specs.Places.{Same}
use Rattle.h2_disk.specs.Pages.{page_byte, HasPagesBetween}
use Rattle.h2_disk.proofs.pages.Pages.keep_pages.Given as goal

abbrev pub invariant-loop-page : goal.invariant-loop-page
invariant-loop-page l = record {
  kept : HasPagesBetween (get nat_cmp l.self.starts) (l.at / 16384) l.page;
  same : Same (page_byte (get nat_cmp l.initial.self.starts) l.initial.self.bytes.items) (page_byte (get nat_cmp l.self.starts) l.self.bytes.items);
}
