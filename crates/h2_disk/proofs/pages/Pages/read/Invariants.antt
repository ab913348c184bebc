use Rattle.std.proofs.Common.{◌≤◌, ◌-◌, length}
use Rattle.std.specs.Ordering.{nat_cmp}
use Rattle.std.specs.BTreeMap.{get}
use Rattle.h2_num.specs.Places.{places, from_place, SameBelow}
use Rattle.h2_disk.specs.Pages.{page_byte}
use Rattle.h2_disk.proofs.pages.Pages.read.Given as goal

abbrev pub invariant-loop-done : goal.invariant-loop-done
invariant-loop-done l = record {
  within : l.done ≤ length l.buf;
  filled : SameBelow l.done (from_place (page_byte (get nat_cmp l.self.starts) l.self.bytes.items) l.at) (places l.buf);
}

abbrev pub decreases-loop-done : goal.decreases-loop-done
decreases-loop-done l = length l.initial.buf - l.done
