use Rattle.std.proofs.Common.{◌≡◌, ◌≤◌, ◌-◌, length, take}
use Rattle.std.specs.Ordering.{nat_cmp}
use Rattle.std.specs.BTreeMap.{get}
use Rattle.h2_num.specs.Places.{Lays}
use Rattle.h2_disk.specs.Pages.{page_byte}
use Rattle.h2_disk.proofs.pages.Pages.lay.Given as goal

abbrev pub invariant-loop-done : goal.invariant-loop-done
invariant-loop-done l = record {
  within : l.done ≤ length l.bytes;
  starts : l.self.starts ≡ l.initial.self.starts;
  laid : Lays l.at (take l.done l.bytes) (page_byte (get nat_cmp l.initial.self.starts) l.initial.self.bytes.items) (page_byte (get nat_cmp l.self.starts) l.self.bytes.items);
}

abbrev pub decreases-loop-done : goal.decreases-loop-done
decreases-loop-done l = length l.bytes - l.done
