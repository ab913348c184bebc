use Rattle.std.proofs.Common.{◌≡◌, take}
use Rattle.h2_forest.specs.Forest.{closed}
use Rattle.h2_forest.specs.History.{after, after_item, RepliesAreRight}
use Rattle.h2_forest.proofs.replaying.replay.Given as goal

abbrev pub invariant-loop-item : goal.invariant-loop-item
invariant-loop-item l = record {
  place : l.at ≡ l.item-index;
  forest_is : l.forest ≡ after after_item (closed l.fn.start) (take l.item-index l.item-items);
  right : RepliesAreRight l.fn.start (take l.item-index l.item-items);
}
