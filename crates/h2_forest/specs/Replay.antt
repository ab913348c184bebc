-- What a replay tells of a history.
use Rattle.std.specs.Prelude.{List, take, slice_get, Option, Some, None}
use Rattle.h2_command.specs.declared.history.Item.{Item}
use Rattle.h2_forest.specs.declared.replay_result.Replay.{Replay}
use Rattle.h2_forest.specs.declared.replay_result.Replay.TheVariants.{Same, Differs}
use Rattle.h2_forest.specs.Forest.{PlainForest}
use Rattle.h2_forest.specs.History.{RepliesAreRight, IsRight, forest_at}

-- there is an item, and its reply isn't right
abbrev pub IsWrong : PlainForest → Option Item → Type 0
IsWrong f (Some x) = ¬ (IsRight f x)
IsWrong f None = ⊥

-- all replies are right; or those before a place are, and the one there isn't
abbrev pub IsReplay : Replay → PlainForest → List Item → Type 0
IsReplay Same first h = RepliesAreRight first h
IsReplay (Differs at) first h = RepliesAreRight first (take at h) × IsWrong (forest_at h first at) (slice_get h at)
