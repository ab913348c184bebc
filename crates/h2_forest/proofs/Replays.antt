-- A replay that tells no difference.
use Rattle.std.specs.Prelude.{◌≡◌, ◌↔◌, ℕ, List, slice_get, Option, Some, None, Bool, IsTrue, refl}
use Rattle.h2_command.specs.declared.history.Item.{Item}
use Rattle.h2_forest.specs.declared.replay_result.Replay.{Replay}
use Rattle.h2_forest.specs.declared.replay_result.Replay.TheVariants.{Same, Differs}
use Rattle.h2_forest.specs.Forest.{PlainForest, closed}
use Rattle.h2_forest.specs.History.{RepliesAreRight, IsRight, after_item, forest_at}
use Rattle.h2_forest.specs.HistoryLaws.{each_at}
use Rattle.h2_forest.specs.Replay.{IsReplay, IsWrong}

not_same : (at : ℕ) → Differs at ≡ Same → ⊥
not_same at e = cc

wrong_there : (first : PlainForest) (h : List Item) (at : ℕ) (o : Option Item) → slice_get h at ≡ o → IsWrong (forest_at h first at) o → RepliesAreRight first h → ⊥
wrong_there first h at (Some x) is wrong all = wrong (each_at IsRight after_item (closed first) h at x all is)
wrong_there first h at None is wrong all = wrong

pub same_decides : (told : Replay) (first : PlainForest) (h : List Item) (b : Bool) → (IsTrue b ↔ (told ≡ Same)) → IsReplay told first h → IsTrue b ↔ RepliesAreRight first h
same_decides Same first h b is right = (λ _. right, λ _. is.1 refl)
same_decides (Differs at) first h b is there = (λ t. absurd (not_same at (is.0 t)), λ all. absurd (wrong_there first h at (slice_get h at) refl there.1 all))
