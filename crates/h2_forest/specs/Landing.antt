-- Where a power cut lands, by the history of a run.
use Rattle.std.specs.Prelude.{◌≡◌, ◌⊎◌, ℕ, ◌+◌, List, [], ◌∷◌, max, Bool, true, false, cond, nat_eq, nat_le, ◌&&◌, Option, Some, None}
use Rattle.std.specs.List.{list_any}
use Rattle.h2_command.specs.declared.history.Mark.{Mark}
use Rattle.h2_command.specs.declared.history.Mark.TheVariants.{Freeze, HeaderOut, HeaderDone}
use Rattle.h2_command.specs.declared.history.Item.{Item}
use Rattle.h2_command.specs.declared.history.Item.TheVariants.{Call, Mark as Marked}
use Rattle.h2_forest.specs.Forest.{PlainForest, closed}
use Rattle.h2_forest.specs.History.{after, after_item}

-- the newest header that is durable, after one more mark; marks by a moment count
abbrev pub newest_mark : ℕ → ℕ → Mark → ℕ
newest_mark moment n (HeaderDone number at) = cond (nat_le at moment) (max n number) n
newest_mark moment n _ = n

-- the newest header that is durable, after one more item
abbrev pub newest_item : ℕ → ℕ → Item → ℕ
newest_item moment n (Call e) = n
newest_item moment n (Marked m) = newest_mark moment n m

-- the greatest number whose header was durable by a moment, or the opening header's
abbrev pub durable_by : ℕ → ℕ → List Item → ℕ
durable_by moment opened h = after (newest_item moment) opened h

-- the mark says that a write of the header with a number had begun by a moment
abbrev pub is_out_mark : ℕ → ℕ → Mark → Bool
is_out_mark moment n (HeaderOut number at) = nat_eq number n && nat_le at moment
is_out_mark moment n _ = false

-- so does the item
abbrev pub is_out_item : ℕ → ℕ → Item → Bool
is_out_item moment n (Call e) = false
is_out_item moment n (Marked m) = is_out_mark moment n m

-- whether a write of the header with a number had begun by a moment
abbrev pub is_out_by : ℕ → ℕ → List Item → Bool
is_out_by moment n h = list_any (is_out_item moment n) h

-- the headers that a power cut at a moment may leave: the newest durable one, and the next where it was out
abbrev pub IsLanding : ℕ → List Item → ℕ → ℕ → Type 0
IsLanding opened h moment n = (n ≡ durable_by moment opened h) ⊎ ((n ≡ durable_by moment opened h + 1) × (is_out_by moment n h ≡ true))

-- the mark is the Freeze with a number
abbrev pub is_freeze_mark : ℕ → Mark → Bool
is_freeze_mark n (Freeze number moment) = nat_eq number n
is_freeze_mark n _ = false

-- so is the item
abbrev pub is_freeze : ℕ → Item → Bool
is_freeze n (Call e) = false
is_freeze n (Marked m) = is_freeze_mark n m

-- the forest at the mark of the Freeze with a number, if there is one
abbrev pub frozen_from : ℕ → PlainForest → List Item → Option PlainForest
frozen_from n f [] = None
frozen_from n f (x ∷ h) = cond (is_freeze n x) (Some f) (frozen_from n (after_item f x) h)

-- the forest that was frozen for a header, in a run that began without handles; for the opening header the first one
abbrev pub frozen_forest : ℕ → PlainForest → List Item → ℕ → Option PlainForest
frozen_forest opened first h n = cond (nat_eq n opened) (Some first) (frozen_from n (closed first) h)
