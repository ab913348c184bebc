-- What a history says of the forest, and what it may look like.
use Rattle.std.specs.Prelude.{◌≡◌, ◌⊎◌, ℕ, ◌+◌, ◌-◌, ◌^◌, ◌<◌, ◌≤◌, List, [], ◌∷◌, ◌++◌, take, max, Bool, true, false, cond, nat_eq, ◌&&◌, Option, Some, None}
use Rattle.std.specs.Bool.{MatchBool}
use Rattle.std.specs.List.{list_any}
use Rattle.h2_command.specs.declared.command.Command.{Command}
use Rattle.h2_command.specs.declared.reply.Reply.{Reply}
use Rattle.h2_command.specs.declared.reply.Reply.TheVariants.{Done, Bulk, Io, BadBlock}
use Rattle.h2_command.specs.declared.history.Entry.{Entry}
use Rattle.h2_command.specs.declared.history.Mark.{Mark}
use Rattle.h2_command.specs.declared.history.Mark.TheVariants.{Freeze, HeaderOut, HeaderDone, ScanBegin, Applied}
use Rattle.h2_command.specs.declared.history.Item.{Item}
use Rattle.h2_command.specs.declared.history.Item.TheVariants.{Call, Mark as Marked}
use Rattle.h2_command.specs.Replies.{is_outside}
use Rattle.h2_command.specs.Commands.{is_bulkfree}
use Rattle.h2_forest.specs.declared.legality.Opening.{Opening}
use Rattle.h2_forest.specs.declared.legality.LastPass.TheVariants.{Runs}
use Rattle.h2_forest.specs.declared.legality.Flush.{Flush}
use Rattle.h2_forest.specs.declared.legality.Stage.TheVariants.{Durable, Frozen, Out}
use Rattle.h2_forest.specs.declared.legality.Pass.{Pass}
use Rattle.h2_forest.specs.declared.legality.Pass.TheVariants.{Idle, Scanned}
use Rattle.h2_forest.specs.declared.legality.Outcome.{Outcome}
use Rattle.h2_forest.specs.declared.legality.Outcome.TheVariants.{Pending, GivenUp, Complete}
use Rattle.h2_forest.specs.Forest.{PlainForest, answer, closed}

-- each item is allowed in the state that the items before it left
abbrev pub Each : {S : Type 0} → (S → Item → Type 0) → (S → Item → S) → S → List Item → Type 0
Each allowed next s [] = Unit {0}
Each allowed next s (x ∷ h) = allowed s x × Each allowed next (next s x) h

-- the state that items leave
abbrev pub after : {S : Type 0} → (S → Item → S) → S → List Item → S
after next s [] = s
after next s (x ∷ h) = after next (next s x) h

-- the forest after an item. A refusal from outside changes nothing, and neither does a mark
abbrev pub after_item : PlainForest → Item → PlainForest
after_item f (Call e) = cond (is_outside e.reply) f (answer f e.client e.command).1
after_item f (Marked m) = f

-- the forest before the item at a place of a history, which begins without handles
abbrev pub forest_at : List Item → PlainForest → ℕ → PlainForest
forest_at h first i = after after_item (closed first) (take i h)

-- the reply of a pass that ended
abbrev pub is_bulk : Reply → Bool
is_bulk (Bulk seen staged freed) = true
is_bulk _ = false

-- a reply stands for the forest's: it is that one, and a Bulk stands for Done as the reply to bulkfree
abbrev pub StandsFor : Command → Reply → Reply → Type 0
StandsFor command reply due = MatchBool (is_bulkfree command && is_bulk reply) (due ≡ Done) (reply ≡ due)

-- an entry's reply is a refusal from outside, or stands for the forest's
abbrev pub IsRightEntry : PlainForest → Entry → Type 0
IsRightEntry f e = (is_outside e.reply ≡ true) ⊎ StandsFor e.command e.reply (answer f e.client e.command).0

-- an entry has a right reply; of a mark nothing is asked
abbrev pub IsRight : PlainForest → Item → Type 0
IsRight f (Call e) = IsRightEntry f e
IsRight f (Marked m) = Unit {0}

-- each reply is the forest's at its place
abbrev pub RepliesAreRight : PlainForest → List Item → Type 0
RepliesAreRight first h = Each IsRight after_item (closed first) h

-- the two counts of an Io
abbrev pub io_reply : Reply → Option (ℕ × ℕ)
io_reply (Io before after) = Some (before, after)
io_reply _ = None

-- the two counts of an item, where it is an entry with an Io
abbrev pub io_of : Item → Option (ℕ × ℕ)
io_of (Call e) = io_reply e.reply
io_of (Marked m) = None

-- the count rose from where an earlier Io left it, or stands at its last value
abbrev pub IsRise : ℕ → Option (ℕ × ℕ) → Type 0
IsRise floor (Some counts) = (floor ≤ counts.0) × ((counts.0 < counts.1) ⊎ (counts.1 ≡ 2 ^ 64 - 1))
IsRise floor None = Unit {0}

-- the greatest count at which an Io ended, after one more item
abbrev pub risen : ℕ → Option (ℕ × ℕ) → ℕ
risen floor (Some counts) = max floor counts.1
risen floor None = floor

-- each Io has a count of faults that rose, and no earlier Io ended above where it began
abbrev pub FaultsRise : List Item → Type 0
FaultsRise h = Each (λ floor x. IsRise floor (io_of x)) (λ floor x. risen floor (io_of x)) 0 h

-- the index of a client's entry
abbrev pub index_of : ℕ → Item → Option ℕ
index_of client (Call e) = cond (nat_eq e.client client) (Some e.index) None
index_of client (Marked m) = None

-- an index is the next one
abbrev pub IsCounted : ℕ → Option ℕ → Type 0
IsCounted next (Some index) = index ≡ next
IsCounted next None = Unit {0}

-- the index that comes next
abbrev pub counted : ℕ → Option ℕ → ℕ
counted next (Some index) = index + 1
counted next None = next

-- the entries of a client have the indices 0, 1, 2 and on
abbrev pub CountsUp : ℕ → List Item → Type 0
CountsUp client h = Each (λ next x. IsCounted next (index_of client x)) (λ next x. counted next (index_of client x)) 0 h

-- the phase of an entry
abbrev pub phase_of : Item → Option ℕ
phase_of (Call e) = Some e.phase
phase_of (Marked m) = None

-- the moment of a mark
abbrev pub mark_moment : Mark → Option ℕ
mark_moment (Freeze number moment) = Some moment
mark_moment (HeaderOut number moment) = Some moment
mark_moment (HeaderDone number moment) = Some moment
mark_moment _ = None

-- the moment of an item, where it is a mark that has one
abbrev pub moment_of : Item → Option ℕ
moment_of (Call e) = None
moment_of (Marked m) = mark_moment m

-- a number isn't below the last one
abbrev pub IsFrom : ℕ → Option ℕ → Type 0
IsFrom low (Some n) = low ≤ n
IsFrom low None = Unit {0}

-- the last number, after one more item
abbrev pub or_later : ℕ → Option ℕ → ℕ
or_later low (Some n) = n
or_later low None = low

-- numbers that some items have never fall
abbrev pub NeverFalls : (Item → Option ℕ) → List Item → Type 0
NeverFalls number h = Each (λ low x. IsFrom low (number x)) (λ low x. or_later low (number x)) 0 h

-- where a mark may stand: a Freeze has the next number and follows a durable header; a header is out once
-- or more after its Freeze, and then durable once
abbrev pub IsFlushStep : Flush → Mark → Type 0
IsFlushStep flush (Freeze number moment) = (flush.stage ≡ Durable) × (number ≡ flush.number + 1)
IsFlushStep flush (HeaderOut number moment) = ¬ (flush.stage ≡ Durable) × (number ≡ flush.number)
IsFlushStep flush (HeaderDone number moment) = (flush.stage ≡ Out) × (number ≡ flush.number)
IsFlushStep flush _ = Unit {0}

-- the flush after a mark
abbrev pub flush_step : Flush → Mark → Flush
flush_step flush (Freeze number moment) = record { number = number; stage = Frozen }
flush_step flush (HeaderOut number moment) = record flush { stage = Out }
flush_step flush (HeaderDone number moment) = record flush { stage = Durable }
flush_step flush _ = flush

-- a mark may come at this stage of the flush; of an entry nothing is asked
abbrev pub IsFlushItem : Flush → Item → Type 0
IsFlushItem flush (Call e) = Unit {0}
IsFlushItem flush (Marked m) = IsFlushStep flush m

-- the flush after an item
abbrev pub after_flush_item : Flush → Item → Flush
after_flush_item flush (Call e) = flush
after_flush_item flush (Marked m) = flush_step flush m

-- flushes stand one after the other, from the opening header's number on. Only the last one may lack its end
abbrev pub FlushesInOrder : ℕ → List Item → Type 0
FlushesInOrder opened h = Each IsFlushItem after_flush_item (record { number = opened; stage = Durable }) h

-- the numbers whose header became durable, after one more item
abbrev pub durable_mark : List ℕ → Mark → List ℕ
durable_mark numbers (HeaderDone number moment) = numbers ++ number ∷ []
durable_mark numbers _ = numbers

-- the durable numbers after an item
abbrev pub after_durable : List ℕ → Item → List ℕ
after_durable numbers (Call e) = numbers
after_durable numbers (Marked m) = durable_mark numbers m

-- a scan is that of a header that became durable
abbrev pub IsScanOf : List ℕ → Mark → Type 0
IsScanOf numbers (ScanBegin number) = list_any (λ n. nat_eq n number) numbers ≡ true
IsScanOf numbers _ = Unit {0}

-- so is the scan that an item begins, if it begins one
abbrev pub IsLateScan : List ℕ → Item → Type 0
IsLateScan numbers (Call e) = Unit {0}
IsLateScan numbers (Marked m) = IsScanOf numbers m

-- a scan begins only for a header that became durable before
abbrev pub ScansAreLate : List Item → Type 0
ScansAreLate h = Each IsLateScan after_durable [] h

-- a pass that has ended applied none of the segments, or all of them
abbrev pub HasEnded : ℕ → Pass → Type 0
HasEnded segments Idle = Unit {0}
HasEnded segments (Scanned applied staged freed) = (applied ≡ 0) ⊎ (applied ≡ segments)

-- a pass applies the segments in ascending order, from the first on
abbrev pub IsNext : ℕ → ℕ → Pass → Type 0
IsNext segments segment Idle = ⊥
IsNext segments segment (Scanned applied staged freed) = (segment ≡ applied) × (segment < segments)

-- the sums over a pass that has applied all segments
abbrev pub AreSums : ℕ → ℕ → ℕ → Pass → Type 0
AreSums segments staged freed Idle = ⊥
AreSums segments staged freed (Scanned applied s f) = (applied ≡ segments) × ((staged ≡ s) × (freed ≡ f))

-- the pass with one more segment applied
abbrev pub with_applied : Pass → ℕ → ℕ → Pass
with_applied Idle staged freed = Idle
with_applied (Scanned applied s f) staged freed = Scanned (applied + 1) (s + staged) (f + freed)

-- a mark may come at this point of the passes
abbrev pub IsPassMark : ℕ → Pass → Mark → Type 0
IsPassMark segments p (ScanBegin number) = HasEnded segments p
IsPassMark segments p (Applied segment staged freed) = IsNext segments segment p
IsPassMark segments p _ = Unit {0}

-- the pass after a mark
abbrev pub after_pass_mark : Pass → Mark → Pass
after_pass_mark p (ScanBegin number) = Scanned 0 0 0
after_pass_mark p (Applied segment staged freed) = with_applied p staged freed
after_pass_mark p _ = p

-- a pass that is given up has applied no segment
abbrev pub HasAppliedNone : Pass → Type 0
HasAppliedNone Idle = Unit {0}
HasAppliedNone (Scanned applied staged freed) = applied ≡ 0

-- what the reply to a bulkfree says of the pass. Want of memory says nothing: it may come before the pass began, while another client's runs
abbrev pub reply_outcome : Reply → Outcome
reply_outcome (Bulk seen staged freed) = Complete staged freed
reply_outcome (Io before after) = GivenUp
reply_outcome (BadBlock place why) = GivenUp
reply_outcome _ = Pending

-- what an entry says of the pass: only a bulkfree says something
abbrev pub outcome_of : Entry → Outcome
outcome_of e = cond (is_bulkfree e.command) (reply_outcome e.reply) Pending

-- a Bulk has the sums of its pass; a pass that was given up has applied nothing
abbrev pub IsOutcome : ℕ → Pass → Outcome → Type 0
IsOutcome segments p Pending = Unit {0}
IsOutcome segments p GivenUp = HasAppliedNone p
IsOutcome segments p (Complete staged freed) = AreSums segments staged freed p

-- either ends the pass
abbrev pub after_outcome : Pass → Outcome → Pass
after_outcome p Pending = p
after_outcome p GivenUp = Idle
after_outcome p (Complete staged freed) = Idle

-- an item may come at this point of the passes
abbrev pub IsPassItem : ℕ → Pass → Item → Type 0
IsPassItem segments p (Call e) = IsOutcome segments p (outcome_of e)
IsPassItem segments p (Marked m) = IsPassMark segments p m

-- the pass after an item
abbrev pub after_pass_item : Pass → Item → Pass
after_pass_item p (Call e) = after_outcome p (outcome_of e)
after_pass_item p (Marked m) = after_pass_mark p m

-- the last pass has ended too, unless it still runs
abbrev pub EndsWell : Opening → Pass → Type 0
EndsWell opening p = (opening.last_pass ≡ Runs) ⊎ HasEnded opening.segments p

-- passes stand one after the other, each Bulk has the sums of its pass, and a pass that was given up has applied nothing
pub record PassesInOrder (opening : Opening) (h : List Item) : Type 0 where
  pub each : Each (IsPassItem opening.segments) after_pass_item Idle h
  pub last : EndsWell opening (after after_pass_item Idle h)

-- the history of a volume that was opened so, with a first forest
pub record Legal (opening : Opening) (first : PlainForest) (h : List Item) : Type 0 where
  pub replies : RepliesAreRight first h
  pub faults : FaultsRise h
  pub indices : (client : ℕ) → CountsUp client h
  pub phases : NeverFalls phase_of h
  pub flushes : FlushesInOrder opening.number h
  pub moments : NeverFalls moment_of h
  pub scans : ScansAreLate h
  pub passes : PassesInOrder opening h
