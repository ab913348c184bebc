-- Moves that change no code.
use Rattle.std.proofs.Common.{Some, None, List, [], ◌++◌, ℕ, suc, ◌≡◌, ◌≢◌, ◌⊎◌, ◌+◌, ◌-◌, ◌<◌, ◌≤◌, refl, sym, subst, inl, inr, arith}
use Rattle.std.specs.List.{Contains}
use Rattle.std.proofs.lemmas.List.Elements.{All-contains, Contains-append_left, Contains-append_right, Contains-append_cases}
use Rattle.h2_num.specs.declared.block.Block.{Block}
use Rattle.h2_ledger.specs.declared.shared_size.SharedSize.{SharedSize}
use Rattle.h2_ledger.specs.declared.shared_size.SharedSize.TheVariants.{Small, Middle}
use Rattle.h2_ledger.specs.declared.pass.Pass.{Pass}
use Rattle.h2_ledger.specs.declared.pass.Pass.TheVariants.{Idle, Begun, Marked, Scanning}
use Rattle.h2_ledger.specs.Ledger.{HasMarked}
use Rattle.h2_ledger.specs.Moves.{Same, Relinks, Reserves, Freezes, FreezesAlone, FreezesOfPass, Completes, OnlyPass, BeginsPass, BeginsScan, EndsPass}
use Rattle.h2_ledger.specs.Runs.{IsOpened}
use Rattle.h2_codes.specs.declared.code.Code.{Code}
use Rattle.h2_plain_ledger.specs.State.{State, as_ledger, has, cursor_of, MayRelink}
use Rattle.h2_plain_ledger.specs.Steps.{opened, free_of, with_frozen, with_marked, IsCompleted, MayEnd}

same : (blocks : List Block) → Same has blocks blocks
same blocks b = (λ i. i, λ i. i)

none : (b : Block) → Contains [] b → ⊥
none b i = let lt : i.0 < 0 = i.1 in absurd (omega arith)

no_cursor : (size : SharedSize) → cursor_of (record { small = None; middle = None }) size ≡ None
no_cursor Small = refl
no_cursor Middle = refl

pub opens : (codes : List Code) (number : ℕ) → IsOpened has (as_ledger (opened codes number))
unfolding as_ledger
opens codes number = record {
  live = λ b i. i;
  in_one_chunk = λ b i. absurd (none b i);
  covered = λ b i. absurd (none b i);
  pins = none;
  fresh = none;
  queued = none;
  no_flush = refl;
  no_pass = refl;
  no_cursor = no_cursor;
  unreserved = refl;
}

only_pass : (s : State) (pass : Pass) → OnlyPass has (as_ledger s) (as_ledger (record s { pass = pass }))
unfolding as_ledger
only_pass s pass = record {
  uses = record { live = λ b i. i; pins = λ b i. i; fresh = λ b i. i };
  codes = record { chunks = refl; codes = λ c. refl };
  cursors = record { cursors = λ k. refl };
  reserved = refl;
  roots = record { frozen_number = refl; frozen = same s.frozen; completed_number = refl; completed = same s.completed; queued = λ b i. i };
}

pub begins_pass : (s : State) → s.pass ≡ Idle → BeginsPass has (as_ledger s) (as_ledger (record s { pass = Begun }))
unfolding as_ledger
begins_pass s idle = record { only = only_pass s Begun; was = idle; now = refl }

pub begins_scan : (s : State) (number : ℕ) → s.pass ≡ Marked number → number ≤ s.completed_number → BeginsScan has (as_ledger s) (as_ledger (record s { pass = Scanning number 0 }))
unfolding as_ledger
begins_scan s number marked out = record { only = only_pass s (Scanning number 0); number = number; was = marked; now = refl; out = out; marked = same s.marked }

may_not_idle : (pass : Pass) → MayEnd pass → pass ≢ Idle
may_not_idle Idle may e = may
may_not_idle Begun may e = cc
may_not_idle (Marked number) may e = cc
may_not_idle (Scanning number applied) may e = cc

unapplied : (pass : Pass) → MayEnd pass → (n s : ℕ) → HasMarked pass n s → s ≡ 0
unapplied Idle may n s h = absurd may
unapplied Begun may n s (inl h) = h.1
unapplied Begun may n s (inr e) = cc
unapplied (Marked number) may n s (inl h) = h.1
unapplied (Marked number) may n s (inr e) = cc
unapplied (Scanning number applied) may n s (inl h) = h.1
unapplied (Scanning number applied) may n s (inr e) = let zero_applied : applied ≡ 0 = may in let same_applied : applied ≡ s = cc in omega arith

pub ends_pass : (s : State) → MayEnd s.pass → EndsPass has (as_ledger s) (as_ledger (record s { pass = Idle }))
unfolding as_ledger
ends_pass s may = record { only = only_pass s Idle; runs = may_not_idle s.pass may; unapplied = unapplied s.pass may; now = refl }

pub relinks : (s : State) (live pins : List Block) → MayRelink s.live s.pins live pins → Relinks has (as_ledger s) (as_ledger (record s { live = live; pins = pins }))
unfolding as_ledger
relinks s live pins may = record {
  live = λ b i. All-contains (λ (d : Block). Contains s.live d ⊎ Contains s.pins d) live b may.0 i;
  pins = λ b i. All-contains (Contains s.pins) pins b may.1 i;
  fresh = λ b i. i;
  codes = record { chunks = refl; codes = λ c. refl };
  cursors = record { cursors = λ k. refl };
  reserved = refl;
  roots = record { frozen_number = refl; frozen = same s.frozen; completed_number = refl; completed = same s.completed; queued = λ b i. i };
  pass = record { pass = refl; marked = same s.marked };
}

reserved_as : (s : State) (reserved : ℕ) → (reserved ≤ s.reserved) ⊎ (reserved ≤ free_of s) → Reserves has (as_ledger s) (as_ledger (record s { reserved = reserved }))
unfolding as_ledger
reserved_as s reserved enough = record {
  enough = enough;
  uses = record { live = λ b i. i; pins = λ b i. i; fresh = λ b i. i };
  codes = record { chunks = refl; codes = λ c. refl };
  cursors = record { cursors = λ k. refl };
  roots = record { frozen_number = refl; frozen = same s.frozen; completed_number = refl; completed = same s.completed; queued = λ b i. i };
  pass = record { pass = refl; marked = same s.marked };
}

pub reserves : (s : State) (chunks : ℕ) → s.reserved + chunks ≤ free_of s → Reserves has (as_ledger s) (as_ledger (record s { reserved = s.reserved + chunks }))
reserves s chunks enough = reserved_as s (s.reserved + chunks) (inr enough)

pub releases : (s : State) (chunks : ℕ) → Reserves has (as_ledger s) (as_ledger (record s { reserved = s.reserved - chunks }))
releases s chunks = reserved_as s (s.reserved - chunks) (inl (omega arith))

-- a freeze, whatever becomes of the pass
frozen_as : (s : State) (pass : Pass) (marked : List Block) → s.frozen_number ≡ None → Freezes has (as_ledger s) (as_ledger (record (with_frozen s) { pass = pass; marked = marked }))
unfolding as_ledger
frozen_as s pass marked idle = record {
  idle = idle;
  number = refl;
  frozen = same s.live;
  queued = λ b i. i;
  none_fresh = none;
  completed_number = refl;
  completed = same s.completed;
  uses = record { live = λ b i. i; pins = λ b i. i; fresh = λ b i. absurd (none b i) };
  codes = record { chunks = refl; codes = λ c. refl };
  cursors = record { cursors = λ k. refl };
  reserved = refl;
}

pub freezes : (s : State) → s.frozen_number ≡ None → FreezesAlone has (as_ledger s) (as_ledger (with_frozen s))
unfolding as_ledger
freezes s idle = record { freezes = frozen_as s s.pass s.marked idle; pass = record { pass = refl; marked = same s.marked } }

pub freezes_of_pass : (s : State) → s.frozen_number ≡ None → s.pass ≡ Begun → FreezesOfPass has (as_ledger s) (as_ledger (with_marked s))
unfolding as_ledger
freezes_of_pass s idle begun = record {
  freezes = frozen_as s (Marked (suc s.completed_number)) (s.live ++ s.pins) idle;
  begun = begun;
  pass = refl;
  marked = λ b. (λ i. Contains-append_cases s.live s.pins b i, λ h. either b h);
}
  where
    either : (b : Block) → Contains s.live b ⊎ Contains s.pins b → Contains (s.live ++ s.pins) b
    either b (inl i) = Contains-append_left s.live s.pins b i
    either b (inr i) = Contains-append_right s.live s.pins b i

pub completes : (s : State) (number : ℕ) → s.frozen_number ≡ Some number
    → Completes has (as_ledger s) (as_ledger (record s { frozen_number = None; frozen = []; completed_number = number; completed = s.frozen; queued = [] }))
unfolding as_ledger
completes s number was = record {
  was = was;
  completed = same s.frozen;
  frozen_number = refl;
  none_queued = none;
  uses = record { live = λ b i. i; pins = λ b i. i; fresh = λ b i. i };
  codes = record { chunks = refl; codes = λ c. refl };
  cursors = record { cursors = λ k. refl };
  reserved = refl;
  pass = record { pass = refl; marked = same s.marked };
}

-- The same, for a state that is known to be the new one

pub opens_as : (s : State) (codes : List Code) (number : ℕ) → s ≡ opened codes number → IsOpened has (as_ledger s)
opens_as s codes number e = subst (λ z. IsOpened has (as_ledger z)) (sym e) (opens codes number)

pub freezes_to : (s t : State) → s.frozen_number ≡ None → t ≡ with_frozen s → FreezesAlone has (as_ledger s) (as_ledger t)
freezes_to s t idle e = subst (λ z. FreezesAlone has (as_ledger s) (as_ledger z)) (sym e) (freezes s idle)

pub freezes_of_pass_to : (s t : State) → s.frozen_number ≡ None → s.pass ≡ Begun → t ≡ with_marked s → FreezesOfPass has (as_ledger s) (as_ledger t)
freezes_of_pass_to s t idle begun e = subst (λ z. FreezesOfPass has (as_ledger s) (as_ledger z)) (sym e) (freezes_of_pass s idle begun)

pub completes_to : (s t : State) → IsCompleted s t → Completes has (as_ledger s) (as_ledger t)
completes_to s t m = subst (λ z. Completes has (as_ledger s) (as_ledger z)) (sym m.new) (completes s t.completed_number m.was)

pub relinks_as : (s : State) (old_live old_pins new_live new_pins live pins : List Block) → old_live ≡ s.live → old_pins ≡ s.pins → new_live ≡ live → new_pins ≡ pins
    → MayRelink old_live old_pins new_live new_pins → Relinks has (as_ledger s) (as_ledger (record s { live = live; pins = pins }))
relinks_as s old_live old_pins new_live new_pins live pins el ep nl np may =
    relinks s live pins (subst (λ z. MayRelink s.live s.pins live z) np (subst (λ z. MayRelink s.live s.pins z new_pins) nl (subst (λ z. MayRelink s.live z new_live new_pins) ep (subst (λ z. MayRelink z old_pins new_live new_pins) el may))))
