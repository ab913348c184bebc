-- What is taken while a pass runs, and how often the pass applies a segment.
use Rattle.std.proofs.Common.{ℕ, suc, ◌≡◌, ◌⊎◌, ◌≤◌, List, [], ◌∷◌, ◌++◌, Some, None, refl, ◌∙◌, inl, inr, arith}
use Rattle.std.specs.List.{AllByRecursion}
use Rattle.h2_num.specs.declared.block.Block.{Block}
use Rattle.h2_ledger.specs.declared.pass.Pass.TheVariants.{Idle, Begun, Marked, Scanning}
use Rattle.h2_ledger.specs.Ledger.{AreDisjoint, Ledger, HasMarked, IsMarked}
use Rattle.h2_ledger.specs.Moves.{Move, take_next, take_first, take_whole, adopt, relink, reserve, freeze, freeze_of_pass, complete, begin_pass, begin_scan, end_pass, apply, Makes, Same, RootsStay, PassStays, Freezes, at_cursor, at_lowest, at_whole}
use Rattle.h2_ledger.specs.Sound.{IsSound}
use Rattle.h2_ledger.specs.Runs.{taken_then, taken_by, Stays, Run}
use Rattle.h2_ledger.specs.Laws.{TakesSinceApart, AppliesOnce}
use Rattle.h2_ledger.specs.PartLaws.{has_marked_stays}
use Rattle.h2_ledger.specs.SoundLaws.{keeps_sound, takes_apart}
use Rattle.h2_ledger.specs.RunLaws.{opens_sound, runs_sound, stays_sound, same_trans, run_split}
use Rattle.h2_ledger.specs.FreedLaws.{Past, applied_pass, none_marked, not_past, past_after, past_along, past_settled}

module _ {Set : Type 0} (has : Block → Set → Type 0) where
  -- the number is that of a freeze that has been: its header is out, or its flush is under way
  abbrev WasFrozen : ℕ → Ledger Set → Type 0
  WasFrozen n u = (n ≤ u.completed_number) ⊎ (u.frozen_number ≡ Some n)

  frozen_roots : (n : ℕ) (u v : Ledger Set) → RootsStay has u v → WasFrozen n u → WasFrozen n v
  frozen_roots n u v r (inl le) = inl (rw r.completed_number le)
  frozen_roots n u v r (inr e) = inr (r.frozen_number ∙ e)

  frozen_freeze : (n : ℕ) (u v : Ledger Set) → Freezes has u v → WasFrozen n u → WasFrozen n v
  frozen_freeze n u v f (inl le) = inl (rw f.completed_number le)
  frozen_freeze n u v f (inr e) = let none : u.frozen_number ≡ None = f.idle in absurd (cc)

  frozen_on : (n : ℕ) (move : Move) (u v : Ledger Set) → Makes has move u v → IsSound has u → WasFrozen n u → WasFrozen n v
  frozen_on n (take_next size b) u v m su f = frozen_roots n u v m.joins.roots f
  frozen_on n (take_first size b) u v m su f = frozen_roots n u v m.joins.roots f
  frozen_on n (take_whole b) u v m su f = frozen_roots n u v m.joins.roots f
  frozen_on n (adopt b) u v m su f = frozen_roots n u v m.joins.roots f
  frozen_on n relink u v m su f = frozen_roots n u v m.roots f
  frozen_on n reserve u v m su f = frozen_roots n u v m.roots f
  frozen_on n freeze u v m su f = frozen_freeze n u v m.freezes f
  frozen_on n freeze_of_pass u v m su f = frozen_freeze n u v m.freezes f
  frozen_on n complete u v m su f = out f
    where
      out : WasFrozen n u → WasFrozen n v
      out (inl le) = let next : v.completed_number ≡ suc u.completed_number = su.frozen_is_next v.completed_number m.was in inl (omega arith)
      out (inr e) = let was : u.frozen_number ≡ Some v.completed_number = m.was in let same : n ≡ v.completed_number = cc in inl (omega arith)
  frozen_on n begin_pass u v m su f = frozen_roots n u v m.only.roots f
  frozen_on n begin_scan u v m su f = frozen_roots n u v m.only.roots f
  frozen_on n end_pass u v m su f = frozen_roots n u v m.only.roots f
  frozen_on n (apply number segment) u v m su f = frozen_roots n u v m.roots f

  -- the pass had marked before what it has marked afterwards
  record Had (n : ℕ) (u v : Ledger Set) : Type 0 where
    applied : ℕ
    marked : HasMarked u.pass n applied
    same : Same has v.marked u.marked

  -- the pass has just marked, at its own freeze
  record MarksNow (n : ℕ) (u v : Ledger Set) : Type 0 where
    next : n ≡ suc u.completed_number
    idle : u.frozen_number ≡ None
    frozen : v.frozen_number ≡ Some n

  had_stays : (n t : ℕ) (u v : Ledger Set) → PassStays has u v → HasMarked v.pass n t → Had n u v ⊎ MarksNow n u v
  had_stays n t u v p h = inl (record { applied = t; marked = has_marked_stays has u v p n t h; same = p.marked })

  -- a pass that has marked afterwards had marked before the move, or the move is its freeze
  had_or_marks : (n t : ℕ) (move : Move) (u v : Ledger Set) → Makes has move u v → HasMarked v.pass n t → Had n u v ⊎ MarksNow n u v
  had_or_marks n t (take_next size b) u v m h = had_stays n t u v m.joins.pass h
  had_or_marks n t (take_first size b) u v m h = had_stays n t u v m.joins.pass h
  had_or_marks n t (take_whole b) u v m h = had_stays n t u v m.joins.pass h
  had_or_marks n t (adopt b) u v m h = had_stays n t u v m.joins.pass h
  had_or_marks n t relink u v m h = had_stays n t u v m.pass h
  had_or_marks n t reserve u v m h = had_stays n t u v m.pass h
  had_or_marks n t freeze u v m h = had_stays n t u v m.pass h
  had_or_marks n t freeze_of_pass u v m h = inr (record { next = number h; idle = m.freezes.idle; frozen = rw (number h) m.freezes.number })
    where
      number : HasMarked v.pass n t → n ≡ suc u.completed_number
      number (inl h) = let now : v.pass ≡ Marked (suc u.completed_number) = m.pass in let e : v.pass ≡ Marked n = h.0 in cc
      number (inr e) = let now : v.pass ≡ Marked (suc u.completed_number) = m.pass in cc
  had_or_marks n t complete u v m h = had_stays n t u v m.pass h
  had_or_marks n t begin_pass u v m h = none_marked has v Begun m.now (inr refl) (Had n u v ⊎ MarksNow n u v) n t h
  had_or_marks n t end_pass u v m h = none_marked has v Idle m.now (inl refl) (Had n u v ⊎ MarksNow n u v) n t h
  had_or_marks n t begin_scan u v m h = inl (record { applied = 0; marked = inl (was h, refl); same = m.marked })
    where
      was : HasMarked v.pass n t → u.pass ≡ Marked n
      was (inl h) = let now : v.pass ≡ Scanning m.number 0 = m.now in let e : v.pass ≡ Marked n = h.0 in cc
      was (inr e) = let now : v.pass ≡ Scanning m.number 0 = m.now in let before : u.pass ≡ Marked m.number = m.was in let number : n ≡ m.number = cc in cc
  had_or_marks n t (apply number segment) u v m h = inl (record { applied = segment; marked = inr (was (applied_pass has number segment u v m n t h).0); same = m.marked })
    where
      was : n ≡ number → u.pass ≡ Scanning n segment
      was e = let now : u.pass ≡ Scanning number segment = m.was in cc

  -- a number isn't given to a second freeze
  not_marked_now : (n : ℕ) (u v : Ledger Set) → WasFrozen n u → MarksNow n u v → ⊥
  not_marked_now n u v (inl le) m = let next : n ≡ suc u.completed_number = m.next in absurd (omega arith)
  not_marked_now n u v (inr e) m = let none : u.frozen_number ≡ None = m.idle in cc

  frozen_settled : (n : ℕ) (x u : Ledger Set) → Stays has x u → WasFrozen n x → WasFrozen n u
  frozen_settled n x u m f = frozen_roots n x u m.roots f

  settled : (n : ℕ) (x u v : Ledger Set) → Stays has x u → Had n u v → Had n x v
  settled n x u v m h = record {
    applied = h.applied;
    marked = has_marked_stays has x u m.pass n h.applied h.marked;
    same = same_trans has x.marked u.marked v.marked m.pass.marked h.same;
  }

  -- what a pass has marked after some moves, it had marked before them
  had_before : (n t : ℕ) (moves : List Move) (x y : Ledger Set) → Run has moves x y → IsSound has x → WasFrozen n x → HasMarked y.pass n t → Had n x y
  had_before n t [] x y m sx f h = record { applied = t; marked = has_marked_stays has x y m.pass n t h; same = m.pass.marked }
  had_before n t (move ∷ moves) x y (u, v, stays, m, rest) sx f h =
      let su : IsSound has u = stays_sound has x u stays sx in
      let fu : WasFrozen n u = frozen_settled n x u stays f in
      let later : Had n v y = had_before n t moves v y rest (keeps_sound has move u v m su) (frozen_on n move u v m su fu) h in
      settled n x u y stays (earlier later fu (had_or_marks n later.applied move u v m later.marked))
    where
      earlier : Had n v y → WasFrozen n u → Had n u v ⊎ MarksNow n u v → Had n u y
      earlier later fu (inl had) = record { applied = had.applied; marked = had.marked; same = same_trans has u.marked v.marked y.marked had.same later.same }
      earlier later fu (inr now) = absurd (not_marked_now n u v fu now)

  granted_then : (b : Block) (move : Move) (u v : Ledger Set) → Makes has move u v → IsSound has u → IsMarked has u b → (more : List Block) → AllByRecursion (λ d. AreDisjoint d b) more → AllByRecursion (λ d. AreDisjoint d b) (taken_then move more)
  granted_then b (take_next size d) u v m su h more apart = (takes_apart has d u (at_cursor size m.place) su b (inr h), apart)
  granted_then b (take_first size d) u v m su h more apart = (takes_apart has d u (at_lowest size m.radix m.place) su b (inr h), apart)
  granted_then b (take_whole d) u v m su h more apart = (takes_apart has d u (at_whole m.radix m.place) su b (inr h), apart)
  granted_then b (adopt d) u v m su h more apart = apart
  granted_then b relink u v m su h more apart = apart
  granted_then b reserve u v m su h more apart = apart
  granted_then b freeze u v m su h more apart = apart
  granted_then b freeze_of_pass u v m su h more apart = apart
  granted_then b complete u v m su h more apart = apart
  granted_then b begin_pass u v m su h more apart = apart
  granted_then b begin_scan u v m su h more apart = apart
  granted_then b end_pass u v m su h more apart = apart
  granted_then b (apply number segment) u v m su h more apart = apart

  -- what moves take shares nothing with what a pass has marked that still runs after them
  takes_beside : (n t : ℕ) (b : Block) (moves : List Move) (x y : Ledger Set) → Run has moves x y → IsSound has x → WasFrozen n x → HasMarked y.pass n t → has b y.marked → AllByRecursion (λ d. AreDisjoint d b) (taken_by moves)
  takes_beside n t b [] x y m sx f h i = tt
  takes_beside n t b (move ∷ moves) x y (u, v, stays, m, rest) sx f h i =
      let su : IsSound has u = stays_sound has x u stays sx in
      let sv : IsSound has v = keeps_sound has move u v m su in
      let fu : WasFrozen n u = frozen_settled n x u stays f in
      let fv : WasFrozen n v = frozen_on n move u v m su fu in
      granted_then b move u v m su (marked fu (had_before n t moves v y rest sv fv h)) (taken_by moves) (takes_beside n t b moves v y rest sv fv h i)
    where
      marked_u : (later : Had n v y) → WasFrozen n u → Had n u v ⊎ MarksNow n u v → IsMarked has u b
      marked_u later fu (inl had) = (n, had.applied, had.marked, (had.same b).0 ((later.same b).0 i))
      marked_u later fu (inr now) = absurd (not_marked_now n u v fu now)

      marked : WasFrozen n u → Had n v y → IsMarked has u b
      marked fu later = marked_u later fu (had_or_marks n later.applied move u v m later.marked)

  -- from an opened ledger on, a pass that has marked has frozen
  frozen_along : (moves : List Move) (x y : Ledger Set) → Run has moves x y → IsSound has x → ((n s : ℕ) → HasMarked x.pass n s → WasFrozen n x) → (n s : ℕ) → HasMarked y.pass n s → WasFrozen n y
  frozen_along [] x y m sx known n s h = frozen_settled n x y m (known n s (has_marked_stays has x y m.pass n s h))
  frozen_along (move ∷ moves) x y (u, v, stays, m, rest) sx known n s h =
      frozen_along moves v y rest (keeps_sound has move u v m su) (λ k t g. now k (had_or_marks k t move u v m g)) n s h
    where
      su : IsSound has u
      su = stays_sound has x u stays sx

      now : (k : ℕ) → Had k u v ⊎ MarksNow k u v → WasFrozen k v
      now k (inl had) = frozen_on k move u v m su (frozen_settled k x u stays (known k had.applied (has_marked_stays has x u stays.pass k had.applied had.marked)))
      now k (inr new) = inr new.frozen

  pub takes_since_apart : TakesSinceApart has
  takes_since_apart before moves opened x y o run_before run n s t hx hy b i = takes_beside n t b moves x y run sx f hy ((had.same b).1 i)
    where
      sx : IsSound has x
      sx = runs_sound has before opened x run_before (opens_sound has opened o)

      f : WasFrozen n x
      f = frozen_along before opened x run_before (opens_sound has opened o) (λ k r h. none_marked has opened Idle o.no_pass (inl refl) (WasFrozen k opened) k r h) n s hx

      had : Had n x y
      had = had_before n t moves x y run sx f hy

  pub applies_once : AppliesOnce has
  applies_once number segment before between after x y sx run = first (run_split has before (apply number segment ∷ (between ++ (apply number segment ∷ after))) x y run)
    where
      second : (v w : Ledger Set) → Past has number segment v → Run has between v w → Run has (apply number segment ∷ after) w y → ⊥
      second v w past goes_on (u, z, stays, m, rest) = not_past has number segment u (past_settled has number segment w u stays (past_along has number segment between v w goes_on past)) m.was

      first : (w : Ledger Set) × Run has before x w × Run has (apply number segment ∷ (between ++ (apply number segment ∷ after))) w y → ⊥
      first (w, leads, (u, v, stays, m, rest)) =
          let past : Past has number segment v = past_after has number segment u v (stays_sound has w u stays (runs_sound has before x w leads sx)) m in
          let parts : (z : Ledger Set) × Run has between v z × Run has (apply number segment ∷ after) z y = run_split has between (apply number segment ∷ after) v y rest in
          second v parts.0 past parts.1 parts.2
