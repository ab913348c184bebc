-- Passes over a list of moves: none ends half-applied, and so two successive complete passes free what they find unmarked.
use Rattle.std.proofs.Common.{ℕ, suc, ◌≡◌, ◌≢◌, ◌⊎◌, ◌*◌, ◌<◌, ◌≤◌, List, [], ◌∷◌, ◌++◌, refl, sym, ◌∙◌, subst, inl, inr, arith, append_assoc, append-nil}
use Rattle.std.proofs.lemmas.Bool.{cases_eq, cases_lt}
use Rattle.std.proofs.lemmas.List.Elements.{Contains-append_left, Contains-append_right, Contains-push, Contains-push_cases}
use Rattle.std.specs.List.{Contains, AllByRecursion}
use Rattle.h2_num.specs.declared.block.Block.{Block}
use Rattle.h2_geom.specs.Geometry.{segment_chunks, segment_of}
use Rattle.h2_ledger.specs.declared.pass.Pass.TheVariants.{Idle, Begun, Marked, Scanning}
use Rattle.h2_ledger.specs.Ledger.{Ledger}
use Rattle.h2_ledger.specs.Moves.{Move, take_next, take_first, take_whole, adopt, relink, reserve, freeze, freeze_of_pass, complete, begin_pass, begin_scan, end_pass, apply, Makes, PassStays, Applies}
use Rattle.h2_ledger.specs.Sound.{IsSound}
use Rattle.h2_ledger.specs.Runs.{NoJoinIn, Spares, Stays, Run, IsOpened}
use Rattle.h2_ledger.specs.Passes.{IsComplete}
use Rattle.h2_ledger.specs.Laws.{AppliesAllOrRuns, FreesAfterTwoPasses}
use Rattle.h2_ledger.specs.SoundLaws.{keeps_sound}
use Rattle.h2_ledger.specs.RunLaws.{runs_sound, opens_sound}
use Rattle.h2_ledger.specs.FreedLaws.{Past, past_on, past_after, past_along, past_settled, frees_twice_unmarked}

-- more moves have no fewer applies
complete_more : (chunks number : ℕ) (moves more : List Move) → IsComplete chunks number moves → IsComplete chunks number (moves ++ more)
complete_more chunks number moves more all = λ s lt. Contains-append_left moves more (apply number s) (all s lt)

module _ {Set : Type 0} (has : Block → Set → Type 0) where
  -- the pass runs, and has applied the segments below this number, all of them by these moves
  record Runs (done : List Move) (number applied : ℕ) (u : Ledger Set) : Type 0 where
    now : u.pass ≡ Scanning number applied
    first_ones : (s : ℕ) → s < applied → Contains done (apply number s)

  -- what the moves from an opened ledger say of passes
  record Shows (chunks : ℕ) (done : List Move) (u : Ledger Set) : Type 0 where
    chunks_stay : u.chunks ≡ chunks
    running : (number applied : ℕ) → u.pass ≡ Scanning number applied → Runs done number applied u
    applied : (number segment : ℕ) → Contains done (apply number segment) → IsComplete chunks number done ⊎ ((t : ℕ) × (u.pass ≡ Scanning number t) × (segment < t))

  -- a move that is no apply, and that keeps no pass scanning that didn't scan before
  other_move : (chunks : ℕ) (done : List Move) (move : Move) (u v : Ledger Set) → ((n s : ℕ) → move ≢ apply n s) → v.chunks ≡ u.chunks
      → ((n t : ℕ) → v.pass ≡ Scanning n t → (u.pass ≡ Scanning n t) ⊎ (t ≡ 0))
      → ((n t : ℕ) → u.pass ≡ Scanning n t → (v.pass ≡ Scanning n t) ⊎ (t ≡ 0))
      → Shows chunks done u → Shows chunks (done ++ move ∷ []) v
  other_move chunks done move u v none same from to shows = record {
    chunks_stay = same ∙ shows.chunks_stay;
    running = λ n t e. record { now = e; first_ones = λ s lt. first n t s lt (from n t e) };
    applied = λ n s i. applied n s (Contains-push_cases done move (apply n s) i);
  }
    where
      first : (n t s : ℕ) → s < t → (u.pass ≡ Scanning n t) ⊎ (t ≡ 0) → Contains (done ++ move ∷ []) (apply n s)
      first n t s lt (inl e) = Contains-append_left done (move ∷ []) (apply n s) ((shows.running n t e).first_ones s lt)
      first n t s lt (inr e) = absurd (omega arith)

      still : (n s t : ℕ) → s < t → (v.pass ≡ Scanning n t) ⊎ (t ≡ 0) → IsComplete chunks n (done ++ move ∷ []) ⊎ ((t : ℕ) × (v.pass ≡ Scanning n t) × (s < t))
      still n s t lt (inl e) = inr (t, e, lt)
      still n s t lt (inr e) = absurd (omega arith)

      old : (n s : ℕ) → IsComplete chunks n done ⊎ ((t : ℕ) × (u.pass ≡ Scanning n t) × (s < t)) → IsComplete chunks n (done ++ move ∷ []) ⊎ ((t : ℕ) × (v.pass ≡ Scanning n t) × (s < t))
      old n s (inl all) = inl (complete_more chunks n done (move ∷ []) all)
      old n s (inr (t, e, lt)) = still n s t lt (to n t e)

      applied : (n s : ℕ) → Contains done (apply n s) ⊎ (move ≡ apply n s) → IsComplete chunks n (done ++ move ∷ []) ⊎ ((t : ℕ) × (v.pass ≡ Scanning n t) × (s < t))
      applied n s (inl i) = old n s (shows.applied n s i)
      applied n s (inr e) = absurd (none n s e)

  pass_stays : (chunks : ℕ) (done : List Move) (move : Move) (u v : Ledger Set) → ((n s : ℕ) → move ≢ apply n s) → v.chunks ≡ u.chunks → PassStays has u v → Shows chunks done u → Shows chunks (done ++ move ∷ []) v
  pass_stays chunks done move u v none same p shows = other_move chunks done move u v none same (λ n t e. inl (sym p.pass ∙ e)) (λ n t e. inl (p.pass ∙ e)) shows

  -- an apply goes on with its pass, or makes it complete
  apply_move : (chunks : ℕ) (done : List Move) (number segment : ℕ) (u v : Ledger Set) → Applies has number segment u v → Shows chunks done u → Shows chunks (done ++ apply number segment ∷ []) v
  apply_move chunks done number segment u v m shows = record {
    chunks_stay = m.chunks ∙ shows.chunks_stay;
    running = λ n t e. record { now = e; first_ones = λ s lt. first n t s lt (on_from n t e) };
    applied = λ n s i. applied n s (Contains-push_cases done (apply number segment) (apply n s) i);
  }
    where
      all_moves : List Move
      all_moves = done ++ apply number segment ∷ []

      in_volume : segment_chunks * suc segment ≤ u.chunks
      in_volume = m.in_volume

      on_from : (n t : ℕ) → v.pass ≡ Scanning n t → (n ≡ number) × (t ≡ suc segment)
      on_from n t e = split (cases_lt (segment_chunks * suc segment) u.chunks)
        where
          split : (segment_chunks * suc segment < u.chunks) ⊎ (u.chunks ≤ segment_chunks * suc segment) → (n ≡ number) × (t ≡ suc segment)
          split (inl lt) = let on : v.pass ≡ Scanning number (suc segment) = m.goes_on lt in (cc, cc)
          split (inr le) = let off : v.pass ≡ Idle = m.ends (omega arith) in cc

      below : (s : ℕ) → s < suc segment → (s ≡ segment) ⊎ (s ≢ segment) → Contains all_moves (apply number s)
      below s lt (inl e) = subst (λ z. Contains all_moves (apply number z)) (sym e) (Contains-push done (apply number segment))
      below s lt (inr ne) = Contains-append_left done (apply number segment ∷ []) (apply number s) ((shows.running number segment m.was).first_ones s (omega arith))

      first : (n t s : ℕ) → s < t → (n ≡ number) × (t ≡ suc segment) → Contains all_moves (apply n s)
      first n t s lt (en, et) = subst (λ z. Contains all_moves (apply z s)) (sym en) (below s (omega arith) (cases_eq s segment))

      -- the pass itself, at a segment that it has applied
      itself : (s : ℕ) → s < suc segment → IsComplete chunks number all_moves ⊎ ((t : ℕ) × (v.pass ≡ Scanning number t) × (s < t))
      itself s lt = split (cases_lt (segment_chunks * suc segment) u.chunks)
        where
          chunks_are : u.chunks ≡ chunks
          chunks_are = shows.chunks_stay

          split : (segment_chunks * suc segment < u.chunks) ⊎ (u.chunks ≤ segment_chunks * suc segment) → IsComplete chunks number all_moves ⊎ ((t : ℕ) × (v.pass ≡ Scanning number t) × (s < t))
          split (inl more) = inr (suc segment, m.goes_on more, lt)
          split (inr le) = inl (λ r inside. below r (omega arith) (cases_eq r segment))

      old : (n s : ℕ) → IsComplete chunks n done ⊎ ((t : ℕ) × (u.pass ≡ Scanning n t) × (s < t)) → IsComplete chunks n all_moves ⊎ ((t : ℕ) × (v.pass ≡ Scanning n t) × (s < t))
      old n s (inl all) = inl (complete_more chunks n done (apply number segment ∷ []) all)
      old n s (inr (t, e, lt)) =
          let was : u.pass ≡ Scanning number segment = m.was in
          let en : number ≡ n = cc in
          let et : t ≡ segment = cc in
          subst (λ z. IsComplete chunks z all_moves ⊎ ((t : ℕ) × (v.pass ≡ Scanning z t) × (s < t))) en (itself s (omega arith))

      applied : (n s : ℕ) → Contains done (apply n s) ⊎ (apply number segment ≡ apply n s) → IsComplete chunks n all_moves ⊎ ((t : ℕ) × (v.pass ≡ Scanning n t) × (s < t))
      applied n s (inl i) = old n s (shows.applied n s i)
      applied n s (inr e) =
          let en : number ≡ n = cc in
          let es : s ≡ segment = cc in
          subst (λ z. IsComplete chunks z all_moves ⊎ ((t : ℕ) × (v.pass ≡ Scanning z t) × (s < t))) en (itself s (omega arith))

  shows_on : (chunks : ℕ) (done : List Move) (move : Move) (u v : Ledger Set) → Makes has move u v → Shows chunks done u → Shows chunks (done ++ move ∷ []) v
  shows_on chunks done (take_next size b) u v m shows = pass_stays chunks done (take_next size b) u v (λ n s e. cc) m.joins.chunks m.joins.pass shows
  shows_on chunks done (take_first size b) u v m shows = pass_stays chunks done (take_first size b) u v (λ n s e. cc) m.joins.chunks m.joins.pass shows
  shows_on chunks done (take_whole b) u v m shows = pass_stays chunks done (take_whole b) u v (λ n s e. cc) m.joins.chunks m.joins.pass shows
  shows_on chunks done (adopt b) u v m shows = pass_stays chunks done (adopt b) u v (λ n s e. cc) m.joins.chunks m.joins.pass shows
  shows_on chunks done relink u v m shows = pass_stays chunks done relink u v (λ n s e. cc) m.codes.chunks m.pass shows
  shows_on chunks done reserve u v m shows = pass_stays chunks done reserve u v (λ n s e. cc) m.codes.chunks m.pass shows
  shows_on chunks done freeze u v m shows = pass_stays chunks done freeze u v (λ n s e. cc) m.freezes.codes.chunks m.pass shows
  shows_on chunks done freeze_of_pass u v m shows = other_move chunks done freeze_of_pass u v (λ n s e. cc) m.freezes.codes.chunks
      (λ n t e. let now : v.pass ≡ Marked (suc u.completed_number) = m.pass in inl cc) (λ n t e. let was : u.pass ≡ Begun = m.begun in inl cc) shows
  shows_on chunks done complete u v m shows = pass_stays chunks done complete u v (λ n s e. cc) m.codes.chunks m.pass shows
  shows_on chunks done begin_pass u v m shows = other_move chunks done begin_pass u v (λ n s e. cc) m.only.codes.chunks
      (λ n t e. let now : v.pass ≡ Begun = m.now in inl cc) (λ n t e. let was : u.pass ≡ Idle = m.was in inl cc) shows
  shows_on chunks done begin_scan u v m shows = other_move chunks done begin_scan u v (λ n s e. cc) m.only.codes.chunks
      (λ n t e. let now : v.pass ≡ Scanning m.number 0 = m.now in inr cc) (λ n t e. let was : u.pass ≡ Marked m.number = m.was in inl cc) shows
  shows_on chunks done end_pass u v m shows = other_move chunks done end_pass u v (λ n s e. cc) m.only.codes.chunks
      (λ n t e. let now : v.pass ≡ Idle = m.now in inl cc) (λ n t e. inr (m.unapplied n t (inr e))) shows
  shows_on chunks done (apply number segment) u v m shows = apply_move chunks done number segment u v m shows

  shows_settled : (chunks : ℕ) (done : List Move) (u v : Ledger Set) → Stays has u v → Shows chunks done u → Shows chunks done v
  shows_settled chunks done u v m shows = record {
    chunks_stay = m.codes.chunks ∙ shows.chunks_stay;
    running = λ n t e. record { now = e; first_ones = (shows.running n t (sym m.pass.pass ∙ e)).first_ones };
    applied = λ n s i. same n s (shows.applied n s i);
  }
    where
      same : (n s : ℕ) → IsComplete chunks n done ⊎ ((t : ℕ) × (u.pass ≡ Scanning n t) × (s < t)) → IsComplete chunks n done ⊎ ((t : ℕ) × (v.pass ≡ Scanning n t) × (s < t))
      same n s (inl all) = inl all
      same n s (inr (t, e, lt)) = inr (t, m.pass.pass ∙ e, lt)

  shows_along : (chunks : ℕ) (done moves : List Move) (x y : Ledger Set) → Run has moves x y → Shows chunks done x → Shows chunks (done ++ moves) y
  shows_along chunks done [] x y m shows = subst (λ ms. Shows chunks ms y) (sym (append-nil done)) (shows_settled chunks done x y m shows)
  shows_along chunks done (move ∷ moves) x y (u, v, stays, m, rest) shows =
      subst (λ ms. Shows chunks ms y) (append_assoc done (move ∷ []) moves)
      (shows_along chunks (done ++ move ∷ []) moves v y rest (shows_on chunks done move u v m (shows_settled chunks done x u stays shows)))

  shows_opened : (x : Ledger Set) → IsOpened has x → Shows x.chunks [] x
  shows_opened x o = record {
    chunks_stay = refl;
    running = λ n t e. let off : x.pass ≡ Idle = o.no_pass in cc;
    applied = λ n s i. absurd (let lt : i.0 < 0 = i.1 in omega arith);
  }

  pub applies_all_or_runs : AppliesAllOrRuns has
  applies_all_or_runs moves x y o run n s i = split (shows.applied n s i)
    where
      shows : Shows x.chunks moves y
      shows = shows_along x.chunks [] moves x y run (shows_opened x o)

      split : IsComplete x.chunks n moves ⊎ ((t : ℕ) × (y.pass ≡ Scanning n t) × (s < t)) → IsComplete x.chunks n moves ⊎ ((t : ℕ) × (y.pass ≡ Scanning n t) × (s < t) × ((r : ℕ) → r < t → Contains moves (apply n r)))
      split (inl all) = inl all
      split (inr (t, e, lt)) = inr (t, e, lt, (shows.running n t e).first_ones)

  -- between their applies of a segment, no pass but these two applies anything
  spares_along : (c p q : ℕ) (all : List Move) (y : Ledger Set) → y.pass ≡ Scanning q (segment_of c) → ((r t : ℕ) → p < r → r < q → Contains all (apply r t) → ⊥)
      → (moves : List Move) (x : Ledger Set) → Run has moves x y → Past has p (segment_of c) x → ((move : Move) → Contains moves move → Contains all move)
      → AllByRecursion (NoJoinIn c) moves → AllByRecursion (Spares c p q) moves
  spares_along c p q all y e none [] x m past inside nj = tt
  spares_along c p q all y e none (move ∷ moves) x (u, v, stays, m, rest) past inside (no_join, others) = (
    (no_join, λ n t is. only n t (subst (λ z. Makes has z u v) is m) (subst (λ z. Contains all z) is (inside move (0, omega arith, refl))) (cases_eq n p) (cases_eq n q)),
    spares_along c p q all y e none moves v rest past_v (λ d i. inside d (Contains-append_right (move ∷ []) moves d i)) others,
  )
    where
      past_u : Past has p (segment_of c) u
      past_u = past_settled has p (segment_of c) x u stays past

      past_v : Past has p (segment_of c) v
      past_v = past_on has p (segment_of c) move u v m past_u (keeps_sound has move u v m past_u.sound)

      after_first : (n t : ℕ) → n ≢ p → ((n ≡ p) × (segment_of c < t)) ⊎ (p < n) → p < n
      after_first n t ne (inl (f, lt)) = absurd (ne f)
      after_first n t ne (inr lt) = lt

      before_second : (n t : ℕ) → n ≢ q → ((q ≡ n) × (t < segment_of c)) ⊎ (n < q) → n < q
      before_second n t ne (inl (f, lt)) = absurd (ne (sym f))
      before_second n t ne (inr lt) = lt

      only : (n t : ℕ) → Applies has n t u v → Contains all (apply n t) → (n ≡ p) ⊎ (n ≡ p → ⊥) → (n ≡ q) ⊎ (n ≡ q → ⊥) → (n ≡ p) ⊎ (n ≡ q)
      only n t a i (inl same) other = inl same
      only n t a i (inr np) (inl same) = inr same
      only n t a i (inr np) (inr nq) =
          let past_here : Past has n t y = past_along has n t moves v y rest (past_after has n t u v past_u.sound a) in
          absurd (none n t (after_first n t np (past_u.later n t (inr a.was))) (before_second n t nq (past_here.later q (segment_of c) (inr e))) i)

  pub frees_after_two_passes : FreesAfterTwoPasses has
  frees_after_two_passes c p q moves o last twice passes =
      frees_twice_unmarked has c p q twice.between twice.w twice.x twice.y last sound_w twice.ordinary twice.first twice.goes_on spared twice.second
    where
      segment : ℕ
      segment = segment_of c

      sound_w : IsSound has twice.w
      sound_w = runs_sound has twice.before o twice.w twice.leads (opens_sound has o twice.opens)

      -- the moves up to p's apply, up to q's, and those that follow
      to_first : List Move
      to_first = twice.before ++ apply p segment ∷ []

      done : List Move
      done = to_first ++ twice.between

      rest : List Move
      rest = apply q segment ∷ twice.after

      whole : done ++ rest ≡ moves
      whole = append_assoc to_first twice.between rest ∙ append_assoc twice.before (apply p segment ∷ []) (twice.between ++ rest) ∙ sym twice.all

      shows_x : Shows o.chunks to_first twice.x
      shows_x = shows_on o.chunks twice.before (apply p segment) twice.w twice.x twice.first.makes (shows_along o.chunks [] twice.before o twice.w twice.leads (shows_opened o twice.opens))

      shows_y : Shows o.chunks done twice.y
      shows_y = shows_along o.chunks to_first twice.between twice.x twice.y twice.goes_on shows_x

      scans : twice.y.pass ≡ Scanning q segment
      scans = twice.second.makes.was

      none : (r t : ℕ) → p < r → r < q → Contains done (apply r t) → ⊥
      none r t above below i = split (shows_y.applied r t i)
        where
          split : IsComplete o.chunks r done ⊎ ((s : ℕ) × (twice.y.pass ≡ Scanning r s) × (t < s)) → ⊥
          split (inl all) = passes.none_between r above below (subst (λ ms. IsComplete o.chunks r ms) whole (complete_more o.chunks r done rest all))
          split (inr (s, e, lt)) = let now : twice.y.pass ≡ Scanning q segment = scans in let same : r ≡ q = cc in absurd (omega arith)

      spared : AllByRecursion (Spares c p q) twice.between
      spared =
          spares_along c p q done twice.y scans none twice.between twice.x twice.goes_on (past_after has p segment twice.w twice.x sound_w twice.first.makes)
          (λ d i. Contains-append_right to_first twice.between d i) twice.no_join
