-- What becomes of a chunk in which passes mark nothing.
use Rattle.std.proofs.Common.{ℕ, suc, ◌≡◌, ◌≢◌, ◌⊎◌, ◌≤◌, ◌<◌, ◌*◌, List, [], ◌∷◌, refl, sym, ap, ◌∙◌, subst, ap₂, inl, inr, arith}
use Rattle.std.proofs.lemmas.Bool.{cases_eq, cases_lt}
use Rattle.std.specs.List.{AllByRecursion}
use Rattle.h2_num.specs.declared.block.Block.{Block}
use Rattle.h2_geom.specs.Geometry.{segment_chunks, segment_of}
use Rattle.h2_codes.specs.Bulkfree.{seen_code, unseen_code}
use Rattle.h2_codes.specs.declared.code.Code.{Code}
use Rattle.h2_codes.specs.declared.code.Code.TheVariants.{Free, Reserved, Staged, Used}
use Rattle.h2_ledger.specs.declared.pass.Pass.{Pass}
use Rattle.h2_ledger.specs.declared.pass.Pass.TheVariants.{Idle, Begun, Marked, Scanning}
use Rattle.h2_ledger.specs.Ledger.{block_chunk, Ledger, HasBlockIn, HasMarked}
use Rattle.h2_ledger.specs.Moves.{Move, take_next, take_first, take_whole, adopt, relink, reserve, freeze, freeze_of_pass, complete, begin_pass, begin_scan, end_pass, apply, Makes, Joins, PassStays, Applies}
use Rattle.h2_ledger.specs.Sound.{IsSound}
use Rattle.h2_ledger.specs.Runs.{Stays, Run, Spares, Touches, by_join, by_apply, AppliesUnmarked}
use Rattle.h2_ledger.specs.Laws.{UnmarkedLapses, LeavesFree, RunsLeaveFree, FreesTwiceUnmarked}
use Rattle.h2_ledger.specs.PartLaws.{has_marked_stays}
use Rattle.h2_ledger.specs.SoundLaws.{keeps_sound}
use Rattle.h2_ledger.specs.RunLaws.{stays_sound}

-- free, or staged on its way to free
abbrev Lapsing : Code → Type 0
Lapsing code = (code ≡ Staged) ⊎ (code ≡ Free)

unseen_code_lapses : (a : Code) → a ≢ Reserved → Lapsing (unseen_code a)
unseen_code_lapses Free nr = inr refl
unseen_code_lapses Reserved nr = absurd (nr refl)
unseen_code_lapses Staged nr = inr refl
unseen_code_lapses Used nr = inl refl

module _ {Set : Type 0} (has : Block → Set → Type 0) where
  unmarked_after : (c number : ℕ) (x y : Ledger Set) → AppliesUnmarked has c number x y → y.code c ≡ unseen_code (x.code c)
  unmarked_after c number x y m = split (m.makes.applied c refl)
    where
      split : (HasBlockIn has x.marked c × (y.code c ≡ seen_code (x.code c))) ⊎ ((HasBlockIn has x.marked c → ⊥) × (y.code c ≡ unseen_code (x.code c))) → y.code c ≡ unseen_code (x.code c)
      split (inl (i, e)) = absurd (m.unmarked i)
      split (inr (ni, e)) = e

  pub unmarked_lapses : UnmarkedLapses has
  unmarked_lapses c number x y m =
      (λ free. unmarked_after c number x y m ∙ ap unseen_code free, λ staged. unmarked_after c number x y m ∙ ap unseen_code staged, λ used. unmarked_after c number x y m ∙ ap unseen_code used)

  -- a code that is the same
  same_code : (a b : Code) → b ≡ a → (a ≡ Free → b ≡ Free) × (a ≡ Staged → Lapsing b)
  same_code a b e = (λ f. e ∙ f, λ s. inl (e ∙ s))

  joins_code : (b : Block) (x y : Ledger Set) → Joins has b x y → (c : ℕ) → (block_chunk b ≡ c → ⊥) → (x.code c ≡ Free → y.code c ≡ Free) × (x.code c ≡ Staged → Lapsing (y.code c))
  joins_code b x y j c ne = same_code (x.code c) (y.code c) (j.codes c (λ e. ne (sym e)))

  pub leaves_free : LeavesFree has
  leaves_free c (take_next size b) x y m nt = joins_code b x y m.joins c (λ e. nt (by_join e))
  leaves_free c (take_first size b) x y m nt = joins_code b x y m.joins c (λ e. nt (by_join e))
  leaves_free c (take_whole b) x y m nt = joins_code b x y m.joins c (λ e. nt (by_join e))
  leaves_free c (adopt b) x y m nt = joins_code b x y m.joins c (λ e. nt (by_join e))
  leaves_free c relink x y m nt = same_code (x.code c) (y.code c) (m.codes.codes c)
  leaves_free c reserve x y m nt = same_code (x.code c) (y.code c) (m.codes.codes c)
  leaves_free c freeze x y m nt = same_code (x.code c) (y.code c) (m.freezes.codes.codes c)
  leaves_free c freeze_of_pass x y m nt = same_code (x.code c) (y.code c) (m.freezes.codes.codes c)
  leaves_free c complete x y m nt = same_code (x.code c) (y.code c) (m.codes.codes c)
  leaves_free c begin_pass x y m nt = same_code (x.code c) (y.code c) (m.only.codes.codes c)
  leaves_free c begin_scan x y m nt = same_code (x.code c) (y.code c) (m.only.codes.codes c)
  leaves_free c end_pass x y m nt = same_code (x.code c) (y.code c) (m.only.codes.codes c)
  leaves_free c (apply number segment) x y m nt = split (cases_eq (segment_of c) segment)
    where
      applied : segment_of c ≡ segment → (HasBlockIn has x.marked c × (y.code c ≡ seen_code (x.code c))) ⊎ ((HasBlockIn has x.marked c → ⊥) × (y.code c ≡ unseen_code (x.code c))) → (x.code c ≡ Free → y.code c ≡ Free) × (x.code c ≡ Staged → Lapsing (y.code c))
      applied here (inl (i, e)) = absurd (nt (by_apply number segment refl here i))
      applied here (inr (ni, e)) = (λ f. e ∙ ap unseen_code f, λ s. inr (e ∙ ap unseen_code s))

      split : (segment_of c ≡ segment) ⊎ (segment_of c ≢ segment) → (x.code c ≡ Free → y.code c ≡ Free) × (x.code c ≡ Staged → Lapsing (y.code c))
      split (inl here) = applied here (m.applied c here)
      split (inr ne) = same_code (x.code c) (y.code c) (m.elsewhere c ne)

  on : (a b : Code) → (a ≡ Free → b ≡ Free) × (a ≡ Staged → Lapsing b) → Lapsing a → Lapsing b
  on a b step (inl s) = step.1 s
  on a b step (inr f) = inr (step.0 f)

  -- pass p has unmarked_after segment s: it is past it, or another pass came after it
  pub record Past (p s : ℕ) (u : Ledger Set) : Type 0 where
    pub sound : IsSound has u
    pub out : p ≤ u.completed_number
    pub later : (n t : ℕ) → HasMarked u.pass n t → ((n ≡ p) × (s < t)) ⊎ (p < n)

  past_stays : (p s : ℕ) (u v : Ledger Set) → Past p s u → IsSound has v → PassStays has u v → p ≤ v.completed_number → Past p s v
  past_stays p s u v past sv stays out = record {
    sound = sv;
    out = out;
    later = λ n t h. past.later n t (has_marked_stays has u v stays n t h);
  }

  -- the pass after an apply is the same, one segment on
  pub applied_pass : (number segment : ℕ) (u v : Ledger Set) (m : Applies has number segment u v) (n t : ℕ) → HasMarked v.pass n t → (n ≡ number) × (t ≡ suc segment)
  applied_pass number segment u v m n t h = split (cases_lt (segment_chunks * suc segment) u.chunks) h
    where
      ended : u.chunks ≤ segment_chunks * suc segment → v.pass ≡ Idle
      ended le = m.ends (let in_volume : segment_chunks * suc segment ≤ u.chunks = m.in_volume in omega arith)

      split : (segment_chunks * suc segment < u.chunks) ⊎ (u.chunks ≤ segment_chunks * suc segment) → HasMarked v.pass n t → (n ≡ number) × (t ≡ suc segment)
      split (inl lt) (inl h) = let on : v.pass ≡ Scanning number (suc segment) = m.goes_on lt in let e : v.pass ≡ Marked n = h.0 in cc
      split (inl lt) (inr e) = let on : v.pass ≡ Scanning number (suc segment) = m.goes_on lt in (cc, cc)
      split (inr le) (inl h) = let off : v.pass ≡ Idle = ended le in let e : v.pass ≡ Marked n = h.0 in cc
      split (inr le) (inr e) = let off : v.pass ≡ Idle = ended le in cc

  pub none_marked : (v : Ledger Set) (pass : Pass) → v.pass ≡ pass → (pass ≡ Idle) ⊎ (pass ≡ Begun) → (A : Type 0) (n t : ℕ) → HasMarked v.pass n t → A
  none_marked v pass e (inl f) A n t (inl h) = let g : v.pass ≡ Marked n = h.0 in cc
  none_marked v pass e (inl f) A n t (inr h) = cc
  none_marked v pass e (inr f) A n t (inl h) = let g : v.pass ≡ Marked n = h.0 in cc
  none_marked v pass e (inr f) A n t (inr h) = cc

  pub past_on : (p s : ℕ) (move : Move) (u v : Ledger Set) → Makes has move u v → Past p s u → IsSound has v → Past p s v
  past_on p s (take_next size b) u v m past sv = past_stays p s u v past sv m.joins.pass (rw m.joins.roots.completed_number past.out)
  past_on p s (take_first size b) u v m past sv = past_stays p s u v past sv m.joins.pass (rw m.joins.roots.completed_number past.out)
  past_on p s (take_whole b) u v m past sv = past_stays p s u v past sv m.joins.pass (rw m.joins.roots.completed_number past.out)
  past_on p s (adopt b) u v m past sv = past_stays p s u v past sv m.joins.pass (rw m.joins.roots.completed_number past.out)
  past_on p s relink u v m past sv = past_stays p s u v past sv m.pass (rw m.roots.completed_number past.out)
  past_on p s reserve u v m past sv = past_stays p s u v past sv m.pass (rw m.roots.completed_number past.out)
  past_on p s freeze u v m past sv = past_stays p s u v past sv m.pass (rw m.freezes.completed_number past.out)
  past_on p s freeze_of_pass u v m past sv = record {
    sound = sv;
    out = rw m.freezes.completed_number past.out;
    later = λ n t h. inr (let number : n ≡ suc u.completed_number = number n t h in let out : p ≤ u.completed_number = past.out in omega arith);
  }
    where
      number : (n t : ℕ) → HasMarked v.pass n t → n ≡ suc u.completed_number
      number n t (inl h) = let now : v.pass ≡ Marked (suc u.completed_number) = m.pass in let e : v.pass ≡ Marked n = h.0 in cc
      number n t (inr e) = let now : v.pass ≡ Marked (suc u.completed_number) = m.pass in cc
  past_on p s complete u v m past sv = past_stays p s u v past sv m.pass (let next : v.completed_number ≡ suc u.completed_number = past.sound.frozen_is_next v.completed_number m.was in let out : p ≤ u.completed_number = past.out in omega arith)
  past_on p s begin_pass u v m past sv = record {
    sound = sv;
    out = rw m.only.roots.completed_number past.out;
    later = λ n t h. none_marked v Begun m.now (inr refl) (((n ≡ p) × (s < t)) ⊎ (p < n)) n t h;
  }
  past_on p s end_pass u v m past sv = record {
    sound = sv;
    out = rw m.only.roots.completed_number past.out;
    later = λ n t h. none_marked v Idle m.now (inl refl) (((n ≡ p) × (s < t)) ⊎ (p < n)) n t h;
  }
  past_on p s begin_scan u v m past sv = record {
    sound = sv;
    out = rw m.only.roots.completed_number past.out;
    later = λ n t h. inr (begun n (number n t h) (past.later m.number 0 (inl (m.was, refl))));
  }
    where
      number : (n t : ℕ) → HasMarked v.pass n t → n ≡ m.number
      number n t (inl h) = let now : v.pass ≡ Scanning m.number 0 = m.now in let e : v.pass ≡ Marked n = h.0 in cc
      number n t (inr e) = let now : v.pass ≡ Scanning m.number 0 = m.now in cc

      begun : (n : ℕ) → n ≡ m.number → ((m.number ≡ p) × (s < 0)) ⊎ (p < m.number) → p < n
      begun n e (inl (f, lt)) = absurd (omega arith)
      begun n e (inr lt) = omega arith
  past_on p s (apply number segment) u v m past sv = record {
    sound = sv;
    out = rw m.roots.completed_number past.out;
    later = λ n t h. on_from n t (applied_pass number segment u v m n t h) (past.later number segment (inr m.was));
  }
    where
      on_from : (n t : ℕ) → (n ≡ number) × (t ≡ suc segment) → ((number ≡ p) × (s < segment)) ⊎ (p < number) → ((n ≡ p) × (s < t)) ⊎ (p < n)
      on_from n t (en, et) (inl (e, lt)) = inl (en ∙ e, omega arith)
      on_from n t (en, et) (inr lt) = inr (omega arith)

  -- a pass is past the segment that it has just unmarked_after
  pub past_after : (p segment : ℕ) (u v : Ledger Set) → IsSound has u → Makes has (apply p segment) u v → Past p segment v
  past_after p segment u v su m = record {
    sound = keeps_sound has (apply p segment) u v m su;
    out = rw m.roots.completed_number (su.scans_after_header p segment m.was);
    later = λ n t h. inl (after n t (applied_pass p segment u v m n t h));
  }
    where
      after : (n t : ℕ) → (n ≡ p) × (t ≡ suc segment) → (n ≡ p) × (segment < t)
      after n t (en, et) = (en, omega arith)

  pub past_settled : (p s : ℕ) (u v : Ledger Set) → Stays has u v → Past p s u → Past p s v
  past_settled p s u v m past = past_stays p s u v past (stays_sound has u v m past.sound) m.pass (rw m.roots.completed_number past.out)

  pub past_along : (p s : ℕ) (moves : List Move) (x y : Ledger Set) → Run has moves x y → Past p s x → Past p s y
  past_along p s [] x y m past = past_settled p s x y m past
  past_along p s (move ∷ moves) x y (u, v, stays, m, rest) past =
      let past_u : Past p s u = past_settled p s x u stays past in
      past_along p s moves v y rest (past_on p s move u v m past_u (keeps_sound has move u v m past_u.sound))

  -- a pass doesn't apply a segment again
  pub not_past : (p s : ℕ) (u : Ledger Set) → Past p s u → u.pass ≡ Scanning p s → ⊥
  not_past p s u past e = split (past.later p s (inr e))
    where
      split : ((p ≡ p) × (s < s)) ⊎ (p < p) → ⊥
      split (inl (f, lt)) = absurd (omega arith)
      split (inr lt) = absurd (omega arith)

  stays_lapsing : (c : ℕ) (x y : Ledger Set) → Stays has x y → Lapsing (x.code c) → Lapsing (y.code c)
  stays_lapsing c x y m l = on (x.code c) (y.code c) (same_code (x.code c) (y.code c) (m.codes.codes c)) l

  -- between the applies of two passes a chunk that they spare stays free, or staged on its way to free
  lapses_between : (c p q : ℕ) (moves : List Move) (x y : Ledger Set) → Run has moves x y → AllByRecursion (Spares c p q) moves → Past p (segment_of c) x → y.pass ≡ Scanning q (segment_of c) → Lapsing (x.code c) → Lapsing (y.code c)
  lapses_between c p q [] x y m spared past e l = stays_lapsing c x y m l
  lapses_between c p q (move ∷ moves) x y (u, v, stays, m, rest) ((no_join, only), spared) past e l =
      lapses_between c p q moves v y rest spared (past_on p (segment_of c) move u v m past_u (keeps_sound has move u v m past_u.sound)) e
      (on (u.code c) (v.code c) (leaves_free c move u v m untouched) (stays_lapsing c x u stays l))
    where
      past_u : Past p (segment_of c) u
      past_u = past_settled p (segment_of c) x u stays past

      applied_by : (number segment : ℕ) → segment_of c ≡ segment → Makes has (apply number segment) u v → (number ≡ p) ⊎ (number ≡ q) → ⊥
      applied_by number segment here a (inl same) = not_past p (segment_of c) u past_u (a.was ∙ ap₂ Scanning same (sym here))
      applied_by number segment here a (inr same) = not_past number segment y (past_along number segment moves v y rest (past_after number segment u v past_u.sound a)) (e ∙ ap₂ Scanning (sym same) here)

      untouched : Touches has c move u → ⊥
      untouched (by_join j) = no_join j
      untouched (by_apply number segment is here i) = applied_by number segment here (subst (λ z. Makes has z u v) is m) (only number segment is)

  pub frees_twice_unmarked : FreesTwiceUnmarked has
  frees_twice_unmarked c p q moves w x y z sound ordinary first between spared second =
      last (lapses_between c p q moves x y between spared (past_after p (segment_of c) w x sound first.makes) second.makes.was start)
    where
      start : Lapsing (x.code c)
      start = subst Lapsing (sym (unmarked_after c p w x first)) (unseen_code_lapses (w.code c) ordinary)

      last : Lapsing (y.code c) → z.code c ≡ Free
      last (inl staged) = (unmarked_lapses c q y z second).1 staged
      last (inr free) = (unmarked_lapses c q y z second).0 free

  -- one step after another
  then : (a b d : Code) → (a ≡ Free → b ≡ Free) × (a ≡ Staged → Lapsing b) → (b ≡ Free → d ≡ Free) × (b ≡ Staged → Lapsing d) → (a ≡ Free → d ≡ Free) × (a ≡ Staged → Lapsing d)
  then a b d first second = (λ f. second.0 (first.0 f), λ s. on b d second (first.1 s))

  pub runs_leave_free : RunsLeaveFree has
  runs_leave_free c [] x y m = same_code (x.code c) (y.code c) (m.codes.codes c)
  runs_leave_free c (move ∷ moves) x y (u, v, stays, m, untouched, rest) =
      then (x.code c) (u.code c) (y.code c) (same_code (x.code c) (u.code c) (stays.codes.codes c))
      (then (u.code c) (v.code c) (y.code c) (leaves_free c move u v m untouched) (runs_leave_free c moves v y rest))
