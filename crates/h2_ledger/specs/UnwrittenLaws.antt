-- What is yet to be written lies apart from all that a header or the pass reads.
use Rattle.std.proofs.Common.{[], ◌∷◌, ℕ, suc, ◌≡◌, ◌⊎◌, ◌<◌, Some, None, sym, ◌∙◌, subst, inl, inr, arith}
use Rattle.h2_num.specs.declared.block.Block.{Block}
use Rattle.h2_ledger.specs.declared.pass.Pass.TheVariants.{Idle, Begun, Marked, Scanning}
use Rattle.h2_ledger.specs.Ledger.{AreDisjoint, Ledger, IsInUse, by_completed, by_frozen, HasMarked, IsMarked}
use Rattle.h2_ledger.specs.Moves.{take_next, take_first, take_whole, adopt, relink, reserve, freeze, freeze_of_pass, complete, begin_pass, begin_scan, end_pass, apply, Within, WithinAnd, RootsStay, PassStays, Joins, IsGranted, at_cursor, at_lowest, at_whole, Freezes}
use Rattle.h2_ledger.specs.Sound.{IsSound, UnwrittenIsApart}
use Rattle.h2_ledger.specs.Laws.{KeepsApart, OpensApart, RunsApart}
use Rattle.h2_ledger.specs.PartLaws.{has_marked_stays, is_marked_stays, frozen_stays}
use Rattle.h2_ledger.specs.SoundLaws.{keeps_sound}
use Rattle.h2_ledger.specs.RunLaws.{stays_sound}
use Rattle.h2_ledger.specs.TakeLaws.{granted_apart}
use Rattle.h2_ledger.specs.FreedLaws.{applied_pass}

module _ {Set : Type 0} (◌∈◌ : Block → Set → Type 0) where
  infix 40 ◌∈◌
  -- roots stay, and no more is marked than before
  lessens : (x y : Ledger Set) → RootsStay ◌∈◌ x y → Within ◌∈◌ y.fresh x.fresh → ((n s : ℕ) → HasMarked y.pass n s → (t : ℕ) × HasMarked x.pass n t) → ((n s : ℕ) → HasMarked y.pass n s → Within ◌∈◌ y.marked x.marked) → UnwrittenIsApart ◌∈◌ x → UnwrittenIsApart ◌∈◌ y
  lessens x y r fresh pass marked u = record {
    fresh_completed = λ a b i j. u.fresh_completed a b (fresh a i) ((r.completed b).0 j);
    fresh_frozen = λ a b i j. u.fresh_frozen a b (fresh a i) (frozen_stays ◌∈◌ x y r b j);
    fresh_marked = λ a b i j. u.fresh_marked a b (fresh a i) (j.0, (pass j.0 j.1 j.2).0, (pass j.0 j.1 j.2).1, marked j.0 j.1 j.2 b j.3);
    queued_completed = λ a b i j. u.queued_completed a b (r.queued a i) ((r.completed b).0 j);
    queued_marked = λ n s m p e lt a b i j. u.queued_marked n (pass n s p).0 m (pass n s p).1 (sym r.frozen_number ∙ e) lt a b (r.queued a i) (marked n s p b j);
  }

  pass_stays : (x y : Ledger Set) → RootsStay ◌∈◌ x y → Within ◌∈◌ y.fresh x.fresh → PassStays ◌∈◌ x y → UnwrittenIsApart ◌∈◌ x → UnwrittenIsApart ◌∈◌ y
  pass_stays x y r fresh p u = lessens x y r fresh (λ n s h. (s, has_marked_stays ◌∈◌ x y p n s h)) (λ n s h b i. (p.marked b).0 i) u

  taken : (d : Block) (x y : Ledger Set) → Joins ◌∈◌ d x y → WithinAnd ◌∈◌ y.fresh x.fresh d → IsGranted ◌∈◌ d x → IsSound ◌∈◌ x → UnwrittenIsApart ◌∈◌ x → UnwrittenIsApart ◌∈◌ y
  taken d x y j fresh g sx u = record {
    fresh_completed = λ a b i k. either a b (inl (by_completed ((j.roots.completed b).0 k))) (λ h. u.fresh_completed a b h ((j.roots.completed b).0 k)) (fresh a i);
    fresh_frozen = λ a b i k. either a b (inl (by_frozen (frozen_stays ◌∈◌ x y j.roots b k))) (λ h. u.fresh_frozen a b h (frozen_stays ◌∈◌ x y j.roots b k)) (fresh a i);
    fresh_marked = λ a b i k. either a b (inr (is_marked_stays ◌∈◌ x y j.pass b k)) (λ h. u.fresh_marked a b h (is_marked_stays ◌∈◌ x y j.pass b k)) (fresh a i);
    queued_completed = λ a b i k. u.queued_completed a b (j.roots.queued a i) ((j.roots.completed b).0 k);
    queued_marked = λ n s m p e lt a b i k. u.queued_marked n s m (has_marked_stays ◌∈◌ x y j.pass n s p) (sym j.roots.frozen_number ∙ e) lt a b (j.roots.queued a i) ((j.pass.marked b).0 k);
  }
    where
      either : (a b : Block) → IsInUse ◌∈◌ x b ⊎ IsMarked ◌∈◌ x b → (a ∈ x.fresh → AreDisjoint a b) → (a ∈ x.fresh) ⊎ (a ≡ d) → AreDisjoint a b
      either a b h old (inl i) = old i
      either a b h old (inr e) = subst (λ z. AreDisjoint z b) (sym e) (granted_apart ◌∈◌ d x g sx b h)

  frozen : (x y : Ledger Set) → Freezes ◌∈◌ x y → ((n s : ℕ) → HasMarked y.pass n s → (n < suc x.completed_number) → HasMarked x.pass n s × Within ◌∈◌ y.marked x.marked) → UnwrittenIsApart ◌∈◌ x → UnwrittenIsApart ◌∈◌ y
  frozen x y f marked u = record {
    fresh_completed = λ a b i j. absurd (f.none_fresh a i);
    fresh_frozen = λ a b i j. absurd (f.none_fresh a i);
    fresh_marked = λ a b i j. absurd (f.none_fresh a i);
    queued_completed = λ a b i j. u.fresh_completed a b (f.queued a i) ((f.completed b).0 j);
    queued_marked = λ n s m p e lt a b i j. later n s p (marked n s p (let number : y.frozen_number ≡ Some (suc x.completed_number) = f.number in let same : m ≡ suc x.completed_number = cc in omega arith)) a b (f.queued a i) j;
  }
    where
      later : (n s : ℕ) → HasMarked y.pass n s → HasMarked x.pass n s × Within ◌∈◌ y.marked x.marked → (a b : Block) → a ∈ x.fresh → b ∈ y.marked → AreDisjoint a b
      later n s p (old, within) a b i j = u.fresh_marked a b i (n, s, old, within b j)

  pub keeps_apart : KeepsApart ◌∈◌
  keeps_apart (take_next size d) x y m sx u = taken d x y m.joins m.fresh (at_cursor size m.place) sx u
  keeps_apart (take_first size d) x y m sx u = taken d x y m.joins m.fresh (at_lowest size m.radix m.place) sx u
  keeps_apart (take_whole d) x y m sx u = taken d x y m.joins m.fresh (at_whole m.radix m.place) sx u
  keeps_apart (adopt d) x y m sx u = pass_stays x y m.joins.roots m.fresh m.joins.pass u
  keeps_apart relink x y m sx u = pass_stays x y m.roots m.fresh m.pass u
  keeps_apart reserve x y m sx u = pass_stays x y m.roots m.uses.fresh m.pass u
  keeps_apart freeze x y m sx u = frozen x y m.freezes (λ n s p lt. (has_marked_stays ◌∈◌ x y m.pass n s p, λ b i. (m.pass.marked b).0 i)) u
  keeps_apart freeze_of_pass x y m sx u = frozen x y m.freezes (λ n s p lt. absurd (own n s p lt)) u
    where
      own : (n s : ℕ) → HasMarked y.pass n s → n < suc x.completed_number → ⊥
      own n s (inl h) lt = let now : y.pass ≡ Marked (suc x.completed_number) = m.pass in let e : y.pass ≡ Marked n = h.0 in let same : n ≡ suc x.completed_number = cc in absurd (omega arith)
      own n s (inr e) lt = let now : y.pass ≡ Marked (suc x.completed_number) = m.pass in cc
  keeps_apart complete x y m sx u = record {
    fresh_completed = λ a b i j. u.fresh_frozen a b (m.uses.fresh a i) (y.completed_number, m.was, (m.completed b).0 j);
    fresh_frozen = λ a b i j. let none : y.frozen_number ≡ None = m.frozen_number in let some : y.frozen_number ≡ Some j.0 = j.1 in absurd (cc);
    fresh_marked = λ a b i j. u.fresh_marked a b (m.uses.fresh a i) (is_marked_stays ◌∈◌ x y m.pass b j);
    queued_completed = λ a b i j. absurd (m.none_queued a i);
    queued_marked = λ n s k p e lt a b i j. absurd (m.none_queued a i);
  }
  keeps_apart begin_pass x y m sx u = lessens x y m.only.roots m.only.uses.fresh (λ n s p. absurd (none n s p)) (λ n s p. absurd (none n s p)) u
    where
      none : (n s : ℕ) → HasMarked y.pass n s → ⊥
      none n s (inl h) = let now : y.pass ≡ Begun = m.now in let e : y.pass ≡ Marked n = h.0 in cc
      none n s (inr e) = let now : y.pass ≡ Begun = m.now in cc
  keeps_apart end_pass x y m sx u = lessens x y m.only.roots m.only.uses.fresh (λ n s p. absurd (none n s p)) (λ n s p. absurd (none n s p)) u
    where
      none : (n s : ℕ) → HasMarked y.pass n s → ⊥
      none n s (inl h) = let now : y.pass ≡ Idle = m.now in let e : y.pass ≡ Marked n = h.0 in cc
      none n s (inr e) = let now : y.pass ≡ Idle = m.now in cc
  keeps_apart begin_scan x y m sx u = lessens x y m.only.roots m.only.uses.fresh (λ n s p. (s, was n s p)) (λ n s p b i. (m.marked b).0 i) u
    where
      was : (n s : ℕ) → HasMarked y.pass n s → HasMarked x.pass n s
      was n s (inl p) = let now : y.pass ≡ Scanning m.number 0 = m.now in let e : y.pass ≡ Marked n = p.0 in cc
      was n s (inr e) =
          let now : y.pass ≡ Scanning m.number 0 = m.now in
          let before : x.pass ≡ Marked m.number = m.was in
          inl (let number : n ≡ m.number = cc in cc, cc)
  keeps_apart (apply number segment) x y m sx u = lessens x y m.roots m.uses.fresh (λ n s p. (segment, inr (rw (applied_pass ◌∈◌ number segment x y m n s p).0 m.was))) (λ n s p b i. (m.marked b).0 i) u

  pub opens_apart : OpensApart ◌∈◌
  opens_apart x o = record {
    fresh_completed = λ a b i j. absurd (o.fresh a i);
    fresh_frozen = λ a b i j. absurd (o.fresh a i);
    fresh_marked = λ a b i j. absurd (o.fresh a i);
    queued_completed = λ a b i j. absurd (o.queued a i);
    queued_marked = λ n s m p e lt a b i j. absurd (o.queued a i);
  }

  pub runs_apart : RunsApart ◌∈◌
  runs_apart [] x y m sx u = pass_stays x y m.roots m.fresh m.pass u
  runs_apart (move ∷ moves) x y (v, w, stays, m, rest) sx u =
      let sv : IsSound ◌∈◌ v = stays_sound ◌∈◌ x v stays sx in
      runs_apart moves w y rest (keeps_sound ◌∈◌ move v w m sv) (keeps_apart move v w m sv (pass_stays x v stays.roots stays.fresh stays.pass u))
