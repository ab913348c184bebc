-- apply: a segment is unmarked_after.
use Rattle.std.proofs.Common.{ℕ, suc, ◌≡◌, ◌≢◌, ◌⊎◌, ◌*◌, ◌≤◌, ◌<◌, refl, sym, ap, ◌∙◌, subst, inl, inr, arith}
use Rattle.std.proofs.lemmas.Bool.{cases_eq, cases_lt}
use Rattle.h2_num.specs.declared.block.Block.{Block}
use Rattle.h2_geom.specs.Geometry.{segment_chunks, segment_of}
use Rattle.h2_codes.specs.Bulkfree.{seen_code, unseen_code}
use Rattle.h2_codes.specs.declared.code.Code.{Code}
use Rattle.h2_codes.specs.declared.code.Code.TheVariants.{Free, Used}
use Rattle.h2_ledger.specs.declared.pass.Pass.TheVariants.{Idle, Marked, Scanning}
use Rattle.h2_codes.specs.Free.{free_below}
use Rattle.h2_ledger.specs.Ledger.{block_chunk, Ledger, HasBlockIn, IsInUse, by_live, by_pin, by_frozen, by_completed, HasMarked, IsMarked, IsTaken, IsInUseSince, since_live, since_pin, since_frozen, since_completed}
use Rattle.h2_ledger.specs.Moves.{Applies}
use Rattle.h2_ledger.specs.Sound.{IsSound}
use Rattle.h2_ledger.specs.CountLaws.{free_more}
use Rattle.h2_ledger.specs.PartLaws.{in_use_too, held_lessens, since_lessens, chunk_stays}

marked_taken : (a b : Code) → b ≡ seen_code a → IsTaken a → IsTaken b
marked_taken a b e (inl p) = inr (e ∙ ap seen_code p)
marked_taken a b e (inr p) = inr (e ∙ ap seen_code p)

unmarked_taken : (a b : Code) → b ≡ unseen_code a → a ≡ Used → IsTaken b
unmarked_taken a b e p = inl (e ∙ ap unseen_code p)

unfreed_taken : (a b : Code) → b ≡ unseen_code a → IsTaken a → b ≢ Free → IsTaken b
unfreed_taken a b e (inl p) nf = absurd (nf (e ∙ ap unseen_code p))
unfreed_taken a b e (inr p) nf = unmarked_taken a b e p

module _ {Set : Type 0} (◌∈◌ : Block → Set → Type 0) where
  infix 40 ◌∈◌
  -- while a pass scans, all that is in use counts as in use since its freeze
  held_since : (x : Ledger Set) → IsSound ◌∈◌ x → (n s : ℕ) → x.pass ≡ Scanning n s → (b : Block) → IsInUse ◌∈◌ x b → IsInUseSince ◌∈◌ n x b
  held_since x sx n s p b (by_live i) = since_live i
  held_since x sx n s p b (by_pin i) = since_pin i
  held_since x sx n s p b (by_frozen (m, e, i)) = since_frozen m e (let next : m ≡ suc x.completed_number = sx.frozen_is_next m e in let out : n ≤ x.completed_number = sx.scans_after_header n s p in omega arith) i
  held_since x sx n s p b (by_completed i) = since_completed (sx.scans_after_header n s p) i

  pub apply_sound : (number segment : ℕ) (x y : Ledger Set) → Applies ◌∈◌ number segment x y → IsSound ◌∈◌ x → IsSound ◌∈◌ y
  apply_sound number segment x y m sx = record {
    covered = λ b h. covered b (held b h) (cases_eq (segment_of (block_chunk b)) segment);
    in_one_chunk = λ b h. sx.in_one_chunk b (either b h);
    marked_or_used = λ n s p b h le. aged n s (now n s p) b le (since_lessens ◌∈◌ x y m.uses m.roots n b h);
    marked_covered = λ n s p b i. marked b ((m.marked b).0 i) (cases_eq (segment_of (block_chunk b)) segment);
    scans_after_header = λ n s e. rw m.roots.completed_number (rw (now n s (inr e)).0 (sx.scans_after_header number segment m.was));
    frozen_is_next = λ n e. sx.frozen_is_next n (sym m.roots.frozen_number ∙ e) ∙ ap suc (sym m.roots.completed_number);
    below_cursor = λ k at e b h same. sx.below_cursor k at (m.forgotten k at e).0 b (either b h) same;
    cursor_taken = λ k at e. kept_taken at.chunk (sx.cursor_taken k at (m.forgotten k at e).0) (m.forgotten k at e).1 (cases_eq (segment_of at.chunk) segment);
    cursors_apart = λ j k a b ea eb same. sx.cursors_apart j k a b (m.forgotten j a ea).0 (m.forgotten k b eb).0 same;
    reserved_is_free = let h : x.reserved ≤ free_below x.code x.chunks = sx.reserved_is_free in let more : free_below x.code x.chunks ≤ free_below y.code x.chunks = free_more x.code y.code (λ c f. still_free c f (cases_eq (segment_of c) segment)) x.chunks in rw (m.chunks, m.reserved) (omega arith);
  }
    where
      held : (b : Block) → IsInUse ◌∈◌ y b → IsInUse ◌∈◌ x b
      held b h = held_lessens ◌∈◌ x y m.uses m.roots b h

      -- a pass that has marked something afterwards is this one, one segment on
      now : (n s : ℕ) → HasMarked y.pass n s → (n ≡ number) × (s ≡ suc segment)
      now n s p = split (cases_lt (segment_chunks * suc segment) x.chunks) p
        where
          split : (segment_chunks * suc segment < x.chunks) ⊎ (x.chunks ≤ segment_chunks * suc segment) → HasMarked y.pass n s → (n ≡ number) × (s ≡ suc segment)
          split (inl lt) (inl p) = let on : y.pass ≡ Scanning number (suc segment) = m.goes_on lt in let e : y.pass ≡ Marked n = p.0 in cc
          split (inl lt) (inr e) = let on : y.pass ≡ Scanning number (suc segment) = m.goes_on lt in (cc, cc)
          split (inr le) (inl p) = let all : segment_chunks * suc segment ≡ x.chunks = (let in_volume : segment_chunks * suc segment ≤ x.chunks = m.in_volume in omega arith) in let off : y.pass ≡ Idle = m.ends all in let e : y.pass ≡ Marked n = p.0 in cc
          split (inr le) (inr e) = let all : segment_chunks * suc segment ≡ x.chunks = (let in_volume : segment_chunks * suc segment ≤ x.chunks = m.in_volume in omega arith) in let off : y.pass ≡ Idle = m.ends all in cc

      either : (b : Block) → IsInUse ◌∈◌ y b ⊎ IsMarked ◌∈◌ y b → IsInUse ◌∈◌ x b ⊎ IsMarked ◌∈◌ x b
      either b (inl h) = inl (held b h)
      either b (inr (n, s, p, i)) = inr (number, segment, inr m.was, (m.marked b).0 i)

      applied_taken : (c : ℕ) → IsTaken (x.code c) → HasBlockIn ◌∈◌ x.marked c ⊎ (x.code c ≡ Used) → (HasBlockIn ◌∈◌ x.marked c × (y.code c ≡ seen_code (x.code c))) ⊎ ((HasBlockIn ◌∈◌ x.marked c → ⊥) × (y.code c ≡ unseen_code (x.code c))) → IsTaken (y.code c)
      applied_taken c u a (inl (i, e)) = marked_taken (x.code c) (y.code c) e u
      applied_taken c u (inl i) (inr (ni, e)) = absurd (ni i)
      applied_taken c u (inr used) (inr (ni, e)) = unmarked_taken (x.code c) (y.code c) e used

      covered : (b : Block) → IsInUse ◌∈◌ x b → (segment_of (block_chunk b) ≡ segment) ⊎ (segment_of (block_chunk b) ≢ segment) → IsTaken (y.code (block_chunk b))
      covered b h (inl e) = applied_taken (block_chunk b) (sx.covered b h) (sx.marked_or_used number segment (inr m.was) b (held_since x sx number segment m.was b h) (omega arith)) (m.applied (block_chunk b) e)
      covered b h (inr ne) = in_use_too (x.code (block_chunk b)) (y.code (block_chunk b)) (m.elsewhere (block_chunk b) ne) (sx.covered b h)

      marked : (b : Block) → b ∈ x.marked → (segment_of (block_chunk b) ≡ segment) ⊎ (segment_of (block_chunk b) ≢ segment) → IsTaken (y.code (block_chunk b))
      marked b i (inl e) = applied_taken (block_chunk b) (sx.marked_covered number segment (inr m.was) b i) (inl (b, i, refl)) (m.applied (block_chunk b) e)
      marked b i (inr ne) = in_use_too (x.code (block_chunk b)) (y.code (block_chunk b)) (m.elsewhere (block_chunk b) ne) (sx.marked_covered number segment (inr m.was) b i)

      -- a staged or used chunk that isn't free now is staged or used
      kept_taken : (c : ℕ) → IsTaken (x.code c) → y.code c ≢ Free → (segment_of c ≡ segment) ⊎ (segment_of c ≢ segment) → IsTaken (y.code c)
      kept_taken c t nf (inr ne) = in_use_too (x.code c) (y.code c) (m.elsewhere c ne) t
      kept_taken c t nf (inl here) = split (m.applied c here)
        where
          split : (HasBlockIn ◌∈◌ x.marked c × (y.code c ≡ seen_code (x.code c))) ⊎ ((HasBlockIn ◌∈◌ x.marked c → ⊥) × (y.code c ≡ unseen_code (x.code c))) → IsTaken (y.code c)
          split (inl (i, e)) = marked_taken (x.code c) (y.code c) e t
          split (inr (ni, e)) = unfreed_taken (x.code c) (y.code c) e t nf

      kept : (c : ℕ) → segment_of c ≢ segment → HasBlockIn ◌∈◌ x.marked c ⊎ (x.code c ≡ Used) → HasBlockIn ◌∈◌ y.marked c ⊎ (y.code c ≡ Used)
      kept c ne (inl i) = inl (chunk_stays ◌∈◌ x y m.marked c i)
      kept c ne (inr u) = inr (m.elsewhere c ne ∙ u)

      aged : (n s : ℕ) → (n ≡ number) × (s ≡ suc segment) → (b : Block) → s ≤ segment_of (block_chunk b) → IsInUseSince ◌∈◌ n x b → HasBlockIn ◌∈◌ y.marked (block_chunk b) ⊎ (y.code (block_chunk b) ≡ Used)
      aged n s (en, es) b le h = kept (block_chunk b) (λ e. absurd (omega arith)) (sx.marked_or_used number segment (inr m.was) b (subst (λ z. IsInUseSince ◌∈◌ z x b) en h) (omega arith))

      still_free : (c : ℕ) → x.code c ≡ Free → (segment_of c ≡ segment) ⊎ (segment_of c ≢ segment) → y.code c ≡ Free
      still_free c f (inr ne) = m.elsewhere c ne ∙ f
      still_free c f (inl e) = split (m.applied c e)
        where
          split : (HasBlockIn ◌∈◌ x.marked c × (y.code c ≡ seen_code (x.code c))) ⊎ ((HasBlockIn ◌∈◌ x.marked c → ⊥) × (y.code c ≡ unseen_code (x.code c))) → y.code c ≡ Free
          split (inl (i, e)) = e ∙ ap seen_code f
          split (inr (ni, e)) = e ∙ ap unseen_code f
