-- The moves of a pass from ledger to ledger.
use Rattle.std.proofs.Common.{◌≡◌, ◌⊎◌, ◌<◌, ◌≤◌, ◌/◌, ℕ, suc, Bool, true, false, MatchBool, List, [], ◌∷◌, arith, ap, sym, ◌∙◌, subst, inl, inr, refl, Option, None, Some}
use Rattle.std.proofs.lemmas.Bool.{cases_eq, cases_lt}
use Rattle.h2_num.specs.declared.block.Block.{Block}
use Rattle.h2_geom.specs.Geometry.{segment_of}
use Rattle.h2_codes.specs.Bulkfree.{seen_code, unseen_code, swept_code}
use Rattle.h2_codes.specs.declared.code.Code.{Code}
use Rattle.h2_codes.specs.declared.code.Code.TheVariants.{Free, Reserved}
use Rattle.h2_codes.specs.declared.cursor.Cursor.{Cursor}
use Rattle.h2_ledger.specs.declared.pass.Pass.{Pass}
use Rattle.h2_ledger.specs.declared.pass.Pass.TheVariants.{Idle, Begun, Marked, Scanning}
use Rattle.h2_ledger.specs.Ledger.{block_chunk, LiesInOneChunk, IsTaken, HasBlockIn}
use Rattle.h2_ledger.specs.Moves.{freeze_of_pass, complete, begin_pass, begin_scan, apply, Makes, OnlyPass}
use Rattle.h2_ledger.specs.Runs.{Run, IsOpened}
use Rattle.h2_ledger.specs.RunLaws.{stays_self, run_one, run_append}
use Rattle.h2_ledger_rows.specs.Ledgers.{IsIn, codes_of, resting, flushing}
use Rattle.h2_ledger_rows.specs.Passes.{half_pass, pass_moves, half_applied, applied}
use Rattle.h2_ledger_rows.proofs.Blocks.{Sees, reserved_code, free_code}

pub only : (code : ℕ → Code) (n : ℕ) (completed live : List Block) (p q : Pass) (m k : List Block) → OnlyPass IsIn (resting code n completed live p m) (resting code n completed live q k)
only code n completed live p q m k = record {
  uses = record { live = λ b i. i; pins = λ b i. i; fresh = λ b i. i };
  codes = record { chunks = refl; codes = λ c. refl };
  cursors = record { cursors = λ k. refl };
  reserved = refl;
  roots = record { frozen_number = refl; frozen = λ b. (λ i. i, λ i. i); completed_number = refl; completed = λ b. (λ i. i, λ i. i); queued = λ b i. i };
}

-- a pass begins
pub begins : (code : ℕ → Code) (n : ℕ) (completed live m : List Block) → Makes IsIn begin_pass (resting code n completed live Idle m) (resting code n completed live Begun m)
begins code n completed live m = record { only = only code n completed live Idle Begun m m; was = refl; now = refl }

in_live : (b : Block) (live : List Block) → IsIn b live ⊎ IsIn b [] → IsIn b live
in_live b live (inl i) = i
in_live b live (inr i) = absurd i

-- its own freeze, which marks the live tree
pub freezes : (code : ℕ → Code) (n : ℕ) (completed live m : List Block) → Makes IsIn freeze_of_pass (resting code n completed live Begun m) (flushing code n completed live live (Marked (suc n)) live)
freezes code n completed live m = record {
  freezes = record {
    idle = refl;
    number = refl;
    frozen = λ b. (λ i. i, λ i. i);
    queued = λ b i. i;
    none_fresh = λ b i. i;
    completed_number = refl;
    completed = λ b. (λ i. i, λ i. i);
    uses = record { live = λ b i. i; pins = λ b i. i; fresh = λ b i. i };
    codes = record { chunks = refl; codes = λ c. refl };
    cursors = record { cursors = λ k. refl };
    reserved = refl;
  };
  begun = refl;
  pass = refl;
  marked = λ b. (λ i. inl i, λ i. in_live b live i);
}

-- the header is out
pub completes : (code : ℕ → Code) (n : ℕ) (completed frozen live : List Block) (p : Pass) (m : List Block) → Makes IsIn complete (flushing code n completed frozen live p m) (resting code (suc n) frozen live p m)
completes code n completed frozen live p m = record {
  was = refl;
  completed = λ b. (λ i. i, λ i. i);
  frozen_number = refl;
  none_queued = λ b i. i;
  uses = record { live = λ b i. i; pins = λ b i. i; fresh = λ b i. i };
  codes = record { chunks = refl; codes = λ c. refl };
  cursors = record { cursors = λ k. refl };
  reserved = refl;
  pass = record { pass = refl; marked = λ b. (λ i. i, λ i. i) };
}

-- the scan begins
pub scans : (code : ℕ → Code) (n : ℕ) (completed live m : List Block) → Makes IsIn begin_scan (resting code n completed live (Marked n) m) (resting code n completed live (Scanning n 0) m)
scans code n completed live m = record {
  only = only code n completed live (Marked n) (Scanning n 0) m m;
  number = n;
  was = refl;
  now = refl;
  out = omega arith;
  marked = λ b. (λ i. i, λ i. i);
}

no_cursor : (at : Cursor) → ◌≡◌ {A = Option Cursor} None (Some at) → ⊥
no_cursor at e = cc

-- the first segment is applied: it is reserved, and nothing was marked in it
pub applies_first : (a b c : Code) (p q r : Bool) (n : ℕ) (completed live m : List Block) → Sees m p q r
    → Makes IsIn (apply n 0) (resting (codes_of a b c) n completed live (Scanning n 0) m) (resting (codes_of a b c) n completed live (Scanning n 1) m)
applies_first a b c p q r n completed live m sees = record {
  was = refl;
  chunks = refl;
  in_volume = omega arith;
  applied = λ k e. let lt : k < 256 = low k e in inr (none k lt, stays k lt);
  elsewhere = λ k ne. refl;
  kept = λ k old e ne. e;
  forgotten = λ k new e. absurd (no_cursor new e);
  reserved = refl;
  uses = record { live = λ b i. i; pins = λ b i. i; fresh = λ b i. i };
  roots = record { frozen_number = refl; frozen = λ b. (λ i. i, λ i. i); completed_number = refl; completed = λ b. (λ i. i, λ i. i); queued = λ b i. i };
  marked = λ b. (λ i. i, λ i. i);
  goes_on = λ lt. refl;
  ends = λ e. absurd (let f : 256 ≡ 512 = e in omega arith);
}
  where
    low : (k : ℕ) → segment_of k ≡ 0 → k < 256
    low k e = let f : k / 256 ≡ 0 = e in omega arith

    none : (k : ℕ) → k < 256 → HasBlockIn IsIn m k → ⊥
    none k lt h = sees.no_other k (λ e. absurd (omega arith)) (λ e. absurd (omega arith)) (λ e. absurd (omega arith)) h

    stays : (k : ℕ) → k < 256 → codes_of a b c k ≡ unseen_code (codes_of a b c k)
    stays k lt = let e : codes_of a b c k ≡ Reserved = reserved_code a b c k lt in e ∙ sym (ap unseen_code e)

-- what a pass that marked the set makes of a chunk
abbrev IsSwept : List Block → (ℕ → Code) → (ℕ → Code) → ℕ → Type 0
IsSwept m old new k = (HasBlockIn IsIn m k × (new k ≡ seen_code (old k))) ⊎ ((HasBlockIn IsIn m k → ⊥) × (new k ≡ unseen_code (old k)))

-- what becomes of one of the three chunks
swept : (m : List Block) (k : ℕ) (p : Bool) (old new : Code) → MatchBool p (HasBlockIn IsIn m k) (HasBlockIn IsIn m k → ⊥) → new ≡ swept_code p old
    → (HasBlockIn IsIn m k × (new ≡ seen_code old)) ⊎ ((HasBlockIn IsIn m k → ⊥) × (new ≡ unseen_code old))
swept m k true old new h e = inl (h, e)
swept m k false old new h e = inr (h, e)

-- the second segment is applied, which ends the pass
pub applies_second : (a b c : Code) (p q r : Bool) (n : ℕ) (completed live m : List Block) → Sees m p q r
    → Makes IsIn (apply n 1) (resting (codes_of a b c) n completed live (Scanning n 1) m) (resting (codes_of (swept_code p a) (swept_code q b) (swept_code r c)) n completed live Idle m)
applies_second a b c p q r n completed live m sees = record {
  was = refl;
  chunks = refl;
  in_volume = omega arith;
  applied = λ k e. let f : k / 256 ≡ 1 = e in becomes k (let le : 256 ≤ k = omega arith in le) (cases_eq k 256) (cases_eq k 257) (cases_eq k 258);
  elsewhere = λ k ne. same k ne (cases_lt k 256);
  kept = λ k old e ne. e;
  forgotten = λ k new e. absurd (no_cursor new e);
  reserved = refl;
  uses = record { live = λ b i. i; pins = λ b i. i; fresh = λ b i. i };
  roots = record { frozen_number = refl; frozen = λ b. (λ i. i, λ i. i); completed_number = refl; completed = λ b. (λ i. i, λ i. i); queued = λ b i. i };
  marked = λ b. (λ i. i, λ i. i);
  goes_on = λ lt. absurd (let f : 512 < 512 = lt in omega arith);
  ends = λ e. refl;
}
  where
    becomes : (k : ℕ) → 256 ≤ k → (k ≡ 256) ⊎ (k ≡ 256 → ⊥) → (k ≡ 257) ⊎ (k ≡ 257 → ⊥) → (k ≡ 258) ⊎ (k ≡ 258 → ⊥)
        → IsSwept m (codes_of a b c) (codes_of (swept_code p a) (swept_code q b) (swept_code r c)) k
    becomes k le (inl e) v w = subst (λ (z : ℕ). IsSwept m (codes_of a b c) (codes_of (swept_code p a) (swept_code q b) (swept_code r c)) z) (sym e) (swept m 256 p a (swept_code p a) sees.first refl)
    becomes k le (inr u) (inl e) w = subst (λ (z : ℕ). IsSwept m (codes_of a b c) (codes_of (swept_code p a) (swept_code q b) (swept_code r c)) z) (sym e) (swept m 257 q b (swept_code q b) sees.second refl)
    becomes k le (inr u) (inr v) (inl e) = subst (λ (z : ℕ). IsSwept m (codes_of a b c) (codes_of (swept_code p a) (swept_code q b) (swept_code r c)) z) (sym e) (swept m 258 r c (swept_code r c) sees.third refl)
    becomes k le (inr u) (inr v) (inr w) =
        let old : codes_of a b c k ≡ Free = free_code a b c k le u v w in
        let new : codes_of (swept_code p a) (swept_code q b) (swept_code r c) k ≡ Free = free_code (swept_code p a) (swept_code q b) (swept_code r c) k le u v w in
        inr (sees.no_other k u v w, new ∙ sym (ap unseen_code old))

    same : (k : ℕ) → (k / 256 ≡ 1 → ⊥) → (k < 256) ⊎ (256 ≤ k) → codes_of (swept_code p a) (swept_code q b) (swept_code r c) k ≡ codes_of a b c k
    same k ne (inl lt) = reserved_code (swept_code p a) (swept_code q b) (swept_code r c) k lt ∙ sym (reserved_code a b c k lt)
    same k ne (inr le) =
        free_code (swept_code p a) (swept_code q b) (swept_code r c) k le (λ e. ne (omega arith)) (λ e. ne (omega arith)) (λ e. ne (omega arith))
        ∙ sym (free_code a b c k le (λ e. ne (omega arith)) (λ e. ne (omega arith)) (λ e. ne (omega arith)))

-- a pass over a tree up to its apply of the first segment, and the whole pass
pub half_run : (a b c : Code) (p q r : Bool) (n : ℕ) (completed live m : List Block) → Sees live p q r
    → Run IsIn (half_pass (suc n)) (resting (codes_of a b c) n completed live Idle m) (half_applied (codes_of a b c) (suc n) live)
half_run a b c p q r n completed live m sees = (
  resting (codes_of a b c) n completed live Idle m,
  resting (codes_of a b c) n completed live Begun m,
  stays_self IsIn (resting (codes_of a b c) n completed live Idle m),
  begins (codes_of a b c) n completed live m,
  (
    resting (codes_of a b c) n completed live Begun m,
    flushing (codes_of a b c) n completed live live (Marked (suc n)) live,
    stays_self IsIn (resting (codes_of a b c) n completed live Begun m),
    freezes (codes_of a b c) n completed live m,
    (
      flushing (codes_of a b c) n completed live live (Marked (suc n)) live,
      resting (codes_of a b c) (suc n) live live (Marked (suc n)) live,
      stays_self IsIn (flushing (codes_of a b c) n completed live live (Marked (suc n)) live),
      completes (codes_of a b c) n completed live live (Marked (suc n)) live,
      (
        resting (codes_of a b c) (suc n) live live (Marked (suc n)) live,
        resting (codes_of a b c) (suc n) live live (Scanning (suc n) 0) live,
        stays_self IsIn (resting (codes_of a b c) (suc n) live live (Marked (suc n)) live),
        scans (codes_of a b c) (suc n) live live live,
        run_one IsIn (apply (suc n) 0) (resting (codes_of a b c) (suc n) live live (Scanning (suc n) 0) live) (half_applied (codes_of a b c) (suc n) live) (applies_first a b c p q r (suc n) live live live sees),
      ),
    ),
  ),
)

pub whole_run : (a b c : Code) (p q r : Bool) (n : ℕ) (completed live m : List Block) → Sees live p q r
    → Run IsIn (pass_moves (suc n)) (resting (codes_of a b c) n completed live Idle m) (applied (codes_of (swept_code p a) (swept_code q b) (swept_code r c)) (suc n) live)
whole_run a b c p q r n completed live m sees =
    run_append IsIn (half_pass (suc n)) (apply (suc n) 1 ∷ [])
    (resting (codes_of a b c) n completed live Idle m) (half_applied (codes_of a b c) (suc n) live) (applied (codes_of (swept_code p a) (swept_code q b) (swept_code r c)) (suc n) live)
    (half_run a b c p q r n completed live m sees)
    (run_one IsIn (apply (suc n) 1) (half_applied (codes_of a b c) (suc n) live) (applied (codes_of (swept_code p a) (swept_code q b) (swept_code r c)) (suc n) live) (applies_second a b c p q r (suc n) live live live sees))

-- the volume of a tree was just opened
pub opens : (a b c : Code) (n : ℕ) (tree : List Block) → ((d : Block) → IsIn d tree → LiesInOneChunk d) → ((d : Block) → IsIn d tree → IsTaken (codes_of a b c (block_chunk d))) → IsOpened IsIn (resting (codes_of a b c) n tree tree Idle [])
opens a b c n tree one covered = record {
  live = λ d i. i;
  in_one_chunk = one;
  covered = covered;
  pins = λ d i. i;
  fresh = λ d i. i;
  queued = λ d i. i;
  no_flush = refl;
  no_pass = refl;
  no_cursor = λ k. refl;
  unreserved = refl;
}
