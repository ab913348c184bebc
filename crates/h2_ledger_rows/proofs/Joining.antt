-- A block of chunk 258 is shared, and let go of.
use Rattle.std.proofs.Common.{◌≡◌, ◌⊎◌, ◌≤◌, ◌+◌, ◌*◌, ◌%◌, ℕ, suc, sym, subst, true, false, List, [], ◌∷◌, arith, inl, inr, refl, Option, None, Some}
use Rattle.h2_num.specs.declared.block.Block.{Block}
use Rattle.h2_codes.specs.declared.code.Code.{Code}
use Rattle.h2_codes.specs.declared.code.Code.TheVariants.{Used}
use Rattle.h2_codes.specs.declared.cursor.Cursor.{Cursor}
use Rattle.h2_ledger.specs.declared.pass.Pass.{Pass}
use Rattle.h2_ledger.specs.declared.pass.Pass.TheVariants.{Idle, Begun, Marked, Scanning}
use Rattle.h2_ledger.specs.Ledger.{block_chunk, LiesInOneChunk, IsTaken}
use Rattle.h2_ledger.specs.Moves.{adopt, relink, apply, Makes}
use Rattle.h2_ledger.specs.Runs.{Run, IsOpened}
use Rattle.h2_ledger.specs.RunLaws.{stays_self, run_one}
use Rattle.h2_ledger_rows.specs.Ledgers.{IsIn, chunk_block, old_tree, new_tree, codes_of, used_codes, resting, flushing, opened}
use Rattle.h2_ledger_rows.specs.Passes.{half_pass, half_applied}
use Rattle.h2_ledger_rows.specs.Premises.{half_adopting, before_adopted, opened_new}
use Rattle.h2_ledger_rows.proofs.Blocks.{same_codes, old_sees}
use Rattle.h2_ledger_rows.proofs.Steps.{begins, freezes, completes, scans, applies_first, half_run, opens}

no_cursor : (at : Cursor) → ◌≡◌ {A = Option Cursor} None (Some at) → ⊥
no_cursor at e = cc

at_most_one : (b : Block) → IsIn b new_tree → IsIn b old_tree ⊎ (b ≡ chunk_block 258)
at_most_one b (inl e) = inl (inl e)
at_most_one b (inr (inl e)) = inr e
at_most_one b (inr (inr i)) = absurd i

pub still_in : (b : Block) → IsIn b old_tree → IsIn b new_tree
still_in b (inl e) = inl e
still_in b (inr i) = absurd i

whole_chunk : (n : ℕ) → n ≡ 0 → n + 16384 ≤ 16384
whole_chunk n e = omega arith

-- the block is shared: in the live tree of a volume at rest, and of one that flushes
pub adopts : (x y z : Code) → IsTaken z → (n : ℕ) (completed : List Block) (p : Pass) (m : List Block)
    → Makes IsIn (adopt (chunk_block 258)) (resting (codes_of x y z) n completed old_tree p m) (resting (codes_of x y Used) n completed new_tree p m)
adopts x y z taken n completed p m = record {
  joins = record {
    chunks = refl;
    used = refl;
    codes = λ c ne. same_codes x y z Used c ne;
    live = at_most_one;
    pins = λ b i. inl i;
    held = inl (inr (inl refl));
    roots = record { frozen_number = refl; frozen = λ b. (λ i. i, λ i. i); completed_number = refl; completed = λ b. (λ i. i, λ i. i); queued = λ b i. i };
    pass = record { pass = refl; marked = λ b. (λ i. i, λ i. i) };
  };
  fresh = λ b i. i;
  in_one_chunk = whole_chunk 0 refl;
  taken = taken;
  apart = λ k old e. absurd (no_cursor old e);
  cursors = record { cursors = λ k. refl };
  reserved = refl;
}

pub adopts_flushing : (x y z : Code) → IsTaken z → (n : ℕ) (completed frozen : List Block) (p : Pass) (m : List Block)
    → Makes IsIn (adopt (chunk_block 258)) (flushing (codes_of x y z) n completed frozen old_tree p m) (flushing (codes_of x y Used) n completed frozen new_tree p m)
adopts_flushing x y z taken n completed frozen p m = record {
  joins = record {
    chunks = refl;
    used = refl;
    codes = λ c ne. same_codes x y z Used c ne;
    live = at_most_one;
    pins = λ b i. inl i;
    held = inl (inr (inl refl));
    roots = record { frozen_number = refl; frozen = λ b. (λ i. i, λ i. i); completed_number = refl; completed = λ b. (λ i. i, λ i. i); queued = λ b i. i };
    pass = record { pass = refl; marked = λ b. (λ i. i, λ i. i) };
  };
  fresh = λ b i. i;
  in_one_chunk = whole_chunk 0 refl;
  taken = taken;
  apart = λ k old e. absurd (no_cursor old e);
  cursors = record { cursors = λ k. refl };
  reserved = refl;
}

-- the live tree lets go of it
pub relinks : (code : ℕ → Code) (n : ℕ) (completed : List Block) (p : Pass) (m : List Block)
    → Makes IsIn relink (resting code n completed new_tree p m) (resting code n completed old_tree p m)
relinks code n completed p m = record {
  live = λ b i. inl (still_in b i);
  pins = λ b i. i;
  fresh = λ b i. i;
  codes = record { chunks = refl; codes = λ c. refl };
  cursors = record { cursors = λ k. refl };
  reserved = refl;
  roots = record { frozen_number = refl; frozen = λ b. (λ i. i, λ i. i); completed_number = refl; completed = λ b. (λ i. i, λ i. i); queued = λ b i. i };
  pass = record { pass = refl; marked = λ b. (λ i. i, λ i. i) };
}

-- after that, half a pass over what is left
pub relinked_half : (x y z : Code) (n : ℕ) (completed m : List Block)
    → Run IsIn (relink ∷ half_pass (suc n)) (resting (codes_of x y z) n completed new_tree Idle m) (half_applied (codes_of x y z) (suc n) old_tree)
relinked_half x y z n completed m = (
  resting (codes_of x y z) n completed new_tree Idle m,
  resting (codes_of x y z) n completed old_tree Idle m,
  stays_self IsIn (resting (codes_of x y z) n completed new_tree Idle m),
  relinks (codes_of x y z) n completed Idle m,
  half_run x y z true false false n completed old_tree m old_sees,
)

-- half a pass in which the block is shared right after the freeze
pub adopting_half : Run IsIn half_adopting opened before_adopted
adopting_half = (
  opened,
  resting used_codes 1 old_tree old_tree Begun [],
  stays_self IsIn opened,
  begins used_codes 1 old_tree old_tree [],
  (
    resting used_codes 1 old_tree old_tree Begun [],
    flushing used_codes 1 old_tree old_tree old_tree (Marked 2) old_tree,
    stays_self IsIn (resting used_codes 1 old_tree old_tree Begun []),
    freezes used_codes 1 old_tree old_tree [],
    (
      flushing used_codes 1 old_tree old_tree old_tree (Marked 2) old_tree,
      flushing used_codes 1 old_tree old_tree new_tree (Marked 2) old_tree,
      stays_self IsIn (flushing used_codes 1 old_tree old_tree old_tree (Marked 2) old_tree),
      adopts_flushing Used Used Used (inr refl) 1 old_tree old_tree (Marked 2) old_tree,
      (
        flushing used_codes 1 old_tree old_tree new_tree (Marked 2) old_tree,
        resting used_codes 2 old_tree new_tree (Marked 2) old_tree,
        stays_self IsIn (flushing used_codes 1 old_tree old_tree new_tree (Marked 2) old_tree),
        completes used_codes 1 old_tree old_tree new_tree (Marked 2) old_tree,
        (
          resting used_codes 2 old_tree new_tree (Marked 2) old_tree,
          resting used_codes 2 old_tree new_tree (Scanning 2 0) old_tree,
          stays_self IsIn (resting used_codes 2 old_tree new_tree (Marked 2) old_tree),
          scans used_codes 2 old_tree new_tree old_tree,
          run_one IsIn (apply 2 0) (resting used_codes 2 old_tree new_tree (Scanning 2 0) old_tree) before_adopted (applies_first Used Used Used true false false 2 old_tree new_tree old_tree old_sees),
        ),
      ),
    ),
  ),
)

-- the blocks of the trees take whole chunks
whole_block : (chunk : ℕ) (b : Block) → b ≡ chunk_block chunk → LiesInOneChunk b
whole_block chunk b e = subst (λ (d : Block). LiesInOneChunk d) (sym e) (whole_chunk ((16384 * chunk + 0) % 16384) (omega arith))

used_in : (a b c : Code) (chunk : ℕ) (d : Block) → d ≡ chunk_block chunk → IsTaken (codes_of a b c (block_chunk (chunk_block chunk))) → IsTaken (codes_of a b c (block_chunk d))
used_in a b c chunk d e taken = subst (λ (x : Block). IsTaken (codes_of a b c (block_chunk x))) (sym e) taken

pub opens_old : IsOpened IsIn opened
opens_old = opens Used Used Used 1 old_tree one covered
  where
    one : (d : Block) → IsIn d old_tree → LiesInOneChunk d
    one d (inl e) = whole_block 256 d e
    one d (inr i) = absurd i

    covered : (d : Block) → IsIn d old_tree → IsTaken (used_codes (block_chunk d))
    covered d (inl e) = used_in Used Used Used 256 d e (inr refl)
    covered d (inr i) = absurd i

pub opens_new : IsOpened IsIn opened_new
opens_new = opens Used Used Used 1 new_tree one covered
  where
    one : (d : Block) → IsIn d new_tree → LiesInOneChunk d
    one d (inl e) = whole_block 256 d e
    one d (inr (inl e)) = whole_block 258 d e
    one d (inr (inr i)) = absurd i

    covered : (d : Block) → IsIn d new_tree → IsTaken (used_codes (block_chunk d))
    covered d (inl e) = used_in Used Used Used 256 d e (inr refl)
    covered d (inr (inl e)) = used_in Used Used Used 258 d e (inr refl)
    covered d (inr (inr i)) = absurd i
