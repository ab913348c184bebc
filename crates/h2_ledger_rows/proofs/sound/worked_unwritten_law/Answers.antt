use Rattle.std.proofs.Common.{◌≡◌, ◌⊎◌, ◌≤◌, ◌<◌, ◌+◌, ◌*◌, ℕ, Some, Option, arith, sym, subst, inl, inr, refl}
use Rattle.h2_num.specs.declared.block.Block.{Block}
use Rattle.h2_ledger.specs.declared.pass.Pass.TheVariants.{Marked, Scanning}
use Rattle.h2_ledger.specs.Ledger.{AreDisjoint, HasMarked}
use Rattle.h2_ledger_rows.specs.Ledgers.{IsIn, block_of, chunk_block, old_tree, new_tree}
use Rattle.h2_ledger_rows.specs.Unwritten.{second_block, third_block}
use Rattle.h2_ledger_rows.proofs.sound.worked_unwritten_law.Goals as goal

by_places : (a b x y : Block) → a ≡ x → b ≡ y → AreDisjoint x y → AreDisjoint a b
by_places a b x y e f apart = subst (λ (z : Block). AreDisjoint z b) (sym e) (subst (λ (z : Block). AreDisjoint x z) (sym f) apart)

-- blocks of two chunks
chunks_apart : (m n : ℕ) → (16384 * m + 16384 ≤ 16384 * n) ⊎ (16384 * n + 16384 ≤ 16384 * m) → AreDisjoint (chunk_block m) (chunk_block n)
chunks_apart m n (inl le) = inl (omega arith)
chunks_apart m n (inr le) = inr (omega arith)

second_apart : (a b : Block) → IsIn a second_block → IsIn b new_tree → AreDisjoint a b
second_apart a b (inl e) (inl f) = by_places a b (chunk_block 257) (chunk_block 256) e f (chunks_apart 257 256 (inr (omega arith)))
second_apart a b (inl e) (inr (inl f)) = by_places a b (chunk_block 257) (chunk_block 258) e f (chunks_apart 257 258 (inl (omega arith)))
second_apart a b (inl e) (inr (inr i)) = absurd i
second_apart a b (inr i) j = absurd i

still_in : (b : Block) → IsIn b old_tree → IsIn b new_tree
still_in b (inl e) = inl e
still_in b (inr i) = absurd i

third_apart : (a b : Block) → IsIn a third_block → IsIn b old_tree → AreDisjoint a b
third_apart a b (inl e) (inl f) = by_places a b (chunk_block 258) (chunk_block 256) e f (chunks_apart 258 256 (inr (omega arith)))
third_apart a b (inl e) (inr i) = absurd i
third_apart a b (inr i) j = absurd i

-- the flush is the pass's own
own : (n s m : ℕ) → HasMarked (Marked 3) n s → ◌≡◌ {A = Option ℕ} (Some 3) (Some m) → n < m → ⊥
own n s m (inl (e, f)) is lt =
    let first : Marked 3 ≡ Marked n = e in
    let second : ◌≡◌ {A = Option ℕ} (Some 3) (Some m) = is in
    let a : 3 ≡ n = cc in
    let b : 3 ≡ m = cc in
    absurd (omega arith)
own n s m (inr e) is lt = absurd (let f : Marked 3 ≡ Scanning n s = e in cc)

meets : (4210688 ≤ 4194304) ⊎ (4210688 ≤ 4194304) → ⊥
meets (inl le) = absurd (let f : 4210688 ≤ 4194304 = le in omega arith)
meets (inr le) = absurd (let f : 4210688 ≤ 4194304 = le in omega arith)

meets_third : (4243456 ≤ 4227072) ⊎ (4243456 ≤ 4227072) → ⊥
meets_third (inl le) = absurd (let f : 4243456 ≤ 4227072 = le in omega arith)
meets_third (inr le) = absurd (let f : 4243456 ≤ 4227072 = le in omega arith)

meets_part : (4196352 ≤ 4194304) ⊎ (4210688 ≤ 4195328) → ⊥
meets_part (inl le) = absurd (let f : 4196352 ≤ 4194304 = le in omega arith)
meets_part (inr le) = absurd (let f : 4210688 ≤ 4195328 = le in omega arith)

pub returns : goal.returns
returns c = record {
  apart = record {
    fresh_completed = λ a b i j. second_apart a b i (still_in b j);
    fresh_frozen = λ a b i j. second_apart a b i j.2;
    fresh_marked = λ a b i j. second_apart a b i j.3;
    queued_completed = third_apart;
    queued_marked = λ n s m p e lt a b i j. absurd (own n s m p e lt);
  };
  not_fresh_completed = λ u. meets (u.fresh_completed (chunk_block 256) (chunk_block 256) (inl refl) (inl refl));
  not_fresh_part = λ u. meets_part (u.fresh_completed (block_of 256 1024 10) (chunk_block 256) (inl refl) (inl refl));
  not_fresh_frozen = λ u. meets_third (u.fresh_frozen (chunk_block 258) (chunk_block 258) (inl refl) (3, refl, inr (inl refl)));
  not_fresh_marked = λ u. meets_third (u.fresh_marked (chunk_block 258) (chunk_block 258) (inl refl) (2, 0, inr refl, inr (inl refl)));
  not_queued_completed = λ u. meets (u.queued_completed (chunk_block 256) (chunk_block 256) (inl refl) (inl refl));
  not_queued_marked = λ u. meets_third (u.queued_marked 2 0 3 (inr refl) refl (omega arith) (chunk_block 258) (chunk_block 258) (inl refl) (inr (inl refl)));
}
