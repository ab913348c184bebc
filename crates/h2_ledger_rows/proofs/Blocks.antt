-- Which blocks of the small trees lie in which chunks, and the codes of chunks.
use Rattle.std.proofs.Common.{◌≡◌, ◌≢◌, ◌⊎◌, ◌<◌, ◌≤◌, ℕ, Bool, true, false, nat_lt, nat_eq, MatchBool, List, arith, ap, sym, ◌∙◌, inl, inr, refl}
use Rattle.std.proofs.lemmas.Bool.{cases_eq, cases_lt}
use Rattle.std.proofs.lemmas.Bool.Decides.{nat_tests}
use Rattle.h2_codes.specs.Free.{free_below, NoneFreeBelow}
use Rattle.h2_ledger_rows.specs.Takes.{codes_after, full_codes}
use Rattle.h2_num.specs.declared.block.Block.{Block}
use Rattle.h2_codes.specs.declared.code.Code.{Code}
use Rattle.h2_codes.specs.declared.code.Code.TheVariants.{Free, Reserved, Staged, Used}
use Rattle.h2_ledger.specs.Ledger.{block_chunk, IsTaken, HasBlockIn}
use Rattle.h2_ledger_rows.specs.Ledgers.{IsIn, chunk_block, old_tree, new_tree, codes_of, used_codes}

pub in_old : (b : Block) → IsIn b old_tree → block_chunk b ≡ 256
in_old b (inl e) = ap block_chunk e
in_old b (inr i) = absurd i

pub in_new : (b : Block) → IsIn b new_tree → (block_chunk b ≡ 256) ⊎ (block_chunk b ≡ 258)
in_new b (inl e) = inl (ap block_chunk e)
in_new b (inr (inl e)) = inr (ap block_chunk e)
in_new b (inr (inr i)) = absurd i

-- which of the three chunks have a block of the set, and that no other has one
pub record Sees (set : List Block) (p q r : Bool) : Type 0 where
  pub first : MatchBool p (HasBlockIn IsIn set 256) (HasBlockIn IsIn set 256 → ⊥)
  pub second : MatchBool q (HasBlockIn IsIn set 257) (HasBlockIn IsIn set 257 → ⊥)
  pub third : MatchBool r (HasBlockIn IsIn set 258) (HasBlockIn IsIn set 258 → ⊥)
  pub no_other : (c : ℕ) → c ≢ 256 → c ≢ 257 → c ≢ 258 → HasBlockIn IsIn set c → ⊥

pub old_sees : Sees old_tree true false false
old_sees = record {
  first = (chunk_block 256, inl refl, refl);
  second = λ h. absurd (let e : block_chunk h.0 ≡ 256 = in_old h.0 h.1 in let f : block_chunk h.0 ≡ 257 = h.2 in omega arith);
  third = λ h. absurd (let e : block_chunk h.0 ≡ 256 = in_old h.0 h.1 in let f : block_chunk h.0 ≡ 258 = h.2 in omega arith);
  no_other = λ c a b d h. a (sym h.2 ∙ in_old h.0 h.1);
}

pub new_sees : Sees new_tree true false true
new_sees = record {
  first = (chunk_block 256, inl refl, refl);
  second = λ h. split h.0 257 (in_new h.0 h.1) h.2 (omega arith) (omega arith);
  third = (chunk_block 258, inr (inl refl), refl);
  no_other = λ c a b d h. other c a d h.0 h.2 (in_new h.0 h.1);
}
  where
    split : (b : Block) (c : ℕ) → (block_chunk b ≡ 256) ⊎ (block_chunk b ≡ 258) → block_chunk b ≡ c → c ≢ 256 → c ≢ 258 → ⊥
    split b c (inl e) f x y = x (sym f ∙ e)
    split b c (inr e) f x y = y (sym f ∙ e)

    other : (c : ℕ) → c ≢ 256 → c ≢ 258 → (b : Block) → block_chunk b ≡ c → (block_chunk b ≡ 256) ⊎ (block_chunk b ≡ 258) → ⊥
    other c a d b f either = split b c either f a d

-- the codes

below : (j n : ℕ) → j < n → nat_lt j n ≡ true
below j n lt = grind (arith, nat_tests)

from : (j n : ℕ) → n ≤ j → nat_lt j n ≡ false
from j n le = grind (arith, nat_tests)

unlike : (a b : ℕ) → a ≢ b → nat_eq a b ≡ false
unlike a b ne = grind (arith, nat_tests)

pub reserved_code : (x y z : Code) (c : ℕ) → c < 256 → codes_of x y z c ≡ Reserved
reserved_code x y z c lt = let a : nat_lt c 256 ≡ true = below c 256 lt in rw a refl

pub free_code : (x y z : Code) (c : ℕ) → 256 ≤ c → c ≢ 256 → c ≢ 257 → c ≢ 258 → codes_of x y z c ≡ Free
free_code x y z c le f g h =
    let a : nat_lt c 256 ≡ false = from c 256 le in
    let b : nat_eq c 256 ≡ false = unlike c 256 f in
    let d : nat_eq c 257 ≡ false = unlike c 257 g in
    let e : nat_eq c 258 ≡ false = unlike c 258 h in
    rw (a, b, d, e) refl

-- codes that differ in chunk 258 alone
pub same_codes : (x y z t : Code) (c : ℕ) → c ≢ 258 → codes_of x y t c ≡ codes_of x y z c
same_codes x y z t c ne = let a : nat_eq c 258 ≡ false = unlike c 258 ne in rw a refl

-- the number of a code
number : Code → ℕ
number Free = 0
number Reserved = 1
number Staged = 2
number Used = 3

unlike_codes : (a b : Code) → a ≡ b → number a ≡ number b
unlike_codes a b e = ap number e

pub used_not_staged : Used ≡ Staged → ⊥
unfolding number
used_not_staged e = absurd (let n : ◌≡◌ {A = ℕ} 3 2 = unlike_codes Used Staged e in omega arith)

pub free_not_staged : Free ≡ Staged → ⊥
unfolding number
free_not_staged e = absurd (let n : ◌≡◌ {A = ℕ} 0 2 = unlike_codes Free Staged e in omega arith)

pub free_not_used : Free ≡ Used → ⊥
unfolding number
free_not_used e = absurd (let n : ◌≡◌ {A = ℕ} 0 3 = unlike_codes Free Used e in omega arith)

pub used_not_reserved : Used ≡ Reserved → ⊥
unfolding number
used_not_reserved e = absurd (let n : ◌≡◌ {A = ℕ} 3 1 = unlike_codes Used Reserved e in omega arith)

pub reserved_not_free : Reserved ≡ Free → ⊥
unfolding number
reserved_not_free e = absurd (let n : ◌≡◌ {A = ℕ} 1 0 = unlike_codes Reserved Free e in omega arith)

pub free_not_taken : IsTaken Free → ⊥
free_not_taken (inl e) = free_not_staged e
free_not_taken (inr e) = free_not_used e

-- no chunk before 259 is free
pub none_lower : NoneFreeBelow used_codes 259
none_lower c lt e = split (cases_lt c 256) (cases_eq c 256) (cases_eq c 257) (cases_eq c 258)
  where
    used : (k : ℕ) → c ≡ k → used_codes k ≡ Used → ⊥
    used k f g = free_not_used (sym e ∙ ap used_codes f ∙ g)

    split : (c < 256) ⊎ (256 ≤ c) → (c ≡ 256) ⊎ (c ≡ 256 → ⊥) → (c ≡ 257) ⊎ (c ≡ 257 → ⊥) → (c ≡ 258) ⊎ (c ≡ 258 → ⊥) → ⊥
    split (inl low) u v w = reserved_not_free (sym (reserved_code Used Used Used c low) ∙ e)
    split (inr le) (inl f) v w = used 256 f refl
    split (inr le) (inr u) (inl f) w = used 257 f refl
    split (inr le) (inr u) (inr v) (inl f) = used 258 f refl
    split (inr le) (inr u) (inr v) (inr w) = absurd (omega arith)

pub free_count : free_below used_codes 512 ≡ 253
unfolding free_below
free_count = refl

-- a full volume has no free chunk
pub none_free : (c : ℕ) → full_codes c ≡ Free → ⊥
none_free c e = split (cases_lt c 256)
  where
    split : (c < 256) ⊎ (256 ≤ c) → ⊥
    split (inl lt) = reserved_not_free (sym (let a : nat_lt c 256 ≡ true = below c 256 lt in rw a refl) ∙ e)
    split (inr le) = free_not_used (sym e ∙ (let a : nat_lt c 256 ≡ false = from c 256 le in rw a refl))

pub other_codes : (c : ℕ) → c ≢ 259 → codes_after c ≡ used_codes c
other_codes c ne = let a : nat_eq c 259 ≡ false = unlike c 259 ne in rw a refl
