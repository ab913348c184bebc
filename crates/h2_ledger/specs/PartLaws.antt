-- What the proofs of several moves share.
use Rattle.std.proofs.Common.{ℕ, ◌≡◌, ◌≢◌, ◌⊎◌, refl, sym, ◌∙◌, inl, inr, arith}
use Rattle.h2_num.specs.declared.block.Block.{Block}
use Rattle.h2_codes.specs.declared.code.Code.{Code}
use Rattle.h2_codes.specs.declared.code.Code.TheVariants.{Free}
use Rattle.h2_ledger.specs.declared.shared_size.SharedSize.{SharedSize}
use Rattle.h2_ledger.specs.declared.shared_size.SharedSize.TheVariants.{Small, Middle}
use Rattle.h2_ledger.specs.Ledger.{Ledger, HasBlockIn, IsInUse, by_live, by_pin, by_frozen, by_completed, IsFrozen, HasMarked, IsMarked, IsTaken, IsInUseSince, since_live, since_pin, since_frozen, since_completed}
use Rattle.h2_ledger.specs.Moves.{Same, RootsStay, PassStays, UsesLessen}

pub same_size : (j k : SharedSize) → (j ≡ k) ⊎ (j ≢ k)
same_size Small Small = inl refl
same_size Small Middle = inr (λ e. cc)
same_size Middle Small = inr (λ e. cc)
same_size Middle Middle = inl refl

pub used_not_free : (code : Code) → IsTaken code → code ≢ Free
used_not_free code (inl p) e = cc
used_not_free code (inr p) e = cc

-- a code that is the same is in use as well
pub in_use_too : (a b : Code) → b ≡ a → IsTaken a → IsTaken b
in_use_too a b e (inl p) = inl (e ∙ p)
in_use_too a b e (inr p) = inr (e ∙ p)

module _ {Set : Type 0} (◌∈◌ : Block → Set → Type 0) where
  infix 40 ◌∈◌
  pub has_marked_stays : (x y : Ledger Set) → PassStays ◌∈◌ x y → (n s : ℕ) → HasMarked y.pass n s → HasMarked x.pass n s
  has_marked_stays x y p n s (inl e) = inl (sym p.pass ∙ e.0, e.1)
  has_marked_stays x y p n s (inr e) = inr (sym p.pass ∙ e)

  pub is_marked_stays : (x y : Ledger Set) → PassStays ◌∈◌ x y → (b : Block) → IsMarked ◌∈◌ y b → IsMarked ◌∈◌ x b
  is_marked_stays x y p b (n, s, h, i) = (n, s, has_marked_stays x y p n s h, (p.marked b).0 i)

  pub frozen_stays : (x y : Ledger Set) → RootsStay ◌∈◌ x y → (b : Block) → IsFrozen ◌∈◌ y b → IsFrozen ◌∈◌ x b
  frozen_stays x y r b (m, e, i) = (m, sym r.frozen_number ∙ e, (r.frozen b).0 i)

  pub held_lessens : (x y : Ledger Set) → UsesLessen ◌∈◌ x y → RootsStay ◌∈◌ x y → (b : Block) → IsInUse ◌∈◌ y b → IsInUse ◌∈◌ x b
  held_lessens x y u r b (by_live i) = by_live (u.live b i)
  held_lessens x y u r b (by_pin i) = by_pin (u.pins b i)
  held_lessens x y u r b (by_frozen f) = by_frozen (frozen_stays x y r b f)
  held_lessens x y u r b (by_completed i) = by_completed ((r.completed b).0 i)

  pub since_lessens : (x y : Ledger Set) → UsesLessen ◌∈◌ x y → RootsStay ◌∈◌ x y → (n : ℕ) (b : Block) → IsInUseSince ◌∈◌ n y b → IsInUseSince ◌∈◌ n x b
  since_lessens x y u r n b (since_live i) = since_live (u.live b i)
  since_lessens x y u r n b (since_pin i) = since_pin (u.pins b i)
  since_lessens x y u r n b (since_frozen m e le i) = since_frozen m (sym r.frozen_number ∙ e) le ((r.frozen b).0 i)
  since_lessens x y u r n b (since_completed le i) = since_completed (let e : y.completed_number ≡ x.completed_number = r.completed_number in omega arith) ((r.completed b).0 i)

  -- what was marked in a chunk is marked there still
  pub chunk_stays : (x y : Ledger Set) → Same ◌∈◌ y.marked x.marked → (c : ℕ) → HasBlockIn ◌∈◌ x.marked c → HasBlockIn ◌∈◌ y.marked c
  chunk_stays x y same c (b, i, e) = (b, (same b).1 i, e)
