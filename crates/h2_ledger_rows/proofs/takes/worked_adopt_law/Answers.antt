use Rattle.std.proofs.Common.{◌≡◌, ◌⊎◌, ◌≤◌, ℕ, [], arith, inl, inr, refl}
use Rattle.h2_codes.specs.declared.code.Code.TheVariants.{Used}
use Rattle.h2_codes.specs.Free.{free_below}
use Rattle.h2_ledger.specs.declared.pass.Pass.TheVariants.{Idle}
use Rattle.h2_ledger.specs.declared.shared_size.SharedSize.{SharedSize}
use Rattle.h2_ledger.specs.declared.shared_size.SharedSize.TheVariants.{Small, Middle}
use Rattle.h2_ledger.specs.Moves.{Reserves}
use Rattle.h2_ledger_rows.specs.Ledgers.{IsIn, old_tree, used_codes, opened}
use Rattle.h2_ledger_rows.specs.Takes.{reserving}
use Rattle.h2_ledger_rows.proofs.Blocks.{free_not_taken, free_count}
use Rattle.h2_ledger_rows.proofs.Joining.{adopts}
use Rattle.h2_ledger_rows.proofs.takes.worked_adopt_law.Goals as goal

all_free : (n : ℕ) → n ≡ 253 → 253 ≤ n
all_free n e = omega arith

reserves : Reserves IsIn opened (reserving 253)
reserves = record {
  enough = inr (all_free (free_below used_codes 512) free_count);
  uses = record { live = λ b i. i; pins = λ b i. i; fresh = λ b i. i };
  codes = record { chunks = refl; codes = λ c. refl };
  cursors = record { cursors = cursors };
  roots = record { frozen_number = refl; frozen = λ b. (λ i. i, λ i. i); completed_number = refl; completed = λ b. (λ i. i, λ i. i); queued = λ b i. i };
  pass = record { pass = refl; marked = λ b. (λ i. i, λ i. i) };
}
  where
    cursors : (k : SharedSize) → (reserving 253).cursor k ≡ opened.cursor k
    cursors Small = refl
    cursors Middle = refl

too_many : (254 ≤ 0) ⊎ (254 ≤ free_below used_codes 512) → ⊥
too_many (inl le) = absurd (let f : 254 ≤ 0 = le in omega arith)
too_many (inr le) = absurd (let f : 254 ≤ free_below used_codes 512 = le in let all : free_below used_codes 512 ≡ 253 = free_count in omega arith)

pub returns : goal.returns
returns c = record {
  adopts = adopts Used Used Used (inr refl) 1 old_tree Idle [];
  not_free = λ y m. free_not_taken m.taken;
  not_at_cursor = λ y m. m.apart Small (record { chunk = 259; used = 1024 }) refl refl;
  not_over_end = λ y m. absurd (let le : 24576 ≤ 16384 = m.in_one_chunk in omega arith);
  reserves = reserves;
  not_more = λ m. too_many m.enough;
}
