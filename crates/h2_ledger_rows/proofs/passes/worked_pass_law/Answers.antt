use Rattle.std.proofs.Common.{◌≡◌, ◌⊎◌, ℕ, true, false, [], arith, sym, inl, inr, refl}
use Rattle.h2_codes.specs.declared.code.Code.TheVariants.{Free, Staged, Used}
use Rattle.h2_ledger.specs.Ledger.{HasBlockIn}
use Rattle.h2_ledger.specs.RunLaws.{run_append}
use Rattle.h2_ledger_rows.specs.Ledgers.{IsIn, old_tree, used_codes, codes_of, opened}
use Rattle.h2_ledger_rows.specs.Passes.{pass_moves, applied, after_one, after_two}
use Rattle.h2_ledger_rows.proofs.Blocks.{old_sees, used_not_staged, free_not_staged}
use Rattle.h2_ledger_rows.proofs.Steps.{half_run, whole_run}
use Rattle.h2_ledger_rows.proofs.Shown.{pass_shows}
use Rattle.h2_ledger_rows.proofs.passes.worked_pass_law.Goals as goal

pub returns-clause-half : goal.returns-clause-half
returns-clause-half c = half_run Used Used Used true false false 1 old_tree old_tree [] old_sees

pub returns-clause-one : goal.returns-clause-one
returns-clause-one c = whole_run Used Used Used true false false 1 old_tree old_tree [] old_sees

pub returns-clause-two : goal.returns-clause-two
returns-clause-two c =
    run_append IsIn (pass_moves 2) (pass_moves 3) opened after_one after_two
    (whole_run Used Used Used true false false 1 old_tree old_tree [] old_sees) (whole_run Used Staged Staged true false false 2 old_tree old_tree old_tree old_sees)

unused : HasBlockIn IsIn old_tree 257 → ⊥
unused = old_sees.second

pub returns-clause-not_at_once : goal.returns-clause-not_at_once
returns-clause-not_at_once c run = split (pass_shows (applied (codes_of Used Free Free) 2 old_tree) run 257 refl)
  where
    split : (HasBlockIn IsIn old_tree 257 × (Free ≡ Used)) ⊎ ((HasBlockIn IsIn old_tree 257 → ⊥) × (Free ≡ Staged)) → ⊥
    split (inl (h, e)) = unused h
    split (inr (h, e)) = free_not_staged e

pub returns-clause-not_kept : goal.returns-clause-not_kept
returns-clause-not_kept c run = split (pass_shows (applied used_codes 2 old_tree) run 257 refl)
  where
    split : (HasBlockIn IsIn old_tree 257 × (Used ≡ Used)) ⊎ ((HasBlockIn IsIn old_tree 257 → ⊥) × (Used ≡ Staged)) → ⊥
    split (inl (h, e)) = unused h
    split (inr (h, e)) = used_not_staged e

pub returns-clause-not_staged : goal.returns-clause-not_staged
returns-clause-not_staged c run = split (pass_shows (applied (codes_of Staged Staged Staged) 2 old_tree) run 256 refl)
  where
    split : (HasBlockIn IsIn old_tree 256 × (Staged ≡ Used)) ⊎ ((HasBlockIn IsIn old_tree 256 → ⊥) × (Staged ≡ Staged)) → ⊥
    split (inl (h, e)) = used_not_staged (sym e)
    split (inr (h, e)) = h old_sees.first

pub returns-clause-not_ended : goal.returns-clause-not_ended
returns-clause-not_ended c y m = absurd (let e : ◌≡◌ {A = ℕ} 1 0 = m.unapplied 2 1 (inr refl) in omega arith)
