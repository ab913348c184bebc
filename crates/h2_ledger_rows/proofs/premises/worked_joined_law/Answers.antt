use Rattle.std.proofs.Common.{true, false, [], arith, sym, inl, refl}
use Rattle.h2_codes.specs.declared.code.Code.TheVariants.{Staged, Used}
use Rattle.h2_ledger.specs.Moves.{adopt, Makes}
use Rattle.h2_ledger.specs.declared.pass.Pass.TheVariants.{Idle}
use Rattle.h2_ledger.specs.RunLaws.{stays_self}
use Rattle.h2_ledger_rows.specs.Ledgers.{IsIn, chunk_block, old_tree, new_tree, codes_of, resting, opened}
use Rattle.h2_ledger_rows.specs.Passes.{after_one}
use Rattle.h2_ledger_rows.specs.Premises.{joined_moves, last_joined}
use Rattle.h2_ledger_rows.proofs.Blocks.{old_sees, free_not_staged}
use Rattle.h2_ledger_rows.proofs.Steps.{half_run, applies_second}
use Rattle.h2_ledger_rows.proofs.Joining.{adopts, relinked_half, opens_old}
use Rattle.h2_ledger_rows.proofs.Lists.{two_segments, successive}
use Rattle.h2_ledger.specs.PassLaws.{frees_after_two_passes}
use Rattle.h2_ledger_rows.proofs.premises.worked_joined_law.Goals as goal

shared : Makes IsIn (adopt (chunk_block 258)) after_one (resting (codes_of Used Staged Used) 2 old_tree new_tree Idle old_tree)
shared = adopts Used Staged Staged (inl refl) 2 old_tree Idle old_tree

pub returns : goal.returns
returns c = record {
  opens = opens_old;
  leads = half_run Used Used Used true false false 1 old_tree old_tree [] old_sees;
  first = record { makes = applies_second Used Used Used true false false 2 old_tree old_tree old_tree old_sees; unmarked = old_sees.third };
  goes_on = (after_one, resting (codes_of Used Staged Used) 2 old_tree new_tree Idle old_tree, stays_self IsIn after_one, shared, relinked_half Used Staged Used 2 old_tree old_tree);
  joins = λ h. h.0 refl;
  second = record { makes = applies_second Used Staged Used true false false 3 old_tree old_tree old_tree old_sees; unmarked = old_sees.third };
  successive = successive 2 (joined_moves) (two_segments 2 (joined_moves) (4, omega arith, refl) (5, omega arith, refl)) (two_segments 3 (joined_moves) (12, omega arith, refl) (13, omega arith, refl));
  staged = refl;
  not_reached = λ twice. free_not_staged (sym (frees_after_two_passes IsIn 258 2 3 joined_moves opened last_joined twice (successive 2 (joined_moves) (two_segments 2 (joined_moves) (4, omega arith, refl) (5, omega arith, refl)) (two_segments 3 (joined_moves) (12, omega arith, refl) (13, omega arith, refl)))));
}
