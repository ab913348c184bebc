use Rattle.std.proofs.Common.{true, false, ◌++◌, arith, sym, refl}
use Rattle.h2_codes.specs.declared.code.Code.TheVariants.{Staged, Used}
use Rattle.h2_ledger_rows.specs.Ledgers.{IsIn, old_tree, new_tree, opened}
use Rattle.h2_ledger_rows.specs.Passes.{pass_moves}
use Rattle.h2_ledger_rows.specs.Premises.{adopting_pass, last_marked}
use Rattle.h2_ledger_rows.proofs.Blocks.{old_sees, new_sees, free_not_used}
use Rattle.h2_ledger_rows.proofs.Steps.{half_run, applies_second}
use Rattle.h2_ledger_rows.proofs.Joining.{adopting_half, opens_old}
use Rattle.h2_ledger_rows.proofs.Lists.{two_segments, successive}
use Rattle.h2_ledger.specs.PassLaws.{frees_after_two_passes}
use Rattle.h2_ledger_rows.proofs.premises.worked_second_marked_law.Goals as goal

pub returns : goal.returns
returns c = record {
  opens = opens_old;
  leads = adopting_half;
  first = record { makes = applies_second Used Used Used true false false 2 old_tree new_tree old_tree old_sees; unmarked = old_sees.third };
  goes_on = half_run Used Staged Staged true false true 2 old_tree new_tree old_tree new_sees;
  no_join = (λ j. j, (λ j. j, (λ j. j, (λ j. j, (λ j. j, tt)))));
  applies = applies_second Used Staged Staged true false true 3 new_tree new_tree new_tree new_sees;
  marks = new_sees.third;
  successive = successive 2 (adopting_pass ++ pass_moves 3) (two_segments 2 (adopting_pass ++ pass_moves 3) (5, omega arith, refl) (6, omega arith, refl)) (two_segments 3 (adopting_pass ++ pass_moves 3) (11, omega arith, refl) (12, omega arith, refl));
  used = refl;
  not_reached = λ twice. free_not_used (sym (frees_after_two_passes IsIn 258 2 3 (adopting_pass ++ pass_moves 3) opened last_marked twice (successive 2 (adopting_pass ++ pass_moves 3) (two_segments 2 (adopting_pass ++ pass_moves 3) (5, omega arith, refl) (6, omega arith, refl)) (two_segments 3 (adopting_pass ++ pass_moves 3) (11, omega arith, refl) (12, omega arith, refl)))));
}
