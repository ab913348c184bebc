use Rattle.std.proofs.Common.{true, false, [], ◌∷◌, ◌++◌, arith, sym, refl}
use Rattle.h2_codes.specs.declared.code.Code.TheVariants.{Staged, Used}
use Rattle.h2_ledger.specs.Moves.{relink}
use Rattle.h2_ledger_rows.specs.Ledgers.{IsIn, old_tree, new_tree}
use Rattle.h2_ledger_rows.specs.Passes.{pass_moves}
use Rattle.h2_ledger_rows.specs.Premises.{last_joined, opened_new}
use Rattle.h2_ledger_rows.proofs.Blocks.{old_sees, new_sees, free_not_staged}
use Rattle.h2_ledger_rows.proofs.Steps.{half_run, applies_second}
use Rattle.h2_ledger_rows.proofs.Joining.{relinked_half, opens_new}
use Rattle.h2_ledger_rows.proofs.Lists.{two_segments, successive}
use Rattle.h2_ledger.specs.PassLaws.{frees_after_two_passes}
use Rattle.h2_ledger_rows.proofs.premises.worked_first_marked_law.Goals as goal

pub returns : goal.returns
returns c = record {
  opens = opens_new;
  leads = half_run Used Used Used true false true 1 new_tree new_tree [] new_sees;
  applies = applies_second Used Used Used true false true 2 new_tree new_tree new_tree new_sees;
  marks = new_sees.third;
  goes_on = relinked_half Used Staged Used 2 new_tree new_tree;
  no_join = (λ j. j, (λ j. j, (λ j. j, (λ j. j, (λ j. j, (λ j. j, tt))))));
  second = record { makes = applies_second Used Staged Used true false false 3 old_tree old_tree old_tree old_sees; unmarked = old_sees.third };
  successive = successive 2 (pass_moves 2 ++ (relink ∷ pass_moves 3)) (two_segments 2 (pass_moves 2 ++ (relink ∷ pass_moves 3)) (4, omega arith, refl) (5, omega arith, refl)) (two_segments 3 (pass_moves 2 ++ (relink ∷ pass_moves 3)) (11, omega arith, refl) (12, omega arith, refl));
  staged = refl;
  not_reached = λ twice. free_not_staged (sym (frees_after_two_passes IsIn 258 2 3 (pass_moves 2 ++ (relink ∷ pass_moves 3)) opened_new last_joined twice (successive 2 (pass_moves 2 ++ (relink ∷ pass_moves 3)) (two_segments 2 (pass_moves 2 ++ (relink ∷ pass_moves 3)) (4, omega arith, refl) (5, omega arith, refl)) (two_segments 3 (pass_moves 2 ++ (relink ∷ pass_moves 3)) (11, omega arith, refl) (12, omega arith, refl)))));
}
