use Rattle.std.proofs.Common.{true, false, [], ◌∷◌, arith, refl}
use Rattle.h2_codes.specs.declared.code.Code.TheVariants.{Free, Staged, Used}
use Rattle.h2_ledger.specs.Moves.{relink}
use Rattle.h2_ledger.specs.Passes.{IsComplete, IsTwiceUnmarked}
use Rattle.h2_ledger.specs.RunLaws.{stays_self, run_append}
use Rattle.h2_ledger_rows.specs.Ledgers.{IsIn, old_tree, new_tree, codes_of, opened}
use Rattle.h2_ledger_rows.specs.Passes.{half_pass, pass_moves, half_applied}
use Rattle.h2_ledger_rows.specs.Premises.{half_adopting, before_adopted, after_adopted, last_marked, between_passes, three_passes, last_of_three}
use Rattle.h2_ledger_rows.proofs.Blocks.{old_sees, new_sees, used_not_reserved}
use Rattle.h2_ledger_rows.proofs.Steps.{whole_run, applies_second}
use Rattle.h2_ledger_rows.proofs.Joining.{relinked_half, adopting_half, opens_old}
use Rattle.h2_ledger_rows.proofs.Lists.{two_segments}
use Rattle.h2_ledger_rows.proofs.premises.worked_third_pass_law.Goals as goal

twice : IsTwiceUnmarked IsIn 258 2 4 three_passes opened last_of_three
twice = record {
  opens = opens_old;
  before = half_adopting;
  between = between_passes;
  after = [];
  all = refl;
  w = before_adopted;
  x = after_adopted;
  y = half_applied (codes_of Used Free Used) 4 old_tree;
  leads = adopting_half;
  ordinary = used_not_reserved;
  first = record { makes = applies_second Used Used Used true false false 2 old_tree new_tree old_tree old_sees; unmarked = old_sees.third };
  goes_on =
      run_append IsIn (pass_moves 3) (relink ∷ half_pass 4) after_adopted last_marked (half_applied (codes_of Used Free Used) 4 old_tree)
      (whole_run Used Staged Staged true false true 2 old_tree new_tree old_tree new_sees) (relinked_half Used Free Used 3 new_tree new_tree);
  no_join = (λ j. j, (λ j. j, (λ j. j, (λ j. j, (λ j. j, (λ j. j, (λ j. j, (λ j. j, (λ j. j, (λ j. j, (λ j. j, (λ j. j, tt))))))))))));
  second = record { makes = applies_second Used Free Used true false false 4 old_tree old_tree old_tree old_sees; unmarked = old_sees.third };
  end = last_of_three;
  ends = stays_self IsIn last_of_three;
}

third : IsComplete 512 3 three_passes
third = two_segments 3 three_passes (11, omega arith, refl) (12, omega arith, refl)

pub returns : goal.returns
returns c = record {
  twice = twice;
  first = two_segments 2 three_passes (5, omega arith, refl) (6, omega arith, refl);
  second = two_segments 4 three_passes (18, omega arith, refl) (19, omega arith, refl);
  between = third;
  staged = refl;
  not_successive = λ s. s.none_between 3 (omega arith) (omega arith) third;
}
