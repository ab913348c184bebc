use Rattle.std.proofs.Common.{true, false, [], arith, sym, refl}
use Rattle.h2_codes.specs.declared.code.Code.TheVariants.{Staged, Used}
use Rattle.h2_ledger.specs.RunLaws.{stays_self}
use Rattle.h2_ledger_rows.specs.Ledgers.{IsIn, old_tree, used_codes, codes_of, opened}
use Rattle.h2_ledger_rows.specs.Passes.{half_pass, two_passes, half_applied, after_one, after_two}
use Rattle.h2_ledger_rows.proofs.Blocks.{old_sees, free_not_used, used_not_reserved}
use Rattle.h2_ledger_rows.proofs.Steps.{half_run, applies_second}
use Rattle.h2_ledger_rows.proofs.Joining.{opens_old}
use Rattle.h2_ledger_rows.proofs.Lists.{two_segments, successive}
use Rattle.h2_ledger.specs.PassLaws.{frees_after_two_passes}
use Rattle.h2_ledger_rows.proofs.premises.worked_twice_law.Goals as goal

pub returns : goal.returns
returns c = record {
  twice = record {
    opens = opens_old;
    before = half_pass 2;
    between = half_pass 3;
    after = [];
    all = refl;
    w = half_applied used_codes 2 old_tree;
    x = after_one;
    y = half_applied (codes_of Used Staged Staged) 3 old_tree;
    leads = half_run Used Used Used true false false 1 old_tree old_tree [] old_sees;
    ordinary = used_not_reserved;
    first = record { makes = applies_second Used Used Used true false false 2 old_tree old_tree old_tree old_sees; unmarked = old_sees.second };
    goes_on = half_run Used Staged Staged true false false 2 old_tree old_tree old_tree old_sees;
    no_join = (λ j. j, (λ j. j, (λ j. j, (λ j. j, (λ j. j, tt)))));
    second = record { makes = applies_second Used Staged Staged true false false 3 old_tree old_tree old_tree old_sees; unmarked = old_sees.second };
    end = after_two;
    ends = stays_self IsIn after_two;
  };
  freed = refl;
  not_used = λ twice. free_not_used (sym (frees_after_two_passes IsIn 256 2 3 two_passes opened after_two twice (successive 2 two_passes (two_segments 2 two_passes (4, omega arith, refl) (5, omega arith, refl)) (two_segments 3 two_passes (10, omega arith, refl) (11, omega arith, refl)))));
}
