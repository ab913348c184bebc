use Rattle.std.proofs.Common.{refl}
use Rattle.h2_worked_rows.proofs.meanings.worked_replaced_law.Goals as goal

pub returns : goal.returns
returns c = record {
  second = refl;
  none = refl;
  listed = refl;
  files = tt;
  not_alike = λ e. e;
}
