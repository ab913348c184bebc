use Rattle.std.proofs.Common.{subst, sym}
use Rattle.h2_ref.specs.Limits.{IsLimited, row_limited}
use Rattle.h2_ref.proofs.rules.is_valid.Goals as goal

pub fits_row-requires : goal.fits_row-requires
fits_row-requires c = subst IsLimited (sym c.row_of.ensures) (row_limited c.args.r.now.kind c.method_number.result)
