use Rattle.std.proofs.Common.{List, slice_index, subst}
use Rattle.h2_codes.specs.declared.code.Code.{Code}
use Rattle.h2_codes.specs.Layout.{HoldCodes}
use Rattle.h2_codes.proofs.Lookup.{holds_codes}
use Rattle.h2_codes.proofs.segment.Segment.as_bytes.Goals as goal

pub returns-clause-value : goal.returns-clause-value
returns-clause-value c = subst (λ (codes : List Code). HoldCodes (slice_index c.self.inside.codes) codes) c.self.view_is (holds_codes c.self.inside.codes c.self.invariant.0)
