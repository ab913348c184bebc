use Rattle.std.proofs.Common.{◌≡◌, ◌<◌, List, length, sym, ap, ◌∙◌, arith}
use Rattle.h2_codes.specs.declared.code.Code.{Code}
use Rattle.h2_codes.specs.Codes.{code_at}
use Rattle.h2_codes.proofs.Lookup.{code_lookup}
use Rattle.h2_codes.proofs.segment.Segment.get.Goals as goal

pub returns-clause-value : goal.returns-clause-value
returns-clause-value c =
    let size : length c.self.inside.codes ≡ 64 = c.self.invariant.0 in
    let in_segment : c.args.c < 256 = c.ranges.c.fits in
    c.code_in.ensures ∙ sym (code_lookup c.self.inside.codes c.args.c (omega arith)) ∙ ap (λ (codes : List Code). code_at codes c.args.c) c.self.view_is
