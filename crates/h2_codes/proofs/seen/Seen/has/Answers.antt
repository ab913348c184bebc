use Rattle.std.proofs.Common.{◌≡◌, ◌<◌, Bool, List, length, sym, ap, ◌∙◌, arith}
use Rattle.h2_codes.specs.Seen.{has_chunk}
use Rattle.h2_codes.proofs.Lookup.{flag_lookup}
use Rattle.h2_codes.proofs.seen.Seen.has.Goals as goal

pub returns-clause-value : goal.returns-clause-value
returns-clause-value c =
    let size : length c.self.inside.flags ≡ 32 = c.self.invariant.0 in
    let in_segment : c.args.c < 256 = c.ranges.c.fits in
    c.flag_in.ensures ∙ sym (flag_lookup c.self.inside.flags c.args.c (omega arith)) ∙ ap (λ (flags : List Bool). has_chunk flags c.args.c) c.self.view_is
