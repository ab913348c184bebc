use Rattle.std.proofs.Common.{◌≡◌, ◌<◌, ◌+◌, ◌*◌, ◌/◌, ◌%◌, ℕ, Bool, List, length, set, ap, ◌∙◌, arith}
use Rattle.std.proofs.Common.{true, length-set}
use Rattle.h2_codes.specs.Packed.{flags_in}
use Rattle.h2_codes.proofs.Lookup.{all_bytes-set, flags_in-set, flags_length}
use Rattle.h2_codes.proofs.seen.Seen.mark.Goals as goal

pub invariant_of-self : goal.invariant_of-self
invariant_of-self c = (length-set c.self.inside.flags (c.args.c / 8) c.with_flag.result ∙ c.self.invariant.0, all_bytes-set c.self.inside.flags (c.args.c / 8) c.with_flag.result c.self.invariant.1 c.with_flag.type_inv)

pub returns-clause-marked : goal.returns-clause-marked
returns-clause-marked c =
    let size : length c.self.inside.flags ≡ 32 = c.self.invariant.0 in
    let in_segment : c.args.c < 256 = c.ranges.c.fits in
    let at : 8 * (c.args.c / 8) + c.args.c % 8 ≡ c.args.c = omega arith in
    flags_in-set c.self.inside.flags (c.args.c / 8) (c.args.c % 8) c.with_flag.result true (omega arith) (omega arith) c.with_flag.ensures
    ∙ ap (λ (i : ℕ). set (flags_in c.self.inside.flags) i true) at
    ∙ ap (λ (flags : List Bool). set flags c.args.c true) c.self.view_is

pub returns-clause-chunks : goal.returns-clause-chunks
returns-clause-chunks c = flags_length (set c.self.inside.flags (c.args.c / 8) c.with_flag.result) (length-set c.self.inside.flags (c.args.c / 8) c.with_flag.result ∙ c.self.invariant.0)
