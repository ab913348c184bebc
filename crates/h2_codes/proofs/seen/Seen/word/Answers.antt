use Rattle.std.proofs.Common.{◌+◌, ◌*◌, ◌%◌, ℕ, Bool, List, subst}
use Rattle.h2_codes.specs.Seen.{has_chunk}
use Rattle.h2_codes.specs.Packed.{Marks, flag_bit}
use Rattle.h2_codes.proofs.Segments.{word_marks}
use Rattle.h2_codes.proofs.seen.Seen.word.Goals as goal

pub returns-clause-marks : goal.returns-clause-marks
returns-clause-marks c =
    let mask : ℕ = c.spread.result + c.spread-2.result * 65536 % 18446744073709551616 + (c.spread-3.result + c.spread-4.result * 65536 % 18446744073709551616) * 4294967296 % 18446744073709551616 in
    subst (λ (flags : List Bool). Marks (λ k. flag_bit (has_chunk flags (32 * c.args.j + k))) mask) c.self.view_is
    (word_marks c.self.inside.flags c.args.j c.spread.result c.spread-2.result c.spread-3.result c.spread-4.result c.self.invariant.0 c.requires c.spread.ensures c.spread-2.ensures c.spread-3.ensures c.spread-4.ensures)
