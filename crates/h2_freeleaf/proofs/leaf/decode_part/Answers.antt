use Rattle.std.proofs.Common.{◌≡◌, ◌≢◌, arith, rules}
use Rattle.h2_num.specs.Places.{places, number_at}
use Rattle.h2_codes.specs.declared.code.Code.TheVariants.{Free}
use Rattle.h2_codes.specs.Codes.{count_of}
use Rattle.h2_freeleaf.specs.Fault.{bad_count, bad_tail}
use Rattle.h2_freeleaf.proofs.Leaves.{wrong_count}
use Rattle.h2_freeleaf.proofs.leaf.decode_part.Goals as goal

pub returns-then-get32-free-clause-fault : goal.returns-then-get32-free-clause-fault
returns-then-get32-free-clause-fault c =
    let differ : number_at (places c.args.b.now) 64 4 ≢ count_of Free c.codes_of-segment.result = search rules in
    bad_count (wrong_count c.layout_law.ensures.one_segment c.codes_of-segment.result (places c.args.b.now) c.codes_of-segment.ensures.chunks c.codes_of-segment.ensures.codes differ)

pub returns-in-Some-clause-fault : goal.returns-in-Some-clause-fault
returns-in-Some-clause-fault c =
    let same : number_at (places c.args.b.now) 64 4 ≡ count_of Free c.codes_of-segment.result = search rules in
    let h = c.in-Some.ensures in
    let above = h.2 in
    bad_tail c.in-Some.at (record { codes = c.codes_of-segment.result; segment = c.codes_of-segment.ensures.chunks; holds = c.codes_of-segment.ensures.codes; free = same }) h.0 h.1 (λ e. absurd (omega (arith, e, above))) h.3
