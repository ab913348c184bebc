use Rattle.std.proofs.Common.{◌+◌, ◌-◌, ◌*◌, length, arith}
use Rattle.h2_num.specs.Places.{places}
use Rattle.h2_header.specs.Fault.{ref_bytes}
use Rattle.h2_header.proofs.Pieces.{chunk_same, found_same, none_same}
use Rattle.h2_header.proofs.reading_refs.ref_at.Goals as goal

pub returns-clause-found : goal.returns-clause-found
returns-clause-found c =
    found_same c.decode.result c.ok.result (places c.in-Some.bytes.now) (ref_bytes c.args.at c.args.i (places c.args.b.now)) c.ok.ensures.value
    (chunk_same c.args.b.now c.in-Some.bytes.now c.args.at c.args.i (length c.args.b.now - (c.args.at + 128 * c.args.i)) (omega arith) c.in-Some.ensures.cases) c.decode.ensures.found

pub returns-clause-none : goal.returns-clause-none
returns-clause-none c =
    none_same c.decode.result c.ok.result (places c.in-Some.bytes.now) (ref_bytes c.args.at c.args.i (places c.args.b.now)) c.ok.ensures.value
    (chunk_same c.args.b.now c.in-Some.bytes.now c.args.at c.args.i (length c.args.b.now - (c.args.at + 128 * c.args.i)) (omega arith) c.in-Some.ensures.cases) c.decode.ensures.none
