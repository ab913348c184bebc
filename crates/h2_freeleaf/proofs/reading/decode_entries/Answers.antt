use Rattle.std.proofs.Common.{◌≡◌, ◌<◌, ◌+◌, ◌*◌, length, arith, refl, subst, rules}
use Rattle.std.specs.Prelude.{slice_index_or}
use Rattle.h2_num.specs.Places.{places}
use Rattle.h2_ref.specs.Ref.{IsValid, RefBytes, empty_ref}
use Rattle.h2_header.specs.Map.{zones_under, IsMapEntry}
use Rattle.h2_freeleaf.proofs.Parts.{ReadTo, read_more, fill_more}
use Rattle.h2_freeleaf.proofs.Nodes.{all_read}
use Rattle.h2_freeleaf.proofs.reading.decode_entries.Goals as goal

pub returns-in_default-clause-wrong : goal.returns-in_default-clause-wrong
returns-in_default-clause-wrong c = record {
  index = c.loop-i.i;
  below = c.loop-i-test.true;
  wrong = c.in_default.ensures.none;
  right = λ k lt.
      let read = c.loop-i.invariant.read in
      record { ref = slice_index_or c.loop-i.refs k empty_ref; spelled = read.bytes k empty_ref lt; valid = read.each k empty_ref (omega arith) lt; names = c.loop-i.invariant.entries k empty_ref lt };
  is = refl;
}

pub loop-i-preserved : goal.loop-i-preserved
loop-i-preserved c =
    let read = c.loop-i.invariant.read in
    let len : length c.loop-i.refs ≡ 8 = read.size in
    let lt : c.loop-i.i < 8 = c.loop-i-test.true in
    let h = c.args.h.now in
    record {
      read = read_more IsValid RefBytes (places c.args.b.now) c.loop-i.refs c.in-Some.r c.loop-i.i lt read c.in-Some.ensures.found.0 c.in-Some.ensures.found.1;
      entries = fill_more (λ k r. IsMapEntry c.args.level h.zones h.map_number (c.args.zone + zones_under c.args.level * k) r) c.loop-i.refs c.in-Some.r c.loop-i.i (omega (arith, len))
          c.loop-i.invariant.entries c.in-Some.ensures.names;
    }

pub returns-clause-found : goal.returns-clause-found
returns-clause-found c =
    let end : c.loop-i.i ≡ 8 = search rules in
    all_read (places c.args.b.now) c.loop-i.refs (subst (ReadTo IsValid RefBytes (places c.args.b.now) c.loop-i.refs) end c.loop-i.invariant.read)
