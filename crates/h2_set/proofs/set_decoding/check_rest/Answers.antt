use Rattle.std.proofs.Common.{◌≡◌, None, below_more, arith, inl, inr}
use Rattle.std.proofs.lemmas.Bool.{cases_lt}
use Rattle.h2_num.specs.Places.{places}
use Rattle.h2_ref.specs.Fault.{first_fault}
use Rattle.h2_set.specs.SetBytes.{slot}
use Rattle.h2_set.proofs.Fronts.{nothing_there}
use Rattle.h2_set.proofs.set_decoding.check_rest.Goals as goal

pub check_refs-requires-clause-before : goal.check_refs-requires-clause-before
check_refs-requires-clause-before c = below_more (λ i. first_fault (slot (places c.args.b.now) i) ≡ None) c.loop-i.i c.loop-i.invariant.decoded c.in_ok-r.ensures.decoded

pub loop-i-preserved : goal.loop-i-preserved
loop-i-preserved c =
    let here = nothing_there c.in_ok-r.r (slot (places c.args.b.now) c.loop-i.i) c.in_ok-r.ensures.found (c.is_nothing.ensures.0 c.if-not-is_nothing.false) in
    record {
      decoded = below_more (λ i. first_fault (slot (places c.args.b.now) i) ≡ None) c.loop-i.i c.loop-i.invariant.decoded c.in_ok-r.ensures.decoded;
      empty = λ i ge lt. elim (cases_lt i c.loop-i.i) [
        | inl below ↦ c.loop-i.invariant.empty i ge below
        | inr last ↦ let e : i ≡ c.loop-i.i = omega arith in rw e here
      ];
    }

pub returns-clause-empty : goal.returns-clause-empty
returns-clause-empty c = λ i ge lt. c.loop-i.invariant.empty i ge (omega arith)
