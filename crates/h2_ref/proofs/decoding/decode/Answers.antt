use Rattle.std.proofs.Common.{sym, ◌∙◌, subst}
use Rattle.h2_num.specs.Places.{places}
use Rattle.h2_ref.specs.Ref.{IsValid, RefBytes}
use Rattle.h2_ref.specs.FaultLaws.{fault_from, fault-none, spelled_by}
use Rattle.h2_ref.proofs.decoding.decode.Goals as goal

pub returns-in-Some-fault_by-clause-none : goal.returns-in-Some-fault_by-clause-none
returns-in-Some-fault_by-clause-none c =
    fault-none (places c.args.b.now) c.in-Some-fault_by.fault (fault_from (places c.args.b.now) c.in-Some.kind c.row_of-w.result.now _ (sym c.kind_of.ensures ∙ c.in-Some.is) c.row_of-w.ensures (sym c.fault_by.ensures ∙ c.in-Some-fault_by.is))

pub returns-in-None-clause-found : goal.returns-in-None-clause-found
returns-in-None-clause-found c =
    subst (λ r. IsValid r × RefBytes r (places c.args.b.now)) (sym c.read.ensures)
    (spelled_by (places c.args.b.now) c.in-Some.kind c.row_of-w.result.now (λ k. c.fits-b k) (sym c.kind_of.ensures ∙ c.in-Some.is) c.row_of-w.ensures (sym c.fault_by.ensures ∙ c.in-None.is))
