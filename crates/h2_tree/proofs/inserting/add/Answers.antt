use Rattle.std.proofs.Common.{◌≡◌, true, false, sym, ◌∙◌}
use Rattle.h2_set.specs.StayLaws.{Readies-unchanged, Unchanged-walks}
use Rattle.h2_tree.proofs.Readied.{takes_after, inserts_after, none_after, full_after, not_full}
use Rattle.h2_tree.specs.AnswerLaws.{always_err}
use Rattle.h2_tree.proofs.Touching.{none_in}
use Rattle.h2_tree.proofs.inserting.add.Goals as goal

pub part-requires-clause-takes : goal.part-requires-clause-takes
part-requires-clause-takes g c = takes_after _ _ _ _ c.requires.stands c.in_ok-ready.ensures.same c.requires.sound c.requires.takes

pub part-requires-clause-none : goal.part-requires-clause-none
part-requires-clause-none g c = none_after _ _ _ c.args.leaf c.requires.stands c.in_ok-ready.ensures.same c.requires.none

pub part-requires-clause-full : goal.part-requires-clause-full
part-requires-clause-full g c = full_after _ _ _ c.requires.stands c.in_ok-ready.ensures.same (rw c.get.ensures at (c.is_full.ensures.full.0 c.if-is_full.true))

pub place-requires-clause-space : goal.place-requires-clause-space
place-requires-clause-space g c =
    let f = g.N.Sets.forest c.args.n.now in
    not_full (f.set c.args.at.0) (c.requires.sound.node c.args.at.0 c.requires.stands).set (λ e.
    let full : c.is_full.result ≡ true = c.is_full.ensures.full.1 (rw c.get.ensures e) in
    let clash : true ≡ false = sym full ∙ c.if-is_full.false in
    cc)

pub returns-in_err-ready-clause-walks : goal.returns-in_err-ready-clause-walks
returns-in_err-ready-clause-walks g c = always_err c.from_residual.result (Unchanged-walks _ _ (Readies-unchanged _ _ c.in_err-ready.ensures.same c.in_err-ready.ensures.err))

pub returns-in_err-ready-clause-touched : goal.returns-in_err-ready-clause-touched
returns-in_err-ready-clause-touched g c = always_err c.from_residual.result (none_in _ _ _ _ _ c.in_err-ready.ensures.same.none_new)

pub returns-then-is_full-clause-ok : goal.returns-then-is_full-clause-ok
returns-then-is_full-clause-ok g c = inserts_after _ _ _ _ c.requires.stands c.in_ok-ready.ensures.same c.in_ok-ready.ensures.still _ _ c.requires.sound c.part.ensures.inserts

pub returns-in_err-ready-clause-none_met : goal.returns-in_err-ready-clause-none_met
returns-in_err-ready-clause-none_met g c = record { failed = c.in_err-ready.ensures.same.failed; bad = c.in_err-ready.ensures.same.bad; met = c.in_err-ready.ensures.same.met }

pub returns-then-is_full-clause-none_met : goal.returns-then-is_full-clause-none_met
returns-then-is_full-clause-none_met g c = record { failed = c.part.ensures.none_met.failed ∙ c.in_ok-ready.ensures.same.failed; bad = c.part.ensures.none_met.bad ∙ c.in_ok-ready.ensures.same.bad; met = c.part.ensures.none_met.met ∙ c.in_ok-ready.ensures.same.met }
