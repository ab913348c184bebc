use Rattle.std.proofs.Common.{◌≡◌, subst, refl, rules}
use Rattle.h2_num.specs.Places.{places}
use Rattle.h2_header.proofs.Pieces.{RootsTo, more_roots, wrong_root, all_roots}
use Rattle.h2_header.proofs.reading_refs.read_root.Goals as goal

pub returns-in_default-clause-wrong : goal.returns-in_default-clause-wrong
returns-in_default-clause-wrong c =
    wrong_root (places c.args.b.now) c.loop-i.refs c.loop-i.before c.loop-i.i _ c.loop-i-test.true c.loop-i.invariant c.in_default.ensures.wrong refl

pub loop-i-preserved : goal.loop-i-preserved
loop-i-preserved c =
    let found = c.in-Some.ensures in
    more_roots (places c.args.b.now) c.loop-i.refs c.loop-i.before c.in-Some.r c.loop-i.i c.loop-i-test.true c.loop-i.invariant found.spelled found.may found.follows

pub returns-clause-root : goal.returns-clause-root
returns-clause-root c =
    let end : c.loop-i.i ≡ 4 = search rules in
    (all_roots (places c.args.b.now) c.loop-i.refs c.loop-i.before (subst (RootsTo (places c.args.b.now) c.loop-i.refs c.loop-i.before) end c.loop-i.invariant)).0
