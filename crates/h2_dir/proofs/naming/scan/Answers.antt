use Rattle.std.proofs.Common.{◌<◌, ◌≤◌, length, arith, rules}
use Rattle.std.proofs.lemmas.Option.{slice_get_within}
use Rattle.h2_dir.proofs.Unchanging.{unchanged_trans, beside_unchanged}
use Rattle.h2_set.specs.Calls.{IsBad}
use Rattle.h2_dir.specs.Names.{AllNamed}
use Rattle.h2_dir.proofs.Known.{named_at}
use Rattle.h2_dir.proofs.Scanning.{place_found, none_more}
use Rattle.h2_set.specs.MetLaws.{MeetsNone-trans, handed_met_only}
use Rattle.h2_dir.proofs.naming.scan.Goals as goal

pub returns-in_err-has_name-clause-same : goal.returns-in_err-has_name-clause-same
returns-in_err-has_name-clause-same g c = unchanged_trans _ _ _ c.loop-i.invariant.same c.in_err-has_name.ensures.same

pub returns-then-branch-clause-same : goal.returns-then-branch-clause-same
returns-then-branch-clause-same g c = unchanged_trans _ _ _ c.loop-i.invariant.same c.in_ok-has_name.ensures.same

pub returns-then-branch-clause-scanned : goal.returns-then-branch-clause-scanned
returns-then-branch-clause-scanned g c = place_found _ _ _ _ _ _ c.loop-i.invariant.same c.loop-i-test.true (c.in_ok-has_name.ensures.yes c.if-branch.true)

pub loop-i-preserved : goal.loop-i-preserved
loop-i-preserved g c =
    let before = c.loop-i.invariant in
    let now = c.in_ok-has_name.ensures in
    record {
      same = unchanged_trans _ _ _ before.same now.same;
      beside = beside_unchanged _ _ _ _ _ _ before.same before.beside now.beside;
      later = g.met.N.Sets.later_later _ _ _ before.later now.later;
      none_met = MeetsNone-trans _ _ _ before.none_met now.none_met;
      none = none_more _ _ _ _ _ _ before.same before.none (now.no c.if-branch.false);
    }

pub returns-clause-scanned : goal.returns-clause-scanned
returns-clause-scanned g c i leaf read named =
    let within : i < length c.args.leaves.now = slice_get_within _ _ _ read in
    let end : length c.args.leaves.now ≤ c.loop-i.i = c.loop-i-test.false in
    c.loop-i.invariant.none i leaf (omega arith) read named

pub returns-in_err-has_name-clause-good : goal.returns-in_err-has_name-clause-good
returns-in_err-has_name-clause-good g c =
    let f = g.N.Sets.forest c.args.n.now in
    let good : AllNamed f c.args.leaves.now → IsBad c.in_err-has_name.field-0.0 → ⊥ = λ all bad. let own = named_at f _ _ _ _ c.loop-i.invariant.same.fixed.name c.loop-i-test.true all in c.in_err-has_name.ensures.good own.0 own.1 bad in
    search (good, rules)

pub returns-in_err-has_name-clause-met_only : goal.returns-in_err-has_name-clause-met_only
returns-in_err-has_name-clause-met_only g c = handed_met_only _ _ _ c.from_residual.result c.in_err-has_name.field-0.0 c.from_residual.ensures.1 c.loop-i.invariant.none_met c.in_err-has_name.ensures.met_only

pub returns-then-branch-clause-none_met : goal.returns-then-branch-clause-none_met
returns-then-branch-clause-none_met g c = MeetsNone-trans _ _ _ c.loop-i.invariant.none_met c.in_ok-has_name.ensures.none_met
