use Rattle.std.proofs.Common.{◌≡◌, sym, arith, length, rules}
use Rattle.std.specs.Prelude.{◌⊎◌}
use Rattle.h2_ref.specs.declared.faults.Trouble.TheVariants.{NoMemory}
use Rattle.h2_dir.specs.Listing.{AnyLongName}
use Rattle.h2_set.specs.Calls.{IsBad}
use Rattle.h2_dir.specs.Names.{AllNamed}
use Rattle.h2_dir.proofs.Known.{named_at}
use Rattle.h2_dir.proofs.Told.{any_long}
use Rattle.h2_dir.proofs.Unchanging.{unchanged_trans, beside_unchanged}
use Rattle.h2_dir.proofs.Listed.{each_more, each_all, says_stays}
use Rattle.h2_set.specs.MetLaws.{MeetsNone-trans, handed_met_only}
use Rattle.h2_dir.proofs.listing.all_named.Goals as goal

pub returns-in_err-named-clause-same : goal.returns-in_err-named-clause-same
returns-in_err-named-clause-same g c = unchanged_trans _ _ _ c.loop-i.invariant.same c.in_err-named.ensures.same

pub returns-clause-each : goal.returns-clause-each
returns-clause-each g c =
    let end : c.loop-i.i ≡ length c.args.leaves.now = omega arith in
    each_all _ _ _ _ end c.loop-i.invariant.each

pub returns-in-Err-clause-same : goal.returns-in-Err-clause-same
returns-in-Err-clause-same g c = unchanged_trans _ _ _ c.loop-i.invariant.same c.in_ok-named.ensures.same

pub loop-i-preserved : goal.loop-i-preserved
loop-i-preserved g c =
    let before = c.loop-i.invariant in
    let now = c.in_ok-named.ensures in
    record {
      same = unchanged_trans _ _ _ before.same now.same;
      beside = beside_unchanged _ _ _ _ _ _ before.same before.beside now.beside;
      later = g.met.N.Sets.later_later _ _ _ before.later now.later;
      none_met = MeetsNone-trans _ _ _ before.none_met now.none_met;
      each = each_more _ _ _ _ _ _ _ c.loop-i-test.true before.each (says_stays _ _ _ _ (λ r. sym (before.same.fixed.name r)) now.says) c.in-Ok.ensures.items;
    }

pub returns-in_err-named-clause-unread : goal.returns-in_err-named-clause-unread
returns-in_err-named-clause-unread g c =
    let long : (c.in_err-named.field-0.0 ≡ NoMemory) ⊎ AnyLongName c.args.leaves.now = any_long _ _ _ _ c.loop-i-test.true c.in_err-named.ensures.unread in
    search (long, rules)

pub returns-in_err-named-clause-good : goal.returns-in_err-named-clause-good
returns-in_err-named-clause-good g c =
    let f = g.N.Sets.forest c.args.n.now in
    let good : AllNamed f c.args.leaves.now → IsBad c.in_err-named.field-0.0 → ⊥ = λ all bad. let own = named_at f _ _ _ _ c.loop-i.invariant.same.fixed.name c.loop-i-test.true all in c.in_err-named.ensures.good own.0 own.1 bad in
    search (good, rules)

pub returns-in_err-named-clause-met_only : goal.returns-in_err-named-clause-met_only
returns-in_err-named-clause-met_only g c = handed_met_only _ _ _ c.from_residual.result c.in_err-named.field-0.0 c.from_residual.ensures.1 c.loop-i.invariant.none_met c.in_err-named.ensures.met_only

pub returns-in-Err-clause-met_only : goal.returns-in-Err-clause-met_only
returns-in-Err-clause-met_only g c = MeetsNone-trans _ _ _ c.loop-i.invariant.none_met c.in_ok-named.ensures.none_met
