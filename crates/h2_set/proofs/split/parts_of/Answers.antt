use Rattle.std.proofs.Common.{◌≡◌, ◌^◌, arith, ap, sym, ◌∙◌, subst, length}
use Rattle.h2_set.specs.Ranges.{Rising, put}
use Rattle.h2_set.specs.EditLaws.{Rising-put, length-put}
use Rattle.h2_set.specs.PutLaws.{Rising-filter, kept_rest}
use Rattle.h2_set.proofs.Least.{few_enough, inner_is_set}
use Rattle.h2_set.proofs.split.parts_of.Goals as goal

pub least_range-key-requires-clause-few : goal.least_range-key-requires-clause-few
least_range-key-requires-clause-few c =
    let e : c.deref.result.now ≡ put c.args.r c.args.refs.now = c.deref.ensures.0 ∙ c.with_one_more-all.ensures in
    let n = ap length e ∙ length-put c.args.r c.args.refs.now c.requires.apart in
    (omega (arith, n, c.requires.few.0), omega (arith, n, c.requires.few.1))

pub least_range-key-requires-clause-rising : goal.least_range-key-requires-clause-rising
least_range-key-requires-clause-rising c =
    let e : c.deref.result.now ≡ put c.args.r c.args.refs.now = c.deref.ensures.0 ∙ c.with_one_more-all.ensures in
    subst (Rising 0 (2 ^ 64)) (sym e) (Rising-put 0 (2 ^ 64) c.args.refs.now c.args.r c.requires.rising c.requires.apart (omega arith) c.requires.small)

pub lying_in-requires-clause-few : goal.lying_in-requires-clause-few
lying_in-requires-clause-few c =
    let e : c.deref.result.now ≡ put c.args.r c.args.refs.now = c.deref.ensures.0 ∙ c.with_one_more-all.ensures in
    let e2 : c.deref-2.result.now ≡ put c.args.r c.args.refs.now = c.deref-2.ensures.0 ∙ c.with_one_more-all.ensures in
    few_enough c.args.r c.args.refs.now c.deref.result.now c.deref-2.result.now _ _ c.requires.few c.requires.rising c.requires.apart c.requires.small c.requires.aligned c.least_range-key.ensures.split e e2

pub returns-clause-inner_set : goal.returns-clause-inner_set
returns-clause-inner_set c =
    let e2 : c.deref-2.result.now ≡ put c.args.r c.args.refs.now = c.deref-2.ensures.0 ∙ c.with_one_more-all.ensures in
    inner_is_set c.args.r c.args.refs.now c.deref-2.result.now c.lying_in.result.items _ _ c.requires.rising c.requires.apart c.requires.small e2 c.lying_in.ensures.items c.lying_in.ensures.fits

pub returns-clause-outer_rising : goal.returns-clause-outer_rising
returns-clause-outer_rising c = subst (Rising 0 (2 ^ 64)) (sym c.lying_outside.ensures.items) (Rising-filter _ 0 (2 ^ 64) c.args.refs.now c.requires.rising)

pub returns-clause-kept : goal.returns-clause-kept
returns-clause-kept c = rw (c.left_over.ensures, c.lying_outside.ensures.items) (kept_rest _ _ c.args.r 0 (2 ^ 64) c.args.refs.now c.requires.rising c.requires.apart)
