use Rattle.std.proofs.Common.{subst, sym, ap, ◌∙◌}
use Rattle.h2_set.specs.Ranges.{put, IsApart}
use Rattle.h2_set.specs.RefSet.{RefSet}
use Rattle.h2_memory_sets.proofs.Putting.{put_none, put_cut}
use Rattle.h2_memory_sets.proofs.adding.cleared.Goals as goal

pub returns-in_default-clause-apart : goal.returns-in_default-clause-apart
returns-in_default-clause-apart c = put_none _ _ _ _ c.requires.rising c.in_default.ensures.absent

pub returns-clause-apart : goal.returns-clause-apart
returns-clause-apart c =
    let it = put_cut _ _ _ _ _ _ c.requires.rising c.cut.ensures.old (c.in-Some.ensures.found.holds _ c.cut.ensures.old) in
    subst (λ (s : RefSet). IsApart c.args.r.now s.refs) (sym c.cut.ensures.new) it.0

pub returns-clause-same : goal.returns-clause-same
returns-clause-same c =
    let it = put_cut _ _ _ _ _ _ c.requires.rising c.cut.ensures.old (c.in-Some.ensures.found.holds _ c.cut.ensures.old) in
    ap (λ (s : RefSet). put c.args.r.now s.refs) c.cut.ensures.new ∙ it.1
