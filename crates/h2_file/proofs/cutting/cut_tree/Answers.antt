use Rattle.std.proofs.Common.{subst, ap, length, sym, slice_get, arith, ◌∙◌}
use Rattle.std.proofs.lemmas.Option.{slice_get_within}
use Rattle.h2_set.specs.RefSet.{RefSet}
use Rattle.h2_set.specs.Forest.{refs}
use Rattle.h2_file.specs.Cutting.{Remains}
use Rattle.h2_file.specs.declared.cutting.Left.TheVariants.{Nothing, All}
use Rattle.h2_file.proofs.CutLevels.{root_cut}
use Rattle.h2_file.proofs.CutWhole.{root_kept, root_nodes}
use Rattle.h2_set.specs.MetLaws.{MeetsNone-trans}
use Rattle.h2_file.proofs.cutting.cut_tree.Goals as goal

pub returns-in-Nothing-clause-cuts : goal.returns-in-Nothing-clause-cuts
returns-in-Nothing-clause-cuts g c =
    let left : Remains (g.N.Sets.forest c.args.n.now) (g.N.Sets.forest c.cut_below.new.n) c.args.root.0 c.args.size c.args.last Nothing = subst (λ t. Remains (g.N.Sets.forest c.args.n.now) (g.N.Sets.forest c.cut_below.new.n) c.args.root.0 c.args.size c.args.last t) c.in-Nothing.is c.in_ok-cut_below.ensures.left in
    root_cut _ _ _ _ _ _ c.requires.sound c.requires.stands c.requires.top left.0 left.1 left.2 left.3 c.keep_front-in-Nothing.ensures.kept

pub returns-in-Nothing-clause-nodes : goal.returns-in-Nothing-clause-nodes
returns-in-Nothing-clause-nodes g c =
    let left : Remains (g.N.Sets.forest c.args.n.now) (g.N.Sets.forest c.cut_below.new.n) c.args.root.0 c.args.size c.args.last Nothing = subst (λ t. Remains (g.N.Sets.forest c.args.n.now) (g.N.Sets.forest c.cut_below.new.n) c.args.root.0 c.args.size c.args.last t) c.in-Nothing.is c.in_ok-cut_below.ensures.left in
    root_nodes _ _ _ _ _ _ _ c.requires.stands c.requires.top left.0 left.1 c.keep_front-in-Nothing.ensures.kept (λ i x read ends. absurd (left.4 i x (ap (λ (s : RefSet). slice_get s.refs i) (sym (left.0.walks.sets c.args.root.0 c.requires.stands)) ∙ read) ends))

pub returns-in-All-clause-cuts : goal.returns-in-All-clause-cuts
returns-in-All-clause-cuts g c =
    let left : Remains (g.N.Sets.forest c.args.n.now) (g.N.Sets.forest c.cut_below.new.n) c.args.root.0 c.args.size c.args.last All = subst (λ t. Remains (g.N.Sets.forest c.args.n.now) (g.N.Sets.forest c.cut_below.new.n) c.args.root.0 c.args.size c.args.last t) c.in-All.is c.in_ok-cut_below.ensures.left in
    root_kept _ _ _ _ _ _ _ c.requires.sound c.requires.stands c.requires.top left.0 left.1 (c.len-count.ensures.len ∙ ap (λ (s : RefSet). length s.refs) c.get.ensures) c.keep_front.ensures.kept

pub returns-in-All-clause-nodes : goal.returns-in-All-clause-nodes
returns-in-All-clause-nodes g c =
    let left : Remains (g.N.Sets.forest c.args.n.now) (g.N.Sets.forest c.cut_below.new.n) c.args.root.0 c.args.size c.args.last All = subst (λ t. Remains (g.N.Sets.forest c.args.n.now) (g.N.Sets.forest c.cut_below.new.n) c.args.root.0 c.args.size c.args.last t) c.in-All.is c.in_ok-cut_below.ensures.left in
    root_nodes _ _ _ _ _ _ _ c.requires.stands c.requires.top left.1 left.0.touched c.keep_front.ensures.kept (λ i x read ends. let w = slice_get_within (refs (g.N.Sets.forest c.cut_below.new.n) c.args.root.0) i x read in let n = c.len-count.ensures.len ∙ ap (λ (s : RefSet). length s.refs) c.get.ensures in omega (arith, n, w))

pub returns-in-All-clause-none_met : goal.returns-in-All-clause-none_met
returns-in-All-clause-none_met g c = MeetsNone-trans _ _ _ c.in_ok-cut_below.ensures.none_met c.keep_front.ensures.none_met

pub returns-in-Nothing-clause-none_met : goal.returns-in-Nothing-clause-none_met
returns-in-Nothing-clause-none_met g c = MeetsNone-trans _ _ _ c.in_ok-cut_below.ensures.none_met c.keep_front-in-Nothing.ensures.none_met
