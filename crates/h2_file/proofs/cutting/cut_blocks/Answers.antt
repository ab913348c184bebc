use Rattle.h2_inode.specs.NamesOneLaws.{rootless_one, walks_one}
use Rattle.h2_file.proofs.Held.{cut_has}
use Rattle.h2_file.proofs.Sized.{cuts_file, kept_file, kept_resized, others_beside}
use Rattle.h2_file.proofs.Others.{cut_others}
use Rattle.h2_set.specs.MetLaws.{MeetsNone-trans}
use Rattle.h2_file.proofs.cutting.cut_blocks.Goals as goal

pub set_size-requires-clause-file : goal.set_size-requires-clause-file
set_size-requires-clause-file g c = kept_file g.N.Nodes.fields _ _ _ _ _ c.args.size c.in_ok-cut_tree.ensures.cuts.place c.in_ok-cut_tree.ensures.cuts.fixed c.in_ok-cut_tree.ensures.beside c.requires.file

pub returns-clause-cuts : goal.returns-clause-cuts
returns-clause-cuts g c = cuts_file _ _ _ _ _ _ c.requires.sound c.requires.file.has.stands c.requires.file.has.root c.in_ok-cut_tree.ensures.cuts c.in_ok-cut_tree.ensures.nodes c.set_size.ensures.sizes

pub returns-clause-inode : goal.returns-clause-inode
returns-clause-inode g c = λ file. kept_resized g.N.Nodes.fields _ _ _ _ _ c.args.size c.in_ok-cut_tree.ensures.cuts.place c.in_ok-cut_tree.ensures.cuts.fixed c.in_ok-cut_tree.ensures.beside _ _ file (c.set_size.ensures.inode (kept_file g.N.Nodes.fields _ _ _ _ _ c.args.size c.in_ok-cut_tree.ensures.cuts.place c.in_ok-cut_tree.ensures.cuts.fixed c.in_ok-cut_tree.ensures.beside file))

pub returns-clause-contents : goal.returns-clause-contents
returns-clause-contents g c = λ blocks old bytes has ends. cut_has _ _ _ _ _ _ blocks _ old c.args.size bytes c.args.last c.requires.last ends (returns-clause-cuts g c) has

pub returns-clause-beside : goal.returns-clause-beside
returns-clause-beside g c = others_beside _ _ _ _ _ _ _ c.set_size.ensures.sizes.none_new c.in_ok-cut_tree.ensures.beside c.set_size.ensures.beside

pub returns-clause-later : goal.returns-clause-later
returns-clause-later g c = g.met.N.Sets.later_later _ _ _ c.in_ok-cut_tree.ensures.later c.set_size.ensures.later

pub returns-clause-others : goal.returns-clause-others
returns-clause-others g c = cut_others g.N.Nodes.fields _ _ c.args.inode.0 c.args.size c.args.last _ _ _ _ c.requires.sound c.requires.file.has.stands c.requires.file.has.root (returns-clause-cuts g c) (returns-clause-beside g c)

pub returns-in_err-cut_tree-clause-one : goal.returns-in_err-cut_tree-clause-one
returns-in_err-cut_tree-clause-one g c names = walks_one _ _ names c.in_err-cut_tree.ensures.walks

pub returns-clause-one : goal.returns-clause-one
returns-clause-one g c names = let cuts = returns-clause-cuts g c in rootless_one _ _ names cuts.sound cuts.roots cuts.still

pub returns-clause-none_met : goal.returns-clause-none_met
returns-clause-none_met g c = MeetsNone-trans _ _ _ c.in_ok-cut_tree.ensures.none_met c.set_size.ensures.none_met
