use Rattle.std.proofs.Common.{◌≡◌, arith, refl, sym, ap, ◌∙◌}
use Rattle.std.proofs.lemmas.Option.{slice_get_read, none-some}
use Rattle.h2_memory_sets.specs.declared.node.Node.{Node}
use Rattle.h2_memory_sets.proofs.Inoded.{has_inode, inode_there}
use Rattle.h2_memory_sets.proofs.Nodes.{is_there}
use Rattle.h2_memory_sets.proofs.Parting.{one_of}
use Rattle.h2_memory_sets.proofs.inodes.MemorySetsNodes.inode.Goals as goal

pub returns : goal.returns
returns c =
    let p = c.args.self.now in
    let xs = p.nodes.items in
    let h = c.requires.1 in
    let x = c.index.result.now in
    let read = slice_get_read xs _ c.args.at.0 x refl (is_there xs c.args.at.0 h.stands) c.index.ensures in
    has_inode xs p.spare p.epoch p.room p.failed p.bad p.met p.kept c.args.at.0 x c.in-Some.inode h.stands read c.in-Some.is

pub unreachable-unreachable : goal.unreachable-unreachable
unreachable-unreachable c = absurd c.unreachable.result

pub unreachable-requires : goal.unreachable-requires
unreachable-requires c =
    let p = c.args.self.now in
    let xs = p.nodes.items in
    let h = c.requires.1 in
    let x = c.index.result.now in
    let read = slice_get_read xs _ c.args.at.0 x refl (is_there xs c.args.at.0 h.stands) c.index.ensures in
    let it = inode_there xs p.spare p.epoch p.room p.failed p.bad p.met p.kept c.args.at.0 c.requires.0 h in
    let same : it.0 ≡ x = one_of it.0 x (sym it.2 ∙ read) in
    none-some it.1 (sym (ap (λ (z : Node). z.inode) same ∙ c.in-None.is) ∙ it.3)

pub index-requires : goal.index-requires
index-requires c =
    let h = c.requires.1 in
    let lt = is_there c.args.self.now.nodes.items c.args.at.0 h.stands in
    let len = c.args.self.now.nodes.ok.0 in
    omega (arith, lt, len)
