use Rattle.std.proofs.Common.{◌≡◌, sym, subst, ap, ◌∙◌}
use Rattle.h2_set.specs.RefSet.{RefSet}
use Rattle.h2_inode.specs.declared.inode.Inode.{Inode}
use Rattle.h2_inode.specs.Nodes.{held_by, set_of, HasInode, Replaceable, Replaces}
use Rattle.h2_dir.proofs.Resized.{own_set, same_fields, sized}
use Rattle.h2_dir.proofs.resizing.resize.Goals as goal

pub set_inode-requires-clause-kept : goal.set_inode-requires-clause-kept
set_inode-requires-clause-kept g c =
    let i = c.inode.result.now in
    (i, c.inode.ensures, ap (λ (x : Inode). x.kind) c.with_size-inode.ensures, ap (λ (x : Inode). x.number) c.with_size-inode.ensures)

pub set_inode-requires-clause-replaceable : goal.set_inode-requires-clause-replaceable
set_inode-requires-clause-replaceable g c =
    let f = g.N.Sets.forest c.args.n.now in
    let i = c.inode.result.now in
    let own : Replaceable f c.args.at.0 i.kind (f.set c.args.at.0) = own_set _ _ _ i c.requires.sound c.inode.ensures in
    subst (λ (x : Inode). Replaceable f c.args.at.0 x.kind (set_of x.body)) (sym c.with_size-inode.ensures) (subst (λ (s : RefSet). Replaceable f c.args.at.0 i.kind s) c.inode.ensures.set own)

pub returns-clause-replaces : goal.returns-clause-replaces
returns-clause-replaces g c =
    let f = g.N.Sets.forest c.args.n.now in
    let h = g.N.Sets.forest c.set_inode.new.self in
    let i = c.inode.result.now in
    let same : set_of (c.with_size-inode.result.body) ≡ f.set c.args.at.0 = ap (λ (x : Inode). set_of x.body) c.with_size-inode.ensures ∙ sym c.inode.ensures.set in
    subst (λ (s : RefSet). Replaces f h c.args.at.0 s) same c.set_inode.ensures.replaces

pub returns-clause-inode : goal.returns-clause-inode
returns-clause-inode g c i has refs =
    let f = g.N.Sets.forest c.args.n.now in
    let h = g.N.Sets.forest c.set_inode.new.self in
    let j = c.inode.result.now in
    let is = sized i j c.args.size (f.set c.args.at.0) (same_fields f _ c.args.at.0 i j has c.inode.ensures) refs c.inode.ensures.set in
    subst (λ (x : Inode). HasInode h (held_by g.N.Nodes.fields (g.N.Sets.beside c.set_inode.new.self)) c.args.at.0 x) (c.with_size-inode.ensures ∙ is) c.set_inode.ensures.inode
