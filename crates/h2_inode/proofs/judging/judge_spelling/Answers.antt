use Rattle.std.proofs.Common.{length}
use Rattle.h2_num.specs.Places.{places}
use Rattle.h2_ref.specs.declared.reference.Kind.TheVariants.{Inode, Indirect, Dirent}
use Rattle.h2_inode.proofs.Judged.{checked, inode_judged, set_judged, name_judged}
use Rattle.h2_inode.proofs.judging.judge_spelling.Goals as goal

pub returns-in-Inode : goal.returns-in-Inode
returns-in-Inode c =
    inode_judged c.judge_inode.result c.args.r.now (places c.args.b.now) c.in-Inode.is
    (checked Inode c.args.r.now (length c.args.b.now) (places c.args.b.now) c.in-Inode.is c.requires.valid c.requires.block c.requires.size c.requires.check)
    (rw c.small_block.ensures at c.judge_inode.ensures)

pub returns-in-Indirect : goal.returns-in-Indirect
returns-in-Indirect c =
    set_judged c.judge_set.result c.args.r.now (places c.args.b.now) c.in-Indirect.is
    (checked Indirect c.args.r.now (length c.args.b.now) (places c.args.b.now) c.in-Indirect.is c.requires.valid c.requires.block c.requires.size c.requires.check)
    c.judge_set.ensures

pub returns-in-Dirent : goal.returns-in-Dirent
returns-in-Dirent c =
    name_judged c.judge_name.result c.args.r.now (places c.args.b.now) c.in-Dirent.is
    (checked Dirent c.args.r.now (length c.args.b.now) (places c.args.b.now) c.in-Dirent.is c.requires.valid c.requires.block c.requires.size c.requires.check)
    (rw c.small_block-in-Dirent.ensures at c.judge_name.ensures)
