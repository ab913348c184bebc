use Rattle.std.proofs.Common.{◌∙◌}
use Rattle.h2_file.proofs.Sized.{replaceable, sizes, has_resized}
use Rattle.h2_file.proofs.sizing.set_size.Goals as goal

pub set_inode-requires-clause-replaceable : goal.set_inode-requires-clause-replaceable
set_inode-requires-clause-replaceable g c = replaceable _ _ _ c.args.size c.requires.sound c.requires.file _ _ c.inode.ensures _ (c.copy-set.ensures.same ∙ c.get.ensures) c.resized-inode.ensures

pub returns-clause-sizes : goal.returns-clause-sizes
returns-clause-sizes g c = sizes _ _ _ c.args.size c.requires.sound c.requires.file _ _ c.inode.ensures _ (c.copy-set.ensures.same ∙ c.get.ensures) c.resized-inode.ensures _ _ c.set_inode.ensures.replaces c.set_inode.ensures.inode

pub returns-clause-inode : goal.returns-clause-inode
returns-clause-inode g c = λ file. has_resized _ _ _ c.args.size c.requires.sound file _ _ c.inode.ensures _ (c.copy-set.ensures.same ∙ c.get.ensures) c.resized-inode.ensures _ _ c.set_inode.ensures.replaces c.set_inode.ensures.inode

pub returns-clause-none_met : goal.returns-clause-none_met
returns-clause-none_met g c = record { failed = c.set_inode.ensures.replaces.failed; bad = c.set_inode.ensures.replaces.bad; met = c.set_inode.ensures.replaces.met }
