use Rattle.h2_cmd.proofs.FirstBlocks.{first_need, second_need, first_place, second_place, new_segments}
use Rattle.h2_cmd.proofs.taking.take_inode_blocks.Goals as goal

pub take-directory-requires : goal.take-directory-requires
take-directory-requires c = record { enough = first_need c.args.freemap.now.zones c.args.freemap.now c.requires.zones.0 c.requires.fresh }

pub take-pfs-requires : goal.take-pfs-requires
take-pfs-requires c = record { enough = second_need c.args.freemap.now.zones c.args.freemap.now c.take-directory.new.self c.take-directory.result c.requires.zones.0 c.requires.fresh c.take-directory.ensures.takes }

pub returns-clause-taken : goal.returns-clause-taken
returns-clause-taken c = record { between = c.take-directory.new.self; first = c.take-directory.ensures.takes; second = c.take-pfs.ensures.takes }

pub returns-clause-codes : goal.returns-clause-codes
returns-clause-codes c =
    new_segments c.args.freemap.now c.take-directory.new.self c.take-pfs.new.self c.take-directory.result c.take-pfs.result c.requires.zones.0 c.requires.fresh c.take-directory.ensures.takes c.take-pfs.ensures.takes c.geometry.ensures.consistent

pub returns-clause-directory_radix : goal.returns-clause-directory_radix
returns-clause-directory_radix c = c.take-directory.ensures.takes.radix

pub returns-clause-pfs_radix : goal.returns-clause-pfs_radix
returns-clause-pfs_radix c = c.take-pfs.ensures.takes.radix

pub returns-clause-directory : goal.returns-clause-directory
returns-clause-directory c = first_place c.args.freemap.now.zones c.args.freemap.now c.take-directory.new.self c.take-directory.result c.requires.zones.0 c.requires.fresh c.take-directory.ensures.takes

pub returns-clause-pfs : goal.returns-clause-pfs
returns-clause-pfs c =
    second_place c.args.freemap.now.zones c.args.freemap.now c.take-directory.new.self c.take-pfs.new.self c.take-directory.result c.take-pfs.result c.requires.zones.0 c.requires.fresh c.take-directory.ensures.takes c.take-pfs.ensures.takes
