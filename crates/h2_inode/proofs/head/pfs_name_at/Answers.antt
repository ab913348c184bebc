use Rattle.std.proofs.Common.{arith}
use Rattle.h2_inode.proofs.HeadLemmas.{none_named, named_if}
use Rattle.h2_inode.proofs.head.pfs_name_at.Goals as goal

pub returns-then-not-is_pfs_name : goal.returns-then-not-is_pfs_name
returns-then-not-is_pfs_name c =
    none_named c.args.b.now c.name_bytes-name.result.now c.args.len c.requires (omega arith) c.name_bytes-name.ensures
    (λ good. let yes = c.is_pfs_name.ensures.1 good in let no = c.if-not-is_pfs_name.true in cc)

pub returns : goal.returns
returns c =
    named_if c.args.b.now c.name_bytes-name.result.now c.from_slice.result c.args.len c.requires (omega arith) c.name_bytes-name.ensures
    (c.is_pfs_name.ensures.0 c.if-not-is_pfs_name.false) c.from_slice.ensures
