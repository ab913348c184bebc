use Rattle.std.proofs.Common.{◌≡◌, take}
use Rattle.arrayvec.specs.ArrayVec.{array_vec_len}
use Rattle.h2_inode.proofs.pfs_name.PfsName.from_slice.Given as goal

abbrev pub invariant-loop-byte : goal.invariant-loop-byte
invariant-loop-byte l = (l.bytes.items ≡ take l.byte-index l.name) × (array_vec_len l.bytes ≡ l.byte-index)
