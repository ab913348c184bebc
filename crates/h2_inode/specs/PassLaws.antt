-- Whether a block passes is seen by its own bytes alone.
use Rattle.std.specs.Prelude.{◌<◌, ℕ, List}
use Rattle.std.proofs.Common.{ap, sym, ◌∙◌, subst}
use Rattle.h2_num.specs.Places.{Places, SameBelow}
use Rattle.h2_check.specs.XxhLaws.{xxh64_of-same}
use Rattle.h2_ref.specs.declared.reference.Kind.{Kind}
use Rattle.h2_ref.specs.declared.reference.Kind.TheVariants.{Empty, Inode as Inode_kind, Indirect, Content, Dirent as Entry_kind, MapNode, MapLeaf}
use Rattle.h2_ref.specs.declared.reference.Check.TheVariants.{Xx}
use Rattle.h2_ref.specs.declared.reference.Ref.{Ref}
use Rattle.h2_ref.specs.Ref.{IsValid, size_of}
use Rattle.h2_dirkey.specs.BlockLaws.{NameBytes-same}
use Rattle.h2_inode.specs.declared.inode.Inode.{Inode}
use Rattle.h2_set.specs.SetBytesLaws.{SetBytes-same}
use Rattle.h2_inode.specs.InodeLaws.{InodeBytes-same}
use Rattle.h2_inode.specs.Block.{HasCheck, IsInodeBlock, IsSetBlock, IsNameBlock, PassesAs, Passes}
use Rattle.h2_inode.specs.CauseLaws.{block_bytes, valid_size}

check_same : (r : Ref) (n : ℕ) (a b : Places) → SameBelow n a b → HasCheck r n a → HasCheck r n b
check_same r n a b same h = h ∙ sym (ap Xx (xxh64_of-same a b n same))

inode_same : (r : Ref) (a b : Places) (i : Inode) → SameBelow 1024 a b → IsInodeBlock r a i → IsInodeBlock r b i
inode_same r a b i same h = record {
  kind_is = h.kind_is;
  check_is = check_same r 1024 a b same h.check_is;
  inode = h.inode;
  bytes = InodeBytes-same i a b h.inode same h.bytes;
  number_is = h.number_is;
}

set_same : (r : Ref) (a b : Places) (refs : List Ref) → SameBelow 4096 a b → IsSetBlock r a refs → IsSetBlock r b refs
set_same r a b refs same h = record {
  kind_is = h.kind_is;
  check_is = check_same r 4096 a b same h.check_is;
  set = record { held = h.set.held; rising = h.set.rising; bytes = SetBytes-same 32 refs a b same h.set.bytes };
  arranged = h.arranged;
}

name_same : (r : Ref) (a b : Places) (name : List ℕ) → SameBelow 1024 a b → IsNameBlock r a name → IsNameBlock r b name
name_same r a b name same h = record {
  kind_is = h.kind_is;
  check_is = check_same r 1024 a b same h.check_is;
  named = record { len_is = h.named.len_is; bytes = NameBytes-same name a b same h.named.bytes; under = h.named.under };
}

passes_as : (k : Kind) (r : Ref) (a b : Places) → SameBelow (block_bytes k) a b → PassesAs k r a → PassesAs k r b
passes_as Empty r a b same p = p
passes_as Inode_kind r a b same p = (p.0, inode_same r a b p.0 same p.1)
passes_as Indirect r a b same p = (p.0, set_same r a b p.0 same p.1)
passes_as Content r a b same p = record { kind_is = p.kind_is; check_is = check_same r 16384 a b same p.check_is }
passes_as Entry_kind r a b same p = (p.0, name_same r a b p.0 same p.1)
passes_as MapNode r a b same p = p
passes_as MapLeaf r a b same p = p

-- bytes that are the same in the block pass with it
pub Passes-same : (r : Ref) (a b : Places) → IsValid r → 0 < r.radix → SameBelow (size_of r) a b → Passes r a → Passes r b
Passes-same r a b h pos same p = passes_as r.kind r a b (subst (λ n. SameBelow n a b) (valid_size r h pos) same) p
