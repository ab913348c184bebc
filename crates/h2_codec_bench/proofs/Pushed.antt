-- A list with one element more, all of which hold what they must.
use Rattle.std.proofs.Common.{All, List, [], ◌∷◌, ◌++◌}
use Rattle.std.proofs.lemmas.List.Elements.{All-push}
use Rattle.h2_ref.specs.declared.reference.Ref.{Ref}
use Rattle.h2_ref.specs.Ref.{IsValid}
use Rattle.h2_inode.specs.declared.inode.Inode.{Inode}
use Rattle.h2_inode.specs.Inode.{IsInode}

pub valid_push : (refs : List Ref) (r : Ref) → All IsValid refs → IsValid r → All IsValid (refs ++ r ∷ [])
valid_push refs r = All-push IsValid refs r

pub inode_push : (inodes : List Inode) (i : Inode) → All IsInode inodes → IsInode i → All IsInode (inodes ++ i ∷ [])
inode_push inodes i = All-push IsInode inodes i
