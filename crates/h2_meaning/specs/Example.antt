-- Small readings, by which the definitions are tried.
use Rattle.std.specs.Prelude.{◌≡◌, ℕ, ◌+◌, ◌-◌, nat_lt, nat_eq, cond, List, [], ◌∷◌, ◌++◌, length, replicate, None, Some}
use Rattle.h2_num.specs.Places.{Places, places, SameBelow}
use Rattle.h2_ref.specs.declared.reference.Kind.TheVariants.{Inode as Inode_kind, Content, Dirent as Entry_kind}
use Rattle.h2_ref.specs.declared.reference.Check.TheVariants.{Nothing, Xx}
use Rattle.h2_ref.specs.declared.reference.Ref.{Ref}
use Rattle.h2_ref.specs.Ref.{empty_ref}
use Rattle.h2_dirkey.specs.Key.{least_key}
use Rattle.h2_inode.specs.declared.kind.InodeKind.TheVariants.{Directory as Directory_kind, Pfs as Pfs_kind}
use Rattle.h2_inode.specs.declared.inode.Body.TheVariants.{Refs}
use Rattle.h2_inode.specs.declared.inode.Inode.{Inode}
use Rattle.h2_inode.specs.Block.{IsInodeBlock}
use Rattle.h2_inode.specs.Access.{Access}
use Rattle.h2_inode.specs.PfsList.{ListedPfs}
use Rattle.h2_inode.specs.Following.{Passage, itself}
use Rattle.h2_meaning.specs.Image.{block}

-- A new volume: tree 0 is the super-root's, tree 1 that of its PFS, and tree 2 that of the empty root directory.

-- the reference to an inode or a PFS with number 1, by the place of its block and the number that its check is
abbrev pub first_inode : ℕ → ℕ → Ref
first_inode place check = record { kind = Inode_kind; key = 1; keybits = 0; place = place; radix = 10; id = 1; check = Xx check; dirent = None }

-- the leaf of inode or PFS 1, wherever its block lies
abbrev pub inode_leaf : Ref
inode_leaf = first_inode 4194304 0

-- the leaves of a tree: the first two trees have one each
abbrev pub leaves_at : ℕ → List Ref
leaves_at t = cond (nat_lt t 2) (inode_leaf ∷ []) []

-- the PFS ROOT with its root directory
abbrev pub pfs_over : Ref → Inode
pfs_over directory = record { kind = Pfs_kind; number = 1; size = 0; links = 1; next = 2; name = 82 ∷ 79 ∷ 79 ∷ 84 ∷ []; body = Refs (record { refs = directory ∷ []; capacity = 4 }) }

-- the PFS with a leaf for its root directory
abbrev pub pfs_inode : Inode
pfs_inode = pfs_over inode_leaf

-- what the new volume's list of PFSs tells of its one PFS, ROOT
abbrev pub listed_root : ListedPfs
listed_root = record { id = 1; name = 82 ∷ 79 ∷ 79 ∷ 84 ∷ []; next = 2 }

-- the root directory, without entries
abbrev pub root_inode : Inode
root_inode = record { kind = Directory_kind; number = 1; size = 0; links = 1; next = 0; name = []; body = Refs (record { refs = []; capacity = 4 }) }

-- the inode that the leaf of a tree names; the tree below it is the next one
abbrev pub inode_at : ℕ → Inode
inode_at t = cond (nat_eq t 0) pfs_inode root_inode

-- the reading of the three trees
abbrev pub new_volume : Access
new_volume = record {
  Tree = ℕ;
  LeavesOf = λ t l. l ≡ leaves_at t;
  InodeOf = λ t r i u. (i ≡ inode_at t) × (u ≡ t + 1);
  NameOf = λ t r name. ⊥;
  ContentOf = λ t r b. ⊥;
}

-- the new volume beside itself
abbrev pub unchanged : Passage
unchanged = itself new_volume

-- The same in an image.

-- the four references of a header with one PFS
abbrev pub new_root : Ref → List Ref
new_root pfs = pfs ∷ empty_ref ∷ empty_ref ∷ empty_ref ∷ []

-- the blocks of the PFS and of its root directory stand in the image
pub record HasNewBlocks (image : Places) (pfs directory : Ref) : Type 0 where
  pub pfs_is : IsInodeBlock pfs (block image pfs) (pfs_over directory)
  pub directory_is : IsInodeBlock directory (block image directory) root_inode

-- Trees that are lists of leaves; each content block holds the same bytes, and then zeros.

-- the reading of lists of leaves, whose content blocks hold these bytes
abbrev pub one_block : List ℕ → Access
one_block bytes = record {
  Tree = List Ref;
  LeavesOf = λ t l. l ≡ t;
  InodeOf = λ t r i u. ⊥;
  NameOf = λ t r name. ⊥;
  ContentOf = λ t r b. SameBelow 16384 (places bytes) b;
}

-- the leaf of a file's first block
abbrev pub content_leaf : Ref
content_leaf = record { kind = Content; key = 0; keybits = 14; place = 4194304; radix = 14; id = 1; check = Xx 0; dirent = None }

-- the entry of a directory with number 2 and a name of at most 64 bytes
abbrev pub entry_leaf : List ℕ → Ref
entry_leaf name = record {
  kind = Entry_kind;
  key = least_key name;
  keybits = 0;
  place = 0;
  radix = 0;
  id = 1;
  check = Nothing;
  dirent = Some (record { number = 2; len = length name; target = 1; name = name ++ replicate (64 - length name) 0 });
}

-- an entry names the directory with number 2
abbrev pub IsSecond : ℕ → ℕ → Type 0
IsSecond target number = (target ≡ 1) × (number ≡ 2)
