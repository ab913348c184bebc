-- References of a file's blocks and of its inode.
use Rattle.std.specs.Prelude.{ℕ, None}
use Rattle.h2_ref.specs.declared.reference.Kind.TheVariants.{Content, Inode as Inode_kind}
use Rattle.h2_ref.specs.declared.reference.Check.TheVariants.{Nothing}
use Rattle.h2_ref.specs.declared.reference.Ref.{Ref}

-- the reference of a block that begins at a place of its file
abbrev pub block_at : ℕ → Ref
block_at key = record { kind = Content; key = key; keybits = 14; place = 4194304; radix = 14; id = 1; check = Nothing; dirent = None }

-- the leaf of inode 5
abbrev pub fifth_leaf : Ref
fifth_leaf = record { kind = Inode_kind; key = 5; keybits = 0; place = 4198400; radix = 10; id = 1; check = Nothing; dirent = None }
