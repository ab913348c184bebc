-- What is held of the roots of two trees, and changes of one leaf.
use Rattle.std.specs.Prelude.{◌≡◌, [], ◌∷◌, cond, nat_eq, Option, None, Some}
use Rattle.h2_num.specs.Places.{Places}
use Rattle.h2_ref.specs.declared.reference.Kind.TheVariants.{Content, Inode as Inode_kind}
use Rattle.h2_ref.specs.declared.reference.Check.TheVariants.{Nothing}
use Rattle.h2_ref.specs.declared.reference.Ref.{Ref}
use Rattle.h2_set.specs.Forest.{Forest}
use Rattle.h2_inode.specs.declared.kind.InodeKind.TheVariants.{File as File_kind}
use Rattle.h2_inode.specs.Nodes.{Fields}
use Rattle.h2_inode.specs.Loaded.{View}
use Rattle.h2_worked_rows.specs.Refs.{block_at, fifth_leaf}
use Rattle.h2_worked_rows.specs.Trees.{two_roots}

-- a reference may have any block
abbrev pub any_block : Ref → Places → Type 0
any_block r block = Unit {0}

-- a reference has the block with its bytes, where they are known
abbrev pub known_block : (Ref → Option Places) → Ref → Places → Type 0
known_block blocks r block = blocks r ≡ Some block

-- what root 1 holds of inode 5, an empty file
abbrev pub fifth_fields : Fields
fifth_fields = record { kind = File_kind; number = 5; size = 0; links = 1; next = 0; name = []; bytes = None }

-- the two trees, of whose inodes nothing is held
abbrev pub empty_view : View
empty_view = record { forest = two_roots; holds = λ m. None; tells = λ r. None }

-- the two trees, of which root 1 holds inode 5
abbrev pub fifth_view : View
fifth_view = record { forest = two_roots; holds = λ m. cond (nat_eq m 1) (Some fifth_fields) None; tells = λ r. None }

-- the leaf of inode 5 once its block has another place
abbrev pub new_leaf : Ref
new_leaf = record { kind = Inode_kind; key = 5; keybits = 0; place = 4199424; radix = 10; id = 2; check = Nothing; dirent = None }

-- the file's block once it has another place
abbrev pub new_block : Ref
new_block = record { kind = Content; key = 0; keybits = 14; place = 4227072; radix = 14; id = 2; check = Nothing; dirent = None }

-- the two trees with the new leaf, and with the new block
abbrev pub with_new_leaf : Forest
with_new_leaf = record two_roots { set = λ m. record { refs = cond (nat_eq m 0) (new_leaf ∷ []) (cond (nat_eq m 1) (block_at 0 ∷ []) []); capacity = 4 } }

abbrev pub with_new_block : Forest
with_new_block = record two_roots { set = λ m. record { refs = cond (nat_eq m 0) (fifth_leaf ∷ []) (cond (nat_eq m 1) (new_block ∷ []) []); capacity = 4 } }
