-- The table of references: the number of each kind and what is allowed of it, a row for each.
use Rattle.std.specs.Prelude.{◌-◌, ◌^◌, ℕ, zero, suc, List, [], ◌∷◌, Some, None}
use Rattle.h2_ref.specs.declared.reference.Kind.{Kind}
use Rattle.h2_ref.specs.declared.reference.Kind.TheVariants.{Empty, Inode, Indirect, Content, Dirent, MapNode, MapLeaf}
use Rattle.h2_ref.specs.declared.flags.RefFlags.{RefFlags}
use Rattle.h2_ref.specs.declared.table.Span.{Span}
use Rattle.h2_ref.specs.declared.table.Keybits.{Keybits}
use Rattle.h2_ref.specs.declared.table.Keybits.TheVariants.{Just, Either, Between}
use Rattle.h2_ref.specs.declared.methods.Method.TheVariants.{Absent, Xxhash64, Freemap}
use Rattle.h2_ref.specs.declared.table.Methods.{Methods}
use Rattle.h2_ref.specs.declared.table.Methods.TheVariants.{One}
use Rattle.h2_ref.specs.declared.table.Row.{Row}

-- the numbers from one to another
abbrev pub span : ℕ → ℕ → Span
span n m = record { least = n; last = m }

-- no flag is set
abbrev pub no_flags : RefFlags
no_flags = record { 0 = 0 }

-- the flag of an entry whose name stands in it
abbrev pub inline_flag : RefFlags
inline_flag = record { 0 = 1 }

-- the methods of blocks of files and directories
abbrev pub block_methods : Methods
block_methods = One Xxhash64

-- a block of files and directories
abbrev pub block_row : ℕ → ℕ → Keybits → Span → Row
block_row number radix keybits keys = record { number = number; methods = block_methods; flags = no_flags; radix = radix; keybits = keybits; keys = keys; ids = span 1 (2 ^ 62); names = None }

-- a block of the freemap, named by its place
abbrev pub map_row : ℕ → Keybits → Row
map_row number keybits = record { number = number; methods = One Freemap; flags = no_flags; radix = 10; keybits = keybits; keys = span 0 (2 ^ 34 - 1); ids = span 1 (2 ^ 62); names = None }

-- an entry whose name of at most 64 bytes stands in it
abbrev pub inline_row : Row
inline_row = record { number = 4; methods = One Absent; flags = inline_flag; radix = 0; keybits = Just 0; keys = span (2 ^ 63) (2 ^ 64 - 1); ids = span 1 (2 ^ 62); names = Some (span 1 64) }

-- an entry whose name of at most 255 bytes has a block
abbrev pub name_row : Row
name_row = record { number = 4; methods = block_methods; flags = no_flags; radix = 10; keybits = Just 0; keys = span (2 ^ 63) (2 ^ 64 - 1); ids = span 1 (2 ^ 62); names = Some (span 65 255) }

-- the reference that names nothing
abbrev pub empty_row : Row
empty_row = record { number = 0; methods = One Absent; flags = no_flags; radix = 0; keybits = Just 0; keys = span 0 0; ids = span 0 0; names = None }

-- the row of a kind and a method's number, which tells the two rows of an entry apart and nothing else
abbrev pub row_of : Kind → ℕ → Row
row_of Empty method = empty_row
row_of Inode method = block_row 1 10 (Just 0) (span 1 (2 ^ 62 - 1))
row_of Indirect method = block_row 2 12 (Between 1 62) (span 0 (2 ^ 64 - 1))
row_of Content method = block_row 3 14 (Just 14) (span 0 (2 ^ 40 - 1))
row_of Dirent zero = inline_row
row_of Dirent (suc method) = name_row
row_of MapNode method = map_row 5 (Either 28 31)
row_of MapLeaf method = map_row 6 (Just 25)

-- the kinds that have rows
abbrev pub kinds : List Kind
kinds = Empty ∷ Inode ∷ Indirect ∷ Content ∷ Dirent ∷ MapNode ∷ MapLeaf ∷ []
