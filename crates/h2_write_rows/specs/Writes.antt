-- Writes to a file, by which the words for what they make are tried.
use Rattle.std.specs.Prelude.{ℕ, Bool, List, [], ◌∷◌, ◌++◌, replicate, Option, Some, None}
use Rattle.h2_num.specs.Places.{Places, places}
use Rattle.h2_ref.specs.declared.reference.Kind.TheVariants.{Content}
use Rattle.h2_ref.specs.declared.reference.Check.TheVariants.{Xx}
use Rattle.h2_ref.specs.declared.reference.Ref.{Ref}
use Rattle.h2_file.specs.declared.blocks.Touched.{Touched}

-- so many blocks from this one on are put, and maybe block 0
abbrev pub touched_of : ℕ → ℕ → Bool → Touched
touched_of first count lift = record { first = first; count = count; lift = lift }

-- the bytes of a file: 20000 ones
abbrev pub ones : List ℕ
ones = replicate 20000 1

-- the bytes that are written
abbrev pub written : List ℕ
written = 9 ∷ 8 ∷ 7 ∷ 6 ∷ []

-- a reference to the block that begins with this byte of the file
abbrev pub block_at : ℕ → Ref
block_at key = record { kind = Content; key = key; keybits = 14; place = 4194304; radix = 14; id = 1; check = Xx 0; dirent = None }

-- each reference names a block with these bytes
abbrev pub one_block : List ℕ → Ref → Option Places
one_block bytes r = Some (places bytes)

-- block 0 after 9, 8, 7 and 6 are written at its last two places and the next block's first ones
abbrev pub merged_first : List ℕ
merged_first = replicate 16382 1 ++ 9 ∷ 8 ∷ []
