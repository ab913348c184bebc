-- What follows from a take, in the words of a ledger of blocks.
use Rattle.std.proofs.Common.{ℕ, ◌≡◌, ◌⊎◌, ◌+◌, ◌^◌, ◌≤◌, Some, refl, sym, ap, ◌∙◌, inl, inr, arith, subst}
use Rattle.h2_num.specs.declared.block.Block.{Block}
use Rattle.h2_geom.specs.Geometry.{chunk_bytes, chunk_of, chunk_place}
use Rattle.h2_codes.specs.declared.code.Code.TheVariants.{Used}
use Rattle.h2_freemap.specs.declared.size.Size.{Size}
use Rattle.h2_freemap.specs.declared.size.Size.TheVariants.{Small, Middle, Whole}
use Rattle.h2_codes.specs.declared.cursor.Cursor.{Cursor}
use Rattle.h2_freemap.specs.Space.{Space, chunk_count, code_of, cursor_of, ChangesCode}
use Rattle.h2_codes.specs.Free.{IsLowestFree}
use Rattle.h2_freemap.specs.Taking.{bytes_of, radix_of, HasRoom, HasNoRoom, GoesTo, at_cursor, at_lowest, Takes}

-- the bytes of a size by its radix
pub bytes_by_radix : (size : Size) → 2 ^ radix_of size ≡ bytes_of size
bytes_by_radix Small = refl
bytes_by_radix Middle = refl
bytes_by_radix Whole = refl

-- a taken block has the bytes of its size
pub taken_bytes : (size : Size) (x y : Space) (b : Block) → Takes size x y b → 2 ^ b.radix ≡ bytes_of size
taken_bytes size x y b t = ap (λ (n : ℕ). 2 ^ n) t.radix ∙ bytes_by_radix size

some_bytes : (size : Size) → (1 ≤ bytes_of size) × (bytes_of size ≤ chunk_bytes)
some_bytes Small = (omega arith, omega arith)
some_bytes Middle = (omega arith, omega arith)
some_bytes Whole = (omega arith, omega arith)

-- a block lies in one chunk
pub place_fits : (size : Size) (x : Space) (at : Cursor) → GoesTo size x at → at.used + bytes_of size ≤ chunk_bytes
place_fits size x at (at_cursor is room) = room
place_fits size x at (at_lowest none start lowest) = let bytes = some_bytes size in omega arith

-- it is the chunk in which the block begins
pub taken_chunk : (size : Size) (x y : Space) (b : Block) (t : Takes size x y b) → chunk_of b.place ≡ t.at.chunk
taken_chunk size x y b t =
    let place : b.place ≡ chunk_place t.at.chunk + t.at.used = t.place in
    let fits = place_fits size x t.at t.goes_to in
    let bytes = some_bytes size in
    omega arith

-- and that chunk alone becomes used
pub taken_code : (size : Size) (x y : Space) (b : Block) → Takes size x y b → ChangesCode (chunk_of b.place) Used x y
taken_code size x y b t = subst (λ (c : ℕ). ChangesCode c Used x y) (sym (taken_chunk size x y b t)) t.code

-- at a cursor with room, or at the start of the lowest free chunk
pub taken_place : (size : Size) (x y : Space) (b : Block) → Takes size x y b
    → ((at : Cursor) × (cursor_of x size ≡ Some at) × HasRoom size at × (b.place ≡ chunk_place at.chunk + at.used)) ⊎ (HasNoRoom size (cursor_of x size) × (b.place ≡ chunk_place (chunk_of b.place)) × IsLowestFree (code_of x) (chunk_count x) (chunk_of b.place))
taken_place size x y b t = split t.goes_to
  where
    chunk : t.at.chunk ≡ chunk_of b.place
    chunk = sym (taken_chunk size x y b t)

    split : GoesTo size x t.at → ((at : Cursor) × (cursor_of x size ≡ Some at) × HasRoom size at × (b.place ≡ chunk_place at.chunk + at.used)) ⊎ (HasNoRoom size (cursor_of x size) × (b.place ≡ chunk_place (chunk_of b.place)) × IsLowestFree (code_of x) (chunk_count x) (chunk_of b.place))
    split (at_cursor is room) = inl (t.at, is, room, t.place)
    split (at_lowest none start lowest) =
        let place : b.place ≡ chunk_place t.at.chunk + t.at.used = t.place in
        let at : t.at.chunk ≡ chunk_of b.place = chunk in
        inr (none, omega arith, subst (IsLowestFree (code_of x) (chunk_count x)) chunk lowest)
