-- What a take does to the number of free chunks and to the cursors.
use Rattle.std.proofs.Common.{ℕ, ◌≡◌, ◌≢◌, ◌⊎◌, ◌+◌, Some, refl, sym, ap, ◌∙◌, inl, inr, arith}
use Rattle.std.proofs.lemmas.Bool.{cases_eq}
use Rattle.h2_num.specs.declared.block.Block.{Block}
use Rattle.h2_geom.specs.Geometry.{chunks_of}
use Rattle.h2_codes.specs.declared.code.Code.TheVariants.{Free, Used}
use Rattle.h2_codes.specs.Codes.{tally}
use Rattle.h2_freemap.specs.declared.size.Size.{Size}
use Rattle.h2_freemap.specs.declared.size.Size.TheVariants.{Small, Middle, Whole}
use Rattle.h2_codes.specs.declared.cursor.Cursor.{Cursor}
use Rattle.h2_freemap.specs.Space.{Space, chunk_count, code_of, cursor_of, ChangesCode}
use Rattle.h2_codes.specs.Free.{free_below, IsLowestFree}
use Rattle.h2_freemap.specs.Free.{free_of}
use Rattle.h2_freemap.specs.Taking.{GoesTo, at_cursor, at_lowest, cursor_behind, Takes}
use Rattle.h2_freemap.specs.Need.{HasCursorsInUse}
use Rattle.h2_freemap.proofs.Counting.{not_free, free_same, free_taken}

-- 0 at a cursor with room, else 1
abbrev pub cost : {size : Size} {x : Space} {at : Cursor} → GoesTo size x at → ℕ
cost (at_cursor is room) = 0
cost (at_lowest none start lowest) = 1

-- the code of a chunk in use becomes used: as many chunks are free
used_again : (x y : Space) (chunk : ℕ) → code_of x chunk ≢ Free → ChangesCode chunk Used x y → free_of x ≡ free_of y
used_again x y chunk in_use c =
    free_same (code_of y) (code_of x) (chunk_count x) (λ d lt. at d (cases_eq d chunk)) ∙ ap (λ (zones : ℕ). free_below (code_of y) (chunks_of zones)) (sym c.zones)
  where
    at : (d : ℕ) → (d ≡ chunk) ⊎ (d ≡ chunk → ⊥) → tally Free (code_of x d) ≡ tally Free (code_of y d)
    at d (inl e) = not_free (code_of x d) (λ f. in_use (ap (code_of x) (sym e) ∙ f)) ∙ sym (ap (tally Free) (ap (code_of y) e ∙ c.changed))
    at d (inr ne) = ap (tally Free) (sym (c.others d ne))

-- a free chunk becomes used: one less is free
used_first : (x y : Space) (chunk : ℕ) → IsLowestFree (code_of x) (chunk_count x) chunk → ChangesCode chunk Used x y → free_of x ≡ free_of y + 1
used_first x y chunk lowest c =
    free_taken (code_of x) (code_of y) chunk lowest.free c.changed c.others (chunk_count x) lowest.in_volume ∙ ap (λ (zones : ℕ). free_below (code_of y) (chunks_of zones) + 1) (sym c.zones)

pub taken_free : (size : Size) (x y : Space) (at : Cursor) → HasCursorsInUse x → (goes : GoesTo size x at) → ChangesCode at.chunk Used x y → free_of x ≡ free_of y + cost goes
taken_free size x y at in_use (at_cursor is room) c =
    let same : free_of x ≡ free_of y = used_again x y at.chunk (in_use size at is) c in omega arith
taken_free size x y at in_use (at_lowest none start lowest) c = used_first x y at.chunk lowest c

-- two sizes are the same or differ
pub same_size : (a b : Size) → (a ≡ b) ⊎ (a ≢ b)
same_size Small Small = inl refl
same_size Small Middle = inr (λ e. cc)
same_size Small Whole = inr (λ e. cc)
same_size Middle Small = inr (λ e. cc)
same_size Middle Middle = inl refl
same_size Middle Whole = inr (λ e. cc)
same_size Whole Small = inr (λ e. cc)
same_size Whole Middle = inr (λ e. cc)
same_size Whole Whole = inl refl

-- the cursor behind a block lies in the block's chunk
pub behind_chunk : (size : Size) (at cursor : Cursor) → cursor_behind size at ≡ Some cursor → cursor.chunk ≡ at.chunk
behind_chunk Small at cursor e = cc
behind_chunk Middle at cursor e = cc
behind_chunk Whole at cursor e = cc

-- no cursor lies in a free chunk after a take either
pub taken_in_use : (size : Size) (x y : Space) (b : Block) → HasCursorsInUse x → Takes size x y b → HasCursorsInUse y
taken_in_use size x y b in_use t other cursor is free = split (same_size other size) (cases_eq cursor.chunk t.at.chunk)
  where
    now_used : cursor.chunk ≡ t.at.chunk → ⊥
    now_used e = let used : code_of y t.at.chunk ≡ Used = t.code.changed in let here : code_of y cursor.chunk ≡ code_of y t.at.chunk = ap (code_of y) e in cc

    split : (other ≡ size) ⊎ (other ≢ size) → (cursor.chunk ≡ t.at.chunk) ⊎ (cursor.chunk ≡ t.at.chunk → ⊥) → ⊥
    split o (inl e) = now_used e
    split (inl e) (inr ne) = now_used (behind_chunk size t.at cursor (sym t.cursor ∙ ap (cursor_of y) (sym e) ∙ is))
    split (inr differ) (inr ne) = in_use other cursor (sym (t.other_cursors other differ) ∙ is) (sym (t.code.others cursor.chunk ne) ∙ free)
