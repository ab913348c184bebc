-- A plain ledger, as callers see it: codes and blocks in lists.
use Rattle.std.specs.Prelude.{Option, Some, None, List, ℕ, ◌≡◌, ◌≢◌, ◌⊎◌, ◌<◌, ◌≤◌, ◌+◌, ◌^◌, length, All}
use Rattle.std.specs.List.{Contains}
use Rattle.h2_num.specs.declared.block.Block.{Block}
use Rattle.h2_geom.specs.Geometry.{chunk_bytes}
use Rattle.h2_codes.specs.declared.code.Code.{Code}
use Rattle.h2_codes.specs.declared.code.Code.TheVariants.{Free}
use Rattle.h2_codes.specs.Codes.{code_at}
use Rattle.h2_codes.specs.Bulkfree.{seen_code, unseen_code}
use Rattle.h2_codes.specs.Cursor.{unless_free as unless_code_free}
use Rattle.h2_codes.specs.Free.{IsLowestFree}
use Rattle.h2_ledger.specs.declared.shared_size.SharedSize.{SharedSize}
use Rattle.h2_ledger.specs.declared.shared_size.SharedSize.TheVariants.{Small, Middle}
use Rattle.h2_codes.specs.declared.cursor.Cursor.{Cursor}
use Rattle.h2_ledger.specs.declared.pass.Pass.{Pass}
use Rattle.h2_ledger.specs.Ledger.{Ledger, HasBlockIn}
use Rattle.h2_ledger.specs.Moves.{radix_of}
use Rattle.h2_plain_ledger.specs.declared.cursors.Cursors.{Cursors}

-- the cursor of a size
abbrev pub cursor_of : Cursors → SharedSize → Option Cursor
cursor_of cursors Small = cursors.small
cursor_of cursors Middle = cursors.middle

-- the cursors with another one for a size
abbrev pub with_cursor : Cursors → SharedSize → Option Cursor → Cursors
with_cursor cursors Small cursor = record { small = cursor; middle = cursors.middle }
with_cursor cursors Middle cursor = record { small = cursors.small; middle = cursor }

-- a cursor lies in a volume of so many chunks, and has room for a block of the size
abbrev pub HasRoomAt : SharedSize → ℕ → Cursor → Type 0
HasRoomAt size chunks at = (at.chunk < chunks) × (at.used + 2 ^ radix_of size ≤ chunk_bytes)

-- there is no cursor, or its chunk has no room for a block of the size
abbrev pub IsFilledAt : SharedSize → Option Cursor → Type 0
IsFilledAt size None = Unit {0}
IsFilledAt size (Some at) = chunk_bytes < at.used + 2 ^ radix_of size

-- the cursor, unless its chunk is free
abbrev pub unless_free : List Code → Option Cursor → Option Cursor
unless_free codes None = None
unless_free codes (Some at) = unless_code_free (code_at codes at.chunk) at

-- what is kept, in lists
pub record State : Type 0 where
  pub codes : List Code
  pub cursors : Cursors
  pub reserved : ℕ
  pub live : List Block
  pub pins : List Block
  pub frozen_number : Option ℕ
  pub frozen : List Block
  pub completed_number : ℕ
  pub completed : List Block
  pub pass : Pass
  pub marked : List Block
  pub fresh : List Block
  pub queued : List Block

-- the ledger that it is; past the codes' end chunks are reserved
unfoldable pub as_ledger : State → Ledger (List Block)
as_ledger s = record {
  chunks = length s.codes;
  code = code_at s.codes;
  cursor = cursor_of s.cursors;
  reserved = s.reserved;
  live = s.live;
  pins = s.pins;
  frozen_number = s.frozen_number;
  frozen = s.frozen;
  completed_number = s.completed_number;
  completed = s.completed;
  pass = s.pass;
  marked = s.marked;
  fresh = s.fresh;
  queued = s.queued;
}

-- a block is a member of a list
abbrev pub has : Block → List Block → Type 0
has b blocks = Contains blocks b

-- nothing is live afterwards that was neither live nor pinned, and nothing pinned that wasn't
abbrev pub MayRelink : List Block → List Block → List Block → List Block → Type 0
MayRelink old_live old_pins live pins = All (λ b. Contains old_live b ⊎ Contains old_pins b) live × All (Contains old_pins) pins

-- the chunk is the lowest free one, or there is none
abbrev pub IsFoundLowest : List Code → Option ℕ → Type 0
IsFoundLowest codes None = (c : ℕ) → code_at codes c ≢ Free
IsFoundLowest codes (Some chunk) = IsLowestFree (code_at codes) (length codes) chunk

-- what a pass makes of a chunk's code, by whether it marked something in the chunk
abbrev pub IsCodeAfter : List Block → ℕ → Code → Code → Type 0
IsCodeAfter marked chunk old new = (HasBlockIn has marked chunk × (new ≡ seen_code old)) ⊎ ((HasBlockIn has marked chunk → ⊥) × (new ≡ unseen_code old))

-- the codes of n chunks from the first one on are those that a pass makes of them, and all others stay
pub record IsApplied (marked : List Block) (first n : ℕ) (old new : List Code) : Type 0 where
  pub length_stays : length new ≡ length old
  pub applied : (k : ℕ) → k < n → IsCodeAfter marked (first + k) (code_at old (first + k)) (code_at new (first + k))
  pub lower : (c : ℕ) → c < first → code_at new c ≡ code_at old c
  pub upper : (c : ℕ) → first + n ≤ c → code_at new c ≡ code_at old c
