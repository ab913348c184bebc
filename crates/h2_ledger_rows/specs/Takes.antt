-- Ledgers before and after a block is taken.
use Rattle.std.specs.Prelude.{ℕ, ◌∷◌, [], List, Option, None, cond, nat_eq, nat_lt}
use Rattle.h2_num.specs.declared.block.Block.{Block}
use Rattle.h2_codes.specs.declared.code.Code.{Code}
use Rattle.h2_codes.specs.declared.code.Code.TheVariants.{Reserved, Used}
use Rattle.h2_codes.specs.declared.cursor.Cursor.{Cursor}
use Rattle.h2_ledger.specs.declared.pass.Pass.TheVariants.{Idle}
use Rattle.h2_ledger.specs.Ledger.{Ledger}
use Rattle.h2_ledger_rows.specs.Ledgers.{block_of, chunk_block, old_tree, used_codes}
use Rattle.h2_ledger_rows.specs.Sound.{two_cursors, cursor_at}

-- no flush is under way and no pass runs: the codes, the cursor of the small blocks, what is reserved, the live tree, and what of it is fresh
abbrev pub taking : (ℕ → Code) → Option Cursor → ℕ → List Block → List Block → Ledger (List Block)
taking code small reserved live fresh = record {
  chunks = 512;
  code = code;
  cursor = two_cursors small None;
  reserved = reserved;
  live = live;
  pins = [];
  frozen_number = None;
  frozen = [];
  completed_number = 1;
  completed = old_tree;
  pass = Idle;
  marked = [];
  fresh = fresh;
  queued = [];
}

-- chunk 259 is used too
abbrev pub codes_after : ℕ → Code
codes_after chunk = cond (nat_eq chunk 259) Used (used_codes chunk)

-- no chunk is free
abbrev pub full_codes : ℕ → Code
full_codes chunk = cond (nat_lt chunk 256) Reserved Used

-- after a first small block, and a second one
abbrev pub after_first : Ledger (List Block)
after_first = taking codes_after (cursor_at 259 1024) 0 (block_of 259 0 10 ∷ old_tree) (block_of 259 0 10 ∷ [])

abbrev pub after_next : Ledger (List Block)
after_next = taking codes_after (cursor_at 259 2048) 0 (block_of 259 1024 10 ∷ block_of 259 0 10 ∷ old_tree) (block_of 259 1024 10 ∷ block_of 259 0 10 ∷ [])

-- so many chunks are reserved, and after a whole chunk was taken
abbrev pub reserving : ℕ → Ledger (List Block)
reserving reserved = taking used_codes None reserved old_tree []

abbrev pub after_whole : ℕ → Ledger (List Block)
after_whole reserved = taking codes_after None reserved (chunk_block 259 ∷ old_tree) (chunk_block 259 ∷ [])

-- a full volume without cursors
abbrev pub full_without_cursor : Ledger (List Block)
full_without_cursor = taking full_codes None 0 old_tree []

-- a full volume whose small blocks have a cursor, and after a block was taken there
abbrev pub full : Ledger (List Block)
full = taking full_codes (cursor_at 258 1024) 0 old_tree []

abbrev pub after_full : Ledger (List Block)
after_full = taking full_codes (cursor_at 258 2048) 0 (block_of 258 1024 10 ∷ old_tree) (block_of 258 1024 10 ∷ [])
