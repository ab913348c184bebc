-- Ledgers by which soundness is tried.
use Rattle.std.specs.Prelude.{ℕ, Option, Some, None, List, []}
use Rattle.h2_num.specs.declared.block.Block.{Block}
use Rattle.h2_codes.specs.declared.cursor.Cursor.{Cursor}
use Rattle.h2_ledger.specs.declared.pass.Pass.TheVariants.{Idle}
use Rattle.h2_ledger.specs.declared.shared_size.SharedSize.{SharedSize}
use Rattle.h2_ledger.specs.declared.shared_size.SharedSize.TheVariants.{Small, Middle}
use Rattle.h2_ledger.specs.Ledger.{Ledger}
use Rattle.h2_ledger_rows.specs.Ledgers.{old_tree, used_codes}

-- the cursor of the small blocks and that of the middle ones
abbrev pub two_cursors : Option Cursor → Option Cursor → SharedSize → Option Cursor
two_cursors small middle Small = small
two_cursors small middle Middle = middle

-- a cursor in a chunk, behind so many bytes
abbrev pub cursor_at : ℕ → ℕ → Option Cursor
cursor_at chunk used = Some (record { chunk = chunk; used = used })

-- the volume that was just opened, but for its cursors and what is reserved
abbrev pub with_cursors : Option Cursor → Option Cursor → ℕ → Ledger (List Block)
with_cursors small middle reserved = record {
  chunks = 512;
  code = used_codes;
  cursor = two_cursors small middle;
  reserved = reserved;
  live = old_tree;
  pins = [];
  frozen_number = None;
  frozen = [];
  completed_number = 1;
  completed = old_tree;
  pass = Idle;
  marked = [];
  fresh = [];
  queued = [];
}

-- a flush under way after header 1, by the number of the header that it writes
abbrev pub flushing_as : ℕ → Ledger (List Block)
flushing_as number = record {
  chunks = 512;
  code = used_codes;
  cursor = λ k. None;
  reserved = 0;
  live = old_tree;
  pins = [];
  frozen_number = Some number;
  frozen = old_tree;
  completed_number = 1;
  completed = old_tree;
  pass = Idle;
  marked = [];
  fresh = [];
  queued = [];
}
