-- Ledgers by which the words for what is yet to be written are tried.
use Rattle.std.specs.Prelude.{ℕ, Option, None, List, [], ◌∷◌}
use Rattle.h2_num.specs.declared.block.Block.{Block}
use Rattle.h2_ledger.specs.declared.pass.Pass.{Pass}
use Rattle.h2_ledger.specs.Ledger.{Ledger}
use Rattle.h2_ledger_rows.specs.Ledgers.{chunk_block, old_tree, new_tree, used_codes}

-- Header 2 is the newest, and chunk 256 has its tree. In order: the number and the tree of the flush, the pass and what it marked, what is fresh, and what is queued.
abbrev pub unwritten : Option ℕ → List Block → Pass → List Block → List Block → List Block → Ledger (List Block)
unwritten frozen_number frozen pass marked fresh queued = record {
  chunks = 512;
  code = used_codes;
  cursor = λ k. None;
  reserved = 0;
  live = new_tree;
  pins = [];
  frozen_number = frozen_number;
  frozen = frozen;
  completed_number = 2;
  completed = old_tree;
  pass = pass;
  marked = marked;
  fresh = fresh;
  queued = queued;
}

-- the block of chunk 258, and that of 257
abbrev pub third_block : List Block
third_block = chunk_block 258 ∷ []

abbrev pub second_block : List Block
second_block = chunk_block 257 ∷ []
