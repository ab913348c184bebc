-- Volumes of two segments, by which the words for a ledger of space are tried. The first segment is reserved.
use Rattle.std.specs.Prelude.{ℕ, suc, ◌≡◌, ◌⊎◌, ◌+◌, ◌*◌, cond, nat_lt, nat_eq, None, Some, List, [], ◌∷◌}
use Rattle.h2_num.specs.declared.block.Block.{Block}
use Rattle.h2_codes.specs.declared.code.Code.{Code}
use Rattle.h2_codes.specs.declared.code.Code.TheVariants.{Free, Reserved, Used}
use Rattle.h2_ledger.specs.declared.pass.Pass.{Pass}
use Rattle.h2_ledger.specs.declared.pass.Pass.TheVariants.{Idle}
use Rattle.h2_ledger.specs.Ledger.{Ledger}

-- the block is one of the list
abbrev pub IsIn : Block → List Block → Type 0
IsIn b [] = ⊥
IsIn b (x ∷ xs) = (b ≡ x) ⊎ IsIn b xs

-- a block of this radix, so many bytes behind the start of a chunk
abbrev pub block_of : ℕ → ℕ → ℕ → Block
block_of chunk behind radix = record { place = 16384 * chunk + behind; radix = radix }

-- the block of a whole chunk
abbrev pub chunk_block : ℕ → Block
chunk_block chunk = block_of chunk 0 14

-- a tree of one block
abbrev pub old_tree : List Block
old_tree = chunk_block 256 ∷ []

-- a tree that has one more
abbrev pub new_tree : List Block
new_tree = chunk_block 256 ∷ chunk_block 258 ∷ []

-- the codes of chunks 256, 257 and 258; those before them are reserved, and those behind them free
abbrev pub codes_of : Code → Code → Code → ℕ → Code
codes_of a b c chunk = cond (nat_lt chunk 256) Reserved (cond (nat_eq chunk 256) a (cond (nat_eq chunk 257) b (cond (nat_eq chunk 258) c Free)))

-- all three are used
abbrev pub used_codes : ℕ → Code
used_codes = codes_of Used Used Used

-- no flush is under way and no command runs: the number and tree of the newest header, the live tree, the pass and what it marked
abbrev pub resting : (ℕ → Code) → ℕ → List Block → List Block → Pass → List Block → Ledger (List Block)
resting code number completed live pass marked = record {
  chunks = 512;
  code = code;
  cursor = λ k. None;
  reserved = 0;
  live = live;
  pins = [];
  frozen_number = None;
  frozen = [];
  completed_number = number;
  completed = completed;
  pass = pass;
  marked = marked;
  fresh = [];
  queued = [];
}

-- the same while a flush writes the next header, for the tree that stands behind that of the newest one
abbrev pub flushing : (ℕ → Code) → ℕ → List Block → List Block → List Block → Pass → List Block → Ledger (List Block)
flushing code number completed frozen live pass marked = record {
  chunks = 512;
  code = code;
  cursor = λ k. None;
  reserved = 0;
  live = live;
  pins = [];
  frozen_number = Some (suc number);
  frozen = frozen;
  completed_number = number;
  completed = completed;
  pass = pass;
  marked = marked;
  fresh = [];
  queued = [];
}

-- a volume that was just opened at header 1, with a chunk of its tree and two that nothing uses
abbrev pub opened : Ledger (List Block)
opened = resting used_codes 1 old_tree old_tree Idle []
