-- Passes of bulkfree over the two segments, one move after another.
use Rattle.std.specs.Prelude.{ℕ, List, [], ◌∷◌, ◌++◌}
use Rattle.h2_num.specs.declared.block.Block.{Block}
use Rattle.h2_codes.specs.declared.code.Code.{Code}
use Rattle.h2_codes.specs.declared.code.Code.TheVariants.{Free, Staged, Used}
use Rattle.h2_ledger.specs.declared.pass.Pass.TheVariants.{Idle, Marked, Scanning}
use Rattle.h2_ledger.specs.Ledger.{Ledger}
use Rattle.h2_ledger.specs.Moves.{Move, freeze_of_pass, complete, begin_pass, begin_scan, end_pass, apply}
use Rattle.h2_ledger_rows.specs.Ledgers.{old_tree, codes_of, used_codes, resting, flushing}

-- a pass up to its apply of the first segment
abbrev pub half_pass : ℕ → List Move
half_pass number = begin_pass ∷ freeze_of_pass ∷ complete ∷ begin_scan ∷ apply number 0 ∷ []

-- a whole pass
abbrev pub pass_moves : ℕ → List Move
pass_moves number = begin_pass ∷ freeze_of_pass ∷ complete ∷ begin_scan ∷ apply number 0 ∷ apply number 1 ∷ []

-- a pass that ends before it has applied anything
abbrev pub given_up : List Move
given_up = begin_pass ∷ freeze_of_pass ∷ complete ∷ begin_scan ∷ end_pass ∷ []

-- two whole passes
abbrev pub two_passes : List Move
two_passes = pass_moves 2 ++ pass_moves 3

-- the pass of this number, whose header is out, has applied the first segment; it marked the tree of that header
abbrev pub half_applied : (ℕ → Code) → ℕ → List Block → Ledger (List Block)
half_applied code number tree = resting code number tree tree (Scanning number 1) tree

-- it has applied both
abbrev pub applied : (ℕ → Code) → ℕ → List Block → Ledger (List Block)
applied code number tree = resting code number tree tree Idle tree

-- after the first pass, which finds chunks 257 and 258 unused
abbrev pub after_one : Ledger (List Block)
after_one = applied (codes_of Used Staged Staged) 2 old_tree

-- after the second
abbrev pub after_two : Ledger (List Block)
after_two = applied (codes_of Used Free Free) 3 old_tree

-- the header of the pass's own freeze isn't out
abbrev pub marked_only : Ledger (List Block)
marked_only = flushing used_codes 1 old_tree old_tree old_tree (Marked 2) old_tree
