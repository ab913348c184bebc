-- Two passes that find a chunk unused but for one premise of their law. In each row chunk 258 isn't free afterwards.
use Rattle.std.specs.Prelude.{List, [], ◌∷◌, ◌++◌}
use Rattle.h2_num.specs.declared.block.Block.{Block}
use Rattle.h2_codes.specs.declared.code.Code.TheVariants.{Free, Staged, Used}
use Rattle.h2_ledger.specs.declared.pass.Pass.TheVariants.{Idle, Scanning}
use Rattle.h2_ledger.specs.Ledger.{Ledger}
use Rattle.h2_ledger.specs.Moves.{Move, adopt, relink, freeze_of_pass, complete, begin_pass, begin_scan, apply}
use Rattle.h2_ledger_rows.specs.Ledgers.{chunk_block, old_tree, new_tree, codes_of, used_codes, resting}
use Rattle.h2_ledger_rows.specs.Passes.{half_pass, pass_moves, half_applied, applied}

-- a block of chunk 258 is shared for a while between the passes
abbrev pub between_joined : List Move
between_joined = adopt (chunk_block 258) ∷ relink ∷ half_pass 3

abbrev pub joined_moves : List Move
joined_moves = pass_moves 2 ++ (adopt (chunk_block 258) ∷ relink ∷ pass_moves 3)

-- the second pass has its last segment before it, and then is done
abbrev pub before_joined : Ledger (List Block)
before_joined = half_applied (codes_of Used Staged Used) 3 old_tree

abbrev pub last_joined : Ledger (List Block)
last_joined = applied (codes_of Used Free Staged) 3 old_tree

-- the first pass, up to its last apply and as a whole, in which the block is shared right after the freeze
abbrev pub half_adopting : List Move
half_adopting = begin_pass ∷ freeze_of_pass ∷ adopt (chunk_block 258) ∷ complete ∷ begin_scan ∷ apply 2 0 ∷ []

abbrev pub adopting_pass : List Move
adopting_pass = begin_pass ∷ freeze_of_pass ∷ adopt (chunk_block 258) ∷ complete ∷ begin_scan ∷ apply 2 0 ∷ apply 2 1 ∷ []

-- before its last apply, and after it
abbrev pub before_adopted : Ledger (List Block)
before_adopted = resting used_codes 2 old_tree new_tree (Scanning 2 1) old_tree

abbrev pub after_adopted : Ledger (List Block)
after_adopted = resting (codes_of Used Staged Staged) 2 old_tree new_tree Idle old_tree

-- the second pass marks the block
abbrev pub before_marked : Ledger (List Block)
before_marked = half_applied (codes_of Used Staged Staged) 3 new_tree

abbrev pub last_marked : Ledger (List Block)
last_marked = applied (codes_of Used Free Used) 3 new_tree

-- the first pass marks the block, of which the tree lets go before the second one
abbrev pub opened_new : Ledger (List Block)
opened_new = resting used_codes 1 new_tree new_tree Idle []

abbrev pub after_new : Ledger (List Block)
after_new = applied (codes_of Used Staged Used) 2 new_tree

-- a third pass marks the block between the two, and then the tree lets go of it
abbrev pub between_passes : List Move
between_passes = pass_moves 3 ++ (relink ∷ half_pass 4)

abbrev pub three_passes : List Move
three_passes = adopting_pass ++ (pass_moves 3 ++ (relink ∷ pass_moves 4))

abbrev pub last_of_three : Ledger (List Block)
last_of_three = applied (codes_of Used Free Staged) 4 old_tree
