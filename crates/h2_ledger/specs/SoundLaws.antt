-- The laws of the ledger, move by move.
use Rattle.h2_num.specs.declared.block.Block.{Block}
use Rattle.h2_ledger.specs.Moves.{take_next, take_first, take_whole, adopt, relink, reserve, freeze, freeze_of_pass, complete, begin_pass, begin_scan, end_pass, apply}
use Rattle.h2_ledger.specs.Laws.{KeepsSound, TakesApart}
use Rattle.h2_ledger.specs.QuietLaws.{relink_sound, reserve_sound, freeze_sound, freeze_of_pass_sound, complete_sound, begin_pass_sound, begin_scan_sound, end_pass_sound}
use Rattle.h2_ledger.specs.TakeLaws.{take_next_sound, take_first_sound, take_whole_sound, adopt_sound, granted_apart}
use Rattle.h2_ledger.specs.ApplyLaws.{apply_sound}

pub keeps_sound : {Set : Type 0} (has : Block → Set → Type 0) → KeepsSound has
keeps_sound has (take_next size b) x y m sx = take_next_sound has size b x y m sx
keeps_sound has (take_first size b) x y m sx = take_first_sound has size b x y m sx
keeps_sound has (take_whole b) x y m sx = take_whole_sound has b x y m sx
keeps_sound has (adopt b) x y m sx = adopt_sound has b x y m sx
keeps_sound has relink x y m sx = relink_sound has x y m sx
keeps_sound has reserve x y m sx = reserve_sound has x y m sx
keeps_sound has freeze x y m sx = freeze_sound has x y m sx
keeps_sound has freeze_of_pass x y m sx = freeze_of_pass_sound has x y m sx
keeps_sound has complete x y m sx = complete_sound has x y m sx
keeps_sound has begin_pass x y m sx = begin_pass_sound has x y m sx
keeps_sound has begin_scan x y m sx = begin_scan_sound has x y m sx
keeps_sound has end_pass x y m sx = end_pass_sound has x y m sx
keeps_sound has (apply number segment) x y m sx = apply_sound has number segment x y m sx

pub takes_apart : {Set : Type 0} (has : Block → Set → Type 0) → TakesApart has
takes_apart has taken x m sx b h = granted_apart has taken x m sx b h
