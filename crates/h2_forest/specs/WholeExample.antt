-- A script of two phases and two clients, by which the definition of a whole history is tried.
use Rattle.std.specs.Prelude.{List, [], ◌∷◌}
use Rattle.h2_command.specs.declared.command.Command.TheVariants.{Close, Sync, Bulkfree, PfsList}
use Rattle.h2_command.specs.declared.reply.Reply.TheVariants.{Done, Pfs as Named, NoHandle}
use Rattle.h2_command.specs.declared.history.Item.{Item}
use Rattle.h2_command.specs.declared.history.Item.TheVariants.{Call, Mark as Marked}
use Rattle.h2_command.specs.declared.history.Mark.TheVariants.{ScanBegin}
use Rattle.h2_forest.specs.Whole.{Asked, Script}

-- two clients give three commands in the first phase, and two in the second
abbrev pub two_phases : Script
two_phases = ((0, Sync) ∷ (3, Bulkfree) ∷ (0, PfsList) ∷ []) ∷ ((3, Sync) ∷ (0, Close 1) ∷ []) ∷ []

-- a client's index counts on over the phases, and each client's by itself
abbrev pub five_places : List Asked
five_places =
    record { phase = 0; client = 0; index = 0; command = Sync }
    ∷ record { phase = 0; client = 3; index = 0; command = Bulkfree }
    ∷ record { phase = 0; client = 0; index = 1; command = PfsList }
    ∷ record { phase = 1; client = 3; index = 1; command = Sync }
    ∷ record { phase = 1; client = 0; index = 2; command = Close 1 }
    ∷ []

-- what came after the entry with which the clients began
abbrev pub later_items : List Item
later_items =
    Call (record { phase = 0; client = 0; index = 1; command = PfsList; reply = Named ((82 ∷ 79 ∷ 79 ∷ 84 ∷ []) ∷ []) })
    ∷ Call (record { phase = 1; client = 3; index = 1; command = Sync; reply = Done })
    ∷ Call (record { phase = 1; client = 0; index = 2; command = Close 1; reply = NoHandle })
    ∷ []

-- a run in which client 3 came before client 0
abbrev pub five_entries : List Item
five_entries =
    Marked (ScanBegin 2)
    ∷ Call (record { phase = 0; client = 3; index = 0; command = Bulkfree; reply = Done })
    ∷ Call (record { phase = 0; client = 0; index = 0; command = Sync; reply = Done })
    ∷ later_items

-- the same without an entry of client 3's first command
abbrev pub four_entries : List Item
four_entries = Call (record { phase = 0; client = 0; index = 0; command = Sync; reply = Done }) ∷ later_items
