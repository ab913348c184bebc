-- A history, with the places that were reserved for it.
use Rattle.std.specs.Prelude.{ℕ, List}
use Rattle.h2_command.specs.declared.history.Item.{Item}

-- the items in order, and how many more can be appended without memory
pub record Recorded : Type 0 where
  pub items : List Item
  pub spare : ℕ
