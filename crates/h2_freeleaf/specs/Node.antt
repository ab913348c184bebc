-- The bytes of a node of the freemap.
use Rattle.std.specs.Prelude.{◌≡◌, List, length, All}
use Rattle.h2_num.specs.Places.{Places}
use Rattle.h2_ref.specs.declared.reference.Ref.{Ref}
use Rattle.h2_ref.specs.Ref.{IsValid}
use Rattle.h2_ref.specs.Set.{RefsBytes}

-- eight valid references
pub record IsNode (refs : List Ref) : Type 0 where
  pub count : length refs ≡ 8
  pub valid : All IsValid refs

-- the 1024 bytes of a node: those of its references, in their order
abbrev pub NodeBytes : List Ref → Places → Type 0
NodeBytes refs b = RefsBytes refs b

-- these bytes spell no node
abbrev pub NoNode : Places → Type 0
NoNode b = (refs : List Ref) → IsNode refs → NodeBytes refs b → ⊥
