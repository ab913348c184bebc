use Rattle.std.proofs.Common.{None, inl, inr, arith}
use Rattle.h2_dir.proofs.Growing.{none_replaced}
use Rattle.h2_dir.proofs.adding.put_in.Goals as goal

pub unreachable-requires : goal.unreachable-requires
unreachable-requires g c = let space = c.requires.space in elim c.in_default.ensures.unloaded [ inl none ↦ none None c.requires.free | inr zero ↦ omega (arith, zero, space.0) ]

pub returns-clause-inserts : goal.returns-clause-inserts
returns-clause-inserts g c = none_replaced _ _ _ _ c.in-Ok._replaced c.requires.sound c.requires.stands c.requires.free c.in-Ok.ensures.ok
