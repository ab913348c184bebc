-- What adding an entry and taking one out take of the room and of the spare nodes.
use Rattle.std.specs.Prelude.{◌≤◌, ℕ}
use Rattle.std.proofs.Common.{arith, ◌∙◌}
use Rattle.h2_ref.specs.declared.reference.Ref.{Ref}
use Rattle.h2_set.specs.Forest.{Forest}
use Rattle.h2_dir.specs.Changing.{Adds, AddsWithin, TakesAway, TakesWithin}

pub adds_within : {f g : Forest} {dir : ℕ} {leaf : Ref} → Adds f g dir leaf → 1 ≤ f.spare → AddsWithin f g dir leaf
adds_within adds enough =
    let goes = adds.inserts.goes in
    let made = goes.grown enough in
    record {
      adds = adds;
      room = omega (arith, goes.room, adds.resizes.room);
      spare = omega (arith, made, goes.spare, adds.resizes.spare);
    }

pub takes_within : {f g : Forest} {dir : ℕ} {leaf : Ref} → TakesAway f g dir leaf → TakesWithin f g dir leaf
takes_within takes =
    let goes = takes.removes.goes in
    record {
      takes = takes;
      room = omega (arith, goes.room, takes.resizes.room);
      spare = takes.resizes.spare ∙ goes.spare;
    }
