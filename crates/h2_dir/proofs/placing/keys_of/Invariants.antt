use Rattle.std.proofs.Common.{◌≡◌, take}
use Rattle.std.specs.Prelude.{map}
use Rattle.h2_ref.specs.declared.reference.Ref.{Ref}
use Rattle.h2_dir.proofs.placing.keys_of.Given as goal

abbrev pub invariant-loop-leaf : goal.invariant-loop-leaf
invariant-loop-leaf l = l.keys.items ≡ map (λ (r : Ref). r.key) (take l.leaf-index l.leaves)
