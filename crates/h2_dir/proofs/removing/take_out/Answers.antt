use Rattle.std.proofs.Common.{◌≡◌, None, Some, sym, subst, Option}
use Rattle.std.specs.Prelude.{IfSome}
use Rattle.h2_ref.specs.declared.reference.Ref.{Ref}
use Rattle.h2_set.specs.Forest.{Reaches}
use Rattle.h2_tree.specs.Changes.{Removes, KeepsPaths}
use Rattle.h2_dir.proofs.Growing.{answered, was_there}
use Rattle.h2_dir.proofs.removing.take_out.Goals as goal

pub unreachable-requires : goal.unreachable-requires
unreachable-requires g c = c.in_default.ensures.unloaded (Some c.requires.there.0) c.requires.there.1

pub given-requires : goal.given-requires
given-requires g c = answered _ _ _ _ c.requires.there.0 c.requires.sound c.requires.stands c.requires.there.1 c.requires.there.2 c.in-Ok.taken c.in-Ok.ensures.absent c.in-Ok.ensures.none

pub returns-clause-removes : goal.returns-clause-removes
returns-clause-removes g c = subst (λ (o : Option Ref). IfSome o (Removes (g.N.Sets.forest c.args.n.now) (g.N.Sets.forest c.remove.new.n) c.args.root.0)) c.given.ensures c.in-Ok.ensures.removes

pub returns-clause-key : goal.returns-clause-key
returns-clause-key g c = subst (λ (o : Option Ref). IfSome o (λ (leaf : Ref). leaf.key ≡ c.args.key)) c.given.ensures c.in-Ok.ensures.key

pub returns-clause-paths : goal.returns-clause-paths
returns-clause-paths g c = subst (λ (o : Option Ref). IfSome o (KeepsPaths (g.N.Sets.forest c.args.n.now) (g.N.Sets.forest c.remove.new.n) c.args.root.0)) c.given.ensures c.in-Ok.ensures.paths

pub returns-clause-path : goal.returns-clause-path
returns-clause-path g c =
    let now = g.N.Sets.forest c.remove.new.n in
    let path : Reaches now c.given.result.key c.args.root.0 None = subst (λ (o : Option Ref). IfSome o (λ (leaf : Ref). Reaches now leaf.key c.args.root.0 None)) c.given.ensures c.in-Ok.ensures.path in
    let is : c.given.result.key ≡ c.args.key = subst (λ (o : Option Ref). IfSome o (λ (leaf : Ref). leaf.key ≡ c.args.key)) c.given.ensures c.in-Ok.ensures.key in
    subst (λ k. Reaches now k c.args.root.0 None) is path

pub returns-clause-was : goal.returns-clause-was
returns-clause-was g c =
    let f = g.N.Sets.forest c.args.n.now in
    let now = g.N.Sets.forest c.remove.new.n in
    let is : c.given.result.key ≡ c.args.key = subst (λ (o : Option Ref). IfSome o (λ (leaf : Ref). leaf.key ≡ c.args.key)) c.given.ensures c.in-Ok.ensures.key in
    let out : Removes f now c.args.root.0 c.given.result = subst (λ (o : Option Ref). IfSome o (Removes f now c.args.root.0)) c.given.ensures c.in-Ok.ensures.removes in
    subst (λ (r : Ref). Reaches f c.args.key c.args.root.0 (Some r)) (sym (was_there f now c.args.root.0 c.args.key c.requires.there.0 c.given.result c.requires.sound c.requires.stands c.requires.there.1 is out)) c.requires.there.1
