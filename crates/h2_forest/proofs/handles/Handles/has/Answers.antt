use Rattle.std.proofs.Common.{ap, sym, ◌∙◌, ℕ}
use Rattle.std.specs.Prelude.{nat_eq, ◌&&◌, ◌||◌, List, Bool}
use Rattle.std.specs.List.{list_any}
use Rattle.std.specs.FinMap as map
use Rattle.std.proofs.lemmas.Bool.{eq-eqb}
use Rattle.h2_maps.specs.Maps.{kept_values}
use Rattle.h2_forest.specs.HandleLaws.{handles_total, exact_handles}
use Rattle.h2_forest.proofs.handles.Handles.has.Goals as goal

pub returns : goal.returns
returns c =
    ap (list_any (λ (x : ℕ × ℕ). nat_eq x.0 c.args.pfs && nat_eq x.1 c.args.inode)) (sym c.in-None.ensures.steps.0)
    ∙ c.loop-at.invariant
    ∙ ap (list_any (λ (x : ℕ × ℕ). nat_eq x.0 c.args.pfs && nat_eq x.1 c.args.inode)) (c.into_iter-at-iterator.ensures.into_iter_gives ∙ c.values-at-items.ensures.rest
    ∙ sym (kept_values handles_total exact_handles c.self.inside.open.entries c.values-at-items.ensures.ordered) ∙ ap map.values c.self.view_is)

pub returns-then-at-inode : goal.returns-then-at-inode
returns-then-at-inode c =
    let named : List (ℕ × ℕ) → Bool = list_any (λ (x : ℕ × ℕ). nat_eq x.0 c.args.pfs && nat_eq x.1 c.args.inode) in
    sym (ap (λ b. (b && nat_eq c.in-Some.at.now.1 c.args.inode) || named c.next.new.self) (eq-eqb c.in-Some.at.now.0 c.args.pfs c.if-at-pfs.true) ∙ ap (λ b. b || named c.next.new.self) (eq-eqb c.in-Some.at.now.1 c.args.inode c.if-at-inode.true))
    ∙ ap named (sym c.in-Some.ensures.steps)
    ∙ c.loop-at.invariant
    ∙ ap named (c.into_iter-at-iterator.ensures.into_iter_gives ∙ c.values-at-items.ensures.rest
    ∙ sym (kept_values handles_total exact_handles c.self.inside.open.entries c.values-at-items.ensures.ordered) ∙ ap map.values c.self.view_is)
