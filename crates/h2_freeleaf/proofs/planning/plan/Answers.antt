use Rattle.std.proofs.Common.{◌≡◌, ◌≢◌, ◌≤◌, ◌++◌, ℕ, List, length, sym, ap, subst, ◌∙◌, arith, rules}
use Rattle.h2_ref.specs.declared.reference.Ref.{Ref}
use Rattle.h2_header.specs.Map.{top_level}
use Rattle.h2_freeleaf.specs.Plan.{IsEight, blocks_of, level_places}
use Rattle.h2_freeleaf.proofs.Blocks.{plan_by}
use Rattle.h2_freeleaf.proofs.planning.plan.Goals as goal

pub returns-then-top_level-eq1 : goal.returns-then-top_level-eq1
returns-then-top_level-eq1 c =
    let m = c.args.m.now in
    let number = c.args.number in
    let zones_are : c.zones-zones.result ≡ c.args.m.now.zones = c.zones-zones.ensures.value ∙ c.geometry.ensures.value in
    let level_is : c.top_level-2.result ≡ top_level c.args.m.now.zones = c.top_level-2.ensures.level ∙ ap top_level zones_are in
    let one : c.top_level-2.result ≡ 1 = search rules in
    let top : 1 ≡ top_level c.args.m.now.zones = sym one ∙ level_is in
    let len : length c.eight_of-top-then-top_level-eq1.result ≡ 8 = search rules in
    plan_by m.zones number m.segments 1 c.plan_nodes.new.writes.items c.in_ok-nodes.nodes.items c.eight_of-top-then-top_level-eq1.result (omega arith) top c.in_ok-nodes.ensures.level
    (subst (λ (rs : List Ref). IsEight rs 0 c.eight_of-top-then-top_level-eq1.result) c.deref-then-top_level-eq1.ensures.value c.eight_of-top-then-top_level-eq1.ensures.eight) len c.eight_of-top-then-top_level-eq1.ensures.valid
    (c.in_ok-nodes.ensures.order ∙ ap (λ (ps : List ℕ). ps ++ level_places number 1 (blocks_of m.zones 1)) c.in_ok-leaves.ensures.order)

pub returns : goal.returns
returns c =
    let m = c.args.m.now in
    let number = c.args.number in
    let zones_are : c.zones-zones.result ≡ c.args.m.now.zones = c.zones-zones.ensures.value ∙ c.geometry.ensures.value in
    let level_is : c.top_level-2.result ≡ top_level c.args.m.now.zones = c.top_level-2.ensures.level ∙ ap top_level zones_are in
    let level_was : c.top_level.result ≡ top_level c.args.m.now.zones = c.top_level.ensures.level ∙ ap top_level zones_are in
    let not_one : c.top_level-2.result ≢ 1 = search rules in
    let not_zero : c.top_level.result ≢ 0 = search rules in
    let most : c.top_level-2.result ≤ 2 = c.top_level-2.ensures.most in
    let top : 2 ≡ top_level c.args.m.now.zones = omega (arith, level_is, level_was, not_one, not_zero, most) in
    let len : length c.eight_of-top-2.result ≡ 8 = search rules in
    plan_by m.zones number m.segments 2 c.plan_nodes-2.new.writes.items c.in_ok-upper.upper.items c.eight_of-top-2.result (omega arith) top c.in_ok-upper.ensures.level
    (subst (λ (rs : List Ref). IsEight rs 0 c.eight_of-top-2.result) c.deref-4.ensures.value c.eight_of-top-2.ensures.eight) len c.eight_of-top-2.ensures.valid
    (c.in_ok-upper.ensures.order ∙ ap (λ (ps : List ℕ). ps ++ level_places number 2 (blocks_of m.zones 2))
    (c.in_ok-nodes.ensures.order ∙ ap (λ (ps : List ℕ). ps ++ level_places number 1 (blocks_of m.zones 1)) c.in_ok-leaves.ensures.order))
