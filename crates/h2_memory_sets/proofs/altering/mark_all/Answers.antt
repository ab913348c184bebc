use Rattle.std.proofs.Common.{◌≡◌, ◌<◌, ◌||◌, arith, length, List, slice_set, refl, sym, ap, suc, ◌∙◌}
use Rattle.std.proofs.lemmas.List.Edits.{map_over_more}
use Rattle.std.proofs.lemmas.Option.{slice_get_read}
use Rattle.h2_memory_sets.specs.declared.node.Node.{Node}
use Rattle.h2_memory_sets.specs.Owners.{on_chain}
use Rattle.h2_memory_sets.specs.View.{is_above, is_over, leads, with_dirty}
use Rattle.h2_memory_sets.proofs.Owned.{chain_mixed}
use Rattle.h2_memory_sets.proofs.altering.mark_all.Goals as goal

pub loop-i-preserved : goal.loop-i-preserved
loop-i-preserved c =
    let zs = c.args.nodes.now in
    let f = (λ (x : Node). with_dirty (x.dirty || (is_above c.args.at x || is_over zs c.args.at.root x)) x) in
    let x = c.index-nodes-i.result in
    let is = c.index-nodes-i.is in
    let lt : c.loop-i.i < length c.loop-i.nodes = (let n = c.loop-i.auto.nodes in let t = c.loop-i-test.true in omega (arith, n, t)) in
    let over : is_over c.loop-i.nodes c.args.at.root x ≡ is_over zs c.args.at.root x = ap (λ (l : List Node). on_chain (leads x) l (suc c.args.at.root) c.args.at.root) c.loop-i.invariant ∙ chain_mixed (leads x) f (λ y. refl) c.loop-i.i zs (suc c.args.at.root) c.args.at.root in
    let dirty : c.is_marked-dirty.result ≡ (x.dirty || (is_above c.args.at x || is_over zs c.args.at.root x)) = c.is_marked-dirty.ensures x (slice_get_read c.loop-i.nodes _ c.loop-i.i x refl lt is) ∙ ap (λ b. x.dirty || (is_above c.args.at x || b)) over in
    ap (λ (y : Node). slice_set c.loop-i.nodes c.loop-i.i y) (c.set_dirty.ensures ∙ ap (with_dirty c.is_marked-dirty.result) (sym is) ∙ ap (λ b. with_dirty b x) dirty) ∙ map_over_more f zs c.loop-i.nodes c.loop-i.i x c.loop-i-test.true c.loop-i.invariant is
