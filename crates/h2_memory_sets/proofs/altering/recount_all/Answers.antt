use Rattle.std.proofs.Common.{◌≡◌, ◌<◌, ℕ, arith, length, List, slice_set, refl, sym, ap, ◌∙◌}
use Rattle.std.proofs.lemmas.List.Edits.{map_over_more}
use Rattle.h2_memory_sets.specs.declared.node.Node.{Node}
use Rattle.h2_memory_sets.specs.declared.node.Place.{Place}
use Rattle.h2_memory_sets.specs.View.{with_copies, count_copied, place_of, is_copied}
use Rattle.h2_memory_sets.proofs.Counting.{count_mixed, same_read}
use Rattle.h2_memory_sets.proofs.altering.recount_all.Goals as goal

pub loop-i-preserved : goal.loop-i-preserved
loop-i-preserved c =
    let zs = c.args.nodes.now in
    let f = (λ (y : Node). with_copies (count_copied (place_of y) zs) y) in
    let x = c.index-nodes-i-in-loop-i.result in
    let is = c.index-nodes-i-in-loop-i.is in
    let lt : c.loop-i.i < length c.loop-i.nodes = (let n = c.loop-i.auto.nodes in let t = c.loop-i-test.true in omega (arith, n, t)) in
    let first : c.index-nodes-i.result ≡ x = same_read c.loop-i.nodes c.loop-i.i c.index-nodes-i.result x lt c.index-nodes-i.is is in
    let n : c.count_copied-n.result ≡ count_copied (place_of x) zs = c.count_copied-n.ensures ∙ ap (λ (p : Place). count_copied p c.loop-i.nodes) (c.place_of-at.ensures ∙ ap place_of (sym c.index-nodes-i.is ∙ first)) ∙ ap (λ (l : List Node). count_copied (place_of x) l) c.loop-i.invariant ∙ count_mixed (is_copied (place_of x)) f (λ y. refl) c.loop-i.i zs in
    ap (λ (y : Node). slice_set c.loop-i.nodes c.loop-i.i y) (c.set_copies.ensures ∙ ap (with_copies c.count_copied-n.result) (sym is) ∙ ap (λ (k : ℕ). with_copies k x) n) ∙ map_over_more f zs c.loop-i.nodes c.loop-i.i x c.loop-i-test.true c.loop-i.invariant is
