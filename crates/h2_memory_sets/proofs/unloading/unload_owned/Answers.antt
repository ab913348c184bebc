use Rattle.std.proofs.Common.{◌≡◌, ◌<◌, ◌&&◌, Option, arith, length, slice_get, List, slice_set, refl, sym, ap, ◌∙◌}
use Rattle.std.proofs.lemmas.List.Edits.{map_over_more}
use Rattle.std.proofs.lemmas.Option.{slice_get_read}
use Rattle.h2_memory_sets.specs.declared.node.Node.{Node}
use Rattle.h2_memory_sets.specs.declared.node.Owner.{Owner}
use Rattle.h2_memory_sets.specs.Owners.{owner_of}
use Rattle.h2_memory_sets.specs.Inodes.{is_unowned, with_loaded}
use Rattle.h2_memory_sets.proofs.Owned.{owner_mixed}
use Rattle.h2_memory_sets.proofs.unloading.unload_owned.Goals as goal

pub loop-i-preserved : goal.loop-i-preserved
loop-i-preserved c =
    let zs = c.args.nodes.now in
    let f = (λ (x : Node). with_loaded (x.loaded && is_unowned (owner_of (slice_get zs x.root))) x) in
    let x = c.index-nodes-i.result in
    let is = c.index-nodes-i.is in
    let lt : c.loop-i.i < length c.loop-i.nodes = (let n = c.loop-i.auto.nodes in let t = c.loop-i-test.true in omega (arith, n, t)) in
    let owner : owner_of (slice_get c.loop-i.nodes x.root) ≡ owner_of (slice_get zs x.root) = ap (λ (l : List Node). owner_of (slice_get l x.root)) c.loop-i.invariant ∙ owner_mixed f (λ y. refl) c.loop-i.i zs x.root in
    let loaded : c.stays_unsought-loaded.result ≡ (x.loaded && is_unowned (owner_of (slice_get zs x.root))) = c.stays_unsought-loaded.ensures x (slice_get_read c.loop-i.nodes _ c.loop-i.i x refl lt is) ∙ ap (λ (o : Option Owner). x.loaded && is_unowned o) owner in
    ap (λ (y : Node). slice_set c.loop-i.nodes c.loop-i.i y) (c.set_loaded.ensures ∙ ap (with_loaded c.stays_unsought-loaded.result) (sym is) ∙ ap (λ b. with_loaded b x) loaded) ∙ map_over_more f zs c.loop-i.nodes c.loop-i.i x c.loop-i-test.true c.loop-i.invariant is
