use Rattle.std.proofs.Common.{◌≡◌, ◌||◌, ◌+◌, suc, arith, refl, sym, ap, ◌∙◌, subst}
use Rattle.std.proofs.lemmas.Option.{slice_get_read}
use Rattle.h2_set.specs.RefSet.{RefSet}
use Rattle.h2_memory_sets.specs.declared.node.Node.{Node}
use Rattle.h2_memory_sets.specs.Owners.{on_chain}
use Rattle.h2_memory_sets.specs.View.{goes, goes_with, is_lost}
use Rattle.h2_memory_sets.proofs.Owned.{or_last}
use Rattle.h2_memory_sets.proofs.Parting.{one_of}
use Rattle.h2_memory_sets.proofs.dropping.is_dropped.Goals as goal

pub returns-else-goes : goal.returns-else-goes
returns-else-goes c = λ x read.
    let xs = c.args.nodes.now in
    let y = c.index-nodes-i.result in
    let old = (let s : RefSet = c.args.old.now in s.refs) in
    let new = (let s : RefSet = c.args.new.now in s.refs) in
    let same : y ≡ x = one_of y x (sym (slice_get_read xs _ c.args.i y refl c.requires c.index-nodes-i.is) ∙ read) in
    let far : y.root + 1 ≡ suc y.root = omega arith in
    let over : c.is_over_lost.result ≡ goes_with xs c.args.root old new y.root = c.is_over_lost.ensures ∙ ap (λ n. on_chain (is_lost c.args.root old new) xs n y.root) far in
    subst (λ (z : Node). c.is_over_lost.result ≡ (goes c.args.root c.args.bits old new z || goes_with xs c.args.root old new z.root)) same
    (over ∙ or_last (goes c.args.root c.args.bits old new y) (goes_with xs c.args.root old new y.root) (sym c.goes.ensures ∙ c.if-goes.false))
