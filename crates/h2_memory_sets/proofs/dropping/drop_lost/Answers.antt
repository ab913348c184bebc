use Rattle.std.proofs.Common.{◌≡◌, refl, sym, ap, ◌∙◌, subst}
use Rattle.std.proofs.lemmas.Option.{slice_get_read}
use Rattle.h2_set.specs.RefSet.{RefSet}
use Rattle.h2_memory_sets.specs.declared.node.Node.{Node}
use Rattle.h2_memory_sets.specs.View.{dropped_all}
use Rattle.h2_memory_sets.proofs.Parting.{one_of}
use Rattle.h2_memory_sets.proofs.Undropped.{none_dropped}
use Rattle.h2_memory_sets.proofs.dropping.drop_lost.Goals as goal

pub returns-then-has_all : goal.returns-then-has_all
returns-then-has_all c = λ x read.
    let xs = c.args.nodes.now in
    let y = c.index-nodes-at.result in
    let same : y ≡ x = one_of y x (sym (slice_get_read xs _ c.args.at y refl c.requires c.index-nodes-at.is) ∙ read) in
    let new = (let s : RefSet = c.args.new.now in s.refs) in
    subst (λ (z : Node). xs ≡ dropped_all c.args.root c.args.bits (let s : RefSet = z.set in s.refs) new xs) (sym c.index-nodes-at.is ∙ same)
    (none_dropped c.args.root c.args.bits _ new (c.has_all.ensures c.if-has_all.true) xs)

pub returns : goal.returns
returns c = λ x read.
    let xs = c.args.nodes.now in
    let y = c.index-nodes-at.result in
    let same : y ≡ x = one_of y x (sym (slice_get_read xs _ c.args.at y refl c.requires c.index-nodes-at.is) ∙ read) in
    let new = (let s : RefSet = c.args.new.now in s.refs) in
    subst (λ (z : Node). c.drop_all.new.nodes ≡ dropped_all c.args.root c.args.bits (let s : RefSet = z.set in s.refs) new xs) (sym c.index-nodes-at.is ∙ same)
    (c.drop_all.ensures ∙ ap (λ (s : RefSet). dropped_all c.args.root c.args.bits s.refs new xs) c.copy-old.ensures.same)
