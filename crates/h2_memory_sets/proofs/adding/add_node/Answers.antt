use Rattle.std.proofs.Common.{List, [], ◌∷◌, ◌++◌, length, take, drop, slice_set, refl, ◌≡◌, ◌∙◌, sym, ap}
use Rattle.std.proofs.Math.Seq.{take-append_seam}
use Rattle.std.proofs.lemmas.Option.{slice_get_read}
use Rattle.h2_memory_sets.specs.declared.node.Node.{Node}
use Rattle.h2_memory_sets.specs.View.{moved_all, new_node}
use Rattle.h2_memory_sets.proofs.Nodes.{parted_is}
use Rattle.h2_memory_sets.proofs.adding.add_node.Goals as goal

pub returns-clause-parted : goal.returns-clause-parted
returns-clause-parted c = λ x read.
    let xs = c.args.nodes.now.items in
    let a = slice_get_read xs _ c.args.at c.index-x.result.now refl c.requires.there c.index-x.ensures in
    let b = slice_get_read xs _ c.args.at c.index_mut.result.now refl c.requires.there c.index_mut.ensures.value in
    let n : c.args.nodes.now.len ≡ length c.move_below.new.nodes = sym (c.move_below.auto.nodes ∙ c.deref_mut.ensures.len) in
    let seam = ap (λ k. take k (c.move_below.new.nodes ++ drop (length c.move_below.new.nodes) (slice_set xs c.args.at c.give_set.new.x))) n ∙ take-append_seam c.move_below.new.nodes _ in
    parted_is xs _ _ c.args.at _ x c.index-x.result.now c.index_mut.result.now c.args.kept c.args.part c.args.r.now (c.len-c.ensures ∙ c.args.nodes.now.ok.0) read a b (c.move_below.ensures ∙ ap (λ (l : List Node). moved_all c.args.at c.len-c.result c.args.r.now l) c.deref_mut.ensures.value ∙ ap (λ (y : Node). moved_all c.args.at c.len-c.result c.args.r.now (slice_set xs c.args.at y)) c.give_set.ensures) (c.in-Ok.ensures.items ∙ ap (λ (l : List Node). l ++ new_node c.args.at c.index-x.result.now c.args.part c.args.r.now ∷ []) seam)
