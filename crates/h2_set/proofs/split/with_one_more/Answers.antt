use Rattle.std.proofs.Common.{◌∙◌, ap, List}
use Rattle.std.specs.List.{insert}
use Rattle.h2_ref.specs.declared.reference.Ref.{Ref}
use Rattle.h2_set.specs.EditLaws.{items_put}
use Rattle.std.proofs.lemmas.List.{take_all}
use Rattle.h2_set.proofs.split.with_one_more.Goals as goal

pub returns : goal.returns
returns c = items_put c.args.r c.args.refs.now c.insert.new.self.items c.place_for-i.result c.requires.apart c.place_for-i.ensures (c.insert.ensures.items ∙ ap (λ (l : List Ref). insert l c.place_for-i.result c.args.r) (c.loop-q.invariant ∙ take_all c.loop-q.q-index c.args.refs.now c.loop-q-test.false))
