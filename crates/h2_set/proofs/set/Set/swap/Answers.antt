use Rattle.std.proofs.Common.{◌≡◌, ◌∙◌, ap, List, ◌<◌, length, Some, slice_get, slice_set}
use Rattle.h2_ref.specs.declared.reference.Ref.{Ref}
use Rattle.std.specs.List.{insert}
use Rattle.h2_set.specs.RefSet.{RefSet}
use Rattle.h2_set.specs.EditLaws.{read_at, insert-remove, set_swap}
use Rattle.h2_set.proofs.set.Set.swap.Goals as goal

within : (c : goal.After-insert) → c.args.i < length c.self.inside.refs.items
within c = rw (← c.self.view_is) at c.requires.within

read : (c : goal.After-insert) → slice_get c.self.inside.refs.items c.args.i ≡ Some c.remove-old.result
read c = read_at c.self.inside.refs.items c.args.i c.remove-old.result (within c) c.remove-old.ensures.value

items : (c : goal.After-insert) → c.insert.new.self.items ≡ slice_set c.self.inside.refs.items c.args.i c.args.r
items c = c.insert.ensures.items ∙ ap (λ (l : List Ref). insert l c.args.i c.args.r) c.remove-old.ensures.items ∙ insert-remove c.self.inside.refs.items c.args.i c.args.r (within c)

pub returns-clause-old : goal.returns-clause-old
returns-clause-old c = rw (← c.self.view_is) (read c)

pub invariant_of-self : goal.invariant_of-self
invariant_of-self c =
    let same = c.requires.same c.remove-old.result (returns-clause-old c) in
    rw (items c) (set_swap (record { refs = c.self.inside.refs.items; capacity = c.self.inside.capacity }) c.args.i c.args.r c.remove-old.result c.self.invariant (read c) same.0 same.1)

pub returns-clause-new : goal.returns-clause-new
returns-clause-new c =
    ap (λ (l : List Ref). let s : RefSet = record { refs = l; capacity = c.self.inside.capacity } in s) (items c)
    ∙ ap (λ (s : RefSet). let t : RefSet = record { refs = slice_set s.refs c.args.i c.args.r; capacity = s.capacity } in t) c.self.view_is
