use Rattle.std.proofs.Common.{◌≡◌, ◌∙◌, sym, arith, ap, List, subst, ◌<◌, length}
use Rattle.h2_ref.specs.declared.reference.Ref.{Ref}
use Rattle.h2_set.specs.Ranges.{put, IsApart}
use Rattle.h2_set.specs.RefSet.{RefSet}
use Rattle.h2_set.specs.EditLaws.{items_put, set_put}
use Rattle.h2_set.proofs.set.Set.put.Goals as goal

apart : (c : goal.After-insert) → IsApart c.args.r c.self.inside.refs.items
apart c = subst (IsApart c.args.r) (ap (λ (s : RefSet). s.refs) (sym c.self.view_is)) c.requires.apart

items : (c : goal.After-insert) → c.insert.new.self.items ≡ put c.args.r c.self.inside.refs.items
items c = items_put c.args.r c.self.inside.refs.items c.insert.new.self.items c.place_for-i.result (apart c) (rw c.deref.ensures.0 at c.place_for-i.ensures) c.insert.ensures.items

pub invariant_of-self : goal.invariant_of-self
invariant_of-self c =
    let room : length c.self.inside.refs.items < c.self.inside.capacity = omega (arith, c.if-len-self.false, c.len.ensures.value) in
    rw (items c) (set_put (record { refs = c.self.inside.refs.items; capacity = c.self.inside.capacity }) c.args.r c.self.invariant (apart c) c.requires.small room)

pub returns-clause-placed : goal.returns-clause-placed
returns-clause-placed c = λ _.
    ap (λ (l : List Ref). let s : RefSet = record { refs = l; capacity = c.self.inside.capacity } in s) (items c)
    ∙ ap (λ (s : RefSet). let t : RefSet = record { refs = put c.args.r s.refs; capacity = s.capacity } in t) c.self.view_is
