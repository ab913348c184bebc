use Rattle.std.proofs.Common.{◌≡◌, ◌∙◌, sym, ap, subst, List, ◌++◌}
use Rattle.h2_ref.specs.declared.reference.Ref.{Ref}
use Rattle.h2_tree.specs.Changes.{Lists}
use Rattle.h2_tree.proofs.Gathering.{gathers_list}
use Rattle.h2_tree.proofs.listing.range.Goals as goal

pub returns-clause-lists : goal.returns-clause-lists
returns-clause-lists g c =
    let h = g.N.Sets.forest c.collect.new.n in
    let now = c.in_ok-collect.ensures in
    let it = now.gathers in
    let lists = gathers_list h c.args.from c.args.to c.args.root.0 it.more now.walks.sound (now.walks.stays c.args.root.0 c.requires.stands).place.stands it.gathers in
    let same : c.collect.new.out.items ≡ it.more = it.all ∙ ap (λ (z : List Ref). z ++ it.more) c.new-out.ensures.items in
    subst (λ (l : List Ref). Lists h c.args.root.0 c.args.from c.args.to l) (sym same) lists
