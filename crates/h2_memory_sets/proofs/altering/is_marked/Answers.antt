use Rattle.std.proofs.Common.{◌≡◌, ◌||◌, ◌+◌, suc, arith, refl, sym, ap, ◌∙◌, subst}
use Rattle.std.proofs.lemmas.Option.{slice_get_read}
use Rattle.h2_memory_sets.specs.declared.node.Node.{Node}
use Rattle.h2_memory_sets.specs.Owners.{on_chain}
use Rattle.h2_memory_sets.specs.View.{is_above, is_over, leads}
use Rattle.h2_memory_sets.proofs.Owned.{or_last}
use Rattle.h2_memory_sets.proofs.Parting.{one_of}
use Rattle.h2_memory_sets.proofs.altering.is_marked.Goals as goal

pub returns-else-is_above : goal.returns-else-is_above
returns-else-is_above c = λ x read.
    let xs = c.args.nodes.now in
    let y = c.index-nodes-i.result in
    let same : y ≡ x = one_of y x (sym (slice_get_read xs _ c.args.i y refl c.requires c.index-nodes-i.is) ∙ read) in
    let far : c.args.at.root + 1 ≡ suc c.args.at.root = omega arith in
    let over : c.leads_over.result ≡ is_over xs c.args.at.root y = c.leads_over.ensures ∙ ap (λ n. on_chain (leads y) xs n c.args.at.root) far in
    subst (λ (z : Node). c.leads_over.result ≡ (z.dirty || (is_above c.args.at z || is_over xs c.args.at.root z))) same
    (over ∙ or_last (is_above c.args.at y) (is_over xs c.args.at.root y) (sym c.is_above.ensures ∙ c.if-is_above.false) ∙ or_last y.dirty (is_above c.args.at y || is_over xs c.args.at.root y) c.if-x.false)
