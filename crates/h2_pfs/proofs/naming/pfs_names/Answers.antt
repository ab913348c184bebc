use Rattle.std.proofs.Common.{ℕ, List}
use Rattle.h2_ref.specs.declared.faults.Trouble.{Trouble}
use Rattle.h2_set.specs.Calls.{IsBad}
use Rattle.h2_inode.specs.Nodes.{held_by}
use Rattle.h2_inode.specs.PfsList.{ListedPfs}
use Rattle.h2_pfs.specs.Listing.{HasPfss}
use Rattle.h2_pfs.proofs.Answering.{carried_err}
use Rattle.h2_pfs.proofs.Kept.{kept_names, named_as}
use Rattle.h2_set.specs.MetLaws.{MeetsNone-refl, handed_met_only}
use Rattle.h2_pfs.proofs.naming.pfs_names.Goals as goal

pub returns-in-Ok-clause-names : goal.returns-in-Ok-clause-names
returns-in-Ok-clause-names g c =
    let met = c.in_ok-pfss.ensures.met in
    (met.0, met.1, kept_names c.in-Ok.names _ _ met.0 c.in-Ok.ensures c.deref.ensures.value met.2)

pub returns-in_err-pfss-clause-good : goal.returns-in_err-pfss-clause-good
returns-in_err-pfss-clause-good g c =
    let f = g.N.Sets.forest c.args.n.now in
    let old = held_by g.N.Nodes.fields (g.N.Sets.beside c.args.n.now) in
    let was = g.N.Nodes.told c.args.n.now in
    let top = c.args.root.0 in
    let Good = λ (x : Trouble). (next : ℕ) (pfss : List ListedPfs) → HasPfss f old was top next pfss → IsBad x → ⊥ in
    carried_err Good c.from_residual.result c.in_err-pfss.field-0.0 c.from_residual.ensures.1 c.in_err-pfss.ensures.good

pub returns-clause-good : goal.returns-clause-good
returns-clause-good g c = λ next pfss has bad. bad

pub returns-in-Ok-clause-listed : goal.returns-in-Ok-clause-listed
returns-in-Ok-clause-listed g c next known has =
    let met = c.in_ok-pfss.ensures.met in
    named_as c.in-Ok.names met.0 known (met.3 next known has).1 (kept_names c.in-Ok.names _ _ met.0 c.in-Ok.ensures c.deref.ensures.value met.2)

pub returns-in_err-pfss-clause-met_only : goal.returns-in_err-pfss-clause-met_only
returns-in_err-pfss-clause-met_only g c = handed_met_only _ _ _ c.from_residual.result c.in_err-pfss.field-0.0 c.from_residual.ensures.1 (MeetsNone-refl _) c.in_err-pfss.ensures.met_only

pub returns-clause-met_only : goal.returns-clause-met_only
returns-clause-met_only g c = c.in_ok-pfss.ensures.none_met
