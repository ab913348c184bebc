use Rattle.std.proofs.Common.{◌∙◌, sym, ℕ, List}
use Rattle.h2_inode.specs.Nodes.{held_by}
use Rattle.h2_inode.specs.PfsList.{ListedPfs}
use Rattle.h2_pfs.specs.declared.fault.PfsFault.{PfsFault}
use Rattle.h2_pfs.specs.declared.fault.PfsFault.TheVariants.{Trouble as Troubled}
use Rattle.h2_pfs.specs.Listing.{HasPfss}
use Rattle.h2_pfs.specs.Faults.{FaultMeetsOnly, IsFaultIn}
use Rattle.h2_pfs.proofs.Answering.{carried_err}
use Rattle.h2_pfs.proofs.Kept.{kept_id, found_as}
use Rattle.h2_pfs.proofs.finding.pfs_find.Goals as goal

pub returns-in_err-pfss-clause-refused : goal.returns-in_err-pfss-clause-refused
returns-in_err-pfss-clause-refused g c =
    let f = g.N.Sets.forest c.args.n.now in
    let old = held_by g.N.Nodes.fields (g.N.Sets.beside c.args.n.now) in
    let was = g.N.Nodes.told c.args.n.now in
    let top = c.args.root.0 in
    let Refused = λ (x : PfsFault). (next : ℕ) (pfss : List ListedPfs) → HasPfss f old was top next pfss → IsFaultIn c.args.name.now pfss x in
    carried_err Refused c.from_residual.result (Troubled c.in_err-pfss.field-0.0) c.from_residual.ensures.1 c.in_err-pfss.ensures.good

pub returns-in-Some-clause-found : goal.returns-in-Some-clause-found
returns-in-Some-clause-found g c =
    let met = c.in_ok-pfss.ensures.met in
    record { pfss = met.0; meets = met.1; id_is = kept_id c.args.name.now _ _ met.0 _ (sym c.in-Some.is ∙ c.id_in.ensures) c.deref.ensures.value met.2 }

pub returns-in-Some-clause-listed : goal.returns-in-Some-clause-listed
returns-in-Some-clause-listed g c next known has =
    let met = c.in_ok-pfss.ensures.met in
    found_as c.args.name.now met.0 known _ (met.3 next known has).1 (kept_id c.args.name.now _ _ met.0 _ (sym c.in-Some.is ∙ c.id_in.ensures) c.deref.ensures.value met.2)

pub returns-clause-fault : goal.returns-clause-fault
returns-clause-fault g c =
    let met = c.in_ok-pfss.ensures.met in
    record { pfss = met.0; meets = met.1; id_is = kept_id c.args.name.now _ _ met.0 _ (sym c.in-None.is ∙ c.id_in.ensures) c.deref.ensures.value met.2 }

pub returns-clause-refused : goal.returns-clause-refused
returns-clause-refused g c next known has =
    let met = c.in_ok-pfss.ensures.met in
    found_as c.args.name.now met.0 known _ (met.3 next known has).1 (kept_id c.args.name.now _ _ met.0 _ (sym c.in-None.is ∙ c.id_in.ensures) c.deref.ensures.value met.2)

pub returns-in_err-pfss-clause-met_only : goal.returns-in_err-pfss-clause-met_only
returns-in_err-pfss-clause-met_only g c =
    let Met = FaultMeetsOnly (g.N.Sets.forest c.args.n.now) (g.N.Sets.forest c.scan.new.n) in
    carried_err Met c.from_residual.result (Troubled c.in_err-pfss.field-0.0) c.from_residual.ensures.1 c.in_err-pfss.ensures.met_only

pub returns-clause-met_only : goal.returns-clause-met_only
returns-clause-met_only g c = c.in_ok-pfss.ensures.none_met
