use Rattle.std.proofs.Common.{◌≤◌, ◌<◌, ◌∙◌, arith, subst, length, List, ℕ}
use Rattle.h2_inode.specs.Nodes.{held_by}
use Rattle.h2_inode.specs.PfsList.{ListedPfs}
use Rattle.h2_pfs.specs.declared.fault.PfsFault.{PfsFault}
use Rattle.h2_pfs.specs.declared.fault.PfsFault.TheVariants.{Trouble as Troubled}
use Rattle.h2_pfs.specs.Listing.{HasPfss}
use Rattle.h2_pfs.specs.Faults.{FaultMeetsOnly, IsFaultIn}
use Rattle.h2_pfs.proofs.Answering.{carried_err}
use Rattle.h2_pfs.proofs.Kept.{kept_id, kept_length, found_as, some_of, none_of}
use Rattle.h2_pfs.proofs.adding.make_space.Goals as goal

pub returns-in_err-pfss-clause-refused : goal.returns-in_err-pfss-clause-refused
returns-in_err-pfss-clause-refused g c =
    let f = g.N.Sets.forest c.args.n.now in
    let old = held_by g.N.Nodes.fields (g.N.Sets.beside c.args.n.now) in
    let was = g.N.Nodes.told c.args.n.now in
    let top = c.args.root.0 in
    let Refused = λ (x : PfsFault). (next : ℕ) (pfss : List ListedPfs) → HasPfss f old was top next pfss → IsFaultIn c.args.name.now pfss x in
    carried_err Refused c.from_residual.result (Troubled c.in_err-pfss.field-0.0) c.from_residual.ensures.1 c.in_err-pfss.ensures.good

pub returns-then-is_some-clause-fault : goal.returns-then-is_some-clause-fault
returns-then-is_some-clause-fault g c =
    let met = c.in_ok-pfss.ensures.met in
    let found = some_of c.id_in.result c.is_some.result c.is_some.ensures c.if-is_some.true in
    let id_is = kept_id c.args.name.now _ _ met.0 c.id_in.result c.id_in.ensures c.deref.ensures.value met.2 in
    (found.0, record { pfss = met.0; meets = met.1; id_is = id_is ∙ found.1 })

pub returns-then-is_some-clause-refused : goal.returns-then-is_some-clause-refused
returns-then-is_some-clause-refused g c next known has =
    let met = c.in_ok-pfss.ensures.met in
    let found = some_of c.id_in.result c.is_some.result c.is_some.ensures c.if-is_some.true in
    let id_is = kept_id c.args.name.now _ _ met.0 c.id_in.result c.id_in.ensures c.deref.ensures.value met.2 in
    (found.0, found_as c.args.name.now met.0 known _ (met.3 next known has).1 (id_is ∙ found.1))

pub returns-then-len-ge-PFSS-clause-fault : goal.returns-then-len-ge-PFSS-clause-fault
returns-then-len-ge-PFSS-clause-fault g c =
    let met = c.in_ok-pfss.ensures.met in
    let none = none_of c.id_in.result c.is_some.result c.is_some.ensures c.if-is_some.false in
    let id_is = kept_id c.args.name.now _ _ met.0 c.id_in.result c.id_in.ensures c.deref.ensures.value met.2 in
    let count = kept_length _ _ met.0 c.deref.ensures.value met.2 in
    (record { pfss = met.0; meets = met.1; id_is = id_is ∙ none }, omega (arith, count, c.deref.ensures.len, c.len.ensures, c.if-len-ge-PFSS.true))

pub returns-then-len-ge-PFSS-clause-refused : goal.returns-then-len-ge-PFSS-clause-refused
returns-then-len-ge-PFSS-clause-refused g c next known has =
    let met = c.in_ok-pfss.ensures.met in
    let none = none_of c.id_in.result c.is_some.result c.is_some.ensures c.if-is_some.false in
    let id_is = kept_id c.args.name.now _ _ met.0 c.id_in.result c.id_in.ensures c.deref.ensures.value met.2 in
    let count = kept_length _ _ met.0 c.deref.ensures.value met.2 in
    let many : 64 ≤ length met.0 = omega (arith, count, c.deref.ensures.len, c.len.ensures, c.if-len-ge-PFSS.true) in
    let same = (met.3 next known has).1 in
    (found_as c.args.name.now met.0 known _ same (id_is ∙ none), subst (λ (z : List ListedPfs). 64 ≤ length z) same many)

pub returns-clause-space : goal.returns-clause-space
returns-clause-space g c =
    let met = c.in_ok-pfss.ensures.met in
    let none = none_of c.id_in.result c.is_some.result c.is_some.ensures c.if-is_some.false in
    let id_is = kept_id c.args.name.now _ _ met.0 c.id_in.result c.id_in.ensures c.deref.ensures.value met.2 in
    let count = kept_length _ _ met.0 c.deref.ensures.value met.2 in
    let few : length met.0 < 64 = omega (arith, count, c.deref.ensures.len, c.len.ensures, c.if-len-ge-PFSS.false) in
    (record { pfss = met.0; meets = met.1; absent = id_is ∙ none; few = few }, met.3)

pub returns-in_err-pfss-clause-met_only : goal.returns-in_err-pfss-clause-met_only
returns-in_err-pfss-clause-met_only g c =
    let Met = FaultMeetsOnly (g.N.Sets.forest c.args.n.now) (g.N.Sets.forest c.scan.new.n) in
    carried_err Met c.from_residual.result (Troubled c.in_err-pfss.field-0.0) c.from_residual.ensures.1 c.in_err-pfss.ensures.met_only

pub returns-then-is_some-clause-met_only : goal.returns-then-is_some-clause-met_only
returns-then-is_some-clause-met_only g c = c.in_ok-pfss.ensures.none_met

pub returns-then-len-ge-PFSS-clause-met_only : goal.returns-then-len-ge-PFSS-clause-met_only
returns-then-len-ge-PFSS-clause-met_only g c = c.in_ok-pfss.ensures.none_met
