use Rattle.std.proofs.Common.{◌∙◌, refl, sym, arith, ℕ, List, Option}
use Rattle.h2_ref.specs.declared.reference.Ref.{Ref}
use Rattle.h2_inode.specs.Nodes.{Told, held_by}
use Rattle.h2_inode.specs.PfsList.{ListedPfs}
use Rattle.h2_pfs.specs.declared.fault.PfsFault.{PfsFault}
use Rattle.h2_pfs.specs.declared.fault.PfsFault.TheVariants.{Trouble as Troubled}
use Rattle.h2_pfs.specs.Listing.{HasPfss}
use Rattle.h2_pfs.specs.Faults.{FaultMeetsOnly, IsFaultIn}
use Rattle.h2_pfs.proofs.Apart.{all_goes, removes_others}
use Rattle.h2_tree.specs.AnswerLaws.{beside_on}
use Rattle.h2_pfs.proofs.Answering.{carried_err}
use Rattle.h2_pfs.proofs.Kept.{kept_id, found_as}
use Rattle.h2_pfs.proofs.Found.{found_met, found_path, found_free}
use Rattle.h2_pfs.proofs.Gone.{Gone, gone, dropped, removes_pfs}
use Rattle.h2_pfs.proofs.Single.{removed_one}
use Rattle.h2_pfs.proofs.removing.pfs_remove.Given.{Over}
use Rattle.h2_pfs.proofs.removing.pfs_remove.Goals.{After-drop-pfss-2}
use Rattle.h2_set.specs.MetLaws.{MeetsNone-trans, MeetsOnly-after}
use Rattle.h2_pfs.proofs.removing.pfs_remove.Goals as goal

pub returns-in_err-pfss-clause-refused : goal.returns-in_err-pfss-clause-refused
returns-in_err-pfss-clause-refused g c =
    let f = g.N.Sets.forest c.args.n.now in
    let old = held_by g.N.Nodes.fields (g.N.Sets.beside c.args.n.now) in
    let was = g.N.Nodes.told c.args.n.now in
    let top = c.args.root.0 in
    let Refused = λ (x : PfsFault). (next : ℕ) (pfss : List ListedPfs) → HasPfss f old was top next pfss → IsFaultIn c.args.name.now pfss x in
    carried_err Refused c.from_residual.result (Troubled c.in_err-pfss.field-0.0) c.from_residual.ensures.1 c.in_err-pfss.ensures.good

pub returns-in_default-clause-fault : goal.returns-in_default-clause-fault
returns-in_default-clause-fault g c =
    let met = c.in_ok-pfss.ensures.met in
    record { pfss = met.0; meets = met.1; id_is = kept_id c.args.name.now _ _ met.0 _ (sym c.in_default.is ∙ c.id_in.ensures) c.deref.ensures.value met.2 }

pub returns-in_default-clause-refused : goal.returns-in_default-clause-refused
returns-in_default-clause-refused g c next known has =
    let met = c.in_ok-pfss.ensures.met in
    found_as c.args.name.now met.0 known _ (met.3 next known has).1 (kept_id c.args.name.now _ _ met.0 _ (sym c.in_default.is ∙ c.id_in.ensures) c.deref.ensures.value met.2)

pub returns-then-handles-gt0-clause-fault : goal.returns-then-handles-gt0-clause-fault
returns-then-handles-gt0-clause-fault g c =
    let met = c.in_ok-pfss.ensures.met in
    let id_is = kept_id c.args.name.now _ _ met.0 _ (sym c.in-Some.is ∙ c.id_in.ensures) c.deref.ensures.value met.2 in
    ((c.in-Some.id, record { pfss = met.0; meets = met.1; id_is = id_is }), (refl, c.if-handles-gt0.true))

pub returns-then-handles-gt0-clause-refused : goal.returns-then-handles-gt0-clause-refused
returns-then-handles-gt0-clause-refused g c next known has =
    let met = c.in_ok-pfss.ensures.met in
    let id_is = kept_id c.args.name.now _ _ met.0 _ (sym c.in-Some.is ∙ c.id_in.ensures) c.deref.ensures.value met.2 in
    (c.in-Some.id, found_as c.args.name.now met.0 known _ (met.3 next known has).1 id_is)

pub remove-requires-clause-free : goal.remove-requires-clause-free
remove-requires-clause-free g c =
    let met = c.in_ok-pfss.ensures.met in
    let id_is = kept_id c.args.name.now _ _ met.0 _ (sym c.in-Some.is ∙ c.id_in.ensures) c.deref.ensures.value met.2 in
    let top = c.args.root.0 in
    let holds = held_by g.N.Nodes.fields (g.N.Sets.beside c.scan.new.n) in
    let it = found_met (g.N.Sets.forest c.scan.new.n) holds top c.in-Some.id c.args.name.now met.1.leaves met.0 met.1.each id_is in
    found_free g.N.Nodes.fields (g.N.Sets.forest c.args.n.now) (g.N.Sets.forest c.scan.new.n) _ _ top c.in-Some.id c.args.name.now c.requires.sound c.in_ok-pfss.ensures.visits c.in_ok-pfss.ensures.beside c.requires.super_root.stands (c.requires.free (omega (arith, c.if-handles-gt0.false))) it

pub returns-in_err-remove-clause-fault : goal.returns-in_err-remove-clause-fault
returns-in_err-remove-clause-fault g c =
    let met = c.in_ok-pfss.ensures.met in
    let id_is = kept_id c.args.name.now _ _ met.0 _ (sym c.in-Some.is ∙ c.id_in.ensures) c.deref.ensures.value met.2 in
    let top = c.args.root.0 in
    let holds = held_by g.N.Nodes.fields (g.N.Sets.beside c.scan.new.n) in
    let it = found_met (g.N.Sets.forest c.scan.new.n) holds top c.in-Some.id c.args.name.now met.1.leaves met.0 met.1.each id_is in
    absurd (c.in_err-remove.ensures.unloaded _ (found_path (g.N.Sets.forest c.scan.new.n) holds top c.in-Some.id c.args.name.now it))

pub returns-in_err-remove-clause-refused : goal.returns-in_err-remove-clause-refused
returns-in_err-remove-clause-refused g c =
    let met = c.in_ok-pfss.ensures.met in
    let id_is = kept_id c.args.name.now _ _ met.0 _ (sym c.in-Some.is ∙ c.id_in.ensures) c.deref.ensures.value met.2 in
    let top = c.args.root.0 in
    let holds = held_by g.N.Nodes.fields (g.N.Sets.beside c.scan.new.n) in
    let it = found_met (g.N.Sets.forest c.scan.new.n) holds top c.in-Some.id c.args.name.now met.1.leaves met.0 met.1.each id_is in
    absurd (c.in_err-remove.ensures.unloaded _ (found_path (g.N.Sets.forest c.scan.new.n) holds top c.in-Some.id c.args.name.now it))

pub returns-in_err-remove-clause-visits : goal.returns-in_err-remove-clause-visits
returns-in_err-remove-clause-visits g c =
    let met = c.in_ok-pfss.ensures.met in
    let id_is = kept_id c.args.name.now _ _ met.0 _ (sym c.in-Some.is ∙ c.id_in.ensures) c.deref.ensures.value met.2 in
    let top = c.args.root.0 in
    let holds = held_by g.N.Nodes.fields (g.N.Sets.beside c.scan.new.n) in
    let it = found_met (g.N.Sets.forest c.scan.new.n) holds top c.in-Some.id c.args.name.now met.1.leaves met.0 met.1.each id_is in
    absurd (c.in_err-remove.ensures.unloaded _ (found_path (g.N.Sets.forest c.scan.new.n) holds top c.in-Some.id c.args.name.now it))

pub returns-in_err-remove-clause-alike : goal.returns-in_err-remove-clause-alike
returns-in_err-remove-clause-alike g c =
    let met = c.in_ok-pfss.ensures.met in
    let id_is = kept_id c.args.name.now _ _ met.0 _ (sym c.in-Some.is ∙ c.id_in.ensures) c.deref.ensures.value met.2 in
    let top = c.args.root.0 in
    let holds = held_by g.N.Nodes.fields (g.N.Sets.beside c.scan.new.n) in
    let it = found_met (g.N.Sets.forest c.scan.new.n) holds top c.in-Some.id c.args.name.now met.1.leaves met.0 met.1.each id_is in
    absurd (c.in_err-remove.ensures.unloaded _ (found_path (g.N.Sets.forest c.scan.new.n) holds top c.in-Some.id c.args.name.now it))

pub returns-in_err-remove-clause-loads : goal.returns-in_err-remove-clause-loads
returns-in_err-remove-clause-loads g c =
    let met = c.in_ok-pfss.ensures.met in
    let id_is = kept_id c.args.name.now _ _ met.0 _ (sym c.in-Some.is ∙ c.id_in.ensures) c.deref.ensures.value met.2 in
    let top = c.args.root.0 in
    let holds = held_by g.N.Nodes.fields (g.N.Sets.beside c.scan.new.n) in
    let it = found_met (g.N.Sets.forest c.scan.new.n) holds top c.in-Some.id c.args.name.now met.1.leaves met.0 met.1.each id_is in
    absurd (c.in_err-remove.ensures.unloaded _ (found_path (g.N.Sets.forest c.scan.new.n) holds top c.in-Some.id c.args.name.now it))

pub returns-in_err-remove-clause-beside : goal.returns-in_err-remove-clause-beside
returns-in_err-remove-clause-beside g c = beside_on _ _ _ _ _ _ (λ m st. (c.in_ok-pfss.ensures.visits.stays m st).place.stands) c.in_ok-pfss.ensures.beside c.in_err-remove.ensures.beside

-- the PFS with the name went out
out : (g : Over) (c : After-drop-pfss-2 g) → Gone (g.N.Sets.forest c.scan.new.n) (g.N.Sets.forest c.remove.new.n) c.args.root.0 c.in-Some.id
out g c =
    let met = c.in_ok-pfss.ensures.met in
    let id_is = kept_id c.args.name.now _ _ met.0 _ (sym c.in-Some.is ∙ c.id_in.ensures) c.deref.ensures.value met.2 in
    let top = c.args.root.0 in
    let holds = held_by g.N.Nodes.fields (g.N.Sets.beside c.scan.new.n) in
    let it = found_met (g.N.Sets.forest c.scan.new.n) holds top c.in-Some.id c.args.name.now met.1.leaves met.0 met.1.each id_is in
    let rem = c.in_ok-remove.ensures in
    let visits = c.in_ok-pfss.ensures.visits in
    gone _ _ top c.in-Some.id it.leaf c.in_ok-remove.field-0 visits.sound (visits.stays top c.requires.super_root.stands).place.stands (found_path (g.N.Sets.forest c.scan.new.n) holds top c.in-Some.id c.args.name.now it) it.key rem.removes rem.key rem.paths rem.path rem.absent rem.none

pub returns-clause-removes : goal.returns-clause-removes
returns-clause-removes g c =
    let met = c.in_ok-pfss.ensures.met in
    let id_is = kept_id c.args.name.now _ _ met.0 _ (sym c.in-Some.is ∙ c.id_in.ensures) c.deref.ensures.value met.2 in
    let scan = c.in_ok-pfss.ensures in
    let top = c.args.root.0 in
    let place = (scan.visits.stays top c.requires.super_root.stands).place in
    let beside = c.in_ok-remove.ensures.beside in
    let gone = out g c in
    let others = λ (now : Ref → Option Told). removes_others g.N.Nodes.fields _ _ _ _ (g.N.Nodes.told c.scan.new.n) now top gone.leaf scan.visits.sound place.stands (place.root ∙ c.requires.super_root.root) beside gone.removes in
    let all_gone = all_goes _ _ top gone.leaf scan.visits.sound place.stands (place.root ∙ c.requires.super_root.root) gone.removes in
    removes_pfs g.N.Nodes.fields _ _ _ _ _ _ (g.N.Nodes.told c.args.n.now) (g.N.Nodes.told c.scan.new.n) top c.in-Some.id c.args.name.now scan.visits scan.alike scan.loads scan.beside beside (record { pfss = met.0; meets = met.1; id_is = id_is }) gone all_gone others

pub returns-clause-listed : goal.returns-clause-listed
returns-clause-listed g c next known has =
    let met = c.in_ok-pfss.ensures.met in
    let id_is = kept_id c.args.name.now _ _ met.0 _ (sym c.in-Some.is ∙ c.id_in.ensures) c.deref.ensures.value met.2 in
    let kept = met.3 next known has in
    let visits = c.in_ok-pfss.ensures.visits in
    let top = c.args.root.0 in
    let place = (visits.stays top c.requires.super_root.stands).place in
    (c.in-Some.id, found_as c.args.name.now met.0 known _ kept.1 id_is, dropped g.N.Nodes.fields _ _ _ _ (g.N.Nodes.told c.scan.new.n) (g.N.Nodes.told c.remove.new.n) top next c.in-Some.id known met.0 visits.sound place.stands (place.root ∙ c.requires.super_root.root) c.in_ok-remove.ensures.beside met.1 (out g c) kept.0)

pub returns-clause-beside : goal.returns-clause-beside
returns-clause-beside g c = beside_on _ _ _ _ _ _ (λ m st. (c.in_ok-pfss.ensures.visits.stays m st).place.stands) c.in_ok-pfss.ensures.beside c.in_ok-remove.ensures.beside

pub returns-in_err-pfss-clause-one : goal.returns-in_err-pfss-clause-one
returns-in_err-pfss-clause-one g c names = c.in_err-pfss.ensures.visits.names_one c.requires.sound names

pub returns-in_default-clause-one : goal.returns-in_default-clause-one
returns-in_default-clause-one g c names = c.in_ok-pfss.ensures.visits.names_one c.requires.sound names

pub returns-then-handles-gt0-clause-one : goal.returns-then-handles-gt0-clause-one
returns-then-handles-gt0-clause-one g c names = c.in_ok-pfss.ensures.visits.names_one c.requires.sound names

pub returns-in_err-remove-clause-one : goal.returns-in_err-remove-clause-one
returns-in_err-remove-clause-one g c =
    let met = c.in_ok-pfss.ensures.met in
    let id_is = kept_id c.args.name.now _ _ met.0 _ (sym c.in-Some.is ∙ c.id_in.ensures) c.deref.ensures.value met.2 in
    let top = c.args.root.0 in
    let holds = held_by g.N.Nodes.fields (g.N.Sets.beside c.scan.new.n) in
    let it = found_met (g.N.Sets.forest c.scan.new.n) holds top c.in-Some.id c.args.name.now met.1.leaves met.0 met.1.each id_is in
    absurd (c.in_err-remove.ensures.unloaded _ (found_path (g.N.Sets.forest c.scan.new.n) holds top c.in-Some.id c.args.name.now it))

pub returns-clause-one : goal.returns-clause-one
returns-clause-one g c names = let gone = out g c in removed_one _ _ c.args.root.0 gone.leaf gone.removes (c.in_ok-pfss.ensures.visits.names_one c.requires.sound names)

pub returns-in_err-pfss-clause-met_only : goal.returns-in_err-pfss-clause-met_only
returns-in_err-pfss-clause-met_only g c =
    let Met = FaultMeetsOnly (g.N.Sets.forest c.args.n.now) (g.N.Sets.forest c.scan.new.n) in
    carried_err Met c.from_residual.result (Troubled c.in_err-pfss.field-0.0) c.from_residual.ensures.1 c.in_err-pfss.ensures.met_only

pub returns-in_err-remove-clause-met_only : goal.returns-in_err-remove-clause-met_only
returns-in_err-remove-clause-met_only g c =
    let Met = FaultMeetsOnly (g.N.Sets.forest c.args.n.now) (g.N.Sets.forest c.remove.new.n) in
    carried_err Met c.from_residual-in_err-remove.result (Troubled c.in_err-remove.field-0.0) c.from_residual-in_err-remove.ensures.1 (MeetsOnly-after _ _ _ c.in_err-remove.field-0.0 c.in_ok-pfss.ensures.none_met c.in_err-remove.ensures.met_only)

pub returns-in_default-clause-met_only : goal.returns-in_default-clause-met_only
returns-in_default-clause-met_only g c = c.in_ok-pfss.ensures.none_met

pub returns-then-handles-gt0-clause-met_only : goal.returns-then-handles-gt0-clause-met_only
returns-then-handles-gt0-clause-met_only g c = c.in_ok-pfss.ensures.none_met

pub returns-clause-none_met : goal.returns-clause-none_met
returns-clause-none_met g c = MeetsNone-trans _ _ _ c.in_ok-pfss.ensures.none_met c.in_ok-remove.ensures.none_met

pub returns-clause-room : goal.returns-clause-room
returns-clause-room g c = let removes = (out g c).removes in omega (arith, removes.room, c.in_ok-pfss.ensures.visits.room)

pub returns-clause-room_falls : goal.returns-clause-room_falls
returns-clause-room_falls g c = let removes = (out g c).removes in omega (arith, removes.room_falls, c.in_ok-pfss.ensures.visits.room)

pub returns-clause-spare : goal.returns-clause-spare
returns-clause-spare g c = let removes = (out g c).removes in removes.spare ∙ c.in_ok-pfss.ensures.visits.spare
