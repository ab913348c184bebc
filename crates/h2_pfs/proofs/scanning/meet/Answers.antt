use Rattle.std.proofs.Common.{◌≡◌, ◌∙◌, ap, List, ℕ}
use Rattle.h2_ref.specs.declared.faults.Trouble.{Trouble}
use Rattle.h2_ref.specs.declared.reference.Ref.{Ref}
use Rattle.h2_set.specs.Calls.{IsBad}
use Rattle.h2_inode.specs.declared.inode.Inode.{Inode}
use Rattle.h2_inode.specs.Loaded.{Tree, at_root, NamesInode}
use Rattle.h2_inode.specs.Nodes.{held_by}
use Rattle.h2_inode.specs.VisitLaws.{unchanged_visits, seeks_visit}
use Rattle.h2_pfs.specs.declared.met.Met.{Met}
use Rattle.h2_pfs.proofs.Answering.{carried_err}
use Rattle.h2_pfs.proofs.Known.{named_good}
use Rattle.h2_inode.specs.AlikeLaws.{unchanged_alike, seeks_alike}
use Rattle.h2_pfs.proofs.Loading.{none_loads, seek_loads}
use Rattle.h2_pfs.proofs.Visiting.{seeks_meets, seeks_tells}
use Rattle.h2_set.specs.MetLaws.{MeetsNone-refl, handed_met_only}
use Rattle.h2_pfs.proofs.scanning.meet.Goals as goal

pub returns-in_err-at-clause-visits : goal.returns-in_err-at-clause-visits
returns-in_err-at-clause-visits g c = unchanged_visits _ _ c.in_err-at.ensures.same

pub returns-in_err-at-clause-alike : goal.returns-in_err-at-clause-alike
returns-in_err-at-clause-alike g c =
    let seek = c.in_err-at.ensures in
    unchanged_alike g.N.Nodes.fields _ _ _ _ _ _ c.requires.sound seek.same seek.beside (g.met.N.Nodes.told_later _ _ seek.later)

pub returns-in_err-at-clause-good : goal.returns-in_err-at-clause-good
returns-in_err-at-clause-good g c =
    let f = g.N.Sets.forest c.args.n.now in
    let holds = held_by g.N.Nodes.fields (g.N.Sets.beside c.args.n.now) in
    let tells = g.N.Nodes.told c.args.n.now in
    let top = c.args.root.0 in
    let leaf : Ref = c.args.leaf.now in
    let e = c.in_err-at.field-0.0 in
    let Good = λ (x : Trouble). (i : Inode) (t : Tree) → NamesInode f holds tells (at_root top) leaf i t → IsBad x → ⊥ in
    carried_err Good c.from_residual.result e c.from_residual.ensures.1 (named_good f holds tells top leaf e c.in_err-at.ensures.unloaded c.in_err-at.ensures.good)

pub returns-in-Err-clause-good : goal.returns-in-Err-clause-good
returns-in-Err-clause-good g c = λ i t known bad. bad

pub returns-in-Ok-clause-met : goal.returns-in-Ok-clause-met
returns-in-Ok-clause-met g c =
    let leaf : Ref = c.args.leaf.now in
    let j = c.inode.result.now in
    let seek = c.in_ok-at.ensures in
    let top = c.args.root.0 in
    let met = seeks_meets g.N.Nodes.fields _ _ _ top c.in_ok-at.at.0 leaf seek.inode.0 j c.requires.sound c.requires.leaf seek.ok seek.inode.1 seek.inode.2 c.inode.ensures in
    let tells = seeks_tells g.N.Nodes.fields _ _ _ _ (g.N.Nodes.told c.args.n.now) top c.in_ok-at.at.0 leaf j c.requires.leaf.stands seek.ok seek.beside seek.told c.inode.ensures in
    let name : c.in-Ok.name ≡ j.name = c.in-Ok.ensures ∙ c.as_slice.ensures.bytes in
    let same = ap (λ (z : List ℕ). let m : Met = record { id = leaf.key; name = z } in m) name in
    (record { id = leaf.key; name = j.name; next = j.next }, (met, tells), same)

pub returns-in-Ok-clause-visits : goal.returns-in-Ok-clause-visits
returns-in-Ok-clause-visits g c = seeks_visit _ _ _ _ _ c.in_ok-at.ensures.ok

pub returns-in-Err-clause-visits : goal.returns-in-Err-clause-visits
returns-in-Err-clause-visits g c = seeks_visit _ _ _ _ _ c.in_ok-at.ensures.ok

pub returns-in-Ok-clause-alike : goal.returns-in-Ok-clause-alike
returns-in-Ok-clause-alike g c =
    let seek = c.in_ok-at.ensures in
    seeks_alike g.N.Nodes.fields _ _ _ _ _ _ c.args.root.0 c.in_ok-at.at.0 c.args.leaf.now c.requires.sound c.requires.leaf seek.ok seek.beside (g.met.N.Nodes.told_later _ _ seek.later) seek.told

pub returns-in-Err-clause-alike : goal.returns-in-Err-clause-alike
returns-in-Err-clause-alike g c =
    let seek = c.in_ok-at.ensures in
    seeks_alike g.N.Nodes.fields _ _ _ _ _ _ c.args.root.0 c.in_ok-at.at.0 c.args.leaf.now c.requires.sound c.requires.leaf seek.ok seek.beside (g.met.N.Nodes.told_later _ _ seek.later) seek.told

pub returns-in_err-at-clause-loads : goal.returns-in_err-at-clause-loads
returns-in_err-at-clause-loads g c = none_loads _ _ c.args.root.0 c.in_err-at.ensures.same.none_new

pub returns-in-Ok-clause-loads : goal.returns-in-Ok-clause-loads
returns-in-Ok-clause-loads g c = seek_loads _ _ c.args.root.0 c.in_ok-at.at.0 c.args.leaf.now c.requires.sound c.requires.leaf c.in_ok-at.ensures.ok

pub returns-in-Err-clause-loads : goal.returns-in-Err-clause-loads
returns-in-Err-clause-loads g c = seek_loads _ _ c.args.root.0 c.in_ok-at.at.0 c.args.leaf.now c.requires.sound c.requires.leaf c.in_ok-at.ensures.ok

pub returns-in_err-at-clause-met_only : goal.returns-in_err-at-clause-met_only
returns-in_err-at-clause-met_only g c = handed_met_only _ _ _ c.from_residual.result c.in_err-at.field-0.0 c.from_residual.ensures.1 (MeetsNone-refl _) c.in_err-at.ensures.met_only

pub returns-in-Err-clause-met_only : goal.returns-in-Err-clause-met_only
returns-in-Err-clause-met_only g c = c.in_ok-at.ensures.none_met
