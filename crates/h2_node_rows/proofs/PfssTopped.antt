-- A super-root stays one after each call on the list of PFSs.
use Rattle.std.proofs.Common.{ℕ, List, Option, None, Result, Ok, Err}
use Rattle.std.specs.Prelude.{OnOk, OnErr}
use Rattle.h2_ref.specs.declared.reference.Ref.{Ref}
use Rattle.h2_set.specs.Forest.{Forest}
use Rattle.h2_inode.specs.declared.inode.Inode.{Inode}
use Rattle.h2_inode.specs.Nodes.{Fields, Told, Visits}
use Rattle.h2_pfs.specs.declared.fault.PfsFault.{PfsFault}
use Rattle.h2_pfs.specs.Addition.{AddsPfs}
use Rattle.h2_pfs.specs.Removal.{RemovesPfs}
use Rattle.h2_node_rows.specs.VolumeUnderTest.{IsTop}
use Rattle.h2_node_rows.specs.SuperRootLaws.{top_fixed, readied, visited, brought, inserted}

added : (f g : Forest) (old new : ℕ → Option Fields) (was : Ref → Option Told) (c : ℕ) (leaf : Ref) (inode : Inode) → IsTop f c → AddsPfs f g old new was c leaf inode → IsTop g c
added f g old new was c leaf inode is adds =
    let founds = adds.founds in
    let ins = founds.inserts in
    let plants = founds.plants in
    let ready = readied adds.then founds.ready c (visited f adds.then c is adds.visits) founds.readies in
    let put = inserted founds.ready founds.put c c leaf None ready ins in
    brought founds.put g c founds.node put plants.brings

removed : (f g : Forest) (old new : ℕ → Option Fields) (was : Ref → Option Told) (c : ℕ) (name : List ℕ) → IsTop f c → RemovesPfs f g old new was c name → IsTop g c
removed f g old new was c name is out =
    let removes = out.removes in
    top_fixed out.then g c (visited f out.then c is out.visits) removes.sound removes.place removes.fixed

pub added_or_not : (f g : Forest) (old new : ℕ → Option Fields) (was : Ref → Option Told) (c : ℕ) (leaf : Ref) (inode : Inode) (r : Result (Unit {0}) PfsFault) → IsTop f c → OnOk r (AddsPfs f g old new was c leaf inode) → OnErr r (Visits f g) → IsTop g c
added_or_not f g old new was c leaf inode (Ok u) is adds visits = added f g old new was c leaf inode is adds
added_or_not f g old new was c leaf inode (Err e) is adds visits = visited f g c is visits

pub removed_or_not : (f g : Forest) (old new : ℕ → Option Fields) (was : Ref → Option Told) (c : ℕ) (name : List ℕ) (r : Result (Unit {0}) PfsFault) → IsTop f c → OnOk r (RemovesPfs f g old new was c name) → OnErr r (Visits f g) → IsTop g c
removed_or_not f g old new was c name (Ok u) is out visits = removed f g old new was c name is out
removed_or_not f g old new was c name (Err e) is out visits = visited f g c is visits
