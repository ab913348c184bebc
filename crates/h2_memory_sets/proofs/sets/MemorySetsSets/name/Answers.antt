use Rattle.std.proofs.Common.{ℕ, Option, ap, arith}
use Rattle.h2_inode.specs.declared.inode.Inode.{Inode}
use Rattle.h2_memory_sets.proofs.Nodes.{unchanged_nodes}
use Rattle.h2_memory_sets.specs.LaterLaws.{goes_on_refl}
use Rattle.h2_memory_sets.proofs.sets.MemorySetsSets.name.Goals as goal

pub returns-in-Ok-Some-clause-same : goal.returns-in-Ok-Some-clause-same
returns-in-Ok-Some-clause-same c =
    let p = c.args.self.now in
    unchanged_nodes p.nodes.items p.spare p.epoch p.room p.failed p.failed p.bad p.bad p.met p.met (omega arith) (omega arith) c.requires.sound

pub returns-in-Err-clause-same : goal.returns-in-Err-clause-same
returns-in-Err-clause-same c =
    let p = c.args.self.now in
    unchanged_nodes p.nodes.items p.spare p.epoch p.room p.failed p.failed p.bad p.bad p.met p.met (omega arith) (omega arith) c.requires.sound

pub returns-in-Ok-None-clause-beside : goal.returns-in-Ok-None-clause-beside
returns-in-Ok-None-clause-beside c = record { same = λ m st now. ap (λ (b : ℕ → Option Inode). b m) c.load_name.ensures.beside }

pub returns-in-Ok-Some-clause-later : goal.returns-in-Ok-Some-clause-later
returns-in-Ok-Some-clause-later c = goes_on_refl _

pub returns-in-Err-clause-later : goal.returns-in-Err-clause-later
returns-in-Err-clause-later c = goes_on_refl _
