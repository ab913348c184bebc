use Rattle.std.proofs.Common.{◌∙◌, ◌-◌, ap, arith, map, refl, sym, subst}
use Rattle.std.proofs.lemmas.List.{length-map, map-append}
use Rattle.h2_memory_sets.proofs.Planted.{grows}
use Rattle.h2_memory_sets.specs.LaterLaws.{fails_still, spoils_still}
use Rattle.h2_memory_sets.specs.Later.{KeepsBlocks}
use Rattle.h2_memory_sets.specs.View.{block}
use Rattle.h2_memory_sets.proofs.Going.{keeps_push}
use Rattle.h2_memory_sets.proofs.inodes.MemorySetsNodes.plant.Goals as goal

pub invariant_of-self-clause-rooted : goal.invariant_of-self-clause-rooted
invariant_of-self-clause-rooted c = (let p = c.args.self.now in grows p.nodes.items c.add_inode-c.new.nodes.items p.spare (p.spare - 1) p.epoch p.room p.failed p.bad p.met c.args.root.0 c.args.leaf.now c.add_inode-c.result c.args.inode c.add_inode-c.ensures.pushed c.add_inode-c.ensures.number c.add_inode-c.ensures.set p.rooted p.kept c.requires.sound c.requires.leaf c.requires.unloaded c.requires.number c.requires.plantable (let one = c.requires.spare in omega (arith, one))).rooted

pub invariant_of-self-clause-kept : goal.invariant_of-self-clause-kept
invariant_of-self-clause-kept c = (let p = c.args.self.now in grows p.nodes.items c.add_inode-c.new.nodes.items p.spare (p.spare - 1) p.epoch p.room p.failed p.bad p.met c.args.root.0 c.args.leaf.now c.add_inode-c.result c.args.inode c.add_inode-c.ensures.pushed c.add_inode-c.ensures.number c.add_inode-c.ensures.set p.rooted p.kept c.requires.sound c.requires.leaf c.requires.unloaded c.requires.number c.requires.plantable (let one = c.requires.spare in omega (arith, one))).kept

pub returns-clause-plants : goal.returns-clause-plants
returns-clause-plants c = (let p = c.args.self.now in grows p.nodes.items c.add_inode-c.new.nodes.items p.spare (p.spare - 1) p.epoch p.room p.failed p.bad p.met c.args.root.0 c.args.leaf.now c.add_inode-c.result c.args.inode c.add_inode-c.ensures.pushed c.add_inode-c.ensures.number c.add_inode-c.ensures.set p.rooted p.kept c.requires.sound c.requires.leaf c.requires.unloaded c.requires.number c.requires.plantable (let one = c.requires.spare in omega (arith, one))).plants

pub returns-clause-inode : goal.returns-clause-inode
returns-clause-inode c = (let p = c.args.self.now in grows p.nodes.items c.add_inode-c.new.nodes.items p.spare (p.spare - 1) p.epoch p.room p.failed p.bad p.met c.args.root.0 c.args.leaf.now c.add_inode-c.result c.args.inode c.add_inode-c.ensures.pushed c.add_inode-c.ensures.number c.add_inode-c.ensures.set p.rooted p.kept c.requires.sound c.requires.leaf c.requires.unloaded c.requires.number c.requires.plantable (let one = c.requires.spare in omega (arith, one))).inode

pub returns-clause-beside : goal.returns-clause-beside
returns-clause-beside c = (let p = c.args.self.now in grows p.nodes.items c.add_inode-c.new.nodes.items p.spare (p.spare - 1) p.epoch p.room p.failed p.bad p.met c.args.root.0 c.args.leaf.now c.add_inode-c.result c.args.inode c.add_inode-c.ensures.pushed c.add_inode-c.ensures.number c.add_inode-c.ensures.set p.rooted p.kept c.requires.sound c.requires.leaf c.requires.unloaded c.requires.number c.requires.plantable (let one = c.requires.spare in omega (arith, one))).beside

pub returns-clause-later : goal.returns-clause-later
returns-clause-later c =
    let xs = c.args.self.now.nodes.items in
    record {
      names = λ place len. refl;
      blocks = subst (KeepsBlocks xs) (sym c.add_inode-c.ensures.pushed) (keeps_push xs _);
      fails = fails_still _ _;
      spoils = spoils_still _ _;
      refuses = omega arith;
    }

pub returns-clause-number : goal.returns-clause-number
returns-clause-number c = c.add_inode-c.ensures.number ∙ sym (length-map _ _)

pub returns-clause-blocks : goal.returns-clause-blocks
returns-clause-blocks c =
    let xs = c.args.self.now.nodes.items in
    ap (map block) c.add_inode-c.ensures.pushed ∙ map-append block xs _
