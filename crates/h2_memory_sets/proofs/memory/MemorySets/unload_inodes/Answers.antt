use Rattle.std.proofs.Common.{List, map, slice_get, sym, ap, ◌∙◌, subst}
use Rattle.h2_memory_sets.specs.declared.node.Node.{Node}
use Rattle.h2_memory_sets.specs.Inodes.{unsought_all}
use Rattle.h2_memory_sets.specs.Kept.{AreKept}
use Rattle.h2_memory_sets.specs.Owners.{beside_of}
use Rattle.h2_memory_sets.specs.Roots.{UnloadsInodes}
use Rattle.h2_memory_sets.specs.View.{AllRooted, block, forest_with}
use Rattle.h2_memory_sets.proofs.Altered.{written}
use Rattle.h2_memory_sets.proofs.Unsought.{unloads_inodes, kept_unsought, rooted_unsought, beside_unsought, blocks_unsought}
use Rattle.h2_memory_sets.proofs.memory.MemorySets.unload_inodes.Goals as goal

pub returns-clause-unloads : goal.returns-clause-unloads
returns-clause-unloads c =
    let p = c.args.self.now in
    let xs = p.nodes.items in
    let items = written unsought_all xs c.deref_mut.result.now c.unload_owned.new.nodes p.nodes.len (sym (c.unload_owned.auto.nodes ∙ c.deref_mut.ensures.len)) c.deref_mut.ensures.value c.unload_owned.ensures in
    subst (λ (ys : List Node). UnloadsInodes (forest_with xs p.spare p.epoch p.room p.failed p.bad p.met) (forest_with ys p.spare p.epoch p.room p.failed p.bad p.met)) (sym items) (unloads_inodes xs p.spare p.epoch p.room p.failed p.bad p.met p.kept p.rooted c.requires.sound c.requires.free)

pub returns-clause-blocks : goal.returns-clause-blocks
returns-clause-blocks c =
    let p = c.args.self.now in
    let xs = p.nodes.items in
    let items = written unsought_all xs c.deref_mut.result.now c.unload_owned.new.nodes p.nodes.len (sym (c.unload_owned.auto.nodes ∙ c.deref_mut.ensures.len)) c.deref_mut.ensures.value c.unload_owned.ensures in
    ap (map block) items ∙ blocks_unsought xs

pub returns-clause-beside : goal.returns-clause-beside
returns-clause-beside c =
    let p = c.args.self.now in
    let xs = p.nodes.items in
    let items = written unsought_all xs c.deref_mut.result.now c.unload_owned.new.nodes p.nodes.len (sym (c.unload_owned.auto.nodes ∙ c.deref_mut.ensures.len)) c.deref_mut.ensures.value c.unload_owned.ensures in
    record { same = λ m st now. ap (λ (ys : List Node). beside_of (slice_get ys m)) items ∙ beside_unsought xs p.spare p.epoch p.room p.failed p.bad p.met p.kept p.rooted c.requires.sound c.requires.free m }

pub invariant_of-self-clause-kept : goal.invariant_of-self-clause-kept
invariant_of-self-clause-kept c =
    let p = c.args.self.now in
    let xs = p.nodes.items in
    let items = written unsought_all xs c.deref_mut.result.now c.unload_owned.new.nodes p.nodes.len (sym (c.unload_owned.auto.nodes ∙ c.deref_mut.ensures.len)) c.deref_mut.ensures.value c.unload_owned.ensures in
    subst AreKept (sym items) (kept_unsought xs p.spare p.epoch p.room p.failed p.bad p.met p.kept p.rooted c.requires.sound c.requires.free)

pub invariant_of-self-clause-rooted : goal.invariant_of-self-clause-rooted
invariant_of-self-clause-rooted c =
    let p = c.args.self.now in
    let xs = p.nodes.items in
    let items = written unsought_all xs c.deref_mut.result.now c.unload_owned.new.nodes p.nodes.len (sym (c.unload_owned.auto.nodes ∙ c.deref_mut.ensures.len)) c.deref_mut.ensures.value c.unload_owned.ensures in
    subst AllRooted (sym items) (rooted_unsought xs p.spare p.epoch p.room p.failed p.bad p.met p.kept p.rooted c.requires.sound c.requires.free)
