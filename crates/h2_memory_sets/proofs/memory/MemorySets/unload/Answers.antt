use Rattle.std.proofs.Common.{List, map, refl, slice_get, sym, ap, ◌∙◌, subst}
use Rattle.h2_memory_sets.specs.declared.node.Node.{Node}
use Rattle.std.specs.List.{position}
use Rattle.h2_memory_sets.specs.Inodes.{is_named}
use Rattle.h2_memory_sets.specs.Kept.{AreKept}
use Rattle.h2_memory_sets.specs.Owners.{beside_of}
use Rattle.h2_memory_sets.specs.View.{AllRooted, block, forest_with, unloaded}
use Rattle.h2_memory_sets.specs.Roots.{Unloads}
use Rattle.h2_memory_sets.proofs.Rooted.{rooted_unload, map_field}
use Rattle.h2_memory_sets.proofs.Unloads.{unloads, kept_unload, blocks_stay, rewritten}
use Rattle.h2_memory_sets.proofs.Unsought.{stays_named}
use Rattle.h2_memory_sets.proofs.memory.MemorySets.unload.Goals as goal

pub invariant_of-self-clause-rooted : goal.invariant_of-self-clause-rooted
invariant_of-self-clause-rooted c =
    let p = c.args.self.now in
    subst AllRooted (sym (rewritten p.nodes.items c.deref_mut.result.now c.unload_all.new.nodes p.nodes.len c.args.from (sym (c.unload_all.auto.nodes ∙ c.deref_mut.ensures.len)) c.deref_mut.ensures.value c.unload_all.ensures)) (rooted_unload c.args.from p.nodes.items p.rooted)

pub returns-clause-unloads : goal.returns-clause-unloads
returns-clause-unloads c =
    let p = c.args.self.now in
    subst (λ (ys : List Node). Unloads (forest_with p.nodes.items p.spare p.epoch p.room p.failed p.bad p.met) (forest_with ys p.spare p.epoch p.room p.failed p.bad p.met) c.args.from) (sym (rewritten p.nodes.items c.deref_mut.result.now c.unload_all.new.nodes p.nodes.len c.args.from (sym (c.unload_all.auto.nodes ∙ c.deref_mut.ensures.len)) c.deref_mut.ensures.value c.unload_all.ensures)) (unloads p.nodes.items c.args.from p.spare p.epoch p.room p.failed p.bad p.met (ap (position is_named) (sym c.deref.ensures.value) ∙ sym c.find_named.ensures ∙ c.in-None.is) p.rooted c.requires.sound)

pub returns-clause-blocks : goal.returns-clause-blocks
returns-clause-blocks c =
    let p = c.args.self.now in
    ap (λ (ys : List Node). map block ys) (rewritten p.nodes.items c.deref_mut.result.now c.unload_all.new.nodes p.nodes.len c.args.from (sym (c.unload_all.auto.nodes ∙ c.deref_mut.ensures.len)) c.deref_mut.ensures.value c.unload_all.ensures) ∙ blocks_stay c.args.from p.nodes.items

pub invariant_of-self-clause-kept : goal.invariant_of-self-clause-kept
invariant_of-self-clause-kept c =
    let p = c.args.self.now in
    subst AreKept (sym (rewritten p.nodes.items c.deref_mut.result.now c.unload_all.new.nodes p.nodes.len c.args.from (sym (c.unload_all.auto.nodes ∙ c.deref_mut.ensures.len)) c.deref_mut.ensures.value c.unload_all.ensures)) (kept_unload c.args.from p.nodes.items p.kept)

pub returns-clause-beside : goal.returns-clause-beside
returns-clause-beside c =
    let p = c.args.self.now in
    record { same = λ m st now. ap (λ (ys : List Node). beside_of (slice_get ys m)) (rewritten p.nodes.items c.deref_mut.result.now c.unload_all.new.nodes p.nodes.len c.args.from (sym (c.unload_all.auto.nodes ∙ c.deref_mut.ensures.len)) c.deref_mut.ensures.value c.unload_all.ensures) ∙ map_field beside_of (unloaded c.args.from) p.nodes.items (λ x. refl) m }

pub returns-in_default-clause-unloads : goal.returns-in_default-clause-unloads
returns-in_default-clause-unloads c =
    let p = c.args.self.now in
    stays_named p.nodes.items c.args.from p.spare p.epoch p.room p.failed p.bad p.met _ (ap (position is_named) (sym c.deref.ensures.value) ∙ sym c.find_named.ensures ∙ c.in_default.is) p.kept c.requires.sound
