use Rattle.std.proofs.Common.{◌≡◌, List, true, map, slice_get, slice_set, refl, sym, ap, ◌∙◌, subst}
use Rattle.std.proofs.lemmas.Option.{slice_get_read}
use Rattle.h2_set.specs.Calls.{KeepsBeside}
use Rattle.h2_memory_sets.specs.declared.node.Node.{Node}
use Rattle.h2_memory_sets.specs.Inodes.{with_held}
use Rattle.h2_memory_sets.specs.Kept.{AreKept}
use Rattle.h2_memory_sets.specs.Owners.{beside_of}
use Rattle.h2_memory_sets.specs.Roots.{HoldsRoot}
use Rattle.h2_memory_sets.specs.View.{AllRooted, block, forest_with}
use Rattle.h2_memory_sets.proofs.Flagged.{blocks_held, holds_root, rooted_held, kept_held, beside_held}
use Rattle.h2_memory_sets.proofs.Nodes.{is_there}
use Rattle.h2_memory_sets.proofs.memory.MemorySets.hold.Goals as goal

pub invariant_of-self-clause-rooted : goal.invariant_of-self-clause-rooted
invariant_of-self-clause-rooted c =
    let p = c.args.self.now in
    let xs = p.nodes.items in
    let x = c.index_mut.result.now in
    let read = slice_get_read xs _ c.args.at.0 x refl (is_there xs c.args.at.0 c.requires.root.0) c.index_mut.ensures.value in
    let items : slice_set xs c.args.at.0 (with_held true x) ≡ slice_set xs c.args.at.0 c.hold_one.new.x = ap (slice_set xs c.args.at.0) (sym c.hold_one.ensures) in
    subst AllRooted items (rooted_held xs c.args.at.0 x true read p.spare p.epoch p.room p.failed p.bad p.met p.rooted)

pub invariant_of-self-clause-kept : goal.invariant_of-self-clause-kept
invariant_of-self-clause-kept c =
    let p = c.args.self.now in
    let xs = p.nodes.items in
    let x = c.index_mut.result.now in
    let read = slice_get_read xs _ c.args.at.0 x refl (is_there xs c.args.at.0 c.requires.root.0) c.index_mut.ensures.value in
    let items : slice_set xs c.args.at.0 (with_held true x) ≡ slice_set xs c.args.at.0 c.hold_one.new.x = ap (slice_set xs c.args.at.0) (sym c.hold_one.ensures) in
    subst AreKept items (kept_held xs c.args.at.0 x true read p.spare p.epoch p.room p.failed p.bad p.met p.kept)

pub returns-clause-held : goal.returns-clause-held
returns-clause-held c =
    let p = c.args.self.now in
    let xs = p.nodes.items in
    let x = c.index_mut.result.now in
    let read = slice_get_read xs _ c.args.at.0 x refl (is_there xs c.args.at.0 c.requires.root.0) c.index_mut.ensures.value in
    let items : slice_set xs c.args.at.0 (with_held true x) ≡ slice_set xs c.args.at.0 c.hold_one.new.x = ap (slice_set xs c.args.at.0) (sym c.hold_one.ensures) in
    subst (λ (ys : List Node). HoldsRoot (forest_with xs p.spare p.epoch p.room p.failed p.bad p.met) (forest_with ys p.spare p.epoch p.room p.failed p.bad p.met) c.args.at.0 true) items (holds_root xs c.args.at.0 x true read p.spare p.epoch p.room p.failed p.bad p.met c.requires.sound c.requires.root.0 c.requires.root.1)

pub returns-clause-beside : goal.returns-clause-beside
returns-clause-beside c =
    let p = c.args.self.now in
    let xs = p.nodes.items in
    let x = c.index_mut.result.now in
    let read = slice_get_read xs _ c.args.at.0 x refl (is_there xs c.args.at.0 c.requires.root.0) c.index_mut.ensures.value in
    let items : slice_set xs c.args.at.0 (with_held true x) ≡ slice_set xs c.args.at.0 c.hold_one.new.x = ap (slice_set xs c.args.at.0) (sym c.hold_one.ensures) in
    subst (λ (ys : List Node). KeepsBeside (forest_with xs p.spare p.epoch p.room p.failed p.bad p.met) (forest_with ys p.spare p.epoch p.room p.failed p.bad p.met) (λ m. beside_of (slice_get xs m)) (λ m. beside_of (slice_get ys m))) items (beside_held xs c.args.at.0 x true read p.spare p.epoch p.room p.failed p.bad p.met)

pub returns-clause-blocks : goal.returns-clause-blocks
returns-clause-blocks c =
    let p = c.args.self.now in
    let xs = p.nodes.items in
    let x = c.index_mut.result.now in
    let read = slice_get_read xs _ c.args.at.0 x refl (is_there xs c.args.at.0 c.requires.root.0) c.index_mut.ensures.value in
    let items : slice_set xs c.args.at.0 (with_held true x) ≡ slice_set xs c.args.at.0 c.hold_one.new.x = ap (slice_set xs c.args.at.0) (sym c.hold_one.ensures) in
    ap (map block) (sym items) ∙ blocks_held xs c.args.at.0 x true read
