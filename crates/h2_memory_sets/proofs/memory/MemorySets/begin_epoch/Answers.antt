use Rattle.std.proofs.Common.{◌+◌, List, false, map, refl, slice_get, sym, ap, ◌∙◌, subst}
use Rattle.h2_memory_sets.specs.declared.node.Node.{Node}
use Rattle.h2_memory_sets.specs.Kept.{AreKept}
use Rattle.h2_memory_sets.specs.Owners.{beside_of}
use Rattle.h2_memory_sets.specs.Roots.{BeginsEpoch}
use Rattle.h2_memory_sets.specs.View.{AllRooted, block, forest_with, cleaned_all, count_copied, place_of, recounted_all, with_copies, with_dirty}
use Rattle.h2_memory_sets.proofs.Altered.{begins, unchanged, written}
use Rattle.h2_memory_sets.proofs.Recounting.{rooted_still, kept_still}
use Rattle.h2_memory_sets.proofs.Unsought.{map_blocks}
use Rattle.h2_memory_sets.proofs.memory.MemorySets.begin_epoch.Goals as goal

pub returns-clause-begins : goal.returns-clause-begins
returns-clause-begins c =
    let p = c.args.self.now in
    let xs = p.nodes.items in
    let one = written cleaned_all xs c.deref_mut.result.now c.clean_all.new.nodes p.nodes.len (sym (c.clean_all.auto.nodes ∙ c.deref_mut.ensures.len)) c.deref_mut.ensures.value c.clean_all.ensures in
    let items = written recounted_all _ c.deref_mut-2.result.now c.recount_all.new.nodes p.nodes.len (sym (c.recount_all.auto.nodes ∙ c.deref_mut-2.ensures.len)) c.deref_mut-2.ensures.value c.recount_all.ensures ∙ ap recounted_all one in
    subst (λ (ys : List Node). BeginsEpoch (forest_with xs p.spare p.epoch p.room p.failed p.bad p.met) (forest_with ys p.spare (p.epoch + 1) p.room p.failed p.bad p.met)) (sym items) (begins xs p.spare p.epoch p.room p.failed p.bad p.met c.requires.sound c.requires.epoch)

pub invariant_of-self-clause-rooted : goal.invariant_of-self-clause-rooted
invariant_of-self-clause-rooted c =
    let p = c.args.self.now in
    let xs = p.nodes.items in
    let one = written cleaned_all xs c.deref_mut.result.now c.clean_all.new.nodes p.nodes.len (sym (c.clean_all.auto.nodes ∙ c.deref_mut.ensures.len)) c.deref_mut.ensures.value c.clean_all.ensures in
    let items = written recounted_all _ c.deref_mut-2.result.now c.recount_all.new.nodes p.nodes.len (sym (c.recount_all.auto.nodes ∙ c.deref_mut-2.ensures.len)) c.deref_mut-2.ensures.value c.recount_all.ensures ∙ ap recounted_all one in
    subst AllRooted (sym items) (rooted_still xs (λ u. false) p.spare p.epoch p.room p.failed p.bad p.met c.requires.sound p.rooted)

pub invariant_of-self-clause-kept : goal.invariant_of-self-clause-kept
invariant_of-self-clause-kept c =
    let p = c.args.self.now in
    let xs = p.nodes.items in
    let one = written cleaned_all xs c.deref_mut.result.now c.clean_all.new.nodes p.nodes.len (sym (c.clean_all.auto.nodes ∙ c.deref_mut.ensures.len)) c.deref_mut.ensures.value c.clean_all.ensures in
    let items = written recounted_all _ c.deref_mut-2.result.now c.recount_all.new.nodes p.nodes.len (sym (c.recount_all.auto.nodes ∙ c.deref_mut-2.ensures.len)) c.deref_mut-2.ensures.value c.recount_all.ensures ∙ ap recounted_all one in
    subst AreKept (sym items) (kept_still xs (λ u. false) p.spare p.epoch p.room p.failed p.bad p.met c.requires.sound p.kept)

pub returns-clause-beside : goal.returns-clause-beside
returns-clause-beside c =
    let p = c.args.self.now in
    let xs = p.nodes.items in
    let one = written cleaned_all xs c.deref_mut.result.now c.clean_all.new.nodes p.nodes.len (sym (c.clean_all.auto.nodes ∙ c.deref_mut.ensures.len)) c.deref_mut.ensures.value c.clean_all.ensures in
    let items = written recounted_all _ c.deref_mut-2.result.now c.recount_all.new.nodes p.nodes.len (sym (c.recount_all.auto.nodes ∙ c.deref_mut-2.ensures.len)) c.deref_mut-2.ensures.value c.recount_all.ensures ∙ ap recounted_all one in
    record { same = λ m st now. ap (λ (ys : List Node). beside_of (slice_get ys m)) items ∙ unchanged xs p.spare p.epoch p.room p.failed p.bad p.met c.requires.sound c.requires.epoch beside_of (λ b u. refl) (λ n u. refl) m }

pub returns-clause-blocks : goal.returns-clause-blocks
returns-clause-blocks c =
    let p = c.args.self.now in
    let xs = p.nodes.items in
    let one = written cleaned_all xs c.deref_mut.result.now c.clean_all.new.nodes p.nodes.len (sym (c.clean_all.auto.nodes ∙ c.deref_mut.ensures.len)) c.deref_mut.ensures.value c.clean_all.ensures in
    let items = written recounted_all _ c.deref_mut-2.result.now c.recount_all.new.nodes p.nodes.len (sym (c.recount_all.auto.nodes ∙ c.deref_mut-2.ensures.len)) c.deref_mut-2.ensures.value c.recount_all.ensures ∙ ap recounted_all one in
    ap (map block) items ∙ map_blocks (λ x. with_copies (count_copied (place_of x) (cleaned_all xs)) x) (λ x. refl) (cleaned_all xs) ∙ map_blocks (with_dirty false) (λ x. refl) xs
