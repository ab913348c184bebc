use Rattle.std.proofs.Common.{◌≡◌, ◌-◌, true, Some, List, refl, sym, ap, ◌∙◌, subst, arith, slice_get, map, ◌||◌}
use Rattle.std.proofs.lemmas.Option.{slice_get_read}
use Rattle.h2_set.specs.Calls.{Alters}
use Rattle.h2_memory_sets.specs.declared.node.Node.{Node}
use Rattle.h2_memory_sets.specs.declared.node.Place.{Place}
use Rattle.h2_memory_sets.specs.View.{AllRooted, block, forest_with, copies_of, count_copied, with_copies, with_dirty, is_above, is_over, place_of, marked_all, recounted_all}
use Rattle.h2_memory_sets.proofs.Altered.{alters, written}
use Rattle.h2_memory_sets.proofs.Nodes.{is_there}
use Rattle.h2_memory_sets.proofs.Recounting.{rooted_still, kept_still, field}
use Rattle.h2_memory_sets.proofs.Owned.{are_lower}
use Rattle.h2_memory_sets.specs.Kept.{AreKept}
use Rattle.h2_memory_sets.specs.Owners.{beside_of}
use Rattle.h2_set.specs.Calls.{KeepsBeside}
use Rattle.h2_memory_sets.proofs.Unaltered.{unaltered}
use Rattle.h2_memory_sets.specs.Inodes.{is_settled_top}
use Rattle.h2_memory_sets.proofs.Parting.{item_at}
use Rattle.h2_memory_sets.specs.LaterLaws.{fails_still, spoils_still, goes_on_refl}
use Rattle.h2_memory_sets.specs.Later.{KeepsBlocks}
use Rattle.h2_memory_sets.proofs.Going.{keeps_altered}
use Rattle.h2_memory_sets.proofs.Unsought.{map_blocks}
use Rattle.h2_memory_sets.proofs.sets.MemorySetsSets.alter.Goals as goal

pub is_settled-requires : goal.is_settled-requires
is_settled-requires c = rw c.deref.ensures.value (is_there c.args.self.now.nodes.items c.args.at.0 c.requires.stands)

pub returns-then-is_settled-clause-alters : goal.returns-then-is_settled-clause-alters
returns-then-is_settled-clause-alters c =
    let p = c.args.self.now in
    let xs = p.nodes.items in
    let it = item_at xs c.args.at.0 (is_there xs c.args.at.0 c.requires.stands) in
    let read = subst (λ (ys : List Node). slice_get ys c.args.at.0 ≡ Some it.0) (sym c.deref.ensures.value) it.1 in
    let x = it.0 in
    unaltered xs p.spare p.epoch p.room p.failed p.bad p.met c.requires.sound c.args.at.0 it.0 it.1 (are_lower xs p.kept) c.requires.stands (c.is_settled.ensures.none c.if-is_settled.true it.0 read) (subst (λ (ys : List Node). is_settled_top (slice_get ys x.root) ≡ true) c.deref.ensures.value (c.is_settled.ensures.top c.if-is_settled.true it.0 read))

pub returns-clause-alters : goal.returns-clause-alters
returns-clause-alters c =
    let p = c.args.self.now in
    let xs = p.nodes.items in
    let x = c.index-x.result.now in
    let read = slice_get_read xs _ c.args.at.0 x refl (is_there xs c.args.at.0 c.requires.stands) c.index-x.ensures in
    let one = written (marked_all c.place_of-place.result) xs c.deref_mut.result.now c.mark_all.new.nodes p.nodes.len (sym (c.mark_all.auto.nodes ∙ c.deref_mut.ensures.len)) c.deref_mut.ensures.value c.mark_all.ensures in
    let items = written recounted_all _ c.deref_mut-2.result.now c.recount_all.new.nodes p.nodes.len (sym (c.recount_all.auto.nodes ∙ c.deref_mut-2.ensures.len)) c.deref_mut-2.ensures.value c.recount_all.ensures ∙ ap recounted_all (one ∙ ap (λ (at : Place). marked_all at xs) c.place_of-place.ensures) in
    let copies : copies_of (slice_get xs c.args.at.0) ≡ x.copies = ap copies_of read in
    let enough = c.requires.room in
    subst (λ (ys : List Node). Alters (forest_with xs p.spare p.epoch p.room p.failed p.bad p.met) (forest_with ys p.spare p.epoch (p.room - x.copies) p.failed p.bad p.met) c.args.at.0) (sym items) (alters xs c.args.at.0 x read p.spare p.epoch p.room (p.room - x.copies) p.failed p.bad p.met (are_lower xs p.kept) c.requires.sound c.requires.stands (omega (arith, copies, enough)))

pub invariant_of-self-clause-rooted : goal.invariant_of-self-clause-rooted
invariant_of-self-clause-rooted c =
    let p = c.args.self.now in
    let xs = p.nodes.items in
    let x = c.index-x.result.now in
    let read = slice_get_read xs _ c.args.at.0 x refl (is_there xs c.args.at.0 c.requires.stands) c.index-x.ensures in
    let one = written (marked_all c.place_of-place.result) xs c.deref_mut.result.now c.mark_all.new.nodes p.nodes.len (sym (c.mark_all.auto.nodes ∙ c.deref_mut.ensures.len)) c.deref_mut.ensures.value c.mark_all.ensures in
    let items = written recounted_all _ c.deref_mut-2.result.now c.recount_all.new.nodes p.nodes.len (sym (c.recount_all.auto.nodes ∙ c.deref_mut-2.ensures.len)) c.deref_mut-2.ensures.value c.recount_all.ensures ∙ ap recounted_all (one ∙ ap (λ (at : Place). marked_all at xs) c.place_of-place.ensures) in
    subst AllRooted (sym items) (rooted_still xs (λ u. u.dirty || (is_above (place_of x) u || is_over xs x.root u)) p.spare p.epoch p.room p.failed p.bad p.met c.requires.sound p.rooted)

pub invariant_of-self-clause-kept : goal.invariant_of-self-clause-kept
invariant_of-self-clause-kept c =
    let p = c.args.self.now in
    let xs = p.nodes.items in
    let x = c.index-x.result.now in
    let read = slice_get_read xs _ c.args.at.0 x refl (is_there xs c.args.at.0 c.requires.stands) c.index-x.ensures in
    let one = written (marked_all c.place_of-place.result) xs c.deref_mut.result.now c.mark_all.new.nodes p.nodes.len (sym (c.mark_all.auto.nodes ∙ c.deref_mut.ensures.len)) c.deref_mut.ensures.value c.mark_all.ensures in
    let items = written recounted_all _ c.deref_mut-2.result.now c.recount_all.new.nodes p.nodes.len (sym (c.recount_all.auto.nodes ∙ c.deref_mut-2.ensures.len)) c.deref_mut-2.ensures.value c.recount_all.ensures ∙ ap recounted_all (one ∙ ap (λ (at : Place). marked_all at xs) c.place_of-place.ensures) in
    subst AreKept (sym items) (kept_still xs (λ u. u.dirty || (is_above (place_of x) u || is_over xs x.root u)) p.spare p.epoch p.room p.failed p.bad p.met c.requires.sound p.kept)

pub returns-clause-beside : goal.returns-clause-beside
returns-clause-beside c =
    let p = c.args.self.now in
    let xs = p.nodes.items in
    let x = c.index-x.result.now in
    let read = slice_get_read xs _ c.args.at.0 x refl (is_there xs c.args.at.0 c.requires.stands) c.index-x.ensures in
    let one = written (marked_all c.place_of-place.result) xs c.deref_mut.result.now c.mark_all.new.nodes p.nodes.len (sym (c.mark_all.auto.nodes ∙ c.deref_mut.ensures.len)) c.deref_mut.ensures.value c.mark_all.ensures in
    let items = written recounted_all _ c.deref_mut-2.result.now c.recount_all.new.nodes p.nodes.len (sym (c.recount_all.auto.nodes ∙ c.deref_mut-2.ensures.len)) c.deref_mut-2.ensures.value c.recount_all.ensures ∙ ap recounted_all (one ∙ ap (λ (at : Place). marked_all at xs) c.place_of-place.ensures) in
    let new = (λ (u : Node). u.dirty || (is_above (place_of x) u || is_over xs x.root u)) in
    subst (λ (ys : List Node). KeepsBeside (forest_with xs p.spare p.epoch p.room p.failed p.bad p.met) (forest_with ys p.spare p.epoch (p.room - x.copies) p.failed p.bad p.met) (λ m. beside_of (slice_get xs m)) (λ m. beside_of (slice_get ys m))) (sym items) (record { same = λ m st now. field xs new p.spare p.epoch p.room p.failed p.bad p.met c.requires.sound beside_of (λ b u. refl) (λ n u. refl) m })

pub returns-clause-later : goal.returns-clause-later
returns-clause-later c =
    let p = c.args.self.now in
    let xs = p.nodes.items in
    let one = written (marked_all c.place_of-place.result) xs c.deref_mut.result.now c.mark_all.new.nodes p.nodes.len (sym (c.mark_all.auto.nodes ∙ c.deref_mut.ensures.len)) c.deref_mut.ensures.value c.mark_all.ensures in
    let items = written recounted_all _ c.deref_mut-2.result.now c.recount_all.new.nodes p.nodes.len (sym (c.recount_all.auto.nodes ∙ c.deref_mut-2.ensures.len)) c.deref_mut-2.ensures.value c.recount_all.ensures ∙ ap recounted_all one in
    record {
      names = λ place len. refl;
      blocks = subst (KeepsBlocks xs) (sym items) (keeps_altered c.place_of-place.result xs);
      fails = fails_still _ _;
      spoils = spoils_still _ _;
      refuses = omega arith;
    }

pub returns-then-is_settled-clause-later : goal.returns-then-is_settled-clause-later
returns-then-is_settled-clause-later c = goes_on_refl _

pub returns-clause-blocks : goal.returns-clause-blocks
returns-clause-blocks c =
    let p = c.args.self.now in
    let xs = p.nodes.items in
    let at = c.place_of-place.result in
    let one = written (marked_all at) xs c.deref_mut.result.now c.mark_all.new.nodes p.nodes.len (sym (c.mark_all.auto.nodes ∙ c.deref_mut.ensures.len)) c.deref_mut.ensures.value c.mark_all.ensures in
    let items = written recounted_all _ c.deref_mut-2.result.now c.recount_all.new.nodes p.nodes.len (sym (c.recount_all.auto.nodes ∙ c.deref_mut-2.ensures.len)) c.deref_mut-2.ensures.value c.recount_all.ensures ∙ ap recounted_all one in
    ap (map block) items ∙ map_blocks (λ x. with_copies (count_copied (place_of x) (marked_all at xs)) x) (λ x. refl) (marked_all at xs) ∙ map_blocks (λ x. with_dirty (x.dirty || (is_above at x || is_over xs at.root x)) x) (λ x. refl) xs
