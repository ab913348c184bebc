use Rattle.std.proofs.Common.{◌≡◌, ℕ, true, List, Some, None, slice_get, slice_set, refl, sym, ap, ◌∙◌, subst, arith, ◌⊎◌, inl, inr}
use Rattle.std.specs.List.{position}
use Rattle.std.proofs.lemmas.Option.{slice_get_read}
use Rattle.h2_ref.specs.declared.reference.Ref.{Ref}
use Rattle.h2_set.specs.StayLaws.{Walks-refl, Unchanged-walks}
use Rattle.h2_set.specs.Forest.{loaded}
use Rattle.h2_set.specs.Calls.{Loads}
use Rattle.h2_memory_sets.specs.declared.node.Node.{Node}
use Rattle.h2_memory_sets.specs.View.{IsLoadable, block, copies_of, forest_with, is_child, link_of}
use Rattle.h2_memory_sets.proofs.Nodes.{unchanged_nodes, is_there}
use Rattle.h2_memory_sets.proofs.Bringing.{ref_there, ref_same, loads_nothing, bad_place, not_loaded, not_told, is_loaded, loadable_in, loadable_within, loadable_away, brings}
use Rattle.h2_memory_sets.proofs.Brought.{kept_bring, beside_bring}
use Rattle.h2_memory_sets.proofs.Rooted.{rooted_bring, root_not, top_stands}
use Rattle.h2_memory_sets.proofs.Hinted.{only_child}
use Rattle.h2_memory_sets.specs.LaterLaws.{blocks_refl, fails_still, spoils_still}
use Rattle.h2_memory_sets.specs.Plans.{NoneFits}
use Rattle.h2_memory_sets.proofs.Nesting.{few_bits}
use Rattle.h2_memory_sets.proofs.Fits.{fits_there, there_loads}
use Rattle.h2_memory_sets.proofs.Counted.{leads_there, leads_nowhere, counts_failed, counts_met}
use Rattle.h2_memory_sets.proofs.Flagged.{blocks_set}
use Rattle.h2_memory_sets.proofs.Going.{keeps_brought, fails_now, fails_later, spoils_now, spoils_later, not_due}
use Rattle.h2_memory_sets.proofs.sets.MemorySetsSets.child.Goals as goal

pub find_child-requires : goal.find_child-requires
find_child-requires c =
    let p = c.args.self.now in
    record { one = subst (λ (ys : List Node). (i : ℕ) (x : Node) → slice_get ys i ≡ Some x → is_child c.args.at.0 c.at.result.now.key x ≡ true → position (is_child c.args.at.0 c.at.result.now.key) ys ≡ Some i) (sym c.deref.ensures.value) (only_child p.nodes.items p.spare p.epoch p.room p.failed p.bad p.met p.rooted c.requires.sound c.args.at.0 c.at.result.now.key) }

pub returns-in-Some-clause-walks : goal.returns-in-Some-clause-walks
returns-in-Some-clause-walks c = Walks-refl _ c.requires.sound

pub returns-in-Some-clause-ok : goal.returns-in-Some-clause-ok
returns-in-Some-clause-ok c = λ r read.
    let xs = c.args.self.now.nodes.items in
    let node = slice_get_read xs _ c.args.at.0 c.index.result.now refl (is_there _ _ c.requires.stands) c.index.ensures in
    let same = ref_same xs c.args.at.0 c.args.i c.index.result.now c.at.result.now node c.at.ensures r read in
    let found : position (is_child c.args.at.0 r.key) xs ≡ Some c.in-Some.c = subst (λ (q : Ref). position (is_child c.args.at.0 q.key) xs ≡ Some c.in-Some.c) same (ap (position (is_child c.args.at.0 c.at.result.now.key)) (sym c.deref.ensures.value) ∙ sym c.find_child.ensures ∙ c.in-Some.is) in
    is_loaded xs c.args.at.0 c.args.i c.in-Some.c r found read (c.requires.indirect.indirect r read)

pub returns-in-Some-clause-loads : goal.returns-in-Some-clause-loads
returns-in-Some-clause-loads c = λ r read. let p = c.args.self.now in loads_nothing p.nodes.items p.spare p.epoch p.room p.failed p.failed p.bad p.bad p.met p.met _ _

pub returns-then-is_due-clause-walks : goal.returns-then-is_due-clause-walks
returns-then-is_due-clause-walks c =
    let p = c.args.self.now in
    Unchanged-walks _ _ (unchanged_nodes p.nodes.items p.spare p.epoch p.room p.failed c.one_more-self.result p.bad p.bad p.met p.met c.one_more-self.ensures.more (omega arith) c.requires.sound)

pub returns-then-is_due-clause-loads : goal.returns-then-is_due-clause-loads
returns-then-is_due-clause-loads c = λ r read. let p = c.args.self.now in loads_nothing p.nodes.items p.spare p.epoch p.room p.failed c.one_more-self.result p.bad p.bad p.met p.met _ _

pub returns-then-is_due-clause-unloaded : goal.returns-then-is_due-clause-unloaded
returns-then-is_due-clause-unloaded c = λ r d read link.
    let xs = c.args.self.now.nodes.items in
    let node = slice_get_read xs _ c.args.at.0 c.index.result.now refl (is_there _ _ c.requires.stands) c.index.ensures in
    let same = ref_same xs c.args.at.0 c.args.i c.index.result.now c.at.result.now node c.at.ensures r read in
    let none = subst (λ (q : Ref). position (is_child c.args.at.0 q.key) xs ≡ None) same (ap (position (is_child c.args.at.0 c.at.result.now.key)) (sym c.deref.ensures.value) ∙ sym c.find_child.ensures ∙ c.in_default.is) in
    not_loaded xs c.args.at.0 r.key d none link

pub find_unspoiled-requires-clause-there : goal.find_unspoiled-requires-clause-there
find_unspoiled-requires-clause-there c = rw c.deref-2.ensures.value (is_there _ _ c.requires.stands)

pub find_unspoiled-requires-clause-root : goal.find_unspoiled-requires-clause-root
find_unspoiled-requires-clause-root c =
    let p = c.args.self.now in
    rw c.deref-2.ensures.value (is_there _ _ (top_stands _ (p.rooted c.args.at.0 c.requires.stands)))

pub returns-in_default-find_unspoiled-clause-walks : goal.returns-in_default-find_unspoiled-clause-walks
returns-in_default-find_unspoiled-clause-walks c =
    let p = c.args.self.now in
    Unchanged-walks _ _ (unchanged_nodes p.nodes.items p.spare p.epoch p.room p.failed p.failed p.bad c.one_more-self-in_default-find_unspoiled.result p.met _ (omega arith) c.one_more-self-in_default-find_unspoiled.ensures.more c.requires.sound)

pub returns-in_default-find_unspoiled-clause-loads : goal.returns-in_default-find_unspoiled-clause-loads
returns-in_default-find_unspoiled-clause-loads c = λ r read. let p = c.args.self.now in loads_nothing p.nodes.items p.spare p.epoch p.room p.failed p.failed p.bad c.one_more-self-in_default-find_unspoiled.result p.met _ _ _

pub returns-in_default-find_unspoiled-clause-unloaded : goal.returns-in_default-find_unspoiled-clause-unloaded
returns-in_default-find_unspoiled-clause-unloaded c = λ r d read link.
    let xs = c.args.self.now.nodes.items in
    let node = slice_get_read xs _ c.args.at.0 c.index.result.now refl (is_there _ _ c.requires.stands) c.index.ensures in
    let same = ref_same xs c.args.at.0 c.args.i c.index.result.now c.at.result.now node c.at.ensures r read in
    let none = subst (λ (q : Ref). position (is_child c.args.at.0 q.key) xs ≡ None) same (ap (position (is_child c.args.at.0 c.at.result.now.key)) (sym c.deref.ensures.value) ∙ sym c.find_child.ensures ∙ c.in_default.is) in
    not_loaded xs c.args.at.0 r.key d none link

pub index-x-requires : goal.index-x-requires
index-x-requires c = let lt = is_there c.args.self.now.nodes.items c.args.at.0 c.requires.stands in let len = c.args.self.now.nodes.ok.0 in omega (arith, lt, len)

pub index_mut-requires : goal.index_mut-requires
index_mut-requires c =
    let l = loadable_in _ c.args.self.now.nodes.items c.args.at.0 c.in-Some-find_unspoiled.c c.at.result.now c.deref-2.ensures.value c.in-Some-find_unspoiled.ensures.found in
    let lt = loadable_within _ _ _ _ l in
    let len = c.args.self.now.nodes.ok.0 in
    omega (arith, lt, len)

pub overflow_cast-result-2 : goal.overflow_cast-result-2
overflow_cast-result-2 c =
    let l = loadable_in _ c.args.self.now.nodes.items c.args.at.0 c.in-Some-find_unspoiled.c c.at.result.now c.deref-2.ensures.value c.in-Some-find_unspoiled.ensures.found in
    let lt = loadable_within _ _ _ _ l in
    let small = c.args.self.now.small in
    omega (arith, lt, small)

pub overflow_cast-c-2 : goal.overflow_cast-c-2
overflow_cast-c-2 c =
    let l = loadable_in _ c.args.self.now.nodes.items c.args.at.0 c.in-Some-find_unspoiled.c c.at.result.now c.deref-2.ensures.value c.in-Some-find_unspoiled.ensures.found in
    let lt = loadable_within _ _ _ _ l in
    let small = c.args.self.now.small in
    omega (arith, lt, small)

pub bring_in-requires : goal.bring_in-requires
bring_in-requires c =
    let xs = c.args.self.now.nodes.items in
    let at = c.args.at.0 in
    let x = c.index-x.result.now in
    let read = slice_get_read xs _ at x refl (is_there xs at c.requires.stands) c.index-x.ensures in
    let copies : copies_of (slice_get xs at) ≡ x.copies = ap copies_of read in
    let slope = (c.requires.sound.node at c.requires.stands).slope in
    omega (arith, slope, copies)

pub returns-clause-walks : goal.returns-clause-walks
returns-clause-walks c =
    let p = c.args.self.now in
    let xs = p.nodes.items in
    let at = c.args.at.0 in
    let k = c.in-Some-find_unspoiled.c in
    let q = c.at.result.now in
    let there = is_there xs at c.requires.stands in
    let node = slice_get_read xs _ at c.index.result.now refl there c.index.ensures in
    let node' = slice_get_read xs _ at c.index-x.result.now refl there c.index-x.ensures in
    let l = loadable_in _ xs at k q c.deref-2.ensures.value c.in-Some-find_unspoiled.ensures.found in
    let y = slice_get_read xs _ k c.index_mut.result.now refl (loadable_within xs at k q l) c.index_mut.ensures.value in
    let none = ap (position (is_child at q.key)) (sym c.deref.ensures.value) ∙ sym c.find_child.ensures ∙ c.in_default.is in
    let read' = ref_there xs at c.args.i c.index.result.now q node c.at.ensures in
    let b = brings xs p.spare p.epoch p.room p.failed p.bad p.met at c.args.i k q c.index-x.result.now c.index_mut.result.now c.bring_in.new.x c.requires.sound c.requires.stands l none (root_not xs at k p.rooted c.requires.stands (loadable_away xs at k q l)) read' (c.requires.indirect.indirect q read') node' y c.bring_in.ensures in
    b.walked

pub returns-clause-ok : goal.returns-clause-ok
returns-clause-ok c = λ r read.
    let p = c.args.self.now in
    let xs = p.nodes.items in
    let at = c.args.at.0 in
    let k = c.in-Some-find_unspoiled.c in
    let q = c.at.result.now in
    let there = is_there xs at c.requires.stands in
    let node = slice_get_read xs _ at c.index.result.now refl there c.index.ensures in
    let node' = slice_get_read xs _ at c.index-x.result.now refl there c.index-x.ensures in
    let l = loadable_in _ xs at k q c.deref-2.ensures.value c.in-Some-find_unspoiled.ensures.found in
    let y = slice_get_read xs _ k c.index_mut.result.now refl (loadable_within xs at k q l) c.index_mut.ensures.value in
    let none = ap (position (is_child at q.key)) (sym c.deref.ensures.value) ∙ sym c.find_child.ensures ∙ c.in_default.is in
    let read' = ref_there xs at c.args.i c.index.result.now q node c.at.ensures in
    let b = brings xs p.spare p.epoch p.room p.failed p.bad p.met at c.args.i k q c.index-x.result.now c.index_mut.result.now c.bring_in.new.x c.requires.sound c.requires.stands l none (root_not xs at k p.rooted c.requires.stands (loadable_away xs at k q l)) read' (c.requires.indirect.indirect q read') node' y c.bring_in.ensures in
    subst (λ (z : Ref). link_of (slice_set xs k c.bring_in.new.x) at z.key ≡ loaded k) (ref_same xs at c.args.i c.index.result.now q node c.at.ensures r read) b.link

pub returns-clause-loads : goal.returns-clause-loads
returns-clause-loads c = λ r read.
    let p = c.args.self.now in
    let xs = p.nodes.items in
    let at = c.args.at.0 in
    let k = c.in-Some-find_unspoiled.c in
    let q = c.at.result.now in
    let there = is_there xs at c.requires.stands in
    let node = slice_get_read xs _ at c.index.result.now refl there c.index.ensures in
    let node' = slice_get_read xs _ at c.index-x.result.now refl there c.index-x.ensures in
    let l = loadable_in _ xs at k q c.deref-2.ensures.value c.in-Some-find_unspoiled.ensures.found in
    let y = slice_get_read xs _ k c.index_mut.result.now refl (loadable_within xs at k q l) c.index_mut.ensures.value in
    let none = ap (position (is_child at q.key)) (sym c.deref.ensures.value) ∙ sym c.find_child.ensures ∙ c.in_default.is in
    let read' = ref_there xs at c.args.i c.index.result.now q node c.at.ensures in
    let b = brings xs p.spare p.epoch p.room p.failed p.bad p.met at c.args.i k q c.index-x.result.now c.index_mut.result.now c.bring_in.new.x c.requires.sound c.requires.stands l none (root_not xs at k p.rooted c.requires.stands (loadable_away xs at k q l)) read' (c.requires.indirect.indirect q read') node' y c.bring_in.ensures in
    subst (λ (z : Ref). Loads (forest_with xs p.spare p.epoch p.room p.failed p.bad p.met) (forest_with (slice_set xs k c.bring_in.new.x) p.spare p.epoch p.room p.failed p.bad p.met) at z.key) (ref_same xs at c.args.i c.index.result.now q node c.at.ensures r read) b.loaded_there

pub invariant_of-self-2-clause-rooted : goal.invariant_of-self-2-clause-rooted
invariant_of-self-2-clause-rooted c =
    let p = c.args.self.now in
    let xs = p.nodes.items in
    let at = c.args.at.0 in
    let k = c.in-Some-find_unspoiled.c in
    let q = c.at.result.now in
    let there = is_there xs at c.requires.stands in
    let node' = slice_get_read xs _ at c.index-x.result.now refl there c.index-x.ensures in
    let l = loadable_in _ xs at k q c.deref-2.ensures.value c.in-Some-find_unspoiled.ensures.found in
    let y = slice_get_read xs _ k c.index_mut.result.now refl (loadable_within xs at k q l) c.index_mut.ensures.value in
    rooted_bring xs at k q c.index-x.result.now c.index_mut.result.now c.bring_in.new.x p.rooted c.requires.stands l node' y c.bring_in.ensures

pub returns-then-is_due-clause-same : goal.returns-then-is_due-clause-same
returns-then-is_due-clause-same c =
    let p = c.args.self.now in
    unchanged_nodes p.nodes.items p.spare p.epoch p.room p.failed c.one_more-self.result p.bad p.bad p.met p.met c.one_more-self.ensures.more (omega arith) c.requires.sound

pub returns-in_default-find_unspoiled-clause-same : goal.returns-in_default-find_unspoiled-clause-same
returns-in_default-find_unspoiled-clause-same c =
    let p = c.args.self.now in
    unchanged_nodes p.nodes.items p.spare p.epoch p.room p.failed p.failed p.bad c.one_more-self-in_default-find_unspoiled.result p.met _ (omega arith) c.one_more-self-in_default-find_unspoiled.ensures.more c.requires.sound

pub returns-then-is_due-clause-good : goal.returns-then-is_due-clause-good
returns-then-is_due-clause-good c = λ r l read link bad. bad

pub returns-in_default-find_unspoiled-clause-good : goal.returns-in_default-find_unspoiled-clause-good
returns-in_default-find_unspoiled-clause-good c = λ r l read link bad. not_told c.args.self.now.nodes.items c.args.at.0 r.key l link

pub invariant_of-self-2-clause-kept : goal.invariant_of-self-2-clause-kept
invariant_of-self-2-clause-kept c =
    let p = c.args.self.now in
    let xs = p.nodes.items in
    let at = c.args.at.0 in
    let k = c.in-Some-find_unspoiled.c in
    let q = c.at.result.now in
    let there = is_there xs at c.requires.stands in
    let node' = slice_get_read xs _ at c.index-x.result.now refl there c.index-x.ensures in
    let l = loadable_in _ xs at k q c.deref-2.ensures.value c.in-Some-find_unspoiled.ensures.found in
    let y = slice_get_read xs _ k c.index_mut.result.now refl (loadable_within xs at k q l) c.index_mut.ensures.value in
    kept_bring xs at k q c.index-x.result.now c.index_mut.result.now c.bring_in.new.x p.kept l node' y c.bring_in.ensures

pub returns-clause-beside : goal.returns-clause-beside
returns-clause-beside c =
    let p = c.args.self.now in
    let xs = p.nodes.items in
    let at = c.args.at.0 in
    let k = c.in-Some-find_unspoiled.c in
    let q = c.at.result.now in
    let there = is_there xs at c.requires.stands in
    let node' = slice_get_read xs _ at c.index-x.result.now refl there c.index-x.ensures in
    let l = loadable_in _ xs at k q c.deref-2.ensures.value c.in-Some-find_unspoiled.ensures.found in
    let y = slice_get_read xs _ k c.index_mut.result.now refl (loadable_within xs at k q l) c.index_mut.ensures.value in
    record { same = λ m st now. beside_bring xs k _ _ _ c.index_mut.result.now c.bring_in.new.x y c.bring_in.ensures m }

pub returns-in_default-find_unspoiled-clause-place : goal.returns-in_default-find_unspoiled-clause-place
returns-in_default-find_unspoiled-clause-place c = λ r place why read e.
    let xs = c.args.self.now.nodes.items in
    let node = slice_get_read xs _ c.args.at.0 c.index.result.now refl (is_there _ _ c.requires.stands) c.index.ensures in
    let same = ref_same xs c.args.at.0 c.args.i c.index.result.now c.at.result.now node c.at.ensures r read in
    sym (bad_place _ place _ why e) ∙ ap (λ (q : Ref). q.place) same

pub returns-in-Some-clause-later : goal.returns-in-Some-clause-later
returns-in-Some-clause-later c = record { names = λ place len. refl; blocks = blocks_refl _; fails = fails_still _ _; spoils = spoils_still _ _; refuses = omega arith }

pub returns-then-is_due-clause-later : goal.returns-then-is_due-clause-later
returns-then-is_due-clause-later c = record {
  names = λ place len. refl;
  blocks = blocks_refl _;
  fails = fails_now _ _ _ _ c.is_due.ensures.counts (c.is_due.ensures.due.0 c.if-is_due.true) c.one_more-self.ensures.exact;
  spoils = spoils_still _ _;
  refuses = omega arith;
}

pub returns-in_default-find_unspoiled-clause-later : goal.returns-in_default-find_unspoiled-clause-later
returns-in_default-find_unspoiled-clause-later c =
    let met = c.one_more-self-in_default-find_unspoiled.ensures in
    record {
      names = λ place len. refl;
      blocks = blocks_refl _;
      fails = fails_later _ _ _ c.is_due.ensures.counts (not_due _ _ c.is_due.ensures.due c.if-is_due.false);
      spoils = spoils_now _ _ _ _ c.find_unspoiled.ensures.counts met.more met.rose;
      refuses = omega arith;
    }

pub returns-clause-later : goal.returns-clause-later
returns-clause-later c =
    let xs = c.args.self.now.nodes.items in
    let at = c.args.at.0 in
    let k = c.in-Some-find_unspoiled.c in
    let q = c.at.result.now in
    let l = loadable_in _ xs at k q c.deref-2.ensures.value c.in-Some-find_unspoiled.ensures.found in
    let y = slice_get_read xs _ k c.index_mut.result.now refl (loadable_within xs at k q l) c.index_mut.ensures.value in
    record {
      names = λ place len. refl;
      blocks = keeps_brought xs at k _ _ _ q c.index_mut.result.now c.bring_in.new.x l y c.bring_in.ensures;
      fails = fails_later _ _ _ c.is_due.ensures.counts (not_due _ _ c.is_due.ensures.due c.if-is_due.false);
      spoils = spoils_later _ _ _ c.find_unspoiled.ensures.counts c.in-Some-find_unspoiled.ensures.spoiled;
      refuses = omega arith;
    }

-- What is counted

pub returns-in-Some-clause-still : goal.returns-in-Some-clause-still
returns-in-Some-clause-still c = λ d lead. (refl, record { forest = refl; beside = refl; blocks = refl; names = λ place len. refl; plans = record { failing = refl; spoiled = refl; refused = refl } })

pub returns-in-Some-clause-counted : goal.returns-in-Some-clause-counted
returns-in-Some-clause-counted c = λ needs.
    let xs = c.args.self.now.nodes.items in
    let node = slice_get_read xs _ c.args.at.0 c.index.result.now refl (is_there _ _ c.requires.stands) c.index.ensures in
    let found : position (is_child c.args.at.0 c.at.result.now.key) xs ≡ Some c.in-Some.c = ap (position (is_child c.args.at.0 c.at.result.now.key)) (sym c.deref.ensures.value) ∙ sym c.find_child.ensures ∙ c.in-Some.is in
    absurd (needs c.in-Some.c (leads_there c.args.self.now c.args.at.0 c.args.i c.in-Some.c c.index.result.now c.at.result.now node c.at.ensures found c.requires.indirect))

pub returns-in-Some-clause-fails : goal.returns-in-Some-clause-fails
returns-in-Some-clause-fails c = λ needs.
    let xs = c.args.self.now.nodes.items in
    let node = slice_get_read xs _ c.args.at.0 c.index.result.now refl (is_there _ _ c.requires.stands) c.index.ensures in
    let found : position (is_child c.args.at.0 c.at.result.now.key) xs ≡ Some c.in-Some.c = ap (position (is_child c.args.at.0 c.at.result.now.key)) (sym c.deref.ensures.value) ∙ sym c.find_child.ensures ∙ c.in-Some.is in
    absurd (needs c.in-Some.c (leads_there c.args.self.now c.args.at.0 c.args.i c.in-Some.c c.index.result.now c.at.result.now node c.at.ensures found c.requires.indirect))

pub returns-in-Some-clause-spoils : goal.returns-in-Some-clause-spoils
returns-in-Some-clause-spoils c = λ needs other due.
    let xs = c.args.self.now.nodes.items in
    let node = slice_get_read xs _ c.args.at.0 c.index.result.now refl (is_there _ _ c.requires.stands) c.index.ensures in
    let found : position (is_child c.args.at.0 c.at.result.now.key) xs ≡ Some c.in-Some.c = ap (position (is_child c.args.at.0 c.at.result.now.key)) (sym c.deref.ensures.value) ∙ sym c.find_child.ensures ∙ c.in-Some.is in
    absurd (needs c.in-Some.c (leads_there c.args.self.now c.args.at.0 c.args.i c.in-Some.c c.index.result.now c.at.result.now node c.at.ensures found c.requires.indirect))

pub returns-in-Some-clause-counts_bad : goal.returns-in-Some-clause-counts_bad
returns-in-Some-clause-counts_bad c = λ tells. absurd tells

pub returns-then-is_due-clause-still : goal.returns-then-is_due-clause-still
returns-then-is_due-clause-still c = λ d lead.
    let xs = c.args.self.now.nodes.items in
    let node = slice_get_read xs _ c.args.at.0 c.index.result.now refl (is_there _ _ c.requires.stands) c.index.ensures in
    let none = ap (position (is_child c.args.at.0 c.at.result.now.key)) (sym c.deref.ensures.value) ∙ sym c.find_child.ensures ∙ c.in_default.is in
    absurd (leads_nowhere c.args.self.now c.args.at.0 c.args.i d c.index.result.now c.at.result.now node c.at.ensures none lead)

pub returns-then-is_due-clause-counted : goal.returns-then-is_due-clause-counted
returns-then-is_due-clause-counted c = λ needs. counts_failed c.args.self.now _ c.is_due.ensures.counts (c.is_due.ensures.due.0 c.if-is_due.true) c.one_more-self.ensures.exact refl refl

pub returns-then-is_due-clause-fails : goal.returns-then-is_due-clause-fails
returns-then-is_due-clause-fails c = λ needs. c.is_due.ensures.due.0 c.if-is_due.true

pub returns-then-is_due-clause-spoils : goal.returns-then-is_due-clause-spoils
returns-then-is_due-clause-spoils c = λ needs other due. absurd (other (c.is_due.ensures.due.0 c.if-is_due.true))

pub returns-then-is_due-clause-counts_bad : goal.returns-then-is_due-clause-counts_bad
returns-then-is_due-clause-counts_bad c = λ tells. absurd tells

pub returns-in_default-find_unspoiled-clause-still : goal.returns-in_default-find_unspoiled-clause-still
returns-in_default-find_unspoiled-clause-still c = λ d lead.
    let xs = c.args.self.now.nodes.items in
    let node = slice_get_read xs _ c.args.at.0 c.index.result.now refl (is_there _ _ c.requires.stands) c.index.ensures in
    let none = ap (position (is_child c.args.at.0 c.at.result.now.key)) (sym c.deref.ensures.value) ∙ sym c.find_child.ensures ∙ c.in_default.is in
    absurd (leads_nowhere c.args.self.now c.args.at.0 c.args.i d c.index.result.now c.at.result.now node c.at.ensures none lead)

pub returns-in_default-find_unspoiled-clause-counted : goal.returns-in_default-find_unspoiled-clause-counted
returns-in_default-find_unspoiled-clause-counted c = λ needs. counts_met c.args.self.now _ c.is_due.ensures.counts (not_due _ _ c.is_due.ensures.due c.if-is_due.false) refl c.find_unspoiled.ensures.counts refl

pub returns-in_default-find_unspoiled-clause-fails : goal.returns-in_default-find_unspoiled-clause-fails
returns-in_default-find_unspoiled-clause-fails c = λ needs. not_due _ _ c.is_due.ensures.due c.if-is_due.false

pub returns-in_default-find_unspoiled-clause-spoils : goal.returns-in_default-find_unspoiled-clause-spoils
returns-in_default-find_unspoiled-clause-spoils c = λ needs other due. tt

pub returns-in_default-find_unspoiled-clause-counts_bad : goal.returns-in_default-find_unspoiled-clause-counts_bad
returns-in_default-find_unspoiled-clause-counts_bad c = λ tells. c.one_more-self-in_default-find_unspoiled.ensures.exact

pub returns-clause-still : goal.returns-clause-still
returns-clause-still c = λ d lead.
    let xs = c.args.self.now.nodes.items in
    let node = slice_get_read xs _ c.args.at.0 c.index.result.now refl (is_there _ _ c.requires.stands) c.index.ensures in
    let none = ap (position (is_child c.args.at.0 c.at.result.now.key)) (sym c.deref.ensures.value) ∙ sym c.find_child.ensures ∙ c.in_default.is in
    absurd (leads_nowhere c.args.self.now c.args.at.0 c.args.i d c.index.result.now c.at.result.now node c.at.ensures none lead)

pub returns-clause-counted : goal.returns-clause-counted
returns-clause-counted c = λ needs. counts_met c.args.self.now _ c.is_due.ensures.counts (not_due _ _ c.is_due.ensures.due c.if-is_due.false) refl c.find_unspoiled.ensures.counts refl

pub returns-clause-fails : goal.returns-clause-fails
returns-clause-fails c = λ needs. not_due _ _ c.is_due.ensures.due c.if-is_due.false

pub returns-clause-spoils : goal.returns-clause-spoils
returns-clause-spoils c = λ needs other why.
    let xs = c.args.self.now.nodes.items in
    let at = c.args.at.0 in
    let k = c.in-Some-find_unspoiled.c in
    let q = c.at.result.now in
    let node = slice_get_read xs _ at c.index.result.now refl (is_there xs at c.requires.stands) c.index.ensures in
    let l = loadable_in _ xs at k q c.deref-2.ensures.value c.in-Some-find_unspoiled.ensures.found in
    elim why as (λ _. ⊥) [
      | inl due ↦ c.in-Some-find_unspoiled.ensures.spoiled due
      | inr none ↦ none q k (ref_there xs at c.args.i c.index.result.now q node c.at.ensures) (fits_there c.args.self.now at q k l)
    ]

pub returns-clause-bad : goal.returns-clause-bad
returns-clause-bad c = λ tells. absurd tells

pub returns-in-Some-clause-bad : goal.returns-in-Some-clause-bad
returns-in-Some-clause-bad c = λ tells. absurd tells

pub returns-then-is_due-clause-bad : goal.returns-then-is_due-clause-bad
returns-then-is_due-clause-bad c = λ tells. absurd tells

pub returns-in_default-find_unspoiled-clause-bad : goal.returns-in_default-find_unspoiled-clause-bad
returns-in_default-find_unspoiled-clause-bad c = λ tells.
    let p = c.args.self.now in
    let xs = p.nodes.items in
    let at = c.args.at.0 in
    let q = c.at.result.now in
    let node = slice_get_read xs _ at c.index.result.now refl (is_there xs at c.requires.stands) c.index.ensures in
    let there = ref_there xs at c.args.i c.index.result.now q node c.at.ensures in
    let fits = ((c.requires.sound.node at c.requires.stands).fits c.args.i q there).falls (c.requires.indirect.indirect q there) in
    let few = few_bits _ c.requires.sound at c.requires.stands in
    elim (c.in_default-find_unspoiled.ensures.none (omega (arith, fits, few))) as (λ _. (p.spoiled ≡ 1) ⊎ NoneFits p at c.args.i) [
      | inl due ↦ inl due
      | inr none ↦ inr (λ r k read t. none k (subst (λ (zs : List Node). IsLoadable zs at q k) (sym c.deref-2.ensures.value) (subst (λ (z : Ref). IsLoadable xs at z k) (sym (ref_same xs at c.args.i c.index.result.now q node c.at.ensures r read)) (there_loads p at r k c.requires.sound t))))
    ]

pub returns-clause-counts_bad : goal.returns-clause-counts_bad
returns-clause-counts_bad c = λ tells. absurd tells

pub returns-clause-blocks : goal.returns-clause-blocks
returns-clause-blocks c =
    let xs = c.args.self.now.nodes.items in
    let at = c.args.at.0 in
    let k = c.in-Some-find_unspoiled.c in
    let l = loadable_in _ xs at k c.at.result.now c.deref-2.ensures.value c.in-Some-find_unspoiled.ensures.found in
    let y = slice_get_read xs _ k c.index_mut.result.now refl (loadable_within xs at k c.at.result.now l) c.index_mut.ensures.value in
    blocks_set xs k c.index_mut.result.now c.bring_in.new.x y (ap block c.bring_in.ensures)
