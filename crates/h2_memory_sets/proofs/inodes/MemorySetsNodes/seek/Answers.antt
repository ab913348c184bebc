use Rattle.std.proofs.Common.{◌≡◌, List, None, refl, sym, ap, arith, subst, ◌∙◌, ◌⊎◌, inl, inr}
use Rattle.std.specs.List.{position}
use Rattle.std.proofs.lemmas.Option.{slice_get_read, slice_get_within}
use Rattle.h2_memory_sets.specs.declared.node.Node.{Node}
use Rattle.h2_memory_sets.specs.Inodes.{is_sought, IsSought}
use Rattle.h2_memory_sets.proofs.Nodes.{unchanged_nodes}
use Rattle.h2_memory_sets.proofs.Sought.{Found, unloaded, loads_root, there_already, sought_is}
use Rattle.h2_memory_sets.specs.LaterLaws.{blocks_refl, fails_still, spoils_still}
use Rattle.h2_memory_sets.specs.View.{block}
use Rattle.h2_memory_sets.specs.Kept.{AreKept}
use Rattle.h2_memory_sets.specs.Plans.{NoneNamed}
use Rattle.h2_memory_sets.proofs.Fits.{fits_leaf, leaf_loads}
use Rattle.h2_memory_sets.proofs.Counted.{counts_failed, counts_met}
use Rattle.h2_memory_sets.proofs.Flagged.{blocks_set}
use Rattle.h2_memory_sets.proofs.Going.{keeps_sought, fails_now, fails_later, spoils_now, spoils_later, not_due}
use Rattle.h2_memory_sets.proofs.inodes.MemorySetsNodes.seek.Goals as goal

pub returns-in-Some-clause-ok : goal.returns-in-Some-clause-ok
returns-in-Some-clause-ok c =
    let p = c.args.self.now in
    let xs = p.nodes.items in
    let it = there_already xs p.spare p.epoch p.room p.failed p.bad p.met c.args.root.0 c.args.leaf.now p.rooted p.kept c.requires.sound c.requires.leaf c.in-Some.c (ap (position (is_sought c.args.root.0 c.args.leaf.now.key)) (sym c.deref.ensures.value) ∙ sym c.find_root.ensures ∙ c.in-Some.is) in
    it.seeks

pub returns-in-Some-clause-inode : goal.returns-in-Some-clause-inode
returns-in-Some-clause-inode c =
    let p = c.args.self.now in
    let xs = p.nodes.items in
    let it = there_already xs p.spare p.epoch p.room p.failed p.bad p.met c.args.root.0 c.args.leaf.now p.rooted p.kept c.requires.sound c.requires.leaf c.in-Some.c (ap (position (is_sought c.args.root.0 c.args.leaf.now.key)) (sym c.deref.ensures.value) ∙ sym c.find_root.ensures ∙ c.in-Some.is) in
    it.inode

pub returns-then-is_due-clause-same : goal.returns-then-is_due-clause-same
returns-then-is_due-clause-same c =
    let p = c.args.self.now in
    unchanged_nodes p.nodes.items p.spare p.epoch p.room p.failed c.one_more-self.result p.bad p.bad p.met p.met c.one_more-self.ensures.more (omega arith) c.requires.sound

pub returns-then-is_due-clause-unloaded : goal.returns-then-is_due-clause-unloaded
returns-then-is_due-clause-unloaded c =
    let p = c.args.self.now in
    unloaded p.nodes.items p.spare p.epoch p.room p.failed p.bad p.met c.args.root.0 c.args.leaf.now p.rooted p.kept c.requires.sound c.requires.leaf (ap (position (is_sought c.args.root.0 c.args.leaf.now.key)) (sym c.deref.ensures.value) ∙ sym c.find_root.ensures ∙ c.in_default.is)

pub returns-in_default-find_sought-clause-same : goal.returns-in_default-find_sought-clause-same
returns-in_default-find_sought-clause-same c =
    let p = c.args.self.now in
    unchanged_nodes p.nodes.items p.spare p.epoch p.room p.failed p.failed p.bad c.one_more-self-in_default-find_sought.result p.met _ (omega arith) c.one_more-self-in_default-find_sought.ensures.more c.requires.sound

pub returns-in_default-find_sought-clause-unloaded : goal.returns-in_default-find_sought-clause-unloaded
returns-in_default-find_sought-clause-unloaded c =
    let p = c.args.self.now in
    unloaded p.nodes.items p.spare p.epoch p.room p.failed p.bad p.met c.args.root.0 c.args.leaf.now p.rooted p.kept c.requires.sound c.requires.leaf (ap (position (is_sought c.args.root.0 c.args.leaf.now.key)) (sym c.deref.ensures.value) ∙ sym c.find_root.ensures ∙ c.in_default.is)

pub index_mut-requires : goal.index_mut-requires
index_mut-requires c =
    let xs = c.args.self.now.nodes.items in
    let l = subst (λ (zs : List Node). IsSought zs c.args.root.0 c.args.leaf.now.key c.in-Some-find_sought.c) c.deref-2.ensures.value c.in-Some-find_sought.ensures.found in
    let lt = slice_get_within xs c.in-Some-find_sought.c l.node l.read in
    let len = c.args.self.now.nodes.ok.0 in
    omega (arith, lt, len)

pub invariant_of-self-2-clause-rooted : goal.invariant_of-self-2-clause-rooted
invariant_of-self-2-clause-rooted c =
    let p = c.args.self.now in
    let xs = p.nodes.items in
    let k = c.in-Some-find_sought.c in
    let l = subst (λ (zs : List Node). IsSought zs c.args.root.0 c.args.leaf.now.key c.in-Some-find_sought.c) c.deref-2.ensures.value c.in-Some-find_sought.ensures.found in
    let none : position (is_sought c.args.root.0 c.args.leaf.now.key) xs ≡ None = ap (position (is_sought c.args.root.0 c.args.leaf.now.key)) (sym c.deref.ensures.value) ∙ sym c.find_root.ensures ∙ c.in_default.is in
    let y = slice_get_read xs _ k c.index_mut.result.now refl (slice_get_within xs k l.node l.read) c.index_mut.ensures.value in
    let items = sought_is xs c.args.root.0 c.args.leaf.now.key k l c.index_mut.result.now c.bring_root.new.x y c.bring_root.ensures in
    let it = subst (λ (zs : List Node). Found xs zs p.spare p.epoch p.room p.failed p.bad p.met c.args.root.0 c.args.leaf.now.key k) items (loads_root xs p.spare p.epoch p.room p.failed p.bad p.met c.args.root.0 c.args.leaf.now p.rooted p.kept c.requires.sound c.requires.leaf k l none) in
    it.rooted

pub invariant_of-self-2-clause-kept : goal.invariant_of-self-2-clause-kept
invariant_of-self-2-clause-kept c =
    let p = c.args.self.now in
    let xs = p.nodes.items in
    let k = c.in-Some-find_sought.c in
    let l = subst (λ (zs : List Node). IsSought zs c.args.root.0 c.args.leaf.now.key c.in-Some-find_sought.c) c.deref-2.ensures.value c.in-Some-find_sought.ensures.found in
    let none : position (is_sought c.args.root.0 c.args.leaf.now.key) xs ≡ None = ap (position (is_sought c.args.root.0 c.args.leaf.now.key)) (sym c.deref.ensures.value) ∙ sym c.find_root.ensures ∙ c.in_default.is in
    let y = slice_get_read xs _ k c.index_mut.result.now refl (slice_get_within xs k l.node l.read) c.index_mut.ensures.value in
    let items = sought_is xs c.args.root.0 c.args.leaf.now.key k l c.index_mut.result.now c.bring_root.new.x y c.bring_root.ensures in
    let it = subst (λ (zs : List Node). Found xs zs p.spare p.epoch p.room p.failed p.bad p.met c.args.root.0 c.args.leaf.now.key k) items (loads_root xs p.spare p.epoch p.room p.failed p.bad p.met c.args.root.0 c.args.leaf.now p.rooted p.kept c.requires.sound c.requires.leaf k l none) in
    it.kept

pub returns-clause-ok : goal.returns-clause-ok
returns-clause-ok c =
    let p = c.args.self.now in
    let xs = p.nodes.items in
    let k = c.in-Some-find_sought.c in
    let l = subst (λ (zs : List Node). IsSought zs c.args.root.0 c.args.leaf.now.key c.in-Some-find_sought.c) c.deref-2.ensures.value c.in-Some-find_sought.ensures.found in
    let none : position (is_sought c.args.root.0 c.args.leaf.now.key) xs ≡ None = ap (position (is_sought c.args.root.0 c.args.leaf.now.key)) (sym c.deref.ensures.value) ∙ sym c.find_root.ensures ∙ c.in_default.is in
    let y = slice_get_read xs _ k c.index_mut.result.now refl (slice_get_within xs k l.node l.read) c.index_mut.ensures.value in
    let items = sought_is xs c.args.root.0 c.args.leaf.now.key k l c.index_mut.result.now c.bring_root.new.x y c.bring_root.ensures in
    let it = subst (λ (zs : List Node). Found xs zs p.spare p.epoch p.room p.failed p.bad p.met c.args.root.0 c.args.leaf.now.key k) items (loads_root xs p.spare p.epoch p.room p.failed p.bad p.met c.args.root.0 c.args.leaf.now p.rooted p.kept c.requires.sound c.requires.leaf k l none) in
    it.seeks

pub returns-clause-inode : goal.returns-clause-inode
returns-clause-inode c =
    let p = c.args.self.now in
    let xs = p.nodes.items in
    let k = c.in-Some-find_sought.c in
    let l = subst (λ (zs : List Node). IsSought zs c.args.root.0 c.args.leaf.now.key c.in-Some-find_sought.c) c.deref-2.ensures.value c.in-Some-find_sought.ensures.found in
    let none : position (is_sought c.args.root.0 c.args.leaf.now.key) xs ≡ None = ap (position (is_sought c.args.root.0 c.args.leaf.now.key)) (sym c.deref.ensures.value) ∙ sym c.find_root.ensures ∙ c.in_default.is in
    let y = slice_get_read xs _ k c.index_mut.result.now refl (slice_get_within xs k l.node l.read) c.index_mut.ensures.value in
    let items = sought_is xs c.args.root.0 c.args.leaf.now.key k l c.index_mut.result.now c.bring_root.new.x y c.bring_root.ensures in
    let it = subst (λ (zs : List Node). Found xs zs p.spare p.epoch p.room p.failed p.bad p.met c.args.root.0 c.args.leaf.now.key k) items (loads_root xs p.spare p.epoch p.room p.failed p.bad p.met c.args.root.0 c.args.leaf.now p.rooted p.kept c.requires.sound c.requires.leaf k l none) in
    it.inode

pub returns-clause-spelled : goal.returns-clause-spelled
returns-clause-spelled c =
    let p = c.args.self.now in
    let xs = p.nodes.items in
    let k = c.in-Some-find_sought.c in
    let l = subst (λ (zs : List Node). IsSought zs c.args.root.0 c.args.leaf.now.key c.in-Some-find_sought.c) c.deref-2.ensures.value c.in-Some-find_sought.ensures.found in
    let none : position (is_sought c.args.root.0 c.args.leaf.now.key) xs ≡ None = ap (position (is_sought c.args.root.0 c.args.leaf.now.key)) (sym c.deref.ensures.value) ∙ sym c.find_root.ensures ∙ c.in_default.is in
    let y = slice_get_read xs _ k c.index_mut.result.now refl (slice_get_within xs k l.node l.read) c.index_mut.ensures.value in
    let items = sought_is xs c.args.root.0 c.args.leaf.now.key k l c.index_mut.result.now c.bring_root.new.x y c.bring_root.ensures in
    let it = subst (λ (zs : List Node). Found xs zs p.spare p.epoch p.room p.failed p.bad p.met c.args.root.0 c.args.leaf.now.key k) items (loads_root xs p.spare p.epoch p.room p.failed p.bad p.met c.args.root.0 c.args.leaf.now p.rooted p.kept c.requires.sound c.requires.leaf k l none) in
    it.spelled

pub returns-clause-beside : goal.returns-clause-beside
returns-clause-beside c =
    let p = c.args.self.now in
    let xs = p.nodes.items in
    let k = c.in-Some-find_sought.c in
    let l = subst (λ (zs : List Node). IsSought zs c.args.root.0 c.args.leaf.now.key c.in-Some-find_sought.c) c.deref-2.ensures.value c.in-Some-find_sought.ensures.found in
    let none : position (is_sought c.args.root.0 c.args.leaf.now.key) xs ≡ None = ap (position (is_sought c.args.root.0 c.args.leaf.now.key)) (sym c.deref.ensures.value) ∙ sym c.find_root.ensures ∙ c.in_default.is in
    let y = slice_get_read xs _ k c.index_mut.result.now refl (slice_get_within xs k l.node l.read) c.index_mut.ensures.value in
    let items = sought_is xs c.args.root.0 c.args.leaf.now.key k l c.index_mut.result.now c.bring_root.new.x y c.bring_root.ensures in
    let it = subst (λ (zs : List Node). Found xs zs p.spare p.epoch p.room p.failed p.bad p.met c.args.root.0 c.args.leaf.now.key k) items (loads_root xs p.spare p.epoch p.room p.failed p.bad p.met c.args.root.0 c.args.leaf.now p.rooted p.kept c.requires.sound c.requires.leaf k l none) in
    it.beside

pub returns-in-Some-clause-later : goal.returns-in-Some-clause-later
returns-in-Some-clause-later c = record { names = λ place len. refl; blocks = blocks_refl _; fails = fails_still _ _; spoils = spoils_still _ _; refuses = omega arith }

pub returns-then-is_due-clause-later : goal.returns-then-is_due-clause-later
returns-then-is_due-clause-later c = record {
  names = λ place len. refl;
  blocks = blocks_refl _;
  fails = fails_now _ _ _ _ c.is_due.ensures.counts (c.is_due.ensures.due.0 c.if-is_due.true) c.one_more-self.ensures.exact;
  spoils = spoils_still _ _;
  refuses = omega arith;
}

pub returns-in_default-find_sought-clause-later : goal.returns-in_default-find_sought-clause-later
returns-in_default-find_sought-clause-later c =
    let met = c.one_more-self-in_default-find_sought.ensures in
    record {
      names = λ place len. refl;
      blocks = blocks_refl _;
      fails = fails_later _ _ _ c.is_due.ensures.counts (not_due _ _ c.is_due.ensures.due c.if-is_due.false);
      spoils = spoils_now _ _ _ _ c.find_sought.ensures.counts met.more met.rose;
      refuses = omega arith;
    }

pub returns-clause-later : goal.returns-clause-later
returns-clause-later c =
    let xs = c.args.self.now.nodes.items in
    let k = c.in-Some-find_sought.c in
    let l = subst (λ (zs : List Node). IsSought zs c.args.root.0 c.args.leaf.now.key k) c.deref-2.ensures.value c.in-Some-find_sought.ensures.found in
    let y = slice_get_read xs _ k c.index_mut.result.now refl (slice_get_within xs k l.node l.read) c.index_mut.ensures.value in
    record {
      names = λ place len. refl;
      blocks = keeps_sought xs c.args.root.0 c.args.leaf.now.key k c.index_mut.result.now c.bring_root.new.x l y c.bring_root.ensures;
      fails = fails_later _ _ _ c.is_due.ensures.counts (not_due _ _ c.is_due.ensures.due c.if-is_due.false);
      spoils = spoils_later _ _ _ c.find_sought.ensures.counts c.in-Some-find_sought.ensures.spoiled;
      refuses = omega arith;
    }

-- What is counted

pub returns-in-Some-clause-still : goal.returns-in-Some-clause-still
returns-in-Some-clause-still c = λ d is. (refl, record { forest = refl; beside = refl; blocks = refl; names = λ place len. refl; plans = record { failing = refl; spoiled = refl; refused = refl } })

pub returns-in-Some-clause-counted : goal.returns-in-Some-clause-counted
returns-in-Some-clause-counted c = λ needs.
    let p = c.args.self.now in
    let it = there_already p.nodes.items p.spare p.epoch p.room p.failed p.bad p.met c.args.root.0 c.args.leaf.now p.rooted p.kept c.requires.sound c.requires.leaf c.in-Some.c (ap (position (is_sought c.args.root.0 c.args.leaf.now.key)) (sym c.deref.ensures.value) ∙ sym c.find_root.ensures ∙ c.in-Some.is) in
    absurd (needs c.in-Some.c it.seeks.named)

pub returns-in-Some-clause-fails : goal.returns-in-Some-clause-fails
returns-in-Some-clause-fails c = λ needs.
    let p = c.args.self.now in
    let it = there_already p.nodes.items p.spare p.epoch p.room p.failed p.bad p.met c.args.root.0 c.args.leaf.now p.rooted p.kept c.requires.sound c.requires.leaf c.in-Some.c (ap (position (is_sought c.args.root.0 c.args.leaf.now.key)) (sym c.deref.ensures.value) ∙ sym c.find_root.ensures ∙ c.in-Some.is) in
    absurd (needs c.in-Some.c it.seeks.named)

pub returns-in-Some-clause-spoils : goal.returns-in-Some-clause-spoils
returns-in-Some-clause-spoils c = λ needs other due.
    let p = c.args.self.now in
    let it = there_already p.nodes.items p.spare p.epoch p.room p.failed p.bad p.met c.args.root.0 c.args.leaf.now p.rooted p.kept c.requires.sound c.requires.leaf c.in-Some.c (ap (position (is_sought c.args.root.0 c.args.leaf.now.key)) (sym c.deref.ensures.value) ∙ sym c.find_root.ensures ∙ c.in-Some.is) in
    absurd (needs c.in-Some.c it.seeks.named)

pub returns-in-Some-clause-counts_bad : goal.returns-in-Some-clause-counts_bad
returns-in-Some-clause-counts_bad c = λ tells. absurd tells

pub returns-then-is_due-clause-still : goal.returns-then-is_due-clause-still
returns-then-is_due-clause-still c = λ d is.
    let p = c.args.self.now in
    absurd (unloaded p.nodes.items p.spare p.epoch p.room p.failed p.bad p.met c.args.root.0 c.args.leaf.now p.rooted p.kept c.requires.sound c.requires.leaf (ap (position (is_sought c.args.root.0 c.args.leaf.now.key)) (sym c.deref.ensures.value) ∙ sym c.find_root.ensures ∙ c.in_default.is) d is)

pub returns-then-is_due-clause-counted : goal.returns-then-is_due-clause-counted
returns-then-is_due-clause-counted c = λ needs. counts_failed c.args.self.now _ c.is_due.ensures.counts (c.is_due.ensures.due.0 c.if-is_due.true) c.one_more-self.ensures.exact refl refl

pub returns-then-is_due-clause-fails : goal.returns-then-is_due-clause-fails
returns-then-is_due-clause-fails c = λ needs. c.is_due.ensures.due.0 c.if-is_due.true

pub returns-then-is_due-clause-spoils : goal.returns-then-is_due-clause-spoils
returns-then-is_due-clause-spoils c = λ needs other due. absurd (other (c.is_due.ensures.due.0 c.if-is_due.true))

pub returns-then-is_due-clause-counts_bad : goal.returns-then-is_due-clause-counts_bad
returns-then-is_due-clause-counts_bad c = λ tells. absurd tells

pub returns-in_default-find_sought-clause-still : goal.returns-in_default-find_sought-clause-still
returns-in_default-find_sought-clause-still c = λ d is.
    let p = c.args.self.now in
    absurd (unloaded p.nodes.items p.spare p.epoch p.room p.failed p.bad p.met c.args.root.0 c.args.leaf.now p.rooted p.kept c.requires.sound c.requires.leaf (ap (position (is_sought c.args.root.0 c.args.leaf.now.key)) (sym c.deref.ensures.value) ∙ sym c.find_root.ensures ∙ c.in_default.is) d is)

pub returns-in_default-find_sought-clause-counted : goal.returns-in_default-find_sought-clause-counted
returns-in_default-find_sought-clause-counted c = λ needs. counts_met c.args.self.now _ c.is_due.ensures.counts (not_due _ _ c.is_due.ensures.due c.if-is_due.false) refl c.find_sought.ensures.counts refl

pub returns-in_default-find_sought-clause-fails : goal.returns-in_default-find_sought-clause-fails
returns-in_default-find_sought-clause-fails c = λ needs. not_due _ _ c.is_due.ensures.due c.if-is_due.false

pub returns-in_default-find_sought-clause-spoils : goal.returns-in_default-find_sought-clause-spoils
returns-in_default-find_sought-clause-spoils c = λ needs other due. tt

pub returns-in_default-find_sought-clause-counts_bad : goal.returns-in_default-find_sought-clause-counts_bad
returns-in_default-find_sought-clause-counts_bad c = λ tells. c.one_more-self-in_default-find_sought.ensures.exact

pub returns-clause-still : goal.returns-clause-still
returns-clause-still c = λ d is.
    let p = c.args.self.now in
    absurd (unloaded p.nodes.items p.spare p.epoch p.room p.failed p.bad p.met c.args.root.0 c.args.leaf.now p.rooted p.kept c.requires.sound c.requires.leaf (ap (position (is_sought c.args.root.0 c.args.leaf.now.key)) (sym c.deref.ensures.value) ∙ sym c.find_root.ensures ∙ c.in_default.is) d is)

pub returns-clause-counted : goal.returns-clause-counted
returns-clause-counted c = λ needs. counts_met c.args.self.now _ c.is_due.ensures.counts (not_due _ _ c.is_due.ensures.due c.if-is_due.false) refl c.find_sought.ensures.counts refl

pub returns-clause-fails : goal.returns-clause-fails
returns-clause-fails c = λ needs. not_due _ _ c.is_due.ensures.due c.if-is_due.false

pub returns-clause-spoils : goal.returns-clause-spoils
returns-clause-spoils c = λ needs other why.
    let l = subst (λ (zs : List Node). IsSought zs c.args.root.0 c.args.leaf.now.key c.in-Some-find_sought.c) c.deref-2.ensures.value c.in-Some-find_sought.ensures.found in
    elim why as (λ _. ⊥) [
      | inl due ↦ c.in-Some-find_sought.ensures.spoiled due
      | inr none ↦ none c.in-Some-find_sought.c (fits_leaf c.args.self.now c.args.root.0 c.args.leaf.now.key c.in-Some-find_sought.c l)
    ]

pub returns-clause-bad : goal.returns-clause-bad
returns-clause-bad c = λ tells. absurd tells

pub returns-in-Some-clause-bad : goal.returns-in-Some-clause-bad
returns-in-Some-clause-bad c = λ tells. absurd tells

pub returns-then-is_due-clause-bad : goal.returns-then-is_due-clause-bad
returns-then-is_due-clause-bad c = λ tells. absurd tells

pub returns-in_default-find_sought-clause-bad : goal.returns-in_default-find_sought-clause-bad
returns-in_default-find_sought-clause-bad c = λ tells.
    let p = c.args.self.now in
    elim (c.in_default-find_sought.ensures.none (subst AreKept (sym c.deref-2.ensures.value) p.kept)) as (λ _. (p.spoiled ≡ 1) ⊎ NoneNamed p c.args.root.0 c.args.leaf.now.key) [
      | inl due ↦ inl due
      | inr none ↦ inr (λ k t. none k (subst (λ (zs : List Node). IsSought zs c.args.root.0 c.args.leaf.now.key k) (sym c.deref-2.ensures.value) (leaf_loads p c.args.root.0 c.args.leaf.now.key k c.requires.sound t)))
    ]

pub returns-clause-counts_bad : goal.returns-clause-counts_bad
returns-clause-counts_bad c = λ tells. absurd tells

pub returns-clause-blocks : goal.returns-clause-blocks
returns-clause-blocks c =
    let xs = c.args.self.now.nodes.items in
    let k = c.in-Some-find_sought.c in
    let l = subst (λ (zs : List Node). IsSought zs c.args.root.0 c.args.leaf.now.key k) c.deref-2.ensures.value c.in-Some-find_sought.ensures.found in
    let y = slice_get_read xs _ k c.index_mut.result.now refl (slice_get_within xs k l.node l.read) c.index_mut.ensures.value in
    blocks_set xs k c.index_mut.result.now c.bring_root.new.x y (ap block c.bring_root.ensures)
