use Rattle.std.proofs.Common.{List, ap, arith, refl, sym, ◌∙◌, inl, inr}
use Rattle.std.proofs.lemmas.Option.{none-some}
use Rattle.h2_memory_sets.proofs.Nodes.{unchanged_nodes}
use Rattle.h2_memory_sets.specs.LaterLaws.{blocks_refl, spoils_still}
use Rattle.h2_memory_sets.specs.declared.naming.LongName.{LongName}
use Rattle.h2_memory_sets.specs.Names.{name_in}
use Rattle.h2_memory_sets.proofs.Counted.{counts_failed, counts_met}
use Rattle.h2_memory_sets.proofs.Going.{fails_now, fails_later, spoils_now, spoils_later, not_due}
use Rattle.h2_memory_sets.proofs.memory.MemorySets.load_name.Goals as goal

pub returns-then-is_due-clause-same : goal.returns-then-is_due-clause-same
returns-then-is_due-clause-same c =
    let p = c.args.self.now in
    unchanged_nodes p.nodes.items p.spare p.epoch p.room p.failed c.one_more-self.result p.bad p.bad p.met p.met c.one_more-self.ensures.more (omega arith) c.requires.sound

pub returns-in_default-clause-same : goal.returns-in_default-clause-same
returns-in_default-clause-same c =
    let p = c.args.self.now in
    unchanged_nodes p.nodes.items p.spare p.epoch p.room p.failed p.failed p.bad c.one_more-self-in_default.result p.met _ (omega arith) c.one_more-self-in_default.ensures.more c.requires.sound

pub returns-then-is_due-clause-later : goal.returns-then-is_due-clause-later
returns-then-is_due-clause-later c = record {
  names = λ place len. refl;
  blocks = blocks_refl _;
  fails = fails_now _ _ _ _ c.is_due.ensures.counts (c.is_due.ensures.due.0 c.if-is_due.true) c.one_more-self.ensures.exact;
  spoils = spoils_still _ _;
  refuses = omega arith;
}

pub returns-in_default-clause-later : goal.returns-in_default-clause-later
returns-in_default-clause-later c =
    let met = c.one_more-self-in_default.ensures in
    record {
      names = λ place len. refl;
      blocks = blocks_refl _;
      fails = fails_later _ _ _ c.is_due.ensures.counts (not_due _ _ c.is_due.ensures.due c.if-is_due.false);
      spoils = spoils_now _ _ _ _ c.find_unspoiled_name.ensures.counts met.more met.rose;
      refuses = omega arith;
    }

pub returns-in-Ok-clause-later : goal.returns-in-Ok-clause-later
returns-in-Ok-clause-later c = record {
  names = λ place len. refl;
  blocks = blocks_refl _;
  fails = fails_later _ _ _ c.is_due.ensures.counts (not_due _ _ c.is_due.ensures.due c.if-is_due.false);
  spoils = spoils_later _ _ _ c.find_unspoiled_name.ensures.counts c.in-Some.ensures.spoiled;
  refuses = omega arith;
}

pub returns-in-Err-clause-later : goal.returns-in-Err-clause-later
returns-in-Err-clause-later c = record {
  names = λ place len. refl;
  blocks = blocks_refl _;
  fails = fails_later _ _ _ c.is_due.ensures.counts (not_due _ _ c.is_due.ensures.due c.if-is_due.false);
  spoils = spoils_later _ _ _ c.find_unspoiled_name.ensures.counts c.in-Some.ensures.spoiled;
  refuses = omega arith;
}

-- What is counted

pub returns-then-is_due-clause-counted : goal.returns-then-is_due-clause-counted
returns-then-is_due-clause-counted c = counts_failed c.args.self.now _ c.is_due.ensures.counts (c.is_due.ensures.due.0 c.if-is_due.true) c.one_more-self.ensures.exact refl refl

pub returns-then-is_due-clause-fails : goal.returns-then-is_due-clause-fails
returns-then-is_due-clause-fails c = c.is_due.ensures.due.0 c.if-is_due.true

pub returns-then-is_due-clause-spoils : goal.returns-then-is_due-clause-spoils
returns-then-is_due-clause-spoils c = λ other due. absurd (other (c.is_due.ensures.due.0 c.if-is_due.true))

pub returns-then-is_due-clause-counts_bad : goal.returns-then-is_due-clause-counts_bad
returns-then-is_due-clause-counts_bad c = λ tells. absurd tells

pub returns-in_default-clause-counted : goal.returns-in_default-clause-counted
returns-in_default-clause-counted c = counts_met c.args.self.now _ c.is_due.ensures.counts (not_due _ _ c.is_due.ensures.due c.if-is_due.false) refl c.find_unspoiled_name.ensures.counts refl

pub returns-in_default-clause-fails : goal.returns-in_default-clause-fails
returns-in_default-clause-fails c = not_due _ _ c.is_due.ensures.due c.if-is_due.false

pub returns-in_default-clause-spoils : goal.returns-in_default-clause-spoils
returns-in_default-clause-spoils c = λ other due. tt

pub returns-in_default-clause-counts_bad : goal.returns-in_default-clause-counts_bad
returns-in_default-clause-counts_bad c = λ tells. c.one_more-self-in_default.ensures.exact

pub returns-in-Ok-clause-counted : goal.returns-in-Ok-clause-counted
returns-in-Ok-clause-counted c = counts_met c.args.self.now _ c.is_due.ensures.counts (not_due _ _ c.is_due.ensures.due c.if-is_due.false) refl c.find_unspoiled_name.ensures.counts refl

pub returns-in-Ok-clause-fails : goal.returns-in-Ok-clause-fails
returns-in-Ok-clause-fails c = not_due _ _ c.is_due.ensures.due c.if-is_due.false

pub returns-in-Ok-clause-spoils : goal.returns-in-Ok-clause-spoils
returns-in-Ok-clause-spoils c = λ other why. elim why as (λ _. ⊥) [
  | inl due ↦ c.in-Some.ensures.spoiled due
  | inr none ↦ none-some _ (sym none ∙ sym (ap (λ (l : List LongName). name_in l c.args.place c.args.len) c.deref.ensures.value) ∙ c.in-Some.ensures.found)
]

pub returns-in-Ok-clause-counts_bad : goal.returns-in-Ok-clause-counts_bad
returns-in-Ok-clause-counts_bad c = λ tells. absurd tells

pub returns-in-Err-clause-counted : goal.returns-in-Err-clause-counted
returns-in-Err-clause-counted c = counts_met c.args.self.now _ c.is_due.ensures.counts (not_due _ _ c.is_due.ensures.due c.if-is_due.false) refl c.find_unspoiled_name.ensures.counts refl

pub returns-in-Err-clause-fails : goal.returns-in-Err-clause-fails
returns-in-Err-clause-fails c = not_due _ _ c.is_due.ensures.due c.if-is_due.false

pub returns-in-Err-clause-spoils : goal.returns-in-Err-clause-spoils
returns-in-Err-clause-spoils c = λ other why. elim why as (λ _. ⊥) [
  | inl due ↦ c.in-Some.ensures.spoiled due
  | inr none ↦ none-some _ (sym none ∙ sym (ap (λ (l : List LongName). name_in l c.args.place c.args.len) c.deref.ensures.value) ∙ c.in-Some.ensures.found)
]

pub returns-in-Err-clause-counts_bad : goal.returns-in-Err-clause-counts_bad
returns-in-Err-clause-counts_bad c = λ tells. absurd tells
