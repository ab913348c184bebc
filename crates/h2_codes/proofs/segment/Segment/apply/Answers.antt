use Rattle.std.proofs.Common.{rules, ◌≡◌, ◌<◌, ◌≤◌, ◌+◌, ◌*◌, ℕ, Bool, List, length, take, sym, ap, ◌∙◌, subst, arith}
use Rattle.h2_codes.specs.declared.code.Code.{Code}
use Rattle.h2_codes.specs.declared.code.Code.TheVariants.{Free, Staged, Used}
use Rattle.h2_codes.specs.Codes.{code_at, count_of}
use Rattle.h2_codes.specs.Seen.{has_chunk}
use Rattle.h2_codes.specs.Bulkfree.{IsSwept, count_unseen, swept_code}
use Rattle.h2_codes.specs.Packed.{codes_in}
use Rattle.h2_codes.proofs.Counts.{count_of-swept, count_le, take-all}
use Rattle.h2_codes.proofs.Lookup.{segment_length}
use Rattle.h2_codes.proofs.Segments.{unseen_step, unseen_step_le, swept_below, swept_above, put_bytes}
use Rattle.h2_codes.proofs.segment.Segment.apply.Goals as goal

pub overflow_add-staged : goal.overflow_add-staged
overflow_add-staged c =
    let lt : c.loop-j.j < 8 = c.loop-j-test.true in
    let bound : c.loop-j.staged ≤ 32 * c.loop-j.j = c.loop-j.invariant.bounds.0 in
    let more = unseen_step_le Used c.get_word-word.result c.word-marks.result in
    let e = c.count_unseen-staged.ensures in
    omega (arith, more, e)

pub overflow_add-freed : goal.overflow_add-freed
overflow_add-freed c =
    let lt : c.loop-j.j < 8 = c.loop-j-test.true in
    let bound : c.loop-j.freed ≤ 32 * c.loop-j.j = c.loop-j.invariant.bounds.1 in
    let more = unseen_step_le Staged c.get_word-word.result c.word-marks.result in
    let e = c.count_unseen-freed.ensures in
    omega (arith, more, e)

pub loop-j-preserved : goal.loop-j-preserved
loop-j-preserved c =
    let old : List ℕ = c.self.inside.codes in
    let now : List ℕ = c.loop-j.self-inside.codes in
    let new : List ℕ = c.put_word.new.bytes in
    let flags : List Bool = c.args.seen.now in
    let more_staged = unseen_step_le Used c.get_word-word.result c.word-marks.result in
    let staged_is = c.count_unseen-staged.ensures in
    let more_freed = unseen_step_le Staged c.get_word-word.result c.word-marks.result in
    let freed_is = c.count_unseen-freed.ensures in
    let staged_bound : c.loop-j.staged ≤ 32 * c.loop-j.j = c.loop-j.invariant.bounds.0 in
    let freed_bound : c.loop-j.freed ≤ 32 * c.loop-j.j = c.loop-j.invariant.bounds.1 in
    record {
      size = c.put_word.array_long;
      bytes = put_bytes now new c.loop-j.j c.sweep.result c.loop-j.invariant.bytes c.put_word.ensures.inside c.put_word.ensures.below c.put_word.ensures.above;
      below = swept_below old now new flags c.loop-j.j c.get_word-word.result c.word-marks.result c.sweep.result c.loop-j.invariant.bytes c.loop-j.invariant.size c.put_word.array_long c.loop-j-test.true c.get_word-word.ensures c.loop-j.invariant.above c.loop-j.invariant.below c.word-marks.ensures.marks c.sweep.ensures c.put_word.ensures.inside c.put_word.ensures.below;
      above = swept_above old now new c.loop-j.j c.loop-j.invariant.size c.put_word.array_long c.loop-j.invariant.above c.put_word.ensures.above;
      staged = unseen_step old now flags Used c.loop-j.j c.get_word-word.result c.word-marks.result c.loop-j.staged c.count_unseen-staged.result c.self.invariant.0 c.loop-j.invariant.bytes c.loop-j.invariant.size c.loop-j-test.true c.get_word-word.ensures c.loop-j.invariant.above c.word-marks.ensures.marks staged_is c.loop-j.invariant.staged;
      freed = unseen_step old now flags Staged c.loop-j.j c.get_word-word.result c.word-marks.result c.loop-j.freed c.count_unseen-freed.result c.self.invariant.0 c.loop-j.invariant.bytes c.loop-j.invariant.size c.loop-j-test.true c.get_word-word.ensures c.loop-j.invariant.above c.word-marks.ensures.marks freed_is c.loop-j.invariant.freed;
      kept = c.loop-j.invariant.kept;
      bounds = (omega (arith, more_staged, staged_is), omega (arith, more_freed, freed_is));
    }

-- what the loop leaves, once all words are done
done_swept : (old new : List ℕ) (flags : List Bool) (j : ℕ) → length new ≡ 64 → 8 ≤ j → ((c : ℕ) → c < 32 * j → code_at (codes_in new) c ≡ swept_code (has_chunk flags c) (code_at (codes_in old) c)) → IsSwept flags (codes_in old) (codes_in new)
done_swept old new flags j len le below = record {
  length_is = segment_length new len;
  codes = λ c lt. below c (omega arith);
}

done_count : (old : List ℕ) (flags : List Bool) (code : Code) (j n : ℕ) → length old ≡ 64 → 8 ≤ j → n ≡ count_unseen code (take (32 * j) (codes_in old)) flags → n ≡ count_unseen code (codes_in old) flags
done_count old flags code j n len le e =
    let size = segment_length old len in
    e ∙ ap (λ (codes : List Code). count_unseen code codes flags) (take-all (codes_in old) (32 * j) (omega (arith, size)))

done_free : (old new : List ℕ) (flags : List Bool) (n : ℕ) → length old ≡ 64 → length new ≡ 64 → IsSwept flags (codes_in old) (codes_in new) → n ≡ count_unseen Staged (codes_in old) flags → count_of Free (codes_in new) ≡ count_of Free (codes_in old) + n
done_free old new flags n len new_len swept e =
    let size = segment_length old len in
    let new_size = segment_length new new_len in
    let freed = count_of-swept (codes_in old) (codes_in new) flags (new_size ∙ sym size) (λ c lt. swept.codes c (omega (arith, size))) in
    omega (arith, freed, e)

pub overflow_add-self : goal.overflow_add-self
overflow_add-self c =
    let le : 8 ≤ c.loop-j.j = search rules in
    let swept = done_swept c.self.inside.codes c.loop-j.self-inside.codes c.args.seen.now c.loop-j.j c.loop-j.invariant.size le c.loop-j.invariant.below in
    let freed = done_count c.self.inside.codes c.args.seen.now Staged c.loop-j.j c.loop-j.freed c.self.invariant.0 le c.loop-j.invariant.freed in
    let free = done_free c.self.inside.codes c.loop-j.self-inside.codes c.args.seen.now c.loop-j.freed c.self.invariant.0 c.loop-j.invariant.size swept freed in
    let most = count_le Free (codes_in c.loop-j.self-inside.codes) in
    let size = segment_length c.loop-j.self-inside.codes c.loop-j.invariant.size in
    let kept : c.loop-j.self-inside.free ≡ c.self.inside.free = c.loop-j.invariant.kept in
    let was : c.self.inside.free ≡ count_of Free (codes_in c.self.inside.codes) = c.self.invariant.2 in
    omega (arith, free, most, size)

pub invariant_of-self : goal.invariant_of-self
invariant_of-self c =
    let le : 8 ≤ c.loop-j.j = search rules in
    let swept = done_swept c.self.inside.codes c.loop-j.self-inside.codes c.args.seen.now c.loop-j.j c.loop-j.invariant.size le c.loop-j.invariant.below in
    let freed = done_count c.self.inside.codes c.args.seen.now Staged c.loop-j.j c.loop-j.freed c.self.invariant.0 le c.loop-j.invariant.freed in
    let free = done_free c.self.inside.codes c.loop-j.self-inside.codes c.args.seen.now c.loop-j.freed c.self.invariant.0 c.loop-j.invariant.size swept freed in
    let kept : c.loop-j.self-inside.free ≡ c.self.inside.free = c.loop-j.invariant.kept in
    let was : c.self.inside.free ≡ count_of Free (codes_in c.self.inside.codes) = c.self.invariant.2 in
    (c.loop-j.invariant.size, c.loop-j.invariant.bytes, omega (arith, free))

pub returns-clause-swept : goal.returns-clause-swept
returns-clause-swept c =
    let le : 8 ≤ c.loop-j.j = search rules in
    subst (λ (codes : List Code). IsSwept c.args.seen.now codes (codes_in c.loop-j.self-inside.codes)) c.self.view_is
    (done_swept c.self.inside.codes c.loop-j.self-inside.codes c.args.seen.now c.loop-j.j c.loop-j.invariant.size le c.loop-j.invariant.below)

pub returns-clause-staged : goal.returns-clause-staged
returns-clause-staged c =
    let le : 8 ≤ c.loop-j.j = search rules in
    subst (λ (codes : List Code). c.loop-j.staged ≡ count_unseen Used codes c.args.seen.now) c.self.view_is
    (done_count c.self.inside.codes c.args.seen.now Used c.loop-j.j c.loop-j.staged c.self.invariant.0 le c.loop-j.invariant.staged)

pub returns-clause-freed : goal.returns-clause-freed
returns-clause-freed c =
    let le : 8 ≤ c.loop-j.j = search rules in
    subst (λ (codes : List Code). c.loop-j.freed ≡ count_unseen Staged codes c.args.seen.now) c.self.view_is
    (done_count c.self.inside.codes c.args.seen.now Staged c.loop-j.j c.loop-j.freed c.self.invariant.0 le c.loop-j.invariant.freed)

pub returns-clause-free : goal.returns-clause-free
returns-clause-free c =
    let le : 8 ≤ c.loop-j.j = search rules in
    let swept = done_swept c.self.inside.codes c.loop-j.self-inside.codes c.args.seen.now c.loop-j.j c.loop-j.invariant.size le c.loop-j.invariant.below in
    let freed = done_count c.self.inside.codes c.args.seen.now Staged c.loop-j.j c.loop-j.freed c.self.invariant.0 le c.loop-j.invariant.freed in
    subst (λ (codes : List Code). count_of Free (codes_in c.loop-j.self-inside.codes) ≡ count_of Free codes + c.loop-j.freed) c.self.view_is
    (done_free c.self.inside.codes c.loop-j.self-inside.codes c.args.seen.now c.loop-j.freed c.self.invariant.0 c.loop-j.invariant.size swept freed)
