use Rattle.std.proofs.Common.{◌≡◌, ◌<◌, ◌+◌, ◌*◌, ◌/◌, ◌%◌, ℕ, List, length, set, sym, ap, ◌∙◌, subst, arith}
use Rattle.std.proofs.Common.{length-set}
use Rattle.h2_codes.specs.declared.code.Code.{Code}
use Rattle.h2_codes.specs.declared.code.Code.TheVariants.{Free}
use Rattle.h2_codes.specs.Codes.{code_at, count_of, tally}
use Rattle.h2_codes.specs.Packed.{codes_in}
use Rattle.h2_codes.proofs.Counts.{count_of-set, count_le, tally_le, tally_le_count}
use Rattle.h2_codes.proofs.Lookup.{segment_length, code_lookup, codes_in-set, all_bytes-set}
use Rattle.h2_codes.proofs.segment.Segment.set.Goals as goal

pub overflow_add-self : goal.overflow_add-self
overflow_add-self c =
    let size = segment_length c.self.inside.codes c.self.invariant.0 in
    let kept : c.self.inside.free ≡ count_of Free (codes_in c.self.inside.codes) = c.self.invariant.2 in
    let most = count_le Free (codes_in c.self.inside.codes) in
    let one = tally_le Free c.args.code in
    let e : c.tally.result ≡ tally Free c.args.code = c.tally.ensures in
    omega (arith, size, most, one)

pub overflow_sub-self : goal.overflow_sub-self
overflow_sub-self c =
    let size = segment_length c.self.inside.codes c.self.invariant.0 in
    let len : length c.self.inside.codes ≡ 64 = c.self.invariant.0 in
    let in_segment : c.args.c < 256 = c.ranges.c.fits in
    let kept : c.self.inside.free ≡ count_of Free (codes_in c.self.inside.codes) = c.self.invariant.2 in
    let least = tally_le_count Free (codes_in c.self.inside.codes) c.args.c (omega (arith, size)) in
    let old : c.tally-2.result ≡ tally Free (code_at (codes_in c.self.inside.codes) c.args.c) = c.tally-2.ensures ∙ ap (tally Free) (c.code_in-old.ensures ∙ sym (code_lookup c.self.inside.codes c.args.c (omega arith))) in
    omega (arith, least)

pub invariant_of-self : goal.invariant_of-self
invariant_of-self c =
    let size = segment_length c.self.inside.codes c.self.invariant.0 in
    let len : length c.self.inside.codes ≡ 64 = c.self.invariant.0 in
    let in_segment : c.args.c < 256 = c.ranges.c.fits in
    let at : 4 * (c.args.c / 4) + c.args.c % 4 ≡ c.args.c = omega arith in
    let new : codes_in (set c.self.inside.codes (c.args.c / 4) c.with_code.result) ≡ set (codes_in c.self.inside.codes) c.args.c c.args.code =
    codes_in-set c.self.inside.codes (c.args.c / 4) (c.args.c % 4) c.with_code.result c.args.code (omega arith) (omega arith) c.with_code.ensures ∙ ap (λ (i : ℕ). set (codes_in c.self.inside.codes) i c.args.code) at in
    let counted : count_of Free (codes_in (set c.self.inside.codes (c.args.c / 4) c.with_code.result)) ≡ count_of Free (set (codes_in c.self.inside.codes) c.args.c c.args.code) = ap (count_of Free) new in
    let kept : c.self.inside.free ≡ count_of Free (codes_in c.self.inside.codes) = c.self.invariant.2 in
    let one : c.tally.result ≡ tally Free c.args.code = c.tally.ensures in
    let old : c.tally-2.result ≡ tally Free (code_at (codes_in c.self.inside.codes) c.args.c) = c.tally-2.ensures ∙ ap (tally Free) (c.code_in-old.ensures ∙ sym (code_lookup c.self.inside.codes c.args.c (omega arith))) in
    let change = count_of-set Free (codes_in c.self.inside.codes) c.args.c c.args.code (omega (arith, size)) in
    (length-set c.self.inside.codes (c.args.c / 4) c.with_code.result ∙ len, all_bytes-set c.self.inside.codes (c.args.c / 4) c.with_code.result c.self.invariant.1 c.with_code.type_inv, omega (arith, change, counted))

pub returns-clause-value : goal.returns-clause-value
returns-clause-value c =
    let len : length c.self.inside.codes ≡ 64 = c.self.invariant.0 in
    let in_segment : c.args.c < 256 = c.ranges.c.fits in
    let at : 4 * (c.args.c / 4) + c.args.c % 4 ≡ c.args.c = omega arith in
    codes_in-set c.self.inside.codes (c.args.c / 4) (c.args.c % 4) c.with_code.result c.args.code (omega arith) (omega arith) c.with_code.ensures
    ∙ ap (λ (i : ℕ). set (codes_in c.self.inside.codes) i c.args.code) at
    ∙ ap (λ (codes : List Code). set codes c.args.c c.args.code) c.self.view_is

pub returns-clause-free : goal.returns-clause-free
returns-clause-free c =
    let size = segment_length c.self.inside.codes c.self.invariant.0 in
    let len : length c.self.inside.codes ≡ 64 = c.self.invariant.0 in
    let in_segment : c.args.c < 256 = c.ranges.c.fits in
    let at : 4 * (c.args.c / 4) + c.args.c % 4 ≡ c.args.c = omega arith in
    let new : codes_in (set c.self.inside.codes (c.args.c / 4) c.with_code.result) ≡ set (codes_in c.self.inside.codes) c.args.c c.args.code =
    codes_in-set c.self.inside.codes (c.args.c / 4) (c.args.c % 4) c.with_code.result c.args.code (omega arith) (omega arith) c.with_code.ensures ∙ ap (λ (i : ℕ). set (codes_in c.self.inside.codes) i c.args.code) at in
    let counted : count_of Free (codes_in (set c.self.inside.codes (c.args.c / 4) c.with_code.result)) ≡ count_of Free (set (codes_in c.self.inside.codes) c.args.c c.args.code) = ap (count_of Free) new in
    let change = count_of-set Free (codes_in c.self.inside.codes) c.args.c c.args.code (omega (arith, size)) in
    let both : count_of Free (codes_in (set c.self.inside.codes (c.args.c / 4) c.with_code.result)) + tally Free (code_at (codes_in c.self.inside.codes) c.args.c) ≡ count_of Free (codes_in c.self.inside.codes) + tally Free c.args.code = omega (arith, counted, change) in
    subst (λ (codes : List Code). count_of Free (codes_in (set c.self.inside.codes (c.args.c / 4) c.with_code.result)) + tally Free (code_at codes c.args.c) ≡ count_of Free codes + tally Free c.args.code) c.self.view_is both

pub returns-clause-chunks : goal.returns-clause-chunks
returns-clause-chunks c = segment_length (set c.self.inside.codes (c.args.c / 4) c.with_code.result) (length-set c.self.inside.codes (c.args.c / 4) c.with_code.result ∙ c.self.invariant.0)
