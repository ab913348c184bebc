use Rattle.std.proofs.Common.{◌≤◌, ◌+◌, ◌*◌, ◌-◌, ◌/◌, ℕ, List, subst, arith}
use Rattle.h2_codes.specs.declared.code.Code.{Code}
use Rattle.h2_codes.specs.Codes.{IsSegment, IsNextFree}
use Rattle.h2_codes.specs.Packed.{NoneFreeIn, IsFirstFree}
use Rattle.h2_codes.proofs.Lookup.{segment_length}
use Rattle.h2_codes.proofs.Segments.{found, passed}
use Rattle.h2_codes.proofs.segment.Segment.next_free.Goals as goal

pub returns-in-Some-clause-least : goal.returns-in-Some-clause-least
returns-in-Some-clause-least c =
    let first : IsFirstFree c.saturating_sub-skipped.result c.get_word.result c.in-Some.k = c.in-Some.ensures in
    let here : IsFirstFree (c.args.from - 32 * c.loop-j.j) c.get_word.result c.in-Some.k = subst (λ (n : ℕ). IsFirstFree n c.get_word.result c.in-Some.k) c.saturating_sub-skipped.ensures first in
    subst (λ (codes : List Code). IsNextFree c.args.from codes (32 * c.loop-j.j + c.in-Some.k)) c.self.view_is
    (found c.self.inside.codes c.args.from c.loop-j.j c.in-Some.k c.get_word.result c.self.invariant.1 c.self.invariant.0 c.loop-j-test.true c.get_word.ensures c.loop-j.invariant.none here)

pub loop-j-preserved : goal.loop-j-preserved
loop-j-preserved c =
    let none : NoneFreeIn c.saturating_sub-skipped.result 32 c.get_word.result = c.in_default.ensures in
    let here : NoneFreeIn (c.args.from - 32 * c.loop-j.j) 32 c.get_word.result = subst (λ (n : ℕ). NoneFreeIn n 32 c.get_word.result) c.saturating_sub-skipped.ensures none in
    let start : c.args.from / 32 ≤ c.loop-j.j = c.loop-j.invariant.start in
    record {
      none = passed c.self.inside.codes c.args.from c.loop-j.j c.get_word.result c.self.invariant.1 c.self.invariant.0 c.loop-j-test.true c.get_word.ensures c.loop-j.invariant.none here;
      start = omega arith;
    }

pub returns-in-Some-clause-chunks : goal.returns-in-Some-clause-chunks
returns-in-Some-clause-chunks c = subst (λ (codes : List Code). IsSegment codes) c.self.view_is (segment_length c.self.inside.codes c.self.invariant.0)
