use Rattle.std.proofs.Common.{◌<◌, ◌+◌, ◌∙◌, length, eqb, subst, sym, ap, rules, tests, arith}
use Rattle.std.proofs.lemmas.Iterator.Consumers.{YieldsList-at, YieldsList-so_far, YieldsList-turn, YieldsList-end}
use Rattle.std.proofs.lemmas.Iterator.Splits.{YieldsList-from_slice_split}
use Rattle.std.proofs.lemmas.List.{length_push}
use Rattle.h2_script.specs.Lines.{lines_of}
use Rattle.h2_script.specs.Scripts.{AreLines, IsFaultOfLines}
use Rattle.h2_script.proofs.FirstFaults.{stopped, line_read, few_lines}
use Rattle.h2_script.proofs.parsing.read_lines.Goals as goal

pub overflow_add-number : goal.overflow_add-number
overflow_add-number c =
    let turn = YieldsList-turn (YieldsList-at c.into_iter-line-iterator.ensures.into_iter_gives (YieldsList-from_slice_split _ (λ b. eqb b 10) c.args.bytes.now c.split-line-items.ensures.rest c.split-line-items.ensures.done c.split-line-items.ensures.closure (λ x r q k. search (rules, tests)))) c.loop-line.yielded _ c.loop-line.yielded_by _ _ c.in-Some.line c.in-Some.is c.next.ensures.steps in
    let below : length c.loop-line.yielded < length (lines_of c.args.bytes.now) = turn.0 in
    let few = few_lines c.args.bytes.now c.requires in
    let same = c.loop-line.invariant.0 in
    omega arith

pub returns-in-Err : goal.returns-in-Err
returns-in-Err c =
    let inv = c.loop-line.invariant in
    let turn = YieldsList-turn (YieldsList-at c.into_iter-line-iterator.ensures.into_iter_gives (YieldsList-from_slice_split _ (λ b. eqb b 10) c.args.bytes.now c.split-line-items.ensures.rest c.split-line-items.ensures.done c.split-line-items.ensures.closure (λ x r q k. search (rules, tests)))) c.loop-line.yielded _ c.loop-line.yielded_by _ _ c.in-Some.line c.in-Some.is c.next.ensures.steps in
    let so_far = YieldsList-so_far (YieldsList-at c.into_iter-line-iterator.ensures.into_iter_gives (YieldsList-from_slice_split _ (λ b. eqb b 10) c.args.bytes.now c.split-line-items.ensures.rest c.split-line-items.ensures.done c.split-line-items.ensures.closure (λ x r q k. search (rules, tests)))) c.loop-line.yielded _ c.loop-line.yielded_by in
    subst (IsFaultOfLines (lines_of c.args.bytes.now)) (sym c.refuse_in.ensures) (stopped (lines_of c.args.bytes.now) c.loop-line.yielded c.in-Some.line.now _ inv.1 c.in-Err.refusal so_far turn (ap (λ n. n + 1) inv.0) inv.3 inv.2.counted.few (c.in-Err.ensures inv.1 inv.2))

pub loop-line-preserved : goal.loop-line-preserved
loop-line-preserved c =
    let inv = c.loop-line.invariant in
    let more = line_read c.loop-line.yielded c.in-Some.line inv.1 c.take_line.new.self inv.3 (c.in-Ok.ensures inv.1 inv.2) in
    (ap (λ n. n + 1) inv.0 ∙ sym (length_push c.loop-line.yielded c.in-Some.line), more.0, more.1, more.2)

pub returns : goal.returns
returns c =
    let inv = c.loop-line.invariant in
    let end = YieldsList-end (YieldsList-at c.into_iter-line-iterator.ensures.into_iter_gives (YieldsList-from_slice_split _ (λ b. eqb b 10) c.args.bytes.now c.split-line-items.ensures.rest c.split-line-items.ensures.done c.split-line-items.ensures.closure (λ x r q k. search (rules, tests)))) c.loop-line.yielded _ c.loop-line.yielded_by _ _ c.in-None.is c.next.ensures.steps in
    (inv.1, subst (λ lines. AreLines lines inv.1) end.0 inv.3, inv.2)
