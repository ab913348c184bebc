use Rattle.std.proofs.Common.{inr}
use Rattle.h2_script.specs.Lines.{words_of, SpellsText, IsFaultOfText}
use Rattle.h2_script.specs.Commands.{IsFaultOfCommand}
use Rattle.h2_script.proofs.Front.{line_front}
use Rattle.h2_script.proofs.Refusals.{passed_on}
use Rattle.h2_script.proofs.line.read_words.Goals as goal

pub returns-in_err-command : goal.returns-in_err-command
returns-in_err-command c = λ text shown goes_on is.
    let front = line_front c.args.words.now _ c.as_bytes.result.now (words_of text) c.in-len1-up.len_at_least c.as_bytes.ensures.value is in
    passed_on (SpellsText text) (IsFaultOfCommand front.0) (IsFaultOfText text) c.from_residual.result c.in_err-command.field-0.0 c.from_residual.ensures.1 (c.in_err-command.ensures front.0 front.2)
    (λ why bad. inr (c.in-Some.client, front.0, (c.as_bytes.result.now, front.1, c.in-Some.ensures), bad))

pub returns : goal.returns
returns c = λ text shown goes_on is.
    let front = line_front c.args.words.now _ c.as_bytes.result.now (words_of text) c.in-len1-up.len_at_least c.as_bytes.ensures.value is in
    (front.0, (c.as_bytes.result.now, front.1, c.in-Some.ensures), c.in_ok-command.ensures front.0 front.2)
