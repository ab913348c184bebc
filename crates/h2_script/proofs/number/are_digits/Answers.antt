use Rattle.std.proofs.Common.{refl}
use Rattle.std.proofs.lemmas.List.Elements.{All-more}
use Rattle.h2_script.specs.Numbers.{IsDigit}
use Rattle.h2_script.proofs.Elements.{all_seen}
use Rattle.h2_script.proofs.number.are_digits.Goals as goal

pub loop-byte-preserved : goal.loop-byte-preserved
loop-byte-preserved c = All-more IsDigit c.args.word.now c.loop-byte.byte-index 0 c.loop-byte-test.true c.loop-byte.invariant (c.if-not-is_ascii_digit.ensures.cases)

pub returns : goal.returns
returns c = (λ _. all_seen IsDigit c.args.word.now c.loop-byte.byte-index c.loop-byte-test.false c.loop-byte.invariant, λ _. refl)
