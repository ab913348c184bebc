use Rattle.std.proofs.Common.{arith, inr, refl}
use Rattle.h2_script.proofs.WordFaults.{name_two_pfss, are_two_entries}
use Rattle.h2_script.proofs.arguments.two_entries.Goals as goal

pub returns-then-not-are_equal : goal.returns-then-not-are_equal
returns-then-not-are_equal c = inr (name_two_pfss c.args.words.now _ c.in_ok-path.path c.in_ok-other.other (omega arith) c.in_ok-path.ensures c.in_ok-other.ensures (λ same. let holds = c.are_equal.ensures.1 same in let no = c.if-not-are_equal.true in cc))

pub returns : goal.returns
returns c = are_two_entries c.args.words.now _ c.in_ok-path.path c.in_ok-other.other (omega arith) c.in_ok-path.ensures c.in_ok-other.ensures (c.if-not-are_equal.ensures.0 refl)
