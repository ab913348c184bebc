-- The words of a command line ask for one thing at most.
use Rattle.std.specs.Prelude.{◌≡◌, ◌≤◌, ℕ, List, [], ◌∷◌, codes}
use Rattle.std.proofs.Common.{ap, sym, ◌∙◌, arith}
use Rattle.std.specs.Fmt.{decimal}
use Rattle.std.proofs.lemmas.Fmt.{decimal_injective}
use Rattle.h2_cmd.specs.declared.command_line.Request.{Request}
use Rattle.h2_cmd.specs.declared.command_line.Request.TheVariants.{Format}
use Rattle.h2_cmd.specs.CommandLine.{Asks}

-- the third word of three
third_is : (a b c d e f : List ℕ) → a ∷ b ∷ c ∷ [] ≡ d ∷ e ∷ f ∷ [] → c ≡ f
third_is a b c d e f is = cc

pub one_format : (words : List (List ℕ)) (a b : ℕ) → Asks words (Format a) → Asks words (Format b) → a ≡ b
one_format words a b p q =
    let most_a : a ≤ 512 = p.2.1 in
    let most_b : b ≤ 512 = q.2.1 in
    decimal_injective a b (omega arith) (omega arith) (third_is (codes "format") p.0 (decimal a) (codes "format") q.0 (decimal b) (sym p.1 ∙ q.1))

pub one_request : (words : List (List ℕ)) (a b : Request) → Asks words a → Asks words b → a ≡ b
one_request words (Format a) (Format b) p q = ap Format (one_format words a b p q)
