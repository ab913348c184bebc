use Rattle.std.proofs.Common.{arith, inl, [], ◌∷◌}
use Rattle.std.specs.Prelude.{◌⊎◌}
use Rattle.h2_script.specs.Verbs.{Handle, Place, Datum}
use Rattle.h2_script.specs.Arguments.{HandleAndData, IsFaultOfWords, WritesTooMuch}
use Rattle.h2_script.proofs.WordFaults.{texts, no_place_of_write, bad_data}
use Rattle.h2_script.proofs.Refusals.{passed_on}
use Rattle.h2_script.proofs.arguments.handle_and_data.Goals as goal

pub returns-in_default-read_place : goal.returns-in_default-read_place
returns-in_default-read_place c = inl (no_place_of_write c.args.words.now _ c.in-Some.handle (omega arith) c.in-Some.ensures c.in_default-read_place.ensures)

pub returns-in_err-payload : goal.returns-in_err-payload
returns-in_err-payload c = passed_on (λ parts. HandleAndData (texts c.args.words.now) parts.0 parts.1 parts.2) _ (λ why. IsFaultOfWords (Handle ∷ Place ∷ Datum ∷ []) (texts c.args.words.now) why ⊎ WritesTooMuch (texts c.args.words.now) why) c.from_residual.result c.in_err-payload.field-0.0 c.from_residual.ensures.1 c.in_err-payload.ensures (λ why h. bad_data c.args.words.now _ c.in-Some.handle c.in-Some-read_place.off (omega arith) c.in-Some.ensures c.in-Some-read_place.ensures why h)
