use Rattle.std.proofs.Common.{ap, sym, ◌∙◌}
use Rattle.std.specs.Prelude.{slice_index}
use Rattle.std.proofs.lemmas.List.{get_or-replicate}
use Rattle.h2_contents.proofs.page.Page.written.Goals as goal

pub returns-in-Some : goal.returns-in-Some
returns-in-Some c = λ k lt. ap (λ page. slice_index page k) c.filled.ensures ∙ get_or-replicate 16384 k c.in-Some.byte 0 lt ∙ sym (c.in-Some.ensures k lt (slice_index c.args.self.now k))
