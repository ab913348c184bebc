use Rattle.std.proofs.Common.{ap, ◌∙◌}
use Rattle.h2_contents.specs.Bytes.{cut_to}
use Rattle.h2_contents.specs.PageLaws.{file_cut}
use Rattle.h2_contents.proofs.contents.Contents.cut.Goals as goal

pub returns-clause-ok : goal.returns-clause-ok
returns-clause-ok c = file_cut c.self.inside.pages c.cut_at.new.pages c.self.inside.size c.args.size c.self.invariant c.in_ok-cut_at.ensures.ok ∙ ap (λ bytes. cut_to bytes c.args.size) c.self.view_is
