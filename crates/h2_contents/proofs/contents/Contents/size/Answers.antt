use Rattle.std.proofs.Common.{◌≡◌, ap, sym, ◌∙◌, length}
use Rattle.h2_contents.specs.Pages.{byte_in}
use Rattle.h2_contents.specs.PageLaws.{length-first_bytes}
use Rattle.h2_contents.proofs.contents.Contents.size.Goals as goal

pub returns-clause-size : goal.returns-clause-size
returns-clause-size c = sym (length-first_bytes (byte_in c.self.inside.pages) c.self.inside.size) ∙ ap length c.self.view_is
