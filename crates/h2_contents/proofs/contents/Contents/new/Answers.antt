use Rattle.h2_contents.specs.Pages.{byte_in}
use Rattle.h2_contents.specs.PageLaws.{kept_nothing, no_bytes}
use Rattle.h2_contents.proofs.contents.Contents.new.Goals as goal

pub invariant_of-result : goal.invariant_of-result
invariant_of-result c = kept_nothing c.new.result c.new.ensures

pub returns : goal.returns
returns c = no_bytes (byte_in c.new.result)
