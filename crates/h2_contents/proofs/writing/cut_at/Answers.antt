use Rattle.std.proofs.Common.{ap, ◌∙◌, subst, ◌/◌, ◌%◌}
use Rattle.std.specs.FinMap as map
use Rattle.h2_contents.specs.Pages.{byte_in, IsPageCut}
use Rattle.h2_contents.specs.PageLaws.{cut_with, cut_some, last_kept}
use Rattle.h2_contents.proofs.writing.cut_at.Goals as goal

pub replace-requires : goal.replace-requires
replace-requires c = last_kept (c.args.size / 16384) c.args.pages.now c.keep_below.new.self c.in_ok-keep_below.ensures.ok
    (cut_some (c.args.size % 16384) (map.get c.args.pages.now (c.args.size / 16384)) c.in-Some.page (subst (IsPageCut (c.args.size % 16384) (map.get c.args.pages.now (c.args.size / 16384))) c.in-Some.is c.in_ok-cut.ensures))

pub returns-clause-ok : goal.returns-clause-ok
returns-clause-ok c = λ i. ap (λ m. byte_in m i) c.replace.ensures
    ∙ cut_with c.args.pages.now c.keep_below.new.self c.args.size c.in-Some.page (subst (IsPageCut (c.args.size % 16384) (map.get c.args.pages.now (c.args.size / 16384))) c.in-Some.is c.in_ok-cut.ensures) c.in_ok-keep_below.ensures.ok i
