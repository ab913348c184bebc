use Rattle.std.proofs.Common.{ap, sym, ◌∙◌, subst}
use Rattle.std.specs.Prelude.{IsSome}
use Rattle.std.specs.FinMap as map
use Rattle.h2_contents.specs.Payload.{payload_bytes}
use Rattle.h2_contents.specs.Pages.{byte_in}
use Rattle.h2_contents.specs.PageLaws.{written_step, keeps_put}
use Rattle.h2_contents.proofs.writing.+write_from.Goals as goal

pub returns-clause-ok : goal.returns-clause-ok
returns-clause-ok t c = λ i. ap (λ m. byte_in m i) c.replace.ensures
    ∙ written_step c.args.number c.args.off (payload_bytes c.args.payload.now) c.args.pages.now c.keep_page.new.pages c.write_from.new.pages c.in_ok-page.page c.in_ok-page.ensures c.in_ok-keep_page.ensures.same c.in_ok-write_from.ensures.ok i

pub returns-clause-kept : goal.returns-clause-kept
returns-clause-kept t c = λ n h. subst (λ m. IsSome (map.get m n)) (sym c.replace.ensures) (keeps_put c.write_from.new.pages c.args.number c.in_ok-page.page n (c.in_ok-write_from.ensures.kept n (c.in_ok-keep_page.ensures.kept n h)))
