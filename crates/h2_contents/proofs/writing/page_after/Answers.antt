use Rattle.std.proofs.Common.{sym, subst, replicate}
use Rattle.std.specs.Prelude.{IfOk, Some}
use Rattle.h2_contents.specs.Payload.{payload_bytes}
use Rattle.h2_contents.specs.Pages.{IsPageAfter}
use Rattle.h2_contents.specs.PageLaws.{page_of_none}
use Rattle.h2_contents.proofs.writing.page_after.Goals as goal

pub returns-in-None : goal.returns-in-None
returns-in-None c =
    subst (λ o. IfOk c.written-in-None-2.result (IsPageAfter c.args.number c.args.off (payload_bytes c.args.payload.now) o)) c.in-None.ensures
    (page_of_none c.written-in-None-2.result c.args.number c.args.off (payload_bytes c.args.payload.now)
    (subst (λ z. IfOk c.written-in-None-2.result (IsPageAfter c.args.number c.args.off (payload_bytes c.args.payload.now) (Some z))) c.filled.ensures c.written-in-None-2.ensures))
