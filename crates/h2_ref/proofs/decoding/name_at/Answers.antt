use Rattle.std.proofs.Common.{◌≡◌, sym, ◌∙◌, true}
use Rattle.std.proofs.lemmas.Bool.{cond-true, not-false}
use Rattle.std.specs.Prelude.{replicate}
use Rattle.h2_num.specs.Places.{places}
use Rattle.h2_ref.specs.Ref.{is_inline}
use Rattle.h2_ref.specs.Reading.{bytes_from}
use Rattle.h2_ref.proofs.Area.{area_read}
use Rattle.h2_ref.proofs.decoding.name_at.Goals as goal

pub returns : goal.returns
returns c =
    let h = c.in-Some.ensures.cases in
    let inline : is_inline c.args.w.now ≡ true = not-false (is_inline c.args.w.now) (sym c.ne.ensures ∙ c.if-ne.false) in
    area_read c.args.b.now c.in-Some.area.now h ∙ sym (cond-true (is_inline c.args.w.now) (bytes_from (places c.args.b.now) 64 64) (replicate 64 0) inline)
