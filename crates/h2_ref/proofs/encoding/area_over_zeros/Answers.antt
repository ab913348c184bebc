use Rattle.std.proofs.Common.{◌≡◌, ◌+◌, ap, sym, ◌∙◌, subst, true}
use Rattle.h2_num.specs.Places.{places, ZeroIn}
use Rattle.h2_ref.specs.Ref.{row, is_inline, area_len}
use Rattle.h2_ref.proofs.Fields.{name_fits, name_tail}
use Rattle.h2_ref.proofs.encoding.area_over_zeros.Goals as goal

pub returns-then-eq-clause-tail : goal.returns-then-eq-clause-tail
returns-then-eq-clause-tail c =
    let r = c.args.r.now in
    let e = c.in-Some.e in
    let inline : is_inline (row r) ≡ true = sym (ap is_inline c.requires.row) ∙ sym c.eq.ensures ∙ c.if-eq.true in
    let name = name_fits (row r) (row r).names r.dirent e c.requires.valid.entry c.in-Some.is in
    subst (λ d. ZeroIn (64 + area_len (row r) r.check d) 128 (places c.put_bytes.new.b)) (sym c.in-Some.is)
    (name_tail (row r) e r.check (places c.check_over_zeros-b.result) (places c.put_bytes.new.b) inline name.0 name.1 c.put_bytes.ensures)
