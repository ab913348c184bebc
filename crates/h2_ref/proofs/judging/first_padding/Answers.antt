use Rattle.h2_num.specs.Places.{places}
use Rattle.h2_ref.proofs.Padding.{padding_before_key, padding_before_area, padding_behind}
use Rattle.h2_ref.proofs.judging.first_padding.Goals as goal

pub returns-in-Some-clause-place : goal.returns-in-Some-clause-place
returns-in-Some-clause-place c =
    let h = c.in-Some.ensures in
    padding_before_key c.args.w.now (places c.args.b.now) c.in-Some.at h.0 h.1 h.2 h.3

pub returns-in-Some-first_nonzero-clause-place : goal.returns-in-Some-first_nonzero-clause-place
returns-in-Some-first_nonzero-clause-place c =
    let h = rw c.fields_end_at.ensures.end at c.in-Some-first_nonzero.ensures in
    padding_before_area c.args.w.now (places c.args.b.now) c.in-Some-first_nonzero.at c.in_default.ensures h.0 h.1 h.2 h.3

pub returns-clause-place : goal.returns-clause-place
returns-clause-place c =
    padding_behind c.args.w.now (places c.args.b.now) c.nonzero_from.result c.in_default.ensures
    (rw c.fields_end_at.ensures.end at c.in_default-first_nonzero.ensures) (rw c.area_len_at.ensures at c.nonzero_from.ensures)
