use Rattle.std.proofs.Common.{◌≡◌, ◌∙◌, ap}
use Rattle.h2_num.specs.Places.{places}
use Rattle.h2_ref.specs.Ref.{row, method_number}
use Rattle.h2_ref.specs.Table.{row_of}
use Rattle.h2_ref.specs.declared.table.Row.{Row}
use Rattle.h2_ref.proofs.Fields.{fields_put, row_numbered}
use Rattle.h2_ref.proofs.encoding.encode.Goals as goal

pub returns : goal.returns
returns c =
    let z = c.area_over_zeros-b.ensures in
    let r = c.args.r.now in
    let method : c.method_number-method.result ≡ method_number r.check = c.method_number-method.ensures.number in
    let w : c.row_of-w.result.now ≡ row r = c.row_of-w.ensures ∙ ap (row_of r.kind) method in
    let number = ap (λ (v : Row). v.number) w ∙ row_numbered r.kind (method_number r.check) in
    let flags = c.bits.ensures tt ∙ ap (λ (v : Row). v.flags.0) w in
    fields_put r (places c.area_over_zeros-b.result) (places c.put_dirent.new.b) (places c.put8.new.b) (places c.put8-2.new.b) (places c.put8-3.new.b) (places c.put8-4.new.b) (places c.put64.new.b) (places c.put64-2.new.b) (places c.put64-3.new.b)
    z.front z.check z.name z.tail c.put_dirent.ensures.fields c.put_dirent.ensures.others (rw number at c.put8.ensures) (rw method at c.put8-2.ensures) c.put8-3.ensures (rw flags at c.put8-4.ensures) c.put64.ensures c.put64-2.ensures c.put64-3.ensures
