use Rattle.std.proofs.Common.{ap, sym, ◌∙◌, subst, refl}
use Rattle.std.specs.Prelude.{IsSome}
use Rattle.std.specs.FinMap as map
use Rattle.h2_contents.specs.Bytes.{written_at}
use Rattle.h2_contents.specs.Payload.{payload_bytes}
use Rattle.h2_forest.specs.Table.{with_bytes}
use Rattle.h2_forest.specs.TableLaws.{put_back, has_inserted, changed_is, on_ok, on_err, back_as_it_was}
use Rattle.h2_forest.proofs.table.Table.write.Goals as goal

pub replace-requires : goal.replace-requires
replace-requires c = subst IsSome (sym (has_inserted _ _ _ _ c.replace-node.ensures.after)) refl

pub returns-clause-ok : goal.returns-clause-ok
returns-clause-ok c = on_ok c.write-done.result (λ e.
    put_back c.args.self.now c.replace-node.new.self c.replace.new.self c.args.number _ _ c.replace-node.ensures.after c.replace.ensures.after
    ∙ ap (λ node. map.insert c.args.self.now c.args.number node) e
    ∙ sym (changed_is c.args.self.now c.args.number c.replace-node.result (with_bytes (λ bytes. written_at bytes c.args.off (payload_bytes c.args.payload.now))) c.replace-node.ensures.before)) c.write-done.ensures.ok

pub returns-clause-err : goal.returns-clause-err
returns-clause-err c = on_err c.write-done.result (λ e.
    back_as_it_was c.args.self.now c.replace-node.new.self c.replace.new.self c.args.number _ _ c.replace-node.result c.replace-node.ensures.after c.replace.ensures.after c.replace-node.ensures.before (sym e)) c.write-done.ensures.err
