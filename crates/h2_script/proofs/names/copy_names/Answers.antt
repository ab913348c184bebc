use Rattle.std.proofs.Common.{refl}
use Rattle.h2_script.specs.Names.{IsEntryName}
use Rattle.h2_script.proofs.Elements.{mapped_lacks, mapped_more}
use Rattle.h2_script.proofs.names.copy_names.Goals as goal

pub returns-then-not-is_entry_name : goal.returns-then-not-is_entry_name
returns-then-not-is_entry_name c = (refl, mapped_lacks (λ part. part.now) IsEntryName c.args.parts.now c.loop-part.part-index _ c.loop-part-test.true (λ good. let yes = c.is_entry_name.ensures.1 good in let no = c.if-not-is_entry_name.true in cc))

pub loop-part-preserved : goal.loop-part-preserved
loop-part-preserved c = mapped_more (λ part. part.now) IsEntryName c.push.new.self c.loop-part.names c.in_ok-from_slice.field-0 c.args.parts.now c.loop-part.part-index _ c.loop-part-test.true c.in_ok-push.ensures.ok c.in_ok-from_slice.ensures c.loop-part.invariant.0 c.loop-part.invariant.1 (c.if-not-is_entry_name.ensures.0 refl)
