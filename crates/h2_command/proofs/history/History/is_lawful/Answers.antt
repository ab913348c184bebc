use Rattle.std.proofs.Common.{refl, subst, All}
use Rattle.h2_command.specs.Lawful.{IsLawfulItem}
use Rattle.h2_command.proofs.Elements.{one_more, all_seen}
use Rattle.h2_command.proofs.history.History.is_lawful.Goals as goal

pub loop-item-preserved : goal.loop-item-preserved
loop-item-preserved c = one_more IsLawfulItem c.items-item-items.result.now c.loop-item.item-index c.item-item.result c.loop-item-test.true c.item-item.is c.loop-item.invariant (c.if-not-is_lawful.ensures.0 refl)

pub returns : goal.returns
returns c = (λ _. subst (All IsLawfulItem) c.items-item-items.ensures (all_seen IsLawfulItem c.items-item-items.result.now c.loop-item.item-index c.loop-item-test.false c.loop-item.invariant), λ _. refl)
