use Rattle.std.proofs.Common.{refl}
use Rattle.h2_forest.proofs.Indices.{all_count_up}
use Rattle.h2_forest.proofs.item_order.indices_count_up.Goals as goal

pub returns : goal.returns
returns c = (λ _. all_count_up c.args.items.now c.loop-client.client c.requires c.loop-client-test.false c.loop-client.invariant, λ _. refl)
