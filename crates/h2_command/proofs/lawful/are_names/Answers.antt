use Rattle.std.proofs.Common.{refl}
use Rattle.h2_dirkey.specs.Name.{IsName}
use Rattle.h2_command.proofs.Elements.{one_more, all_seen}
use Rattle.h2_command.proofs.lawful.are_names.Goals as goal

pub loop-name-preserved : goal.loop-name-preserved
loop-name-preserved c = one_more IsName c.args.names.now c.loop-name.name-index c.name-item.result c.loop-name-test.true c.name-item.is c.loop-name.invariant (c.if-not-is_name.ensures.0 refl)

pub returns : goal.returns
returns c = (λ _. all_seen IsName c.args.names.now c.loop-name.name-index c.loop-name-test.false c.loop-name.invariant, λ _. refl)
