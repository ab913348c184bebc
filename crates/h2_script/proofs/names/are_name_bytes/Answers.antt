use Rattle.std.proofs.Common.{refl}
use Rattle.std.proofs.lemmas.List.Elements.{All-more}
use Rattle.h2_script.specs.Names.{IsNameByte}
use Rattle.h2_script.proofs.Elements.{all_seen}
use Rattle.h2_script.proofs.names.are_name_bytes.Goals as goal

pub loop-byte-preserved : goal.loop-byte-preserved
loop-byte-preserved c = All-more IsNameByte c.args.bytes.now c.loop-byte.byte-index 0 c.loop-byte-test.true c.loop-byte.invariant (c.if-not-is_name_byte.ensures.0 refl)

pub returns : goal.returns
returns c = (λ _. all_seen IsNameByte c.args.bytes.now c.loop-byte.byte-index c.loop-byte-test.false c.loop-byte.invariant, λ _. refl)
