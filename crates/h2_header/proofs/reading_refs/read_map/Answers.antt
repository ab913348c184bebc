use Rattle.std.proofs.Common.{◌≡◌, subst, refl, rules}
use Rattle.h2_num.specs.Places.{places}
use Rattle.h2_header.proofs.Pieces.{MapsTo, more_maps, wrong_map, all_maps}
use Rattle.h2_header.proofs.reading_refs.read_map.Goals as goal

pub returns-in_default-clause-wrong : goal.returns-in_default-clause-wrong
returns-in_default-clause-wrong c =
    wrong_map (places c.args.b.now) c.args.zones c.args.number c.loop-i.refs c.loop-i.i _ c.requires.zones c.requires.number c.loop-i-test.true c.loop-i.invariant c.in_default.ensures.wrong refl

pub loop-i-preserved : goal.loop-i-preserved
loop-i-preserved c =
    let found = c.in-Some.ensures in
    more_maps (places c.args.b.now) c.args.zones c.args.number c.loop-i.refs c.in-Some.r c.loop-i.i c.loop-i-test.true c.loop-i.invariant found.spelled found.valid found.names

pub returns-clause-map : goal.returns-clause-map
returns-clause-map c =
    let end : c.loop-i.i ≡ 8 = search rules in
    (all_maps (places c.args.b.now) c.args.zones c.args.number c.loop-i.refs (subst (MapsTo (places c.args.b.now) c.args.zones c.args.number c.loop-i.refs) end c.loop-i.invariant)).0
