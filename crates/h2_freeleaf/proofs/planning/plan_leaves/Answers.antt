use Rattle.std.proofs.Common.{◌≡◌, ◌*◌, [], length, arith, rules}
use Rattle.h2_header.specs.Map.{zones_under}
use Rattle.h2_freeleaf.proofs.Blocks.{level_added, order_added, leads_leaf}
use Rattle.h2_freeleaf.proofs.planning.plan_leaves.Goals as goal

pub loop-zone-preserved : goal.loop-zone-preserved
loop-zone-preserved c =
    let m = c.args.m.now in
    let zone = c.loop-zone.zone in
    let block = c.encode_leaf-block.result in
    let len : length c.encode_leaf-block.result ≡ 1024 = search rules in
    let begins : c.loop-zone.zone ≡ zones_under 0 * c.loop-zone.zone = omega arith in
    let added = c.in_ok-add_block.ensures in
    record {
      level = level_added m.zones c.args.number m.segments 0 zone zone c.loop-zone.writes.items c.add_block.new.writes.items c.loop-zone.refs.items c.add_block.new.refs.items block begins
          added.writes added.refs c.loop-zone.invariant.level len added.valid
          (λ image stand holds. leads_leaf m.zones c.args.number m.segments zone c.segments_of.result block image len c.segments_of.ensures c.encode_leaf-block.ensures.leaf c.encode_leaf-block.ensures.bytes holds);
      order = order_added c.args.number 0 zone zone c.loop-zone.writes.items c.add_block.new.writes.items block [] begins added.writes c.loop-zone.invariant.order;
    }
