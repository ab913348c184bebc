use Rattle.std.proofs.Common.{◌≡◌, ◌<◌, ◌≤◌, ◌+◌, ◌*◌, ◌++◌, ◌∷◌, [], ℕ, suc, length, sym, ap, subst, ◌∙◌, arith, rules}
use Rattle.h2_num.specs.Places.{places}
use Rattle.h2_ref.specs.Ref.{IsValid}
use Rattle.h2_header.specs.Map.{zones_under}
use Rattle.h2_freeleaf.specs.InImage.{map_ref_of}
use Rattle.h2_freeleaf.specs.Plan.{BeginsBlock, IsLevel, blocks_of, write_of}
use Rattle.h2_freeleaf.proofs.Blocks.{begins_block, node_added, order_added, level_kept}
use Rattle.h2_freeleaf.proofs.planning.plan_nodes.Goals as goal

pub add_block-requires-clause-zone : goal.add_block-requires-clause-zone
add_block-requires-clause-zone c =
    let i = c.loop-i.i in
    let zones_are : c.zones-zones.result ≡ c.args.m.now.zones = c.zones-zones.ensures.value ∙ c.geometry.ensures.value in
    let level : c.args.level ≤ 1 = c.requires.level in
    let most : c.zones-zones.result ≤ 512 = subst (λ (n : ℕ). n ≤ 512) (sym c.zones-zones.ensures.value) c.zones-zones.ensures.in_range.1 in
    let end : c.blocks_of-i-end.result ≡ blocks_of c.zones-zones.result (c.args.level + 1) = c.blocks_of-i-end.ensures in
    let inside : c.loop-i.i < blocks_of c.zones-zones.result (c.args.level + 1) = subst (λ (n : ℕ). c.loop-i.i < n) end c.loop-i-test.true in
    subst (λ (w : ℕ). BeginsBlock (c.args.level + 1) (w * i)) (sym c.zones_under.ensures.zones) (begins_block (c.args.level + 1) c.zones-zones.result i (omega (arith, level)) most inside)

pub loop-i-preserved : goal.loop-i-preserved
loop-i-preserved c =
    let m = c.args.m.now in
    let number = c.args.number in
    let level = c.args.level in
    let i = c.loop-i.i in
    let block = c.encode_node-block.result in
    let zone = c.zones_under.result * c.loop-i.i in
    let h = c.loop-i.invariant in
    let added = c.in_ok-add_block.ensures in
    let old = c.loop-i.writes.items in
    let new = c.add_block.new.writes.items in
    let rs = c.add_block.new.refs.items in
    let up : c.args.level + 1 ≡ suc c.args.level = omega arith in
    let len : length c.encode_node-block.result ≡ 1024 = search rules in
    let eight : length c.eight_of.result ≡ 8 = search rules in
    let begins : c.zones_under.result * c.loop-i.i ≡ zones_under (suc c.args.level) * c.loop-i.i = ap (λ (w : ℕ). w * c.loop-i.i) (c.zones_under.ensures.zones ∙ ap zones_under up) in
    let ew = subst (λ (l : ℕ). new ≡ old ++ write_of l number zone block ∷ []) up added.writes in
    let er = subst (λ (l : ℕ). rs ≡ c.loop-i.refs.items ++ map_ref_of l number zone (places block) ∷ []) up added.refs in
    let valid = subst (λ (l : ℕ). IsValid (map_ref_of l number zone (places block))) up added.valid in
    record {
      below = level_kept m.zones number m.segments level (blocks_of m.zones level) old new (write_of (suc level) number zone block) c.args.below.now ew len h.below;
      level = node_added m.zones number m.segments level i zone old new c.args.below.now c.loop-i.refs.items rs c.eight_of.result block c.requires.level begins ew er h.below h.level
          c.eight_of.ensures.eight (record { count = eight; valid = c.eight_of.ensures.valid }) c.encode_node-block.ensures len valid;
      order = order_added number (suc level) i zone old new block _ begins ew h.order;
    }

pub returns-clause-level : goal.returns-clause-level
returns-clause-level c =
    let m = c.args.m.now in
    let zones_are : c.zones-zones.result ≡ c.args.m.now.zones = c.zones-zones.ensures.value ∙ c.geometry.ensures.value in
    let up : c.args.level + 1 ≡ suc c.args.level = omega arith in
    let at_end : c.loop-i.i ≡ c.blocks_of-i-end.result = search rules in
    let end : c.loop-i.i ≡ blocks_of c.args.m.now.zones (suc c.args.level) =
    at_end ∙ c.blocks_of-i-end.ensures ∙ ap (λ (z : ℕ). blocks_of z (c.args.level + 1)) zones_are ∙ ap (λ (l : ℕ). blocks_of c.args.m.now.zones l) up in
    subst (λ (n : ℕ). IsLevel m.zones c.args.number m.segments (suc c.args.level) n c.loop-i.writes.items c.loop-i.refs.items) end c.loop-i.invariant.level
