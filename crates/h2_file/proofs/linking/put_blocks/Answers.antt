use Rattle.std.proofs.Common.{◌≡◌, arith, sym, ◌∙◌, subst, take, length}
use Rattle.std.proofs.lemmas.List.{take_all}
use Rattle.h2_file.specs.Linking.{PutsEach, none}
use Rattle.h2_tree.specs.AnswerLaws.{beside_on, beside_same}
use Rattle.h2_file.proofs.Altered.{contents_keep}
use Rattle.h2_file.proofs.Loaded.{at_place}
use Rattle.h2_file.proofs.Chained.{blocks_ordered, puts_all, puts_more, front_none, front_more, taken_length}
use Rattle.h2_file.proofs.Parts.{take_from}
use Rattle.h2_file.proofs.SpentAll.{puts_spent}
use Rattle.h2_set.specs.MetLaws.{MeetsNone-refl, MeetsNone-trans}
use Rattle.h2_file.proofs.linking.put_blocks.Goals as goal

pub loop-i-init : goal.loop-i-init
loop-i-init g c = record { puts = none; beside = beside_same _ _; later = g.met.N.Sets.same_later _; none_met = MeetsNone-refl _ }

pub put_block-requires-clause-sound : goal.put_block-requires-clause-sound
put_block-requires-clause-sound g c = (puts_all c.loop-i.invariant.puts c.requires.sound c.requires.root.0).sound

pub put_block-requires-clause-root : goal.put_block-requires-clause-root
put_block-requires-clause-root g c =
    let place = (puts_all c.loop-i.invariant.puts c.requires.sound c.requires.root.0).place in
    (place.stands, place.root ∙ c.requires.root.1, place.low ∙ c.requires.root.2)

pub put_block-requires-clause-contents : goal.put_block-requires-clause-contents
put_block-requires-clause-contents g c =
    let all = puts_all c.loop-i.invariant.puts c.requires.sound c.requires.root.0 in
    contents_keep _ _ _ c.requires.sound all.sound c.requires.root.0 all.place all.fixed c.requires.contents

pub put_block-requires-clause-room : goal.put_block-requires-clause-room
put_block-requires-clause-room g c =
    let within = c.loop-i-test.true in
    let n : length (take c.loop-i.i c.args.refs.now) ≡ c.loop-i.i = taken_length c.loop-i.i c.args.refs.now (omega (arith, within)) in
    let spent = puts_spent c.args.refs.now c.requires.blocks c.loop-i.invariant.puts c.requires.sound c.requires.root.0 c.requires.root.1 c.requires.contents c.requires.loaded (λ i r read. (i, (take_from c.loop-i.i c.args.refs.now i r read).1)) in
    omega (arith, n, within, spent, c.requires.room)

pub put_block-requires-clause-spare : goal.put_block-requires-clause-spare
put_block-requires-clause-spare g c =
    let all = puts_all c.loop-i.invariant.puts c.requires.sound c.requires.root.0 in
    let within = c.loop-i-test.true in
    let n : length (take c.loop-i.i c.args.refs.now) ≡ c.loop-i.i = taken_length c.loop-i.i c.args.refs.now (omega (arith, within)) in
    omega (arith, n, within, all.spare, c.requires.spare)

pub put_block-requires-clause-block : goal.put_block-requires-clause-block
put_block-requires-clause-block g c = c.requires.blocks.each c.loop-i.i _ (at_place c.args.refs.now c.loop-i.i _ c.loop-i-test.true)

pub put_block-requires-clause-loaded : goal.put_block-requires-clause-loaded
put_block-requires-clause-loaded g c =
    let all = puts_all c.loop-i.invariant.puts c.requires.sound c.requires.root.0 in
    let read = at_place c.args.refs.now c.loop-i.i _ c.loop-i-test.true in
    let it = c.requires.loaded c.loop-i.i _ read in
    (it.0, all.paths _ it.0 (front_none c.args.refs.now c.loop-i.i _ (blocks_ordered c.args.refs.now c.requires.blocks) read) it.1)

pub loop-i-preserved : goal.loop-i-preserved
loop-i-preserved g c =
    let f = g.N.Sets.forest c.args.n.now in
    let inv = c.loop-i.invariant in
    let all = puts_all inv.puts c.requires.sound c.requires.root.0 in
    let read = at_place c.args.refs.now c.loop-i.i _ c.loop-i-test.true in
    record {
      puts = subst (λ z. PutsEach c.args.at.0 f z (g.N.Sets.forest c.put_block.new.n)) (sym (front_more c.args.refs.now c.loop-i.i _ read)) (puts_more inv.puts c.put_block.ensures.puts);
      beside = beside_on _ _ _ _ _ _ (λ m st. (all.still m st).stands) inv.beside c.put_block.ensures.beside;
      later = g.met.N.Sets.later_later _ _ _ inv.later c.put_block.ensures.later;
      none_met = MeetsNone-trans _ _ _ inv.none_met c.put_block.ensures.none_met;
    }

pub returns-clause-puts : goal.returns-clause-puts
returns-clause-puts g c =
    let out = c.loop-i-test.false in
    subst (λ z. PutsEach c.args.at.0 (g.N.Sets.forest c.args.n.now) z (g.N.Sets.forest c.loop-i.n)) (take_all c.loop-i.i c.args.refs.now (omega (arith, out))) c.loop-i.invariant.puts
