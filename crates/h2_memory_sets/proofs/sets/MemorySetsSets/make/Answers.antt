use Rattle.std.proofs.Common.{◌≡◌, ◌≤◌, ◌+◌, ◌-◌, ℕ, true, false, refl, List, [], length, map, slice_get, sym, ap, ◌∙◌, subst, arith}
use Rattle.std.proofs.lemmas.Option.{slice_get_past}
use Rattle.h2_set.specs.Ranges.{Rising, put}
use Rattle.h2_set.specs.RefSet.{RefSet, with_rest}
use Rattle.h2_set.specs.Calls.{Makes}
use Rattle.h2_set.specs.MadeLaws.{parts_node}
use Rattle.h2_memory_sets.specs.declared.node.Node.{Node}
use Rattle.h2_inode.specs.Nodes.{set_of as set_of_body}
use Rattle.h2_memory_sets.specs.Kept.{AreKept}
use Rattle.h2_memory_sets.specs.Owners.{beside_of}
use Rattle.h2_memory_sets.specs.View.{block, forest_with, parted, set_of, stands_of, AllRooted}
use Rattle.h2_memory_sets.proofs.Making.{makes}
use Rattle.h2_memory_sets.proofs.Sharing.{kept_set, whole_set}
use Rattle.h2_memory_sets.proofs.Nodes.{is_there}
use Rattle.h2_memory_sets.proofs.Keeping.{refit_twice}
use Rattle.h2_memory_sets.proofs.Parted.{kept_part}
use Rattle.h2_memory_sets.proofs.Parting.{at_here, item_at, field}
use Rattle.h2_memory_sets.proofs.Differing.{differs_by_make}
use Rattle.h2_memory_sets.proofs.Rooted.{rooted_part, root_not}
use Rattle.h2_memory_sets.specs.LaterLaws.{fails_still, spoils_still}
use Rattle.h2_memory_sets.specs.Later.{KeepsBlocks}
use Rattle.h2_memory_sets.specs.Plans.{MakesBlock}
use Rattle.h2_memory_sets.proofs.Below.{makes_block, up_apart}
use Rattle.h2_memory_sets.proofs.Going.{is_open_at, keeps_parted}
use Rattle.h2_memory_sets.proofs.sets.MemorySetsSets.make.Goals as goal

pub new_reference-r-requires-clause-ends : goal.new_reference-r-requires-clause-ends
new_reference-r-requires-clause-ends c =
    let node = c.requires.sound.node c.args.at.0 c.requires.stands in
    let high = (parts_node _ _ _ _ _ node c.requires.split.1).range_high in
    let end = node.ends in
    omega (arith, high, end)

pub new_reference-r-requires-clause-keybits : goal.new_reference-r-requires-clause-keybits
new_reference-r-requires-clause-keybits c =
    let node = c.requires.sound.node c.args.at.0 c.requires.stands in
    let it = parts_node _ _ _ _ _ node c.requires.split.1 in
    let wide = it.wide in
    let fewer = it.fewer in
    let slope = node.slope in
    (omega (arith, wide), omega (arith, fewer, slope))

pub with_left-requires-clause-rising : goal.with_left-requires-clause-rising
with_left-requires-clause-rising c = let n = c.new_reference-r.ensures in (kept_set _ _ _ _ c.new_reference-r.result _ c.requires.sound c.requires.stands c.requires.split.1 n.indirect n.key n.keybits).rising

pub with_left-requires-clause-fits : goal.with_left-requires-clause-fits
with_left-requires-clause-fits c = let n = c.new_reference-r.ensures in (kept_set _ _ _ _ c.new_reference-r.result _ c.requires.sound c.requires.stands c.requires.split.1 n.indirect n.key n.keybits).fits

pub with_one-kept-requires-clause-rising : goal.with_one-kept-requires-clause-rising
with_one-kept-requires-clause-rising c =
    let n = c.new_reference-r.ensures in
    let whole = whole_set _ _ _ _ c.new_reference-r.result _ c.requires.sound c.requires.stands c.requires.split.1 n.indirect n.key n.keybits in
    subst (λ (s : RefSet). Rising 0 18446744073709551616 (put c.new_reference-r.result s.refs)) (sym c.with_left.ensures) whole.rising

pub with_one-kept-requires-clause-fits : goal.with_one-kept-requires-clause-fits
with_one-kept-requires-clause-fits c =
    let n = c.new_reference-r.ensures in
    let whole = whole_set _ _ _ _ c.new_reference-r.result _ c.requires.sound c.requires.stands c.requires.split.1 n.indirect n.key n.keybits in
    subst (λ (s : RefSet). length (put c.new_reference-r.result s.refs) ≤ s.capacity) (sym c.with_left.ensures) whole.fits

pub add_node-requires-clause-there : goal.add_node-requires-clause-there
add_node-requires-clause-there c = is_there _ _ c.requires.stands

pub returns-clause-makes : goal.returns-clause-makes
returns-clause-makes c =
    let p = c.args.self.now in
    let xs = p.nodes.items in
    let r = c.new_reference-r.result in
    let n = c.new_reference-r.ensures in
    let it = item_at xs c.args.at.0 (is_there _ _ c.requires.stands) in
    let whole : RefSet = record { refs = put r (with_rest c.args.split.rest c.args.set.refs); capacity = c.args.set.capacity } in
    let kept_is : c.with_one-kept.result ≡ whole = c.with_one-kept.ensures ∙ ap (λ (s : RefSet). record { refs = put r s.refs; capacity = s.capacity }) c.with_left.ensures in
    let items : c.add_node.new.nodes.items ≡ parted xs c.args.at.0 it.0 whole c.args.split.moved r = c.add_node.ensures.parted it.0 it.1 ∙ ap (λ (s : RefSet). parted xs c.args.at.0 it.0 s c.args.split.moved r) kept_is in
    let spare : p.spare - 1 + 1 ≡ p.spare = (let one = c.requires.space.0 in omega (arith, one)) in
    let room : p.room - 1 + 1 ≡ p.room = (let one = c.requires.space.1 in omega (arith, one)) in
    let d = differs_by_make xs c.args.at.0 it.0 c.args.set c.args.split r it.1 n.key n.keybits (root_not xs c.args.at.0 (length xs) p.rooted c.requires.stands (ap stands_of (slice_get_past xs (length xs) (omega arith)))) p.spare (p.spare - 1) p.epoch p.room (p.room - 1) p.failed p.bad p.met spare room in
    let made = makes _ _ _ _ r _ c.requires.sound c.requires.stands c.requires.split.1 n.indirect n.key n.keybits _ _ d n.held n.dated in
    let place : length xs ≡ c.len-c.result = sym (c.len-c.ensures ∙ p.nodes.ok.0) in
    subst (λ (ys : List Node). Makes (forest_with xs p.spare p.epoch p.room p.failed p.bad p.met) (forest_with ys (p.spare - 1) p.epoch (p.room - 1) p.failed p.bad p.met) c.args.at.0 c.len-c.result c.args.set c.args.split) (sym items) (subst (λ (k : ℕ). Makes (forest_with xs p.spare p.epoch p.room p.failed p.bad p.met) (forest_with (parted xs c.args.at.0 it.0 whole c.args.split.moved r) (p.spare - 1) p.epoch (p.room - 1) p.failed p.bad p.met) c.args.at.0 k c.args.set c.args.split) place made)

pub invariant_of-self-clause-rooted : goal.invariant_of-self-clause-rooted
invariant_of-self-clause-rooted c =
    let p = c.args.self.now in
    let xs = p.nodes.items in
    let it = item_at xs c.args.at.0 (is_there _ _ c.requires.stands) in
    subst AllRooted (sym (c.add_node.ensures.parted it.0 it.1)) (rooted_part xs c.args.at.0 it.0 c.with_one-kept.result c.args.split.moved c.new_reference-r.result p.rooted c.requires.stands it.1)

pub invariant_of-self-clause-kept : goal.invariant_of-self-clause-kept
invariant_of-self-clause-kept c =
    let p = c.args.self.now in
    let xs = p.nodes.items in
    let it = item_at xs c.args.at.0 (is_there _ _ c.requires.stands) in
    subst AreKept (sym (c.add_node.ensures.parted it.0 it.1)) (kept_part xs c.args.at.0 it.0 c.with_one-kept.result c.args.split.moved c.new_reference-r.result p.kept it.1 (λ w bytes holds is.
    let root = p.kept.inode c.args.at.0 it.0 w it.1 holds in
    let full = c.requires.split.1.full in
    let empty : set_of (slice_get xs c.args.at.0) ≡ record { refs = []; capacity = 4 } = ap set_of it.1 ∙ root.set ∙ ap set_of_body is in
    let clash : 0 ≡ 4 = sym (ap (λ (t : RefSet). length t.refs) empty) ∙ full ∙ ap (λ (t : RefSet). t.capacity) empty in
    absurd (omega (arith, clash))))

pub returns-clause-beside : goal.returns-clause-beside
returns-clause-beside c =
    let p = c.args.self.now in
    let xs = p.nodes.items in
    let it = item_at xs c.args.at.0 (is_there _ _ c.requires.stands) in
    record {
      same = λ m st now.
          let ne : m ≡ length xs → ⊥ = λ e. (let clash : true ≡ false = sym st ∙ ap (λ z. stands_of (slice_get xs z)) e ∙ ap stands_of (slice_get_past xs (length xs) (omega arith)) in cc) in
          ap (λ (ys : List Node). beside_of (slice_get ys m)) (c.add_node.ensures.parted it.0 it.1) ∙ field xs c.args.at.0 it.0 c.with_one-kept.result c.args.split.moved c.new_reference-r.result it.1 beside_of (λ y. refl) (refit_twice (it.0).inode c.with_one-kept.result (record { refs = []; capacity = 4 })) m ne;
    }

pub returns-clause-later : goal.returns-clause-later
returns-clause-later c =
    let p = c.args.self.now in
    let xs = p.nodes.items in
    let it = item_at xs c.args.at.0 (is_there _ _ c.requires.stands) in
    record {
      names = λ place len. refl;
      blocks = subst (KeepsBlocks xs) (sym (c.add_node.ensures.parted it.0 it.1)) (keeps_parted xs c.args.at.0 it.0 c.with_one-kept.result c.args.split.moved c.new_reference-r.result p.kept it.1 (is_open_at xs c.args.at.0 it.0 it.1 c.requires.stands c.requires.writable));
      fails = fails_still _ _;
      spoils = spoils_still _ _;
      refuses = omega arith;
    }

pub returns-clause-blocks : goal.returns-clause-blocks
returns-clause-blocks c =
    let p = c.args.self.now in
    let xs = p.nodes.items in
    let at = c.args.at.0 in
    let n = c.new_reference-r.ensures in
    let lt = is_there xs at c.requires.stands in
    let it = item_at xs at lt in
    let kept = c.with_one-kept.result in
    let part = c.args.split.moved in
    let made = makes_block xs at it.0 kept c.args.split c.new_reference-r.result p.kept it.1 lt n.key n.keybits (up_apart xs p.spare p.epoch p.room p.failed p.bad p.met p.rooted c.requires.sound at it.0 it.1 c.requires.stands) in
    let set : kept ≡ set_of (slice_get (parted xs at it.0 kept part c.new_reference-r.result) at) = sym (ap set_of (at_here xs at it.0 kept part c.new_reference-r.result it.1)) in
    let place : length xs ≡ c.len-c.result = sym (c.len-c.ensures ∙ p.nodes.ok.0) in
    let new = subst (λ (t : RefSet). MakesBlock (map block xs) (map block (parted xs at it.0 kept part c.new_reference-r.result)) at c.len-c.result t c.args.split) set (subst (λ (k : ℕ). MakesBlock (map block xs) (map block (parted xs at it.0 kept part c.new_reference-r.result)) at k kept c.args.split) place made) in
    subst (λ (ys : List Node). MakesBlock (map block xs) (map block ys) at c.len-c.result (set_of (slice_get ys at)) c.args.split) (sym (c.add_node.ensures.parted it.0 it.1)) new
