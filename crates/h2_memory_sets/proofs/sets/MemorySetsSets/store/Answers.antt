use Rattle.std.proofs.Common.{refl, sym, ap, ◌∙◌, List, slice_get, arith}
use Rattle.std.proofs.lemmas.Option.{slice_get_read}
use Rattle.h2_set.specs.RefSet.{RefSet}
use Rattle.h2_memory_sets.specs.declared.node.Node.{Node}
use Rattle.h2_memory_sets.proofs.Drops.{dropped_written, dropped_length}
use Rattle.h2_memory_sets.proofs.Stored.{stored}
use Rattle.h2_memory_sets.proofs.Nodes.{is_there}
use Rattle.h2_memory_sets.specs.LaterLaws.{fails_still, spoils_still}
use Rattle.h2_memory_sets.specs.Owners.{refit}
use Rattle.h2_memory_sets.specs.Plans.{refit_block}
use Rattle.h2_memory_sets.proofs.Gone.{block_given}
use Rattle.h2_memory_sets.proofs.Going.{is_open_at, keeps_stored}
use Rattle.h2_memory_sets.proofs.sets.MemorySetsSets.store.Goals as goal

pub returns-clause-stores : goal.returns-clause-stores
returns-clause-stores c =
    let p = c.args.self.now in
    let xs = p.nodes.items in
    let x = c.index-x.result.now in
    let there = is_there xs c.args.at.0 c.requires.stands in
    let read = slice_get_read xs _ c.args.at.0 x refl there c.index-x.ensures in
    let items_is = dropped_written xs c.deref_mut.result.now c.drop_lost.new.nodes p.nodes.len x.root x.bits (let t : RefSet = x.set in t.refs) (let t : RefSet = c.args.set in t.refs) (sym (c.drop_lost.auto.nodes ∙ c.deref_mut.ensures.len)) c.deref_mut.ensures.value (c.drop_lost.ensures x (ap (λ (l : List Node). slice_get l c.args.at.0) c.deref_mut.ensures.value ∙ read)) in
    let read_y = slice_get_read _ _ c.args.at.0 c.index_mut.result.now refl (dropped_length xs x.root x.bits (let t : RefSet = x.set in t.refs) (let t : RefSet = c.args.set in t.refs) _ c.args.at.0 items_is there) c.index_mut.ensures.value in
    (stored xs _ c.args.at.0 x c.index_mut.result.now c.args.set (let t : RefSet = x.set in t.refs) p.spare p.epoch p.room p.failed p.bad p.met c.requires.sound c.requires.stands c.requires.storable p.rooted p.kept items_is refl read read_y c.give_set.new.x c.give_set.ensures).stores

pub invariant_of-self-clause-rooted : goal.invariant_of-self-clause-rooted
invariant_of-self-clause-rooted c =
    let p = c.args.self.now in
    let xs = p.nodes.items in
    let x = c.index-x.result.now in
    let there = is_there xs c.args.at.0 c.requires.stands in
    let read = slice_get_read xs _ c.args.at.0 x refl there c.index-x.ensures in
    let items_is = dropped_written xs c.deref_mut.result.now c.drop_lost.new.nodes p.nodes.len x.root x.bits (let t : RefSet = x.set in t.refs) (let t : RefSet = c.args.set in t.refs) (sym (c.drop_lost.auto.nodes ∙ c.deref_mut.ensures.len)) c.deref_mut.ensures.value (c.drop_lost.ensures x (ap (λ (l : List Node). slice_get l c.args.at.0) c.deref_mut.ensures.value ∙ read)) in
    let read_y = slice_get_read _ _ c.args.at.0 c.index_mut.result.now refl (dropped_length xs x.root x.bits (let t : RefSet = x.set in t.refs) (let t : RefSet = c.args.set in t.refs) _ c.args.at.0 items_is there) c.index_mut.ensures.value in
    (stored xs _ c.args.at.0 x c.index_mut.result.now c.args.set (let t : RefSet = x.set in t.refs) p.spare p.epoch p.room p.failed p.bad p.met c.requires.sound c.requires.stands c.requires.storable p.rooted p.kept items_is refl read read_y c.give_set.new.x c.give_set.ensures).rooted

pub invariant_of-self-clause-kept : goal.invariant_of-self-clause-kept
invariant_of-self-clause-kept c =
    let p = c.args.self.now in
    let xs = p.nodes.items in
    let x = c.index-x.result.now in
    let there = is_there xs c.args.at.0 c.requires.stands in
    let read = slice_get_read xs _ c.args.at.0 x refl there c.index-x.ensures in
    let items_is = dropped_written xs c.deref_mut.result.now c.drop_lost.new.nodes p.nodes.len x.root x.bits (let t : RefSet = x.set in t.refs) (let t : RefSet = c.args.set in t.refs) (sym (c.drop_lost.auto.nodes ∙ c.deref_mut.ensures.len)) c.deref_mut.ensures.value (c.drop_lost.ensures x (ap (λ (l : List Node). slice_get l c.args.at.0) c.deref_mut.ensures.value ∙ read)) in
    let read_y = slice_get_read _ _ c.args.at.0 c.index_mut.result.now refl (dropped_length xs x.root x.bits (let t : RefSet = x.set in t.refs) (let t : RefSet = c.args.set in t.refs) _ c.args.at.0 items_is there) c.index_mut.ensures.value in
    (stored xs _ c.args.at.0 x c.index_mut.result.now c.args.set (let t : RefSet = x.set in t.refs) p.spare p.epoch p.room p.failed p.bad p.met c.requires.sound c.requires.stands c.requires.storable p.rooted p.kept items_is refl read read_y c.give_set.new.x c.give_set.ensures).kept

pub returns-clause-beside : goal.returns-clause-beside
returns-clause-beside c =
    let p = c.args.self.now in
    let xs = p.nodes.items in
    let x = c.index-x.result.now in
    let there = is_there xs c.args.at.0 c.requires.stands in
    let read = slice_get_read xs _ c.args.at.0 x refl there c.index-x.ensures in
    let items_is = dropped_written xs c.deref_mut.result.now c.drop_lost.new.nodes p.nodes.len x.root x.bits (let t : RefSet = x.set in t.refs) (let t : RefSet = c.args.set in t.refs) (sym (c.drop_lost.auto.nodes ∙ c.deref_mut.ensures.len)) c.deref_mut.ensures.value (c.drop_lost.ensures x (ap (λ (l : List Node). slice_get l c.args.at.0) c.deref_mut.ensures.value ∙ read)) in
    let read_y = slice_get_read _ _ c.args.at.0 c.index_mut.result.now refl (dropped_length xs x.root x.bits (let t : RefSet = x.set in t.refs) (let t : RefSet = c.args.set in t.refs) _ c.args.at.0 items_is there) c.index_mut.ensures.value in
    (stored xs _ c.args.at.0 x c.index_mut.result.now c.args.set (let t : RefSet = x.set in t.refs) p.spare p.epoch p.room p.failed p.bad p.met c.requires.sound c.requires.stands c.requires.storable p.rooted p.kept items_is refl read read_y c.give_set.new.x c.give_set.ensures).beside

pub returns-clause-later : goal.returns-clause-later
returns-clause-later c =
    let p = c.args.self.now in
    let xs = p.nodes.items in
    let x = c.index-x.result.now in
    let there = is_there xs c.args.at.0 c.requires.stands in
    let read = slice_get_read xs _ c.args.at.0 x refl there c.index-x.ensures in
    let items_is = dropped_written xs c.deref_mut.result.now c.drop_lost.new.nodes p.nodes.len x.root x.bits (let t : RefSet = x.set in t.refs) (let t : RefSet = c.args.set in t.refs) (sym (c.drop_lost.auto.nodes ∙ c.deref_mut.ensures.len)) c.deref_mut.ensures.value (c.drop_lost.ensures x (ap (λ (l : List Node). slice_get l c.args.at.0) c.deref_mut.ensures.value ∙ read)) in
    let read_y = slice_get_read _ _ c.args.at.0 c.index_mut.result.now refl (dropped_length xs x.root x.bits (let t : RefSet = x.set in t.refs) (let t : RefSet = c.args.set in t.refs) _ c.args.at.0 items_is there) c.index_mut.ensures.value in
    record {
      names = λ place len. refl;
      blocks = keeps_stored xs _ c.args.at.0 x c.index_mut.result.now c.args.set _ p.kept items_is refl read read_y (is_open_at xs c.args.at.0 x read c.requires.stands c.requires.writable) c.give_set.new.x c.give_set.ensures;
      fails = fails_still _ _;
      spoils = spoils_still _ _;
      refuses = omega arith;
    }

pub returns-clause-blocks : goal.returns-clause-blocks
returns-clause-blocks c =
    let p = c.args.self.now in
    let xs = p.nodes.items in
    let x = c.index-x.result.now in
    let there = is_there xs c.args.at.0 c.requires.stands in
    let read = slice_get_read xs _ c.args.at.0 x refl there c.index-x.ensures in
    let items_is = dropped_written xs c.deref_mut.result.now c.drop_lost.new.nodes p.nodes.len x.root x.bits (let t : RefSet = x.set in t.refs) (let t : RefSet = c.args.set in t.refs) (sym (c.drop_lost.auto.nodes ∙ c.deref_mut.ensures.len)) c.deref_mut.ensures.value (c.drop_lost.ensures x (ap (λ (l : List Node). slice_get l c.args.at.0) c.deref_mut.ensures.value ∙ read)) in
    let read_y = slice_get_read _ _ c.args.at.0 c.index_mut.result.now refl (dropped_length xs x.root x.bits (let t : RefSet = x.set in t.refs) (let t : RefSet = c.args.set in t.refs) _ c.args.at.0 items_is there) c.index_mut.ensures.value in
    block_given xs _ c.args.at.0 x c.index_mut.result.now c.give_set.new.x c.args.set (refit (let y : Node = c.index_mut.result.now in y.inode) c.args.set) _ p.spare p.epoch p.room p.failed p.bad p.met p.kept items_is refl read read_y c.give_set.ensures (refit_block c.args.set) refl
