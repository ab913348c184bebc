use Rattle.std.proofs.Common.{Some, refl, sym, ap, ◌∙◌, arith}
use Rattle.std.proofs.lemmas.Option.{slice_get_read}
use Rattle.h2_set.specs.RefSet.{RefSet}
use Rattle.h2_memory_sets.proofs.Drops.{dropped_written, dropped_length}
use Rattle.h2_memory_sets.proofs.Nodes.{is_there}
use Rattle.h2_memory_sets.proofs.Replacing.{replaced}
use Rattle.h2_memory_sets.specs.LaterLaws.{fails_still, spoils_still}
use Rattle.h2_inode.specs.Nodes.{set_of as set_of_body}
use Rattle.h2_memory_sets.specs.Plans.{block_with}
use Rattle.h2_memory_sets.specs.View.{dropped_all}
use Rattle.h2_memory_sets.proofs.Gone.{block_given}
use Rattle.h2_memory_sets.proofs.Going.{is_open_at, keeps_given}
use Rattle.h2_memory_sets.proofs.inodes.MemorySetsNodes.set_inode.Goals as goal

pub returns-clause-replaces : goal.returns-clause-replaces
returns-clause-replaces c =
    let p = c.args.self.now in
    let xs = p.nodes.items in
    let x = c.index-x.result.now in
    let there = is_there xs c.args.at.0 (c.requires.kept.1.stands) in
    let read = slice_get_read xs _ c.args.at.0 x refl there c.index-x.ensures in
    let s : RefSet = c.set_of-set.result in
    let items_is = dropped_written xs c.deref_mut.result.now c.drop_all.new.nodes p.nodes.len x.root x.bits c.copy-old.result.refs s.refs (sym (c.drop_all.auto.nodes ∙ c.deref_mut.ensures.len)) c.deref_mut.ensures.value c.drop_all.ensures in
    let read_y = slice_get_read _ _ c.args.at.0 c.index_mut.result.now refl (dropped_length xs x.root x.bits c.copy-old.result.refs s.refs _ c.args.at.0 items_is there) c.index_mut.ensures.value in
    (replaced xs _ c.args.at.0 x c.index_mut.result.now c.give_inode.new.x c.requires.kept.0 c.args.inode s c.copy-old.result.refs p.spare p.epoch p.room p.failed p.bad p.met c.requires.sound c.requires.kept.1 c.requires.kept.2 c.requires.kept.3 c.requires.replaceable p.rooted p.kept c.set_of-set.ensures.same items_is (ap (λ (t : RefSet). t.refs) c.copy-old.ensures.same) read read_y c.give_inode.ensures).replaces

pub returns-clause-inode : goal.returns-clause-inode
returns-clause-inode c =
    let p = c.args.self.now in
    let xs = p.nodes.items in
    let x = c.index-x.result.now in
    let there = is_there xs c.args.at.0 (c.requires.kept.1.stands) in
    let read = slice_get_read xs _ c.args.at.0 x refl there c.index-x.ensures in
    let s : RefSet = c.set_of-set.result in
    let items_is = dropped_written xs c.deref_mut.result.now c.drop_all.new.nodes p.nodes.len x.root x.bits c.copy-old.result.refs s.refs (sym (c.drop_all.auto.nodes ∙ c.deref_mut.ensures.len)) c.deref_mut.ensures.value c.drop_all.ensures in
    let read_y = slice_get_read _ _ c.args.at.0 c.index_mut.result.now refl (dropped_length xs x.root x.bits c.copy-old.result.refs s.refs _ c.args.at.0 items_is there) c.index_mut.ensures.value in
    (replaced xs _ c.args.at.0 x c.index_mut.result.now c.give_inode.new.x c.requires.kept.0 c.args.inode s c.copy-old.result.refs p.spare p.epoch p.room p.failed p.bad p.met c.requires.sound c.requires.kept.1 c.requires.kept.2 c.requires.kept.3 c.requires.replaceable p.rooted p.kept c.set_of-set.ensures.same items_is (ap (λ (t : RefSet). t.refs) c.copy-old.ensures.same) read read_y c.give_inode.ensures).inode

pub returns-clause-beside : goal.returns-clause-beside
returns-clause-beside c =
    let p = c.args.self.now in
    let xs = p.nodes.items in
    let x = c.index-x.result.now in
    let there = is_there xs c.args.at.0 (c.requires.kept.1.stands) in
    let read = slice_get_read xs _ c.args.at.0 x refl there c.index-x.ensures in
    let s : RefSet = c.set_of-set.result in
    let items_is = dropped_written xs c.deref_mut.result.now c.drop_all.new.nodes p.nodes.len x.root x.bits c.copy-old.result.refs s.refs (sym (c.drop_all.auto.nodes ∙ c.deref_mut.ensures.len)) c.deref_mut.ensures.value c.drop_all.ensures in
    let read_y = slice_get_read _ _ c.args.at.0 c.index_mut.result.now refl (dropped_length xs x.root x.bits c.copy-old.result.refs s.refs _ c.args.at.0 items_is there) c.index_mut.ensures.value in
    (replaced xs _ c.args.at.0 x c.index_mut.result.now c.give_inode.new.x c.requires.kept.0 c.args.inode s c.copy-old.result.refs p.spare p.epoch p.room p.failed p.bad p.met c.requires.sound c.requires.kept.1 c.requires.kept.2 c.requires.kept.3 c.requires.replaceable p.rooted p.kept c.set_of-set.ensures.same items_is (ap (λ (t : RefSet). t.refs) c.copy-old.ensures.same) read read_y c.give_inode.ensures).beside

pub invariant_of-self-clause-rooted : goal.invariant_of-self-clause-rooted
invariant_of-self-clause-rooted c =
    let p = c.args.self.now in
    let xs = p.nodes.items in
    let x = c.index-x.result.now in
    let there = is_there xs c.args.at.0 (c.requires.kept.1.stands) in
    let read = slice_get_read xs _ c.args.at.0 x refl there c.index-x.ensures in
    let s : RefSet = c.set_of-set.result in
    let items_is = dropped_written xs c.deref_mut.result.now c.drop_all.new.nodes p.nodes.len x.root x.bits c.copy-old.result.refs s.refs (sym (c.drop_all.auto.nodes ∙ c.deref_mut.ensures.len)) c.deref_mut.ensures.value c.drop_all.ensures in
    let read_y = slice_get_read _ _ c.args.at.0 c.index_mut.result.now refl (dropped_length xs x.root x.bits c.copy-old.result.refs s.refs _ c.args.at.0 items_is there) c.index_mut.ensures.value in
    (replaced xs _ c.args.at.0 x c.index_mut.result.now c.give_inode.new.x c.requires.kept.0 c.args.inode s c.copy-old.result.refs p.spare p.epoch p.room p.failed p.bad p.met c.requires.sound c.requires.kept.1 c.requires.kept.2 c.requires.kept.3 c.requires.replaceable p.rooted p.kept c.set_of-set.ensures.same items_is (ap (λ (t : RefSet). t.refs) c.copy-old.ensures.same) read read_y c.give_inode.ensures).rooted

pub invariant_of-self-clause-kept : goal.invariant_of-self-clause-kept
invariant_of-self-clause-kept c =
    let p = c.args.self.now in
    let xs = p.nodes.items in
    let x = c.index-x.result.now in
    let there = is_there xs c.args.at.0 (c.requires.kept.1.stands) in
    let read = slice_get_read xs _ c.args.at.0 x refl there c.index-x.ensures in
    let s : RefSet = c.set_of-set.result in
    let items_is = dropped_written xs c.deref_mut.result.now c.drop_all.new.nodes p.nodes.len x.root x.bits c.copy-old.result.refs s.refs (sym (c.drop_all.auto.nodes ∙ c.deref_mut.ensures.len)) c.deref_mut.ensures.value c.drop_all.ensures in
    let read_y = slice_get_read _ _ c.args.at.0 c.index_mut.result.now refl (dropped_length xs x.root x.bits c.copy-old.result.refs s.refs _ c.args.at.0 items_is there) c.index_mut.ensures.value in
    (replaced xs _ c.args.at.0 x c.index_mut.result.now c.give_inode.new.x c.requires.kept.0 c.args.inode s c.copy-old.result.refs p.spare p.epoch p.room p.failed p.bad p.met c.requires.sound c.requires.kept.1 c.requires.kept.2 c.requires.kept.3 c.requires.replaceable p.rooted p.kept c.set_of-set.ensures.same items_is (ap (λ (t : RefSet). t.refs) c.copy-old.ensures.same) read read_y c.give_inode.ensures).kept

pub returns-clause-later : goal.returns-clause-later
returns-clause-later c =
    let p = c.args.self.now in
    let xs = p.nodes.items in
    let x = c.index-x.result.now in
    let stands = c.requires.kept.1.stands in
    let there = is_there xs c.args.at.0 stands in
    let read = slice_get_read xs _ c.args.at.0 x refl there c.index-x.ensures in
    let s : RefSet = c.set_of-set.result in
    let items_is = dropped_written xs c.deref_mut.result.now c.drop_all.new.nodes p.nodes.len x.root x.bits c.copy-old.result.refs s.refs (sym (c.drop_all.auto.nodes ∙ c.deref_mut.ensures.len)) c.deref_mut.ensures.value c.drop_all.ensures in
    let read_y = slice_get_read _ _ c.args.at.0 c.index_mut.result.now refl (dropped_length xs x.root x.bits c.copy-old.result.refs s.refs _ c.args.at.0 items_is there) c.index_mut.ensures.value in
    record {
      names = λ place len. refl;
      blocks = keeps_given xs _ c.args.at.0 x c.index_mut.result.now s c.copy-old.result.refs p.kept items_is (ap (λ (t : RefSet). t.refs) c.copy-old.ensures.same) read read_y (is_open_at xs c.args.at.0 x read stands c.requires.writable) c.give_inode.new.x c.args.inode c.give_inode.ensures;
      fails = fails_still _ _;
      spoils = spoils_still _ _;
      refuses = omega arith;
    }

pub returns-clause-blocks : goal.returns-clause-blocks
returns-clause-blocks c =
    let p = c.args.self.now in
    let xs = p.nodes.items in
    let x = c.index-x.result.now in
    let stands = c.requires.kept.1.stands in
    let there = is_there xs c.args.at.0 stands in
    let read = slice_get_read xs _ c.args.at.0 x refl there c.index-x.ensures in
    let s : RefSet = c.set_of-set.result in
    let items_is = dropped_written xs c.deref_mut.result.now c.drop_all.new.nodes p.nodes.len x.root x.bits c.copy-old.result.refs s.refs (sym (c.drop_all.auto.nodes ∙ c.deref_mut.ensures.len)) c.deref_mut.ensures.value c.drop_all.ensures in
    let read_y = slice_get_read _ _ c.args.at.0 c.index_mut.result.now refl (dropped_length xs x.root x.bits c.copy-old.result.refs s.refs _ c.args.at.0 items_is there) c.index_mut.ensures.value in
    block_given xs _ c.args.at.0 x c.index_mut.result.now c.give_inode.new.x (set_of_body c.args.inode.body) (Some c.args.inode) c.copy-old.result.refs p.spare p.epoch p.room p.failed p.bad p.met p.kept (items_is ∙ ap (λ (t : RefSet). dropped_all x.root x.bits c.copy-old.result.refs t.refs xs) c.set_of-set.ensures.same) (ap (λ (t : RefSet). t.refs) c.copy-old.ensures.same) read read_y c.give_inode.ensures (block_with c.args.inode) refl
