use Rattle.std.proofs.Common.{◌≡◌, ◌+◌, None, Some, sym, subst, ap, ◌∙◌, arith, false, refl}
use Rattle.h2_ref.specs.declared.reference.Ref.{Ref}
use Rattle.h2_set.specs.Ranges.{put, holds, find}
use Rattle.h2_set.specs.Forest.{Reaches, LeavesOf}
use Rattle.h2_set.specs.LeafLaws.{reaches_find}
use Rattle.h2_tree.specs.Changes.{Takes}
use Rattle.h2_tree.specs.OtherTrees.{inserted_leaves}
use Rattle.h2_inode.specs.declared.inode.Inode.{Inode}
use Rattle.h2_inode.specs.declared.kind.InodeKind.TheVariants.{Directory, Pfs}
use Rattle.h2_inode.specs.Nodes.{Fields, held_by, HasInode}
use Rattle.h2_dir.specs.Changing.{HasBlockIfLong, entry_ref, with_entries, Adds, AddsWithin}
use Rattle.h2_dir.proofs.Leaf.{takes_entry, ref_kind}
use Rattle.h2_dir.proofs.Growing.{same_but_set, writable_in, beside_on}
use Rattle.h2_dir.proofs.Resized.{root_leaves, root_path, same_fields, regrown}
use Rattle.h2_dir.proofs.Renewed.{keeps_tree, renews_tree}
use Rattle.h2_dir.proofs.Others.{inserted_renews, inserted_exact}
use Rattle.h2_dir.proofs.Entries.{tree_rising, tells_later, new_entry, entries_same, entries_more}
use Rattle.h2_dir.proofs.Spending.{adds_within}
use Rattle.h2_dir.proofs.RootLaws.{added_roots, added_place, added_one}
use Rattle.h2_set.specs.MetLaws.{MeetsNone-trans}
use Rattle.h2_dir.proofs.adding.add_at.Goals as goal

pub inode-requires : goal.inode-requires
inode-requires g c = (c.requires.directory.inode, c.requires.directory.has)

pub entry_ref-leaf-requires-clause-few : goal.entry_ref-leaf-requires-clause-few
entry_ref-leaf-requires-clause-few g c = c.requires.under.good.few

pub entry_ref-leaf-requires-clause-short : goal.entry_ref-leaf-requires-clause-short
entry_ref-leaf-requires-clause-short g c none = subst (HasBlockIfLong c.args.name.now) none c.requires.block

pub put_in-requires-clause-takes : goal.put_in-requires-clause-takes
put_in-requires-clause-takes g c =
    let f = g.N.Sets.forest c.args.n.now in
    let r = entry_ref f.epoch c.args.key c.args.name.now c.args.block c.args.number c.args.target in
    let is : c.entry_ref-leaf.result ≡ r = c.entry_ref-leaf.ensures ∙ ap (λ e. entry_ref e c.args.key c.args.name.now c.args.block c.args.number c.args.target) c.epoch.ensures in
    let d = c.requires.directory in
    subst (λ (x : Ref). Takes f c.args.dir.0 x) (sym is) (takes_entry f _ c.args.dir.0 d.inode r d.has d.kind d.refs c.requires.valid (ref_kind f.epoch c.args.key c.args.name.now c.args.block c.args.number c.args.target).0)

pub put_in-requires-clause-free : goal.put_in-requires-clause-free
put_in-requires-clause-free g c =
    let f = g.N.Sets.forest c.args.n.now in
    let is : c.entry_ref-leaf.result.key ≡ c.args.key = ap (λ (x : Ref). x.key) c.entry_ref-leaf.ensures ∙ (ref_kind c.epoch.result c.args.key c.args.name.now c.args.block c.args.number c.args.target).1 in
    subst (λ k. Reaches f k c.args.dir.0 None) (sym is) c.requires.free

pub resize-requires-clause-inode : goal.resize-requires-clause-inode
resize-requires-clause-inode g c =
    let h = g.N.Sets.forest c.put_in.new.n in
    let d = c.requires.directory in
    let ins = c.put_in.ensures.inserts in
    (with_entries d.inode d.inode.size (h.set c.args.dir.0), same_but_set g.N.Nodes.fields _ h _ _ c.args.dir.0 d.inode ins.place ins.fixed c.put_in.ensures.beside d.refs d.has)

pub resize-requires-clause-writable : goal.resize-requires-clause-writable
resize-requires-clause-writable g c = let d = c.requires.directory in writable_in _ _ _ _ _ d.has.stands d.has.root c.put_in.ensures.inserts

pub returns-clause-adds : goal.returns-clause-adds
returns-clause-adds g c =
    let f = g.N.Sets.forest c.args.n.now in
    let h = g.N.Sets.forest c.put_in.new.n in
    let now = g.N.Sets.forest c.resize.new.n in
    let r = entry_ref f.epoch c.args.key c.args.name.now c.args.block c.args.number c.args.target in
    let is : c.entry_ref-leaf.result ≡ r = c.entry_ref-leaf.ensures ∙ ap (λ e. entry_ref e c.args.key c.args.name.now c.args.block c.args.number c.args.target) c.epoch.ensures in
    let adds : Adds f now c.args.dir.0 c.entry_ref-leaf.result = record { between = h; inserts = c.put_in.ensures.inserts; paths = c.put_in.ensures.paths; path = c.put_in.ensures.path; resizes = c.resize.ensures.replaces } in
    subst (λ (x : Ref). Adds f now c.args.dir.0 x) is adds

pub returns-clause-inode : goal.returns-clause-inode
returns-clause-inode g c i has =
    let f = g.N.Sets.forest c.args.n.now in
    let h = g.N.Sets.forest c.put_in.new.n in
    let now = g.N.Sets.forest c.resize.new.n in
    let d = c.requires.directory in
    let ins = c.put_in.ensures.inserts in
    let j = with_entries d.inode d.inode.size (h.set c.args.dir.0) in
    let then = same_but_set g.N.Nodes.fields f h _ _ c.args.dir.0 d.inode ins.place ins.fixed c.put_in.ensures.beside d.refs d.has in
    let new = c.resize.ensures.inode j then (record { set = h.set c.args.dir.0; body_is = refl }) in
    let size : c.inode.result.now.size ≡ i.size = ap (λ (x : Fields). x.size) (same_fields f _ c.args.dir.0 i c.inode.result.now has c.inode.ensures) in
    let is = regrown i d.inode (c.inode.result.now.size + 1) (i.size + 1) (h.set c.args.dir.0) (now.set c.args.dir.0) (same_fields f _ c.args.dir.0 i d.inode has d.has) (ap (λ n. n + 1) size) (sym c.resize.ensures.replaces.set) in
    subst (λ (x : Inode). HasInode now (held_by g.N.Nodes.fields (g.N.Sets.beside c.resize.new.n)) c.args.dir.0 x) is new

pub returns-clause-leaves : goal.returns-clause-leaves
returns-clause-leaves g c l leaves =
    let f = g.N.Sets.forest c.args.n.now in
    let now = g.N.Sets.forest c.resize.new.n in
    let r = entry_ref f.epoch c.args.key c.args.name.now c.args.block c.args.number c.args.target in
    let is : c.entry_ref-leaf.result ≡ r = c.entry_ref-leaf.ensures ∙ ap (λ e. entry_ref e c.args.key c.args.name.now c.args.block c.args.number c.args.target) c.epoch.ensures in
    let ins = c.put_in.ensures.inserts in
    subst (λ (x : Ref). LeavesOf now c.args.dir.0 (put x l)) is (root_leaves _ now c.args.dir.0 ins.sound ins.place.stands (ins.place.root ∙ c.requires.directory.has.root) c.resize.ensures.replaces (put c.entry_ref-leaf.result l) (ins.leaves l leaves))

pub returns-clause-path : goal.returns-clause-path
returns-clause-path g c =
    let f = g.N.Sets.forest c.args.n.now in
    let now = g.N.Sets.forest c.resize.new.n in
    let r = entry_ref f.epoch c.args.key c.args.name.now c.args.block c.args.number c.args.target in
    let is : c.entry_ref-leaf.result ≡ r = c.entry_ref-leaf.ensures ∙ ap (λ e. entry_ref e c.args.key c.args.name.now c.args.block c.args.number c.args.target) c.epoch.ensures in
    let ins = c.put_in.ensures.inserts in
    let path = root_path _ now c.args.dir.0 ins.sound ins.place.stands (ins.place.root ∙ c.requires.directory.has.root) c.resize.ensures.replaces c.put_in.ensures.path in
    subst (λ k. Reaches now k c.args.dir.0 (Some r)) (ref_kind f.epoch c.args.key c.args.name.now c.args.block c.args.number c.args.target).1 (subst (λ (x : Ref). Reaches now x.key c.args.dir.0 (Some x)) is path)

pub returns-clause-paths : goal.returns-clause-paths
returns-clause-paths g c k o apart path =
    let f = g.N.Sets.forest c.args.n.now in
    let now = g.N.Sets.forest c.resize.new.n in
    let r = entry_ref f.epoch c.args.key c.args.name.now c.args.block c.args.number c.args.target in
    let is : c.entry_ref-leaf.result ≡ r = c.entry_ref-leaf.ensures ∙ ap (λ e. entry_ref e c.args.key c.args.name.now c.args.block c.args.number c.args.target) c.epoch.ensures in
    let ins = c.put_in.ensures.inserts in
    root_path _ now c.args.dir.0 ins.sound ins.place.stands (ins.place.root ∙ c.requires.directory.has.root) c.resize.ensures.replaces (c.put_in.ensures.paths k o (subst (λ (x : Ref). holds k x ≡ false) (sym is) apart) path)

pub returns-clause-beside : goal.returns-clause-beside
returns-clause-beside g c = beside_on _ _ _ _ _ _ _ (λ m old new. c.resize.ensures.replaces.none_new m new) c.put_in.ensures.beside c.resize.ensures.beside

pub returns-clause-others : goal.returns-clause-others
returns-clause-others g c m i has not ne =
    let f = g.N.Sets.forest c.args.n.now in
    let h = g.N.Sets.forest c.put_in.new.n in
    let d = c.requires.directory in
    let ins = c.put_in.ensures.inserts in
    let dir = c.args.dir.0 in
    let leaf = c.entry_ref-leaf.result in
    let now = g.N.Sets.forest c.resize.new.n in
    let adds : Adds f now dir leaf = record { between = h; inserts = ins; paths = c.put_in.ensures.paths; path = c.put_in.ensures.path; resizes = c.resize.ensures.replaces } in
    let kept = beside_on _ _ _ _ _ _ _ (λ m old new. c.resize.ensures.replaces.none_new m new) c.put_in.ensures.beside c.resize.ensures.beside in
    keeps_tree f h now dir c.requires.sound ins.sound ins.place d.has.root (inserted_renews f h dir leaf c.requires.sound d.has.stands d.has.root ins) (inserted_exact f h dir leaf c.requires.sound d.has.stands d.has.root ins) d.has.stands (inserted_leaves f h dir leaf None d.has.stands ins) ins.fixed c.resize.ensures.replaces (added_roots f now dir leaf c.requires.sound d.has.stands adds) (added_place f now dir leaf c.requires.sound d.has.stands adds) _ _ _ _ m i has not ne
    (λ stands. ap g.N.Nodes.fields (kept.same m ne has.stands stands))

pub returns-clause-above : goal.returns-clause-above
returns-clause-above g c m stands root ne =
    let f = g.N.Sets.forest c.args.n.now in
    let h = g.N.Sets.forest c.put_in.new.n in
    let d = c.requires.directory in
    let ins = c.put_in.ensures.inserts in
    let dir = c.args.dir.0 in
    let leaf = c.entry_ref-leaf.result in
    let now = g.N.Sets.forest c.resize.new.n in
    let adds : Adds f now dir leaf = record { between = h; inserts = ins; paths = c.put_in.ensures.paths; path = c.put_in.ensures.path; resizes = c.resize.ensures.replaces } in
    let kept = beside_on _ _ _ _ _ _ _ (λ m old new. c.resize.ensures.replaces.none_new m new) c.put_in.ensures.beside c.resize.ensures.beside in
    renews_tree f h now dir c.requires.sound ins.sound ins.place d.has.root (inserted_renews f h dir leaf c.requires.sound d.has.stands d.has.root ins) (inserted_exact f h dir leaf c.requires.sound d.has.stands d.has.root ins) d.has.stands (inserted_leaves f h dir leaf None d.has.stands ins) ins.fixed c.resize.ensures.replaces (added_roots f now dir leaf c.requires.sound d.has.stands adds) (added_place f now dir leaf c.requires.sound d.has.stands adds) _ _ _ _ m stands root ne
    (λ now. ap g.N.Nodes.fields (kept.same m ne stands now))

pub returns-clause-later : goal.returns-clause-later
returns-clause-later g c = g.met.N.Sets.later_later _ _ _ c.put_in.ensures.later c.resize.ensures.later

pub returns-clause-entries : goal.returns-clause-entries
returns-clause-entries g c may size entries h none fits tells =
    let f = g.N.Sets.forest c.args.n.now in
    let now = g.N.Sets.forest c.resize.new.n in
    let dir = c.args.dir.0 in
    let d = c.requires.directory in
    let ins = c.put_in.ensures.inserts in
    let r = entry_ref f.epoch c.args.key c.args.name.now c.args.block c.args.number c.args.target in
    let names : (x : Ref) → now.name x ≡ f.name x = λ x. c.resize.ensures.replaces.name x ∙ ins.fixed.name x in
    let own : r.key ≡ c.args.key = (ref_kind f.epoch c.args.key c.args.name.now c.args.block c.args.number c.args.target).1 in
    let free : find r.key h.leaves ≡ None = ap (λ k. find k h.leaves) own ∙ sym (reaches_find c.requires.sound c.requires.free d.has.stands h.leaves h.has.read) in
    let leaves : LeavesOf now dir (put r h.leaves) = returns-clause-leaves g c h.leaves h.has.read in
    let rising = tree_rising now dir (put r h.leaves) c.resize.ensures.replaces.sound c.resize.ensures.replaces.place.stands leaves in
    let one = new_entry now (held_by g.N.Nodes.fields (g.N.Sets.beside c.resize.new.n)) (g.N.Nodes.told c.resize.new.n) may dir f.epoch c.args.key c.args.name.now c.args.block c.args.number c.args.target c.requires.block c.requires.under fits (tells_later f now r c.args.name.now c.args.block names tells) in
    entries_more f now _ _ _ _ may dir size entries h names r c.args.name.now c.args.number one free none leaves rising

pub returns-clause-other_entries : goal.returns-clause-other_entries
returns-clause-other_entries g c m i may size entries has kind ne h =
    let now = g.N.Sets.forest c.resize.new.n in
    let names : (x : Ref) → now.name x ≡ (g.N.Sets.forest c.args.n.now).name x = λ x. c.resize.ensures.replaces.name x ∙ c.put_in.ensures.inserts.fixed.name x in
    let tree = returns-clause-others g c m i has (λ e. let clash : Directory ≡ Pfs = sym kind ∙ e in cc) ne in
    entries_same (g.N.Sets.forest c.args.n.now) now (held_by g.N.Nodes.fields (g.N.Sets.beside c.args.n.now)) (held_by g.N.Nodes.fields (g.N.Sets.beside c.resize.new.n)) _ (g.N.Nodes.told c.resize.new.n) may m size entries h names tree.leaves

pub returns-clause-spends : goal.returns-clause-spends
returns-clause-spends g c =
    let change = c.put_in.ensures.inserts in
    let resizes = c.resize.ensures.replaces in
    (omega (arith, change.room, resizes.room), omega (arith, change.spare, resizes.spare))

pub returns-clause-one : goal.returns-clause-one
returns-clause-one g c = added_one _ _ c.args.dir.0 _ c.requires.sound c.requires.directory.has.stands (returns-clause-adds g c)

pub returns-clause-none_met : goal.returns-clause-none_met
returns-clause-none_met g c = MeetsNone-trans _ _ _ c.put_in.ensures.none_met (record { failed = c.resize.ensures.replaces.failed; bad = c.resize.ensures.replaces.bad; met = c.resize.ensures.replaces.met })

pub returns-clause-falls : goal.returns-clause-falls
returns-clause-falls g c =
    let change = c.put_in.ensures.inserts in
    let goes = change.goes in
    let resizes = c.resize.ensures.replaces in
    let made = goes.grown c.requires.space.0 in
    (omega (arith, change.room_falls, resizes.room), omega (arith, made, goes.spare, resizes.spare))

pub returns-clause-exact : goal.returns-clause-exact
returns-clause-exact g c =
    let f = g.N.Sets.forest c.args.n.now in
    let h = g.N.Sets.forest c.put_in.new.n in
    let now = g.N.Sets.forest c.resize.new.n in
    let r = entry_ref f.epoch c.args.key c.args.name.now c.args.block c.args.number c.args.target in
    let is : c.entry_ref-leaf.result ≡ r = c.entry_ref-leaf.ensures ∙ ap (λ e. entry_ref e c.args.key c.args.name.now c.args.block c.args.number c.args.target) c.epoch.ensures in
    let resizes = c.resize.ensures.replaces in
    let ins = c.put_in.ensures.inserts in
    let adds : Adds f now c.args.dir.0 c.entry_ref-leaf.result = record { between = h; inserts = ins; paths = c.put_in.ensures.paths; path = c.put_in.ensures.path; resizes = resizes } in
    subst (λ (x : Ref). AddsWithin f now c.args.dir.0 x) is (adds_within adds c.requires.space.0)
