use Rattle.std.proofs.Common.{◌≡◌, ◌-◌, None, Some, sym, subst, ap, ◌∙◌, arith, false, refl}
use Rattle.h2_ref.specs.declared.reference.Ref.{Ref}
use Rattle.h2_set.specs.Ranges.{without, holds, find}
use Rattle.h2_set.specs.Forest.{Reaches, LeavesOf}
use Rattle.h2_set.specs.LeafLaws.{reaches_find}
use Rattle.h2_set.specs.PathLaws.{reaches_one}
use Rattle.std.proofs.lemmas.Option.{same_Some}
use Rattle.h2_inode.specs.declared.inode.Inode.{Inode}
use Rattle.h2_inode.specs.declared.kind.InodeKind.TheVariants.{Directory, Pfs}
use Rattle.h2_inode.specs.Nodes.{Fields, held_by, HasInode}
use Rattle.h2_dir.specs.Changing.{with_entries, TakesAway}
use Rattle.h2_dir.proofs.Paths.{leaf_valid}
use Rattle.h2_dir.proofs.Spotting.{own_key}
use Rattle.h2_dir.proofs.Leaf.{entry_free, entry_kind, of_entry, leaf_refs}
use Rattle.h2_dir.proofs.Growing.{same_but_set, writable_out, beside_on}
use Rattle.h2_dir.proofs.Resized.{root_leaves, root_path, same_fields, regrown}
use Rattle.h2_dir.proofs.Renewed.{keeps_tree, renews_tree}
use Rattle.h2_dir.proofs.Others.{removed_renews, removed_exact, removed_free}
use Rattle.h2_dir.proofs.Entries.{tree_rising, entries_same, entries_less, entry_number}
use Rattle.h2_dir.proofs.Spending.{takes_within}
use Rattle.h2_dir.proofs.RootLaws.{taken_roots, taken_place, taken_one}
use Rattle.h2_set.specs.MetLaws.{MeetsNone-trans}
use Rattle.h2_dir.proofs.removing.remove_at.Goals as goal

pub inode-requires : goal.inode-requires
inode-requires g c = (c.requires.directory.inode, c.requires.directory.has)

pub take_out-leaf-requires-clause-stands : goal.take_out-leaf-requires-clause-stands
take_out-leaf-requires-clause-stands g c = c.requires.directory.has.stands

pub take_out-leaf-requires-clause-top : goal.take_out-leaf-requires-clause-top
take_out-leaf-requires-clause-top g c = c.requires.directory.has.root

pub take_out-leaf-requires-clause-free : goal.take_out-leaf-requires-clause-free
take_out-leaf-requires-clause-free g c = let d = c.requires.directory in entry_free _ _ _ d.inode c.args.key c.requires.there.0 c.requires.sound d.has d.kind c.requires.there.1

pub take_out-leaf-requires-clause-there : goal.take_out-leaf-requires-clause-there
take_out-leaf-requires-clause-there g c =
    let d = c.requires.directory in
    (c.requires.there.0, c.requires.there.1, own_key _ _ _ d.inode c.args.key c.requires.there.0 c.requires.sound d.has d.kind c.requires.there.1)

pub resize-requires-clause-inode : goal.resize-requires-clause-inode
resize-requires-clause-inode g c =
    let h = g.N.Sets.forest c.take_out-leaf.new.n in
    let d = c.requires.directory in
    let out = c.take_out-leaf.ensures.removes in
    let refs = leaf_refs _ _ _ d.inode c.args.key c.requires.there.0 c.requires.sound d.has c.requires.there.1 in
    (with_entries d.inode d.inode.size (h.set c.args.dir.0), same_but_set g.N.Nodes.fields _ h _ _ c.args.dir.0 d.inode out.place out.fixed c.take_out-leaf.ensures.beside refs d.has)

pub resize-requires-clause-writable : goal.resize-requires-clause-writable
resize-requires-clause-writable g c = let d = c.requires.directory in writable_out _ _ _ _ d.has.stands d.has.root c.take_out-leaf.ensures.removes

pub says-requires : goal.says-requires
says-requires g c =
    let d = c.requires.directory in
    let was = c.take_out-leaf.ensures.was in
    let of = of_entry c.take_out-leaf.result (leaf_valid c.requires.sound d.has was) (entry_kind _ _ _ d.inode c.args.key c.take_out-leaf.result c.requires.sound d.has d.kind was) in
    (of.entry, of.entry_is)

pub returns-clause-takes : goal.returns-clause-takes
returns-clause-takes g c leaf path =
    let f = g.N.Sets.forest c.args.n.now in
    let h = g.N.Sets.forest c.take_out-leaf.new.n in
    let now = g.N.Sets.forest c.resize.new.n in
    let d = c.requires.directory in
    let e = c.take_out-leaf.ensures in
    let same : c.take_out-leaf.result ≡ leaf = same_Some c.take_out-leaf.result leaf (reaches_one c.requires.sound d.has.stands e.was path) in
    let away : TakesAway f now c.args.dir.0 c.take_out-leaf.result = record { between = h; removes = e.removes; paths = e.paths; path = subst (λ k. Reaches h k c.args.dir.0 None) (sym e.key) e.path; resizes = c.resize.ensures.replaces } in
    subst (λ (x : Ref). TakesAway f now c.args.dir.0 x) same away

pub returns-clause-says : goal.returns-clause-says
returns-clause-says g c leaf path =
    let d = c.requires.directory in
    let same : c.take_out-leaf.result ≡ leaf = same_Some c.take_out-leaf.result leaf (reaches_one c.requires.sound d.has.stands c.take_out-leaf.ensures.was path) in
    ap (λ (x : Ref). x.dirent) (sym same) ∙ c.says.ensures

pub returns-clause-inode : goal.returns-clause-inode
returns-clause-inode g c i has =
    let f = g.N.Sets.forest c.args.n.now in
    let h = g.N.Sets.forest c.take_out-leaf.new.n in
    let now = g.N.Sets.forest c.resize.new.n in
    let d = c.requires.directory in
    let out = c.take_out-leaf.ensures.removes in
    let refs = leaf_refs _ _ _ d.inode c.args.key c.requires.there.0 c.requires.sound d.has c.requires.there.1 in
    let j = with_entries d.inode d.inode.size (h.set c.args.dir.0) in
    let then = same_but_set g.N.Nodes.fields f h _ _ c.args.dir.0 d.inode out.place out.fixed c.take_out-leaf.ensures.beside refs d.has in
    let new = c.resize.ensures.inode j then (record { set = h.set c.args.dir.0; body_is = refl }) in
    let size : c.inode.result.now.size ≡ i.size = ap (λ (x : Fields). x.size) (same_fields f _ c.args.dir.0 i c.inode.result.now has c.inode.ensures) in
    let is = regrown i d.inode c.one_less.result (i.size - 1) (h.set c.args.dir.0) (now.set c.args.dir.0) (same_fields f _ c.args.dir.0 i d.inode has d.has) (c.one_less.ensures ∙ ap (λ n. n - 1) size) (sym c.resize.ensures.replaces.set) in
    subst (λ (x : Inode). HasInode now (held_by g.N.Nodes.fields (g.N.Sets.beside c.resize.new.n)) c.args.dir.0 x) is new

pub returns-clause-leaves : goal.returns-clause-leaves
returns-clause-leaves g c l leaves =
    let now = g.N.Sets.forest c.resize.new.n in
    let out = c.take_out-leaf.ensures.removes in
    subst (λ k. LeavesOf now c.args.dir.0 (without k l)) c.take_out-leaf.ensures.key
    (root_leaves _ now c.args.dir.0 out.sound out.place.stands (out.place.root ∙ c.requires.directory.has.root) c.resize.ensures.replaces (without c.take_out-leaf.result.key l) (out.leaves l leaves))

pub returns-clause-path : goal.returns-clause-path
returns-clause-path g c =
    let out = c.take_out-leaf.ensures.removes in
    root_path _ _ c.args.dir.0 out.sound out.place.stands (out.place.root ∙ c.requires.directory.has.root) c.resize.ensures.replaces c.take_out-leaf.ensures.path

pub returns-clause-paths : goal.returns-clause-paths
returns-clause-paths g c leaf there k o apart path =
    let d = c.requires.directory in
    let e = c.take_out-leaf.ensures in
    let out = e.removes in
    let same : c.take_out-leaf.result ≡ leaf = same_Some c.take_out-leaf.result leaf (reaches_one c.requires.sound d.has.stands e.was there) in
    root_path _ _ c.args.dir.0 out.sound out.place.stands (out.place.root ∙ d.has.root) c.resize.ensures.replaces (e.paths k o (subst (λ (x : Ref). holds k x ≡ false) (sym same) apart) path)

pub returns-clause-beside : goal.returns-clause-beside
returns-clause-beside g c = beside_on _ _ _ _ _ _ _ (λ m old new. c.resize.ensures.replaces.none_new m new) c.take_out-leaf.ensures.beside c.resize.ensures.beside

pub returns-clause-later : goal.returns-clause-later
returns-clause-later g c = g.met.N.Sets.later_later _ _ _ c.take_out-leaf.ensures.later c.resize.ensures.later

pub returns-clause-others : goal.returns-clause-others
returns-clause-others g c m i has not ne =
    let f = g.N.Sets.forest c.args.n.now in
    let h = g.N.Sets.forest c.take_out-leaf.new.n in
    let d = c.requires.directory in
    let out = c.take_out-leaf.ensures.removes in
    let dir = c.args.dir.0 in
    let leaf = c.take_out-leaf.result in
    let now = g.N.Sets.forest c.resize.new.n in
    let away : TakesAway f now dir leaf = record { between = h; removes = out; paths = c.take_out-leaf.ensures.paths; path = subst (λ k. Reaches h k dir None) (sym c.take_out-leaf.ensures.key) c.take_out-leaf.ensures.path; resizes = c.resize.ensures.replaces } in
    let kept = beside_on _ _ _ _ _ _ _ (λ m old new. c.resize.ensures.replaces.none_new m new) c.take_out-leaf.ensures.beside c.resize.ensures.beside in
    keeps_tree f h now dir c.requires.sound out.sound out.place d.has.root (removed_renews f h _ dir d.inode leaf c.requires.sound d.has d.kind out) (removed_exact f h _ dir d.inode leaf c.requires.sound d.has d.kind out) d.has.stands (removed_free f h _ dir d.inode leaf c.requires.sound d.has d.kind out) out.fixed c.resize.ensures.replaces (taken_roots f now dir leaf away) (taken_place f now dir leaf away) _ _ _ _ m i has not ne
    (λ stands. ap g.N.Nodes.fields (kept.same m ne has.stands stands))

pub returns-clause-above : goal.returns-clause-above
returns-clause-above g c m stands root ne =
    let f = g.N.Sets.forest c.args.n.now in
    let h = g.N.Sets.forest c.take_out-leaf.new.n in
    let d = c.requires.directory in
    let out = c.take_out-leaf.ensures.removes in
    let dir = c.args.dir.0 in
    let leaf = c.take_out-leaf.result in
    let now = g.N.Sets.forest c.resize.new.n in
    let away : TakesAway f now dir leaf = record { between = h; removes = out; paths = c.take_out-leaf.ensures.paths; path = subst (λ k. Reaches h k dir None) (sym c.take_out-leaf.ensures.key) c.take_out-leaf.ensures.path; resizes = c.resize.ensures.replaces } in
    let kept = beside_on _ _ _ _ _ _ _ (λ m old new. c.resize.ensures.replaces.none_new m new) c.take_out-leaf.ensures.beside c.resize.ensures.beside in
    renews_tree f h now dir c.requires.sound out.sound out.place d.has.root (removed_renews f h _ dir d.inode leaf c.requires.sound d.has d.kind out) (removed_exact f h _ dir d.inode leaf c.requires.sound d.has d.kind out) d.has.stands (removed_free f h _ dir d.inode leaf c.requires.sound d.has d.kind out) out.fixed c.resize.ensures.replaces (taken_roots f now dir leaf away) (taken_place f now dir leaf away) _ _ _ _ m stands root ne
    (λ now. ap g.N.Nodes.fields (kept.same m ne stands now))

pub returns-clause-entries : goal.returns-clause-entries
returns-clause-entries g c may size entries name entry h found =
    let f = g.N.Sets.forest c.args.n.now in
    let now = g.N.Sets.forest c.resize.new.n in
    let dir = c.args.dir.0 in
    let d = c.requires.directory in
    let leaf = found.leaf in
    let names : (x : Ref) → now.name x ≡ f.name x = λ x. c.resize.ensures.replaces.name x ∙ c.take_out-leaf.ensures.removes.fixed.name x in
    let is : find leaf.key h.leaves ≡ Some leaf = ap (λ k. find k h.leaves) found.key_is ∙ sym (reaches_find c.requires.sound found.path d.has.stands h.leaves h.has.read) in
    let leaves : LeavesOf now dir (without leaf.key h.leaves) = subst (λ k. LeavesOf now dir (without k h.leaves)) (sym found.key_is) (returns-clause-leaves g c h.leaves h.has.read) in
    let rising = tree_rising now dir (without leaf.key h.leaves) c.resize.ensures.replaces.sound c.resize.ensures.replaces.place.stands leaves in
    let old = held_by g.N.Nodes.fields (g.N.Sets.beside c.args.n.now) in
    let new = held_by g.N.Nodes.fields (g.N.Sets.beside c.resize.new.n) in
    let told = g.N.Nodes.told c.resize.new.n in (
      entry_number f now old new _ told may dir size entries h names leaf name c.says.result is found.named (returns-clause-says g c leaf found.path),
      entries_less f now old new _ told may dir size entries h names leaf name is found.named leaves rising,
    )

pub returns-clause-other_entries : goal.returns-clause-other_entries
returns-clause-other_entries g c m i may size entries has kind ne h =
    let now = g.N.Sets.forest c.resize.new.n in
    let names : (x : Ref) → now.name x ≡ (g.N.Sets.forest c.args.n.now).name x = λ x. c.resize.ensures.replaces.name x ∙ c.take_out-leaf.ensures.removes.fixed.name x in
    let tree = returns-clause-others g c m i has (λ e. let clash : Directory ≡ Pfs = sym kind ∙ e in cc) ne in
    entries_same (g.N.Sets.forest c.args.n.now) now (held_by g.N.Nodes.fields (g.N.Sets.beside c.args.n.now)) (held_by g.N.Nodes.fields (g.N.Sets.beside c.resize.new.n)) _ (g.N.Nodes.told c.resize.new.n) may m size entries h names tree.leaves

pub returns-clause-spends : goal.returns-clause-spends
returns-clause-spends g c =
    let change = c.take_out-leaf.ensures.removes in
    let resizes = c.resize.ensures.replaces in
    (omega (arith, change.room, resizes.room), omega (arith, change.spare, resizes.spare))

pub returns-clause-one : goal.returns-clause-one
returns-clause-one g c = taken_one _ _ c.args.dir.0 _ (returns-clause-takes g c c.requires.there.0 c.requires.there.1)

pub returns-clause-none_met : goal.returns-clause-none_met
returns-clause-none_met g c = MeetsNone-trans _ _ _ c.take_out-leaf.ensures.none_met (record { failed = c.resize.ensures.replaces.failed; bad = c.resize.ensures.replaces.bad; met = c.resize.ensures.replaces.met })

pub returns-clause-falls : goal.returns-clause-falls
returns-clause-falls g c = omega (arith, c.take_out-leaf.ensures.removes.room_falls, c.resize.ensures.replaces.room)

pub returns-clause-exact : goal.returns-clause-exact
returns-clause-exact g c leaf path = takes_within (returns-clause-takes g c leaf path)
