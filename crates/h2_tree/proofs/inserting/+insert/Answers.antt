use Rattle.std.proofs.Common.{◌≡◌, inl, true, false, Some, slice_get, arith, ap, sym, ◌∙◌, subst}
use Rattle.h2_ref.specs.declared.reference.Ref.{Ref}
use Rattle.h2_set.specs.Ranges.{is_indirect}
use Rattle.h2_set.specs.Forest.{refs}
use Rattle.h2_set.specs.LeafLaws.{find_none, find_here}
use Rattle.h2_tree.proofs.Edit.{same_leaf}
use Rattle.h2_tree.proofs.Climb.{reaches_loaded}
use Rattle.h2_tree.proofs.Touching.{in_path, err_touched}
use Rattle.h2_tree.proofs.Descend.{child_stands, child_fewer, child_takes, child_room, ok_below, old_below, walks_below, touched_below, unloaded_below}
use Rattle.h2_tree.specs.AnswerLaws.{always_err, beside_on}
use Rattle.h2_tree.proofs.Paths.{inserts_paths, inserts_path, ok_paths, ok_path}
use Rattle.h2_tree.proofs.Known.{child_good, good_above, carried_good, result_good}
use Rattle.h2_set.specs.MetLaws.{MeetsNone-refl, ok_none_met, err_met_only, handed_met_only}
use Rattle.h2_tree.proofs.inserting.+insert.Goals as goal

pub returns-in-Ok-clause-paths : goal.returns-in-Ok-clause-paths
returns-in-Ok-clause-paths g t c = inserts_paths _ _ _ _ _ c.requires.sound c.requires.stands c.in-Ok.ensures.ok

pub returns-in-Ok-clause-path : goal.returns-in-Ok-clause-path
returns-in-Ok-clause-path g t c = inserts_path _ _ _ _ _ c.requires.stands c.requires.takes.is_leaf c.in-Ok.ensures.ok

pub returns-then-not-is_indirect-clause-paths : goal.returns-then-not-is_indirect-clause-paths
returns-then-not-is_indirect-clause-paths g t c = inserts_paths _ _ _ _ _ c.requires.sound c.requires.stands c.replace.ensures.inserts

pub returns-then-not-is_indirect-clause-path : goal.returns-then-not-is_indirect-clause-path
returns-then-not-is_indirect-clause-path g t c = inserts_path _ _ _ _ _ c.requires.stands c.requires.takes.is_leaf c.replace.ensures.inserts

pub returns-in-Ok-clause-old : goal.returns-in-Ok-clause-old
returns-in-Ok-clause-old g t c = λ l hl. sym (find_none c.args.leaf.key hl (rw c.get-set.ensures at c.in_default.ensures.absent))

pub replace-requires-clause-same : goal.replace-requires-clause-same
replace-requires-clause-same g t c = λ q read_q.
    let f = g.N.Sets.forest c.args.n.now in
    let read : slice_get (refs f c.args.root.0) c.in-Some.i ≡ Some c.at.result.now = rw c.get-set.ensures at c.at.ensures in
    let leaf : is_indirect c.at.result.now ≡ false = sym c.is_indirect.ensures ∙ c.if-not-is_indirect.true in
    let same : c.at.result.now ≡ q = cc (read, read_q) in
    let node = c.requires.sound.node c.args.root.0 c.requires.stands in
    let it = same_leaf f _ c.args.leaf _ c.at.result.now node c.requires.takes read (c.in-Some.ensures.found.holds _ c.at.ensures) leaf in
    subst (λ (r : Ref). (is_indirect r ≡ false) × (r.key ≡ c.args.leaf.key) × (r.keybits ≡ c.args.leaf.keybits)) same (leaf, it.0, it.1)

pub returns-then-not-is_indirect-clause-old : goal.returns-then-not-is_indirect-clause-old
returns-then-not-is_indirect-clause-old g t c = λ l hl.
    let f = g.N.Sets.forest c.args.n.now in
    let read : slice_get (refs f c.args.root.0) c.in-Some.i ≡ Some c.at.result.now = rw c.get-set.ensures at c.at.ensures in
    let leaf : is_indirect c.at.result.now ≡ false = sym c.is_indirect.ensures ∙ c.if-not-is_indirect.true in
    let same : c.at.result.now ≡ c.replace.result = cc (read, c.replace.ensures.old) in
    let node = c.requires.sound.node c.args.root.0 c.requires.stands in
    ap Some (sym same) ∙ sym (find_here c.args.leaf.key _ _ c.in-Some.i c.at.result.now hl node.inside read (c.in-Some.ensures.found.holds _ c.at.ensures) leaf)

pub returns-in_err-child-clause-unloaded : goal.returns-in_err-child-clause-unloaded
returns-in_err-child-clause-unloaded g t c =
    let f = g.N.Sets.forest c.args.n.now in
    let read : slice_get (refs f c.args.root.0) c.in-Some.i ≡ Some c.at.result.now = rw c.get-set.ensures at c.at.ensures in
    let ind : is_indirect c.at.result.now ≡ true = sym c.is_indirect.ensures ∙ c.if-not-is_indirect.false in
    let in_r = c.in-Some.ensures.found.holds _ c.at.ensures in
    always_err c.from_residual.result (inl (λ o reached. reaches_loaded f c.args.leaf.key c.args.root.0 c.in-Some.i c.at.result.now o c.requires.sound c.requires.stands read in_r ind c.in_err-child.ensures.unloaded reached))

pub returns-in_err-child-clause-good : goal.returns-in_err-child-clause-good
returns-in_err-child-clause-good g t c =
    let f = g.N.Sets.forest c.args.n.now in
    let read : slice_get (refs f c.args.root.0) c.in-Some.i ≡ Some c.at.result.now = rw c.get-set.ensures at c.at.ensures in
    let ind : is_indirect c.at.result.now ≡ true = sym c.is_indirect.ensures ∙ c.if-not-is_indirect.false in
    carried_good _ _ c.from_residual.result c.in_err-child.field-0.0 c.from_residual.ensures.1 (child_good f c.args.root.0 c.in-Some.i c.at.result.now c.in_err-child.field-0.0 read ind c.in_err-child.ensures.unloaded c.in_err-child.ensures.good)

pub returns-in-Err-clause-good : goal.returns-in-Err-clause-good
returns-in-Err-clause-good g t c = λ l has bad. bad

pub returns-clause-good : goal.returns-clause-good
returns-clause-good g t c =
    let f = g.N.Sets.forest c.args.n.now in
    let read : slice_get (refs f c.args.root.0) c.in-Some.i ≡ Some c.at.result.now = rw c.get-set.ensures at c.at.ensures in
    let ind : is_indirect c.at.result.now ≡ true = sym c.is_indirect.ensures ∙ c.if-not-is_indirect.false in
    let child = c.in_ok-child.ensures in
    result_good f _ c.args.root.0 c.in_ok-child.child.0 c.insert.result (good_above f _ c.args.root.0 c.in-Some.i c.in_ok-child.child.0 c.at.result.now c.requires.sound child.walks c.requires.stands read ind (child.ok _ read)) c.insert.ensures.good

pub returns-in-Err-clause-touched : goal.returns-in-Err-clause-touched
returns-in-Err-clause-touched g t c = c.in-Err.ensures.touched.touched

pub returns-in-Err-clause-tree : goal.returns-in-Err-clause-tree
returns-in-Err-clause-tree g t c = c.in-Err.ensures.touched

pub returns-in_err-child-clause-tree : goal.returns-in_err-child-clause-tree
returns-in_err-child-clause-tree g t c =
    let f = g.N.Sets.forest c.args.n.now in
    let read : slice_get (refs f c.args.root.0) c.in-Some.i ≡ Some c.at.result.now = rw c.get-set.ensures at c.at.ensures in
    let ind : is_indirect c.at.result.now ≡ true = sym c.is_indirect.ensures ∙ c.if-not-is_indirect.false in
    let in_r = c.in-Some.ensures.found.holds _ c.at.ensures in
    let child = c.in_err-child.ensures in
    always_err c.from_residual.result (in_path _ _ c.args.root.0 c.in-Some.i c.at.result.now _ c.requires.stands read ind in_r child.walks (child.loads _ read))

pub returns-in_err-child-clause-touched : goal.returns-in_err-child-clause-touched
returns-in_err-child-clause-touched g t c = err_touched _ _ _ _ _ c.from_residual.result (returns-in_err-child-clause-tree g t c)

pub insert-requires : goal.insert-requires
insert-requires g t c κs within =
    let f = g.N.Sets.forest c.args.n.now in
    let read : slice_get (refs f c.args.root.0) c.in-Some.i ≡ Some c.at.result.now = rw c.get-set.ensures at c.at.ensures in
    let ind : is_indirect c.at.result.now ≡ true = sym c.is_indirect.ensures ∙ c.if-not-is_indirect.false in
    let in_r = c.in-Some.ensures.found.holds _ c.at.ensures in
    let child = c.in_ok-child.ensures in
    let fewer = child_fewer _ _ _ _ _ c.args.leaf c.at.result.now c.requires.sound c.requires.stands c.requires.takes read ind in_r child.walks (child.loads _ read) (child.ok _ read) in
    (omega (arith, fewer, c.decreases), (within.0, (within.1, (child.walks.sound, (child_stands _ _ _ _ _ c.args.leaf c.at.result.now c.requires.sound c.requires.stands c.requires.takes read ind in_r child.walks (child.loads _ read) (child.ok _ read), (child_room _ _ _ _ _ c.args.leaf c.at.result.now c.requires.sound c.requires.stands c.requires.takes read ind in_r child.walks (child.loads _ read) (child.ok _ read) c.requires.room, child_takes _ _ _ _ _ c.args.leaf c.at.result.now c.requires.sound c.requires.stands c.requires.takes read ind in_r child.walks (child.loads _ read) (child.ok _ read)))))))

pub returns-clause-ok : goal.returns-clause-ok
returns-clause-ok g t c =
    let f = g.N.Sets.forest c.args.n.now in
    let read : slice_get (refs f c.args.root.0) c.in-Some.i ≡ Some c.at.result.now = rw c.get-set.ensures at c.at.ensures in
    let ind : is_indirect c.at.result.now ≡ true = sym c.is_indirect.ensures ∙ c.if-not-is_indirect.false in
    let in_r = c.in-Some.ensures.found.holds _ c.at.ensures in
    let child = c.in_ok-child.ensures in
    ok_below _ _ _ _ _ c.args.leaf c.at.result.now c.requires.sound c.requires.stands c.requires.takes read ind in_r child.walks (child.loads _ read) (child.ok _ read) _ c.insert.result c.insert.ensures.ok

pub returns-clause-old : goal.returns-clause-old
returns-clause-old g t c =
    let f = g.N.Sets.forest c.args.n.now in
    let read : slice_get (refs f c.args.root.0) c.in-Some.i ≡ Some c.at.result.now = rw c.get-set.ensures at c.at.ensures in
    let ind : is_indirect c.at.result.now ≡ true = sym c.is_indirect.ensures ∙ c.if-not-is_indirect.false in
    let in_r = c.in-Some.ensures.found.holds _ c.at.ensures in
    let child = c.in_ok-child.ensures in
    old_below _ _ _ _ _ c.args.leaf c.at.result.now c.requires.sound c.requires.stands c.requires.takes read ind in_r child.walks (child.loads _ read) (child.ok _ read) c.insert.result c.insert.ensures.old

pub returns-clause-walks : goal.returns-clause-walks
returns-clause-walks g t c =
    let f = g.N.Sets.forest c.args.n.now in
    let read : slice_get (refs f c.args.root.0) c.in-Some.i ≡ Some c.at.result.now = rw c.get-set.ensures at c.at.ensures in
    let ind : is_indirect c.at.result.now ≡ true = sym c.is_indirect.ensures ∙ c.if-not-is_indirect.false in
    let in_r = c.in-Some.ensures.found.holds _ c.at.ensures in
    let child = c.in_ok-child.ensures in
    walks_below _ _ _ _ _ c.args.leaf c.at.result.now c.requires.sound c.requires.stands c.requires.takes read ind in_r child.walks (child.loads _ read) (child.ok _ read) _ c.insert.result c.insert.ensures.walks

pub returns-clause-tree : goal.returns-clause-tree
returns-clause-tree g t c =
    let f = g.N.Sets.forest c.args.n.now in
    let read : slice_get (refs f c.args.root.0) c.in-Some.i ≡ Some c.at.result.now = rw c.get-set.ensures at c.at.ensures in
    let ind : is_indirect c.at.result.now ≡ true = sym c.is_indirect.ensures ∙ c.if-not-is_indirect.false in
    let in_r = c.in-Some.ensures.found.holds _ c.at.ensures in
    let child = c.in_ok-child.ensures in
    touched_below _ _ _ _ _ c.args.leaf c.at.result.now c.requires.sound c.requires.stands c.requires.takes read ind in_r child.walks (child.loads _ read) (child.ok _ read) _ c.insert.result c.insert.ensures.walks c.insert.ensures.tree

pub returns-clause-touched : goal.returns-clause-touched
returns-clause-touched g t c = err_touched _ _ _ _ _ c.insert.result (returns-clause-tree g t c)

pub returns-clause-unloaded : goal.returns-clause-unloaded
returns-clause-unloaded g t c =
    let f = g.N.Sets.forest c.args.n.now in
    let read : slice_get (refs f c.args.root.0) c.in-Some.i ≡ Some c.at.result.now = rw c.get-set.ensures at c.at.ensures in
    let ind : is_indirect c.at.result.now ≡ true = sym c.is_indirect.ensures ∙ c.if-not-is_indirect.false in
    let in_r = c.in-Some.ensures.found.holds _ c.at.ensures in
    let child = c.in_ok-child.ensures in
    unloaded_below _ _ _ _ _ c.args.leaf c.at.result.now c.requires.sound c.requires.stands c.requires.takes read ind in_r child.walks (child.loads _ read) (child.ok _ read) c.insert.result c.insert.ensures.unloaded

pub returns-clause-paths : goal.returns-clause-paths
returns-clause-paths g t c = ok_paths _ _ _ _ c.insert.result c.requires.sound c.requires.stands (returns-clause-ok g t c)

pub returns-clause-path : goal.returns-clause-path
returns-clause-path g t c = ok_path _ _ _ _ c.insert.result c.requires.stands c.requires.takes.is_leaf (returns-clause-ok g t c)

pub returns-clause-beside : goal.returns-clause-beside
returns-clause-beside g t c = beside_on _ _ _ _ _ _ (λ m st. (c.in_ok-child.ensures.walks.stays m st).place.stands) c.in_ok-child.ensures.beside c.insert.ensures.beside

pub returns-in_err-child-clause-met_only : goal.returns-in_err-child-clause-met_only
returns-in_err-child-clause-met_only g t c = handed_met_only _ _ _ c.from_residual.result c.in_err-child.field-0.0 c.from_residual.ensures.1 (MeetsNone-refl _) c.in_err-child.ensures.met_only

pub returns-clause-none_met : goal.returns-clause-none_met
returns-clause-none_met g t c = ok_none_met _ _ _ c.insert.result c.in_ok-child.ensures.none_met c.insert.ensures.none_met

pub returns-clause-met_only : goal.returns-clause-met_only
returns-clause-met_only g t c = err_met_only _ _ _ c.insert.result c.in_ok-child.ensures.none_met c.insert.ensures.met_only
