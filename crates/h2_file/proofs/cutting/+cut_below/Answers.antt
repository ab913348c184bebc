use Rattle.std.proofs.Common.{◌≡◌, ◌-◌, ◌<◌, ◌≤◌, ℕ, true, false, Some, slice_get, length, arith, sym, ◌∙◌, ap, inl, inr, subst}
use Rattle.std.proofs.lemmas.Nat.{pow_pos}
use Rattle.h2_ref.specs.declared.reference.Ref.{Ref}
use Rattle.h2_set.specs.Ranges.{is_indirect, holds}
use Rattle.h2_set.specs.RefSet.{RefSet}
use Rattle.h2_set.specs.Forest.{refs}
use Rattle.h2_set.specs.StayLaws.{Walks-trans}
use Rattle.h2_file.specs.Cutting.{Cuts, CutsNodes, Remains}
use Rattle.h2_file.specs.declared.cutting.Left.TheVariants.{Nothing, All, Something}
use Rattle.h2_tree.specs.AnswerLaws.{always_err}
use Rattle.h2_file.proofs.Answering.{beside_over, In-refl, In-on}
use Rattle.h2_file.proofs.Altered.{contents_keep}
use Rattle.h2_file.proofs.Parts.{all_past}
use Rattle.h2_file.proofs.CutLevels.{readied_here, under_refl, cuts_front, ends_here, past_here, ends_in, past_in, last_fits, before_here, before_in, clear_here}
use Rattle.h2_file.proofs.CutChild.{child_root, kept, none_to_copy, load_touched, unloaded_child, child_stands, child_fewer, child_room, child_contents, unloaded_below, ready_cut, stands_cut, copies_cut, length_cut, ready_none, under_none, touched_none, leaves_cut, past_cut, leaves_front, past_front, leaves_none, before_cut, before_front, clear_none}
use Rattle.h2_file.proofs.CutNodes.{ends_before, ends_below, nodes_here}
use Rattle.h2_file.proofs.CutWhole.{cut_short, none_given, short_none_new}
use Rattle.h2_file.proofs.CutOver.{nodes_over}
use Rattle.h2_file.proofs.Known.{good_load, good_below, carried_good}
use Rattle.h2_set.specs.MetLaws.{MeetsNone-refl, MeetsNone-trans, handed_met_only}
use Rattle.h2_file.proofs.cutting.+cut_below.Goals as goal

pub returns-then-count-eq0-clause-left : goal.returns-then-count-eq0-clause-left
returns-then-count-eq0-clause-left g t c =
    let f = g.N.Sets.forest c.args.n.now in
    let none = c.if-count-eq0.true in
    (under_refl f c.args.at.0 c.requires.sound, In-refl _ _ _ _, λ l hl. all_past c.args.size c.args.last hl (λ i r read. rw c.get-set.ensures at c.count_below-count.ensures.past i r read (omega (arith, none))), λ key o lt reached. clear_here c.args.size reached (λ i r read. rw c.get-set.ensures at c.count_below-count.ensures.past i r read (omega (arith, none))) lt, λ i r read ends. let a : c.args.size ≤ r.key = (rw c.get-set.ensures at c.count_below-count.ensures.past i r read (omega (arith, none))) in let some = pow_pos r.keybits in omega (arith, a, some, ends))

pub returns-then-not-holds-clause-left : goal.returns-then-not-holds-clause-left
returns-then-not-holds-clause-left g t c =
    let f = g.N.Sets.forest c.args.n.now in
    let count = c.count_below-count.result in
    let pos : 0 < count = (let e = c.if-count-eq0.false in omega (arith, e)) in
    let read : slice_get (refs f c.args.at.0) (count - 1) ≡ Some c.at.result.now = rw c.get-set.ensures at c.at.ensures in
    let low : c.at.result.now.key < c.args.size = c.count_below-count.ensures.below (count - 1) c.at.result.now c.at.ensures (omega (arith, pos)) in
    let past : (j : ℕ) (q : Ref) → slice_get (refs f c.args.at.0) j ≡ Some q → count ≤ j → c.args.size ≤ q.key = rw c.get-set.ensures at c.count_below-count.ensures.past in
    let out : holds c.args.size c.at.result.now ≡ false = sym c.holds.ensures ∙ c.if-not-holds.true in
    cut_short _ _ _ _ _ _ _ _ _ (readied_here f _ _ c.requires.sound c.requires.stands c.requires.room.0) (under_refl f _ c.requires.sound) c.requires.stands c.requires.room.0 c.shorten.ensures.shortens (none_given c.args.last) (ends_before _ _ _ past) (ends_here f c.args.at.0 count c.args.size c.args.last c.at.result.now c.requires.sound c.requires.stands c.requires.last c.requires.contents pos read low past out) (past_here f c.args.at.0 count c.args.size c.args.last c.at.result.now c.requires.sound c.requires.stands c.requires.last c.requires.contents pos read low past out) (before_here f c.args.at.0 count c.args.size c.args.last c.at.result.now c.requires.sound c.requires.stands c.requires.last c.requires.contents pos read low past)

pub shorten-requires-then-not-is_indirect-clause-last : goal.shorten-requires-then-not-is_indirect-clause-last
shorten-requires-then-not-is_indirect-clause-last g t c =
    let f = g.N.Sets.forest c.args.n.now in
    let count = c.count_below-count.result in
    let pos : 0 < count = (let e = c.if-count-eq0.false in omega (arith, e)) in
    let read : slice_get (refs f c.args.at.0) (count - 1) ≡ Some c.at.result.now = rw c.get-set.ensures at c.at.ensures in
    let low : c.at.result.now.key < c.args.size = c.count_below-count.ensures.below (count - 1) c.at.result.now c.at.ensures (omega (arith, pos)) in
    let past : (j : ℕ) (q : Ref) → slice_get (refs f c.args.at.0) j ≡ Some q → count ≤ j → c.args.size ≤ q.key = rw c.get-set.ensures at c.count_below-count.ensures.past in
    let in_r : holds c.args.size c.at.result.now ≡ true = sym c.holds.ensures ∙ c.if-not-holds.false in
    let leaf : is_indirect c.at.result.now ≡ false = sym c.is_indirect.ensures ∙ c.if-not-is_indirect.true in
    last_fits f c.args.at.0 count c.args.size c.args.last c.at.result.now c.requires.sound c.requires.stands c.requires.last c.requires.contents pos read low past leaf in_r

pub returns-then-not-is_indirect-clause-left : goal.returns-then-not-is_indirect-clause-left
returns-then-not-is_indirect-clause-left g t c =
    let f = g.N.Sets.forest c.args.n.now in
    let count = c.count_below-count.result in
    let pos : 0 < count = (let e = c.if-count-eq0.false in omega (arith, e)) in
    let read : slice_get (refs f c.args.at.0) (count - 1) ≡ Some c.at.result.now = rw c.get-set.ensures at c.at.ensures in
    let low : c.at.result.now.key < c.args.size = c.count_below-count.ensures.below (count - 1) c.at.result.now c.at.ensures (omega (arith, pos)) in
    let past : (j : ℕ) (q : Ref) → slice_get (refs f c.args.at.0) j ≡ Some q → count ≤ j → c.args.size ≤ q.key = rw c.get-set.ensures at c.count_below-count.ensures.past in
    let in_r : holds c.args.size c.at.result.now ≡ true = sym c.holds.ensures ∙ c.if-not-holds.false in
    let leaf : is_indirect c.at.result.now ≡ false = sym c.is_indirect.ensures ∙ c.if-not-is_indirect.true in
    cut_short _ _ _ _ _ _ _ _ _ (readied_here f _ _ c.requires.sound c.requires.stands c.requires.room.0) (under_refl f _ c.requires.sound) c.requires.stands c.requires.room.0 c.shorten-then-not-is_indirect.ensures.shortens (λ q e. e) (ends_before _ _ _ past) (ends_in f c.args.at.0 count c.args.size c.args.last c.at.result.now c.requires.sound c.requires.stands c.requires.last c.requires.contents pos read low past leaf in_r) (past_in f c.args.at.0 count c.args.size c.args.last c.at.result.now c.requires.sound c.requires.stands c.requires.last c.requires.contents pos read low past leaf in_r) (before_in f c.args.at.0 count c.args.size c.args.last c.at.result.now c.requires.sound c.requires.stands c.requires.last c.requires.contents pos read low past leaf in_r)

pub returns-in_err-child-clause-touched : goal.returns-in_err-child-clause-touched
returns-in_err-child-clause-touched g t c =
    let f = g.N.Sets.forest c.args.n.now in
    let count = c.count_below-count.result in
    let read : slice_get (refs f c.args.at.0) (count - 1) ≡ Some c.at.result.now = rw c.get-set.ensures at c.at.ensures in
    let in_r : holds c.args.size c.at.result.now ≡ true = sym c.holds.ensures ∙ c.if-not-holds.false in
    let ind : is_indirect c.at.result.now ≡ true = sym c.is_indirect.ensures ∙ c.if-not-is_indirect.false in
    let child = c.in_err-child.ensures in
    always_err c.from_residual.result (load_touched _ _ c.args.at.0 (count - 1) c.args.size c.at.result.now c.requires.sound c.requires.stands read ind in_r child.walks (child.loads _ read))

pub returns-in_err-child-clause-unloaded : goal.returns-in_err-child-clause-unloaded
returns-in_err-child-clause-unloaded g t c =
    let f = g.N.Sets.forest c.args.n.now in
    let count = c.count_below-count.result in
    let read : slice_get (refs f c.args.at.0) (count - 1) ≡ Some c.at.result.now = rw c.get-set.ensures at c.at.ensures in
    let in_r : holds c.args.size c.at.result.now ≡ true = sym c.holds.ensures ∙ c.if-not-holds.false in
    let ind : is_indirect c.at.result.now ≡ true = sym c.is_indirect.ensures ∙ c.if-not-is_indirect.false in
    let child = c.in_err-child.ensures in
    always_err c.from_residual.result (unloaded_child _ _ c.args.at.0 (count - 1) c.args.size c.at.result.now c.requires.sound c.requires.stands read ind in_r child.walks (child.loads _ read) child.unloaded)

pub cut_below-requires : goal.cut_below-requires
cut_below-requires g t c κs within =
    let f = g.N.Sets.forest c.args.n.now in
    let count = c.count_below-count.result in
    let read : slice_get (refs f c.args.at.0) (count - 1) ≡ Some c.at.result.now = rw c.get-set.ensures at c.at.ensures in
    let in_r : holds c.args.size c.at.result.now ≡ true = sym c.holds.ensures ∙ c.if-not-holds.false in
    let ind : is_indirect c.at.result.now ≡ true = sym c.is_indirect.ensures ∙ c.if-not-is_indirect.false in
    let child = c.in_ok-child.ensures in
    let fewer = child_fewer _ _ c.args.at.0 (count - 1) c.args.size c.at.result.now c.requires.sound c.requires.stands read ind in_r child.walks (child.loads _ read) c.in_ok-child.child.0 (child.ok _ read) in
    (omega (arith, fewer, c.decreases), (within.0, (within.1, (child.walks.sound, (child_stands _ _ c.args.at.0 (count - 1) c.args.size c.at.result.now c.requires.sound c.requires.stands read ind in_r child.walks (child.loads _ read) c.in_ok-child.child.0 (child.ok _ read), (child_room _ _ c.args.at.0 (count - 1) c.args.size c.at.result.now c.requires.sound c.requires.stands read ind in_r child.walks (child.loads _ read) c.in_ok-child.child.0 (child.ok _ read) c.requires.room, (child_contents _ _ c.args.at.0 (count - 1) c.args.size c.at.result.now c.requires.sound c.requires.stands read ind in_r child.walks (child.loads _ read) c.in_ok-child.child.0 (child.ok _ read) c.requires.contents, c.requires.last)))))))

pub returns-in_err-cut_below-clause-walks : goal.returns-in_err-cut_below-clause-walks
returns-in_err-cut_below-clause-walks g t c =
    always_err c.from_residual-in_err-cut_below.result (Walks-trans _ _ _ c.in_ok-child.ensures.walks c.in_err-cut_below.ensures.walks)

pub returns-in_err-cut_below-clause-touched : goal.returns-in_err-cut_below-clause-touched
returns-in_err-cut_below-clause-touched g t c =
    let f = g.N.Sets.forest c.args.n.now in
    let count = c.count_below-count.result in
    let read : slice_get (refs f c.args.at.0) (count - 1) ≡ Some c.at.result.now = rw c.get-set.ensures at c.at.ensures in
    let in_r : holds c.args.size c.at.result.now ≡ true = sym c.holds.ensures ∙ c.if-not-holds.false in
    let ind : is_indirect c.at.result.now ≡ true = sym c.is_indirect.ensures ∙ c.if-not-is_indirect.false in
    let child = c.in_ok-child.ensures in
    always_err c.from_residual-in_err-cut_below.result (In-on _ _ _ _ _ _ _ (child_root _ _ c.args.at.0 (count - 1) c.args.size c.at.result.now c.requires.sound c.requires.stands read ind in_r child.walks (child.loads _ read) c.in_ok-child.child.0 (child.ok _ read)) (λ m st st'. (c.in_err-cut_below.ensures.walks.stays m st).place) (load_touched _ _ c.args.at.0 (count - 1) c.args.size c.at.result.now c.requires.sound c.requires.stands read ind in_r child.walks (child.loads _ read)) c.in_err-cut_below.ensures.touched)

pub returns-in_err-cut_below-clause-unloaded : goal.returns-in_err-cut_below-clause-unloaded
returns-in_err-cut_below-clause-unloaded g t c =
    let f = g.N.Sets.forest c.args.n.now in
    let count = c.count_below-count.result in
    let read : slice_get (refs f c.args.at.0) (count - 1) ≡ Some c.at.result.now = rw c.get-set.ensures at c.at.ensures in
    let in_r : holds c.args.size c.at.result.now ≡ true = sym c.holds.ensures ∙ c.if-not-holds.false in
    let ind : is_indirect c.at.result.now ≡ true = sym c.is_indirect.ensures ∙ c.if-not-is_indirect.false in
    let child = c.in_ok-child.ensures in
    always_err c.from_residual-in_err-cut_below.result (unloaded_below _ _ c.args.at.0 (count - 1) c.args.size c.at.result.now c.requires.sound c.requires.stands read ind in_r child.walks (child.loads _ read) c.in_ok-child.child.0 (child.ok _ read) c.in_err-cut_below.ensures.unloaded)

pub keep_front-requires-clause-stands : goal.keep_front-requires-clause-stands
keep_front-requires-clause-stands g t c =
    let f = g.N.Sets.forest c.args.n.now in
    let count = c.count_below-count.result in
    let read : slice_get (refs f c.args.at.0) (count - 1) ≡ Some c.at.result.now = rw c.get-set.ensures at c.at.ensures in
    let in_r : holds c.args.size c.at.result.now ≡ true = sym c.holds.ensures ∙ c.if-not-holds.false in
    let ind : is_indirect c.at.result.now ≡ true = sym c.is_indirect.ensures ∙ c.if-not-is_indirect.false in
    let child = c.in_ok-child.ensures in
    let left : Remains (g.N.Sets.forest c.child.new.self) (g.N.Sets.forest c.cut_below.new.n) c.in_ok-child.child.0 c.args.size c.args.last Something = subst (λ t. Remains (g.N.Sets.forest c.child.new.self) (g.N.Sets.forest c.cut_below.new.n) c.in_ok-child.child.0 c.args.size c.args.last t) c.in-Something.is c.in_ok-cut_below.ensures.left in
    stands_cut _ _ c.args.at.0 (count - 1) c.args.size c.at.result.now c.requires.sound c.requires.stands read ind in_r child.walks (child.loads _ read) c.in_ok-child.child.0 (child.ok _ read) _ _ left.0

pub keep_front-requires-clause-room : goal.keep_front-requires-clause-room
keep_front-requires-clause-room g t c =
    let f = g.N.Sets.forest c.args.n.now in
    let count = c.count_below-count.result in
    let read : slice_get (refs f c.args.at.0) (count - 1) ≡ Some c.at.result.now = rw c.get-set.ensures at c.at.ensures in
    let in_r : holds c.args.size c.at.result.now ≡ true = sym c.holds.ensures ∙ c.if-not-holds.false in
    let ind : is_indirect c.at.result.now ≡ true = sym c.is_indirect.ensures ∙ c.if-not-is_indirect.false in
    let child = c.in_ok-child.ensures in
    let left : Remains (g.N.Sets.forest c.child.new.self) (g.N.Sets.forest c.cut_below.new.n) c.in_ok-child.child.0 c.args.size c.args.last Something = subst (λ t. Remains (g.N.Sets.forest c.child.new.self) (g.N.Sets.forest c.cut_below.new.n) c.in_ok-child.child.0 c.args.size c.args.last t) c.in-Something.is c.in_ok-cut_below.ensures.left in
    copies_cut _ _ c.args.at.0 (count - 1) c.args.size c.at.result.now c.requires.sound c.requires.stands read ind in_r child.walks (child.loads _ read) c.in_ok-child.child.0 (child.ok _ read) _ _ left.0 left.1.copies

pub keep_front-requires-clause-contents : goal.keep_front-requires-clause-contents
keep_front-requires-clause-contents g t c =
    let f = g.N.Sets.forest c.args.n.now in
    let count = c.count_below-count.result in
    let read : slice_get (refs f c.args.at.0) (count - 1) ≡ Some c.at.result.now = rw c.get-set.ensures at c.at.ensures in
    let in_r : holds c.args.size c.at.result.now ≡ true = sym c.holds.ensures ∙ c.if-not-holds.false in
    let ind : is_indirect c.at.result.now ≡ true = sym c.is_indirect.ensures ∙ c.if-not-is_indirect.false in
    let child = c.in_ok-child.ensures in
    let left : Remains (g.N.Sets.forest c.child.new.self) (g.N.Sets.forest c.cut_below.new.n) c.in_ok-child.child.0 c.args.size c.args.last Something = subst (λ t. Remains (g.N.Sets.forest c.child.new.self) (g.N.Sets.forest c.cut_below.new.n) c.in_ok-child.child.0 c.args.size c.args.last t) c.in-Something.is c.in_ok-cut_below.ensures.left in
    let ready = ready_cut _ _ c.args.at.0 (count - 1) c.args.size c.at.result.now c.requires.sound c.requires.stands read ind in_r child.walks (child.loads _ read) c.in_ok-child.child.0 (child.ok _ read) _ _ left.0 left.1.copies in
    contents_keep _ _ _ c.requires.sound ready.sound c.requires.stands ready.place ready.fixed c.requires.contents

pub keep_front-requires-clause-some : goal.keep_front-requires-clause-some
keep_front-requires-clause-some g t c =
    let f = g.N.Sets.forest c.args.n.now in
    let count = c.count_below-count.result in
    let pos : 0 < count = (let e = c.if-count-eq0.false in omega (arith, e)) in
    let read : slice_get (refs f c.args.at.0) (count - 1) ≡ Some c.at.result.now = rw c.get-set.ensures at c.at.ensures in
    let in_r : holds c.args.size c.at.result.now ≡ true = sym c.holds.ensures ∙ c.if-not-holds.false in
    let ind : is_indirect c.at.result.now ≡ true = sym c.is_indirect.ensures ∙ c.if-not-is_indirect.false in
    let child = c.in_ok-child.ensures in
    let left : Remains (g.N.Sets.forest c.child.new.self) (g.N.Sets.forest c.cut_below.new.n) c.in_ok-child.child.0 c.args.size c.args.last Something = subst (λ t. Remains (g.N.Sets.forest c.child.new.self) (g.N.Sets.forest c.cut_below.new.n) c.in_ok-child.child.0 c.args.size c.args.last t) c.in-Something.is c.in_ok-cut_below.ensures.left in
    inr (pos, length_cut _ _ c.args.at.0 (count - 1) c.args.size c.at.result.now c.requires.sound c.requires.stands read ind in_r child.walks (child.loads _ read) c.in_ok-child.child.0 (child.ok _ read) _ _ left.0)

pub returns-then-count-eq1-clause-left : goal.returns-then-count-eq1-clause-left
returns-then-count-eq1-clause-left g t c =
    let f = g.N.Sets.forest c.args.n.now in
    let count = c.count_below-count.result in
    let pos : 0 < count = (let e = c.if-count-eq0.false in omega (arith, e)) in
    let read : slice_get (refs f c.args.at.0) (count - 1) ≡ Some c.at.result.now = rw c.get-set.ensures at c.at.ensures in
    let low : c.at.result.now.key < c.args.size = c.count_below-count.ensures.below (count - 1) c.at.result.now c.at.ensures (omega (arith, pos)) in
    let past : (j : ℕ) (q : Ref) → slice_get (refs f c.args.at.0) j ≡ Some q → count ≤ j → c.args.size ≤ q.key = rw c.get-set.ensures at c.count_below-count.ensures.past in
    let in_r : holds c.args.size c.at.result.now ≡ true = sym c.holds.ensures ∙ c.if-not-holds.false in
    let ind : is_indirect c.at.result.now ≡ true = sym c.is_indirect.ensures ∙ c.if-not-is_indirect.false in
    let child = c.in_ok-child.ensures in
    let left : Remains (g.N.Sets.forest c.child.new.self) (g.N.Sets.forest c.cut_below.new.n) c.in_ok-child.child.0 c.args.size c.args.last Nothing = subst (λ t. Remains (g.N.Sets.forest c.child.new.self) (g.N.Sets.forest c.cut_below.new.n) c.in_ok-child.child.0 c.args.size c.args.last t) c.in-Nothing.is c.in_ok-cut_below.ensures.left in
    (under_none _ _ c.args.at.0 (count - 1) c.args.size c.at.result.now c.requires.sound c.requires.stands read ind in_r child.walks (child.loads _ read) c.in_ok-child.child.0 (child.ok _ read) _ c.args.last left.0 left.1, touched_none _ _ c.args.at.0 (count - 1) c.args.size c.at.result.now c.requires.sound c.requires.stands read ind in_r child.walks (child.loads _ read) c.in_ok-child.child.0 (child.ok _ read) _ c.args.last left.0 left.1, leaves_none _ _ c.args.at.0 count c.args.size c.args.last c.at.result.now c.requires.sound c.requires.stands c.requires.last c.requires.contents pos read low past ind in_r child.walks (child.loads _ read) c.in_ok-child.child.0 (child.ok _ read) left.2 (omega (arith, c.if-count-eq1.true)), clear_none _ _ c.args.at.0 count c.args.size c.args.last c.at.result.now c.requires.sound c.requires.stands c.requires.last c.requires.contents pos read low past ind in_r child.walks (child.loads _ read) c.in_ok-child.child.0 (child.ok _ read) left.3 (omega (arith, c.if-count-eq1.true)), λ i x read' ends. let less = ends_below (refs f c.args.at.0) count c.args.size c.at.result.now read in_r past i x read' ends in let one = c.if-count-eq1.true in omega (arith, less, one))

pub keep_front-requires-in-Nothing-clause-contents : goal.keep_front-requires-in-Nothing-clause-contents
keep_front-requires-in-Nothing-clause-contents g t c =
    let f = g.N.Sets.forest c.args.n.now in
    let count = c.count_below-count.result in
    let read : slice_get (refs f c.args.at.0) (count - 1) ≡ Some c.at.result.now = rw c.get-set.ensures at c.at.ensures in
    let in_r : holds c.args.size c.at.result.now ≡ true = sym c.holds.ensures ∙ c.if-not-holds.false in
    let ind : is_indirect c.at.result.now ≡ true = sym c.is_indirect.ensures ∙ c.if-not-is_indirect.false in
    let child = c.in_ok-child.ensures in
    let left : Remains (g.N.Sets.forest c.child.new.self) (g.N.Sets.forest c.cut_below.new.n) c.in_ok-child.child.0 c.args.size c.args.last Nothing = subst (λ t. Remains (g.N.Sets.forest c.child.new.self) (g.N.Sets.forest c.cut_below.new.n) c.in_ok-child.child.0 c.args.size c.args.last t) c.in-Nothing.is c.in_ok-cut_below.ensures.left in
    let ready = ready_none _ _ c.args.at.0 (count - 1) c.args.size c.at.result.now c.requires.sound c.requires.stands read ind in_r child.walks (child.loads _ read) c.in_ok-child.child.0 (child.ok _ read) _ c.args.last left.0 left.1 c.requires.room.0 in
    contents_keep _ _ _ c.requires.sound ready.sound c.requires.stands ready.place ready.fixed c.requires.contents

pub shorten-requires-in-All-clause-contents : goal.shorten-requires-in-All-clause-contents
shorten-requires-in-All-clause-contents g t c =
    let f = g.N.Sets.forest c.args.n.now in
    let count = c.count_below-count.result in
    let read : slice_get (refs f c.args.at.0) (count - 1) ≡ Some c.at.result.now = rw c.get-set.ensures at c.at.ensures in
    let in_r : holds c.args.size c.at.result.now ≡ true = sym c.holds.ensures ∙ c.if-not-holds.false in
    let ind : is_indirect c.at.result.now ≡ true = sym c.is_indirect.ensures ∙ c.if-not-is_indirect.false in
    let child = c.in_ok-child.ensures in
    let left : Remains (g.N.Sets.forest c.child.new.self) (g.N.Sets.forest c.cut_below.new.n) c.in_ok-child.child.0 c.args.size c.args.last All = subst (λ t. Remains (g.N.Sets.forest c.child.new.self) (g.N.Sets.forest c.cut_below.new.n) c.in_ok-child.child.0 c.args.size c.args.last t) c.in-All.is c.in_ok-cut_below.ensures.left in
    let ready = ready_none _ _ c.args.at.0 (count - 1) c.args.size c.at.result.now c.requires.sound c.requires.stands read ind in_r child.walks (child.loads _ read) c.in_ok-child.child.0 (child.ok _ read) _ c.args.last left.1 left.0.touched c.requires.room.0 in
    contents_keep _ _ _ c.requires.sound ready.sound c.requires.stands ready.place ready.fixed c.requires.contents

pub returns-in-All-clause-left : goal.returns-in-All-clause-left
returns-in-All-clause-left g t c =
    let f = g.N.Sets.forest c.args.n.now in
    let count = c.count_below-count.result in
    let pos : 0 < count = (let e = c.if-count-eq0.false in omega (arith, e)) in
    let read : slice_get (refs f c.args.at.0) (count - 1) ≡ Some c.at.result.now = rw c.get-set.ensures at c.at.ensures in
    let low : c.at.result.now.key < c.args.size = c.count_below-count.ensures.below (count - 1) c.at.result.now c.at.ensures (omega (arith, pos)) in
    let past : (j : ℕ) (q : Ref) → slice_get (refs f c.args.at.0) j ≡ Some q → count ≤ j → c.args.size ≤ q.key = rw c.get-set.ensures at c.count_below-count.ensures.past in
    let in_r : holds c.args.size c.at.result.now ≡ true = sym c.holds.ensures ∙ c.if-not-holds.false in
    let ind : is_indirect c.at.result.now ≡ true = sym c.is_indirect.ensures ∙ c.if-not-is_indirect.false in
    let child = c.in_ok-child.ensures in
    let left : Remains (g.N.Sets.forest c.child.new.self) (g.N.Sets.forest c.cut_below.new.n) c.in_ok-child.child.0 c.args.size c.args.last All = subst (λ t. Remains (g.N.Sets.forest c.child.new.self) (g.N.Sets.forest c.cut_below.new.n) c.in_ok-child.child.0 c.args.size c.args.last t) c.in-All.is c.in_ok-cut_below.ensures.left in
    let under = under_none _ _ c.args.at.0 (count - 1) c.args.size c.at.result.now c.requires.sound c.requires.stands read ind in_r child.walks (child.loads _ read) c.in_ok-child.child.0 (child.ok _ read) _ c.args.last left.1 left.0.touched in
    let copies : (let k = g.N.Sets.forest c.cut_below.new.n in k.copies c.args.at.0) ≤ 62 = (let a = under.walks.copies c.args.at.0 c.requires.stands in let b = c.requires.room.0 in omega (arith, a, b)) in
    cut_short _ _ _ _ _ _ _ _ _ (ready_none _ _ c.args.at.0 (count - 1) c.args.size c.at.result.now c.requires.sound c.requires.stands read ind in_r child.walks (child.loads _ read) c.in_ok-child.child.0 (child.ok _ read) _ c.args.last left.1 left.0.touched c.requires.room.0) under (under.walks.stays c.args.at.0 c.requires.stands).place.stands copies c.shorten-in-All.ensures.shortens (none_given c.args.last) (λ i x read'. ends_before (refs f c.args.at.0) count c.args.size past i x (ap (λ (s : RefSet). slice_get s.refs i) (sym (under.walks.sets c.args.at.0 c.requires.stands)) ∙ read')) (leaves_cut _ _ c.args.at.0 count c.args.size c.args.last c.at.result.now c.requires.sound c.requires.stands c.requires.last c.requires.contents pos read low past ind in_r child.walks (child.loads _ read) c.in_ok-child.child.0 (child.ok _ read) _ left.0) (past_cut _ _ c.args.at.0 count c.args.size c.args.last c.at.result.now c.requires.sound c.requires.stands c.requires.last c.requires.contents pos read low past ind in_r child.walks (child.loads _ read) c.in_ok-child.child.0 (child.ok _ read) _ left.0) (before_cut _ _ c.args.at.0 count c.args.size c.args.last c.at.result.now c.requires.sound c.requires.stands c.requires.last c.requires.contents pos read low past ind in_r child.walks (child.loads _ read) c.in_ok-child.child.0 (child.ok _ read) _ left.0)

pub returns-in-All-clause-beside : goal.returns-in-All-clause-beside
returns-in-All-clause-beside g t c =
    beside_over _ _ _ _ _ _ _ _ (λ m st. (c.in_ok-child.ensures.walks.stays m st).place.stands) (short_none_new _ _ _ _ _ _ c.shorten-in-All.ensures.shortens) c.in_ok-child.ensures.beside c.in_ok-cut_below.ensures.beside c.shorten-in-All.ensures.beside

pub returns-in-All-clause-later : goal.returns-in-All-clause-later
returns-in-All-clause-later g t c =
    g.met.N.Sets.later_later _ _ _ c.in_ok-child.ensures.later (g.met.N.Sets.later_later _ _ _ c.in_ok-cut_below.ensures.later c.shorten-in-All.ensures.later)

pub returns-in-Something-clause-left : goal.returns-in-Something-clause-left
returns-in-Something-clause-left g t c =
    let f = g.N.Sets.forest c.args.n.now in
    let count = c.count_below-count.result in
    let pos : 0 < count = (let e = c.if-count-eq0.false in omega (arith, e)) in
    let read : slice_get (refs f c.args.at.0) (count - 1) ≡ Some c.at.result.now = rw c.get-set.ensures at c.at.ensures in
    let low : c.at.result.now.key < c.args.size = c.count_below-count.ensures.below (count - 1) c.at.result.now c.at.ensures (omega (arith, pos)) in
    let past : (j : ℕ) (q : Ref) → slice_get (refs f c.args.at.0) j ≡ Some q → count ≤ j → c.args.size ≤ q.key = rw c.get-set.ensures at c.count_below-count.ensures.past in
    let in_r : holds c.args.size c.at.result.now ≡ true = sym c.holds.ensures ∙ c.if-not-holds.false in
    let ind : is_indirect c.at.result.now ≡ true = sym c.is_indirect.ensures ∙ c.if-not-is_indirect.false in
    let child = c.in_ok-child.ensures in
    let left : Remains (g.N.Sets.forest c.child.new.self) (g.N.Sets.forest c.cut_below.new.n) c.in_ok-child.child.0 c.args.size c.args.last Something = subst (λ t. Remains (g.N.Sets.forest c.child.new.self) (g.N.Sets.forest c.cut_below.new.n) c.in_ok-child.child.0 c.args.size c.args.last t) c.in-Something.is c.in_ok-cut_below.ensures.left in
    let over : Cuts f (g.N.Sets.forest c.keep_front.new.n) c.args.at.0 c.args.size c.args.last = cuts_front _ _ _ _ _ _ _ _ (ready_cut _ _ c.args.at.0 (count - 1) c.args.size c.at.result.now c.requires.sound c.requires.stands read ind in_r child.walks (child.loads _ read) c.in_ok-child.child.0 (child.ok _ read) _ _ left.0 left.1.copies) c.keep_front.ensures.kept (leaves_cut _ _ c.args.at.0 count c.args.size c.args.last c.at.result.now c.requires.sound c.requires.stands c.requires.last c.requires.contents pos read low past ind in_r child.walks (child.loads _ read) c.in_ok-child.child.0 (child.ok _ read) _ left.0) (past_cut _ _ c.args.at.0 count c.args.size c.args.last c.at.result.now c.requires.sound c.requires.stands c.requires.last c.requires.contents pos read low past ind in_r child.walks (child.loads _ read) c.in_ok-child.child.0 (child.ok _ read) _ left.0) (before_cut _ _ c.args.at.0 count c.args.size c.args.last c.at.result.now c.requires.sound c.requires.stands c.requires.last c.requires.contents pos read low past ind in_r child.walks (child.loads _ read) c.in_ok-child.child.0 (child.ok _ read) _ left.0) in
    let nodes : CutsNodes f (g.N.Sets.forest c.keep_front.new.n) c.args.at.0 c.args.size c.args.last = nodes_over _ _ _ _ c.args.at.0 count c.in_ok-child.child.0 c.args.size c.args.last c.at.result.now child.walks (load_touched _ _ c.args.at.0 (count - 1) c.args.size c.at.result.now c.requires.sound c.requires.stands read ind in_r child.walks (child.loads _ read)) (child.walks.stays c.args.at.0 c.requires.stands).place.stands (child.walks.stays c.args.at.0 c.requires.stands).place.root pos (ap (λ (s : RefSet). slice_get s.refs (count - 1)) (child.walks.sets c.args.at.0 c.requires.stands) ∙ read) ind in_r (child.ok _ read) left.1 (kept _ _ c.args.at.0 (count - 1) c.args.size c.at.result.now c.requires.sound c.requires.stands read ind in_r child.walks (child.loads _ read) c.in_ok-child.child.0 (child.ok _ read) _ _ left.0) left.0.sound (none_to_copy _ _ c.args.at.0 (count - 1) c.args.size c.at.result.now c.requires.sound c.requires.stands read ind in_r child.walks (child.loads _ read) c.in_ok-child.child.0 (child.ok _ read) _ _ left.0 left.1.copies) c.keep_front.ensures.kept (λ i x read'. ends_before (refs f c.args.at.0) count c.args.size past i x (ap (λ (s : RefSet). slice_get s.refs i) (sym (child.walks.sets c.args.at.0 c.requires.stands)) ∙ read')) in
    (over, nodes)

pub returns-in-Something-clause-beside : goal.returns-in-Something-clause-beside
returns-in-Something-clause-beside g t c =
    beside_over _ _ _ _ _ _ _ _ (λ m st. (c.in_ok-child.ensures.walks.stays m st).place.stands) c.keep_front.ensures.kept.none_new c.in_ok-child.ensures.beside c.in_ok-cut_below.ensures.beside c.keep_front.ensures.beside

pub returns-in-Something-clause-later : goal.returns-in-Something-clause-later
returns-in-Something-clause-later g t c =
    g.met.N.Sets.later_later _ _ _ c.in_ok-child.ensures.later (g.met.N.Sets.later_later _ _ _ c.in_ok-cut_below.ensures.later c.keep_front.ensures.later)

pub returns-else-count-eq1-clause-left : goal.returns-else-count-eq1-clause-left
returns-else-count-eq1-clause-left g t c =
    let f = g.N.Sets.forest c.args.n.now in
    let count = c.count_below-count.result in
    let pos : 0 < count = (let e = c.if-count-eq0.false in omega (arith, e)) in
    let read : slice_get (refs f c.args.at.0) (count - 1) ≡ Some c.at.result.now = rw c.get-set.ensures at c.at.ensures in
    let low : c.at.result.now.key < c.args.size = c.count_below-count.ensures.below (count - 1) c.at.result.now c.at.ensures (omega (arith, pos)) in
    let past : (j : ℕ) (q : Ref) → slice_get (refs f c.args.at.0) j ≡ Some q → count ≤ j → c.args.size ≤ q.key = rw c.get-set.ensures at c.count_below-count.ensures.past in
    let in_r : holds c.args.size c.at.result.now ≡ true = sym c.holds.ensures ∙ c.if-not-holds.false in
    let ind : is_indirect c.at.result.now ≡ true = sym c.is_indirect.ensures ∙ c.if-not-is_indirect.false in
    let child = c.in_ok-child.ensures in
    let left : Remains (g.N.Sets.forest c.child.new.self) (g.N.Sets.forest c.cut_below.new.n) c.in_ok-child.child.0 c.args.size c.args.last Nothing = subst (λ t. Remains (g.N.Sets.forest c.child.new.self) (g.N.Sets.forest c.cut_below.new.n) c.in_ok-child.child.0 c.args.size c.args.last t) c.in-Nothing.is c.in_ok-cut_below.ensures.left in
    let under = under_none _ _ c.args.at.0 (count - 1) c.args.size c.at.result.now c.requires.sound c.requires.stands read ind in_r child.walks (child.loads _ read) c.in_ok-child.child.0 (child.ok _ read) _ c.args.last left.0 left.1 in
    let within : count ≤ length (refs f c.args.at.0) = rw c.get-set.ensures at c.count_below-count.ensures.within in
    let same : length (refs (g.N.Sets.forest c.cut_below.new.n) c.args.at.0) ≡ length (refs f c.args.at.0) = ap (λ (s : RefSet). length s.refs) (under.walks.sets c.args.at.0 c.requires.stands) in
    let over : Cuts f (g.N.Sets.forest c.keep_front-in-Nothing.new.n) c.args.at.0 c.args.size c.args.last = cuts_front _ _ _ _ _ _ _ _ (ready_none _ _ c.args.at.0 (count - 1) c.args.size c.at.result.now c.requires.sound c.requires.stands read ind in_r child.walks (child.loads _ read) c.in_ok-child.child.0 (child.ok _ read) _ c.args.last left.0 left.1 c.requires.room.0) c.keep_front-in-Nothing.ensures.kept (leaves_front _ _ c.args.at.0 count c.args.size c.args.last c.at.result.now c.requires.sound c.requires.stands c.requires.last c.requires.contents pos read low past ind in_r child.walks (child.loads _ read) c.in_ok-child.child.0 (child.ok _ read) left.2 _ left.0.walks) (past_front _ _ c.args.at.0 count c.args.size c.args.last c.at.result.now c.requires.sound c.requires.stands c.requires.last c.requires.contents pos read low past ind in_r child.walks (child.loads _ read) c.in_ok-child.child.0 (child.ok _ read) _ left.0.walks) (before_front _ _ c.args.at.0 count c.args.size c.args.last c.at.result.now c.requires.sound c.requires.stands c.requires.last c.requires.contents pos read low past ind in_r child.walks (child.loads _ read) c.in_ok-child.child.0 (child.ok _ read) left.3 _ left.0.walks) in
    let nodes : CutsNodes f (g.N.Sets.forest c.keep_front-in-Nothing.new.n) c.args.at.0 c.args.size c.args.last = nodes_here _ _ _ _ _ _ _ _ under.walks (touched_none _ _ c.args.at.0 (count - 1) c.args.size c.at.result.now c.requires.sound c.requires.stands read ind in_r child.walks (child.loads _ read) c.in_ok-child.child.0 (child.ok _ read) _ c.args.last left.0 left.1) (under.walks.stays c.args.at.0 c.requires.stands).place.stands c.keep_front-in-Nothing.ensures.kept (inr (inl (omega (arith, pos, within, same)))) (none_given c.args.last) (λ i x read'. ends_below (refs f c.args.at.0) count c.args.size c.at.result.now read in_r past i x (ap (λ (s : RefSet). slice_get s.refs i) (sym (under.walks.sets c.args.at.0 c.requires.stands)) ∙ read')) in
    (over, nodes)

pub returns-else-count-eq1-clause-beside : goal.returns-else-count-eq1-clause-beside
returns-else-count-eq1-clause-beside g t c =
    beside_over _ _ _ _ _ _ _ _ (λ m st. (c.in_ok-child.ensures.walks.stays m st).place.stands) c.keep_front-in-Nothing.ensures.kept.none_new c.in_ok-child.ensures.beside c.in_ok-cut_below.ensures.beside c.keep_front-in-Nothing.ensures.beside

pub returns-else-count-eq1-clause-later : goal.returns-else-count-eq1-clause-later
returns-else-count-eq1-clause-later g t c =
    g.met.N.Sets.later_later _ _ _ c.in_ok-child.ensures.later (g.met.N.Sets.later_later _ _ _ c.in_ok-cut_below.ensures.later c.keep_front-in-Nothing.ensures.later)

pub shorten-requires-in-All-clause-stands : goal.shorten-requires-in-All-clause-stands
shorten-requires-in-All-clause-stands g t c =
    let f = g.N.Sets.forest c.args.n.now in
    let count = c.count_below-count.result in
    let read : slice_get (refs f c.args.at.0) (count - 1) ≡ Some c.at.result.now = rw c.get-set.ensures at c.at.ensures in
    let in_r : holds c.args.size c.at.result.now ≡ true = sym c.holds.ensures ∙ c.if-not-holds.false in
    let ind : is_indirect c.at.result.now ≡ true = sym c.is_indirect.ensures ∙ c.if-not-is_indirect.false in
    let child = c.in_ok-child.ensures in
    let left : Remains (g.N.Sets.forest c.child.new.self) (g.N.Sets.forest c.cut_below.new.n) c.in_ok-child.child.0 c.args.size c.args.last All = subst (λ t. Remains (g.N.Sets.forest c.child.new.self) (g.N.Sets.forest c.cut_below.new.n) c.in_ok-child.child.0 c.args.size c.args.last t) c.in-All.is c.in_ok-cut_below.ensures.left in
    (ready_none _ _ c.args.at.0 (count - 1) c.args.size c.at.result.now c.requires.sound c.requires.stands read ind in_r child.walks (child.loads _ read) c.in_ok-child.child.0 (child.ok _ read) _ c.args.last left.1 left.0.touched c.requires.room.0).place.stands

pub shorten-requires-in-All-clause-room : goal.shorten-requires-in-All-clause-room
shorten-requires-in-All-clause-room g t c =
    let f = g.N.Sets.forest c.args.n.now in
    let count = c.count_below-count.result in
    let read : slice_get (refs f c.args.at.0) (count - 1) ≡ Some c.at.result.now = rw c.get-set.ensures at c.at.ensures in
    let in_r : holds c.args.size c.at.result.now ≡ true = sym c.holds.ensures ∙ c.if-not-holds.false in
    let ind : is_indirect c.at.result.now ≡ true = sym c.is_indirect.ensures ∙ c.if-not-is_indirect.false in
    let child = c.in_ok-child.ensures in
    let left : Remains (g.N.Sets.forest c.child.new.self) (g.N.Sets.forest c.cut_below.new.n) c.in_ok-child.child.0 c.args.size c.args.last All = subst (λ t. Remains (g.N.Sets.forest c.child.new.self) (g.N.Sets.forest c.cut_below.new.n) c.in_ok-child.child.0 c.args.size c.args.last t) c.in-All.is c.in_ok-cut_below.ensures.left in
    let ready = ready_none _ _ c.args.at.0 (count - 1) c.args.size c.at.result.now c.requires.sound c.requires.stands read ind in_r child.walks (child.loads _ read) c.in_ok-child.child.0 (child.ok _ read) _ c.args.last left.1 left.0.touched c.requires.room.0 in
    omega (arith, ready.room, c.requires.room.1)

pub shorten-requires-in-All-clause-within : goal.shorten-requires-in-All-clause-within
shorten-requires-in-All-clause-within g t c =
    let f = g.N.Sets.forest c.args.n.now in
    let count = c.count_below-count.result in
    let pos : 0 < count = (let e = c.if-count-eq0.false in omega (arith, e)) in
    let read : slice_get (refs f c.args.at.0) (count - 1) ≡ Some c.at.result.now = rw c.get-set.ensures at c.at.ensures in
    let in_r : holds c.args.size c.at.result.now ≡ true = sym c.holds.ensures ∙ c.if-not-holds.false in
    let ind : is_indirect c.at.result.now ≡ true = sym c.is_indirect.ensures ∙ c.if-not-is_indirect.false in
    let child = c.in_ok-child.ensures in
    let left : Remains (g.N.Sets.forest c.child.new.self) (g.N.Sets.forest c.cut_below.new.n) c.in_ok-child.child.0 c.args.size c.args.last All = subst (λ t. Remains (g.N.Sets.forest c.child.new.self) (g.N.Sets.forest c.cut_below.new.n) c.in_ok-child.child.0 c.args.size c.args.last t) c.in-All.is c.in_ok-cut_below.ensures.left in
    let under = under_none _ _ c.args.at.0 (count - 1) c.args.size c.at.result.now c.requires.sound c.requires.stands read ind in_r child.walks (child.loads _ read) c.in_ok-child.child.0 (child.ok _ read) _ c.args.last left.1 left.0.touched in
    let within : count ≤ length (refs f c.args.at.0) = rw c.get-set.ensures at c.count_below-count.ensures.within in
    let same : length (refs (g.N.Sets.forest c.cut_below.new.n) c.args.at.0) ≡ length (refs f c.args.at.0) = ap (λ (s : RefSet). length s.refs) (under.walks.sets c.args.at.0 c.requires.stands) in
    (pos, omega (arith, within, same))

pub keep_front-requires-in-Nothing-clause-stands : goal.keep_front-requires-in-Nothing-clause-stands
keep_front-requires-in-Nothing-clause-stands g t c =
    let f = g.N.Sets.forest c.args.n.now in
    let count = c.count_below-count.result in
    let read : slice_get (refs f c.args.at.0) (count - 1) ≡ Some c.at.result.now = rw c.get-set.ensures at c.at.ensures in
    let in_r : holds c.args.size c.at.result.now ≡ true = sym c.holds.ensures ∙ c.if-not-holds.false in
    let ind : is_indirect c.at.result.now ≡ true = sym c.is_indirect.ensures ∙ c.if-not-is_indirect.false in
    let child = c.in_ok-child.ensures in
    let left : Remains (g.N.Sets.forest c.child.new.self) (g.N.Sets.forest c.cut_below.new.n) c.in_ok-child.child.0 c.args.size c.args.last Nothing = subst (λ t. Remains (g.N.Sets.forest c.child.new.self) (g.N.Sets.forest c.cut_below.new.n) c.in_ok-child.child.0 c.args.size c.args.last t) c.in-Nothing.is c.in_ok-cut_below.ensures.left in
    (ready_none _ _ c.args.at.0 (count - 1) c.args.size c.at.result.now c.requires.sound c.requires.stands read ind in_r child.walks (child.loads _ read) c.in_ok-child.child.0 (child.ok _ read) _ c.args.last left.0 left.1 c.requires.room.0).place.stands

pub keep_front-requires-in-Nothing-clause-room : goal.keep_front-requires-in-Nothing-clause-room
keep_front-requires-in-Nothing-clause-room g t c =
    let f = g.N.Sets.forest c.args.n.now in
    let count = c.count_below-count.result in
    let read : slice_get (refs f c.args.at.0) (count - 1) ≡ Some c.at.result.now = rw c.get-set.ensures at c.at.ensures in
    let in_r : holds c.args.size c.at.result.now ≡ true = sym c.holds.ensures ∙ c.if-not-holds.false in
    let ind : is_indirect c.at.result.now ≡ true = sym c.is_indirect.ensures ∙ c.if-not-is_indirect.false in
    let child = c.in_ok-child.ensures in
    let left : Remains (g.N.Sets.forest c.child.new.self) (g.N.Sets.forest c.cut_below.new.n) c.in_ok-child.child.0 c.args.size c.args.last Nothing = subst (λ t. Remains (g.N.Sets.forest c.child.new.self) (g.N.Sets.forest c.cut_below.new.n) c.in_ok-child.child.0 c.args.size c.args.last t) c.in-Nothing.is c.in_ok-cut_below.ensures.left in
    let ready = ready_none _ _ c.args.at.0 (count - 1) c.args.size c.at.result.now c.requires.sound c.requires.stands read ind in_r child.walks (child.loads _ read) c.in_ok-child.child.0 (child.ok _ read) _ c.args.last left.0 left.1 c.requires.room.0 in
    omega (arith, ready.room, c.requires.room.1)

pub keep_front-requires-in-Nothing-clause-some : goal.keep_front-requires-in-Nothing-clause-some
keep_front-requires-in-Nothing-clause-some g t c =
    let f = g.N.Sets.forest c.args.n.now in
    let count = c.count_below-count.result in
    let pos : 0 < count = (let e = c.if-count-eq0.false in omega (arith, e)) in
    let read : slice_get (refs f c.args.at.0) (count - 1) ≡ Some c.at.result.now = rw c.get-set.ensures at c.at.ensures in
    let in_r : holds c.args.size c.at.result.now ≡ true = sym c.holds.ensures ∙ c.if-not-holds.false in
    let ind : is_indirect c.at.result.now ≡ true = sym c.is_indirect.ensures ∙ c.if-not-is_indirect.false in
    let child = c.in_ok-child.ensures in
    let left : Remains (g.N.Sets.forest c.child.new.self) (g.N.Sets.forest c.cut_below.new.n) c.in_ok-child.child.0 c.args.size c.args.last Nothing = subst (λ t. Remains (g.N.Sets.forest c.child.new.self) (g.N.Sets.forest c.cut_below.new.n) c.in_ok-child.child.0 c.args.size c.args.last t) c.in-Nothing.is c.in_ok-cut_below.ensures.left in
    let under = under_none _ _ c.args.at.0 (count - 1) c.args.size c.at.result.now c.requires.sound c.requires.stands read ind in_r child.walks (child.loads _ read) c.in_ok-child.child.0 (child.ok _ read) _ c.args.last left.0 left.1 in
    let within : count ≤ length (refs f c.args.at.0) = rw c.get-set.ensures at c.count_below-count.ensures.within in
    let same : length (refs (g.N.Sets.forest c.cut_below.new.n) c.args.at.0) ≡ length (refs f c.args.at.0) = ap (λ (s : RefSet). length s.refs) (under.walks.sets c.args.at.0 c.requires.stands) in
    inr (let more = c.if-count-eq1.false in omega (arith, pos, more), omega (arith, pos, within, same))

pub returns-in_err-child-clause-good : goal.returns-in_err-child-clause-good
returns-in_err-child-clause-good g t c =
    let f = g.N.Sets.forest c.args.n.now in
    let count = c.count_below-count.result in
    let read : slice_get (refs f c.args.at.0) (count - 1) ≡ Some c.at.result.now = rw c.get-set.ensures at c.at.ensures in
    let ind : is_indirect c.at.result.now ≡ true = sym c.is_indirect.ensures ∙ c.if-not-is_indirect.false in
    carried_good _ _ c.from_residual.result c.in_err-child.field-0.0 c.from_residual.ensures.1 (good_load f c.args.at.0 (count - 1) c.at.result.now c.in_err-child.field-0.0 read ind c.in_err-child.ensures.unloaded c.in_err-child.ensures.good)

pub returns-in_err-cut_below-clause-good : goal.returns-in_err-cut_below-clause-good
returns-in_err-cut_below-clause-good g t c =
    let f = g.N.Sets.forest c.args.n.now in
    let count = c.count_below-count.result in
    let read : slice_get (refs f c.args.at.0) (count - 1) ≡ Some c.at.result.now = rw c.get-set.ensures at c.at.ensures in
    let ind : is_indirect c.at.result.now ≡ true = sym c.is_indirect.ensures ∙ c.if-not-is_indirect.false in
    let child = c.in_ok-child.ensures in
    carried_good _ _ c.from_residual-in_err-cut_below.result c.in_err-cut_below.field-0.0 c.from_residual-in_err-cut_below.ensures.1 (good_below f _ c.args.at.0 (count - 1) c.in_ok-child.child.0 c.at.result.now c.in_err-cut_below.field-0.0 c.requires.sound c.requires.stands child.walks read ind (child.ok _ read) c.in_err-cut_below.ensures.good)

pub returns-in_err-child-clause-met_only : goal.returns-in_err-child-clause-met_only
returns-in_err-child-clause-met_only g t c = handed_met_only _ _ _ c.from_residual.result c.in_err-child.field-0.0 c.from_residual.ensures.1 (MeetsNone-refl _) c.in_err-child.ensures.met_only

pub returns-in_err-cut_below-clause-met_only : goal.returns-in_err-cut_below-clause-met_only
returns-in_err-cut_below-clause-met_only g t c = handed_met_only _ _ _ c.from_residual-in_err-cut_below.result c.in_err-cut_below.field-0.0 c.from_residual-in_err-cut_below.ensures.1 c.in_ok-child.ensures.none_met c.in_err-cut_below.ensures.met_only

pub returns-then-count-eq1-clause-none_met : goal.returns-then-count-eq1-clause-none_met
returns-then-count-eq1-clause-none_met g t c = MeetsNone-trans _ _ _ c.in_ok-child.ensures.none_met c.in_ok-cut_below.ensures.none_met

pub returns-in-All-clause-none_met : goal.returns-in-All-clause-none_met
returns-in-All-clause-none_met g t c = MeetsNone-trans _ _ _ (MeetsNone-trans _ _ _ c.in_ok-child.ensures.none_met c.in_ok-cut_below.ensures.none_met) c.shorten-in-All.ensures.none_met

pub returns-in-Something-clause-none_met : goal.returns-in-Something-clause-none_met
returns-in-Something-clause-none_met g t c = MeetsNone-trans _ _ _ (MeetsNone-trans _ _ _ c.in_ok-child.ensures.none_met c.in_ok-cut_below.ensures.none_met) c.keep_front.ensures.none_met

pub returns-else-count-eq1-clause-none_met : goal.returns-else-count-eq1-clause-none_met
returns-else-count-eq1-clause-none_met g t c = MeetsNone-trans _ _ _ (MeetsNone-trans _ _ _ c.in_ok-child.ensures.none_met c.in_ok-cut_below.ensures.none_met) c.keep_front-in-Nothing.ensures.none_met
