use Rattle.std.proofs.Common.{inl, arith, sym, ◌∙◌, subst}
use Rattle.h2_tree.specs.Changes.{TakesOut}
use Rattle.h2_tree.specs.declared.removing.Taken.TheVariants.{Nothing, Out, Sole}
use Rattle.h2_tree.specs.AnswerLaws.{always_err, beside_on}
use Rattle.h2_tree.proofs.TakeBelow.{root_free, root_room, root_answer, root_removes}
use Rattle.h2_tree.proofs.Leaving.{removes_paths, removes_path}
use Rattle.h2_set.specs.MetLaws.{MeetsNone-trans}
use Rattle.h2_tree.proofs.removing.remove.Goals as goal

pub returns-in-Out-clause-paths : goal.returns-in-Out-clause-paths
returns-in-Out-clause-paths g c =
    let taken : TakesOut (g.N.Sets.forest c.args.n.now) (g.N.Sets.forest c.take.new.n) c.args.root.0 c.args.key (Out c.in-Out.leaf) = subst (λ t. TakesOut (g.N.Sets.forest c.args.n.now) (g.N.Sets.forest c.take.new.n) c.args.root.0 c.args.key t) c.in-Out.is c.in_ok-take.ensures.taken in
    removes_paths _ _ _ c.in-Out.leaf c.requires.sound c.requires.stands taken.0

pub returns-in-Out-clause-path : goal.returns-in-Out-clause-path
returns-in-Out-clause-path g c =
    let taken : TakesOut (g.N.Sets.forest c.args.n.now) (g.N.Sets.forest c.take.new.n) c.args.root.0 c.args.key (Out c.in-Out.leaf) = subst (λ t. TakesOut (g.N.Sets.forest c.args.n.now) (g.N.Sets.forest c.take.new.n) c.args.root.0 c.args.key t) c.in-Out.is c.in_ok-take.ensures.taken in
    removes_path _ _ _ c.in-Out.leaf c.requires.stands taken.0

pub returns-in_err-take-clause-touched : goal.returns-in_err-take-clause-touched
returns-in_err-take-clause-touched g c = always_err c.from_residual.result c.in_err-take.ensures.touched.touched

pub returns-in_err-take-clause-tree : goal.returns-in_err-take-clause-tree
returns-in_err-take-clause-tree g c = always_err c.from_residual.result c.in_err-take.ensures.touched

pub returns-in-Nothing-clause-none : goal.returns-in-Nothing-clause-none
returns-in-Nothing-clause-none g c =
    let taken : TakesOut (g.N.Sets.forest c.args.n.now) (g.N.Sets.forest c.take.new.n) c.args.root.0 c.args.key Nothing = subst (λ t. TakesOut (g.N.Sets.forest c.args.n.now) (g.N.Sets.forest c.take.new.n) c.args.root.0 c.args.key t) c.in-Nothing.is c.in_ok-take.ensures.taken in
    taken.3

pub returns-in-Nothing-clause-off : goal.returns-in-Nothing-clause-off
returns-in-Nothing-clause-off g c =
    let taken : TakesOut (g.N.Sets.forest c.args.n.now) (g.N.Sets.forest c.take.new.n) c.args.root.0 c.args.key Nothing = subst (λ t. TakesOut (g.N.Sets.forest c.args.n.now) (g.N.Sets.forest c.take.new.n) c.args.root.0 c.args.key t) c.in-Nothing.is c.in_ok-take.ensures.taken in
    taken.2.touched

pub returns-in-Nothing-clause-off_tree : goal.returns-in-Nothing-clause-off_tree
returns-in-Nothing-clause-off_tree g c =
    let taken : TakesOut (g.N.Sets.forest c.args.n.now) (g.N.Sets.forest c.take.new.n) c.args.root.0 c.args.key Nothing = subst (λ t. TakesOut (g.N.Sets.forest c.args.n.now) (g.N.Sets.forest c.take.new.n) c.args.root.0 c.args.key t) c.in-Nothing.is c.in_ok-take.ensures.taken in
    taken.2

pub returns-in-Out-clause-answer : goal.returns-in-Out-clause-answer
returns-in-Out-clause-answer g c =
    let taken : TakesOut (g.N.Sets.forest c.args.n.now) (g.N.Sets.forest c.take.new.n) c.args.root.0 c.args.key (Out c.in-Out.leaf) = subst (λ t. TakesOut (g.N.Sets.forest c.args.n.now) (g.N.Sets.forest c.take.new.n) c.args.root.0 c.args.key t) c.in-Out.is c.in_ok-take.ensures.taken in
    λ l hl. sym (taken.2 l hl)

pub take-requires-clause-room : goal.take-requires-clause-room
take-requires-clause-room g c = let node = c.requires.sound.node c.args.root.0 c.requires.stands in (omega (arith, node.top c.requires.top), c.requires.room)

pub take-requires-clause-free : goal.take-requires-clause-free
take-requires-clause-free g c = rw c.requires.top c.requires.free

pub cut_at-requires-clause-room : goal.cut_at-requires-clause-room
cut_at-requires-clause-room g c =
    let taken : TakesOut (g.N.Sets.forest c.args.n.now) (g.N.Sets.forest c.take.new.n) c.args.root.0 c.args.key (Sole c.in-Sole.leaf) = subst (λ t. TakesOut (g.N.Sets.forest c.args.n.now) (g.N.Sets.forest c.take.new.n) c.args.root.0 c.args.key t) c.in-Sole.is c.in_ok-take.ensures.taken in
    root_room _ _ _ _ c.in-Sole.leaf c.requires.sound c.requires.stands c.requires.top taken c.requires.room

pub cut_at-requires-clause-only : goal.cut_at-requires-clause-only
cut_at-requires-clause-only g c =
    let taken : TakesOut (g.N.Sets.forest c.args.n.now) (g.N.Sets.forest c.take.new.n) c.args.root.0 c.args.key (Sole c.in-Sole.leaf) = subst (λ t. TakesOut (g.N.Sets.forest c.args.n.now) (g.N.Sets.forest c.take.new.n) c.args.root.0 c.args.key t) c.in-Sole.is c.in_ok-take.ensures.taken in
    (c.in-Sole.leaf, taken.2, root_free _ _ _ _ c.in-Sole.leaf c.requires.sound c.requires.stands c.requires.top taken c.requires.free)

pub cut_at-requires-clause-more : goal.cut_at-requires-clause-more
cut_at-requires-clause-more g c =
    let taken : TakesOut (g.N.Sets.forest c.args.n.now) (g.N.Sets.forest c.take.new.n) c.args.root.0 c.args.key (Sole c.in-Sole.leaf) = subst (λ t. TakesOut (g.N.Sets.forest c.args.n.now) (g.N.Sets.forest c.take.new.n) c.args.root.0 c.args.key t) c.in-Sole.is c.in_ok-take.ensures.taken in
    inl ((taken.0.walks.stays c.args.root.0 c.requires.stands).place.root ∙ c.requires.top)

pub cut_at-requires-clause-stands : goal.cut_at-requires-clause-stands
cut_at-requires-clause-stands g c =
    let taken : TakesOut (g.N.Sets.forest c.args.n.now) (g.N.Sets.forest c.take.new.n) c.args.root.0 c.args.key (Sole c.in-Sole.leaf) = subst (λ t. TakesOut (g.N.Sets.forest c.args.n.now) (g.N.Sets.forest c.take.new.n) c.args.root.0 c.args.key t) c.in-Sole.is c.in_ok-take.ensures.taken in
    (taken.0.walks.stays c.args.root.0 c.requires.stands).place.stands

pub returns-in-Sole-clause-answer : goal.returns-in-Sole-clause-answer
returns-in-Sole-clause-answer g c =
    let taken : TakesOut (g.N.Sets.forest c.args.n.now) (g.N.Sets.forest c.take.new.n) c.args.root.0 c.args.key (Sole c.in-Sole.leaf) = subst (λ t. TakesOut (g.N.Sets.forest c.args.n.now) (g.N.Sets.forest c.take.new.n) c.args.root.0 c.args.key t) c.in-Sole.is c.in_ok-take.ensures.taken in
    root_answer _ _ _ _ c.in-Sole.leaf c.requires.sound c.requires.stands taken

pub returns-in-Sole-clause-removes : goal.returns-in-Sole-clause-removes
returns-in-Sole-clause-removes g c =
    let taken : TakesOut (g.N.Sets.forest c.args.n.now) (g.N.Sets.forest c.take.new.n) c.args.root.0 c.args.key (Sole c.in-Sole.leaf) = subst (λ t. TakesOut (g.N.Sets.forest c.args.n.now) (g.N.Sets.forest c.take.new.n) c.args.root.0 c.args.key t) c.in-Sole.is c.in_ok-take.ensures.taken in
    root_removes _ _ _ _ _ c.in-Sole.leaf c.requires.sound c.requires.stands taken (c.cut_at.ensures.removes c.in-Sole.leaf taken.2 (root_free _ _ _ _ c.in-Sole.leaf c.requires.sound c.requires.stands c.requires.top taken c.requires.free))

pub returns-in-Sole-clause-beside : goal.returns-in-Sole-clause-beside
returns-in-Sole-clause-beside g c =
    let taken : TakesOut (g.N.Sets.forest c.args.n.now) (g.N.Sets.forest c.take.new.n) c.args.root.0 c.args.key (Sole c.in-Sole.leaf) = subst (λ t. TakesOut (g.N.Sets.forest c.args.n.now) (g.N.Sets.forest c.take.new.n) c.args.root.0 c.args.key t) c.in-Sole.is c.in_ok-take.ensures.taken in
    beside_on _ _ _ _ _ _ (λ m st. (taken.0.walks.stays m st).place.stands) c.in_ok-take.ensures.beside c.cut_at.ensures.beside

pub returns-in-Sole-clause-paths : goal.returns-in-Sole-clause-paths
returns-in-Sole-clause-paths g c = removes_paths _ _ _ c.in-Sole.leaf c.requires.sound c.requires.stands (returns-in-Sole-clause-removes g c)

pub returns-in-Sole-clause-path : goal.returns-in-Sole-clause-path
returns-in-Sole-clause-path g c = removes_path _ _ _ c.in-Sole.leaf c.requires.stands (returns-in-Sole-clause-removes g c)

pub returns-in-Sole-clause-none_met : goal.returns-in-Sole-clause-none_met
returns-in-Sole-clause-none_met g c = MeetsNone-trans _ _ _ c.in_ok-take.ensures.none_met c.cut_at.ensures.none_met
