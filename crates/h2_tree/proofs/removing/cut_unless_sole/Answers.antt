use Rattle.std.proofs.Common.{◌≡◌, ap, sym, ◌∙◌, refl, length}
use Rattle.h2_set.specs.RefSet.{RefSet}
use Rattle.h2_set.specs.Forest.{refs}
use Rattle.h2_tree.proofs.Taking.{under_refl, only_first, only_at_key}
use Rattle.h2_tree.proofs.Touching.{In-refl}
use Rattle.h2_tree.proofs.removing.cut_unless_sole.Goals as goal

pub returns-then-len-eq1-clause-taken : goal.returns-then-len-eq1-clause-taken
returns-then-len-eq1-clause-taken g c =
    let one : length (refs (g.N.Sets.forest c.args.n.now) c.args.at.0) ≡ 1 = ap (λ (s : RefSet). length s.refs) (sym c.get.ensures) ∙ sym c.len.ensures.len ∙ c.if-len-eq1.true in
    (under_refl _ _ c.requires.stands c.requires.sound, one, only_first _ _ _ _ one c.requires.only, refl, In-refl _ _ _ _)

pub returns-clause-taken : goal.returns-clause-taken
returns-clause-taken g c = (c.cut_at.ensures.removes c.args.leaf c.requires.only c.requires.free, refl, only_at_key _ _ _ _ c.requires.sound c.requires.stands c.requires.only)
