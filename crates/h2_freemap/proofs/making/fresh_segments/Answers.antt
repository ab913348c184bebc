use Rattle.std.proofs.Common.{◌≡◌, ℕ, ◌+◌, [], ◌∷◌, ◌++◌, List, ap, sym, ◌∙◌, arith, subst}
use Rattle.h2_codes.specs.declared.code.Code.{Code}
use Rattle.h2_freemap.specs.Made.{AreFresh}
use Rattle.h2_freemap.proofs.Fresh.{fresh_none, fresh_more}
use Rattle.h2_freemap.proofs.making.fresh_segments.Goals as goal

pub loop-s-init : goal.loop-s-init
loop-s-init c = fresh_none c.in_ok-segments.segments.items c.in_ok-segments.ensures.items

pub loop-s-preserved : goal.loop-s-preserved
loop-s-preserved c =
    subst (AreFresh (c.loop-s.s + 1)) (sym (c.in_ok-push.ensures.items ∙ ap (λ (codes : List Code). c.loop-s.segments.items ++ codes ∷ []) c.new.ensures)) (fresh_more c.loop-s.segments.items c.loop-s.s c.loop-s.invariant)

pub returns : goal.returns
returns c = let all : c.loop-s.s ≡ c.args.count = omega arith in subst (λ (n : ℕ). AreFresh n c.loop-s.segments.items) all c.loop-s.invariant
