use Rattle.std.proofs.Common.{All, List, subst, sym}
use Rattle.h2_ref.specs.declared.reference.Ref.{Ref}
use Rattle.h2_ref.specs.Ref.{IsValid}
use Rattle.h2_codec_bench.proofs.Pushed.{valid_push}
use Rattle.h2_codec_bench.proofs.references.push.Goals as goal

-- the reference stands behind the others
pub returns : goal.returns
returns c =
    subst (λ (refs : List Ref). All IsValid refs) (sym c.in_ok-push.ensures.items) (valid_push c.args.refs.now.items c.args.r c.requires.before c.requires.valid)
