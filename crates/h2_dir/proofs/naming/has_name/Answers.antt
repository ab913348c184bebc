use Rattle.std.proofs.Common.{ℕ, List, rules}
use Rattle.h2_set.specs.Calls.{IsBad}
use Rattle.h2_dir.specs.Names.{IsEntryNamed}
use Rattle.h2_dir.proofs.Known.{no_bad_name}
use Rattle.h2_set.specs.MetLaws.{MeetsNone-refl, handed_met_only}
use Rattle.h2_dir.proofs.naming.has_name.Goals as goal

pub returns-in_err-told-clause-good : goal.returns-in_err-told-clause-good
returns-in_err-told-clause-good g c =
    let f = g.N.Sets.forest c.args.n.now in
    let e = c.in_err-told.field-0.0 in
    let entry = c.in-Some.entry in
    let good : (own : List ℕ) → IsEntryNamed f c.args.leaf.now own → IsBad e → ⊥ = λ own named bad. no_bad_name f c.args.leaf.now entry own e c.in-Some.is (λ short. c.in_err-told.ensures.unread entry c.in-Some.is short) c.in_err-told.ensures.good named bad in
    search (good, rules)

pub returns-in_err-told-clause-met_only : goal.returns-in_err-told-clause-met_only
returns-in_err-told-clause-met_only g c = handed_met_only _ _ _ c.from_residual.result c.in_err-told.field-0.0 c.from_residual.ensures.1 (MeetsNone-refl _) c.in_err-told.ensures.met_only
