use Rattle.std.proofs.Common.{ℕ, List, sym, ◌∙◌, rules}
use Rattle.std.proofs.lemmas.Option.{none-some}
use Rattle.h2_set.specs.Calls.{IsBad}
use Rattle.h2_dir.specs.Names.{IsEntryNamed}
use Rattle.h2_dir.proofs.Known.{no_bad_name}
use Rattle.h2_set.specs.MetLaws.{MeetsNone-refl, handed_met_only}
use Rattle.h2_dir.proofs.listing.entry_of.Goals as goal

pub unreachable-requires : goal.unreachable-requires
unreachable-requires g c = none-some c.requires.leaf.entry (sym c.in_default.is ∙ c.requires.leaf.entry_is)

pub name-requires-clause-valid : goal.name-requires-clause-valid
name-requires-clause-valid g c = c.requires.leaf.valid

pub name-requires-clause-entry : goal.name-requires-clause-entry
name-requires-clause-entry g c = (c.requires.leaf.entry, c.requires.leaf.entry_is)

pub returns-in_err-told-clause-good : goal.returns-in_err-told-clause-good
returns-in_err-told-clause-good g c =
    let f = g.N.Sets.forest c.args.n.now in
    let entry = c.requires.leaf.entry in
    let good : (own : List ℕ) → IsEntryNamed f c.args.leaf.now own → IsBad c.in_err-told.field-0.0 → ⊥ = λ own named bad. no_bad_name f c.args.leaf.now entry own c.in_err-told.field-0.0 c.requires.leaf.entry_is (λ short. c.in_err-told.ensures.unread entry c.requires.leaf.entry_is short) c.in_err-told.ensures.good named bad in
    search (good, rules)

pub returns-in_err-told-clause-met_only : goal.returns-in_err-told-clause-met_only
returns-in_err-told-clause-met_only g c = handed_met_only _ _ _ c.from_residual.result c.in_err-told.field-0.0 c.from_residual.ensures.1 (MeetsNone-refl _) c.in_err-told.ensures.met_only
