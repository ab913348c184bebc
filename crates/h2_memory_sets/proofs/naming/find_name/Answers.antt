use Rattle.std.proofs.Common.{sym, ◌∙◌, slice_index_or}
use Rattle.std.proofs.lemmas.Option.{slice_get-get_or}
use Rattle.std.proofs.lemmas.List.Quantifiers.{position-Some}
use Rattle.h2_memory_sets.specs.Names.{is_name_at}
use Rattle.h2_memory_sets.proofs.LongNames.{found_name, if_none, name_len, no_name}
use Rattle.h2_memory_sets.proofs.naming.find_name.Goals as goal

pub returns-in_err-i-clause-none : goal.returns-in_err-i-clause-none
returns-in_err-i-clause-none c = if_none _ (no_name c.args.place c.args.len c.args.names.now (sym c.find_place.ensures ∙ c.in_err-i.was))

pub returns-clause-found : goal.returns-clause-found
returns-clause-found c =
    let xs = c.args.names.now in
    let i = c.in_ok-i.i in
    let x = c.index-names-i.result in
    let first = sym c.find_place.ensures ∙ c.in_ok-i.was in
    found_name c.args.place c.args.len xs i (slice_index_or xs i x) first (slice_get-get_or xs i x (position-Some (is_name_at c.args.place c.args.len) xs i x first).0)

pub returns-clause-len : goal.returns-clause-len
returns-clause-len c =
    let xs = c.args.names.now in
    let i = c.in_ok-i.i in
    let x = c.index-names-i.result in
    let first = sym c.find_place.ensures ∙ c.in_ok-i.was in
    name_len c.args.place c.args.len xs _ (found_name c.args.place c.args.len xs i (slice_index_or xs i x) first (slice_get-get_or xs i x (position-Some (is_name_at c.args.place c.args.len) xs i x first).0))
