use Rattle.std.proofs.Common.{rules}
use Rattle.std.proofs.lemmas.List.{with_items_is}
use Rattle.h2_plain_ledger.proofs.Applying.{makes_apply, applied_as}
use Rattle.h2_plain_ledger.proofs.ledger.PlainLedger.apply.Goals as goal

pub returns-clause-moves : goal.returns-clause-moves
returns-clause-moves c = makes_apply _ _ (record {
  number = c.in-Scanning.number;
  segment = c.in-Scanning.applied;
  was = c.in-Scanning.is;
  in_volume = search rules;
  codes = applied_as c.deref.result.now _ _ _ c.deref_mut.result.now _ c.apply_segment.new.codes _ (search rules) (search rules) (with_items_is c.args.self.now.codes c.apply_segment.new.codes (search rules)) c.apply_segment.ensures;
  small = search rules;
  middle = search rules;
  pass = search rules;
  new = search rules;
})
