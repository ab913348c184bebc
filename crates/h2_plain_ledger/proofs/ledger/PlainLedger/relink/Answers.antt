use Rattle.std.proofs.Common.{rules}
use Rattle.h2_plain_ledger.specs.PlainLedger.{lists_of}
use Rattle.h2_plain_ledger.proofs.Quiet.{relinks_as}
use Rattle.h2_plain_ledger.proofs.ledger.PlainLedger.relink.Goals as goal

pub returns-then-not-may_relink-clause-relinks : goal.returns-then-not-may_relink-clause-relinks
returns-then-not-may_relink-clause-relinks c = rw (c.deref.ensures.value, c.deref-2.ensures.value, c.deref-3.ensures.value, c.deref-4.ensures.value) at c.if-not-may_relink.ensures

pub returns-clause-relinks : goal.returns-clause-relinks
returns-clause-relinks c = rw (c.deref.ensures.value, c.deref-2.ensures.value, c.deref-3.ensures.value, c.deref-4.ensures.value) at c.if-not-may_relink.ensures

pub returns-clause-moves : goal.returns-clause-moves
returns-clause-moves c =
    relinks_as (lists_of c.args.self.now) c.deref.result.now c.deref-2.result.now c.deref-3.result.now c.deref-4.result.now c.args.live.items c.args.pins.items
    (search rules) (search rules) (search rules) (search rules) (c.may_relink.ensures.0 c.if-not-may_relink.false)
