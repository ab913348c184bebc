-- What a plain ledger keeps, and the ledger that it is.
use Rattle.std.specs.Prelude.{List}
use Rattle.h2_num.specs.declared.block.Block.{Block}
use Rattle.h2_ledger.specs.Ledger.{Ledger}
use Rattle.h2_plain_ledger.specs.declared.ledger.PlainLedger.{PlainLedger}
use Rattle.h2_plain_ledger.specs.State.{State, as_ledger}

-- its codes and blocks as lists
abbrev pub lists_of : PlainLedger → State
lists_of l = record {
  codes = l.codes.items;
  cursors = l.cursors;
  reserved = l.reserved;
  live = l.live.items;
  pins = l.pins.items;
  frozen_number = l.frozen_number;
  frozen = l.frozen.items;
  completed_number = l.completed_number;
  completed = l.completed.items;
  pass = l.pass;
  marked = l.marked.items;
  fresh = l.fresh.items;
  queued = l.queued.items;
}

-- the ledger that it is
abbrev pub ledger_of : PlainLedger → Ledger (List Block)
ledger_of l = as_ledger (lists_of l)
