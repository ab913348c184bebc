use Rattle.std.proofs.Common.{sym}
use Rattle.h2_contents.specs.PageLaws.{keeps_some, zeros_entered, zeros_keep, with_zeros}
use Rattle.h2_contents.proofs.writing.keep_page.Goals as goal

pub returns-in-None-clause-ok : goal.returns-in-None-clause-ok
returns-in-None-clause-ok c = keeps_some c.insert.result c.args.pages.now c.insert.new.self c.args.number (with_zeros c.insert.result c.args.pages.now c.insert.new.self c.args.number c.filled.result c.filled.ensures c.insert.ensures.ok)

pub returns-in-None-clause-same : goal.returns-in-None-clause-same
returns-in-None-clause-same c = zeros_entered c.insert.result c.args.pages.now c.insert.new.self c.args.number (sym c.in-None.ensures) (with_zeros c.insert.result c.args.pages.now c.insert.new.self c.args.number c.filled.result c.filled.ensures c.insert.ensures.ok) c.insert.ensures.err

pub returns-in-None-clause-kept : goal.returns-in-None-clause-kept
returns-in-None-clause-kept c = zeros_keep c.insert.result c.args.pages.now c.insert.new.self c.args.number (with_zeros c.insert.result c.args.pages.now c.insert.new.self c.args.number c.filled.result c.filled.ensures c.insert.ensures.ok) c.insert.ensures.err
