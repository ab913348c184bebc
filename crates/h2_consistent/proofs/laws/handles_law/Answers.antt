use Rattle.h2_forest.specs.Forest.{closed}
use Rattle.h2_consistent.proofs.Forests.{closed_consistent}
use Rattle.h2_consistent.proofs.Histories.{forest_keeps, frozen_keeps}
use Rattle.h2_consistent.proofs.Standing.{fresh_stand, answer_stand, trim_stand, closed_stand, closed_empty, trim_orphans, clean_orphans, Sound, sound_kept}
use Rattle.h2_consistent.proofs.Readable.{open_read}
use Rattle.h2_consistent.proofs.laws.handles_law.Goals as goal

pub returns-clause-fresh : goal.returns-clause-fresh
returns-clause-fresh c = fresh_stand

pub returns-clause-kept : goal.returns-clause-kept
returns-clause-kept c = λ f client command h stand. answer_stand f stand h client command

pub returns-clause-trimmed : goal.returns-clause-trimmed
returns-clause-trimmed c = trim_stand

pub returns-clause-closed : goal.returns-clause-closed
returns-clause-closed c = closed_stand

pub returns-clause-none_open : goal.returns-clause-none_open
returns-clause-none_open c = closed_empty

pub returns-clause-cleaned : goal.returns-clause-cleaned
returns-clause-cleaned c = λ f. trim_stand (closed f) (closed_stand f)

pub returns-clause-orphans : goal.returns-clause-orphans
returns-clause-orphans c = trim_orphans

pub returns-clause-no_orphans : goal.returns-clause-no_orphans
returns-clause-no_orphans c = clean_orphans

pub returns-clause-read : goal.returns-clause-read
returns-clause-read c = λ f client handle off len ids stand held. open_read f ids client handle off len stand held

pub returns-clause-history : goal.returns-clause-history
returns-clause-history c = λ items first i h. (forest_keeps Sound sound_kept items first i (closed_consistent first h, closed_stand first)).1

pub returns-clause-frozen : goal.returns-clause-frozen
returns-clause-frozen c = λ opened first items n f h stand e. (frozen_keeps Sound sound_kept opened first items n f (h, stand) (closed_consistent first h, closed_stand first) e).1
