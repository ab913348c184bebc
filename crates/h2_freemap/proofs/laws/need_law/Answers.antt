use Rattle.h2_freemap.proofs.Needs.{need_is_used, need_is_enough, need_grows, need_is_at_most, need_splits, takes_only_use}
use Rattle.h2_freemap.proofs.laws.need_law.Goals as goal

pub returns-clause-used : goal.returns-clause-used
returns-clause-used c = need_is_used

pub returns-clause-enough : goal.returns-clause-enough
returns-clause-enough c = need_is_enough

pub returns-clause-only : goal.returns-clause-only
returns-clause-only c = takes_only_use

pub returns-clause-grows : goal.returns-clause-grows
returns-clause-grows c = need_grows

pub returns-clause-at_most : goal.returns-clause-at_most
returns-clause-at_most c = need_is_at_most

pub returns-clause-splits : goal.returns-clause-splits
returns-clause-splits c = need_splits
