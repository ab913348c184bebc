use Rattle.h2_inode.specs.VisitLaws.{visits_path}
use Rattle.h2_inode.specs.NamesOneLaws.{sought_one, planted_one}
use Rattle.h2_inode.specs.PathLaws.{brings_path, replaces_path, refit_place, refit_set, refit_path, refit_leaves}
use Rattle.h2_inode.proofs.laws.paths_law.Goals as goal

pub returns-clause-brought : goal.returns-clause-brought
returns-clause-brought c = λ f g x key at o sound brings. brings_path f g x sound brings

pub returns-clause-sought : goal.returns-clause-sought
returns-clause-sought c = sought_one

pub returns-clause-planted : goal.returns-clause-planted
returns-clause-planted c = planted_one

pub returns-clause-visited : goal.returns-clause-visited
returns-clause-visited c = λ f g key at o sound visits. visits_path sound visits

pub returns-clause-replaced : goal.returns-clause-replaced
returns-clause-replaced c = λ f g at s top key m o sound h other none. replaces_path f g at s top sound h other none

pub returns-clause-places : goal.returns-clause-places
returns-clause-places c = λ f g at m sound h. refit_place f g at sound h m

pub returns-clause-sets : goal.returns-clause-sets
returns-clause-sets c = λ f g at m sound h. refit_set f g at sound h m

pub returns-clause-paths : goal.returns-clause-paths
returns-clause-paths c = λ f g at key m o sound h. refit_path f g at sound h

pub returns-clause-kept : goal.returns-clause-kept
returns-clause-kept c = λ f g at m sound h stood own. refit_leaves f g at sound h stood own m
