use Rattle.h2_inode.specs.NamesOneLaws.{sought_one}
use Rattle.h2_inode.specs.NamedLaws.{inode_one, names_one, brings_names, replaces_names}
use Rattle.h2_inode.proofs.loaded_laws.naming_law.Goals as goal

pub returns-clause-one : goal.returns-clause-one
returns-clause-one c = inode_one

pub returns-clause-sought : goal.returns-clause-sought
returns-clause-sought c = λ u v top x leaf i j t h stands has names.
    names_one v top x leaf i j t names h.named (λ d. sought_one u.forest v.forest top leaf.key x d h stands) has

pub returns-clause-planted : goal.returns-clause-planted
returns-clause-planted c = λ u v top key x n r i t sound h holds told.
    brings_names u v top key x sound h.brings (λ gone. h.only) holds told n r i t

pub returns-clause-replaced : goal.returns-clause-replaced
returns-clause-replaced c = λ u v at top s r i new t h holds told. replaces_names u v at s h holds told top r i new t
