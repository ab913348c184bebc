-- What a scan keeps of PFSs.
use Rattle.std.specs.Prelude.{ℕ, nat_eq, List, [], ◌∷◌, Option, Some, None, if◌then◌else◌}
use Rattle.std.specs.Cmp.Lexicographic.{pointwise}
use Rattle.h2_inode.specs.PfsList.{ListedPfs}
use Rattle.h2_pfs.specs.declared.met.Met.{Met}

-- a PFS's id and name
abbrev pub met_of : ListedPfs → Met
met_of p = record { id = p.id; name = p.name }

-- the id of the first of them with the name
abbrev pub id_in : List ℕ → List Met → Option ℕ
id_in name [] = None
id_in name (p ∷ ps) = if pointwise nat_eq p.name name then Some p.id else id_in name ps

-- the name of one of them
abbrev pub met_name : Met → List ℕ
met_name m = m.name
