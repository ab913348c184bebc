-- A leaf of the freemap in which two bytes are wrong.
use Rattle.std.specs.Prelude.{cond, nat_eq}
use Rattle.h2_num.specs.Places.{Places}

-- bytes 70 and 200 are 1, all others 0
abbrev pub marred_leaf : Places
marred_leaf = λ k. cond (nat_eq k 70) 1 (cond (nat_eq k 200) 1 0)
