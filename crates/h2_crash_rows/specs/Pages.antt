-- Two pages of a disk in memory, by which the definition of the pages that are kept is tried.
use Rattle.std.specs.Prelude.{ℕ, zero, suc, Option, Some, None}

-- page 1 begins at place 16384 of the vector, and page 2 at place 0
abbrev pub two_pages : ℕ → Option ℕ
two_pages zero = None
two_pages (suc zero) = Some 16384
two_pages (suc (suc zero)) = Some 0
two_pages (suc (suc (suc page))) = None
