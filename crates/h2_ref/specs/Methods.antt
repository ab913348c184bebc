-- The table of methods: how each method's check stands in a reference. Nothing else tells one method from another.
use Rattle.std.specs.Prelude.{ℕ}
use Rattle.h2_ref.specs.declared.reference.Check.{Check}
use Rattle.h2_ref.specs.declared.reference.Check.TheVariants.{Nothing, Crc, Xx}
use Rattle.h2_ref.specs.declared.methods.Method.{Method}
use Rattle.h2_ref.specs.declared.methods.Method.TheVariants.{Absent, Xxhash64, Freemap}
use Rattle.h2_ref.specs.declared.methods.MethodRow.{MethodRow}

-- the number of a method, and how many bytes of the check area its check takes
abbrev pub numbered : ℕ → ℕ → MethodRow
numbered number area = record { number = number; area = area }

-- the row of a method
abbrev pub method_row : Method → MethodRow
method_row Absent = numbered 0 0
method_row Xxhash64 = numbered 3 8
method_row Freemap = numbered 5 4

-- the check of a method whose bytes spell a number
abbrev pub check_with : Method → ℕ → Check
check_with Absent value = Nothing
check_with Xxhash64 value = Xx value
check_with Freemap value = Crc value

-- the method of a check
abbrev pub method_of : Check → Method
method_of Nothing = Absent
method_of (Xx n) = Xxhash64
method_of (Crc n) = Freemap

-- the number that its bytes spell
abbrev pub check_value : Check → ℕ
check_value Nothing = 0
check_value (Xx n) = n
check_value (Crc n) = n
