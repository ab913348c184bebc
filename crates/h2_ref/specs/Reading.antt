-- What stands in the bytes of a reference, by its kind.
use Rattle.std.specs.Prelude.{ℕ, zero, suc, if◌then◌else◌, List, [], ◌∷◌, replicate, Option, option_map}
use Rattle.h2_num.specs.Places.{Places, number_at}
use Rattle.h2_ref.specs.declared.reference.Kind.{Kind}
use Rattle.h2_ref.specs.declared.reference.Check.{Check}
use Rattle.h2_ref.specs.declared.reference.Dirent.{Dirent as Entry}
use Rattle.h2_ref.specs.declared.reference.Ref.{Ref}
use Rattle.h2_ref.specs.declared.table.Span.{Span}
use Rattle.h2_ref.specs.declared.methods.Method.{Method}
use Rattle.h2_ref.specs.declared.table.Row.{Row}
use Rattle.h2_ref.specs.Methods.{method_row, check_with}
use Rattle.h2_ref.specs.Table.{row_of}
use Rattle.h2_ref.specs.Ref.{method_in, is_inline}
use Rattle.h2_ref.specs.Fault.{place_at, radix_at}

-- n bytes from a place on, as a list
unfoldable pub bytes_from : Places → ℕ → ℕ → List ℕ
bytes_from b at zero = []
bytes_from b at (suc n) = b at ∷ bytes_from b (suc at) n

-- the check of a method
abbrev pub check_of : Method → Places → Check
check_of method b = check_with method (number_at b 64 (method_row method).area)

-- the name in the check area, or none
abbrev pub name_at : Row → Places → List ℕ
name_at w b = if is_inline w then bytes_from b 64 64 else replicate 64 0

-- the fields of an entry
abbrev pub entry_at : Row → Places → Entry
entry_at w b = record { number = number_at b 32 8; len = number_at b 40 2; target = b 42; name = name_at w b }

-- the fields of an entry, if the kind is one
abbrev pub dirent_at : Row → Option Span → Places → Option Entry
dirent_at w names b = option_map (λ span. entry_at w b) names

-- the reference of a kind in the bytes
abbrev pub ref_at : Kind → Places → Ref
ref_at kind b = record {
  kind = kind;
  key = number_at b 8 8;
  keybits = b 2;
  place = place_at b;
  radix = radix_at b;
  id = number_at b 24 8;
  check = check_of (method_in (row_of kind (b 1)).methods (b 1)) b;
  dirent = dirent_at (row_of kind (b 1)) (row_of kind (b 1)).names b;
}
