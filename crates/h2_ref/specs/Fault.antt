-- Which refusal bytes that are no reference meet: the first of the order, as the bytes show it.
use Rattle.std.specs.Prelude.{ℕ, zero, suc, Bool, true, not, ◌&&◌, ◌||◌, ◌==◌, ◌+◌, ◌-◌, ◌%◌, ◌^◌, nat_le, nat_lt, if◌then◌else◌, Option, Some, None, option_map, find}
use Rattle.h2_num.specs.Places.{Places, number_at}
use Rattle.h2_ref.specs.declared.reference.Kind.{Kind}
use Rattle.h2_ref.specs.declared.faults.RefFault.{RefFault}
use Rattle.h2_ref.specs.declared.faults.RefFault.TheVariants.{Kind as BadKind, Method as BadMethod, Radix as BadRadix, Place as BadPlace, Key as BadKey, Id as BadId, Dirent as BadDirent, Padding}
use Rattle.h2_ref.specs.declared.table.Span.{Span}
use Rattle.h2_ref.specs.declared.table.Keybits.{Keybits}
use Rattle.h2_ref.specs.declared.table.Keybits.TheVariants.{Just, Either, Between}
use Rattle.h2_ref.specs.declared.table.Methods.{Methods}
use Rattle.h2_ref.specs.declared.table.Methods.TheVariants.{One, Two}
use Rattle.h2_ref.specs.declared.table.Row.{Row}
use Rattle.h2_ref.specs.Methods.{method_row}
use Rattle.h2_ref.specs.Table.{row_of, kinds}
use Rattle.h2_ref.specs.Ref.{kind_number, method_in, is_inline}

-- The tests of the table

-- the kind with a number
abbrev pub kind_of : ℕ → Option Kind
kind_of n = find (λ kind. kind_number kind == n) kinds

-- a number is in a span
abbrev pub in_span : Span → ℕ → Bool
in_span s n = nat_le s.least n && nat_le n s.last

-- one of the methods has the number
abbrev pub is_method_of : Methods → ℕ → Bool
is_method_of (One a) n = n == (method_row a).number
is_method_of (Two a b) n = n == (method_row a).number || n == (method_row b).number

-- keybits are allowed
abbrev pub has_keybits : Keybits → ℕ → Bool
has_keybits (Just a) n = n == a
has_keybits (Either a b) n = n == a || n == b
has_keybits (Between a b) n = nat_le a n && nat_le n b

-- a key with its keybits is allowed
abbrev pub key_fits : Row → ℕ → ℕ → Bool
key_fits w keybits key = has_keybits w.keybits keybits && in_span w.keys key && key % 2 ^ keybits == 0

-- a place is one for a radix
abbrev pub place_fits : ℕ → ℕ → Bool
place_fits zero place = place == 0
place_fits (suc n) place = nat_lt 0 place && nat_lt place (2 ^ 34) && place % 2 ^ suc n == 0

-- What stands in the bytes

-- the radix: the low six bits of the place
abbrev pub radix_at : Places → ℕ
radix_at b = number_at b 16 8 % 64

-- the place without the radix
abbrev pub place_at : Places → ℕ
place_at b = number_at b 16 8 - radix_at b

-- the length, the target and the number of an entry are in their ranges
abbrev pub is_entry_at : Span → Places → Bool
is_entry_at names b = in_span names (number_at b 40 2) && (b 42 == 1 || b 42 == 2) && nat_lt 0 (number_at b 32 8) && nat_lt (number_at b 32 8) (2 ^ 62)

-- so they are, if the kind is an entry
abbrev pub entry_fits_at : Option Span → Places → Bool
entry_fits_at None b = true
entry_fits_at (Some names) b = is_entry_at names b

-- how many bytes of the check area are in use: those of a name that stands there, or of the method's check
abbrev pub area_len_at : Row → Option Span → Places → ℕ
area_len_at w None b = (method_row (method_in w.methods (b 1))).area
area_len_at w (Some names) b = if is_inline w then number_at b 40 2 else (method_row (method_in w.methods (b 1))).area

-- where the fields of an entry end, or those of every other kind
abbrev pub fields_end_at : Option Span → ℕ
fields_end_at None = 32
fields_end_at (Some names) = 43

-- the byte at this place must be zero
abbrev pub must_be_zero : Row → Places → ℕ → Bool
must_be_zero w b k = (nat_le 4 k && nat_lt k 8) || (nat_le (fields_end_at w.names) k && nat_lt k 64) || nat_le (64 + area_len_at w w.names b) k

-- it must be, and isn't
abbrev pub is_padding : Row → Places → ℕ → Bool
is_padding w b k = must_be_zero w b k && not (b k == 0)

-- The order

-- the one that is there, else the other
abbrev pub or_else : Option ℕ → Option ℕ → Option ℕ
or_else None o = o
or_else (Some n) o = Some n

-- the first of the n places from 0 on that passes a test
unfoldable pub first_place : (ℕ → Bool) → ℕ → Option ℕ
first_place test zero = None
first_place test (suc n) = or_else (first_place test n) (if test n then Some n else None)

-- a refusal unless a test passes; where it does, what comes after
abbrev pub unless : Bool → RefFault → Option RefFault → Option RefFault
unless test fault rest = if test then rest else Some fault

-- the refusals by a row of the table, in their order
abbrev pub fault_by : Row → Places → Option RefFault
fault_by w b =
    unless (is_method_of w.methods (b 1)) (BadMethod (b 1)) (
    unless (b 3 == w.flags.0) (Padding 3) (
    unless (radix_at b == w.radix) (BadRadix (radix_at b)) (
    unless (place_fits w.radix (place_at b)) (BadPlace (place_at b)) (
    unless (key_fits w (b 2) (number_at b 8 8)) BadKey (
    unless (in_span w.ids (number_at b 24 8)) BadId (
    unless (entry_fits_at w.names b) BadDirent (
    option_map Padding (first_place (is_padding w b) 128))))))))

-- the refusals of a kind; where there is none, that of the kind
abbrev pub fault_of_kind : Option Kind → Places → Option RefFault
fault_of_kind None b = Some (BadKind (b 0))
fault_of_kind (Some kind) b = fault_by (row_of kind (b 1)) b

-- the first refusal of 128 bytes, if there is one
abbrev pub first_fault : Places → Option RefFault
first_fault b = fault_of_kind (kind_of (b 0)) b
