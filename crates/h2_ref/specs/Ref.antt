-- References, and which are valid.
use Rattle.std.specs.Prelude.{◌≡◌, ◌⊎◌, ◌<◌, ◌≤◌, ⊤, Bool, ℕ, zero, suc, ◌+◌, ◌*◌, ◌%◌, ◌^◌, ◌==◌, if◌then◌else◌, length, slice_index, Option, Some, None}
use Rattle.h2_num.specs.Places.{Places, places, number_at, ZeroIn}
use Rattle.h2_ref.specs.declared.reference.Kind.{Kind}
use Rattle.h2_ref.specs.declared.reference.Kind.TheVariants.{Empty}
use Rattle.h2_ref.specs.declared.reference.Check.{Check}
use Rattle.h2_ref.specs.declared.reference.Check.TheVariants.{Nothing}
use Rattle.h2_ref.specs.declared.reference.Dirent.{Dirent as Entry}
use Rattle.h2_ref.specs.declared.reference.Ref.{Ref}
use Rattle.h2_ref.specs.declared.table.Span.{Span}
use Rattle.h2_ref.specs.declared.table.Keybits.{Keybits}
use Rattle.h2_ref.specs.declared.table.Keybits.TheVariants.{Just, Either, Between}
use Rattle.h2_ref.specs.declared.methods.Method.{Method}
use Rattle.h2_ref.specs.declared.table.Methods.{Methods}
use Rattle.h2_ref.specs.declared.table.Methods.TheVariants.{One, Two}
use Rattle.h2_ref.specs.declared.table.Row.{Row}
use Rattle.h2_ref.specs.Methods.{method_of, method_row, check_value}
use Rattle.h2_ref.specs.Table.{row_of}

-- the number of a kind: it stands in each row of the kind
abbrev pub kind_number : Kind → ℕ
kind_number kind = (row_of kind 0).number

-- the number of the method of a check
abbrev pub method_number : Check → ℕ
method_number check = (method_row (method_of check)).number

-- how many bytes a check has
abbrev pub check_len : Check → ℕ
check_len check = (method_row (method_of check)).area

-- the number that they spell has that many bytes
abbrev pub IsStored : Check → Type 0
IsStored check = check_value check < 2 ^ (8 * check_len check)

-- what is allowed of a reference: the row of its kind and method
abbrev pub row : Ref → Row
row r = row_of r.kind (method_number r.check)

-- the number is in the span
pub record InSpan (s : Span) (n : ℕ) : Type 0 where
  pub least : s.least ≤ n
  pub last : n ≤ s.last

-- one of the methods has the number
abbrev pub IsMethodOf : Methods → ℕ → Type 0
IsMethodOf (One a) n = n ≡ (method_row a).number
IsMethodOf (Two a b) n = (n ≡ (method_row a).number) ⊎ (n ≡ (method_row b).number)

-- the one that has it; the last, where none has it
abbrev pub method_in : Methods → ℕ → Method
method_in (One a) n = a
method_in (Two a b) n = if n == (method_row a).number then a else b

-- the keybits that are allowed
abbrev pub HasKeybits : Keybits → ℕ → Type 0
HasKeybits (Just a) n = n ≡ a
HasKeybits (Either a b) n = (n ≡ a) ⊎ (n ≡ b)
HasKeybits (Between a b) n = (a ≤ n) × (n ≤ b)

-- a key with its keybits: it is a multiple of the number of keys in its range
pub record KeyFits (w : Row) (bits first : ℕ) : Type 0 where
  pub keybits : HasKeybits w.keybits bits
  pub key : InSpan w.keys first
  pub multiple : first % 2 ^ bits ≡ 0

-- a place of a block of 2 ^ radix bytes
pub record IsBlockPlace (radix place : ℕ) : Type 0 where
  pub above : 0 < place
  pub below : place < 2 ^ 34
  pub multiple : place % 2 ^ radix ≡ 0

-- a place for a radix: with radix 0 there is no block, and the place is 0
abbrev pub PlaceFits : ℕ → ℕ → Type 0
PlaceFits zero place = place ≡ 0
PlaceFits (suc n) place = IsBlockPlace (suc n) place

-- the name of an entry stands in it
abbrev pub is_inline : Row → Bool
is_inline w = w.flags.0 == 1

-- how many bytes of an entry's name stand in it
abbrev pub inline_len : Row → ℕ → ℕ
inline_len w len = if is_inline w then len else 0

-- what an entry of a directory says is in its ranges: the name stands in it, and then zeros
pub record IsEntry (w : Row) (names : Span) (e : Entry) : Type 0 where
  pub len : InSpan names e.len
  pub target : (e.target ≡ 1) ⊎ (e.target ≡ 2)
  pub number_above : 0 < e.number
  pub number_below : e.number < 2 ^ 62
  pub room : length e.name ≡ 64
  pub name_ends : ZeroIn (inline_len w e.len) 64 (places e.name)

-- the kind is an entry of a directory exactly where the reference has one
abbrev pub EntryFits : Row → Option Span → Option Entry → Type 0
EntryFits w None None = ⊤
EntryFits w None (Some e) = ⊥
EntryFits w (Some names) None = ⊥
EntryFits w (Some names) (Some e) = IsEntry w names e

-- a reference by a row of the table
pub record FitsRow (w : Row) (r : Ref) : Type 0 where
  pub method : IsMethodOf w.methods (method_number r.check)
  pub stored : IsStored r.check
  pub radix : r.radix ≡ w.radix
  pub place : PlaceFits w.radix r.place
  pub key : KeyFits w r.keybits r.key
  pub id : InSpan w.ids r.id
  pub entry : EntryFits w w.names r.dirent

-- the row of its kind and method holds
abbrev pub IsValid : Ref → Type 0
IsValid r = FitsRow (row r) r

-- the reference that names nothing
abbrev pub empty_ref : Ref
empty_ref = record { kind = Empty; key = 0; keybits = 0; place = 0; radix = 0; id = 0; check = Nothing; dirent = None }

-- how many bytes of the check area are in use: those of the name that stands there, or of the check
abbrev pub area_len : Row → Check → Option Entry → ℕ
area_len w check None = check_len check
area_len w check (Some e) = if is_inline w then e.len else check_len check

-- where the fields of an entry end, or those of every other kind
abbrev pub fields_end : Option Entry → ℕ
fields_end None = 32
fields_end (Some e) = 43

-- the fields of an entry
pub record IsEntryAt (e : Entry) (b : Places) : Type 0 where
  pub number : number_at b 32 8 ≡ e.number
  pub len : number_at b 40 2 ≡ e.len
  pub target : b 42 ≡ e.target

-- the fields that an entry alone has
abbrev pub EntryBytes : Option Entry → Places → Type 0
EntryBytes None b = ⊤
EntryBytes (Some e) b = IsEntryAt e b

-- a name that stands in its entry stands in the check area
abbrev pub NameBytes : Row → Option Entry → Places → Type 0
NameBytes w None b = ⊤
NameBytes w (Some e) b = (k : ℕ) → k < 64 → k < inline_len w e.len → b (64 + k) ≡ slice_index e.name k

-- a clause for each field; the radix stands in the low six bits of the place
pub record FieldBytes (r : Ref) (b : Places) : Type 0 where
  pub kind : b 0 ≡ kind_number r.kind
  pub method : b 1 ≡ method_number r.check
  pub keybits : b 2 ≡ r.keybits
  pub flags : b 3 ≡ (row r).flags.0
  pub key : number_at b 8 8 ≡ r.key
  pub place : number_at b 16 8 ≡ r.place + r.radix
  pub id : number_at b 24 8 ≡ r.id
  pub entry : EntryBytes r.dirent b
  pub name : NameBytes (row r) r.dirent b
  pub check : number_at b 64 (check_len r.check) ≡ check_value r.check

-- a clause for each gap: before the key, before the check area, and behind what is in use of it
pub record GapBytes (r : Ref) (b : Places) : Type 0 where
  pub before_key : ZeroIn 4 8 b
  pub before_area : ZeroIn (fields_end r.dirent) 64 b
  pub tail : ZeroIn (64 + area_len (row r) r.check r.dirent) 128 b

-- the 128 bytes of a reference
pub record RefBytes (r : Ref) (b : Places) : Type 0 where
  pub fields : FieldBytes r b
  pub gaps : GapBytes r b

-- these bytes spell no valid reference
abbrev pub NoRef : Places → Type 0
NoRef b = (r : Ref) → IsValid r → RefBytes r b → ⊥

-- how many bytes the block has
abbrev pub size_of : Ref → ℕ
size_of r = if r.radix == 0 then 0 else 2 ^ r.radix
