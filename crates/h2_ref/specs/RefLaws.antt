-- The bytes of a reference are seen by its 128 places alone. The empty reference is valid.
use Rattle.std.specs.Prelude.{◌≤◌, ◌+◌, Option, Some, None, refl}
use Rattle.std.proofs.Common.{◌∙◌, arith}
use Rattle.h2_num.specs.Places.{Places, SameBelow}
use Rattle.h2_num.specs.PlaceLaws.{number_same, zeros_same}
use Rattle.h2_ref.specs.declared.reference.Check.{Check}
use Rattle.h2_ref.specs.declared.reference.Check.TheVariants.{Nothing, Crc, Xx}
use Rattle.h2_ref.specs.declared.reference.Dirent.{Dirent as Entry}
use Rattle.h2_ref.specs.declared.reference.Ref.{Ref}
use Rattle.h2_ref.specs.declared.table.Row.{Row}
use Rattle.h2_ref.specs.Ref.{row, check_len, area_len, fields_end, EntryBytes, NameBytes, FieldBytes, GapBytes, RefBytes, IsValid, empty_ref}

-- a check has room in the check area
pub check_len-most : (c : Check) → check_len c ≤ 64
check_len-most Nothing = omega arith
check_len-most (Xx n) = omega arith
check_len-most (Crc n) = omega arith

entry_same : (d : Option Entry) (a b : Places) → SameBelow 128 a b → EntryBytes d a → EntryBytes d b
entry_same None a b same f = tt
entry_same (Some e) a b same f = record {
  number = number_same 32 8 128 a b (omega arith) same ∙ f.number;
  len = number_same 40 2 128 a b (omega arith) same ∙ f.len;
  target = same 42 (omega arith) ∙ f.target;
}

name_same : (w : Row) (d : Option Entry) (a b : Places) → SameBelow 128 a b → NameBytes w d a → NameBytes w d b
name_same w None a b same f = tt
name_same w (Some e) a b same f = λ k short lt. same (64 + k) (omega arith) ∙ f k short lt

fields_same : (r : Ref) (a b : Places) → SameBelow 128 a b → FieldBytes r a → FieldBytes r b
fields_same r a b same f = let most = check_len-most r.check in record {
  kind = same 0 (omega arith) ∙ f.kind;
  method = same 1 (omega arith) ∙ f.method;
  keybits = same 2 (omega arith) ∙ f.keybits;
  flags = same 3 (omega arith) ∙ f.flags;
  key = number_same 8 8 128 a b (omega arith) same ∙ f.key;
  place = number_same 16 8 128 a b (omega arith) same ∙ f.place;
  id = number_same 24 8 128 a b (omega arith) same ∙ f.id;
  entry = entry_same r.dirent a b same f.entry;
  name = name_same (row r) r.dirent a b same f.name;
  check = number_same 64 (check_len r.check) 128 a b (omega arith) same ∙ f.check;
}

gaps_same : (r : Ref) (a b : Places) → SameBelow 128 a b → GapBytes r a → GapBytes r b
gaps_same r a b same g = record {
  before_key = zeros_same 4 8 128 a b (omega arith) same g.before_key;
  before_area = zeros_same (fields_end r.dirent) 64 128 a b (omega arith) same g.before_area;
  tail = zeros_same (64 + area_len (row r) r.check r.dirent) 128 128 a b (omega arith) same g.tail;
}

-- the bytes of a reference are seen by its 128 places alone
pub RefBytes-same : (r : Ref) (a b : Places) → SameBelow 128 a b → RefBytes r a → RefBytes r b
RefBytes-same r a b same h = record { fields = fields_same r a b same h.fields; gaps = gaps_same r a b same h.gaps }

-- the empty reference is valid
pub empty_valid : IsValid empty_ref
empty_valid = record {
  method = refl;
  stored = omega arith;
  radix = refl;
  place = refl;
  key = record { keybits = refl; key = record { least = omega arith; last = omega arith }; multiple = refl };
  id = record { least = omega arith; last = omega arith };
  entry = tt;
}
