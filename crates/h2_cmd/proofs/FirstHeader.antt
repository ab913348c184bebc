-- The header of a new volume keeps the rules of headers.
use Rattle.std.proofs.Common.{ℕ, zero, suc, List, refl, inl, arith}
use Rattle.std.specs.Prelude.{All}
use Rattle.h2_num.specs.Places.{Places}
use Rattle.h2_check.specs.XxhLaws.{xxh64_of-lt}
use Rattle.h2_ref.specs.declared.reference.Ref.{Ref}
use Rattle.h2_ref.specs.Ref.{IsValid}
use Rattle.h2_ref.specs.Set.{IsSet}
use Rattle.h2_header.specs.Map.{IsMap}
use Rattle.h2_header.specs.RootLaws.{empty_root_ref}
use Rattle.h2_header.specs.Header.{IsRootRef, IsRoot, IsHeader}
use Rattle.h2_geom.specs.Geometry.{IsZoneCount}
use Rattle.h2_image.specs.NewVolume.{pfs_place, inode_ref, new_root, new_header}

pfs_valid : (pfs : Places) → IsValid (inode_ref pfs_place pfs)
pfs_valid pfs = record {
  method = refl;
  stored = xxh64_of-lt pfs 1024;
  radix = refl;
  place = record { above = omega arith; below = omega arith; multiple = refl };
  key = record { keybits = refl; key = record { least = omega arith; last = omega arith }; multiple = refl };
  id = record { least = omega arith; last = omega arith };
  entry = tt;
}

pfs_root : (pfs : Places) → IsRootRef (inode_ref pfs_place pfs)
pfs_root pfs = record { valid = pfs_valid pfs; kind = tt; key_below = omega arith }

root_valid : (pfs : Places) → IsRoot (new_root pfs)
root_valid pfs = record { length_is = refl; each = each; set = set }
  where
    each : All IsRootRef (new_root pfs)
    each zero d lt = pfs_root pfs
    each (suc zero) d lt = empty_root_ref
    each (suc (suc zero)) d lt = empty_root_ref
    each (suc (suc (suc zero))) d lt = empty_root_ref
    each (suc (suc (suc (suc k)))) d lt = absurd (omega arith)

    set : IsSet (new_root pfs)
    set zero d lt = inl refl
    set (suc zero) d lt = inl refl
    set (suc (suc zero)) d lt = inl refl
    set (suc (suc (suc k))) d lt = absurd (omega arith)

pub new_header_valid : (zones : ℕ) (pfs : Places) (map : List Ref) → IsZoneCount zones → IsMap zones 1 map → IsHeader (new_header zones pfs map)
new_header_valid zones pfs map count is = record {
  ranges = record {
    zones_low = count.0;
    zones_high = count.1;
    number_low = omega arith;
    number_high = omega arith;
    map_number = refl;
    next_low = omega arith;
    next_high = omega arith;
  };
  root = root_valid pfs;
  map = is;
}
