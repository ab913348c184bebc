-- What the references of a map lead to depends on the bytes of the blocks that are reached alone.
use Rattle.std.specs.Prelude.{◌≡◌, ◌<◌, ℕ, zero, suc, ◌+◌, ◌*◌, ◌^◌, ◌==◌, ◌++◌, List, length, slice_index_or, if◌then◌else◌}
use Rattle.std.specs.List.{Contains}
use Rattle.std.proofs.Common.{ap, sym, subst, ◌∙◌, arith}
use Rattle.std.proofs.lemmas.List.{get_or_default}
use Rattle.std.proofs.lemmas.List.Elements.{Contains-append_right}
use Rattle.h2_num.specs.Places.{Places, from_place, SameBelow}
use Rattle.h2_check.specs.CrcLaws.{crc32c_of-same}
use Rattle.h2_codes.specs.declared.code.Code.{Code}
use Rattle.h2_ref.specs.declared.reference.Kind.{Kind}
use Rattle.h2_ref.specs.declared.reference.Kind.TheVariants.{Empty}
use Rattle.h2_ref.specs.declared.reference.Check.TheVariants.{Crc}
use Rattle.h2_ref.specs.declared.reference.Ref.{Ref}
use Rattle.h2_ref.specs.Ref.{IsValid, FitsRow, method_number, size_of}
use Rattle.h2_ref.specs.Table.{row_of}
use Rattle.h2_header.specs.Map.{top_level, zones_under, map_kind, IsMapRef}
use Rattle.h2_freeleaf.specs.LeafLaws.{LeafBytes-same}
use Rattle.h2_freeleaf.specs.NodeLaws.{NodeBytes-same}
use Rattle.h2_freeleaf.specs.InImage.{HasCheck, LeadsTo}
use Rattle.h2_checkpoint.specs.Format.{Reach, by_root, by_child, SameReached}
use Rattle.h2_image.specs.NewVolume.{LeadToNewCodes}
use Rattle.h2_image.specs.VolumeFormat.{in_node, volume}

-- a block of radix 10 has 1024 bytes
pub small_size : (r : Ref) → r.radix ≡ 10 → size_of r ≡ 1024
small_size r e = ap (λ (x : ℕ). if x == 0 then 0 else 2 ^ x) e

-- a block of radix 12 has 4096 bytes
pub set_size : (r : Ref) → r.radix ≡ 12 → size_of r ≡ 4096
set_size r e = ap (λ (x : ℕ). if x == 0 then 0 else 2 ^ x) e

-- the blocks of the map have radix 10
pub map_radix : (level : ℕ) (r : Ref) → r.kind ≡ map_kind level → IsValid r → r.radix ≡ 10
map_radix zero r kind valid = let P : Kind → Type 0 = λ k. FitsRow (row_of k (method_number r.check)) r → r.radix ≡ 10 in subst P (sym kind) (λ f. f.radix) valid
map_radix (suc level) r kind valid = let P : Kind → Type 0 = λ k. FitsRow (row_of k (method_number r.check)) r → r.radix ≡ 10 in subst P (sym kind) (λ f. f.radix) valid

-- a reference to one of them isn't empty
pub map_used : (level : ℕ) (r : Ref) → r.kind ≡ map_kind level → r.kind ≡ Empty → ⊥
map_used zero r kind empty = absurd (cc)
map_used (suc level) r kind empty = absurd (cc)

module _ (image other : Places) (roots : List Ref) (same : SameReached volume image roots other) where
  block_same : (r : Ref) → Reach volume image roots r → r.radix ≡ 10 → SameBelow 1024 (from_place image r.place) (from_place other r.place)
  block_same r reach radix k lt =
      let size : size_of r ≡ 1024 = small_size r radix in
      same (r.place + k) (r, reach, (omega arith, omega arith))

  check_same : (r : Ref) → SameBelow 1024 (from_place image r.place) (from_place other r.place) → HasCheck image r → HasCheck other r
  check_same r block has = has ∙ ap Crc (sym (crc32c_of-same (from_place image r.place) (from_place other r.place) 1024 block))

  -- what a block of the map leads to, with all blocks below it
  leads_same : (zones : ℕ) (segments : List (List Code)) (level zone : ℕ) (r : Ref) → Reach volume image roots r → IsMapRef level 1 zone r → IsValid r → LeadsTo image zones 1 segments level zone r → LeadsTo other zones 1 segments level zone r
  leads_same zones segments zero zone r reach names valid l =
      let block = block_same r reach (map_radix 0 r names.kind valid) in
      record {
        leaf = l.leaf;
        is_zone = l.is_zone;
        leads = record {
          check = check_same r block l.leads.check;
          valid = l.leads.valid;
          bytes = LeafBytes-same l.leaf (from_place image r.place) (from_place other r.place) l.leads.valid block l.leads.bytes;
        };
      }
  leads_same zones segments (suc level) zone r reach names valid (refs, node, entries, below) =
      let radix = map_radix (suc level) r names.kind valid in
      let block = block_same r reach radix in
      let count : length refs ≡ 8 = node.valid.count in (
        refs,
        record { check = check_same r block node.check; valid = node.valid; bytes = NodeBytes-same refs (from_place image r.place) (from_place other r.place) node.valid block node.bytes },
        entries,
        (λ i d lt inside.
            let child = slice_index_or refs i d in
            let child_names = (entries i d lt).used inside in
            let child_valid = node.valid.valid i d (omega arith) in
            leads_same zones segments level (zone + zones_under level * i) child (by_child r child reach (in_node (record {
              kind = names.kind;
              radix = radix;
              check = node.check;
              index = i;
              below = lt;
              valid = child_valid;
              used = map_used level child child_names.kind;
              spelled = node.bytes i d (omega arith);
            }))) child_names child_valid (below i d lt inside)),
      )

-- a reference of a list, by its index
pub entry_contained : (refs : List Ref) (i : ℕ) (d : Ref) → i < length refs → Contains refs (slice_index_or refs i d)
entry_contained refs i d lt = (i, lt, get_or_default refs i (slice_index_or refs i d) d lt)

-- the codes that a header's references lead to
pub codes_same : (image other : Places) (root : List Ref) (zones : ℕ) (map : List Ref) → SameReached volume image (root ++ map) other → LeadToNewCodes image zones map → LeadToNewCodes other zones map
codes_same image other root zones map same n = record {
  segments = n.segments;
  are_new = n.are_new;
  mapped = record {
    map = n.mapped.map;
    leads = λ i d lt inside.
        let r = slice_index_or map i d in
        let count : length map ≡ 8 = n.mapped.map.length_is in
        leads_same image other (root ++ map) same zones n.segments (top_level zones) (zones_under (top_level zones) * i) r
        (by_root r (Contains-append_right root map r (entry_contained map i d (omega arith))))
        ((n.mapped.map.slots i d lt).used inside) (n.mapped.map.valid i d (omega arith)) (n.mapped.leads i d lt inside);
  };
}
