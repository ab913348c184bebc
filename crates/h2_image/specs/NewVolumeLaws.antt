-- What a new volume reaches: its two inodes and the blocks of its freemap, off the slots of headers.
use Rattle.std.specs.Prelude.{◌≡◌, ◌<◌, ◌≤◌, ℕ, zero, suc, ◌+◌, ◌*◌, ◌++◌, List, length, slice_index_or, refl}
use Rattle.std.specs.List.{Contains}
use Rattle.std.proofs.Common.{ap, sym, subst, ◌∙◌, arith, inl, inr}
use Rattle.std.proofs.lemmas.Bool.{cases_lt}
use Rattle.h2_num.specs.Places.{Places, from_place, InRange}
use Rattle.h2_codes.specs.declared.code.Code.{Code}
use Rattle.h2_ref.specs.declared.reference.Kind.{Kind}
use Rattle.h2_ref.specs.declared.reference.Kind.TheVariants.{Empty, Inode, Indirect, Content, Dirent, MapNode, MapLeaf}
use Rattle.h2_ref.specs.declared.reference.Ref.{Ref}
use Rattle.h2_ref.specs.Ref.{RefBytes, IsValid, kind_number, size_of, empty_ref}
use Rattle.h2_ref.specs.Spelling.{one_value}
use Rattle.h2_header.specs.declared.header.Header.{Header}
use Rattle.h2_header.specs.Map.{top_level, zones_under, map_kind, IsMapRef}
use Rattle.h2_geom.specs.Places.{node_place}
use Rattle.h2_freeleaf.specs.InImage.{LeadsTo}
use Rattle.h2_checkpoint.specs.Slots.{IsSlot, InSlot}
use Rattle.h2_checkpoint.specs.Format.{Reach, by_root, by_child, ReachesByte}
use Rattle.h2_image.specs.NewVolume.{directory_place, pfs_place, inode_ref, new_root, directory_block, pfs_block, LeadToNewCodes, IsNewVolume}
use Rattle.h2_image.specs.VolumeFormat.{IsInodeChild, IsNodeChild, IsChild, in_inode, in_set, in_node, volume}
use Rattle.h2_image.specs.MapLaws.{small_size, map_radix}
use Rattle.h2_image.specs.VolumeLaws.{directory_valid, root_is}

-- a reference to a block of the freemap: of a level, from a zone on
pub record IsMapPart (image : Places) (zones : ℕ) (segments : List (List Code)) (r : Ref) : Type 0 where
  pub level : ℕ
  pub zone : ℕ
  pub in_levels : level ≤ 2
  pub in_zones : zone < zones
  pub names : IsMapRef level 1 zone r
  pub valid : IsValid r
  pub leads : LeadsTo image zones 1 segments level zone r

-- a reference of a new volume: to the PFS, to the root directory, to a block of the freemap, or an empty one
pub data IsPart (image : Places) (zones : ℕ) (segments : List (List Code)) (r : Ref) : Type 0 where
  is_pfs : r ≡ inode_ref pfs_place (pfs_block image) → IsPart image zones segments r
  is_directory : r ≡ inode_ref directory_place (directory_block image) → IsPart image zones segments r
  is_map : IsMapPart image zones segments r → IsPart image zones segments r
  is_empty : r ≡ empty_ref → IsPart image zones segments r

-- the level of the blocks that a header names
pub top_most : (zones : ℕ) → top_level zones ≤ 2
top_most zones = elim (cases_lt 8 zones) [
  | inl more ↦ elim (cases_lt 64 zones) [ inl most ↦ grind arith | inr few ↦ grind arith ]
  | inr few ↦ grind arith
]

slot_part : (image : Places) (zones : ℕ) (map : List Ref) (n : LeadToNewCodes image zones map) (slot : ℕ) (r : Ref) → slot < 8 → slice_index_or map slot r ≡ r → IsPart image zones n.segments r
slot_part image zones map n slot r lt is = elim (cases_lt (zones_under (top_level zones) * slot) zones) [
  | inl inside ↦
      let count : length map ≡ 8 = n.mapped.map.length_is in
      is_map (record {
        level = top_level zones;
        zone = zones_under (top_level zones) * slot;
        in_levels = top_most zones;
        in_zones = inside;
        names = subst (IsMapRef (top_level zones) 1 (zones_under (top_level zones) * slot)) is ((n.mapped.map.slots slot r lt).used inside);
        valid = subst IsValid is (n.mapped.map.valid slot r (omega arith));
        leads = subst (LeadsTo image zones 1 n.segments (top_level zones) (zones_under (top_level zones) * slot)) is (n.mapped.leads slot r lt inside);
      })
  | inr outside ↦ is_empty (sym is ∙ (n.mapped.map.slots slot r lt).unused outside)
]

root_part : (image : Places) (zones : ℕ) (map : List Ref) (n : LeadToNewCodes image zones map) (k : ℕ) (r : Ref) → k < 12 → slice_index_or (new_root (pfs_block image) ++ map) k r ≡ r → IsPart image zones n.segments r
root_part image zones map n zero r lt is = is_pfs (sym is)
root_part image zones map n (suc zero) r lt is = is_empty (sym is)
root_part image zones map n (suc (suc zero)) r lt is = is_empty (sym is)
root_part image zones map n (suc (suc (suc zero))) r lt is = is_empty (sym is)
root_part image zones map n (suc (suc (suc (suc k)))) r lt is = slot_part image zones map n k r (omega arith) is

-- zeros spell no used reference
kind_of_zero : (k : Kind) → kind_number k ≡ 0 → k ≡ Empty
kind_of_zero Empty e = refl
kind_of_zero Inode e = absurd (omega arith)
kind_of_zero Indirect e = absurd (omega arith)
kind_of_zero Content e = absurd (omega arith)
kind_of_zero Dirent e = absurd (omega arith)
kind_of_zero MapNode e = absurd (omega arith)
kind_of_zero MapLeaf e = absurd (omega arith)

zeros_are_empty : (s : Ref) (b : Places) → b 0 ≡ 0 → RefBytes s b → s.kind ≡ Empty
zeros_are_empty s b zero_there spelled = kind_of_zero s.kind (sym spelled.fields.kind ∙ zero_there)

-- the PFS has one child, the root directory
pfs_child : (image : Places) (h : Header) (zones : ℕ) (r s : Ref) → IsNewVolume image h zones → r ≡ inode_ref pfs_place (pfs_block image) → IsInodeChild r (from_place image r.place) s → s ≡ inode_ref directory_place (directory_block image)
pfs_child image h zones r s v is c = which c.index c.below c.spelled
  where
    place_is : r.place ≡ pfs_place
    place_is = ap (λ (x : Ref). x.place) is

    which : (index : ℕ) → index < 4 → RefBytes s (from_place (from_place image r.place) (512 + 128 * index)) → s ≡ inode_ref directory_place (directory_block image)
    which zero lt spelled =
        let here : RefBytes s (from_place (from_place image pfs_place) 512) = subst (λ (p : ℕ). RefBytes s (from_place (from_place image p) 512)) place_is spelled in
        one_value (inode_ref directory_place (directory_block image)) s (from_place (from_place image pfs_place) 512) (directory_valid image) c.valid v.pfs.directory_is here
    which (suc k) lt spelled =
        let e : r.place ≡ pfs_place = place_is in
        let byte : image (r.place + (512 + 128 * suc k + 0)) ≡ 0 = ap image (omega arith) ∙ v.pfs.no_more (512 + 128 * suc k) (omega arith) (omega arith) in
        absurd (c.used (zeros_are_empty s (from_place (from_place image r.place) (512 + 128 * suc k)) byte spelled))

-- the root directory has none
directory_child : (image : Places) (h : Header) (zones : ℕ) (r s : Ref) → IsNewVolume image h zones → r ≡ inode_ref directory_place (directory_block image) → IsInodeChild r (from_place image r.place) s → ⊥
directory_child image h zones r s v is c =
    let place_is : r.place ≡ directory_place = ap (λ (x : Ref). x.place) is in
    let below : c.index < 4 = c.below in
    let byte : image (r.place + (512 + 128 * c.index + 0)) ≡ 0 = ap image (omega arith) ∙ v.directory.no_entries (512 + 128 * c.index) (omega arith) (omega arith) in
    c.used (zeros_are_empty s (from_place (from_place image r.place) (512 + 128 * c.index)) byte c.spelled)

-- a node has those of its references that are used, and a leaf has none
node_child : (image : Places) (zones : ℕ) (segments : List (List Code)) (level zone : ℕ) (r s : Ref) → level ≤ 2 → r.kind ≡ map_kind level → LeadsTo image zones 1 segments level zone r → IsNodeChild r (from_place image r.place) s → IsMapPart image zones segments s
node_child image zones segments zero zone r s le kind l c = let node = c.kind in absurd (cc)
node_child image zones segments (suc level) zone r s le kind (refs, node, entries, below) c =
    let count : length refs ≡ 8 = node.valid.count in
    let lt : c.index < 8 = c.below in
    let here : c.index < length refs = omega arith in
    let same : s ≡ slice_index_or refs c.index s =
    one_value (slice_index_or refs c.index s) s (from_place (from_place image r.place) (128 * c.index)) (node.valid.valid c.index s here) c.valid (node.bytes c.index s here) c.spelled in
    elim (cases_lt (zone + zones_under level * c.index) zones) [
      | inl inside ↦ record {
        level = level;
        zone = zone + zones_under level * c.index;
        in_levels = omega arith;
        in_zones = inside;
        names = subst (IsMapRef level 1 (zone + zones_under level * c.index)) (sym same) ((entries c.index s lt).used inside);
        valid = c.valid;
        leads = subst (LeadsTo image zones 1 segments level (zone + zones_under level * c.index)) (sym same) (below c.index s lt inside);
      }
      | inr outside ↦ absurd (c.used (ap (λ (x : Ref). x.kind) (same ∙ (entries c.index s lt).unused outside)))
    ]

-- the kind of a block of the map is no inode's
map_no_inode : (level : ℕ) (r : Ref) → r.kind ≡ map_kind level → r.kind ≡ Inode → ⊥
map_no_inode zero r kind inode = absurd (cc)
map_no_inode (suc level) r kind inode = absurd (cc)

-- and no indirect block's
map_no_set : (level : ℕ) (r : Ref) → r.kind ≡ map_kind level → r.kind ≡ Indirect → ⊥
map_no_set zero r kind set = absurd (cc)
map_no_set (suc level) r kind set = absurd (cc)

child_part : (image : Places) (h : Header) (zones : ℕ) (r s : Ref) (v : IsNewVolume image h zones) → IsPart image zones v.map.segments r → IsChild r (from_place image r.place) s → IsPart image zones v.map.segments s
child_part image h zones r s v (is_pfs is) (in_inode c) = is_directory (pfs_child image h zones r s v is c)
child_part image h zones r s v (is_pfs is) (in_set c) = let kind : r.kind ≡ Inode = ap (λ (x : Ref). x.kind) is in let set = c.kind in absurd (cc)
child_part image h zones r s v (is_pfs is) (in_node c) = let kind : r.kind ≡ Inode = ap (λ (x : Ref). x.kind) is in let node = c.kind in absurd (cc)
child_part image h zones r s v (is_directory is) (in_inode c) = absurd (directory_child image h zones r s v is c)
child_part image h zones r s v (is_directory is) (in_set c) = let kind : r.kind ≡ Inode = ap (λ (x : Ref). x.kind) is in let set = c.kind in absurd (cc)
child_part image h zones r s v (is_directory is) (in_node c) = let kind : r.kind ≡ Inode = ap (λ (x : Ref). x.kind) is in let node = c.kind in absurd (cc)
child_part image h zones r s v (is_map m) (in_inode c) = absurd (map_no_inode m.level r m.names.kind c.kind)
child_part image h zones r s v (is_map m) (in_set c) = absurd (map_no_set m.level r m.names.kind c.kind)
child_part image h zones r s v (is_map m) (in_node c) = is_map (node_child image zones v.map.segments m.level m.zone r s m.in_levels m.names.kind m.leads c)
child_part image h zones r s v (is_empty is) (in_inode c) = let kind : r.kind ≡ Empty = ap (λ (x : Ref). x.kind) is in let inode = c.kind in absurd (cc)
child_part image h zones r s v (is_empty is) (in_set c) = let kind : r.kind ≡ Empty = ap (λ (x : Ref). x.kind) is in let set = c.kind in absurd (cc)
child_part image h zones r s v (is_empty is) (in_node c) = let kind : r.kind ≡ Empty = ap (λ (x : Ref). x.kind) is in let node = c.kind in absurd (cc)

-- all that a new volume reaches is a part of it
pub reached_part : (image : Places) (h : Header) (zones : ℕ) (v : IsNewVolume image h zones) → (r : Ref) → Reach volume image (h.root ++ h.map) r → IsPart image zones v.map.segments r
reached_part image h zones v _ (by_root r here) =
    let there : Contains (new_root (pfs_block image) ++ h.map) r = subst (λ (root : List Ref). Contains (root ++ h.map) r) (root_is image h zones v) here in
    let count : length h.map ≡ 8 = v.map.mapped.map.length_is in
    let below : there.0 < length (new_root (pfs_block image) ++ h.map) = there.1 in
    root_part image zones h.map v.map there.0 r (omega arith) there.2
reached_part image h zones v _ (by_child r s path child) = child_part image h zones r s v (reached_part image h zones v r path) child

-- its blocks lie off the slots
pub parts_off_slots : (image : Places) (zones : ℕ) (segments : List (List Code)) (r : Ref) → IsPart image zones segments r → (s k : ℕ) → IsSlot s → InRange r.place (size_of r) k → InSlot s k → ⊥
parts_off_slots image zones segments r (is_pfs is) s k slot inside in_slot = pfs_off k (subst (λ (x : Ref). InRange x.place (size_of x) k) is inside) in_slot
  where
    pfs_off : (k : ℕ) → InRange pfs_place 1024 k → InSlot s k → ⊥
    pfs_off k i j = let a = i.0 in let b = i.1 in let c = j.0 in let d = j.1 in absurd (omega arith)
parts_off_slots image zones segments r (is_directory is) s k slot inside in_slot = directory_off k (subst (λ (x : Ref). InRange x.place (size_of x) k) is inside) in_slot
  where
    directory_off : (k : ℕ) → InRange directory_place 1024 k → InSlot s k → ⊥
    directory_off k i j = let a = i.0 in let b = i.1 in let c = j.0 in let d = j.1 in absurd (omega arith)
parts_off_slots image zones segments r (is_map m) s k slot inside in_slot = block_off m.level m.zone k m.in_levels (subst (λ (n : ℕ). InRange n 1024 k) m.names.place (subst (λ (n : ℕ). InRange r.place n k) (small_size r (map_radix m.level r m.names.kind m.valid)) inside)) in_slot
  where
    block_off : (level zone k : ℕ) → level ≤ 2 → InRange (node_place level zone 0) 1024 k → InSlot s k → ⊥
    block_off level zone k le i j = let a = i.0 in let b = i.1 in let c = j.0 in let d = j.1 in absurd (omega arith)
parts_off_slots image zones segments r (is_empty is) s k slot inside in_slot = empty_off k (subst (λ (x : Ref). InRange x.place (size_of x) k) is inside)
  where
    empty_off : (k : ℕ) → InRange 0 0 k → ⊥
    empty_off k i = let a = i.0 in let b = i.1 in absurd (omega arith)

pub new_volume_off_slots : (image : Places) (h : Header) (zones : ℕ) → IsNewVolume image h zones → (s k : ℕ) → IsSlot s → ReachesByte volume image (h.root ++ h.map) k → InSlot s k → ⊥
new_volume_off_slots image h zones v s k slot (r, path, inside) in_slot = parts_off_slots image zones v.map.segments r (reached_part image h zones v r path) s k slot inside in_slot
