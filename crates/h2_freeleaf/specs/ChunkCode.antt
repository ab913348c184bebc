-- The code of one chunk in an image, over the blocks of the map on the way to its leaf.
use Rattle.std.specs.Prelude.{◌≡◌, ◌<◌, ℕ, zero, suc, ◌+◌, ◌*◌, ◌/◌, ◌%◌, List, [], slice_index_or}
use Rattle.h2_num.specs.Places.{Places}
use Rattle.h2_geom.specs.Geometry.{chunks_of, zone_chunks, zone_segments, segment_of, in_segment}
use Rattle.h2_codes.specs.declared.code.Code.{Code}
use Rattle.h2_codes.specs.Codes.{code_at}
use Rattle.h2_ref.specs.declared.reference.Ref.{Ref}
use Rattle.h2_ref.specs.Ref.{empty_ref}
use Rattle.h2_header.specs.declared.header.Header.{Header}
use Rattle.h2_header.specs.Map.{top_level, zones_under, IsMapRef}
use Rattle.h2_freeleaf.specs.InImage.{LeadsToLeaf, LeadsToNode}

-- The reference to the block of a level that begins with a zone leads to the leaf of a zone, over blocks that have their
-- checks and are spelled, by the references that the map of the checkpoint with this number has.
abbrev pub LeadsToLeafOf : Places → ℕ → ℕ → List (List Code) → ℕ → ℕ → Ref → Type 0
LeadsToLeafOf image number z leaf zero zone r = (z ≡ zone) × LeadsToLeaf image leaf r
LeadsToLeafOf image number z leaf (suc level) zone r = (refs : List Ref) × LeadsToNode image refs r
    × (i : ℕ) × (i < 8) × IsMapRef level number (zone + zones_under level * i) (slice_index_or refs i empty_ref) × LeadsToLeafOf image number z leaf level (zone + zones_under level * i) (slice_index_or refs i empty_ref)

-- the code of a chunk of the volume in an image under a header: that in the leaf of its zone
pub record CodeOf (image : Places) (h : Header) (chunk : ℕ) (code : Code) : Type 0 where
  pub in_volume : chunk < chunks_of h.zones
  pub leaf : List (List Code)
  pub index : ℕ
  pub below : index < 8
  pub leads : LeadsToLeafOf image h.map_number (chunk / zone_chunks) leaf (top_level h.zones) (zones_under (top_level h.zones) * index) (slice_index_or h.map index empty_ref)
  pub is : code ≡ code_at (slice_index_or leaf (segment_of chunk % zone_segments) []) (in_segment chunk)
