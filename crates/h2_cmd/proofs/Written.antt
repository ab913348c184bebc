-- What the law of checkpoints says of a planned volume that is written.
use Rattle.std.proofs.Common.{◌≡◌, ◌⊎◌, ◌<◌, ◌≤◌, ◌^◌, ℕ, zero, suc, ◌+◌, List, [], ◌∷◌, length, sym, ap, subst, ◌∙◌, inl, inr, arith}
use Rattle.std.specs.Prelude.{All, map, slice_index_or}
use Rattle.std.proofs.lemmas.List.{length-map}
use Rattle.h2_num.specs.Places.{Places, places, InRange}
use Rattle.h2_num.specs.Causes.{one_more}
use Rattle.h2_disk.specs.Trace.{IsDurable}
use Rattle.h2_header.specs.declared.header.Header.{Header}
use Rattle.h2_header.specs.Map.{top_level}
use Rattle.h2_header.specs.Header.{HeadBytes}
use Rattle.h2_freeleaf.specs.Plan.{places_of, map_places}
use Rattle.h2_checkpoint.specs.declared.piece.Piece.{Piece}
use Rattle.h2_checkpoint.specs.Queue.{entry_of}
use Rattle.h2_checkpoint.specs.Stands.{DiskState}
use Rattle.h2_checkpoint.specs.Steps as steps
use Rattle.h2_checkpoint.specs.Making.{IsNoneOrMade, MakesSafely, Makes}
use Rattle.h2_image.specs.NewVolume.{map_block_count, InNewMap}
use Rattle.h2_image.specs.VolumeFormat.{volume, HasNoHeader, IsFormatted}
use Rattle.h2_image.specs.VolumeLaws.{volume_lawful}
use Rattle.h2_image.specs.NewVolumeLaws.{top_most}
use Rattle.h2_cmd.specs.Planning.{piece_of, pieces_of, IsPlanned}
use Rattle.h2_cmd.specs.Formatting.{SameElsewhere, MakesVolume, CutsFormat, header_moment}
use Rattle.h2_cmd.proofs.MapPlaces.{InPlaces, copy_count}
use Rattle.h2_cmd.proofs.FirstPlan.{AreSmall, small, in_map, queue_in_blocks, frozen_over, first_plan}

-- blocks of 1024 bytes of which each byte lies on the disk
writes_fit : (writes : List (ℕ × List ℕ)) → AreSmall writes → ((k : ℕ) → InPlaces (places_of writes) k → k < 2 ^ 34) → (i : ℕ) (d : Piece) → i < length (map piece_of writes)
    → (slice_index_or (map piece_of writes) i d).at + length (slice_index_or (map piece_of writes) i d).bytes ≤ 2 ^ 34
writes_fit [] small below i d lt = absurd (omega arith)
writes_fit (w ∷ writes) small below zero d lt =
    let long : length w.1 ≡ 1024 = small 0 w (omega arith) in
    let last : w.0 + 1023 < 2 ^ 34 = below (w.0 + 1023) (inl (omega arith, omega arith)) in
    omega arith
writes_fit (w ∷ writes) small below (suc i) d lt = writes_fit writes (λ j e j_lt. small (suc j) e (omega arith)) (λ k inside. below k (inr inside)) i d (omega arith)

module _ (zones : ℕ) (pieces : List Piece) (h : Header) (p : IsPlanned zones pieces h) where
  -- each place of the freemap's blocks lies on the disk
  map_below : (k : ℕ) → InPlaces (places_of p.writes) k → k < 2 ^ 34
  map_below k i = lies (in_map zones pieces h p k i)
    where
      lies : InNewMap zones k → k < 2 ^ 34
      lies m =
          let up : m.level ≤ top_level zones = m.in_levels in
          let top : top_level zones ≤ 2 = top_most zones in
          let zone : m.zone < zones = m.in_zones in
          let most : zones ≤ 512 = p.zone_count.1 in
          let end = m.inside.1 in
          omega arith

  pub pieces_fit : All (λ (piece : Piece). piece.at + length piece.bytes ≤ 2 ^ 34) pieces
  pieces_fit = subst (λ (xs : List Piece). All (λ (piece : Piece). piece.at + length piece.bytes ≤ 2 ^ 34) xs) (sym p.pieces_are) fit
    where
      fit : All (λ (piece : Piece). piece.at + length piece.bytes ≤ 2 ^ 34) (pieces_of p.directory p.pfs p.writes)
      fit zero d lt = let long : length p.directory ≡ 1024 = p.inodes.directory_long in omega arith
      fit (suc zero) d lt = let long : length p.pfs ≡ 1024 = p.inodes.pfs_long in omega arith
      fit (suc (suc i)) d lt = writes_fit p.writes (small zones pieces h p) map_below i d (omega arith)

  pub piece_count : length pieces ≡ map_block_count zones + 2
  piece_count =
      let writes : length (map piece_of p.writes) ≡ length p.writes = length-map p.writes piece_of in
      let places : length (places_of p.writes) ≡ length p.writes = length-map p.writes (λ (w : ℕ × List ℕ). w.0) in
      let order : length (places_of p.writes) ≡ length (map_places zones 1 (top_level zones)) = ap length p.first_copy.order in
      let blocks : length (map_places zones 1 (top_level zones)) ≡ map_block_count zones = copy_count zones (top_level zones) in
      ap length p.pieces_are ∙ (omega arith)

  pub made_volume : (old new : DiskState) (bytes : List ℕ) → HasNoHeader old.image → length bytes ≡ 65536 → HeadBytes h (places bytes) → Makes volume pieces 0 bytes old.image new.image → IsDurable new.trace new.image
      → MakesVolume zones old new
  made_volume old new bytes none long spelled makes durable =
      let m = makes volume_lawful (frozen_over zones pieces h p old.image bytes) (first_plan zones pieces h p old.image bytes none long spelled) in
      record { none = none; formatted = record { header = h; newest = m.newest; stands = m.stands }; durable = durable }

  none_or_formatted : (image base : Places) (bytes : List ℕ) → IsNoneOrMade volume (frozen_over zones pieces h p base bytes) image → HasNoHeader image ⊎ IsFormatted zones image
  none_or_formatted image base bytes (inl none) = inl none
  none_or_formatted image base bytes (inr (header, newest, number, stands)) = inr (record { header = header; newest = newest; stands = stands })

  -- the header's write comes after all pieces and a sync
  before_header : (moment m : ℕ) → m < header_moment zones moment → m < one_more (moment + length (steps.queue_of pieces) + 2)
  before_header moment m lt =
      let queue : length (steps.queue_of pieces) ≡ length pieces = length-map pieces entry_of in
      let count : length pieces ≡ map_block_count zones + 2 = piece_count in
      omega arith

  pub cuts_volume : (old new : DiskState) (bytes : List ℕ) → length bytes ≡ 65536 → HeadBytes h (places bytes) → MakesSafely volume pieces 0 bytes old new → IsDurable old.trace old.image → HasNoHeader old.image → CutsFormat zones old new
  cuts_volume old new bytes long spelled safely durable none =
      let c = safely volume_lawful (frozen_over zones pieces h p old.image bytes) (first_plan zones pieces h p old.image bytes none long spelled) in
      record {
        since = c.since;
        trace_is = c.trace_is;
        each = λ m image ge le cut. none_or_formatted image old.image bytes (c.by_trace durable m image ge le cut);
        early = λ m image ge le lt cut. c.none_by_trace durable m image ge le (before_header old.moment m lt) cut;
      }

  pub elsewhere : (old new : Places) (n : ℕ) → n ≡ 65536 → steps.SameElsewhere pieces 0 n old new → SameElsewhere zones old new
  elsewhere old new n long same = record {
    same = λ k off_blocks off_slot. same k (λ q. off_blocks (queue_in_blocks zones pieces h p k q)) (λ r. off_slot (subst (λ (x : ℕ). InRange 0 x k) long r));
  }
