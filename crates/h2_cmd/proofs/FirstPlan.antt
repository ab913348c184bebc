-- A planned volume as the first plan of the law of checkpoints.
use Rattle.std.proofs.Common.{◌≡◌, ◌⊎◌, ◌<◌, ◌≤◌, ℕ, zero, suc, List, [], ◌∷◌, length, refl, sym, ap, subst, ◌∙◌, inl, inr, arith}
use Rattle.std.specs.Prelude.{map, slice_index_or}
use Rattle.h2_num.specs.Places.{Places, places, SameBelow, InRange, Holds}
use Rattle.h2_header.specs.declared.header.Header.{Header}
use Rattle.h2_header.specs.Map.{top_level}
use Rattle.h2_header.specs.Header.{IsHeader, HeadBytes}
use Rattle.h2_geom.specs.Places.{node_place}
use Rattle.h2_freeleaf.specs.Plan.{AllStand, places_of}
use Rattle.h2_checkpoint.specs.declared.piece.Piece.{Piece}
use Rattle.h2_checkpoint.specs.Slots.{IsSlot, InSlot}
use Rattle.h2_checkpoint.specs.Queue.{Entry, entry_of, IsAmong, InEntries, AreApart, overlay_all}
use Rattle.h2_checkpoint.specs.Checkpoint as checkpoint
use Rattle.h2_checkpoint.specs.Steps.{queue_of}
use Rattle.h2_checkpoint.specs.Making.{IsFirstPlan}
use Rattle.h2_checkpoint.specs.OverlayLaws.{overlay_holds, overlay_others}
use Rattle.h2_image.specs.NewVolume.{directory_place, pfs_place, InNewMap, InNewBlocks, directory_block, pfs_block, IsNewVolume}
use Rattle.h2_image.specs.VolumeFormat.{volume, HasNoHeader}
use Rattle.h2_image.specs.VolumeLaws.{directory_same, pfs_names_same, new_header_same}
use Rattle.h2_image.specs.NewVolumeLaws.{top_most, new_volume_off_slots}
use Rattle.h2_cmd.specs.Planning.{piece_of, pieces_of, IsPlanned}
use Rattle.h2_cmd.proofs.FirstHeader.{new_header_valid}
use Rattle.h2_cmd.proofs.MapPlaces.{InPlaces, PlacesApart, copy_apart, in_copy}

-- Writes as pieces

-- each of the writes has 1024 bytes
abbrev pub AreSmall : List (ℕ × List ℕ) → Type 0
AreSmall writes = (i : ℕ) (d : ℕ × List ℕ) → i < length writes → length (slice_index_or writes i d).1 ≡ 1024

first_small : (w : ℕ × List ℕ) (writes : List (ℕ × List ℕ)) → AreSmall (w ∷ writes) → length w.1 ≡ 1024
first_small w writes small = small 0 w (omega arith)

others_small : (w : ℕ × List ℕ) (writes : List (ℕ × List ℕ)) → AreSmall (w ∷ writes) → AreSmall writes
others_small w writes small i d lt = small (suc i) d (omega arith)

-- a byte of the pieces belongs to one of the places
in_writes : (writes : List (ℕ × List ℕ)) (k : ℕ) → AreSmall writes → InEntries (queue_of (map piece_of writes)) k → InPlaces (places_of writes) k
in_writes [] k small q = absurd q.1
in_writes (w ∷ writes) k small (e, inl is, r) = inl (subst (λ (n : ℕ). InRange w.0 n k) (first_small w writes small) (subst (λ (z : Entry). InRange z.at (length z.bytes) k) is r))
in_writes (w ∷ writes) k small (e, inr m, r) = inr (in_writes writes k (others_small w writes small) (e, m, r))

writes_apart : (writes : List (ℕ × List ℕ)) → AreSmall writes → PlacesApart (places_of writes) → AreApart (queue_of (map piece_of writes))
writes_apart [] small apart = tt
writes_apart (w ∷ writes) small apart = (
  (λ k r q. apart.0 k (subst (λ (n : ℕ). InRange w.0 n k) (first_small w writes small) r) (in_writes writes k (others_small w writes small) q)),
  writes_apart writes (others_small w writes small) apart.1,
)

writes_stand : (writes : List (ℕ × List ℕ)) (image : Places) → ((e : Entry) → IsAmong (queue_of (map piece_of writes)) e → Holds e.at e.bytes image) → AllStand writes image
writes_stand [] image all i d lt = absurd (omega arith)
writes_stand (w ∷ writes) image all zero d lt = all (entry_of (piece_of w)) (inl refl)
writes_stand (w ∷ writes) image all (suc i) d lt = writes_stand writes image (λ e m. all e (inr m)) i d (omega arith)

module _ (zones : ℕ) (pieces : List Piece) (h : Header) (p : IsPlanned zones pieces h) where
  pub small : AreSmall p.writes
  small = p.first_copy.sizes

  pub in_map : (k : ℕ) → InPlaces (places_of p.writes) k → InNewMap zones k
  in_map k i = in_copy zones k (subst (λ (xs : List ℕ). InPlaces xs k) p.first_copy.order i)

  -- a byte of the queue belongs to a block of the new volume
  pub queue_in_blocks : (k : ℕ) → InEntries (queue_of pieces) k → InNewBlocks zones k
  queue_in_blocks k q = found (subst (λ (xs : List Piece). InEntries (queue_of xs) k) p.pieces_are q)
    where
      found : InEntries (queue_of (pieces_of p.directory p.pfs p.writes)) k → InNewBlocks zones k
      found (e, inl is, r) = inl (subst (λ (n : ℕ). InRange directory_place n k) p.inodes.directory_long (subst (λ (z : Entry). InRange z.at (length z.bytes) k) is r))
      found (e, inr (inl is), r) = inr (inl (subst (λ (n : ℕ). InRange pfs_place n k) p.inodes.pfs_long (subst (λ (z : Entry). InRange z.at (length z.bytes) k) is r)))
      found (e, inr (inr m), r) = inr (inr (in_map k (in_writes p.writes k small (e, m, r))))

  -- the inodes lie in a chunk that isn't reserved
  off_map : (place k : ℕ) → (place ≡ directory_place) ⊎ (place ≡ pfs_place) → InRange place 1024 k → InNewMap zones k → ⊥
  off_map place k which r m = lies m.level m.zone (let up : m.level ≤ top_level zones = m.in_levels in let top : top_level zones ≤ 2 = top_most zones in omega arith) m.inside which
    where
      lies : (level zone : ℕ) → level ≤ 2 → InRange (node_place level zone 0) 1024 k → (place ≡ directory_place) ⊎ (place ≡ pfs_place) → ⊥
      lies level zone le s (inl is) = let a = r.0 in let b = r.1 in let c = s.0 in let d = s.1 in absurd (omega arith)
      lies level zone le s (inr is) = let a = r.0 in let b = r.1 in let c = s.0 in let d = s.1 in absurd (omega arith)

  pub pieces_apart : AreApart (queue_of pieces)
  pieces_apart = subst (λ (xs : List Piece). AreApart (queue_of xs)) (sym p.pieces_are) (
    (λ k r q. first k (subst (λ (n : ℕ). InRange directory_place n k) p.inodes.directory_long r) q),
    ((λ k r q. second k (subst (λ (n : ℕ). InRange pfs_place n k) p.inodes.pfs_long r) q), writes_apart p.writes small (subst PlacesApart (sym p.first_copy.order) (copy_apart zones))),
  )
    where
      second : (k : ℕ) → InRange pfs_place 1024 k → InEntries (queue_of (map piece_of p.writes)) k → ⊥
      second k r q = off_map pfs_place k (inr refl) r (in_map k (in_writes p.writes k small q))

      first : (k : ℕ) → InRange directory_place 1024 k → InEntries (entry_of (record { at = pfs_place; bytes = p.pfs }) ∷ queue_of (map piece_of p.writes)) k → ⊥
      first k r (e, inl is, s) =
          let there : InRange pfs_place 1024 k = subst (λ (n : ℕ). InRange pfs_place n k) p.inodes.pfs_long (subst (λ (z : Entry). InRange z.at (length z.bytes) k) is s) in
          let a = r.0 in let b = r.1 in let c = there.0 in let d = there.1 in absurd (omega arith)
      first k r (e, inr m, s) = off_map directory_place k (inl refl) r (in_map k (in_writes p.writes k small (e, m, s)))

  blocks_off_slots : (s k : ℕ) → IsSlot s → InNewBlocks zones k → InSlot s k → ⊥
  blocks_off_slots s k slot (inl r) i = let a = r.0 in let b = r.1 in let c = i.0 in let d = i.1 in absurd (omega arith)
  blocks_off_slots s k slot (inr (inl r)) i = let a = r.0 in let b = r.1 in let c = i.0 in let d = i.1 in absurd (omega arith)
  blocks_off_slots s k slot (inr (inr m)) i = lies m.level m.zone (let up : m.level ≤ top_level zones = m.in_levels in let top : top_level zones ≤ 2 = top_most zones in omega arith) m.inside
    where
      lies : (level zone : ℕ) → level ≤ 2 → InRange (node_place level zone 0) 1024 k → ⊥
      lies level zone le r = let a = r.0 in let b = r.1 in let c = i.0 in let d = i.1 in absurd (omega arith)

  -- where all pieces stand in an image, the new volume stands under the header
  pub stands_new : (image : Places) → ((e : Entry) → IsAmong (queue_of pieces) e → Holds e.at e.bytes image) → IsNewVolume image h zones
  stands_new image stand =
      let all : (e : Entry) → IsAmong (queue_of (pieces_of p.directory p.pfs p.writes)) e → Holds e.at e.bytes image = subst (λ (xs : List Piece). (e : Entry) → IsAmong (queue_of xs) e → Holds e.at e.bytes image) p.pieces_are stand in
      let long_directory : length p.directory ≡ 1024 = p.inodes.directory_long in
      let long_pfs : length p.pfs ≡ 1024 = p.inodes.pfs_long in
      let directory : SameBelow 1024 (places p.directory) (directory_block image) = λ k lt. all (record { at = directory_place; bytes = p.directory }) (inl refl) k (omega arith) in
      let pfs : SameBelow 1024 (places p.pfs) (pfs_block image) = λ k lt. all (record { at = pfs_place; bytes = p.pfs }) (inr (inl refl)) k (omega arith) in
      record {
        count = p.zone_count;
        header = p.header ∙ sym (new_header_same zones (places p.pfs) (pfs_block image) h.map pfs);
        directory = directory_same (places p.directory) (directory_block image) directory p.inodes.directory_is;
        pfs = pfs_names_same (places p.directory) (directory_block image) (places p.pfs) (pfs_block image) directory pfs p.inodes.pfs_is;
        map = record { segments = p.segments; are_new = p.are_new; mapped = p.first_copy.mapped image (writes_stand p.writes image (λ e m. all e (inr (inr m)))) };
      }

  -- over any image they do
  over : (image : Places) → IsNewVolume (overlay_all (queue_of pieces) image) h zones
  over image = stands_new (overlay_all (queue_of pieces) image) (overlay_holds (queue_of pieces) image pieces_apart)

  -- the header keeps the rules of headers
  pub planned_header_valid : IsHeader h
  planned_header_valid = subst IsHeader (sym p.header) (new_header_valid zones (places p.pfs) h.map p.zone_count (over (λ k. 0)).map.mapped.map)

  -- the checkpoint that the pieces and the header freeze over an image
  abbrev pub frozen_over : Places → List ℕ → checkpoint.Frozen volume
  frozen_over image bytes = record { checkpoint = record { header = h; view = overlay_all (queue_of pieces) image; forest = zones }; bytes = bytes; queue = queue_of pieces }

  pub first_plan : (image : Places) (bytes : List ℕ) → HasNoHeader image → length bytes ≡ 65536 → HeadBytes h (places bytes) → IsFirstPlan volume (frozen_over image bytes) pieces 0 bytes image
  first_plan image bytes none long spelled =
      let holds = overlay_holds (queue_of pieces) image pieces_apart in
      let stands = stands_new (overlay_all (queue_of pieces) image) holds in
      let one : h.number ≡ 1 = ap (λ (x : Header). x.number) p.header in
      record {
        none = none;
        plan = record {
          next = one;
          checkpoint = record { stands = stands; off_slots = λ s k slot owns. new_volume_off_slots (overlay_all (queue_of pieces) image) h zones stands s k slot owns };
          long = long;
          spelled = record { valid = planned_header_valid; spelled = spelled; in_turn = refl };
          queue = holds;
          queue_off = λ k q owns. owns;
          off_slots = λ s k slot q. blocks_off_slots s k slot (queue_in_blocks k q);
        };
        pieces_are = record { queue = refl; place_is = (let e = one in rw e refl); header_is = refl };
        others = λ k owns. elim (overlay_others (queue_of pieces) image k) [ inl q ↦ inl q | inr same ↦ inr (sym same) ];
      }
