-- The blocks of a copy of the freemap, added one after the other.
use Rattle.std.proofs.Common.{◌≡◌, ◌<◌, ◌≤◌, ◌+◌, ◌*◌, ◌%◌, ◌^◌, ℕ, zero, suc, List, [], ◌∷◌, ◌++◌, length, refl, sym, ap, subst, ◌∙◌, arith, inl, inr}
use Rattle.std.specs.Prelude.{slice_index_or, All}
use Rattle.std.proofs.lemmas.Bool.{cases_lt}
use Rattle.std.proofs.lemmas.List.{get_or_push, get_or_append_left, get_or_past, length_push, map-append, append_assoc}
use Rattle.h2_num.specs.Places.{Places, places, from_place, AreBytes, SameBelow, Holds}
use Rattle.h2_check.specs.CrcLaws.{crc32c_of-same, crc32c_of-lt}
use Rattle.h2_geom.specs.Places.{node_place, turn_of}
use Rattle.h2_codes.specs.declared.code.Code.{Code}
use Rattle.h2_ref.specs.declared.reference.Check.TheVariants.{Crc}
use Rattle.h2_ref.specs.declared.reference.Ref.{Ref}
use Rattle.h2_ref.specs.Ref.{empty_ref, IsValid}
use Rattle.h2_header.specs.Map.{top_level, zones_under, IsMapRef, IsMapEntry}
use Rattle.h2_freeleaf.specs.Leaf.{IsLeaf, LeafBytes}
use Rattle.h2_freeleaf.specs.LeafLaws.{LeafBytes-same}
use Rattle.h2_freeleaf.specs.Node.{IsNode, NodeBytes}
use Rattle.h2_freeleaf.specs.NodeLaws.{NodeBytes-same}
use Rattle.h2_freeleaf.specs.InImage.{map_ref_of, IsZoneOf, HasCheck, LeadsTo, AreMapped}
use Rattle.h2_freeleaf.specs.Plan.{BeginsBlock, blocks_of, write_of, AllStand, IsEight, IsLevel, IsPlan, places_of, level_places, map_places}

-- the reference to a block of the map is valid
pub map_valid : (level number zone : ℕ) (b : Places) → AreBytes b → level ≤ 2 → BeginsBlock level zone → 1 ≤ number → number ≤ 2 ^ 62 → IsValid (map_ref_of level number zone b)
map_valid zero number zone b bytes le begins low high =
    let below : zone < 512 = begins.0 in
    record {
      method = refl;
      stored = crc32c_of-lt b 1024 bytes;
      radix = refl;
      place = record { above = omega arith; below = omega arith; multiple = omega arith };
      key = record { keybits = refl; key = record { least = omega arith; last = omega arith }; multiple = omega arith };
      id = record { least = low; last = high };
      entry = tt;
    }
map_valid (suc zero) number zone b bytes le begins low high =
    let below : zone < 512 = begins.0 in
    let aligned : zone % 8 ≡ 0 = begins.1 in
    record {
      method = refl;
      stored = crc32c_of-lt b 1024 bytes;
      radix = refl;
      place = record { above = omega arith; below = omega arith; multiple = omega arith };
      key = record { keybits = inl refl; key = record { least = omega arith; last = omega arith }; multiple = omega arith };
      id = record { least = low; last = high };
      entry = tt;
    }
map_valid (suc (suc zero)) number zone b bytes le begins low high =
    let below : zone < 512 = begins.0 in
    let aligned : zone % 64 ≡ 0 = begins.1 in
    record {
      method = refl;
      stored = crc32c_of-lt b 1024 bytes;
      radix = refl;
      place = record { above = omega arith; below = omega arith; multiple = omega arith };
      key = record { keybits = inr refl; key = record { least = omega arith; last = omega arith }; multiple = omega arith };
      id = record { least = low; last = high };
      entry = tt;
    }
map_valid (suc (suc (suc level))) number zone b bytes le begins low high = absurd (omega arith)

-- it names its block
pub map_names : (level number zone : ℕ) (b : Places) → IsMapRef level number zone (map_ref_of level number zone b)
map_names level number zone b = record { kind = refl; key = refl; keybits = refl; place = refl; id = refl }

-- a block of the level begins with each of its zones
pub begins_block : (level zones i : ℕ) → level ≤ 2 → zones ≤ 512 → i < blocks_of zones level → BeginsBlock level (zones_under level * i)
begins_block zero zones i le most lt = (omega arith, omega arith)
begins_block (suc zero) zones i le most lt = (omega arith, omega arith)
begins_block (suc (suc zero)) zones i le most lt = (omega arith, omega arith)
begins_block (suc (suc (suc level))) zones i le most lt = absurd (omega arith)

-- bytes that stand at a place are those from there on
stands_there : (at : ℕ) (block : List ℕ) (image : Places) → length block ≡ 1024 → Holds at block image → SameBelow 1024 (places block) (from_place image at)
stands_there at block image len h k lt = h k (omega arith)

has_check : (level number zone : ℕ) (block : List ℕ) (image : Places) → length block ≡ 1024 → Holds (node_place level zone (turn_of number)) block image → HasCheck image (map_ref_of level number zone (places block))
has_check level number zone block image len h =
    ap Crc (sym (crc32c_of-same (places block) (from_place image (node_place level zone (turn_of number))) 1024 (stands_there (node_place level zone (turn_of number)) block image len h)))

-- a leaf that stands in an image
pub leads_leaf : (zones number : ℕ) (segments : List (List Code)) (zone : ℕ) (leaf : List (List Code)) (block : List ℕ) (image : Places) → length block ≡ 1024 → IsZoneOf segments zone leaf → IsLeaf leaf → LeafBytes leaf (places block)
    → Holds (node_place 0 zone (turn_of number)) block image → LeadsTo image zones number segments 0 zone (map_ref_of 0 number zone (places block))
leads_leaf zones number segments zone leaf block image len is valid bytes h = record {
  leaf = leaf;
  is_zone = is;
  leads = record {
    check = has_check 0 number zone block image len h;
    valid = valid;
    bytes = LeafBytes-same leaf (places block) (from_place image (node_place 0 zone (turn_of number))) valid (stands_there (node_place 0 zone (turn_of number)) block image len h) bytes;
  };
}

-- the zones of the eight blocks below a node
zones_below : (level i k : ℕ) → level ≤ 1 → zones_under level * (8 * i + k) ≡ zones_under (suc level) * i + zones_under level * k
zones_below zero i k le = omega arith
zones_below (suc zero) i k le = omega arith
zones_below (suc (suc level)) i k le = absurd (omega arith)

-- a block of a level begins before the end of the volume
inside_volume : (level zones i : ℕ) → level ≤ 2 → i < blocks_of zones level → zones_under level * i < zones
inside_volume zero zones i le lt = omega arith
inside_volume (suc zero) zones i le lt = omega arith
inside_volume (suc (suc zero)) zones i le lt = omega arith
inside_volume (suc (suc (suc level))) zones i le lt = absurd (omega arith)

among_blocks : (level zones i : ℕ) → level ≤ 2 → zones_under level * i < zones → i < blocks_of zones level
among_blocks zero zones i le lt = omega arith
among_blocks (suc zero) zones i le lt = omega arith
among_blocks (suc (suc zero)) zones i le lt = omega arith
among_blocks (suc (suc (suc level))) zones i le lt = absurd (omega arith)

-- what stands in one of eight places over a level
pub eight_entry : (zones number : ℕ) (segments : List (List Code)) (level n : ℕ) (writes : List (ℕ × List ℕ)) (refs eight : List Ref) (i k : ℕ) (d : Ref) → level ≤ 2 → n ≡ blocks_of zones level
    → IsLevel zones number segments level n writes refs → IsEight refs i eight → k < 8 → IsMapEntry level zones number (zones_under level * (8 * i + k)) (slice_index_or eight k d)
eight_entry zones number segments level n writes refs eight i k d le all h is lt =
    let count : length refs ≡ n = h.count in
    let same : slice_index_or eight k d ≡ slice_index_or refs (8 * i + k) empty_ref = is k d lt in
    record {
      used = λ inside.
          let there : 8 * i + k < n = subst (λ (m : ℕ). 8 * i + k < m) (sym all) (among_blocks level zones (8 * i + k) le inside) in
          subst (IsMapRef level number (zones_under level * (8 * i + k))) (sym same) (h.names (8 * i + k) empty_ref there);
      unused = λ outside. elim (cases_lt (8 * i + k) n) [
        | inl there ↦
            let inside : zones_under level * (8 * i + k) < zones = inside_volume level zones (8 * i + k) le (subst (λ (m : ℕ). 8 * i + k < m) all there) in
            absurd (omega arith)
        | inr past ↦ same ∙ get_or_past refs (8 * i + k) empty_ref (omega arith)
      ];
    }

pub eight_leads : (zones number : ℕ) (segments : List (List Code)) (level n : ℕ) (writes : List (ℕ × List ℕ)) (refs eight : List Ref) (image : Places) (i k : ℕ) (d : Ref) → level ≤ 2 → n ≡ blocks_of zones level
    → IsLevel zones number segments level n writes refs → IsEight refs i eight → AllStand writes image → k < 8 → zones_under level * (8 * i + k) < zones
    → LeadsTo image zones number segments level (zones_under level * (8 * i + k)) (slice_index_or eight k d)
eight_leads zones number segments level n writes refs eight image i k d le all h is stand lt inside =
    let there : 8 * i + k < n = subst (λ (m : ℕ). 8 * i + k < m) (sym all) (among_blocks level zones (8 * i + k) le inside) in
    subst (LeadsTo image zones number segments level (zones_under level * (8 * i + k))) (sym (is k d lt)) (h.leads image (8 * i + k) empty_ref stand there)

-- a node that stands in an image in which all below it stands
pub leads_node : (zones number : ℕ) (segments : List (List Code)) (level n : ℕ) (writes : List (ℕ × List ℕ)) (refs eight : List Ref) (i : ℕ) (block : List ℕ) (image : Places) → level ≤ 1 → n ≡ blocks_of zones level
    → IsLevel zones number segments level n writes refs → IsEight refs i eight → IsNode eight → NodeBytes eight (places block) → length block ≡ 1024 → AllStand writes image
    → Holds (node_place (suc level) (zones_under (suc level) * i) (turn_of number)) block image
    → LeadsTo image zones number segments (suc level) (zones_under (suc level) * i) (map_ref_of (suc level) number (zones_under (suc level) * i) (places block))
leads_node zones number segments level n writes refs eight i block image le all h is valid bytes len stand holds =
    let zone = zones_under (suc level) * i in
    let there = node_place (suc level) zone (turn_of number) in (
      eight,
      record { check = has_check (suc level) number zone block image len holds; valid = valid; bytes = NodeBytes-same eight (places block) (from_place image there) valid (stands_there there block image len holds) bytes },
      (λ k d lt. subst (λ (z : ℕ). IsMapEntry level zones number z (slice_index_or eight k d)) (zones_below level i k le) (eight_entry zones number segments level n writes refs eight i k d (omega arith) all h is lt)),
      (λ k d lt inside.
          let e = zones_below level i k le in
          subst (λ (z : ℕ). LeadsTo image zones number segments level z (slice_index_or eight k d)) e
          (eight_leads zones number segments level n writes refs eight image i k d (omega arith) all h is stand lt (subst (λ (z : ℕ). z < zones) (sym e) inside))),
    )

-- One block more

-- writes of a front stand where all do
front_stands : (writes : List (ℕ × List ℕ)) (w : ℕ × List ℕ) (image : Places) → AllStand (writes ++ w ∷ []) image → AllStand writes image
front_stands writes w image all i d lt =
    let more : length (writes ++ w ∷ []) ≡ length writes + 1 = length_push writes w in
    let same : slice_index_or (writes ++ w ∷ []) i d ≡ slice_index_or writes i d = get_or_append_left writes (w ∷ []) d i lt in
    subst (λ (v : ℕ × List ℕ). Holds v.0 v.1 image) same (all i d (omega arith))

last_stands : (writes : List (ℕ × List ℕ)) (w : ℕ × List ℕ) (image : Places) → AllStand (writes ++ w ∷ []) image → Holds w.0 w.1 image
last_stands writes w image all =
    let more : length (writes ++ w ∷ []) ≡ length writes + 1 = length_push writes w in
    let same : slice_index_or (writes ++ w ∷ []) (length writes) w ≡ w = get_or_push writes w w (length writes) refl in
    subst (λ (v : ℕ × List ℕ). Holds v.0 v.1 image) same (all (length writes) w (omega arith))

-- no block of a level yet
pub level_none : (zones number : ℕ) (segments : List (List Code)) (level : ℕ) (writes : List (ℕ × List ℕ)) (refs : List Ref) → refs ≡ [] → ((i : ℕ) (d : ℕ × List ℕ) → i < length writes → length (slice_index_or writes i d).1 ≡ 1024)
    → IsLevel zones number segments level 0 writes refs
level_none zones number segments level writes refs e sizes =
    let none : length refs ≡ 0 = ap length e in
    record {
      count = none;
      valid = λ i d lt. absurd (omega arith);
      names = λ i d lt. absurd (omega arith);
      sizes = sizes;
      leads = λ image i d stand lt. absurd (omega arith);
    }

-- and one more
level_more : (zones number : ℕ) (segments : List (List Code)) (level n zone : ℕ) (writes : List (ℕ × List ℕ)) (refs : List Ref) (block : List ℕ) → zone ≡ zones_under level * n
    → IsLevel zones number segments level n writes refs → length block ≡ 1024 → IsValid (map_ref_of level number zone (places block))
    → ((image : Places) → AllStand writes image → Holds (node_place level zone (turn_of number)) block image → LeadsTo image zones number segments level zone (map_ref_of level number zone (places block)))
    → IsLevel zones number segments level (n + 1) (writes ++ write_of level number zone block ∷ []) (refs ++ map_ref_of level number zone (places block) ∷ [])
level_more zones number segments level n zone writes refs block begins h len valid leads =
    let count : length refs ≡ n = h.count in
    let r = map_ref_of level number zone (places block) in
    let w = write_of level number zone block in
    let longer : length (refs ++ r ∷ []) ≡ length refs + 1 = length_push refs r in
    let more : length (writes ++ w ∷ []) ≡ length writes + 1 = length_push writes w in
    record {
      count = omega arith;
      valid = λ i d lt. elim (cases_lt i n) [
        | inl below ↦ subst IsValid (sym (get_or_append_left refs (r ∷ []) d i (omega arith))) (h.valid i d (omega arith))
        | inr above ↦ subst IsValid (sym (get_or_push refs r d i (omega arith))) valid
      ];
      names = λ i d lt. elim (cases_lt i n) [
        | inl below ↦ subst (IsMapRef level number (zones_under level * i)) (sym (get_or_append_left refs (r ∷ []) d i (omega arith))) (h.names i d below)
        | inr above ↦
            let e : i ≡ n = omega arith in
            let z : zone ≡ zones_under level * i = begins ∙ ap (λ (m : ℕ). zones_under level * m) (sym e) in
            subst (IsMapRef level number (zones_under level * i)) (sym (get_or_push refs r d i (omega arith)))
            (subst (λ (m : ℕ). IsMapRef level number m r) z (map_names level number zone (places block)))
      ];
      sizes = λ i d lt. elim (cases_lt i (length writes)) [
        | inl below ↦ ap (λ (v : ℕ × List ℕ). length v.1) (get_or_append_left writes (w ∷ []) d i below) ∙ h.sizes i d below
        | inr above ↦ ap (λ (v : ℕ × List ℕ). length v.1) (get_or_push writes w d i (omega arith)) ∙ len
      ];
      leads = λ image i d stand lt. elim (cases_lt i n) [
        | inl below ↦ subst (LeadsTo image zones number segments level (zones_under level * i)) (sym (get_or_append_left refs (r ∷ []) d i (omega arith))) (h.leads image i d (front_stands writes w image stand) below)
        | inr above ↦
            let e : i ≡ n = omega arith in
            let z : zone ≡ zones_under level * i = begins ∙ ap (λ (m : ℕ). zones_under level * m) (sym e) in
            subst (LeadsTo image zones number segments level (zones_under level * i)) (sym (get_or_push refs r d i (omega arith)))
            (subst (λ (m : ℕ). LeadsTo image zones number segments level m r) z (leads image (front_stands writes w image stand) (last_stands writes w image stand)))
      ];
    }

-- the same, where the vectors have grown
pub level_added : (zones number : ℕ) (segments : List (List Code)) (level n zone : ℕ) (writes ws : List (ℕ × List ℕ)) (refs rs : List Ref) (block : List ℕ) → zone ≡ zones_under level * n
    → ws ≡ writes ++ write_of level number zone block ∷ [] → rs ≡ refs ++ map_ref_of level number zone (places block) ∷ []
    → IsLevel zones number segments level n writes refs → length block ≡ 1024 → IsValid (map_ref_of level number zone (places block))
    → ((image : Places) → AllStand writes image → Holds (node_place level zone (turn_of number)) block image → LeadsTo image zones number segments level zone (map_ref_of level number zone (places block)))
    → IsLevel zones number segments level (n + 1) ws rs
level_added zones number segments level n zone writes ws refs rs block begins ew er h len valid leads =
    subst (λ (v : List (ℕ × List ℕ)). IsLevel zones number segments level (n + 1) v rs) (sym ew)
    (subst (λ (v : List Ref). IsLevel zones number segments level (n + 1) (writes ++ write_of level number zone block ∷ []) v) (sym er)
    (level_more zones number segments level n zone writes refs block begins h len valid leads))

-- blocks of a level stay where another write is added
pub level_kept : (zones number : ℕ) (segments : List (List Code)) (level n : ℕ) (writes ws : List (ℕ × List ℕ)) (w : ℕ × List ℕ) (refs : List Ref) → ws ≡ writes ++ w ∷ [] → length w.1 ≡ 1024
    → IsLevel zones number segments level n writes refs → IsLevel zones number segments level n ws refs
level_kept zones number segments level n writes ws w refs ew len h =
    let more : length (writes ++ w ∷ []) ≡ length writes + 1 = length_push writes w in
    subst (λ (v : List (ℕ × List ℕ)). IsLevel zones number segments level n v refs) (sym ew) (record {
      count = h.count;
      valid = h.valid;
      names = h.names;
      sizes = λ i d lt. elim (cases_lt i (length writes)) [
        | inl below ↦ ap (λ (v : ℕ × List ℕ). length v.1) (get_or_append_left writes (w ∷ []) d i below) ∙ h.sizes i d below
        | inr above ↦ ap (λ (v : ℕ × List ℕ). length v.1) (get_or_push writes w d i (omega arith)) ∙ len
      ];
      leads = λ image i d stand lt. h.leads image i d (front_stands writes w image stand) lt;
    })

-- the places, where the writes have grown
pub order_added : (number level n zone : ℕ) (writes ws : List (ℕ × List ℕ)) (block places : List ℕ) → zone ≡ zones_under level * n → ws ≡ writes ++ write_of level number zone block ∷ []
    → places_of writes ≡ places ++ level_places number level n → places_of ws ≡ places ++ level_places number level (n + 1)
order_added number level n zone writes ws block places begins ew h =
    let next : suc n ≡ n + 1 = omega arith in
    let last : node_place level zone (turn_of number) ∷ [] ≡ node_place level (zones_under level * n) (turn_of number) ∷ [] = ap (λ (z : ℕ). node_place level z (turn_of number) ∷ []) begins in
    ap places_of ew ∙ map-append (λ (w : ℕ × List ℕ). w.0) writes (write_of level number zone block ∷ []) ∙ ap (λ (xs : List ℕ). xs ++ node_place level zone (turn_of number) ∷ []) h
    ∙ append_assoc places (level_places number level n) (node_place level zone (turn_of number) ∷ []) ∙ ap (λ (xs : List ℕ). places ++ (level_places number level n ++ xs)) last ∙ ap (λ (m : ℕ). places ++ level_places number level m) next

-- the references of the header's map
pub top_mapped : (zones number : ℕ) (segments : List (List Code)) (level n : ℕ) (writes : List (ℕ × List ℕ)) (refs eight : List Ref) (image : Places) → level ≤ 2 → level ≡ top_level zones → n ≡ blocks_of zones level
    → IsLevel zones number segments level n writes refs → IsEight refs 0 eight → length eight ≡ 8 → All IsValid eight → AllStand writes image → AreMapped image zones number segments eight
top_mapped zones number segments level n writes refs eight image le top all h is len valid stand = record {
  map = record {
    length_is = len;
    valid = valid;
    slots = λ k d lt. subst (λ (l : ℕ). IsMapEntry l zones number (zones_under l * k) (slice_index_or eight k d)) top
        (subst (λ (i : ℕ). IsMapEntry level zones number (zones_under level * i) (slice_index_or eight k d)) (start k) (eight_entry zones number segments level n writes refs eight 0 k d le all h is lt));
  };
  leads = λ k d lt inside. subst (λ (l : ℕ). LeadsTo image zones number segments l (zones_under l * k) (slice_index_or eight k d)) top
      (subst (λ (i : ℕ). LeadsTo image zones number segments level (zones_under level * i) (slice_index_or eight k d)) (start k)
      (eight_leads zones number segments level n writes refs eight image 0 k d le all h is stand lt
      (subst (λ (i : ℕ). zones_under level * i < zones) (sym (start k)) (subst (λ (l : ℕ). zones_under l * k < zones) (sym top) inside))));
}
  where
    start : (k : ℕ) → 8 * 0 + k ≡ k
    start k = omega arith

-- a node was added over the blocks below
pub node_added : (zones number : ℕ) (segments : List (List Code)) (level i zone : ℕ) (writes ws : List (ℕ × List ℕ)) (below refs rs eight : List Ref) (block : List ℕ) → level ≤ 1 → zone ≡ zones_under (suc level) * i
    → ws ≡ writes ++ write_of (suc level) number zone block ∷ [] → rs ≡ refs ++ map_ref_of (suc level) number zone (places block) ∷ []
    → IsLevel zones number segments level (blocks_of zones level) writes below → IsLevel zones number segments (suc level) i writes refs
    → IsEight below i eight → IsNode eight → NodeBytes eight (places block) → length block ≡ 1024 → IsValid (map_ref_of (suc level) number zone (places block))
    → IsLevel zones number segments (suc level) (i + 1) ws rs
node_added zones number segments level i zone writes ws below refs rs eight block le begins ew er under h is valid bytes len ref_valid =
    level_added zones number segments (suc level) i zone writes ws refs rs block begins ew er h len ref_valid
    (λ image stand. subst (λ (z : ℕ). Holds (node_place (suc level) z (turn_of number)) block image → LeadsTo image zones number segments (suc level) z (map_ref_of (suc level) number z (places block))) (sym begins)
    (leads_node zones number segments level (blocks_of zones level) writes below eight i block image le refl under is valid bytes len stand))

-- the plan, by its highest level
pub plan_by : (zones number : ℕ) (segments : List (List Code)) (level : ℕ) (writes : List (ℕ × List ℕ)) (refs eight : List Ref) → level ≤ 2 → level ≡ top_level zones
    → IsLevel zones number segments level (blocks_of zones level) writes refs → IsEight refs 0 eight → length eight ≡ 8 → All IsValid eight → places_of writes ≡ map_places zones number level → IsPlan zones number segments writes eight
plan_by zones number segments level writes refs eight le top h is len valid order = record {
  order = order ∙ ap (map_places zones number) top;
  sizes = h.sizes;
  mapped = λ image stand. top_mapped zones number segments level (blocks_of zones level) writes refs eight image le top refl h is len valid stand;
}
