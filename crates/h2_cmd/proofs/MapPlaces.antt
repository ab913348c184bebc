-- Where the blocks of the first copy of the freemap lie: apart from one another, in their zones.
use Rattle.std.proofs.Common.{◌≡◌, ◌⊎◌, ◌<◌, ◌≤◌, ℕ, zero, suc, ◌*◌, ◌%◌, List, [], ◌∷◌, ◌++◌, length, refl, ◌∙◌, inl, inr, arith}
use Rattle.std.proofs.lemmas.List.{length-append}
use Rattle.h2_num.specs.Places.{InRange}
use Rattle.h2_geom.specs.Places.{node_place, turn_of}
use Rattle.h2_header.specs.Map.{top_level, zones_under}
use Rattle.h2_freeleaf.specs.Plan.{blocks_of, level_places, map_places}
use Rattle.h2_image.specs.NewVolume.{blocks_up_to, InNewMap}
use Rattle.h2_image.specs.NewVolumeLaws.{top_most}

-- the byte belongs to a block of 1024 bytes at one of the places
abbrev pub InPlaces : List ℕ → ℕ → Type 0
InPlaces [] k = ⊥
InPlaces (p ∷ places) k = InRange p 1024 k ⊎ InPlaces places k

-- no byte belongs to two of these blocks
abbrev pub PlacesApart : List ℕ → Type 0
PlacesApart [] = Unit {0}
PlacesApart (p ∷ places) = ((k : ℕ) → InRange p 1024 k → InPlaces places k → ⊥) × PlacesApart places

in_append : (a b : List ℕ) (k : ℕ) → InPlaces (a ++ b) k → InPlaces a k ⊎ InPlaces b k
in_append [] b k i = inr i
in_append (p ∷ a) b k (inl here) = inl (inl here)
in_append (p ∷ a) b k (inr there) = elim (in_append a b k there) [
  | inl left ↦ inl (inr left)
  | inr right ↦ inr right
]

apart_append : (a b : List ℕ) → PlacesApart a → PlacesApart b → ((k : ℕ) → InPlaces a k → InPlaces b k → ⊥) → PlacesApart (a ++ b)
apart_append [] b x y cross = y
apart_append (p ∷ a) b x y cross = (λ k here there. head k here (in_append a b k there), apart_append a b x.1 y (λ k i j. cross k (inr i) j))
  where
    head : (k : ℕ) → InRange p 1024 k → InPlaces a k ⊎ InPlaces b k → ⊥
    head k here (inl i) = x.0 k here i
    head k here (inr j) = cross k (inl here) j

-- the byte belongs to one of the first n blocks of a level
record InLevel (level n k : ℕ) : Type 0 where
  index : ℕ
  below : index < n
  inside : InRange (node_place level (zones_under level * index) 0) 1024 k

in_level : (level n k : ℕ) → InPlaces (level_places 1 level n) k → InLevel level n k
in_level level zero k i = absurd i
in_level level (suc n) k i = found (in_level level n k) (in_append (level_places 1 level n) (node_place level (zones_under level * n) (turn_of 1) ∷ []) k i)
  where
    earlier : InLevel level n k → InLevel level (suc n) k
    earlier m = record { index = m.index; below = (let lt : m.index < n = m.below in omega arith); inside = m.inside }

    found : (InPlaces (level_places 1 level n) k → InLevel level n k) → InPlaces (level_places 1 level n) k ⊎ InPlaces (node_place level (zones_under level * n) (turn_of 1) ∷ []) k → InLevel level (suc n) k
    found before (inl there) = earlier (before there)
    found before (inr (inl here)) = record { index = n; below = omega arith; inside = here }
    found before (inr (inr none)) = absurd none

-- two blocks of a level
apart_in_level : (level i j k : ℕ) → level ≤ 2 → i < j → InRange (node_place level (zones_under level * i) 0) 1024 k → InRange (node_place level (zones_under level * j) 0) 1024 k → ⊥
apart_in_level zero i j k le lt r s = let a = r.0 in let b = r.1 in let c = s.0 in let d = s.1 in absurd (omega arith)
apart_in_level (suc zero) i j k le lt r s = let a = r.0 in let b = r.1 in let c = s.0 in let d = s.1 in absurd (omega arith)
apart_in_level (suc (suc zero)) i j k le lt r s = let a = r.0 in let b = r.1 in let c = s.0 in let d = s.1 in absurd (omega arith)
apart_in_level (suc (suc (suc level))) i j k le lt r s = absurd (omega arith)

level_apart : (level n : ℕ) → level ≤ 2 → PlacesApart (level_places 1 level n)
level_apart level zero le = tt
level_apart level (suc n) le =
    apart_append (level_places 1 level n) (node_place level (zones_under level * n) (turn_of 1) ∷ []) (level_apart level n le) (λ k r none. absurd none, tt) (λ k i j. cross k (in_level level n k i) j)
  where
    cross : (k : ℕ) → InLevel level n k → InPlaces (node_place level (zones_under level * n) (turn_of 1) ∷ []) k → ⊥
    cross k m (inl here) = apart_in_level level m.index n k le m.below m.inside here
    cross k m (inr none) = absurd none

-- two blocks of different levels
apart_of_levels : (low high y z k : ℕ) → low < high → high ≤ 2 → InRange (node_place low y 0) 1024 k → InRange (node_place high z 0) 1024 k → ⊥
apart_of_levels low high y z k lt le r s = let a = r.0 in let b = r.1 in let c = s.0 in let d = s.1 in absurd (omega arith)

-- the byte belongs to a block of a level up to this one
record InLevels (zones level k : ℕ) : Type 0 where
  at : ℕ
  up_to : at ≤ level
  block : InLevel at (blocks_of zones at) k

in_levels : (zones level k : ℕ) → InPlaces (map_places zones 1 level) k → InLevels zones level k
in_levels zones zero k i = record { at = 0; up_to = omega arith; block = in_level 0 (blocks_of zones 0) k i }
in_levels zones (suc level) k i = found (in_levels zones level k) (in_append (map_places zones 1 level) (level_places 1 (suc level) (blocks_of zones (suc level))) k i)
  where
    lower : InLevels zones level k → InLevels zones (suc level) k
    lower m = record { at = m.at; up_to = (let le : m.at ≤ level = m.up_to in omega arith); block = m.block }

    found : (InPlaces (map_places zones 1 level) k → InLevels zones level k) → InPlaces (map_places zones 1 level) k ⊎ InPlaces (level_places 1 (suc level) (blocks_of zones (suc level))) k → InLevels zones (suc level) k
    found below (inl there) = lower (below there)
    found below (inr here) = record { at = suc level; up_to = omega arith; block = in_level (suc level) (blocks_of zones (suc level)) k here }

map_apart : (zones level : ℕ) → level ≤ 2 → PlacesApart (map_places zones 1 level)
map_apart zones zero le = level_apart 0 (blocks_of zones 0) le
map_apart zones (suc level) le =
    apart_append (map_places zones 1 level) (level_places 1 (suc level) (blocks_of zones (suc level))) (map_apart zones level (omega arith)) (level_apart (suc level) (blocks_of zones (suc level)) le)
    (λ k i j. cross k (in_levels zones level k i) (in_level (suc level) (blocks_of zones (suc level)) k j))
  where
    cross : (k : ℕ) → InLevels zones level k → InLevel (suc level) (blocks_of zones (suc level)) k → ⊥
    cross k m n = let up : m.at ≤ level = m.up_to in apart_of_levels m.at (suc level) (zones_under m.at * m.block.index) (zones_under (suc level) * n.index) k (omega arith) le m.block.inside n.inside

-- no byte belongs to two blocks of the copy
pub copy_apart : (zones : ℕ) → PlacesApart (map_places zones 1 (top_level zones))
copy_apart zones = map_apart zones (top_level zones) (top_most zones)

-- a block of a level begins in the volume
begins_inside : (level zones i : ℕ) → level ≤ 2 → i < blocks_of zones level → zones_under level * i < zones
begins_inside zero zones i le lt = omega arith
begins_inside (suc zero) zones i le lt = omega arith
begins_inside (suc (suc zero)) zones i le lt = omega arith
begins_inside (suc (suc (suc level))) zones i le lt = absurd (omega arith)

begins_aligned : (level i : ℕ) → level ≤ 2 → (zones_under level * i) % zones_under level ≡ 0
begins_aligned zero i le = omega arith
begins_aligned (suc zero) i le = omega arith
begins_aligned (suc (suc zero)) i le = omega arith
begins_aligned (suc (suc (suc level))) i le = absurd (omega arith)

-- a byte of the copy belongs to a block of the new freemap
pub in_copy : (zones k : ℕ) → InPlaces (map_places zones 1 (top_level zones)) k → InNewMap zones k
in_copy zones k i = found (in_levels zones (top_level zones) k i)
  where
    found : InLevels zones (top_level zones) k → InNewMap zones k
    found m =
        let up : m.at ≤ top_level zones = m.up_to in
        let top : top_level zones ≤ 2 = top_most zones in
        record {
          level = m.at;
          zone = zones_under m.at * m.block.index;
          in_levels = m.up_to;
          in_zones = begins_inside m.at zones m.block.index (omega arith) m.block.below;
          begins = begins_aligned m.at m.block.index (omega arith);
          inside = m.block.inside;
        }

level_count : (level n : ℕ) → length (level_places 1 level n) ≡ n
level_count level zero = refl
level_count level (suc n) = length-append (level_places 1 level n) (node_place level (zones_under level * n) (turn_of 1) ∷ []) ∙ (let e = level_count level n in omega arith)

pub copy_count : (zones level : ℕ) → length (map_places zones 1 level) ≡ blocks_up_to zones level
copy_count zones zero = level_count 0 (blocks_of zones 0)
copy_count zones (suc level) =
    let low = copy_count zones level in
    let high = level_count (suc level) (blocks_of zones (suc level)) in
    length-append (map_places zones 1 level) (level_places 1 (suc level) (blocks_of zones (suc level))) ∙ rw (low, high) refl
