-- The blocks of the freemap are apart, and lie in reserved chunks.
use Rattle.std.proofs.Common.{◌≡◌, ◌⊎◌, ◌<◌, ◌≤◌, ℕ, ◌+◌, sym, ap, ◌∙◌, inl, inr, arith}
use Rattle.std.proofs.lemmas.Bool.{cases_lt}
use Rattle.h2_geom.specs.Places.{MapBlock, IsMapBlock, IsApart, map_place, header_place, map_block_bytes, header_bytes}
use Rattle.h2_geom.specs.Laws.{MapBlocksApart, MapApartFromHeaders, HeadersApart, MapIsReserved, MapInZone, HeadersAreReserved}

-- a block of a lower zone, or of the same zone and a lower copy, or of the same copy and a lower level,
-- lies below the other
lower_zone : (a b : MapBlock) → IsMapBlock a → IsMapBlock b → a.zone < b.zone → map_place a + map_block_bytes ≤ map_place b
lower_zone a b ha hb lt =
    let level : a.level < 3 = ha.in_levels in
    let copy : a.copy < 4 = ha.in_copies in
    omega arith

lower_copy : (a b : MapBlock) → IsMapBlock a → IsMapBlock b → a.zone ≡ b.zone → a.copy < b.copy → map_place a + map_block_bytes ≤ map_place b
lower_copy a b ha hb zone lt =
    let level : a.level < 3 = ha.in_levels in
    omega arith

lower_level : (a b : MapBlock) → a.zone ≡ b.zone → a.copy ≡ b.copy → a.level < b.level → map_place a + map_block_bytes ≤ map_place b
lower_level a b zone copy lt = omega arith

abbrev block : ℕ → ℕ → ℕ → MapBlock
block level zone copy = record { level = level; zone = zone; copy = copy }

same_block : (a b : MapBlock) → a.level ≡ b.level → a.zone ≡ b.zone → a.copy ≡ b.copy → a ≡ b
same_block a b level zone copy =
    let one : a ≡ block b.level a.zone a.copy = ap (λ (l : ℕ). block l a.zone a.copy) level in
    let two : block b.level a.zone a.copy ≡ block b.level b.zone a.copy = ap (λ (z : ℕ). block b.level z a.copy) zone in
    let three : block b.level b.zone a.copy ≡ b = ap (λ (c : ℕ). block b.level b.zone c) copy in
    one ∙ two ∙ three

pub blocks_apart : MapBlocksApart
blocks_apart a b ha hb ne = by_zone (cases_lt a.zone b.zone) (cases_lt b.zone a.zone)
  where
    by_level : a.zone ≡ b.zone → a.copy ≡ b.copy → (a.level < b.level) ⊎ (b.level ≤ a.level) → (b.level < a.level) ⊎ (a.level ≤ b.level) → IsApart (map_place a) map_block_bytes (map_place b) map_block_bytes
    by_level zone copy (inl lt) d = inl (lower_level a b zone copy lt)
    by_level zone copy (inr le) (inl lt) = inr (lower_level b a (sym zone) (sym copy) lt)
    by_level zone copy (inr le) (inr ge) = let level : a.level ≡ b.level = omega arith in absurd (ne (same_block a b level zone copy))

    by_copy : a.zone ≡ b.zone → (a.copy < b.copy) ⊎ (b.copy ≤ a.copy) → (b.copy < a.copy) ⊎ (a.copy ≤ b.copy) → IsApart (map_place a) map_block_bytes (map_place b) map_block_bytes
    by_copy zone (inl lt) d = inl (lower_copy a b ha hb zone lt)
    by_copy zone (inr le) (inl lt) = inr (lower_copy b a hb ha (sym zone) lt)
    by_copy zone (inr le) (inr ge) = by_level zone (omega arith) (cases_lt a.level b.level) (cases_lt b.level a.level)

    by_zone : (a.zone < b.zone) ⊎ (b.zone ≤ a.zone) → (b.zone < a.zone) ⊎ (a.zone ≤ b.zone) → IsApart (map_place a) map_block_bytes (map_place b) map_block_bytes
    by_zone (inl lt) d = inl (lower_zone a b ha hb lt)
    by_zone (inr le) (inl lt) = inr (lower_zone b a hb ha lt)
    by_zone (inr le) (inr ge) = by_copy (omega arith) (cases_lt a.copy b.copy) (cases_lt b.copy a.copy)

pub headers_apart : MapApartFromHeaders
headers_apart b slot h = by_zone (cases_lt b.zone slot)
  where
    by_zone : (b.zone < slot) ⊎ (slot ≤ b.zone) → IsApart (map_place b) map_block_bytes (header_place slot) header_bytes
    by_zone (inl lt) =
        let level : b.level < 3 = h.in_levels in
        let copy : b.copy < 4 = h.in_copies in
        inl (omega arith)
    by_zone (inr le) = inr (omega arith)

pub headers_distinct : HeadersApart
headers_distinct s t ne = by_order (cases_lt s t)
  where
    above : t ≤ s → t < s
    above le = elim (cases_lt t s) [ inl lt ↦ lt | inr ge ↦ absurd (ne (omega (arith, le, ge))) ]

    by_order : (s < t) ⊎ (t ≤ s) → IsApart (header_place s) header_bytes (header_place t) header_bytes
    by_order (inl lt) = inl (omega arith)
    by_order (inr le) = inr (let more = above le in omega (arith, more))

pub blocks_reserved : MapIsReserved
blocks_reserved b k h lt =
    let levels : b.level < 3 = h.in_levels in
    let zones : b.zone < 512 = h.in_zones in
    let copies : b.copy < 4 = h.in_copies in
    (omega arith, omega arith)

pub blocks_in_zone : MapInZone
blocks_in_zone b h =
    let levels : b.level < 3 = h.in_levels in
    let copies : b.copy < 4 = h.in_copies in
    (omega arith, omega arith, omega arith)

pub headers_reserved : HeadersAreReserved
headers_reserved slot k s lt = (omega arith, omega arith)
