-- The check area of a reference.
use Rattle.std.proofs.Common.{◌≡◌, ◌<◌, ℕ, List, length, take, drop, sym, ap, ◌∙◌, arith}
use Rattle.std.specs.Prelude.{slice_index}
use Rattle.std.specs.Array.{IsFirstChunk}
use Rattle.std.proofs.lemmas.List.{get_or-take, get_or-drop, ext_get_or, length-take-le}
use Rattle.h2_num.specs.Places.{places}
use Rattle.h2_ref.specs.Reading.{bytes_from}
use Rattle.h2_ref.specs.Spelled.{bytes_from-at, length-bytes_from}

-- the last 64 of 128 bytes
pub area_read : (b area : List ℕ) → IsFirstChunk (take 64 (drop 64 b)) area 64 → area ≡ bytes_from (places b) 64 64
area_read b area h = ext_get_or 0 area (bytes_from (places b) 64 64) (len ∙ sym (length-bytes_from (places b) 64 64)) (λ k lt.
    let inside : k < 64 = omega (arith, len) in
    ap (λ (l : List ℕ). slice_index l k) h.same ∙ get_or-take 64 (take 64 (drop 64 b)) k 0 (omega arith) ∙ get_or-take 64 (drop 64 b) k 0 (omega arith) ∙ get_or-drop 64 b k 0
    ∙ sym (bytes_from-at (places b) 64 64 k (omega arith)))
  where
    len : length area ≡ 64
    len = ap length h.same ∙ length-take-le 64 (take 64 (drop 64 b)) h.enough
