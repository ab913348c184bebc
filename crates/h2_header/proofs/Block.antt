-- The block of a header, put in order.
use Rattle.std.proofs.Common.{◌≡◌, ◌<◌, ◌≤◌, ℕ, ◌+◌, ◌*◌, List, length, take, slice_index_or, refl, ap, sym, ◌∙◌, arith, inl, inr}
use Rattle.std.specs.Prelude.{slice_index}
use Rattle.std.proofs.lemmas.Bool.{cases_lt}
use Rattle.std.proofs.lemmas.List.{get_or-take}
use Rattle.h2_num.specs.Places.{Places, places, from_place, SameOutside, ZeroIn, Puts, Lays}
use Rattle.h2_num.specs.PlaceLaws.{number_stays, zeros_stay, zeros_within, outside_both, number_at-same}
use Rattle.h2_check.specs.Crc.{crc32c_of}
use Rattle.h2_check.specs.CrcLaws.{crc32c_of-same}
use Rattle.h2_ref.specs.Ref.{RefBytes}
use Rattle.h2_ref.specs.RefLaws.{RefBytes-same}
use Rattle.h2_ref.specs.Set.{RefsBytes}
use Rattle.h2_ref.specs.SetLaws.{RefsBytes-same}
use Rattle.h2_ref.specs.declared.reference.Ref.{Ref}
use Rattle.h2_header.specs.Header.{NumberBytes, HeadBytes}
use Rattle.h2_header.specs.declared.header.Header.{Header}
use Rattle.h2_header.proofs.Numbers.{FieldsPut}

pub ref_put : (r : Ref) (at : ℕ) (bytes : List ℕ) (old new : Places) → length bytes ≡ 128 → RefBytes r (places bytes) → Lays at bytes old new → RefBytes r (from_place new at)
ref_put r at bytes old new len h lays = RefBytes-same r (places bytes) (from_place new at) (λ k lt. lays.inside k (omega arith)) h

-- one more reference
pub refs_more : (refs : List Ref) (r : Ref) (at i : ℕ) (old new : Places) → i < length refs → ((d : Ref) → slice_index_or refs i d ≡ r)
    → ((k : ℕ) (d : Ref) → k < i → RefBytes (slice_index_or refs k d) (from_place (from_place old at) (128 * k)))
    → RefBytes r (from_place new (at + 128 * i)) → SameOutside (at + 128 * i) 128 old new
    → (k : ℕ) (d : Ref) → k < i + 1 → RefBytes (slice_index_or refs k d) (from_place (from_place new at) (128 * k))
refs_more refs r at i old new lt is so_far one same k d below = elim (cases_lt k i) [
  | inl earlier ↦ RefBytes-same (slice_index_or refs k d) (from_place (from_place old at) (128 * k)) (from_place (from_place new at) (128 * k))
      (λ j j_lt. same.before (at + (128 * k + j)) (omega arith)) (so_far k d earlier)
  | inr late ↦
      let e : k ≡ i = omega arith in
      let here : RefBytes r (from_place (from_place new at) (128 * i)) = RefBytes-same r (from_place new (at + 128 * i)) (from_place (from_place new at) (128 * i)) (λ j j_lt. ap new (omega arith)) one in
      rw (e, is d) here
]

-- references before a written range stay
refs_stay : (refs : List Ref) (at i n m : ℕ) (old new : Places) → length refs ≡ m → at + 128 * m ≤ i → SameOutside i n old new → RefsBytes refs (from_place old at) → RefsBytes refs (from_place new at)
refs_stay refs at i n m old new len le same = RefsBytes-same refs (from_place old at) (from_place new at) (λ k lt. same.before (at + k) (omega arith))

-- numbers before a written range stay
numbers_stay : (h : Header) (at n : ℕ) (old new : Places) → 40 ≤ at → SameOutside at n old new → NumberBytes h old → NumberBytes h new
numbers_stay h at n old new le same p = record {
  zones = number_at-same new old 12 12 4 (λ k lt. same.before (12 + k) (omega arith)) ∙ p.zones;
  number = number_at-same new old 16 16 8 (λ k lt. same.before (16 + k) (omega arith)) ∙ p.number;
  map_number = number_at-same new old 24 24 8 (λ k lt. same.before (24 + k) (omega arith)) ∙ p.map_number;
  next_pfs = number_at-same new old 32 32 8 (λ k lt. same.before (32 + k) (omega arith)) ∙ p.next_pfs;
}

-- the whole block
pub block_put : (h : Header) (check : ℕ) (b0 b1 b2 b3 b4 : Places) → length h.root ≡ 4 → length h.map ≡ 8 → ZeroIn 0 65536 b0
    → FieldsPut h b0 b1
    → RefsBytes h.root (from_place b2 512) → SameOutside 512 512 b1 b2
    → RefsBytes h.map (from_place b3 1024) → SameOutside 1024 1024 b2 b3
    → check ≡ crc32c_of b3 65532 → Puts 65532 4 check b3 b4 → HeadBytes h b4
block_put h check b0 b1 b2 b3 b4 root_len map_len zeros fields root o2 map o3 crc p =
    let o1 = fields.others in
    let o23 : SameOutside 512 1536 b1 b3 = outside_both 512 1536 512 512 1024 1024 b1 b2 b3 (omega arith) (omega arith) (omega arith) (omega arith) o2 o3 in
    let late : SameOutside 512 65024 b1 b4 = outside_both 512 65024 512 1536 65532 4 b1 b3 b4 (omega arith) (omega arith) (omega arith) (omega arith) o23 p.others in
    let late2 : SameOutside 1024 64512 b2 b4 = outside_both 1024 64512 1024 1024 65532 4 b2 b3 b4 (omega arith) (omega arith) (omega arith) (omega arith) o3 p.others in
    let early : SameOutside 0 2048 b0 b3 = outside_both 0 2048 0 40 512 1536 b0 b1 b3 (omega arith) (omega arith) (omega arith) (omega arith) o1 o23 in
    record {
      frame = record {
        magic = λ k lt. late.before k (omega arith) ∙ fields.magic k lt;
        version = number_stays 8 4 512 65024 b1 b4 late refl ∙ fields.version;
        gap = zeros_stay 40 472 512 65024 b1 b4 late refl (zeros_stay 40 472 0 40 b0 b1 o1 refl (zeros_within 0 65536 40 512 b0 (omega arith) (omega arith) zeros));
        tail = zeros_stay 2048 63484 65532 4 b3 b4 p.others refl (zeros_stay 2048 63484 0 2048 b0 b3 early refl (zeros_within 0 65536 2048 65532 b0 (omega arith) (omega arith) zeros));
        check = p.field ∙ crc ∙ sym (crc32c_of-same b3 b4 65532 (λ k lt. p.others.before k lt));
      };
      values = record {
        numbers = numbers_stay h 512 65024 b1 b4 (omega arith) late fields.numbers;
        root = refs_stay h.root 512 1024 64512 4 b2 b4 root_len (omega arith) late2 root;
        map = refs_stay h.map 1024 65532 4 8 b3 b4 map_len (omega arith) p.others map;
      };
    }

-- the check of a front of a block
pub front_check : (b front : List ℕ) (check n : ℕ) → front ≡ take n b → length front ≡ n → check ≡ crc32c_of (places front) (length front) → check ≡ crc32c_of (places b) n
front_check b front check n e len crc =
    crc ∙ ap (crc32c_of (places front)) len ∙ crc32c_of-same (places b) (places front) n (λ k lt. ap (λ (l : List ℕ). slice_index l k) e ∙ get_or-take n b k 0 lt)
