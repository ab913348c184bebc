-- Steps of the loops over the eight words of a segment.
use Rattle.std.proofs.Common.{◌≡◌, ◌≢◌, ◌⊎◌, ◌<◌, ◌≤◌, ℕ, ◌+◌, ◌*◌, ◌-◌, ◌/◌, ◌%◌, ◌^◌, Bool, List, length, take, slice_index, refl, sym, ap, ◌∙◌, subst, inl, inr, arith}
use Rattle.std.specs.Int.{bit_at}
use Rattle.std.proofs.lemmas.Bool.{cases_lt}
use Rattle.std.proofs.lemmas.Nat.Bits.{bit_at_cat_low, bit_at_cat_high}
use Rattle.h2_codes.specs.declared.code.Code.{Code}
use Rattle.h2_codes.specs.declared.code.Code.TheVariants.{Free}
use Rattle.h2_codes.specs.Codes.{code_at, tally, count_of, NoneFree, IsNextFree}
use Rattle.h2_codes.specs.Seen.{has_chunk}
use Rattle.h2_codes.specs.Bulkfree.{swept_code, tally_unseen, count_unseen}
use Rattle.h2_codes.specs.Packed.{word_code, codes_in, flags_in, flag_of, flag_bit, byte_flag, AllBytes, little, sum_below, Marks, IsSpread, NoneFreeIn, IsFirstFree}
use Rattle.h2_codes.specs.PackedLaws.{byte_bit}
use Rattle.h2_codes.proofs.Counts.{count_of-more, count_unseen-more, sum_below_le, tally_le, tally_unseen_le}
use Rattle.h2_codes.proofs.Lookup.{segment_length, word_lookup, put_lookup, stays_lookup, flag_lookup, flag_of-bit}

-- the codes of a word that was read
read_word : (bs : List ℕ) (j k word : ℕ) → AllBytes bs → length bs ≡ 64 → j < 8 → word ≡ little bs (8 * j) 8 → k < 32 → code_at (codes_in bs) (32 * j + k) ≡ word_code word k
read_word bs j k word fits len lj e lk = word_lookup bs j k fits len lj lk ∙ ap (λ (w : ℕ). word_code w k) (sym e)

pub count_step : (bs : List ℕ) (code : Code) (j word n r : ℕ) → AllBytes bs → length bs ≡ 64 → j < 8 → word ≡ little bs (8 * j) 8 → r ≡ sum_below 32 (λ k. tally code (word_code word k)) → n ≡ count_of code (take (32 * j) (codes_in bs)) → n + r ≡ count_of code (take (32 * (j + 1)) (codes_in bs))
count_step bs code j word n r fits len lj word_is r_is n_is =
    let size = segment_length bs len in
    let next : 32 * (j + 1) ≡ 32 * j + 32 = omega arith in
    let more = count_of-more code (codes_in bs) (λ k. tally code (word_code word k)) (32 * j) 32 (omega (arith, size)) (λ k lk. ap (tally code) (sym (read_word bs j k word fits len lj word_is lk))) in
    rw next (omega (arith, more, r_is, n_is))

pub count_step_le : (code : Code) (word : ℕ) → sum_below 32 (λ k. tally code (word_code word k)) ≤ 32
count_step_le code word = sum_below_le 32 (λ k. tally code (word_code word k)) (λ k lt. tally_le code (word_code word k))

pub unseen_step_le : (code : Code) (word marks : ℕ) → sum_below 32 (λ k. tally_unseen code (word_code word k) (flag_of (bit_at marks (2 * k)))) ≤ 32
unseen_step_le code word marks = sum_below_le 32 (λ k. tally_unseen code (word_code word k) (flag_of (bit_at marks (2 * k)))) (λ k lt. tally_unseen_le code (word_code word k) (flag_of (bit_at marks (2 * k))))

-- the marks of what is seen
seen_flag : (flags : List Bool) (j k marks : ℕ) → Marks (λ k. flag_bit (has_chunk flags (32 * j + k))) marks → k < 32 → flag_of (bit_at marks (2 * k)) ≡ has_chunk flags (32 * j + k)
seen_flag flags j k marks h lk = ap flag_of (h.lower k lk) ∙ flag_of-bit (has_chunk flags (32 * j + k))

pub marks_alone : (f : ℕ → ℕ) (marks : ℕ) → Marks f marks → Marks (λ k. bit_at marks (2 * k)) marks
marks_alone f marks h = record { lower = λ k lk. refl; upper = h.upper }

-- a word of the old codes, where the codes now are the old ones from it on
old_word : (old now : List ℕ) (j k word : ℕ) → AllBytes now → length now ≡ 64 → j < 8 → word ≡ little now (8 * j) 8 → ((c : ℕ) → 32 * j ≤ c → c < 256 → code_at (codes_in now) c ≡ code_at (codes_in old) c) → k < 32 → code_at (codes_in old) (32 * j + k) ≡ word_code word k
old_word old now j k word fits len lj word_is above lk = sym (above (32 * j + k) (omega arith) (omega arith)) ∙ read_word now j k word fits len lj word_is lk

pub unseen_step : (old now : List ℕ) (flags : List Bool) (code : Code) (j word marks n r : ℕ) → length old ≡ 64 → AllBytes now → length now ≡ 64 → j < 8 → word ≡ little now (8 * j) 8 → ((c : ℕ) → 32 * j ≤ c → c < 256 → code_at (codes_in now) c ≡ code_at (codes_in old) c) → Marks (λ k. flag_bit (has_chunk flags (32 * j + k))) marks → r ≡ sum_below 32 (λ k. tally_unseen code (word_code word k) (flag_of (bit_at marks (2 * k)))) → n ≡ count_unseen code (take (32 * j) (codes_in old)) flags → n + r ≡ count_unseen code (take (32 * (j + 1)) (codes_in old)) flags
unseen_step old now flags code j word marks n r old_len fits len lj word_is above seen r_is n_is =
    let size = segment_length old old_len in
    let next : 32 * (j + 1) ≡ 32 * j + 32 = omega arith in
    let more = count_unseen-more code (codes_in old) flags (λ k. tally_unseen code (word_code word k) (flag_of (bit_at marks (2 * k)))) (32 * j) 32 (omega (arith, size))
    (λ k lk. ap (λ (x : Code). tally_unseen code x (flag_of (bit_at marks (2 * k)))) (sym (old_word old now j k word fits len lj word_is above lk)) ∙ ap (tally_unseen code (code_at (codes_in old) (32 * j + k))) (seen_flag flags j k marks seen lk)) in
    rw next (omega (arith, more, r_is, n_is))

-- after a swept word was put
pub swept_below : (old now new : List ℕ) (flags : List Bool) (j word marks put : ℕ) → AllBytes now → length now ≡ 64 → length new ≡ 64 → j < 8 → word ≡ little now (8 * j) 8
    → ((c : ℕ) → 32 * j ≤ c → c < 256 → code_at (codes_in now) c ≡ code_at (codes_in old) c)
    → ((c : ℕ) → c < 32 * j → code_at (codes_in now) c ≡ swept_code (has_chunk flags c) (code_at (codes_in old) c))
    → Marks (λ k. flag_bit (has_chunk flags (32 * j + k))) marks
    → ((k : ℕ) → k < 32 → word_code put k ≡ swept_code (flag_of (bit_at marks (2 * k))) (word_code word k))
    → ((i : ℕ) → i < 8 → slice_index new (8 * j + i) ≡ put / 2 ^ (8 * i) % 256)
    → ((k : ℕ) → k < 8 * j → slice_index new k ≡ slice_index now k)
    → (c : ℕ) → c < 32 * (j + 1) → code_at (codes_in new) c ≡ swept_code (has_chunk flags c) (code_at (codes_in old) c)
swept_below old now new flags j word marks put fits len new_len lj word_is above below seen swept inside same c lt = split (cases_lt c (32 * j))
  where
    split : (c < 32 * j) ⊎ (32 * j ≤ c) → code_at (codes_in new) c ≡ swept_code (has_chunk flags c) (code_at (codes_in old) c)
    split (inl before) = stays_lookup now new c len new_len (omega arith) (same (c / 4) (omega arith)) ∙ below c before
    split (inr le) =
        let at : 32 * j + (c - 32 * j) ≡ c = omega arith in
        let here : code_at (codes_in new) (32 * j + (c - 32 * j)) ≡ swept_code (has_chunk flags (32 * j + (c - 32 * j))) (code_at (codes_in old) (32 * j + (c - 32 * j))) =
        put_lookup new j (c - 32 * j) put new_len lj (omega arith) inside ∙ swept (c - 32 * j) (omega arith)
        ∙ ap (λ (b : Bool). swept_code b (word_code word (c - 32 * j))) (seen_flag flags j (c - 32 * j) marks seen (omega arith))
        ∙ ap (swept_code (has_chunk flags (32 * j + (c - 32 * j)))) (sym (old_word old now j (c - 32 * j) word fits len lj word_is above (omega arith))) in
        subst (λ (i : ℕ). code_at (codes_in new) i ≡ swept_code (has_chunk flags i) (code_at (codes_in old) i)) at here

pub swept_above : (old now new : List ℕ) (j : ℕ) → length now ≡ 64 → length new ≡ 64
    → ((c : ℕ) → 32 * j ≤ c → c < 256 → code_at (codes_in now) c ≡ code_at (codes_in old) c)
    → ((k : ℕ) → 8 * j + 8 ≤ k → slice_index new k ≡ slice_index now k)
    → (c : ℕ) → 32 * (j + 1) ≤ c → c < 256 → code_at (codes_in new) c ≡ code_at (codes_in old) c
swept_above old now new j len new_len above same c le lt = stays_lookup now new c len new_len lt (same (c / 4) (omega arith)) ∙ above c (omega arith) lt

pub put_bytes : (now new : List ℕ) (j put : ℕ) → AllBytes now
    → ((i : ℕ) → i < 8 → slice_index new (8 * j + i) ≡ put / 2 ^ (8 * i) % 256)
    → ((k : ℕ) → k < 8 * j → slice_index new k ≡ slice_index now k)
    → ((k : ℕ) → 8 * j + 8 ≤ k → slice_index new k ≡ slice_index now k)
    → AllBytes new
put_bytes now new j put fits inside below above k = split (cases_lt k (8 * j)) (cases_lt k (8 * j + 8))
  where
    split : (k < 8 * j) ⊎ (8 * j ≤ k) → (k < 8 * j + 8) ⊎ (8 * j + 8 ≤ k) → slice_index new k < 256
    split (inl lt) c = let e = below k lt in let f = fits k in omega (arith, e, f)
    split (inr le) (inl lt) =
        let at : 8 * j + (k - 8 * j) ≡ k = omega arith in
        let e : slice_index new (8 * j + (k - 8 * j)) ≡ put / 2 ^ (8 * (k - 8 * j)) % 256 = inside (k - 8 * j) (omega arith) in
        let f : slice_index new k ≡ slice_index new (8 * j + (k - 8 * j)) = ap (slice_index new) (sym at) in
        omega (arith, e, f)
    split (inr le) (inr ge) = let e = above k ge in let f = fits k in omega (arith, e, f)

-- the search for a free chunk
pub found : (bs : List ℕ) (from j k word : ℕ) → AllBytes bs → length bs ≡ 64 → j < 8 → word ≡ little bs (8 * j) 8 → NoneFree from (32 * j) (codes_in bs) → IsFirstFree (from - 32 * j) word k → IsNextFree from (codes_in bs) (32 * j + k)
found bs from j k word fits len lj word_is none first =
    let after : from - 32 * j ≤ k = first.from_on in
    let within : k < 32 = first.in_word in
    record {
      from_on = omega arith;
      in_segment = omega arith;
      free = read_word bs j k word fits len lj word_is within ∙ first.free;
      least = λ c le lt. split c le lt (cases_lt c (32 * j));
    }
  where
    split : (c : ℕ) → from ≤ c → c < 32 * j + k → (c < 32 * j) ⊎ (32 * j ≤ c) → code_at (codes_in bs) c ≢ Free
    split c le lt (inl before) = none c le before
    split c le lt (inr ge) = λ e.
        let within : k < 32 = first.in_word in
        let at : 32 * j + (c - 32 * j) ≡ c = omega arith in
        let here : code_at (codes_in bs) c ≡ word_code word (c - 32 * j) = ap (code_at (codes_in bs)) (sym at) ∙ read_word bs j (c - 32 * j) word fits len lj word_is (omega arith) in
        first.least (c - 32 * j) (omega arith) (omega arith) (sym here ∙ e)

pub passed : (bs : List ℕ) (from j word : ℕ) → AllBytes bs → length bs ≡ 64 → j < 8 → word ≡ little bs (8 * j) 8 → NoneFree from (32 * j) (codes_in bs) → NoneFreeIn (from - 32 * j) 32 word → NoneFree from (32 * (j + 1)) (codes_in bs)
passed bs from j word fits len lj word_is none empty c le lt = split (cases_lt c (32 * j))
  where
    split : (c < 32 * j) ⊎ (32 * j ≤ c) → code_at (codes_in bs) c ≢ Free
    split (inl before) = none c le before
    split (inr ge) = λ e.
        let at : 32 * j + (c - 32 * j) ≡ c = omega arith in
        let here : code_at (codes_in bs) c ≡ word_code word (c - 32 * j) = ap (code_at (codes_in bs)) (sym at) ∙ read_word bs j (c - 32 * j) word fits len lj word_is (omega arith) in
        empty (c - 32 * j) (omega arith) (omega arith) (sym here ∙ e)

-- the marks of four bytes of flags

-- the mask of two bytes or of four, by the bits of its parts
cat_bit : (a b n i : ℕ) → a < 2 ^ n → (i < n → bit_at (a + b * 2 ^ n) i ≡ bit_at a i) × (n ≤ i → bit_at (a + b * 2 ^ n) i ≡ bit_at b (i - n))
cat_bit a b n i fits =
    let turn : a + b * 2 ^ n ≡ b * 2 ^ n + a = omega arith in
    (λ lt. ap (λ (x : ℕ). bit_at x i) turn ∙ bit_at_cat_low b n a i lt, λ le. ap (λ (x : ℕ). bit_at x i) turn ∙ bit_at_cat_high b n a i fits le)

-- what the mask of some bytes of flags says
record IsMask (bs : List ℕ) (at n mask : ℕ) : Type 0 where
  lower : (k : ℕ) → k < 8 * n → bit_at mask (2 * k) ≡ flag_bit (byte_flag (slice_index bs (at + k / 8)) (k % 8))
  upper : (k : ℕ) → k < 8 * n → bit_at mask (2 * k + 1) ≡ 0
  fits : mask < 2 ^ (16 * n)

one_mask : (bs : List ℕ) (at mask : ℕ) → IsSpread (slice_index bs at) mask → IsMask bs at 1 mask
one_mask bs at mask h = record {
  lower = λ k lt.
      let row : at + k / 8 ≡ at = omega arith in
      let place : k % 8 ≡ k = omega arith in
      rw (row, place) (h.lower k (omega arith) ∙ sym (byte_bit (slice_index bs at) k));
  upper = λ k lt. h.upper k (omega arith);
  fits = h.fits;
}

-- the parts of n bytes, one after the other
joined_lower : (bs : List ℕ) (at n a b k : ℕ) → IsMask bs at n a → IsMask bs (at + n) n b → k < 8 * (n + n) → (k < 8 * n) ⊎ (8 * n ≤ k) → bit_at (a + b * 2 ^ (16 * n)) (2 * k) ≡ flag_bit (byte_flag (slice_index bs (at + k / 8)) (k % 8))
joined_lower bs at n a b k ha hb lt (inl small) = (cat_bit a b (16 * n) (2 * k) ha.fits).0 (omega arith) ∙ ha.lower k small
joined_lower bs at n a b k ha hb lt (inr le) =
    let half : 2 * k - 16 * n ≡ 2 * (k - 8 * n) = omega arith in
    let row : at + n + (k - 8 * n) / 8 ≡ at + k / 8 = omega arith in
    let place : (k - 8 * n) % 8 ≡ k % 8 = omega arith in
    (cat_bit a b (16 * n) (2 * k) ha.fits).1 (omega arith) ∙ ap (bit_at b) half ∙ hb.lower (k - 8 * n) (omega arith)
    ∙ ap (λ (i : ℕ). flag_bit (byte_flag (slice_index bs i) ((k - 8 * n) % 8))) row ∙ ap (λ (i : ℕ). flag_bit (byte_flag (slice_index bs (at + k / 8)) i)) place

joined_upper : (bs : List ℕ) (at n a b k : ℕ) → IsMask bs at n a → IsMask bs (at + n) n b → k < 8 * (n + n) → (k < 8 * n) ⊎ (8 * n ≤ k) → bit_at (a + b * 2 ^ (16 * n)) (2 * k + 1) ≡ 0
joined_upper bs at n a b k ha hb lt (inl small) = (cat_bit a b (16 * n) (2 * k + 1) ha.fits).0 (omega arith) ∙ ha.upper k small
joined_upper bs at n a b k ha hb lt (inr le) =
    let half : 2 * k + 1 - 16 * n ≡ 2 * (k - 8 * n) + 1 = omega arith in
    (cat_bit a b (16 * n) (2 * k + 1) ha.fits).1 (omega arith) ∙ ap (bit_at b) half ∙ hb.upper (k - 8 * n) (omega arith)

two_masks : (bs : List ℕ) (at a b : ℕ) → IsMask bs at 1 a → IsMask bs (at + 1) 1 b → IsMask bs at 2 (a + b * 65536)
two_masks bs at a b ha hb = record {
  lower = λ k lt. joined_lower bs at 1 a b k ha hb lt (cases_lt k 8);
  upper = λ k lt. joined_upper bs at 1 a b k ha hb lt (cases_lt k 8);
  fits = let fa : a < 65536 = ha.fits in let fb : b < 65536 = hb.fits in omega arith;
}

four_masks : (bs : List ℕ) (at a b : ℕ) → IsMask bs at 2 a → IsMask bs (at + 2) 2 b → IsMask bs at 4 (a + b * 4294967296)
four_masks bs at a b ha hb = record {
  lower = λ k lt. joined_lower bs at 2 a b k ha hb lt (cases_lt k 16);
  upper = λ k lt. joined_upper bs at 2 a b k ha hb lt (cases_lt k 16);
  fits = let fa : a < 4294967296 = ha.fits in let fb : b < 4294967296 = hb.fits in omega arith;
}

pub word_marks : (bs : List ℕ) (j a b c d : ℕ) → length bs ≡ 32 → j < 8 → IsSpread (slice_index bs (4 * j)) a → IsSpread (slice_index bs (4 * j + 1)) b → IsSpread (slice_index bs (4 * j + 2)) c → IsSpread (slice_index bs (4 * j + 3)) d
    → Marks (λ k. flag_bit (has_chunk (flags_in bs) (32 * j + k))) (a + b * 65536 % 18446744073709551616 + (c + d * 65536 % 18446744073709551616) * 4294967296 % 18446744073709551616)
word_marks bs j a b c d len lj ha hb hc hd =
    let at : 4 * j + 3 ≡ 4 * j + 2 + 1 = omega arith in
    let md : IsMask bs (4 * j + 2 + 1) 1 d = subst (λ (i : ℕ). IsMask bs i 1 d) at (one_mask bs (4 * j + 3) d hd) in
    let low = two_masks bs (4 * j) a b (one_mask bs (4 * j) a ha) (one_mask bs (4 * j + 1) b hb) in
    let high = two_masks bs (4 * j + 2) c d (one_mask bs (4 * j + 2) c hc) md in
    let all : IsMask bs (4 * j) 4 (a + b * 65536 + (c + d * 65536) * 4294967296) = four_masks bs (4 * j) (a + b * 65536) (c + d * 65536) low high in
    let fa : a < 65536 = ha.fits in
    let fb : b < 65536 = hb.fits in
    let fc : c < 65536 = hc.fits in
    let fd : d < 65536 = hd.fits in
    let whole : a + b * 65536 % 18446744073709551616 + (c + d * 65536 % 18446744073709551616) * 4294967296 % 18446744073709551616 ≡ a + b * 65536 + (c + d * 65536) * 4294967296 = omega arith in
    rw whole (record {
      lower = λ k lk. all.lower k lk ∙ ap flag_bit (flag_is k lk);
      upper = all.upper;
    })
  where
    flag_is : (k : ℕ) → k < 32 → byte_flag (slice_index bs (4 * j + k / 8)) (k % 8) ≡ has_chunk (flags_in bs) (32 * j + k)
    flag_is k lk =
        let row : (32 * j + k) / 8 ≡ 4 * j + k / 8 = omega arith in
        let place : (32 * j + k) % 8 ≡ k % 8 = omega arith in
        sym (flag_lookup bs (32 * j + k) (omega arith) ∙ ap (λ (i : ℕ). byte_flag (slice_index bs i) ((32 * j + k) % 8)) row ∙ ap (byte_flag (slice_index bs (4 * j + k / 8))) place)
