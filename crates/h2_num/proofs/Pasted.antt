-- A number written into a slice by `write_u32(&mut b[at..], v)` and its kin.
use Rattle.std.proofs.Common.{◌≡◌, ℕ, zero, suc, ◌+◌, ◌-◌, ◌^◌, ◌<◌, ◌≤◌, List, ◌++◌, length, take, drop, slice_index, refl, sym, ap, subst, ◌∙◌, arith, inl, inr}
use Rattle.std.proofs.lemmas.Bool.{cases_lt}
use Rattle.std.proofs.lemmas.List.{get_or-take, get_or-drop, get_or_past, get_or_append_left, get_or-append_right, length-append, length-take, length-drop}
use Rattle.byteorder.specs.Endian.{little_bytes, little_from}
use Rattle.byteorder.specs.Numbers.{little_number-reads_back, length-bytes_low_first}
use Rattle.h2_num.specs.Places.{places, number_at, Puts}
use Rattle.h2_num.specs.PlaceLaws.{number_at-same}

-- a byte of three parts
first_part : (a b c : List ℕ) (k : ℕ) → k < length a → slice_index (a ++ (b ++ c)) k ≡ slice_index a k
first_part a b c k h = get_or_append_left a (b ++ c) 0 k h

second_part : (a b c : List ℕ) (k : ℕ) → k < length b → slice_index (a ++ (b ++ c)) (length a + k) ≡ slice_index b k
second_part a b c k h =
    let e : length a + k - length a ≡ k = omega arith in
    get_or-append_right a (b ++ c) (length a) (length a + k) 0 refl (omega arith) ∙ ap (slice_index (b ++ c)) e ∙ get_or_append_left b c 0 k h

pub number_at-little : (xs : List ℕ) (i n : ℕ) → number_at (places xs) i n ≡ little_from i n xs
number_at-little xs i zero = refl
number_at-little xs i (suc n) = let rest = number_at-little xs (suc i) n in omega (arith, rest)

abbrev middle : ℕ → List ℕ → List ℕ
middle at b = take (length b - at) (drop at b)

abbrev put_from : ℕ → List ℕ → List ℕ → List ℕ
put_from at b ys = take at b ++ (ys ++ drop (length b - at) (drop at b))

length_put : (at : ℕ) (b ys : List ℕ) → at ≤ length b → length ys ≡ length b - at → length (put_from at b ys) ≡ length b
length_put at b ys le len = simp (length-append, length-take, length-drop) (omega arith)

put_before : (at : ℕ) (b ys : List ℕ) (k : ℕ) → at ≤ length b → k < at → slice_index (put_from at b ys) k ≡ slice_index b k
put_before at b ys k le lt =
    let len = length-take at b in
    get_or_append_left (take at b) _ 0 k (omega arith) ∙ get_or-take at b k 0 lt

put_inside : (at : ℕ) (b ys : List ℕ) (k : ℕ) → at ≤ length b → k < length ys → slice_index (put_from at b ys) (at + k) ≡ slice_index ys k
put_inside at b ys k le lt =
    let len = length-take at b in
    let e : at + k ≡ length (take at b) + k = omega arith in
    ap (slice_index (put_from at b ys)) e ∙ second_part (take at b) ys (drop (length b - at) (drop at b)) k lt

put_after : (at n : ℕ) (b bytes : List ℕ) (k : ℕ) → at + n ≤ length b → length bytes ≡ n → at + n ≤ k
    → slice_index (put_from at b (bytes ++ drop n (middle at b))) k ≡ slice_index b k
put_after at n b bytes k le len from =
    let mid_len : length (middle at b) ≡ length b - at = simp (length-take, length-drop) (omega arith) in
    let ys_len : length (bytes ++ drop n (middle at b)) ≡ length b - at = simp (length-append, length-drop) (omega arith) in
    elim (cases_lt k (length b)) [
      | inl lt ↦
          let e : at + (k - at) ≡ k = omega arith in
          let inside = put_inside at b (bytes ++ drop n (middle at b)) (k - at) (omega arith) (omega arith) in
          let right = get_or-append_right bytes (drop n (middle at b)) n (k - at) 0 len (omega arith) in
          let dropped = get_or-drop n (middle at b) (k - at - n) 0 in
          let e2 : n + (k - at - n) ≡ k - at = omega arith in
          let taken = get_or-take (length b - at) (drop at b) (k - at) 0 (omega arith) in
          let back = get_or-drop at b (k - at) 0 in
          ap (slice_index (put_from at b (bytes ++ drop n (middle at b)))) (sym e) ∙ inside ∙ right ∙ dropped ∙ ap (slice_index (middle at b)) e2 ∙ taken ∙ back ∙ ap (slice_index b) e
      | inr past ↦
          get_or_past _ k 0 (omega (arith, length_put at b (bytes ++ drop n (middle at b)) (omega arith) ys_len)) ∙ sym (get_or_past b k 0 past)
    ]

pub put_number : (at n v : ℕ) (b ys : List ℕ) → at + n ≤ length b → v < 256 ^ n → ys ≡ little_bytes n v ++ drop n (middle at b)
    → Puts at n v (places b) (places (put_from at b ys))
put_number at n v b ys le fits e =
    let len = length-bytes_low_first 0 n v in
    let mid_len : length (middle at b) ≡ length b - at = simp (length-take, length-drop) (omega arith) in
    let P : List ℕ → Type 0 = λ zs. Puts at n v (places b) (places (put_from at b zs)) in
    subst P (sym e) (record {
      field =
          number_at-same (places (put_from at b (little_bytes n v ++ drop n (middle at b)))) (places (little_bytes n v ++ drop n (middle at b))) at 0 n
          (λ k lt. let e : k ≡ 0 + k = omega arith in put_inside at b (little_bytes n v ++ drop n (middle at b)) k (omega arith) (simp (length-append, length-drop) (omega arith)) ∙ ap (slice_index (little_bytes n v ++ drop n (middle at b))) e)
          ∙ number_at-little (little_bytes n v ++ drop n (middle at b)) 0 n ∙ little_number-reads_back n v (drop n (middle at b)) fits;
      others = record {
        before = λ k lt. put_before at b (little_bytes n v ++ drop n (middle at b)) k (omega arith) lt;
        after = λ k from. put_after at n b (little_bytes n v) k le len from;
      };
    })
