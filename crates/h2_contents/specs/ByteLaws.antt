-- What a read, a write and a cut do byte by byte.
use Rattle.std.specs.Prelude.{◌≡◌, ◌⊎◌, ℕ, zero, suc, ◌+◌, ◌-◌, ◌<◌, ◌≤◌, min, max, List, [], ◌∷◌, ◌++◌, length, take, drop, replicate, cond, Bool, true, false, nat_lt, nat_le, ◌&&◌, refl}
use Rattle.std.proofs.Common.{arith, ap, sym, ◌∙◌, inl, inr, get_or, length-append, length-take, length-drop}
use Rattle.std.proofs.lemmas.Bool.{cases_lt}
use Rattle.std.proofs.lemmas.Bool.Decides.{nat_tests}
use Rattle.std.proofs.lemmas.List.{length-replicate, get_or-take, get_or-drop, get_or_append_left, get_or-append_right, get_or_past, ext_get_or, take_more}
use Rattle.h2_contents.specs.Bytes.{grown, written_at, cut_to, read_at}
use Rattle.h2_contents.specs.Windows.{laid}

-- the bytes laid over the file, as a write of some bytes lays them
abbrev put_at : List ℕ → ℕ → List ℕ → List ℕ
put_at bytes off new = take off (grown bytes off) ++ new ++ drop (off + length new) bytes

length-put_at : (bytes : List ℕ) (off : ℕ) (new : List ℕ) → length (put_at bytes off new) ≡ max (length bytes) (off + length new)
length-put_at bytes off new = simp (length-append, length-take, length-drop, length-replicate) (omega arith)

pub length-written_at : (bytes : List ℕ) (off : ℕ) (new : List ℕ) → 0 < length new → length (written_at bytes off new) ≡ max (length bytes) (off + length new)
length-written_at bytes off [] some = absurd (omega arith)
length-written_at bytes off (byte ∷ new) some = length-put_at bytes off (byte ∷ new)

pub length-cut_to : (bytes : List ℕ) (size : ℕ) → length (cut_to bytes size) ≡ size
length-cut_to bytes size = simp (length-append, length-take, length-replicate) (omega arith)

zeros : (n i : ℕ) → get_or {A = ℕ} (replicate n 0) i 0 ≡ 0
zeros zero i = refl
zeros (suc n) zero = refl
zeros (suc n) (suc i) = zeros n i

zeros_after : (bytes : List ℕ) (n i : ℕ) → get_or (bytes ++ replicate n 0) i 0 ≡ get_or bytes i 0
zeros_after [] n i = zeros n i
zeros_after (b ∷ bytes) n zero = refl
zeros_after (b ∷ bytes) n (suc i) = zeros_after bytes n i

below_test : (i n x : ℕ) → i < n → x ≡ cond (nat_lt i n) x 0
below_test i n x h = grind (arith, nat_tests)

above_test : (i n x : ℕ) → n ≤ i → 0 ≡ cond (nat_lt i n) x 0
above_test i n x h = grind (arith, nat_tests)

pub byte_cut : (bytes : List ℕ) (size i : ℕ) → get_or (cut_to bytes size) i 0 ≡ cond (nat_lt i size) (get_or bytes i 0) 0
byte_cut bytes size i = elim (cases_lt i size) [
  | inl lt ↦ get_or-take size (grown bytes size) i 0 lt ∙ zeros_after bytes (size - length bytes) i ∙ below_test i size (get_or bytes i 0) lt
  | inr ge ↦ get_or_past (cut_to bytes size) i 0 (simp (length-take, length-append, length-replicate) (omega arith)) ∙ above_test i size (get_or bytes i 0) ge
]

inside_test : (off i n x y : ℕ) → off ≤ i → i < off + n → x ≡ cond (nat_le off i && nat_lt i (off + n)) x y
inside_test off i n x y h g = grind (arith, nat_tests)

outside_test : (off i n x y : ℕ) → (i < off) ⊎ (off + n ≤ i) → y ≡ cond (nat_le off i && nat_lt i (off + n)) x y
outside_test off i n x y (inl h) = grind (arith, nat_tests)
outside_test off i n x y (inr h) = grind (arith, nat_tests)

front_length : (bytes : List ℕ) (off : ℕ) → length (take off (grown bytes off)) ≡ off
front_length bytes off = simp (length-append, length-take, length-replicate) (omega arith)

both_length : (bytes new : List ℕ) (off : ℕ) → length (take off (grown bytes off) ++ new) ≡ off + length new
both_length bytes new off = length-append (take off (grown bytes off)) new ∙ ap (λ n. n + length new) (front_length bytes off)

before_new : (bytes : List ℕ) (off : ℕ) (new : List ℕ) (i : ℕ) → i < off → get_or (put_at bytes off new) i 0 ≡ get_or bytes i 0
before_new bytes off new i h =
    let a : i < length (take off (grown bytes off)) = omega (arith, front_length bytes off) in
    let b : i < length (take off (grown bytes off) ++ new) = omega (arith, both_length bytes new off) in
    get_or_append_left (take off (grown bytes off) ++ new) (drop (off + length new) bytes) 0 i b
    ∙ get_or_append_left (take off (grown bytes off)) new 0 i a
    ∙ get_or-take off (grown bytes off) i 0 h ∙ zeros_after bytes (off - length bytes) i

in_new : (bytes : List ℕ) (off : ℕ) (new : List ℕ) (i : ℕ) → off ≤ i → i < off + length new → get_or (put_at bytes off new) i 0 ≡ get_or new (i - off) 0
in_new bytes off new i h g =
    let b : i < length (take off (grown bytes off) ++ new) = omega (arith, both_length bytes new off) in
    get_or_append_left (take off (grown bytes off) ++ new) (drop (off + length new) bytes) 0 i b
    ∙ get_or-append_right (take off (grown bytes off)) new off i 0 (front_length bytes off) h

after_new : (bytes : List ℕ) (off : ℕ) (new : List ℕ) (i : ℕ) → off + length new ≤ i → get_or (put_at bytes off new) i 0 ≡ get_or bytes i 0
after_new bytes off new i h =
    get_or-append_right (take off (grown bytes off) ++ new) (drop (off + length new) bytes) (off + length new) i 0 (both_length bytes new off) h
    ∙ get_or-drop (off + length new) bytes (i - (off + length new)) 0 ∙ ap (λ k. get_or bytes k 0) (omega arith)

byte_put : (bytes : List ℕ) (off : ℕ) (new : List ℕ) (i : ℕ) → get_or (put_at bytes off new) i 0 ≡ laid off new i (get_or bytes i 0)
byte_put bytes off new i = elim (cases_lt i off) [
  | inl lt ↦ before_new bytes off new i lt ∙ outside_test off i (length new) (get_or new (i - off) 0) (get_or bytes i 0) (inl lt)
  | inr ge ↦ elim (cases_lt i (off + length new)) [
    | inl lt ↦ in_new bytes off new i ge lt ∙ inside_test off i (length new) (get_or new (i - off) 0) (get_or bytes i 0) ge lt
    | inr far ↦ after_new bytes off new i far ∙ outside_test off i (length new) (get_or new (i - off) 0) (get_or bytes i 0) (inr far)
  ]
]

pub byte_written : (bytes : List ℕ) (off : ℕ) (new : List ℕ) (i : ℕ) → get_or (written_at bytes off new) i 0 ≡ laid off new i (get_or bytes i 0)
byte_written bytes off [] i = outside_test off i 0 0 (get_or bytes i 0) (elim (cases_lt i off) [ inl lt ↦ inl lt | inr ge ↦ inr (omega arith) ])
byte_written bytes off (byte ∷ new) i = byte_put bytes off (byte ∷ new) i

-- a window that has each byte of the file from a place on is what is read there
pub window_is_read : (bytes window : List ℕ) (off len : ℕ) → length window ≡ min (length bytes - off) len → ((k : ℕ) → k < length window → get_or window k 0 ≡ get_or bytes (off + k) 0) → window ≡ read_at bytes off len
window_is_read bytes window off len size same = ext_get_or 0 window (read_at bytes off len)
    (size ∙ sym (length-take len (drop off bytes) ∙ ap (λ n. min len n) (length-drop off bytes) ∙ omega arith))
    (λ i lt. same i lt ∙ sym (get_or-take len (drop off bytes) i 0 (omega arith) ∙ get_or-drop off bytes i 0))

pub read_past : (bytes : List ℕ) (off len : ℕ) → length bytes ≤ off → [] ≡ read_at bytes off len
read_past bytes off len h = ext_get_or 0 [] (read_at bytes off len) (sym (length-take len (drop off bytes) ∙ ap (λ n. min len n) (length-drop off bytes) ∙ omega arith)) (λ i lt. absurd (omega arith))

whole_prefix : (w rest : List ℕ) → take (length w) (w ++ rest) ≡ w
whole_prefix [] rest = refl
whole_prefix (x ∷ w) rest = ap (λ l. x ∷ l) (whole_prefix w rest)

pub whole_window : (w rest : List ℕ) (n : ℕ) → length w ≡ n → take n (w ++ rest) ≡ w
whole_window w rest n e = ap (λ m. take m (w ++ rest)) (sym e) ∙ whole_prefix w rest
