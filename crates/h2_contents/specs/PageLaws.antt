-- Laws of pages.
use Rattle.std.specs.Prelude.{◌≡◌, ◌⊎◌, ℕ, zero, suc, ◌+◌, ◌-◌, ◌*◌, ◌/◌, ◌%◌, ◌<◌, ◌≤◌, max, List, [], ◌∷◌, ◌++◌, length, slice_index, cond, Bool, true, false, nat_lt, nat_le, nat_eq, ◌&&◌, Option, Some, None, IsSome, Result, Ok, Err, OnOk, OnErr, IfOk, replicate, refl}
use Rattle.std.proofs.Common.{arith, ap, sym, ◌∙◌, inl, inr, get_or, length-append, subst, lit≤}
use Rattle.std.proofs.lemmas.Bool.{cases_lt, cases_eq}
use Rattle.std.proofs.lemmas.Bool.Decides.{nat_tests}
use Rattle.std.proofs.lemmas.List.{get_or_append_left, get_or-append_right, get_or_past, ext_get_or, get_or-replicate}
use Rattle.std.specs.Ordering.{nat_cmp, eq_by_cmp, is_gt}
use Rattle.std.specs.Cmp.{nat_cmp_total, unsigned_tied}
use Rattle.std.specs.FinMap.{get, insert, get-insert, empty, get-empty, nat_cmp-IsAntisymmetric}
use Rattle.h2_contents.specs.Bytes.{written_at, cut_to}
use Rattle.h2_contents.specs.ByteLaws.{byte_written, byte_cut, length-written_at, length-cut_to}
use Rattle.h2_contents.specs.Windows.{laid, LaysInto}
use Rattle.h2_contents.specs.Pages.{PageMap, page_byte, byte_in, first_bytes, IsKept, SameBytes, KeepsPages, IsWrittenFrom, IsPageAfter, IsPageCut, KeepsBelow, IsCutAt, IsShownTo}

pub length-first_bytes : (f : ℕ → ℕ) (n : ℕ) → length (first_bytes f n) ≡ n
unfolding first_bytes
length-first_bytes f zero = refl
length-first_bytes f (suc n) = length-append (first_bytes f n) (f n ∷ []) ∙ ap (λ k. k + 1) (length-first_bytes f n) ∙ omega arith

last_byte : (x i : ℕ) → i ≡ 0 → get_or (x ∷ []) i 0 ≡ x
last_byte x i e = ap (λ k. get_or (x ∷ []) k 0) e

at_first : (f : ℕ → ℕ) (n i : ℕ) → i < n → get_or (first_bytes f n) i 0 ≡ f i
unfolding first_bytes
at_first f zero i lt = absurd (omega arith)
at_first f (suc n) i lt = elim (cases_lt i n) [
  | inl below ↦ get_or_append_left (first_bytes f n) (f n ∷ []) 0 i (let e = length-first_bytes f n in omega arith) ∙ at_first f n i below
  | inr from ↦ let e : i ≡ n = omega arith in get_or-append_right (first_bytes f n) (f n ∷ []) n i 0 (length-first_bytes f n) from ∙ last_byte (f n) (i - n) (omega arith) ∙ ap f (sym e)
]

-- a list that has each of the bytes
pub first_is : (f : ℕ → ℕ) (n : ℕ) (xs : List ℕ) → length xs ≡ n → ((i : ℕ) → i < n → get_or xs i 0 ≡ f i) → first_bytes f n ≡ xs
first_is f n xs e same = ext_get_or 0 (first_bytes f n) xs (length-first_bytes f n ∙ sym e) (λ i lt. let h = length-first_bytes f n in let b : i < n = omega arith in at_first f n i b ∙ sym (same i b))

-- each byte of the file, and zeros past its end
pub kept_at : (m : PageMap) (size i : ℕ) → IsKept m size → get_or (first_bytes (byte_in m) size) i 0 ≡ byte_in m i
kept_at m size i kept = elim (cases_lt i size) [
  | inl below ↦ at_first (byte_in m) size i below
  | inr from ↦ get_or_past (first_bytes (byte_in m) size) i 0 (let e = length-first_bytes (byte_in m) size in omega arith) ∙ sym (kept.zeros i from)
]

-- the same bytes show the same file
pub same_file : (old new : PageMap) (size : ℕ) → SameBytes old new → first_bytes (byte_in new) size ≡ first_bytes (byte_in old) size
same_file old new size same = first_is (byte_in new) size (first_bytes (byte_in old) size) (length-first_bytes (byte_in old) size) (λ i lt. at_first (byte_in old) size i lt ∙ sym (same i))

pub same_kept : (old new : PageMap) (size : ℕ) → SameBytes old new → IsKept old size → IsKept new size
same_kept old new size same kept = record { small = kept.small; zeros = λ i from. same i ∙ kept.zeros i from }

-- bytes outside of those that are laid stay
pub laid_outside : (off : ℕ) (new : List ℕ) (i old : ℕ) → (i < off) ⊎ (off + length new ≤ i) → laid off new i old ≡ old
laid_outside off new i old (inl h) = grind (arith, nat_tests)
laid_outside off new i old (inr h) = grind (arith, nat_tests)

le_yes : (n i x y : ℕ) → n ≤ i → cond (nat_le n i) x y ≡ x
le_yes n i x y h = grind (arith, nat_tests)

le_no : (n i x y : ℕ) → i < n → cond (nat_le n i) x y ≡ y
le_no n i x y h = grind (arith, nat_tests)

lt_yes : (i n x y : ℕ) → i < n → cond (nat_lt i n) x y ≡ x
lt_yes i n x y h = grind (arith, nat_tests)

lt_no : (i n x y : ℕ) → n ≤ i → cond (nat_lt i n) x y ≡ y
lt_no i n x y h = grind (arith, nat_tests)

-- a write that begins in the first page that it changes
pub written_from_first : (n off : ℕ) (new : List ℕ) (old m : PageMap) → n * 16384 ≤ off → IsWrittenFrom n off new old m → (i : ℕ) → byte_in m i ≡ laid off new i (byte_in old i)
written_from_first n off new old m h w i = elim (cases_lt i (n * 16384)) [
  | inl below ↦ w i ∙ le_no (n * 16384) i _ _ below ∙ sym (laid_outside off new i (byte_in old i) (inl (omega arith)))
  | inr from ↦ w i ∙ le_yes (n * 16384) i _ _ from
]

-- no page is left to write
pub written_none : (n last off : ℕ) (new : List ℕ) (m : PageMap) → last ≤ n → off + length new ≤ last * 16384 → IsWrittenFrom n off new m m
written_none n last off new m h whole i = elim (cases_lt i (n * 16384)) [
  | inl below ↦ sym (le_no (n * 16384) i _ _ below)
  | inr from ↦ sym (le_yes (n * 16384) i _ _ from ∙ laid_outside off new i (byte_in m i) (inr (omega arith)))
]

cond_true : {A : Type 0} (b : Bool) (x y : A) → b ≡ true → cond b x y ≡ x
cond_true b x y e = ap (λ t. cond t x y) e

cond_false : {A : Type 0} (b : Bool) (x y : A) → b ≡ false → cond b x y ≡ y
cond_false b x y e = ap (λ t. cond t x y) e

eq_true : (q n : ℕ) → q ≡ n → nat_eq q n ≡ true
eq_true q n e = grind (arith, nat_tests)

eq_false : (q n : ℕ) → (q ≡ n → ⊥) → nat_eq q n ≡ false
eq_false q n e = grind (arith, nat_tests)

-- a page that was put in its place, and all others
pub page_put : (m : PageMap) (n : ℕ) (page : List ℕ) (q : ℕ) → q ≡ n → get (insert m n page) q ≡ Some page
page_put m n page q e = get-insert nat_cmp_total m n page q ∙ cond_true _ _ _ (unsigned_tied q n ∙ eq_true q n e)

pub page_else : (m : PageMap) (n : ℕ) (page : List ℕ) (q : ℕ) → (q ≡ n → ⊥) → get (insert m n page) q ≡ get m q
page_else m n page q e = get-insert nat_cmp_total m n page q ∙ cond_false _ _ _ (unsigned_tied q n ∙ eq_false q n e)

place_is : (n i : ℕ) → i / 16384 ≡ n → n * 16384 + i % 16384 ≡ i
place_is n i e = omega arith

place_from : (n i : ℕ) → i / 16384 ≡ n → n * 16384 ≤ i
place_from n i e = omega arith

small_rest : (i : ℕ) → i % 16384 < 16384
small_rest i = omega arith

-- one page, and then those behind it
pub written_step : (n off : ℕ) (new : List ℕ) (old m more : PageMap) (page : List ℕ) → IsPageAfter n off new (get old n) page → SameBytes old m → IsWrittenFrom (n + 1) off new m more → IsWrittenFrom n off new old (insert more n page)
written_step n off new old m more page here same rest i = elim (cases_eq (i / 16384) n) [
  | inl at ↦
      ap (λ o. page_byte o (i % 16384)) (page_put more n page (i / 16384) at)
      ∙ here (i % 16384) (small_rest i)
      ∙ ap (λ k. laid off new k (page_byte (get old n) (i % 16384))) (place_is n i at)
      ∙ ap (λ q. laid off new i (page_byte (get old q) (i % 16384))) (sym at)
      ∙ sym (le_yes (n * 16384) i _ _ (place_from n i at))
  | inr else ↦ ap (λ o. page_byte o (i % 16384)) (page_else more n page (i / 16384) else) ∙ rest i ∙ elsewhere (cases_lt i (n * 16384)) else
]
  where
    elsewhere : (i < n * 16384) ⊎ (n * 16384 ≤ i) → (i / 16384 ≡ n → ⊥) → cond (nat_le ((n + 1) * 16384) i) (laid off new i (byte_in m i)) (byte_in m i) ≡ cond (nat_le (n * 16384) i) (laid off new i (byte_in old i)) (byte_in old i)
    elsewhere (inl below) else = le_no ((n + 1) * 16384) i _ _ (omega arith) ∙ same i ∙ sym (le_no (n * 16384) i _ _ below)
    elsewhere (inr from) else = elim (cases_lt i ((n + 1) * 16384)) [
      | inl inside ↦ absurd (else (let d : i / 16384 ≡ n = omega arith in d))
      | inr past ↦ le_yes ((n + 1) * 16384) i _ _ past ∙ ap (laid off new i) (same i) ∙ sym (le_yes (n * 16384) i _ _ from)
    ]

pub same_trans : (a b c : PageMap) → SameBytes a b → SameBytes b c → SameBytes a c
same_trans a b c x y i = y i ∙ x i

zero_byte : (o : Option (List ℕ)) (k : ℕ) → o ≡ None → k < 16384 → get_or (replicate 16384 0) k 0 ≡ page_byte o k
zero_byte o k e lt = get_or-replicate 16384 k 0 0 lt ∙ sym (ap (λ p. page_byte p k) e)

-- a page of zeros where none was kept
pub zeros_kept : (m : PageMap) (n : ℕ) → get m n ≡ None → SameBytes m (insert m n (replicate 16384 0))
zeros_kept m n none i = elim (cases_eq (i / 16384) n) [
  | inl at ↦ ap (λ o. page_byte o (i % 16384)) (page_put m n (replicate 16384 0) (i / 16384) at) ∙ zero_byte (get m (i / 16384)) (i % 16384) (ap (get m) at ∙ none) (small_rest i)
  | inr else ↦ ap (λ o. page_byte o (i % 16384)) (page_else m n (replicate 16384 0) (i / 16384) else)
]

some_put : (m : PageMap) (n : ℕ) (page : List ℕ) (q : ℕ) → IsSome (get m q) → (q ≡ n) ⊎ (q ≡ n → ⊥) → IsSome (get (insert m n page) q)
some_put m n page q h (inl e) = subst IsSome (sym (page_put m n page q e)) refl
some_put m n page q h (inr else) = subst IsSome (sym (page_else m n page q else)) h

pub keeps_put : (m : PageMap) (n : ℕ) (page : List ℕ) → KeepsPages m (insert m n page)
keeps_put m n page q h = some_put m n page q h (cases_eq q n)

pub is_put : (m : PageMap) (n : ℕ) (page : List ℕ) → IsSome (get (insert m n page) n)
is_put m n page = subst IsSome (sym (page_put m n page n refl)) refl

-- the file after a write
pub file_written : (old m : PageMap) (size off end : ℕ) (new : List ℕ) → 0 < length new → IsKept old size → ((i : ℕ) → byte_in m i ≡ laid off new i (byte_in old i)) → end ≡ max size (off + length new) → first_bytes (byte_in m) end ≡ written_at (first_bytes (byte_in old) size) off new
file_written old m size off end new some kept w is = first_is (byte_in m) end (written_at (first_bytes (byte_in old) size) off new)
    (length-written_at (first_bytes (byte_in old) size) off new some ∙ ap (λ n. max n (off + length new)) (length-first_bytes (byte_in old) size) ∙ sym is)
    (λ i lt. byte_written (first_bytes (byte_in old) size) off new i ∙ ap (laid off new i) (kept_at old size i kept) ∙ sym (w i))

pub kept_written : (old m : PageMap) (size off end : ℕ) (new : List ℕ) → IsKept old size → ((i : ℕ) → byte_in m i ≡ laid off new i (byte_in old i)) → end ≡ max size (off + length new) → end ≤ 1099511627776 → IsKept m end
kept_written old m size off end new kept w is small = record {
  small = small;
  zeros = λ i from. w i ∙ laid_outside off new i (byte_in old i) (inr (omega arith)) ∙ kept.zeros i (omega arith);
}

-- the file after a cut
pub file_cut : (old m : PageMap) (before size : ℕ) → IsKept old before → IsCutAt size old m → first_bytes (byte_in m) size ≡ cut_to (first_bytes (byte_in old) before) size
file_cut old m before size kept w = first_is (byte_in m) size (cut_to (first_bytes (byte_in old) before) size)
    (length-cut_to (first_bytes (byte_in old) before) size)
    (λ i lt. byte_cut (first_bytes (byte_in old) before) size i ∙ ap (λ x. cond (nat_lt i size) x 0) (kept_at old before i kept) ∙ sym (w i))

pub kept_cut : (old m : PageMap) (size : ℕ) → IsCutAt size old m → size ≤ 1099511627776 → IsKept m size
kept_cut old m size w small = record { small = small; zeros = λ i from. w i ∙ lt_no i size _ _ from }

-- the pages past a cut are gone, and none stands at its place
pub cut_without : (old m : PageMap) (size : ℕ) → get old (size / 16384) ≡ None → KeepsBelow (size / 16384 + 1) old m → IsCutAt size old m
cut_without old m size none keeps i = elim (cases_lt i size) [
  | inl below ↦ ap (λ o. page_byte o (i % 16384)) (keeps (i / 16384) ∙ cond_true _ _ _ (lt_true (i / 16384) (size / 16384 + 1) (omega arith))) ∙ sym (lt_yes i size _ _ below)
  | inr from ↦ ap (λ o. page_byte o (i % 16384)) (keeps (i / 16384)) ∙ gone (cases_lt (i / 16384) (size / 16384 + 1)) from ∙ sym (lt_no i size _ _ from)
]
  where
    lt_true : (a b : ℕ) → a < b → nat_lt a b ≡ true
    lt_true a b h = grind (arith, nat_tests)

    lt_false : (a b : ℕ) → b ≤ a → nat_lt a b ≡ false
    lt_false a b h = grind (arith, nat_tests)

    gone : (i / 16384 < size / 16384 + 1) ⊎ (size / 16384 + 1 ≤ i / 16384) → size ≤ i → page_byte (cond (nat_lt (i / 16384) (size / 16384 + 1)) (get old (i / 16384)) None) (i % 16384) ≡ 0
    gone (inl here) from = ap (λ o. page_byte o (i % 16384)) (cond_true _ _ _ (lt_true _ _ here) ∙ ap (get old) (let e : i / 16384 ≡ size / 16384 = omega arith in e) ∙ none)
    gone (inr past) from = ap (λ o. page_byte o (i % 16384)) (cond_false _ _ _ (lt_false _ _ past))

-- a page that was cut was there, and one that wasn't there wasn't cut
pub cut_some : (size : ℕ) (o : Option (List ℕ)) (page : List ℕ) → IsPageCut size o (Some page) → IsSome o
cut_some size (Some old) page h = refl
cut_some size None page h = absurd h

pub cut_none : (size : ℕ) (o : Option (List ℕ)) → IsPageCut size o None → o ≡ None
cut_none size (Some old) h = absurd h
cut_none size None h = refl

kept_test : (q n : ℕ) → q < n → nat_lt q n ≡ true
kept_test q n h = grind (arith, nat_tests)

gone_test : (q n : ℕ) → n ≤ q → nat_lt q n ≡ false
gone_test q n h = grind (arith, nat_tests)

-- the page at the end of what is kept stays
pub last_kept : (n : ℕ) (old m : PageMap) → KeepsBelow (n + 1) old m → IsSome (get old n) → IsSome (get m n)
last_kept n old m keeps h = subst IsSome (sym (keeps n ∙ cond_true _ _ _ (kept_test n (n + 1) (omega arith)))) h

cut_page_at : (size : ℕ) (o : Option (List ℕ)) (page : List ℕ) (k : ℕ) → IsPageCut size o (Some page) → k < 16384 → slice_index page k ≡ cond (nat_lt k size) (page_byte o k) 0
cut_page_at size (Some old) page k h lt = h k lt
cut_page_at size None page k h lt = absurd h

-- the pages past a cut are gone, and the one at its place has zeros behind it
pub cut_with : (old m : PageMap) (size : ℕ) (page : List ℕ) → IsPageCut (size % 16384) (get old (size / 16384)) (Some page) → KeepsBelow (size / 16384 + 1) old m → IsCutAt size old (insert m (size / 16384) page)
cut_with old m size page cut keeps i = elim (cases_eq (i / 16384) (size / 16384)) [
  | inl at ↦
      ap (λ o. page_byte o (i % 16384)) (page_put m (size / 16384) page (i / 16384) at)
      ∙ cut_page_at (size % 16384) (get old (size / 16384)) page (i % 16384) cut (small_rest i)
      ∙ ap (λ q. cond (nat_lt (i % 16384) (size % 16384)) (page_byte (get old q) (i % 16384)) 0) (sym at)
      ∙ within at (cases_lt i size)
  | inr else ↦ ap (λ o. page_byte o (i % 16384)) (page_else m (size / 16384) page (i / 16384) else ∙ keeps (i / 16384)) ∙ elsewhere else (cases_lt i size)
]
  where
    within : i / 16384 ≡ size / 16384 → (i < size) ⊎ (size ≤ i) → cond (nat_lt (i % 16384) (size % 16384)) (byte_in old i) 0 ≡ cond (nat_lt i size) (byte_in old i) 0
    within at (inl below) = lt_yes (i % 16384) (size % 16384) (byte_in old i) 0 (omega arith) ∙ sym (lt_yes i size (byte_in old i) 0 below)
    within at (inr from) = lt_no (i % 16384) (size % 16384) (byte_in old i) 0 (omega arith) ∙ sym (lt_no i size (byte_in old i) 0 from)

    elsewhere : (i / 16384 ≡ size / 16384 → ⊥) → (i < size) ⊎ (size ≤ i) → page_byte (cond (nat_lt (i / 16384) (size / 16384 + 1)) (get old (i / 16384)) None) (i % 16384) ≡ cond (nat_lt i size) (byte_in old i) 0
    elsewhere else (inl below) = ap (λ o. page_byte o (i % 16384)) (cond_true _ _ _ (kept_test (i / 16384) (size / 16384 + 1) (omega arith))) ∙ sym (lt_yes i size (byte_in old i) 0 below)
    elsewhere else (inr from) = ap (λ o. page_byte o (i % 16384)) (cond_false _ _ _ (gone_test (i / 16384) (size / 16384 + 1) (past else from))) ∙ sym (lt_no i size (byte_in old i) 0 from)
      where
        past : (i / 16384 ≡ size / 16384 → ⊥) → size ≤ i → size / 16384 + 1 ≤ i / 16384
        past else from = elim (cases_lt (i / 16384) (size / 16384 + 1)) [ inl small ↦ absurd (else (let d : i / 16384 ≡ size / 16384 = omega arith in d)) | inr big ↦ big ]

laid_inside : (off : ℕ) (new : List ℕ) (i old : ℕ) → off ≤ i → i < off + length new → laid off new i old ≡ slice_index new (i - off)
laid_inside off new i old h g = grind (arith, nat_tests)

-- a page that isn't kept shows zeros
pub shown_absent : (m : PageMap) (n start : ℕ) (window : List ℕ) → get m n ≡ None → IsShownTo m n start window → IsShownTo m (n + 1) start window
shown_absent m n start window none before k lt = before k lt ∙ split (start + k) (cases_lt (start + k) (n * 16384)) (cases_lt (start + k) ((n + 1) * 16384))
  where
    split : (i : ℕ) → (i < n * 16384) ⊎ (n * 16384 ≤ i) → (i < (n + 1) * 16384) ⊎ ((n + 1) * 16384 ≤ i) → cond (nat_lt i (n * 16384)) (byte_in m i) 0 ≡ cond (nat_lt i ((n + 1) * 16384)) (byte_in m i) 0
    split i (inl below) _ = lt_yes i (n * 16384) _ _ below ∙ sym (lt_yes i ((n + 1) * 16384) _ _ (omega arith))
    split i (inr from) (inl inside) = lt_no i (n * 16384) (byte_in m i) 0 from ∙ sym (lt_yes i ((n + 1) * 16384) (byte_in m i) 0 inside ∙ ap (λ o. page_byte o (i % 16384)) (ap (get m) (let e : i / 16384 ≡ n = omega arith in e) ∙ none))
    split i (inr from) (inr past) = lt_no i (n * 16384) (byte_in m i) 0 from ∙ sym (lt_no i ((n + 1) * 16384) (byte_in m i) 0 past)

-- a page that is kept shows its bytes
pub shown_next : (m : PageMap) (n start : ℕ) (window after page : List ℕ) → get m n ≡ Some page → length page ≡ 16384 → length after ≡ length window → IsShownTo m n start window → LaysInto (n * 16384) page start window after → IsShownTo m (n + 1) start after
shown_next m n start window after page some whole long before lays k lt = lays k lt ∙ split (start + k) (slice_index window k) (before k (omega arith)) (cases_lt (start + k) (n * 16384)) (cases_lt (start + k) ((n + 1) * 16384))
  where
    split : (i old : ℕ) → old ≡ cond (nat_lt i (n * 16384)) (byte_in m i) 0 → (i < n * 16384) ⊎ (n * 16384 ≤ i) → (i < (n + 1) * 16384) ⊎ ((n + 1) * 16384 ≤ i) → laid (n * 16384) page i old ≡ cond (nat_lt i ((n + 1) * 16384)) (byte_in m i) 0
    split i old is (inl below) _ = laid_outside (n * 16384) page i old (inl below) ∙ is ∙ lt_yes i (n * 16384) (byte_in m i) 0 below ∙ sym (lt_yes i ((n + 1) * 16384) (byte_in m i) 0 (omega arith))
    split i old is (inr from) (inl inside) =
        laid_inside (n * 16384) page i old from (omega arith)
        ∙ ap (slice_index page) (let e : i - n * 16384 ≡ i % 16384 = omega arith in e)
        ∙ sym (lt_yes i ((n + 1) * 16384) (byte_in m i) 0 inside ∙ ap (λ o. page_byte o (i % 16384)) (ap (get m) (let e : i / 16384 ≡ n = omega arith in e) ∙ some))
    split i old is (inr from) (inr past) = laid_outside (n * 16384) page i old (inr (omega arith)) ∙ is ∙ lt_no i (n * 16384) (byte_in m i) 0 from ∙ sym (lt_no i ((n + 1) * 16384) (byte_in m i) 0 past)

-- a window of zeros shows no page
pub shown_none : (m : PageMap) (n start : ℕ) (window : List ℕ) → n * 16384 ≤ start → ((k : ℕ) → k < length window → slice_index window k ≡ 0) → IsShownTo m n start window
shown_none m n start window h zeros k lt = zeros k lt ∙ sym (lt_no (start + k) (n * 16384) (byte_in m (start + k)) 0 (omega arith))

-- a window that shows all its pages
pub shown_all : (m : PageMap) (n start : ℕ) (window : List ℕ) → start + length window ≤ n * 16384 → IsShownTo m n start window → (k : ℕ) → k < length window → slice_index window k ≡ byte_in m (start + k)
shown_all m n start window h shown k lt = shown k lt ∙ lt_yes (start + k) (n * 16384) (byte_in m (start + k)) 0 (omega arith)

-- nothing is kept
pub kept_nothing : (m : PageMap) → m ≡ empty → IsKept m 0
kept_nothing m e = record { small = lit≤ tt; zeros = λ i from. ap (λ x. byte_in x i) e ∙ ap (λ o. page_byte o (i % 16384)) (get-empty nat_cmp (i / 16384)) }

pub no_bytes : (f : ℕ → ℕ) → first_bytes f 0 ≡ []
unfolding first_bytes
no_bytes f = refl

-- what was entered, or what was there
pub either : {A E : Type 0} (r : Result A E) (new next old : PageMap) → OnOk r (new ≡ next) → OnErr r (new ≡ old) → (new ≡ next) ⊎ (new ≡ old)
either (Ok x) new next old p q = inl p
either (Err e) new next old p q = inr q

-- the order of two numbers, as a test
pub gt_test : (a q : ℕ) → is_gt (nat_cmp a q) ≡ nat_lt q a
gt_test a q = grind (arith, nat_tests)

-- a page that was none is a page of zeros
pub page_of_none : {E : Type 0} (r : Result (List ℕ) E) (n off : ℕ) (new : List ℕ) → IfOk r (IsPageAfter n off new (Some (replicate 16384 0))) → IfOk r (IsPageAfter n off new None)
page_of_none (Ok page) n off new h = λ k lt. h k lt ∙ ap (laid off new (n * 16384 + k)) (get_or-replicate 16384 k 0 0 lt)
page_of_none (Err e) n off new h = h

-- a page of zeros is kept, or nothing changed
pub keeps_some : {A E : Type 0} (r : Result A E) (m new : PageMap) (n : ℕ) → OnOk r (new ≡ insert m n (replicate 16384 0)) → OnOk r (IsSome (get new n))
keeps_some (Ok x) m new n e = subst (λ t. IsSome (get t n)) (sym e) (is_put m n (replicate 16384 0))
keeps_some (Err x) m new n e = e

pub zeros_entered : {A E : Type 0} (r : Result A E) (m new : PageMap) (n : ℕ) → get m n ≡ None → OnOk r (new ≡ insert m n (replicate 16384 0)) → OnErr r (new ≡ m) → SameBytes m new
zeros_entered (Ok x) m new n none e f = λ i. ap (λ t. byte_in t i) e ∙ zeros_kept m n none i
zeros_entered (Err x) m new n none e f = λ i. ap (λ t. byte_in t i) f

pub zeros_keep : {A E : Type 0} (r : Result A E) (m new : PageMap) (n : ℕ) → OnOk r (new ≡ insert m n (replicate 16384 0)) → OnErr r (new ≡ m) → KeepsPages m new
zeros_keep (Ok x) m new n e f = λ q h. subst (λ t. IsSome (get t q)) (sym e) (keeps_put m n (replicate 16384 0) q h)
zeros_keep (Err x) m new n e f = λ q h. subst (λ t. IsSome (get t q)) (sym f) h

-- the same with a page that is one of zeros
pub with_zeros : {A E : Type 0} (r : Result A E) (m new : PageMap) (n : ℕ) (page : List ℕ) → page ≡ replicate 16384 0 → OnOk r (new ≡ insert m n page) → OnOk r (new ≡ insert m n (replicate 16384 0))
with_zeros (Ok x) m new n page is e = e ∙ ap (insert m n) is
with_zeros (Err x) m new n page is e = e
