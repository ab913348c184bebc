-- Bytes are read and laid piece by piece.
use Rattle.std.proofs.Common.{◌≡◌, ◌⊎◌, ℕ, ◌+◌, ◌-◌, ◌<◌, ◌≤◌, List, length, take, drop, slice_index, sym, ap, ◌∙◌, arith, inl, inr}
use Rattle.std.proofs.lemmas.Bool.{cases_lt}
use Rattle.std.proofs.lemmas.List.{get_or-take, get_or-drop, length-take, length-drop}
use Rattle.h2_num.specs.Places.{Places, from_place, SameBelow, Lays}
use Rattle.h2_disk.specs.Pages.{Fills}

-- one piece after another
pub pieces_laid : (at done n : ℕ) (bytes : List ℕ) (a b c : Places) → done + n ≤ length bytes → Lays at (take done bytes) a b
    → Lays (at + done) (take n (drop done bytes)) b c → Lays at (take (done + n) bytes) a c
pieces_laid at done n bytes a b c le one two =
    let first : length (take done bytes) ≡ done = omega (arith, length-take done bytes) in
    let second : length (take n (drop done bytes)) ≡ n = omega (arith, length-take n (drop done bytes), length-drop done bytes) in
    let both : length (take (done + n) bytes) ≡ done + n = omega (arith, length-take (done + n) bytes) in
    record {
      inside = λ k lt. inside first second k (omega arith) (cases_lt k done);
      others = record {
        before = λ k lt. two.others.before k (omega arith) ∙ one.others.before k lt;
        after = λ k past. two.others.after k (omega arith) ∙ one.others.after k (omega arith);
      };
    }
  where
    inside : length (take done bytes) ≡ done → length (take n (drop done bytes)) ≡ n → (k : ℕ) → k < done + n → (k < done) ⊎ (done ≤ k) → c (at + k) ≡ slice_index (take (done + n) bytes) k
    inside first second k lt (inl before) =
        two.others.before (at + k) (omega arith) ∙ one.inside k (omega arith) ∙ get_or-take done bytes k 0 before ∙ sym (get_or-take (done + n) bytes k 0 lt)
    inside first second k lt (inr from) =
        let e : at + k ≡ at + done + (k - done) = omega arith in
        let f : done + (k - done) ≡ k = omega arith in
        ap c e ∙ two.inside (k - done) (omega arith) ∙ get_or-take n (drop done bytes) (k - done) 0 (omega arith) ∙ get_or-drop done bytes (k - done) 0
        ∙ ap (slice_index bytes) f ∙ sym (get_or-take (done + n) bytes k 0 lt)

-- the first pieces of a buffer are filled
pub fills_more : (at done n : ℕ) (image old new : Places) → SameBelow done (from_place image at) old → Fills (at + done) done n image old new → SameBelow (done + n) (from_place image at) new
fills_more at done n image old new before fills k lt = split (cases_lt k done)
  where
    split : (k < done) ⊎ (done ≤ k) → new k ≡ image (at + k)
    split (inl below) = fills.others.before k below ∙ before k below
    split (inr from) =
        let e : k ≡ done + (k - done) = omega arith in
        let f : at + done + (k - done) ≡ at + k = omega arith in
        ap new e ∙ fills.inside (k - done) (omega arith) ∙ ap image f
