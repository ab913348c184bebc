-- Inodes whose fields are put in order over zeros.
use Rattle.std.proofs.Common.{◌≡◌, ◌≤◌, ℕ, zero, suc, ◌+◌, List, length, replicate, refl, ◌∙◌, arith}
use Rattle.std.proofs.lemmas.List.{get_or-replicate}
use Rattle.h2_num.specs.Places.{Places, places, number_at, from_place, SameOutside, ZeroIn, Puts, Lays}
use Rattle.h2_num.specs.PlaceLaws.{number_stays, zeros_within, outside_both}
use Rattle.h2_ref.specs.declared.reference.Ref.{Ref}
use Rattle.h2_ref.specs.Ref.{RefBytes}
use Rattle.h2_ref.specs.RefLaws.{RefBytes-same}
use Rattle.h2_image.specs.NewBlocks.{InodeHead}

-- a new array of zeros
pub zeros_in_array : (n : ℕ) → ZeroIn 0 n (places (replicate n 0))
zeros_in_array n k ge lt = get_or-replicate n k 0 0 lt

-- zeros spell the number 0
pub number_of_zeros : (b : Places) (at n : ℕ) → ZeroIn at (at + n) b → number_at b at n ≡ 0
number_of_zeros b at zero zeros = refl
number_of_zeros b at (suc n) zeros =
    let here = zeros at (omega arith) (omega arith) in
    let rest = number_of_zeros b (suc at) n (λ k ge lt. zeros k (omega arith) (omega arith)) in
    omega arith

pub head_put : (kind number next : ℕ) (name : List ℕ) (b0 b1 b2 b3 b4 b5 b6 : Places) → length name ≤ 64 → ZeroIn 0 1024 b0
    → Puts 0 1 kind b0 b1 → Puts 4 4 1 b1 b2 → Puts 8 8 number b2 b3 → Puts 24 8 next b3 b4 → Puts 32 2 (length name) b4 b5 → Lays 48 name b5 b6
    → InodeHead kind number next name b6 × ZeroIn 512 1024 b6
head_put kind number next name b0 b1 b2 b3 b4 b5 b6 short zeros p1 p2 p3 p4 p5 l =
    let o46 : SameOutside 32 80 b4 b6 = outside_both 32 80 32 2 48 (length name) b4 b5 b6 (omega arith) (omega arith) (omega arith) (omega arith) p5.others l.others in
    let o36 : SameOutside 24 88 b3 b6 = outside_both 24 88 24 8 32 80 b3 b4 b6 (omega arith) (omega arith) (omega arith) (omega arith) p4.others o46 in
    let o26 : SameOutside 8 104 b2 b6 = outside_both 8 104 8 8 24 88 b2 b3 b6 (omega arith) (omega arith) (omega arith) (omega arith) p3.others o36 in
    let o16 : SameOutside 4 108 b1 b6 = outside_both 4 108 4 4 8 104 b1 b2 b6 (omega arith) (omega arith) (omega arith) (omega arith) p2.others o26 in
    let u2 : SameOutside 0 8 b0 b2 = outside_both 0 8 0 1 4 4 b0 b1 b2 (omega arith) (omega arith) (omega arith) (omega arith) p1.others p2.others in
    let u3 : SameOutside 0 16 b0 b3 = outside_both 0 16 0 8 8 8 b0 b2 b3 (omega arith) (omega arith) (omega arith) (omega arith) u2 p3.others in
    let u4 : SameOutside 0 32 b0 b4 = outside_both 0 32 0 16 24 8 b0 b3 b4 (omega arith) (omega arith) (omega arith) (omega arith) u3 p4.others in
    let u5 : SameOutside 0 34 b0 b5 = outside_both 0 34 0 32 32 2 b0 b4 b5 (omega arith) (omega arith) (omega arith) (omega arith) u4 p5.others in
    let z1 : ZeroIn 1 4 b6 = λ k ge lt. o16.before k lt ∙ p1.others.after k ge ∙ zeros k (omega arith) (omega arith) in
    let z3 : ZeroIn 16 24 b6 = λ k ge lt. o36.before k lt ∙ u3.after k ge ∙ zeros k (omega arith) (omega arith) in
    let z5 : ZeroIn 34 48 b6 = λ k ge lt. l.others.before k lt ∙ u5.after k ge ∙ zeros k (omega arith) (omega arith) in
    let z6 : ZeroIn (48 + length name) 1024 b6 = λ k ge lt. l.others.after k ge ∙ u5.after k (omega arith) ∙ zeros k (omega arith) lt in
    let kind_field = p1.field in
    let kind_stays = o16.before 0 (omega arith) in (
      record {
        kind_is = omega arith;
        body = z1 1 (omega arith) (omega arith);
        after_body = zeros_within 1 4 2 4 b6 (omega arith) (omega arith) z1;
        links = number_stays 4 4 8 104 b2 b6 o26 refl ∙ p2.field;
        number_is = number_stays 8 8 24 88 b3 b6 o36 refl ∙ p3.field;
        size = number_of_zeros b6 16 8 z3;
        next_is = number_stays 24 8 32 80 b4 b6 o46 refl ∙ p4.field;
        name_length = number_stays 32 2 48 (length name) b5 b6 l.others refl ∙ p5.field;
        after_length = z5;
        name_is = l.inside;
        after_name = zeros_within (48 + length name) 1024 (48 + length name) 512 b6 (omega arith) (omega arith) z6;
      },
      zeros_within (48 + length name) 1024 512 1024 b6 (omega arith) (omega arith) z6,
    )

-- the head stays when the body is written
head_stays : (kind number next : ℕ) (name : List ℕ) (n : ℕ) (old new : Places) → length name ≤ 64 → SameOutside 512 n old new → InodeHead kind number next name old → InodeHead kind number next name new
head_stays kind number next name n old new short same h = record {
  kind_is = same.before 0 (omega arith) ∙ h.kind_is;
  body = same.before 1 (omega arith) ∙ h.body;
  after_body = λ k ge lt. same.before k (omega arith) ∙ h.after_body k ge lt;
  links = number_stays 4 4 512 n old new same refl ∙ h.links;
  number_is = number_stays 8 8 512 n old new same refl ∙ h.number_is;
  size = number_stays 16 8 512 n old new same refl ∙ h.size;
  next_is = number_stays 24 8 512 n old new same refl ∙ h.next_is;
  name_length = number_stays 32 2 512 n old new same refl ∙ h.name_length;
  after_length = λ k ge lt. same.before k (omega arith) ∙ h.after_length k ge lt;
  name_is = λ k lt. same.before (48 + k) (omega arith) ∙ h.name_is k lt;
  after_name = λ k ge lt. same.before k lt ∙ h.after_name k ge lt;
}

pub pfs_put : (directory : Ref) (bytes name : List ℕ) (b new : Places) → length bytes ≡ 128 → length name ≤ 64 → InodeHead 3 1 2 name b → ZeroIn 512 1024 b → RefBytes directory (places bytes) → Lays 512 bytes b new
    → InodeHead 3 1 2 name new × RefBytes directory (from_place new 512) × ZeroIn 640 1024 new
pfs_put directory bytes name b new len short head body spelled l = (
  head_stays 3 1 2 name (length bytes) b new short l.others head,
  RefBytes-same directory (places bytes) (from_place new 512) (λ k lt. l.inside k (omega arith)) spelled,
  λ k ge lt. l.others.after k (omega arith) ∙ body k (omega arith) lt,
)
