use Rattle.std.proofs.Common.{◌≡◌, ◌<◌, ◌≤◌, ℕ, zero, suc, ◌+◌, ◌-◌, ◌*◌, ◌/◌, ◌%◌, ◌^◌, true, false, nat_lt, nat_eq, List, [], ◌∷◌, length, replicate, arith, ap, ap₂, sym, ◌∙◌, refl, get_or}
use Rattle.std.proofs.lemmas.Bool.Decides.{nat_tests}
use Rattle.std.proofs.lemmas.List.{get_or-replicate, length-replicate}
use Rattle.std.proofs.lemmas.List.Elements.{All-cons, All-nil}
use Rattle.std.specs.List.{All}
use Rattle.h2_num.specs.Places.{from_place, number_at}
use Rattle.h2_codes.specs.declared.code.Code.{Code}
use Rattle.h2_codes.specs.declared.code.Code.TheVariants.{Free, Reserved, Staged, Used}
use Rattle.h2_codes.specs.Codes.{IsSegment, code_at, count_of}
use Rattle.h2_codes.specs.Layout.{code_number, chunk_bits, HoldCodes}
use Rattle.h2_freeleaf.specs.Leaf.{part_of, PartBytes, IsLeaf, LeafBytes}
use Rattle.h2_freeleaf.specs.InImage.{LeadsToLeaf}
use Rattle.h2_freeleaf.specs.ChunkCode.{CodeOf}
use Rattle.h2_space_rows.specs.Leaves.{reserved_codes, second_codes, free_codes, zone_codes, part_byte, leaf_image, leaf_ref, leaf_header}
use Rattle.h2_space_rows.proofs.codes.worked_codes_law.Goals as goal

-- Bytes of the parts

part_is : (i j : ℕ) → j < 128 → (65536 + (128 * i + j) - 65536) / 128 ≡ i
part_is i j lt = omega arith

rest_is : (i j : ℕ) → j < 128 → (65536 + (128 * i + j) - 65536) % 128 ≡ j
rest_is i j lt = omega arith

byte_is : (i j : ℕ) → j < 128 → leaf_image (65536 + (128 * i + j)) ≡ part_byte i j
byte_is i j lt = ap₂ part_byte (part_is i j lt) (rest_is i j lt)

below : (j n : ℕ) → j < n → nat_lt j n ≡ true
below j n lt = grind (arith, nat_tests)

from : (j n : ℕ) → n ≤ j → nat_lt j n ≡ false
from j n le = grind (arith, nat_tests)

unlike : (a b : ℕ) → (a ≡ b → ⊥) → nat_eq a b ≡ false
unlike a b ne = grind (arith, nat_tests)

reserved_byte : (j : ℕ) → j < 64 → part_byte 0 j ≡ 85
reserved_byte j lt = let a : nat_lt j 64 ≡ true = below j 64 lt in rw a refl

reserved_tail : (j : ℕ) → 64 ≤ j → part_byte 0 j ≡ 0
reserved_tail j le = let a : nat_lt j 64 ≡ false = from j 64 le in rw a refl

second_byte : (j : ℕ) → (j ≡ 0 → ⊥) → (j ≡ 64 → ⊥) → part_byte 1 j ≡ 0
second_byte j first count =
    let a : nat_eq j 0 ≡ false = unlike j 0 first in
    let b : nat_eq j 64 ≡ false = unlike j 64 count in
    rw (a, b) refl

free_byte : (p j : ℕ) → (j ≡ 65 → ⊥) → part_byte (suc (suc p)) j ≡ 0
free_byte p j count = let a : nat_eq j 65 ≡ false = unlike j 65 count in rw a refl

-- Codes in a byte

bits_of_85 : (m : ℕ) → m < 4 → 85 / 2 ^ (2 * m) % 4 ≡ 1
bits_of_85 zero lt = refl
bits_of_85 (suc zero) lt = refl
bits_of_85 (suc (suc zero)) lt = refl
bits_of_85 (suc (suc (suc zero))) lt = refl
bits_of_85 (suc (suc (suc (suc m)))) lt = absurd (let high : suc (suc (suc (suc m))) < 4 = lt in omega arith)

bits_of_0 : (m : ℕ) → m < 4 → 0 / 2 ^ (2 * m) % 4 ≡ 0
bits_of_0 zero lt = refl
bits_of_0 (suc zero) lt = refl
bits_of_0 (suc (suc zero)) lt = refl
bits_of_0 (suc (suc (suc zero))) lt = refl
bits_of_0 (suc (suc (suc (suc m)))) lt = absurd (let high : suc (suc (suc (suc m))) < 4 = lt in omega arith)

rest_small : (c : ℕ) → c % 4 < 4
rest_small c = omega arith

byte_small : (c : ℕ) → c < 256 → c / 4 < 64
byte_small c lt = omega arith

in_part : (j : ℕ) → j < 64 → j < 128
in_part j lt = omega arith

-- a chunk of part i whose byte is known
bits_by : (i c byte n : ℕ) → c < 256 → part_byte i (c / 4) ≡ byte → byte / 2 ^ (2 * (c % 4)) % 4 ≡ n → chunk_bits (part_of i (from_place leaf_image 65536)) c ≡ n
bits_by i c byte n lt is e = ap (λ (b : ℕ). b / 2 ^ (2 * (c % 4)) % 4) (byte_is i (c / 4) (in_part (c / 4) (byte_small c lt)) ∙ is) ∙ e

code_in_all : (n c : ℕ) (code : Code) → c < n → code_number code ≡ code_number (get_or (replicate n code) c Reserved)
code_in_all n c code lt = ap code_number (sym (get_or-replicate n c code Reserved lt))

-- The parts

reserved_part : PartBytes reserved_codes (part_of 0 (from_place leaf_image 65536))
reserved_part = record { holds = holds; free = refl; tail = λ j low high. byte_is 0 j high ∙ reserved_tail j (omega arith) }
  where
    holds : HoldCodes (part_of 0 (from_place leaf_image 65536)) reserved_codes
    holds c lt = bits_by 0 c 85 1 lt (reserved_byte (c / 4) (byte_small c lt)) (bits_of_85 (c % 4) (rest_small c)) ∙ code_in_all 256 c Reserved lt

second_part : PartBytes second_codes (part_of 1 (from_place leaf_image 65536))
second_part = record { holds = holds; free = refl; tail = λ j low high. byte_is 1 j high ∙ second_byte j (λ e. absurd (omega arith)) (λ e. absurd (omega arith)) }
  where
    holds : HoldCodes (part_of 1 (from_place leaf_image 65536)) second_codes
    holds zero lt = refl
    holds (suc zero) lt = refl
    holds (suc (suc zero)) lt = refl
    holds (suc (suc (suc zero))) lt = refl
    holds (suc (suc (suc (suc c)))) lt =
        bits_by 1 (suc (suc (suc (suc c)))) 0 0 lt (second_byte (suc (suc (suc (suc c))) / 4) (λ e. absurd (let is : suc (suc (suc (suc c))) / 4 ≡ 0 = e in omega arith)) (λ e. absurd (let is : suc (suc (suc (suc c))) / 4 ≡ 64 = e in let high : suc (suc (suc (suc c))) < 256 = lt in omega arith)))
        (bits_of_0 (suc (suc (suc (suc c))) % 4) (rest_small (suc (suc (suc (suc c))))))
        ∙ code_in_all 252 c Free (let high : suc (suc (suc (suc c))) < 256 = lt in omega arith)

free_part : (p : ℕ) → number_at (part_of (suc (suc p)) (from_place leaf_image 65536)) 64 4 ≡ count_of Free free_codes → PartBytes free_codes (part_of (suc (suc p)) (from_place leaf_image 65536))
free_part p counted = record { holds = holds; free = counted; tail = λ j low high. byte_is (suc (suc p)) j high ∙ free_byte p j (λ e. absurd (omega arith)) }
  where
    holds : HoldCodes (part_of (suc (suc p)) (from_place leaf_image 65536)) free_codes
    holds c lt =
        bits_by (suc (suc p)) c 0 0 lt (free_byte p (c / 4) (λ e. absurd (let is : c / 4 ≡ 65 = e in omega arith))) (bits_of_0 (c % 4) (rest_small c))
        ∙ code_in_all 256 c Free lt

leaf_bytes : LeafBytes zone_codes (from_place leaf_image 65536)
leaf_bytes zero d lt = reserved_part
leaf_bytes (suc zero) d lt = second_part
leaf_bytes (suc (suc zero)) d lt = free_part 0 refl
leaf_bytes (suc (suc (suc zero))) d lt = free_part 1 refl
leaf_bytes (suc (suc (suc (suc zero)))) d lt = free_part 2 refl
leaf_bytes (suc (suc (suc (suc (suc zero))))) d lt = free_part 3 refl
leaf_bytes (suc (suc (suc (suc (suc (suc zero)))))) d lt = free_part 4 refl
leaf_bytes (suc (suc (suc (suc (suc (suc (suc zero))))))) d lt = free_part 5 refl
leaf_bytes (suc (suc (suc (suc (suc (suc (suc (suc i)))))))) d lt = absurd (let high : suc (suc (suc (suc (suc (suc (suc (suc i))))))) < 8 = lt in omega arith)

whole : (n : ℕ) (code : Code) → length (replicate n code) ≡ n
whole n code = length-replicate n code

more : (xs : List (List Code)) → All IsSegment xs → All IsSegment (free_codes ∷ xs)
more xs all = All-cons IsSegment free_codes xs (whole 256 Free) all

abbrev free_segments : ℕ → List (List Code)
free_segments zero = []
free_segments (suc n) = free_codes ∷ free_segments n

all_free : (n : ℕ) → All IsSegment (free_segments n)
all_free zero = All-nil IsSegment
all_free (suc n) = more (free_segments n) (all_free n)

second_whole : IsSegment second_codes
second_whole = ap (λ (n : ℕ). suc (suc (suc (suc n)))) (whole 252 Free)

is_leaf : IsLeaf zone_codes
is_leaf = record {
  count = refl;
  segments = All-cons IsSegment reserved_codes (second_codes ∷ free_segments 6) (whole 256 Reserved) (All-cons IsSegment second_codes (free_segments 6) second_whole (all_free 6));
}

leads : LeadsToLeaf leaf_image zone_codes leaf_ref
leads = record { check = refl; valid = is_leaf; bytes = leaf_bytes }

code_of_chunk : (chunk : ℕ) (code : Code) → chunk < 8192 → chunk / 2048 ≡ 0 → code ≡ code_at (get_or zone_codes (chunk / 256 % 8) []) (chunk % 256) → CodeOf leaf_image leaf_header chunk code
code_of_chunk chunk code lt zone is = record { in_volume = lt; leaf = zone_codes; index = 0; below = omega arith; leads = (zone, leads); is = is }

number : Code → ℕ
number Free = 0
number Reserved = 1
number Staged = 2
number Used = 3

used_not_free : Used ≡ Free → ⊥
unfolding number
used_not_free e = absurd (let n : ◌≡◌ {A = ℕ} 3 0 = ap number e in omega arith)

staged_not_used : Staged ≡ Used → ⊥
unfolding number
staged_not_used e = absurd (let n : ◌≡◌ {A = ℕ} 2 3 = ap number e in omega arith)

used : CodeOf leaf_image leaf_header 256 Used
used = code_of_chunk 256 Used (omega arith) refl refl

staged : CodeOf leaf_image leaf_header 257 Staged
staged = code_of_chunk 257 Staged (omega arith) refl refl

pub returns : goal.returns
returns c = record {
  reserved = code_of_chunk 0 Reserved (omega arith) refl refl;
  last_reserved = code_of_chunk 255 Reserved (omega arith) refl refl;
  used = used;
  staged = staged;
  free = code_of_chunk 258 Free (omega arith) refl refl;
  last_free = code_of_chunk 2047 Free (omega arith) refl refl;
  not_free = λ is. used_not_free (c.code_law.ensures.one_code leaf_image leaf_header 256 Free Used is used);
  not_used = λ is. staged_not_used (c.code_law.ensures.one_code leaf_image leaf_header 257 Used Staged is staged);
  past_volume = λ is. absurd (let high : 8192 < 8192 = is.in_volume in omega arith);
}
