-- The fields of a header before its references, put from left to right.
use Rattle.std.proofs.Common.{◌≡◌, ◌+◌, refl, ap, ◌∙◌, arith}
use Rattle.std.specs.Prelude.{codes}
use Rattle.h2_num.specs.Places.{Places, places, number_at, SameBelow, SameOutside, Puts, Lays}
use Rattle.h2_num.specs.PlaceLaws.{number_stays, outside_both}
use Rattle.h2_header.specs.Header.{NumberBytes}
use Rattle.h2_header.specs.declared.header.Header.{Header}

-- the fields in order: the magic, the version, and then the numbers
pub record FieldsPut (h : Header) (a b : Places) : Type 0 where
  pub magic : SameBelow 8 (places (codes "H2VOLUME")) b
  pub version : number_at b 8 4 ≡ 1
  pub numbers : NumberBytes h b
  pub others : SameOutside 0 40 a b

pub numbers_put : (h : Header) (b0 b1 b2 b3 b4 b5 b6 : Places)
    → Lays 0 (codes "H2VOLUME") b0 b1 → Puts 8 4 1 b1 b2 → Puts 12 4 h.zones b2 b3
    → Puts 16 8 h.number b3 b4 → Puts 24 8 h.map_number b4 b5 → Puts 32 8 h.next_pfs b5 b6
    → FieldsPut h b0 b6
numbers_put h b0 b1 b2 b3 b4 b5 b6 p1 p2 p3 p4 p5 p6 =
    let o5 : SameOutside 24 16 b4 b6 = outside_both 24 16 24 8 32 8 b4 b5 b6 (omega arith) (omega arith) (omega arith) (omega arith) p5.others p6.others in
    let o4 : SameOutside 16 24 b3 b6 = outside_both 16 24 16 8 24 16 b3 b4 b6 (omega arith) (omega arith) (omega arith) (omega arith) p4.others o5 in
    let o3 : SameOutside 12 28 b2 b6 = outside_both 12 28 12 4 16 24 b2 b3 b6 (omega arith) (omega arith) (omega arith) (omega arith) p3.others o4 in
    let o2 : SameOutside 8 32 b1 b6 = outside_both 8 32 8 4 12 28 b1 b2 b6 (omega arith) (omega arith) (omega arith) (omega arith) p2.others o3 in
    let o1 : SameOutside 0 40 b0 b6 = outside_both 0 40 0 8 8 32 b0 b1 b6 (omega arith) (omega arith) (omega arith) (omega arith) p1.others o2 in
    record {
      magic = λ k lt. let e : k ≡ 0 + k = omega arith in o2.before k lt ∙ ap b1 e ∙ p1.inside k lt;
      version = number_stays 8 4 12 28 b2 b6 o3 refl ∙ p2.field;
      numbers = record {
        zones = number_stays 12 4 16 24 b3 b6 o4 refl ∙ p3.field;
        number = number_stays 16 8 24 16 b4 b6 o5 refl ∙ p4.field;
        map_number = number_stays 24 8 32 8 b5 b6 p6.others refl ∙ p5.field;
        next_pfs = p6.field;
      };
      others = o1;
    }
