-- The fields of an inode, put over zeros and read back.
use Rattle.std.specs.Prelude.{◌≡◌, ◌≤◌, ℕ, ◌+◌, List, length, refl}
use Rattle.std.proofs.Common.{◌∙◌, arith}
use Rattle.h2_num.specs.Places.{Places, places, from_place, SameOutside, Puts, Lays}
use Rattle.h2_num.specs.PlaceLaws.{number_stays, byte_stays, outside_both}
use Rattle.h2_inode.specs.declared.kind.InodeKind.{InodeKind}
use Rattle.h2_inode.specs.declared.inode.Body.{Body}
use Rattle.h2_inode.specs.declared.inode.Body.TheVariants.{Refs, Bytes}
use Rattle.h2_inode.specs.declared.inode.Inode.{Inode}
use Rattle.h2_inode.specs.Kind.{kind_byte}
use Rattle.h2_inode.specs.InodeLaws.{body_same}
use Rattle.h2_inode.specs.Inode.{BodyFits, BodyBytes, body_byte, IsStorable, IsInode, InodeBytes}

-- a body that fits has 512 bytes
storable_by : (kind : InodeKind) (size : ℕ) (body : Body) → BodyFits kind size body → IsStorable body
storable_by kind size (Refs s) h = (h.1, h.2.held)
storable_by kind size (Bytes bytes) h = h.1

pub storable : (i : Inode) → IsInode i → IsStorable i.body
storable i h = storable_by i.kind i.size i.body h.body_fits

-- the body, the name and the fields, put in this order over zeros
pub fields_put : (i : Inode) (bytes : List ℕ) (b0 b1 b2 b3 b4 b5 b6 b7 b8 b9 : Places)
    → length i.name ≤ 64 → length bytes ≡ 512 → BodyBytes i.body (places bytes) → ((k : ℕ) → b0 k ≡ 0)
    → Lays 512 bytes b0 b1 → Lays 48 i.name b1 b2 → Puts 0 1 (kind_byte i.kind) b2 b3 → Puts 1 1 (body_byte i.body) b3 b4
    → Puts 4 4 i.links b4 b5 → Puts 8 8 i.number b5 b6 → Puts 16 8 i.size b6 b7 → Puts 24 8 i.next b7 b8 → Puts 32 2 (length i.name) b8 b9
    → InodeBytes i b9
fields_put i bytes b0 b1 b2 b3 b4 b5 b6 b7 b8 b9 few whole body zeros l1 l2 p3 p4 p5 p6 p7 p8 p9 =
    let o8 : SameOutside 24 10 b7 b9 = outside_both 24 10 24 8 32 2 b7 b8 b9 (omega arith) (omega arith) (omega arith) (omega arith) p8.others p9.others in
    let o7 : SameOutside 16 18 b6 b9 = outside_both 16 18 16 8 24 10 b6 b7 b9 (omega arith) (omega arith) (omega arith) (omega arith) p7.others o8 in
    let o6 : SameOutside 8 26 b5 b9 = outside_both 8 26 8 8 16 18 b5 b6 b9 (omega arith) (omega arith) (omega arith) (omega arith) p6.others o7 in
    let o5 : SameOutside 4 30 b4 b9 = outside_both 4 30 4 4 8 26 b4 b5 b9 (omega arith) (omega arith) (omega arith) (omega arith) p5.others o6 in
    let o4 : SameOutside 1 33 b3 b9 = outside_both 1 33 1 1 4 30 b3 b4 b9 (omega arith) (omega arith) (omega arith) (omega arith) p4.others o5 in
    let o3 : SameOutside 0 34 b2 b9 = outside_both 0 34 0 1 1 33 b2 b3 b9 (omega arith) (omega arith) (omega arith) (omega arith) p3.others o4 in
    let kind = p3.field in
    let number = p4.field in
    let kind_stays = byte_stays 0 1 33 b3 b9 o4 refl in
    let number_stays' = byte_stays 1 4 30 b4 b9 o5 refl in
    record {
      kind_at = omega arith;
      body_at = omega arith;
      before_links = λ k ge lt. o5.before k (omega arith) ∙ p4.others.after k (omega arith) ∙ p3.others.after k (omega arith) ∙ l2.others.before k (omega arith) ∙ l1.others.before k (omega arith) ∙ zeros k;
      links_at = number_stays 4 4 8 26 b5 b9 o6 refl ∙ p5.field;
      number_at_8 = number_stays 8 8 16 18 b6 b9 o7 refl ∙ p6.field;
      size_at = number_stays 16 8 24 10 b7 b9 o8 refl ∙ p7.field;
      next_at = number_stays 24 8 32 2 b8 b9 p9.others refl ∙ p8.field;
      name_at = record { len = p9.field; bytes = λ k lt. o3.after (48 + k) (omega arith) ∙ l2.inside k lt };
      before_name = λ k ge lt. o3.after k (omega arith) ∙ l2.others.before k (omega arith) ∙ l1.others.before k (omega arith) ∙ zeros k;
      behind_name = λ k ge lt. o3.after k (omega arith) ∙ l2.others.after k (omega arith) ∙ l1.others.before k (omega arith) ∙ zeros k;
      contents = body_same i.body (places bytes) (from_place b9 512) (λ k lt. o3.after (512 + k) (omega arith) ∙ l2.others.after (512 + k) (omega arith) ∙ l1.inside k (omega arith)) body;
    }
