use Rattle.std.proofs.Common.{◌≡◌, ◌<◌, ◌+◌, ℕ, arith, ap, refl}
use Rattle.h2_freeleaf.specs.declared.fault.MapFault.{MapFault}
use Rattle.h2_freeleaf.specs.declared.fault.MapFault.TheVariants.{BadCheck, Padding, Shape, Reference}
use Rattle.h2_freeleaf.specs.LeastPlace.{IsWrongInLeaf, wrong_count, wrong_byte}
use Rattle.h2_space_rows.specs.Marred.{marred_leaf}
use Rattle.h2_space_rows.proofs.faults.worked_least_law.Goals as goal

not_zero : ◌≡◌ {A = ℕ} 1 0 → ⊥
not_zero e = absurd (omega (arith, e))

first : IsWrongInLeaf 4096 marred_leaf 70 (Padding 4166)
first = wrong_byte 0 (omega arith) (omega arith) (omega arith) not_zero refl

second : IsWrongInLeaf 4096 marred_leaf 200 (Padding 4296)
second = wrong_byte 1 (omega arith) (omega arith) (omega arith) not_zero refl

not_wrong : IsWrongInLeaf 4096 marred_leaf 71 (Padding 4167) → ⊥
not_wrong (wrong_count i lt is wrong e) = absurd (omega (arith, is))
not_wrong (wrong_byte i lt low high wrong e) = wrong refl

-- the place of a fault of bytes that must be zero
padding_at : MapFault → ℕ
padding_at (BadCheck at stored computed) = 0
padding_at (Padding at) = at
padding_at (Shape at) = 0
padding_at (Reference at) = 0

-- what is wrong with this fault is byte 200
place_is : (p : ℕ) → IsWrongInLeaf 4096 marred_leaf p (Padding 4296) → 70 < p
unfolding padding_at
place_is p (wrong_count i lt is wrong e) = absurd (let no : 4296 ≡ 0 = ap padding_at e in omega (arith, no))
place_is p (wrong_byte i lt low high wrong e) = let at : 4296 ≡ 4096 + p = ap padding_at e in omega (arith, at)

pub returns : goal.returns
returns c = record {
  first = first;
  second = second;
  not_wrong = not_wrong;
  not_least = λ h. h.none_before 70 (Padding 4166) (place_is h.place h.here) first;
  same = λ zones number image level zone is k lt. refl;
}
