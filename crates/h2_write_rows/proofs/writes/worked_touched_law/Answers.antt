use Rattle.std.proofs.Common.{◌≡◌, ◌<◌, ◌≤◌, ◌+◌, ◌*◌, ℕ, Bool, true, false, arith, ap, cond, inl, inr, refl}
use Rattle.h2_file.specs.Touching.{IsEmbedded, Touches, IsTouched}
use Rattle.h2_write_rows.specs.Writes.{touched_of}
use Rattle.h2_write_rows.proofs.writes.worked_touched_law.Goals as goal

long : IsEmbedded 20000 → ⊥
long small = absurd (let le : 20000 ≤ 512 = small in omega arith)

far : IsEmbedded 32771 → ⊥
far small = absurd (let le : 32771 ≤ 512 = small in omega arith)

one_too_many : IsEmbedded 513 → ⊥
one_too_many small = absurd (let le : 513 ≤ 512 = small in omega arith)

two_touched : (b : ℕ) → Touches 16382 4 b → (0 ≤ b) × (b < 0 + 2)
two_touched b t = let low : 16382 < 16384 * (b + 1) = t.0 in let high : 16384 * b < 16386 = t.1 in (omega arith, omega arith)

two_only : (b : ℕ) → (0 ≤ b) × (b < 0 + 2) → Touches 16382 4 b
two_only b t = let high : b < 0 + 2 = t.1 in (omega arith, omega arith)

third_touched : (b : ℕ) → Touches 32768 3 b → (2 ≤ b) × (b < 2 + 1)
third_touched b t = let low : 32768 < 16384 * (b + 1) = t.0 in let high : 16384 * b < 32771 = t.1 in (omega arith, omega arith)

third_only : (b : ℕ) → (2 ≤ b) × (b < 2 + 1) → Touches 32768 3 b
third_only b t = let low : 2 ≤ b = t.0 in let high : b < 2 + 1 = t.1 in (omega arith, omega arith)

no_lift : false ≡ true → ⊥
no_lift e = absurd (let n : ◌≡◌ {A = ℕ} 0 1 = ap (λ (b : Bool). cond {A = ℕ} b 1 0) e in omega arith)

not_one : IsTouched 20000 16382 4 (touched_of 0 1 false) → ⊥
not_one (inl t) = long t.0
not_one (inr t) = absurd (let last : (0 ≤ 1) × (1 < 0 + 1) = (t.1.blocks 1).0 (omega arith, omega arith) in let high : 1 < 0 + 1 = last.1 in omega arith)

untouched_zero : Touches 32768 3 0 → ⊥
untouched_zero t = absurd (let low : 32768 < 16384 * (0 + 1) = t.0 in omega arith)

not_unlifted : IsTouched 5 32768 3 (touched_of 2 1 false) → ⊥
not_unlifted (inl t) = far t.0
not_unlifted (inr t) = no_lift (t.1.lift.1 ((omega arith, omega arith), untouched_zero))

not_in_inode : IsTouched 5 500 13 (touched_of 0 0 false) → ⊥
not_in_inode (inl t) = one_too_many t.0
not_in_inode (inr t) = absurd (let last : (0 ≤ 0) × (0 < 0 + 0) = (t.1.blocks 0).0 (omega arith, omega arith) in let high : 0 < 0 + 0 = last.1 in omega arith)

touched_zero : Touches 16382 4 0
touched_zero = (omega arith, omega arith)

pub returns : goal.returns
returns c = record {
  two_blocks = inr (long, record { first = refl; blocks = λ b. (two_touched b, two_only b); lift = (λ e. absurd (no_lift e), λ h. absurd (h.1 touched_zero)) });
  not_one = not_one;
  behind_hole = inr (far, record { first = refl; blocks = λ b. (third_touched b, third_only b); lift = (λ e. ((omega arith, omega arith), untouched_zero), λ h. refl) });
  not_unlifted = not_unlifted;
  in_inode = inl (omega arith, record { first = refl; count = refl; lift = refl });
  not_in_inode = not_in_inode;
}
