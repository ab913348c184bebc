use Rattle.std.proofs.Common.{◌≡◌, ℕ, List, get_or, arith, ap, refl}
use Rattle.h2_worked_rows.proofs.meanings.worked_embedded_law.Goals as goal

pub returns : goal.returns
returns c = record {
  three = record { bytes_are = refl; sized = refl };
  not_two = λ h. absurd (let e : 2 ≡ 3 = h.sized in omega arith);
  not_other = λ h. absurd (let e : 8 ≡ 7 = ap (λ (l : List ℕ). get_or l 2 0) h.bytes_are in omega arith);
}
