use Rattle.std.proofs.Common.{◌≡◌, ℕ, refl, arith, true≢false}
use Rattle.h2_inode.specs.Nodes.{IsBare}
use Rattle.h2_worked_rows.specs.Trees.{two_roots}
use Rattle.h2_worked_rows.proofs.passages.worked_passages_law.Goals as goal

zero_not_one : ◌≡◌ {A = ℕ} 0 1 → ⊥
zero_not_one e = absurd (omega (arith, e))

not_bare : IsBare two_roots 0 5 → ⊥
not_bare none = none 1 refl refl refl

other_key : ◌≡◌ {A = ℕ} 0 5 → ⊥
other_key e = absurd (omega (arith, e))

pub returns : goal.returns
returns c = record {
  loads = (refl, refl);
  not_loads = λ h. zero_not_one h.0;
  change = (refl, refl);
  not_change = λ h. h;
  renewal = (refl, refl);
  renewed = record { renewed = record { kind = refl; key = refl; keybits = refl; radix = refl; dirent = refl; others = λ e. absurd (true≢false e) }; same = λ bare. absurd (not_bare bare) };
  not_renewed = λ h. other_key h.renewed.key;
}
