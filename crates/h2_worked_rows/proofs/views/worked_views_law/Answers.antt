use Rattle.std.proofs.Common.{◌≡◌, ◌<◌, ℕ, false, nat_eq, Option, refl, sym, ◌∙◌, ap, arith}
use Rattle.std.proofs.lemmas.Option.{none-some, same_Some}
use Rattle.std.proofs.lemmas.Bool.Decides.{nat_tests}
use Rattle.h2_num.specs.Places.{Places}
use Rattle.h2_ref.specs.declared.reference.Ref.{Ref}
use Rattle.h2_inode.specs.Loaded.{BlocksOne, HoldsBut}
use Rattle.h2_worked_rows.specs.Refs.{fifth_leaf}
use Rattle.h2_worked_rows.specs.Views.{known_block, empty_view, fifth_view, fifth_fields}
use Rattle.h2_worked_rows.proofs.views.worked_views_law.Goals as goal

one_known : (blocks : Ref → Option Places) → BlocksOne (known_block blocks)
one_known blocks r x y ex ey k lt = ap (λ (b : Places). b k) (same_Some y x (sym ey ∙ ex)) ∙ refl

unlike : (a b : ℕ) → (a ≡ b → ⊥) → nat_eq a b ≡ false
unlike a b ne = grind (arith, nat_tests)

but_one : HoldsBut 1 empty_view fifth_view
but_one m other stands there = let e : nat_eq m 1 ≡ false = unlike m 1 other in rw e refl

zero_not_one : ◌≡◌ {A = ℕ} 1 0 → ⊥
zero_not_one e = absurd (omega (arith, e))

pub returns : goal.returns
returns c = record {
  one = one_known;
  not_one = λ h. let lt : 0 < 16384 = omega arith in zero_not_one (sym (h fifth_leaf (λ k. 1) (λ k. 0) tt tt 0 lt));
  same = λ m stands there. refl;
  but_one = but_one;
  not_same = λ h. none-some fifth_fields (sym (h 1 refl refl));
  not_but_other = λ h. none-some fifth_fields (sym (h 1 zero_not_one refl refl));
}
