use Rattle.std.proofs.Common.{◌≡◌, ◌≤◌, ◌<◌, ◌⊎◌, ◌/◌, ℕ, zero, suc, Bool, true, false, IsSome, arith, sym, subst, inl, inr, refl}
use Rattle.std.proofs.lemmas.Bool.{cases_lt}
use Rattle.h2_num.specs.Places.{InRange}
use Rattle.h2_disk.specs.Pages.{HasPages, HasPagesBetween}
use Rattle.h2_crash_rows.specs.Pages.{two_pages}
use Rattle.h2_crash_rows.proofs.pages.worked_pages_law.Goals as goal

between : HasPagesBetween two_pages 1 3
between zero low high = absurd (let le : 1 ≤ 0 = low in omega arith)
between (suc zero) low high = refl
between (suc (suc zero)) low high = refl
between (suc (suc (suc page))) low high = absurd (let lt : suc (suc (suc page)) < 3 = high in omega arith)

none_between : HasPagesBetween two_pages 3 3
none_between page low high = absurd (omega arith)

not_some : ◌≡◌ {A = Bool} false true → ⊥
not_some e = absurd (cc)

at_page : (page : ℕ) → (page ≡ 1) ⊎ (page ≡ 2) → IsSome (two_pages page)
at_page page (inl e) = subst (λ n. IsSome (two_pages n)) (sym e) refl
at_page page (inr e) = subst (λ n. IsSome (two_pages n)) (sym e) refl

across : HasPages two_pages 32767 2
across k within = at_page (k / 16384) (let low : 32767 ≤ k = within.0 in let high : k < 32769 = within.1 in one_of k low high)
  where
    one_of : (k : ℕ) → 32767 ≤ k → k < 32769 → (k / 16384 ≡ 1) ⊎ (k / 16384 ≡ 2)
    one_of k low high = elim (cases_lt k 32768) [
      | inl lt ↦ inl (let e : k / 16384 ≡ 1 = omega arith in e)
      | inr ge ↦ inr (let e : k / 16384 ≡ 2 = omega arith in e)
    ]

past_end : InRange 49151 2 49152
past_end = let low : 49151 ≤ 49152 = omega arith in let high : 49152 < 49153 = omega arith in (low, high)

pub returns : goal.returns
returns c = record {
  between = between;
  none_between = none_between;
  not_third = λ has. let low : 1 ≤ 3 = omega arith in let high : 3 < 4 = omega arith in not_some (has 3 low high);
  not_first = λ has. let low : 0 ≤ 0 = omega arith in let high : 0 < 3 = omega arith in not_some (has 0 low high);
  across = across;
  past = λ has. not_some (has 49152 past_end);
}
