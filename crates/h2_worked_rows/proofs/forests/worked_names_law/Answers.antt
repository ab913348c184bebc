use Rattle.std.proofs.Common.{◌≡◌, ◌≢◌, ◌≤◌, ◌<◌, ℕ, List, [], ◌∷◌, Bool, true, false, IsSome, arith, ap, sym, subst, inl, inr, refl, get_or}
use Rattle.std.specs.Ordering.{nat_cmp, eq_by_cmp}
use Rattle.std.specs.FinMap.{empty, get-empty}
use Rattle.h2_dirkey.specs.PfsName.{IsPfsNameByte, IsPfsName}
use Rattle.h2_command.specs.declared.command.Command.TheVariants.{PfsCreate}
use Rattle.h2_command.specs.Lawful.{Lawful}
use Rattle.h2_forest.specs.declared.pfs.Pfs.{Pfs}
use Rattle.h2_forest.specs.Ids.{IsBelowNext}
use Rattle.h2_worked_rows.specs.Forests.{pfs_of, one_file}
use Rattle.h2_worked_rows.proofs.Lists.{all_one, all_two, pair_of_two}
use Rattle.h2_worked_rows.proofs.Maps.{equal_number, file_if, file_at, not_some}
use Rattle.h2_worked_rows.proofs.forests.worked_names_law.Goals as goal

a_not_b : ◌≡◌ {A = List ℕ} (97 ∷ []) (98 ∷ []) → ⊥
a_not_b e = absurd (let is : 97 ≡ 98 = ap (λ (l : List ℕ). get_or l 0 0) e in omega arith)

name_a : IsPfsNameByte 97
name_a = let low : 97 ≤ 97 = omega arith in let high : 97 ≤ 122 = omega arith in inr (inr (inl (low, high)))

name_nine : IsPfsNameByte 57
name_nine = let low : 48 ≤ 57 = omega arith in let high : 57 ≤ 57 = omega arith in inl (low, high)

named : (byte : ℕ) → IsPfsNameByte byte → IsPfsName (byte ∷ [])
named byte good = record { some = let one : 1 ≤ 1 = omega arith in one; few = let few : 1 ≤ 64 = omega arith in few; bytes = all_one IsPfsNameByte byte good }

no_slash : IsPfsNameByte 47 → ⊥
no_slash (inl digit) = absurd (let low : 48 ≤ 47 = digit.0 in omega arith)
no_slash (inr (inl capital)) = absurd (let low : 65 ≤ 47 = capital.0 in omega arith)
no_slash (inr (inr (inl small))) = absurd (let low : 97 ≤ 47 = small.0 in omega arith)
no_slash (inr (inr (inr (inl e)))) = absurd (let is : 47 ≡ 46 = e in omega arith)
no_slash (inr (inr (inr (inr (inl e))))) = absurd (let is : 47 ≡ 95 = e in omega arith)
no_slash (inr (inr (inr (inr (inr e))))) = absurd (let is : 47 ≡ 45 = e in omega arith)

two_below : (n : ℕ) (b : Bool) → eq_by_cmp nat_cmp n 2 ≡ b → IsSome (file_if 1 b) → n < 3
two_below n true e is = let same : n ≡ 2 = equal_number n 2 e in omega arith
two_below n false e is = absurd (not_some is)

below : IsBelowNext (pfs_of 1 97 3 (one_file 1))
below n is = two_below n (eq_by_cmp nat_cmp n 2) refl (subst IsSome (file_at 1 n) is)

pub returns : goal.returns
returns c = record {
  ascend = (let low : 0 ≤ 1 = omega arith in low, (let next : 2 ≤ 4 = omega arith in next, let end : 5 ≤ 5 = omega arith in end));
  next_taken = λ a. absurd (let le : 5 ≤ 4 = a.1.1 in omega arith);
  turned = λ a. absurd (let le : 5 ≤ 1 = a.1.0 in omega arith);
  differ = pair_of_two (λ (p q : Pfs). p.name ≢ q.name) (pfs_of 1 97 3 empty) (pfs_of 4 98 3 empty) a_not_b;
  same_name = λ d. let less : 0 < 1 = omega arith in let lt : 1 < 2 = omega arith in d 0 1 (pfs_of 1 97 3 empty) less lt refl;
  good = all_two (λ (p : Pfs). Lawful (PfsCreate p.name)) (pfs_of 1 97 3 empty) (pfs_of 4 57 3 empty) (named 97 name_a) (named 57 name_nine);
  slash = λ all. let lt : 1 < 2 = omega arith in let one : 0 < 1 = omega arith in no_slash ((all 1 (pfs_of 4 47 3 empty) lt).bytes 0 0 one);
  below = all_one IsBelowNext (pfs_of 1 97 3 (one_file 1)) below;
  not_below = λ all. let lt : 0 < 1 = omega arith in let no : 2 < 2 = all 0 (pfs_of 1 97 2 (one_file 1)) lt 2 (subst IsSome (sym (file_at 1 2)) refl) in absurd (omega arith);
  below_alone = λ n is. absurd (not_some (subst IsSome (get-empty nat_cmp n) is));
}
