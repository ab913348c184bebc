use Rattle.std.proofs.Common.{◌≡◌, ℕ, false, [], ◌∷◌, refl, sym, ◌∙◌, inl, zero, suc, subst, true≢false}
use Rattle.std.proofs.lemmas.Option.{none-some, same_Some}
use Rattle.h2_ref.specs.declared.reference.Ref.{Ref}
use Rattle.h2_set.specs.Ranges.{holds, NoneHolds}
use Rattle.h2_set.specs.Forest.{done, one, nowhere, here, IsRootOf}
use Rattle.h2_worked_rows.specs.Refs.{fifth_leaf}
use Rattle.h2_worked_rows.specs.Trees.{two_roots}
use Rattle.h2_worked_rows.proofs.Roots.{none_sixth, fifth_is, fifth_root}
use Rattle.h2_worked_rows.proofs.trees.worked_roots_law.Goals as goal

none_holds : NoneHolds 6 (fifth_leaf ∷ [])
none_holds zero r e = subst (λ (q : Ref). holds 6 q ≡ false) (same_Some fifth_leaf r e) refl
none_holds (suc i) r e = absurd (none-some r e)

-- a root that a leaf names is root 1
named_one : (top key c : ℕ) → IsRootOf two_roots top key c → c ≡ 1
named_one top key c is = (fifth_is c top key ((is.belongs top key).1 (inl (refl, refl)))).0

pub returns : goal.returns
returns c = record {
  leaves = one refl done;
  reaches = here 0 refl refl refl;
  nowhere = nowhere none_holds;
  root = fifth_root;
  not_sixth = λ is. none_sixth 1 ((is.belongs 0 6).1 (inl (refl, refl)));
  not_itself = λ is. true≢false (sym ((is.belongs 0 5).1 (inl (refl, refl))));
  of_inode = record { inode = 1; named = fifth_root; within = inl refl };
  unloaded = λ d is. none_sixth d ((is.belongs 0 6).1 (inl (refl, refl)));
  not_unloaded = λ none. none 1 fifth_root;
  bare = λ d stands root belongs. none_sixth d belongs;
  not_bare = λ none. none 1 refl refl refl;
  one = λ top key d e left right. named_one top key e right ∙ sym (named_one top key d left);
}
