-- Other trees over a change of the list of PFSs.
use Rattle.std.proofs.Common.{◌≡◌, ℕ, true, refl, subst, inl, List, Some}
use Rattle.h2_ref.specs.declared.reference.Ref.{Ref}
use Rattle.h2_inode.specs.Loaded.{View, TellsOn}
use Rattle.h2_inode.specs.Others.{KeepsTrees}
use Rattle.h2_pfs.specs.Others.{BelongsToNone, KeepsOtherTrees, IsOtherRoot}
use Rattle.h2_pfs.proofs.Apart.{named_left}

-- they are kept, and name no others
pub others_kept : (u v : View) (top key : ℕ) → BelongsToNone u.forest top → KeepsOtherTrees u v top (λ c. u.forest.belongs c top key ≡ true) → TellsOn u v → ((r : Ref) (name : List ℕ) → u.forest.name r ≡ Some name → v.forest.name r ≡ Some name) → KeepsTrees u v (IsOtherRoot u.forest top key)
others_kept u v top key none keeps told names = record {
  trees = λ c is. keeps none c is.stands is.root is.other is.stays;
  closed = λ m k d is named. record {
    stands = named.stands;
    root = named.root;
    other = λ e. none m k (subst (λ z. u.forest.belongs z m k ≡ true) e ((named.belongs m k).1 (inl (refl, refl))));
    stays = named_left u.forest top key m k d is.other is.stays named;
  };
  told = told;
  name = names;
}
