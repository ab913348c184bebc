use Rattle.std.specs.Prelude.{◌≡◌, Some}
use Rattle.h2_inode.specs.OthersLaws.{kept_follow}
use Rattle.h2_pfs.specs.Others.{IsOtherRoot}
use Rattle.h2_pfs.proofs.Followed.{others_kept}
use Rattle.h2_pfs.proofs.laws.others_law.Goals as goal

pub returns : goal.returns
returns c = record {
  kept = λ u v top key none keeps told names. others_kept u v top key none keeps told names;
  follows = λ u v top key block none keeps told names. kept_follow u v (IsOtherRoot u.forest top key) (others_kept u v top key none keeps told names) (λ r b. block r ≡ Some b);
}
