use Rattle.std.proofs.Common.{◌≡◌, ◌<◌, ℕ, arith, refl}
use Rattle.h2_checkpoint.specs.Format.{IsNewest, HasNoHeader}
use Rattle.h2_checkpoint.specs.Checkpoint.{Lands}
use Rattle.h2_checkpoint.specs.Toy.{toy}
use Rattle.h2_crash_rows.specs.Mounts.{first_header, image_made, made}
use Rattle.h2_crash_rows.proofs.landings.worked_landings_law.Goals as goal

lands_made : IsNewest toy image_made first_header → Lands toy made image_made
lands_made newest = record { newest = newest; stands = refl; same = λ k reached. refl }

eight_not_seven : ◌≡◌ {A = ℕ} 8 7 → ⊥
eight_not_seven e = absurd (omega arith)

zero_not_one : ◌≡◌ {A = ℕ} 0 1 → ⊥
zero_not_one e = absurd (omega arith)

has_header : IsNewest toy image_made first_header → HasNoHeader toy image_made → ⊥
has_header newest none = let lt : 0 < 4 = omega arith in none 0 first_header lt newest.here

pub returns : goal.returns
returns c = record {
  lands = lands_made c.worked_mounts_law.ensures.newest;
  on_completed = lands_made c.worked_mounts_law.ensures.newest;
  on_blank = c.worked_mounts_law.ensures.none;
  other_block = λ l. eight_not_seven l.stands;
  no_header = λ l. zero_not_one l.newest.here.number_is;
  not_blank = has_header c.worked_mounts_law.ensures.newest;
}
