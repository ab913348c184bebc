use Rattle.std.proofs.Common.{◌≡◌, true}
use Rattle.h2_set.specs.LeafLaws.{reaches_find}
use Rattle.h2_set.specs.StayLaws.{Reaches-walks, Same-Stays, Walks-leaves}
use Rattle.h2_set.specs.EditPathLaws.{makes_path, stored_path}
use Rattle.h2_set.specs.PathLaws.{reaches_one, reaches_through, alters_path, alters_paths}
use Rattle.h2_set.proofs.laws.path_law.Goals as goal

pub returns : goal.returns
returns c = record {
  one = λ f key at o p sound stands a b. reaches_one sound stands a b;
  found = λ f key at o l sound stands reached leaves. reaches_find sound reached stands l leaves;
  kept = λ f g at sound walks stands. Walks-leaves f g sound walks at stands;
  walked = λ f g key at o sound walks stands reached. Reaches-walks sound walks stands reached;
  altered = λ f g key at m o sound alters stands reached. alters_paths sound alters stands reached;
  tree = λ f g key at m o sound alters stands root reached. alters_path sound alters stands root reached;
  through = λ f key top at i r o sound own stands root read in_r path. reaches_through f key top o sound own path at i r stands root read in_r;
  made = λ f g at c leaf set s sound stands made makes key m o st out reached. makes_path f g at c leaf set s sound stands made makes key m o st out reached;
  stored = λ f g key at s p sound stores stands closed same m o keeps none st reached. stored_path f g key at sound (λ n. p n ≡ true) stands closed (λ n q ne. Same-Stays f g n (same n q ne)) s stores.set stores.link keeps none st reached;
}
