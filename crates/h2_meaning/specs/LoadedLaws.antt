-- Tables and forests of loaded nodes: they stand over loads, over changes of other trees, and where more contents are told.
use Rattle.std.specs.Prelude.{◌≡◌, ℕ, true, refl}
use Rattle.h2_num.specs.Places.{Places}
use Rattle.h2_ref.specs.declared.reference.Ref.{Ref}
use Rattle.h2_forest.specs.Table.{Table}
use Rattle.h2_forest.specs.Forest.{PlainForest}
use Rattle.h2_inode.specs.Loaded.{at_root, View, reading, StandsAlike, as_before, by_load, over_loads}
use Rattle.h2_inode.specs.LoadedLaws.{rereads_follow}
use Rattle.h2_meaning.specs.Forest.{IsTable, IsForest}
use Rattle.h2_meaning.specs.CarryLaws.{table_carried, forest_carried}

pub table_alike : {u v : View} (Content : Ref → Places → Type 0) → StandsAlike u v → (at next : ℕ) (table : Table) → u.forest.stands at ≡ true
    → IsTable (reading u Content) (at_root at) next table → IsTable (reading v Content) (at_root at) next table
table_alike Content as_before at next table stands is = is
table_alike {u} Content (by_load {v = w} h a) at next table stands is =
    table_alike Content a at next table (h.stands at stands) (table_carried (over_loads u w Content) (rereads_follow u w h Content) (at_root at) (at_root at) next table (refl, stands) is)

pub forest_alike : {u v : View} (Content : Ref → Places → Type 0) → StandsAlike u v → (at next : ℕ) (forest : PlainForest) → u.forest.stands at ≡ true
    → IsForest (reading u Content) (at_root at) next forest → IsForest (reading v Content) (at_root at) next forest
forest_alike Content as_before at next forest stands is = is
forest_alike {u} Content (by_load {v = w} h a) at next forest stands is =
    forest_alike Content a at next forest (h.stands at stands) (forest_carried (over_loads u w Content) (rereads_follow u w h Content) (at_root at) (at_root at) next forest (refl, stands) is)
