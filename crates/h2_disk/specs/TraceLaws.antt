-- Laws of traces.
use Rattle.std.specs.Prelude.{◌≡◌, ◌≤◌, ℕ, nat_le, true, refl}
use Rattle.std.proofs.Common.{arith}
use Rattle.std.proofs.lemmas.Bool.{le-leb}
use Rattle.h2_num.specs.Places.{Places}
use Rattle.h2_disk.specs.Trace.{Trace, Opened, Wrote, Synced, latest, up_to}

-- where nothing was done, all of it was done by each moment
pub latest-opened : (image : Places) (moment : ℕ) → latest (Opened image) ≤ moment
latest-opened image moment = omega arith

-- from the moment by which all of it was done, all of it went on
pub up_to-all : (t : Trace) (m : ℕ) → latest t ≤ m → up_to m t ≡ t
up_to-all (Opened image) m le = refl
up_to-all (Wrote began at bytes t) m le = let test : nat_le began m ≡ true = le-leb began m (omega arith) in rw test refl
up_to-all (Synced done image t) m le = let test : nat_le done m ≡ true = le-leb done m (omega arith) in rw test refl
