-- What holds whatever was answered, and what is kept beside sets.
use Rattle.std.proofs.Common.{◌≡◌, ℕ, ◌∙◌, refl, true, Result, Ok, Err}
use Rattle.std.specs.Prelude.{OnErr}
use Rattle.h2_set.specs.Forest.{Forest}
use Rattle.h2_set.specs.Calls.{KeepsBeside}

-- what holds whatever was answered holds where there was an error
pub always_err : {T E P : Type 0} (r : Result T E) → P → OnErr r P
always_err (Ok o) p = tt
always_err (Err e) p = p

-- nothing changed
pub beside_same : {B : Type 0} (f : Forest) (a : ℕ → B) → KeepsBeside f f a a
beside_same f a = record { same = λ m st st'. refl }

-- two changes, of which the first loses no node
pub beside_on : {B : Type 0} (f g h : Forest) (a b c : ℕ → B) → ((m : ℕ) → f.stands m ≡ true → g.stands m ≡ true) → KeepsBeside f g a b → KeepsBeside g h b c → KeepsBeside f h a c
beside_on f g h a b c still first second = record { same = λ m st st'. let there = still m st in second.same m there st' ∙ first.same m st there }
