-- Whether a set may hold a reference as a test, for models that need a Bool, and that it is the same as the fact.
use Rattle.std.specs.Prelude.{◌≡◌, ◌↔◌, Bool, true, false, ◌&&◌, not, ◌==◌, refl}
use Rattle.std.proofs.Common.{ap, sym, ◌∙◌, inl, inr}
use Rattle.std.proofs.lemmas.Bool.{cases_Bool, and_parts, and_from, eqb-true, false≢true}
use Rattle.h2_ref.specs.declared.reference.Kind.{Kind}
use Rattle.h2_ref.specs.declared.reference.Kind.TheVariants.{Empty}
use Rattle.h2_ref.specs.declared.reference.Ref.{Ref}
use Rattle.h2_ref.specs.Ref.{kind_number}
use Rattle.h2_ref.specs.ValidTest.{passes_as_valid, valid-tested}
use Rattle.h2_set.specs.SetBytes.{IsHeld}
use Rattle.h2_set.specs.ValidLaws.{number_zero}

-- the kind names something: its number isn't that of Empty
abbrev pub names_something : Kind → Bool
names_something kind = not (kind_number kind == kind_number Empty)

-- a set may hold the reference
abbrev pub passes_as_held : Ref → Bool
passes_as_held r = passes_as_valid r && names_something r.kind

something-fact : (k : Kind) → names_something k ≡ true → k ≡ Empty → ⊥
something-fact k e is = false≢true (ap names_something (sym is) ∙ e)

something-test : (k : Kind) → (k ≡ Empty → ⊥) → names_something k ≡ true
something-test k isnt = elim (cases_Bool (kind_number k == kind_number Empty)) [
  | inl is ↦ absurd (isnt (number_zero k (eqb-true (kind_number k) (kind_number Empty) is)))
  | inr other ↦ ap not other
]

held-fact : (r : Ref) → passes_as_held r ≡ true → IsHeld r
held-fact r e = let p = and_parts (passes_as_valid r) (names_something r.kind) e in record { valid = (valid-tested r).0 p.0; something = something-fact r.kind p.1 }

held-test : (r : Ref) → IsHeld r → passes_as_held r ≡ true
held-test r h = and_from (passes_as_valid r) (names_something r.kind) ((valid-tested r).1 h.valid) (something-test r.kind h.something)

-- a reference passes exactly where a set may hold it
pub held-tested : (r : Ref) → (passes_as_held r ≡ true) ↔ IsHeld r
held-tested r = (held-fact r, held-test r)

-- what answers the fact answers the test
pub held-decided : (r : Ref) (b : Bool) → ((b ≡ true) ↔ IsHeld r) → b ≡ passes_as_held r
held-decided r true h = sym (held-test r (h.0 refl))
held-decided r false h = elim (cases_Bool (passes_as_held r)) [ inl e ↦ h.1 (held-fact r e) ∙ sym e | inr e ↦ sym e ]
