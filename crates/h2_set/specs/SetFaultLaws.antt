-- Bytes that meet a refusal are those of no set, and they meet one refusal at most.
use Rattle.std.specs.Prelude.{◌≡◌, ◌⊎◌, ◌<◌, ◌≤◌, ℕ, ◌*◌, List, Some, refl}
use Rattle.std.proofs.Common.{ap, sym, ◌∙◌, arith, inl, inr}
use Rattle.std.proofs.lemmas.Bool.{cases_lt}
use Rattle.std.proofs.lemmas.Option.{none-some, same_Some}
use Rattle.h2_num.specs.Places.{Places}
use Rattle.h2_ref.specs.declared.faults.RefFault.{RefFault}
use Rattle.h2_ref.specs.declared.reference.Ref.{Ref}
use Rattle.h2_ref.specs.Fault.{first_fault}
use Rattle.h2_set.specs.declared.set_decoding.SetFault.{SetFault}
use Rattle.h2_set.specs.declared.set_decoding.SetFault.TheVariants.{Reference, Shape}
use Rattle.h2_set.specs.SetBytes.{slot, IsSetAt, AreRefs, IsRefused, IsFaultOf}
use Rattle.h2_set.specs.SetBytesLaws.{set_decoded}

-- where a set stands there is no fault of one
pub no_set_fault : (n : ℕ) (refs : List Ref) (b : Places) (fault : SetFault) → IsSetAt n refs b → IsFaultOf n b fault → ⊥
no_set_fault n refs b (Reference at fault) set (j, lt, refused, decoded) = none-some fault (sym (set_decoded n refs b set.held set.bytes j lt) ∙ refused.1)
no_set_fault n refs b Shape set (decoded, nothing) = nothing refs set

-- where all before a place are decoded, none of them is refused
not_before : (b : Places) (i j : ℕ) (f : RefFault) → i < j → AreRefs j b → first_fault (slot b i) ≡ Some f → ⊥
not_before b i j f lt decoded refused = none-some f (sym (decoded i lt) ∙ refused)

-- the first refusal of a reference is one
pub refused_one : (n : ℕ) (b : Places) (at by : ℕ) (f g : RefFault) → IsRefused n b (Reference at f) → IsRefused n b (Reference by g) → (by ≡ at) × (g ≡ f)
refused_one n b at by f g (i, lt, is, decoded) (j, below, there, before) = pick (cases_lt i j) (cases_lt j i)
  where
    equal : i ≡ j → (by ≡ at) × (g ≡ f)
    equal e = (there.0 ∙ ap (λ k. 128 * k) (sym e) ∙ sym is.0, same_Some g f (sym there.1 ∙ ap (λ k. first_fault (slot b k)) (sym e) ∙ is.1))

    pick : (i < j) ⊎ (j ≤ i) → (j < i) ⊎ (i ≤ j) → (by ≡ at) × (g ≡ f)
    pick (inl less) c = absurd (not_before b i j f less before is.1)
    pick (inr le) (inl less) = absurd (not_before b j i g less decoded there.1)
    pick (inr le) (inr ge) = equal (omega arith)

-- where all are decoded, none is refused
pub none_refused : (n : ℕ) (b : Places) (at : ℕ) (f : RefFault) → AreRefs n b → IsRefused n b (Reference at f) → ⊥
none_refused n b at f all (i, lt, is, decoded) = not_before b i n f lt all is.1

-- bytes meet one refusal at most
pub set_fault_one : (n : ℕ) (b : Places) (f g : SetFault) → IsFaultOf n b f → IsFaultOf n b g → g ≡ f
set_fault_one n b (Reference at f) (Reference by g) h k = let e = refused_one n b at by f g h k in ap (λ x. Reference x g) e.0 ∙ ap (Reference at) e.1
set_fault_one n b (Reference at f) Shape h k = absurd (none_refused n b at f k.0 h)
set_fault_one n b Shape (Reference by g) h k = absurd (none_refused n b by g h.0 k)
set_fault_one n b Shape Shape h k = refl
