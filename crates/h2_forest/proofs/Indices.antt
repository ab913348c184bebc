-- Clients that a lawful history doesn't have.
use Rattle.std.specs.Prelude.{◌≡◌, ◌⊎◌, ℕ, suc, ◌<◌, ◌≤◌, List, [], ◌∷◌, All, Some, None, cond, refl}
use Rattle.std.proofs.Common.{ap, sym, subst, arith, inl, inr}
use Rattle.std.proofs.lemmas.Bool.{ne_eqb, cases_lt}
use Rattle.h2_command.specs.Lawful.{IsLawfulItem}
use Rattle.h2_command.specs.declared.history.Item.{Item}
use Rattle.h2_command.specs.declared.history.Item.TheVariants.{Call, Mark as Marked}
use Rattle.h2_forest.specs.History.{Each, index_of, IsCounted, counted, CountsUp}

no_index : (client : ℕ) (x : Item) → 8 ≤ client → IsLawfulItem x → index_of client x ≡ None
no_index client (Call e) ge lawful = ap (λ b. cond b (Some e.index) None) (ne_eqb e.client client (λ is. absurd (below e.client client lawful.0 ge is)))
  where
    below : (n client : ℕ) → n < 8 → 8 ≤ client → n ≡ client → ⊥
    below n client lt ge is = omega arith
no_index client (Marked m) ge lawful = refl

rest : (x : Item) (h : List Item) → All IsLawfulItem (x ∷ h) → All IsLawfulItem h
rest x h all k d lt = all (suc k) d (omega arith)

none_counted : (client next : ℕ) (h : List Item) → 8 ≤ client → All IsLawfulItem h → Each (λ next x. IsCounted next (index_of client x)) (λ next x. counted next (index_of client x)) next h
none_counted client next [] ge all = tt
none_counted client next (x ∷ h) ge all =
    (subst (IsCounted next) (sym (no_index client x ge (all 0 x (omega arith)))) tt, none_counted client (counted next (index_of client x)) h ge (rest x h all))

-- all clients count up where those below a number do that is 8 or more
pub all_count_up : (h : List Item) (n : ℕ) → All IsLawfulItem h → 8 ≤ n → ((client : ℕ) → client < n → CountsUp client h) → (client : ℕ) → CountsUp client h
all_count_up h n all ge few client = by (cases_lt client n)
  where
    by : ((client < n) ⊎ (n ≤ client)) → CountsUp client h
    by (inl lt) = few client lt
    by (inr from) = none_counted client 0 h (omega arith) all
