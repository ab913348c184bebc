-- How many names of entries have a property.
use Rattle.std.specs.Prelude.{◌≡◌, ◌≢◌, ◌⊎◌, ℕ, zero, suc, List, refl}
use Rattle.std.specs.Cmp.{nat_cmp_total}
use Rattle.std.specs.Cmp.Lexicographic.{nat_list_cmp_total}
use Rattle.std.specs.FinMap.{nat_cmp-IsAntisymmetric, slice_cmp-IsAntisymmetric}
use Rattle.std.proofs.Common.{ap, sym, ◌∙◌, subst, inl, inr}
use Rattle.h2_consistent.proofs.Entries.{EntryName, Exactly}
use Rattle.h2_consistent.proofs.Lookups.{same_key}

-- two numbers are one or not, and so are two names of entries
pub same_number : (x y : ℕ) → (x ≡ y) ⊎ (x ≢ y)
same_number x y = same_key nat_cmp_total nat_cmp-IsAntisymmetric x y

pub same_name : (x y : List ℕ) → (x ≡ y) ⊎ (x ≢ y)
same_name x y = same_key nat_list_cmp_total (slice_cmp-IsAntisymmetric nat_cmp-IsAntisymmetric) x y

pub pair_of : (a c : ℕ) (b d : List ℕ) → a ≡ c → b ≡ d → ◌≡◌ {A = EntryName} (a, b) (c, d)
pair_of a c b d e g = ap (λ n. (n, b)) e ∙ ap (λ m. (c, m)) g

pub same_entry : (x y : EntryName) → (x ≡ y) ⊎ (x ≢ y)
same_entry x y = by (same_number x.0 y.0) (same_name x.1 y.1)
  where
    by : ((x.0 ≡ y.0) ⊎ (x.0 ≢ y.0)) → ((x.1 ≡ y.1) ⊎ (x.1 ≢ y.1)) → (x ≡ y) ⊎ (x ≢ y)
    by (inl e) (inl g) = inl (pair_of x.0 y.0 x.1 y.1 e g)
    by (inl e) (inr g) = inr (λ s. g (ap (λ (w : EntryName). w.1) s))
    by (inr e) d = inr (λ s. e (ap (λ (w : EntryName). w.0) s))

-- a property in other words
pub exactly_same : (k : ℕ) (P Q : EntryName → Type 0) → ((x : EntryName) → P x → Q x) → ((x : EntryName) → Q x → P x) → Exactly k P → Exactly k Q
exactly_same zero P Q to from h = λ x q. h x (from x q)
exactly_same (suc k) P Q to from h =
    (h.0, (to h.0 h.1.0, exactly_same k (λ y. P y × (y ≢ h.0)) (λ y. Q y × (y ≢ h.0)) (λ y p. (to y p.0, p.1)) (λ y q. (from y q.0, q.1)) h.1.1))

-- one more name has it
pub exactly_more : (k : ℕ) (P Q : EntryName → Type 0) (x : EntryName) → (P x → ⊥) → Q x → ((y : EntryName) → y ≢ x → P y → Q y) → ((y : EntryName) → y ≢ x → Q y → P y) → Exactly k P → Exactly (suc k) Q
exactly_more k P Q x not is to from h =
    (x, (is, exactly_same k P (λ y. Q y × (y ≢ x)) (λ y p. let apart : y ≢ x = (λ e. not (subst P e p)) in (to y apart p, apart)) (λ y q. from y q.1 q.0) h))

-- one of those that have it is left out
pub exactly_fewer : (k : ℕ) (P : EntryName → Type 0) (x : EntryName) → P x → Exactly k P → (j : ℕ) × ((k ≡ suc j) × Exactly j (λ y. P y × (y ≢ x)))
exactly_fewer zero P x p h = absurd (h x p)
exactly_fewer (suc k) P x p h = by (same_entry x h.0) (exactly_fewer k (λ y. P y × (y ≢ h.0)) x)
  where
    by : ((x ≡ h.0) ⊎ (x ≢ h.0)) → (P x × (x ≢ h.0) → Exactly k (λ y. P y × (y ≢ h.0)) → (j : ℕ) × ((k ≡ suc j) × Exactly j (λ y. (P y × (y ≢ h.0)) × (y ≢ x)))) → (j : ℕ) × ((suc k ≡ suc j) × Exactly j (λ y. P y × (y ≢ x)))
    by (inl e) later = (k, (refl, subst (λ (w : EntryName). Exactly k (λ y. P y × (y ≢ w))) (sym e) h.1.1))
    by (inr d) later =
        let rest = later (p, d) h.1.1 in (
          suc rest.0,
          (
            ap suc rest.1.0,
            (h.0, ((h.1.0, λ e. d (sym e)), exactly_same rest.0 (λ y. (P y × (y ≢ h.0)) × (y ≢ x)) (λ y. (P y × (y ≢ x)) × (y ≢ h.0)) (λ y a. ((a.0.0, a.1), a.0.1)) (λ y a. ((a.0.0, a.1), a.0.1)) rest.1.1)),
          ),
        )

-- one name fewer has it
pub exactly_less : (k : ℕ) (P Q : EntryName → Type 0) (x : EntryName) → P x → (Q x → ⊥) → ((y : EntryName) → y ≢ x → P y → Q y) → ((y : EntryName) → y ≢ x → Q y → P y) → Exactly k P → (j : ℕ) × ((k ≡ suc j) × Exactly j Q)
exactly_less k P Q x p not to from h =
    let rest = exactly_fewer k P x p h in
    (rest.0, (rest.1.0, exactly_same rest.0 (λ y. P y × (y ≢ x)) Q (λ y a. to y a.1 a.0) (λ y q. let apart : y ≢ x = (λ e. not (subst Q e q)) in (from y apart q, apart)) rest.1.1))

-- no two numbers of names are right
pub exactly_once : (j k : ℕ) (P : EntryName → Type 0) → Exactly j P → Exactly k P → j ≡ k
exactly_once zero zero P a b = refl
exactly_once zero (suc k) P a b = absurd (a b.0 b.1.0)
exactly_once (suc j) k P a b =
    let rest = exactly_fewer k P a.0 a.1.0 b in
    ap suc (exactly_once j rest.0 (λ y. P y × (y ≢ a.0)) a.1.1 rest.1.1) ∙ sym rest.1.0
