-- What stands beside the members of a list is in the map that is made of it, and the other way round; so a name is in a directory
-- exactly where a leaf has it.
use Rattle.std.specs.Prelude.{◌≡◌, ◌≢◌, ◌<◌, ℕ, zero, suc, Bool, true, false, cond, List, [], ◌∷◌, length, slice_index_or, All, AllPairs, Contains, Some, refl}
use Rattle.std.proofs.Common.{ap, sym, ◌∙◌, arith, inl, inr, subst}
use Rattle.std.proofs.lemmas.Option.{none-some, same_Some}
use Rattle.std.proofs.lemmas.Bool.{cases_Bool}
use Rattle.std.proofs.lemmas.List.Elements.{All-contains}
use Rattle.std.specs.declared.cmp.Ordering.{Ordering}
use Rattle.std.specs.Ordering.{eq_by_cmp, nat_cmp}
use Rattle.std.specs.Cmp.{IsTotalOrder, eq_by_cmp_equiv, Equal-is}
use Rattle.std.specs.Cmp.Lexicographic.{slice_cmp, nat_list_cmp_total}
use Rattle.std.specs.FinMap.{IsAntisymmetric, nat_cmp-IsAntisymmetric, slice_cmp-IsAntisymmetric, find, get, from_entries, get-from_entries}
use Rattle.h2_ref.specs.declared.reference.Ref.{Ref}
use Rattle.h2_inode.specs.Access.{Access, OneByOne}
use Rattle.h2_inode.specs.Directory.{Entries, IsEntry, IsDirectory}
use Rattle.h2_inode.specs.ListLaws.{behind, all_none, all_cons}

partner_at : {X Y : Type 0} (P : X → Y → Type 0) (xs : List X) (ys : List Y) → OneByOne P xs ys → (x : X) (k : ℕ) → k < length xs → slice_index_or xs k x ≡ x → (y : Y) × Contains ys y × P x y
partner_at P [] [] p x k lt e = absurd (omega (arith, lt))
partner_at P [] (y ∷ ys) p x k lt e = absurd p
partner_at P (z ∷ xs) [] p x k lt e = absurd p
partner_at P (z ∷ xs) (y ∷ ys) p x zero lt e = (y, (0, omega arith, refl), subst (λ v. P v y) e p.0)
partner_at P (z ∷ xs) (y ∷ ys) p x (suc k) lt e = let h = partner_at P xs ys p.1 x k (omega (arith, lt)) e in (h.0, behind y ys h.0 h.1, h.2)

-- different keys are no equal ones
apart : {K : Type 0} (R : K → K → Ordering) → IsAntisymmetric R → (q k : K) → (k ≢ q) → eq_by_cmp R q k ≡ false
apart R same q k ne = elim (cases_Bool (eq_by_cmp R q k)) [ inl tie ↦ absurd (ne (sym (same q k ((Equal-is (R q k)).0 tie)))) | inr e ↦ e ]

module _ {K V : Type 0} {R : K → K → Ordering} (o : IsTotalOrder R) (same : IsAntisymmetric R) where
  -- where the keys differ, each entry is found
  each_found : (es : List (K × V)) → AllPairs (λ (x y : K × V). x.0 ≢ y.0) es → All (λ (e : K × V). find R e.0 es ≡ Some e.1) es
  each_found [] differ = all_none (λ (e : K × V). find R e.0 [] ≡ Some e.1)
  each_found (x ∷ es) differ =
      let rest = each_found es (λ i j d lt len. differ (suc i) (suc j) d (omega (arith, lt)) (omega (arith, len))) in
      all_cons (λ (e : K × V). find R e.0 (x ∷ es) ≡ Some e.1) x es (ap (λ b. cond b (Some x.1) (find R x.0 es)) ((eq_by_cmp_equiv o).refl x.0))
      (λ k d lt. ap (λ b. cond b (Some x.1) (find R (slice_index_or es k d).0 es)) (apart R same (slice_index_or es k d).0 x.0 (differ 0 (suc k) d (omega arith) (omega (arith, lt)))) ∙ rest k d lt)

module _ {K V : Type 0} {R : K → K → Ordering} (o : IsTotalOrder R) (same : IsAntisymmetric R) {X : Type 0} where
  partner_first : (P : X → K × V → Type 0) (r : X) (l : List X) (y : K × V) (es : List (K × V)) (q : K) (v : V) → P r y
      → (find R q es ≡ Some v → (s : X) × Contains l s × P s (q, v)) → (b : Bool) → eq_by_cmp R q y.0 ≡ b → cond b (Some y.1) (find R q es) ≡ Some v → (s : X) × Contains (r ∷ l) s × P s (q, v)
  partner_first P r l y es q v here later true h e =
      let key : q ≡ y.0 = same q y.0 ((Equal-is (R q y.0)).0 h) in
      let value : y.1 ≡ v = same_Some y.1 v e in
      let pair : y ≡ (q, v) = λ i. (sym key i, value i) in
      (r, (0, omega arith, refl), subst (λ w. P r w) pair here)
  partner_first P r l y es q v here later false h e = let s = later e in (s.0, behind r l s.0 s.1, s.2)

  -- what is found stands beside a member
  partner_found : (P : X → K × V → Type 0) (l : List X) (es : List (K × V)) → OneByOne P l es → (q : K) (v : V) → find R q es ≡ Some v → (s : X) × Contains l s × P s (q, v)
  partner_found P [] [] p q v e = absurd (none-some v e)
  partner_found P [] (y ∷ es) p q v e = absurd p
  partner_found P (r ∷ l) [] p q v e = absurd p
  partner_found P (r ∷ l) (y ∷ es) p q v e = partner_first P r l y es q v p.0 (partner_found P l es p.1 q v) (eq_by_cmp R q y.0) refl e

  -- what is beside a member is in the map
  pub held_in : (P : X → K × V → Type 0) (l : List X) (es : List (K × V)) → OneByOne P l es → AllPairs (λ (x y : K × V). x.0 ≢ y.0) es → (r : X) → Contains l r
      → (e : K × V) × P r e × (get (from_entries {R = R} es) e.0 ≡ Some e.1)
  held_in P l es p differ r h =
      let y = partner_at P l es p r h.0 h.1 h.2 in
      (y.0, y.2, get-from_entries o es (y.0).0 ∙ All-contains (λ (e : K × V). find R e.0 es ≡ Some e.1) es y.0 (each_found o same es differ) y.1)

  -- what is in the map is beside a member
  pub held_by : (P : X → K × V → Type 0) (l : List X) (es : List (K × V)) → OneByOne P l es → (q : K) (v : V) → get (from_entries {R = R} es) q ≡ Some v → (s : X) × Contains l s × P s (q, v)
  held_by P l es p q v e = partner_found P l es p q v (sym (get-from_entries o es q) ∙ e)

-- names have an order in which equal ones are the same
pub exact_names : IsAntisymmetric (slice_cmp nat_cmp)
exact_names = slice_cmp-IsAntisymmetric nat_cmp-IsAntisymmetric

pub names_total : IsTotalOrder (slice_cmp nat_cmp)
names_total = nat_list_cmp_total

pub entry_of_leaf : (a : Access) (T : ℕ → ℕ → Type 0) (t : a.Tree) (size : ℕ) (entries : Entries) (h : IsDirectory a T t size entries) (r : Ref) → Contains h.leaves r
    → (e : List ℕ × ℕ) × IsEntry a T t r e × (get entries e.0 ≡ Some e.1)
entry_of_leaf a T t size entries h r at =
    let g = held_in names_total exact_names (IsEntry a T t) h.leaves h.named h.each h.differ r at in
    (g.0, g.1, ap (λ m. get m (g.0).0) h.entries_are ∙ g.2)

pub leaf_of_entry : (a : Access) (T : ℕ → ℕ → Type 0) (t : a.Tree) (size : ℕ) (entries : Entries) (h : IsDirectory a T t size entries) (name : List ℕ) (number : ℕ) → get entries name ≡ Some number
    → (r : Ref) × Contains h.leaves r × IsEntry a T t r (name, number)
leaf_of_entry a T t size entries h name number e =
    held_by names_total exact_names (IsEntry a T t) h.leaves h.named h.each name number (sym (ap (λ m. get m name) h.entries_are) ∙ e)
