-- What stands in a table with one file, and which handle is open.
use Rattle.std.proofs.Common.{◌≡◌, ◌∙◌, ℕ, Bool, true, false, cond, Option, Some, None, [], ◌∷◌, ap, refl}
use Rattle.std.specs.declared.cmp.Ordering.{Ordering}
use Rattle.std.specs.declared.cmp.Ordering.TheVariants.{Less, Equal, Greater}
use Rattle.std.specs.Ordering.{nat_cmp, eq_by_cmp, is_eq}
use Rattle.std.specs.Cmp.{nat_cmp_total}
use Rattle.std.specs.FinMap.{get, empty, get-insert, get-empty, nat_cmp-IsAntisymmetric}
use Rattle.h2_forest.specs.declared.table.Node.{Node}
use Rattle.h2_forest.specs.declared.table.Node.TheVariants.{File}
use Rattle.h2_forest.specs.Handles.{handle_cmp}
use Rattle.h2_forest.specs.HandleLaws.{handles_total}
use Rattle.h2_worked_rows.specs.Forests.{one_file, one_handle}

tied : (r : Ordering) → is_eq r ≡ true → r ≡ Equal
tied Less e = absurd (cc)
tied Equal e = refl
tied Greater e = absurd (cc)

pub equal_number : (n k : ℕ) → eq_by_cmp nat_cmp n k ≡ true → n ≡ k
equal_number n k e = nat_cmp-IsAntisymmetric n k (tied (nat_cmp n k) e)

-- the file, if it is asked for
abbrev pub file_if : ℕ → Bool → Option Node
file_if links b = cond b (Some (File (5 ∷ 6 ∷ 7 ∷ []) links)) None

-- what the handle names, if it is asked for
abbrev pub named_if : ℕ → ℕ → Bool → Option (ℕ × ℕ)
named_if id number b = cond b (Some (id, number)) None

pub file_at : (links n : ℕ) → get (one_file links) n ≡ file_if links (eq_by_cmp nat_cmp n 2)
file_at links n = get-insert nat_cmp_total empty 2 (File (5 ∷ 6 ∷ 7 ∷ []) links) n ∙ ap (λ (o : Option Node). cond (eq_by_cmp nat_cmp n 2) (Some (File (5 ∷ 6 ∷ 7 ∷ []) links)) o) (get-empty nat_cmp n)

pub handle_at : (id number client handle : ℕ) → get (one_handle id number) (client, handle) ≡ named_if id number (eq_by_cmp handle_cmp (client, handle) (0, 0))
handle_at id number client handle = get-insert handles_total empty (0, 0) (id, number) (client, handle) ∙ ap (λ (o : Option (ℕ × ℕ)). cond (eq_by_cmp handle_cmp (client, handle) (0, 0)) (Some (id, number)) o) (get-empty handle_cmp (client, handle))

none_named : (x : ℕ × ℕ) → None ≡ Some x → ⊥
none_named x e = cc

same_named : (x y : ℕ × ℕ) → Some x ≡ Some y → x ≡ y
same_named x y e = cc

pub named_by : (id number : ℕ) (b : Bool) (x : ℕ × ℕ) → named_if id number b ≡ Some x → (id, number) ≡ x
named_by id number true x e = same_named (id, number) x e
named_by id number false x e = absurd (none_named x e)

pub not_some : false ≡ true → ⊥
not_some e = cc

pub not_none : (x : ℕ × ℕ) → None ≡ Some x → ⊥
not_none x e = none_named x e
