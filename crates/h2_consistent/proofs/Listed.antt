-- As many entries of a table name a number as its lists of entries say.
use Rattle.std.specs.Prelude.{◌≡◌, ◌≢◌, ◌⊎◌, ℕ, zero, suc, ◌+◌, Bool, true, false, cond, ◌&&◌, T, List, [], ◌∷◌, map, sum, count_by, nat_eq, Option, Some, None, refl}
use Rattle.std.specs.declared.cmp.Ordering.{Ordering}
use Rattle.std.specs.declared.cmp.Ordering.TheVariants.{Less, Equal, Greater}
use Rattle.std.specs.Ordering.{nat_cmp, is_lt, is_eq}
use Rattle.std.specs.Cmp.{IsTotalOrder, nat_cmp_total, eq_by_cmp_equiv}
use Rattle.std.specs.Cmp.Lexicographic.{slice_cmp, nat_list_cmp_total}
use Rattle.std.specs.FinMap.{IsAntisymmetric, entries, entries_sorted, get-entries, nat_cmp-IsAntisymmetric, slice_cmp-IsAntisymmetric}
use Rattle.std.specs.FinMap.Entries.{find, is_sorted, below_all}
use Rattle.std.proofs.Common.{ap, sym, ◌∙◌, subst, arith, inl, inr}
use Rattle.std.proofs.lemmas.Bool.{ne_eqb}
use Rattle.std.proofs.lemmas.List.Sums.{sum_by-cons}
use Rattle.h2_forest.specs.declared.table.Node.{Node}
use Rattle.h2_forest.specs.declared.table.Node.TheVariants.{File, Directory}
use Rattle.h2_forest.specs.Table.{Table, entries_of}
use Rattle.h2_consistent.specs.FileTree.{names_in, names_of}
use Rattle.h2_consistent.proofs.Entries.{EntryName, number_in, entry_at, Exactly}
use Rattle.h2_consistent.proofs.Lookups.{told_apart}
use Rattle.h2_consistent.proofs.Counting.{same_number, same_name, pair_of, exactly_same, exactly_more}

-- What is found in lists of entries in order

pub both_parts : (a b : Bool) → T (a && b) → (T a) × (T b)
both_parts true b h = (tt, h)
both_parts false b h = absurd h

less_untied : (r : Ordering) → T (is_lt r) → is_eq r ≡ false
less_untied Less h = refl
less_untied Equal h = absurd h
less_untied Greater h = absurd h

module _ {K X : Type 0} (R : K → K → Ordering) where
  nothing_below : (q : K) (es : List (K × X)) → T (below_all R q es) → find R q es ≡ None
  nothing_below q [] h = refl
  nothing_below q (e ∷ es) h =
      let parts = both_parts (is_lt (R q e.0)) (below_all R q es) h in
      ap (λ b. cond b (Some e.1) (find R q es)) (less_untied (R q e.0) parts.0) ∙ nothing_below q es parts.1

  module _ (o : IsTotalOrder R) (exact : IsAntisymmetric R) where
    pub found_first : (e : K × X) (es : List (K × X)) (q : K) → q ≡ e.0 → find R q (e ∷ es) ≡ Some e.1
    found_first e es q s =
        ap (λ x. find R x (e ∷ es)) s ∙ ap (λ b. cond b (Some e.1) (find R e.0 es)) ((eq_by_cmp_equiv o).refl e.0)

    pub found_later : (e : K × X) (es : List (K × X)) (q : K) → q ≢ e.0 → find R q (e ∷ es) ≡ find R q es
    found_later e es q d = ap (λ b. cond b (Some e.1) (find R q es)) (told_apart o exact q e.0 d)

    pub later_none : (e : K × X) (es : List (K × X)) (q : K) → T (is_sorted R (e ∷ es)) → q ≡ e.0 → find R q es ≡ None
    later_none e es q h s =
        ap (λ x. find R x es) s ∙ nothing_below e.0 es (both_parts (below_all R e.0 es) (is_sorted R es) h).0

-- One property or another, where none has both

no_both : (P Q : EntryName → Type 0) (x : EntryName) → ((y : EntryName) → P y → Q y → ⊥) → P x → (y : EntryName)
    → Q y → y ≢ x
no_both P Q x apart p y q s = apart x p (subst Q s q)

exactly_either : (j k : ℕ) (P Q : EntryName → Type 0) → ((y : EntryName) → P y → Q y → ⊥) → Exactly j P
    → Exactly k Q → Exactly (j + k) (λ y. P y ⊎ Q y)
exactly_either zero k P Q apart p q =
    let none : k ≡ 0 + k = omega arith in
    subst (λ n. Exactly n (λ y. P y ⊎ Q y)) none (exactly_same k Q (λ y. P y ⊎ Q y) (λ y at. inr at) only q)
  where
    only : (y : EntryName) → P y ⊎ Q y → Q y
    only y (inl at) = absurd (p y at)
    only y (inr at) = at
exactly_either (suc j) k P Q apart p q =
    let x = p.0 in
    let more : suc (j + k) ≡ suc j + k = omega arith in
    subst (λ n. Exactly n (λ y. P y ⊎ Q y)) more (
      x,
      (
        inl p.1.0,
        exactly_same (j + k) (λ y. (P y × (y ≢ x)) ⊎ Q y) (λ y. (P y ⊎ Q y) × (y ≢ x)) to from
            (exactly_either j k (λ y. P y × (y ≢ x)) Q (λ y a b. apart y a.0 b) p.1.1 q),
      ),
    )
  where
    to : (y : EntryName) → (P y × (y ≢ p.0)) ⊎ Q y → (P y ⊎ Q y) × (y ≢ p.0)
    to y (inl at) = (inl at.0, at.1)
    to y (inr at) = (inr at, no_both P Q p.0 apart p.1.0 y at)

    from : (y : EntryName) → (P y ⊎ Q y) × (y ≢ p.0) → (P y × (y ≢ p.0)) ⊎ Q y
    from y (inl at, d) = inl (at, d)
    from y (inr at, d) = inr at

-- The entries of one directory

some_none : (n : ℕ) (o : Option ℕ) → o ≡ None → o ≡ Some n → ⊥
some_none n o e f = cc

same_some : (m n : ℕ) → Some m ≡ Some n → m ≡ n
same_some m n e = cc

pub is_equal : (m n : ℕ) → nat_eq m n ≡ true → m ≡ n
is_equal m n e = by (same_number m n)
  where
    not_true : false ≡ true → ⊥
    not_true e = cc

    by : ((m ≡ n) ⊎ (m ≢ n)) → m ≡ n
    by (inl s) = s
    by (inr d) = absurd (not_true (sym (ne_eqb m n d) ∙ e))

isnt_equal : (m n : ℕ) → nat_eq m n ≡ false → m ≢ n
isnt_equal m n e s = differs (subst (λ k. nat_eq k n ≡ false) s e)
  where
    differs : nat_eq n n ≡ false → ⊥
    differs e = grind arith

module _ (dir n : ℕ) where
  -- an entry of the directory, in a list of them, names the number
  abbrev Within : List (List ℕ × ℕ) → EntryName → Type 0
  Within es x = (x.0 ≡ dir) × (find (slice_cmp nat_cmp) x.1 es ≡ Some n)

  exactly_within : (es : List (List ℕ × ℕ)) → T (is_sorted (slice_cmp nat_cmp) es)
      → Exactly (count_by (λ e. nat_eq e.1 n) es) (Within es)
  exactly_within [] h = λ x at. some_none n None refl at.1
  exactly_within (e ∷ es) h =
      subst (λ k. Exactly k (Within (e ∷ es))) (sym (sum_by-cons (λ (e : List ℕ × ℕ). cond (nat_eq e.1 n) 1 0) e es)) (by (nat_eq e.1 n) refl (exactly_within es (both_parts (below_all (slice_cmp nat_cmp) e.0 es) (is_sorted (slice_cmp nat_cmp) es) h).1))
    where
      first : (q : List ℕ) → q ≡ e.0 → find (slice_cmp nat_cmp) q (e ∷ es) ≡ Some e.1
      first q s = found_first (slice_cmp nat_cmp) nat_list_cmp_total (slice_cmp-IsAntisymmetric nat_cmp-IsAntisymmetric) e es q s

      later : (q : List ℕ) → q ≢ e.0 → find (slice_cmp nat_cmp) q (e ∷ es) ≡ find (slice_cmp nat_cmp) q es
      later q d = found_later (slice_cmp nat_cmp) nat_list_cmp_total (slice_cmp-IsAntisymmetric nat_cmp-IsAntisymmetric) e es q d

      gone : (q : List ℕ) → q ≡ e.0 → find (slice_cmp nat_cmp) q es ≡ None
      gone q s = later_none (slice_cmp nat_cmp) nat_list_cmp_total (slice_cmp-IsAntisymmetric nat_cmp-IsAntisymmetric) e es q h s

      kept : (y : EntryName) → ((y.1 ≡ e.0) ⊎ (y.1 ≢ e.0)) → Within es y → Within (e ∷ es) y
      kept y (inl s) at = absurd (some_none n (find (slice_cmp nat_cmp) y.1 es) (gone y.1 s) at.1)
      kept y (inr d) at = (at.0, later y.1 d ∙ at.1)

      dropped : (y : EntryName) → ((y.1 ≡ e.0) ⊎ (y.1 ≢ e.0)) → (y.1 ≡ e.0 → ⊥) ⊎ (e.1 ≢ n) → Within (e ∷ es) y
          → Within es y
      dropped y (inl s) (inl apart) at = absurd (apart s)
      dropped y (inl s) (inr other) at = absurd (other (same_some e.1 n (sym (first y.1 s) ∙ at.1)))
      dropped y (inr d) why at = (at.0, sym (later y.1 d) ∙ at.1)

      other_name : (y : EntryName) → y ≢ (dir, e.0) → Within (e ∷ es) y → y.1 ≡ e.0 → ⊥
      other_name y d at s = d (pair_of y.0 dir y.1 e.0 at.0 s)

      by : (b : Bool) → nat_eq e.1 n ≡ b → Exactly (count_by (λ e. nat_eq e.1 n) es) (Within es)
          → Exactly (cond b 1 0 + count_by (λ e. nat_eq e.1 n) es) (Within (e ∷ es))
      by true is rest =
          let k = count_by (λ (e : List ℕ × ℕ). nat_eq e.1 n) es in
          let more : suc k ≡ 1 + k = omega arith in
          subst (λ m. Exactly m (Within (e ∷ es))) more
          (exactly_more k (Within es) (Within (e ∷ es)) (dir, e.0)
          (λ at. some_none n (find (slice_cmp nat_cmp) e.0 es) (gone e.0 refl) at.1)
          (refl, first e.0 refl ∙ ap Some (is_equal e.1 n is))
          (λ y d at. kept y (same_name y.1 e.0) at)
          (λ y d at. dropped y (same_name y.1 e.0) (inl (other_name y d at)) at) rest)
      by false is rest =
          let k = count_by (λ (e : List ℕ × ℕ). nat_eq e.1 n) es in
          let same : k ≡ 0 + k = omega arith in
          subst (λ m. Exactly m (Within (e ∷ es))) same
          (exactly_same k (Within es) (Within (e ∷ es)) (λ y at. kept y (same_name y.1 e.0) at) (λ y at. dropped y (same_name y.1 e.0) (inr (isnt_equal e.1 n is)) at) rest)

  -- an entry of the inode, if that is a directory with this number, names the number
  abbrev Inside : Node → EntryName → Type 0
  Inside node x = (x.0 ≡ dir) × (number_in (entries_of (Some node)) x.1 ≡ Some n)

  exactly_inside : (node : Node) → Exactly (names_in n node) (Inside node)
  exactly_inside (File bytes links) = λ x at. some_none n None refl at.1
  exactly_inside (Directory es) =
      exactly_same (names_in n (Directory es)) (Within (entries es)) (Inside (Directory es)) (λ x at. (at.0, get-entries es x.1 ∙ at.1)) (λ x at. (at.0, sym (get-entries es x.1) ∙ at.1)) (exactly_within (entries es) (entries_sorted es))

-- The entries of all directories

module _ (n : ℕ) where
  -- an entry of the inodes in a list names the number
  abbrev Among : List (ℕ × Node) → EntryName → Type 0
  Among ns x = number_in (entries_of (find nat_cmp x.0 ns)) x.1 ≡ Some n

  exactly_among : (ns : List (ℕ × Node)) → T (is_sorted nat_cmp ns)
      → Exactly (sum (map (λ (e : ℕ × Node). names_in n e.1) ns)) (Among ns)
  exactly_among [] h = λ x at. some_none n None refl at
  exactly_among (e ∷ ns) h =
      subst (λ k. Exactly k (Among (e ∷ ns))) (sym (sum_by-cons (λ (k : ℕ). k) (names_in n e.1) (map (λ (e : ℕ × Node). names_in n e.1) ns)))
      (exactly_same (names_in n e.1 + sum (map (λ (e : ℕ × Node). names_in n e.1) ns)) (λ x. Inside e.0 n e.1 x ⊎ Among ns x) (Among (e ∷ ns)) to (λ x at. from x (same_number x.0 e.0) at)
      (exactly_either (names_in n e.1) (sum (map (λ (e : ℕ × Node). names_in n e.1) ns)) (Inside e.0 n e.1) (Among ns) (λ x a b. apart x a.0 b) (exactly_inside e.0 n e.1) (exactly_among ns (both_parts (below_all nat_cmp e.0 ns) (is_sorted nat_cmp ns) h).1)))
    where
      first : (q : ℕ) → q ≡ e.0 → find nat_cmp q (e ∷ ns) ≡ Some e.1
      first q s = found_first nat_cmp nat_cmp_total nat_cmp-IsAntisymmetric e ns q s

      later : (q : ℕ) → q ≢ e.0 → find nat_cmp q (e ∷ ns) ≡ find nat_cmp q ns
      later q d = found_later nat_cmp nat_cmp_total nat_cmp-IsAntisymmetric e ns q d

      apart : (x : EntryName) → x.0 ≡ e.0 → Among ns x → ⊥
      apart x s at = some_none n (number_in (entries_of (find nat_cmp x.0 ns)) x.1) (ap (λ o. number_in (entries_of o) x.1) (later_none nat_cmp nat_cmp_total nat_cmp-IsAntisymmetric e ns x.0 h s)) at

      to : (x : EntryName) → Inside e.0 n e.1 x ⊎ Among ns x → Among (e ∷ ns) x
      to x (inl at) = ap (λ o. number_in (entries_of o) x.1) (first x.0 at.0) ∙ at.1
      to x (inr at) = ap (λ o. number_in (entries_of o) x.1) (later x.0 (λ s. apart x s at)) ∙ at

      from : (x : EntryName) → ((x.0 ≡ e.0) ⊎ (x.0 ≢ e.0)) → Among (e ∷ ns) x → Inside e.0 n e.1 x ⊎ Among ns x
      from x (inl s) at = inl (s, sym (ap (λ o. number_in (entries_of o) x.1) (first x.0 s)) ∙ at)
      from x (inr d) at = inr (sym (ap (λ o. number_in (entries_of o) x.1) (later x.0 d)) ∙ at)

-- the names of a number are as many as the table's lists say
pub exactly_names : (t : Table) (n : ℕ) → Exactly (names_of t n) (λ x. entry_at t x ≡ Some n)
exactly_names t n =
    exactly_same (names_of t n) (Among n (entries t)) (λ x. entry_at t x ≡ Some n) (λ x at. ap (λ o. number_in (entries_of o) x.1) (get-entries t x.0) ∙ at) (λ x at. sym (ap (λ o. number_in (entries_of o) x.1) (get-entries t x.0)) ∙ at) (exactly_among n (entries t) (entries_sorted t))
