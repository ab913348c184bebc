-- What is kept of a table, by the numbers of its inodes and the inodes.
use Rattle.std.specs.Prelude.{◌≡◌, ℕ, List, [], ◌∷◌, cond, Bool, true, false, Option, Some, None, refl, map}
use Rattle.std.specs.declared.cmp.Ordering.TheVariants.{Less}
use Rattle.std.specs.Ordering.{eq_by_cmp, is_eq, nat_cmp}
use Rattle.std.specs.List.Sorted.{IsStrictlySortedBy}
use Rattle.std.specs.List.{AllByRecursion, filter}
use Rattle.std.specs.Cmp.{nat_cmp_total, Equal-is}
use Rattle.std.specs.FinMap.{find, get, from_entries, get-from_entries, same_map, empty, retain_keys, get-retain_keys, nat_cmp-IsAntisymmetric}
use Rattle.std.proofs.Common.{ap, sym, ◌∙◌}
use Rattle.h2_maps.specs.Maps.{put_all, put_all_sorted}
use Rattle.h2_forest.specs.declared.table.Node.{Node}

pub equal_keys : (x y : ℕ) → eq_by_cmp nat_cmp x y ≡ true → x ≡ y
equal_keys x y e = nat_cmp-IsAntisymmetric x y ((Equal-is (nat_cmp x y)).0 e)

none_later : (q : ℕ) (es : List (ℕ × Node)) → AllByRecursion (λ y. nat_cmp q y ≡ Less) (map (λ x. x.0) es) → find nat_cmp q es ≡ None
none_later q [] h = refl
none_later q (e ∷ es) h = ap (λ r. cond (is_eq r) (Some e.1) (find nat_cmp q es)) h.0 ∙ none_later q es h.1

-- an inode that passes a test with its number
abbrev passing : (ℕ × Node → Bool) → ℕ → Option Node → Option Node
passing test q None = None
passing test q (Some x) = cond (test (q, x)) (Some x) None

skipped : (test : ℕ × Node → Bool) (b : Bool) (e : ℕ × Node) (es : List (ℕ × Node)) (q : ℕ) (here : Bool) → eq_by_cmp nat_cmp q e.0 ≡ here → (here ≡ true → find nat_cmp q es ≡ None) → (here ≡ true → test (q, e.1) ≡ b) → test e ≡ b → find nat_cmp q (filter test es) ≡ passing test q (find nat_cmp q es)
    → find nat_cmp q (cond b (e ∷ filter test es) (filter test es)) ≡ passing test q (cond here (Some e.1) (find nat_cmp q es))
skipped test true e es q true at none keep same ih = ap (λ t. cond t (Some e.1) (find nat_cmp q (filter test es))) at ∙ ap (λ t. cond t (Some e.1) None) (sym (keep refl))
skipped test false e es q true at none keep same ih = ih ∙ ap (passing test q) (none refl) ∙ ap (λ t. cond t (Some e.1) None) (sym (keep refl))
skipped test true e es q false at none keep same ih = ap (λ t. cond t (Some e.1) (find nat_cmp q (filter test es))) at ∙ ih
skipped test false e es q false at none keep same ih = ih

find_passing : (test : ℕ × Node → Bool) (es : List (ℕ × Node)) (q : ℕ) → IsStrictlySortedBy nat_cmp (map (λ x. x.0) es) → find nat_cmp q (filter test es) ≡ passing test q (find nat_cmp q es)
unfolding IsStrictlySortedBy
find_passing test [] q h = refl
find_passing test (e ∷ es) q h =
    skipped test (test e) e es q (eq_by_cmp nat_cmp q e.0) refl
    (λ at. ap (λ k. find nat_cmp k es) (equal_keys q e.0 at) ∙ none_later e.0 es h.0)
    (λ at. ap (λ k. test (k, e.1)) (equal_keys q e.0 at))
    refl (find_passing test es q h.1)

all_kept : (P : ℕ → Type 0) (test : ℕ × Node → Bool) (es : List (ℕ × Node)) → AllByRecursion P (map (λ x. x.0) es) → AllByRecursion P (map (λ x. x.0) (filter test es))
all_kept P test [] h = tt
all_kept P test (e ∷ es) h = elim (test e) as (λ b. AllByRecursion P (map (λ x. x.0) (cond b (e ∷ filter test es) (filter test es)))) [ true ↦ (h.0, all_kept P test es h.1) | false ↦ all_kept P test es h.1 ]

sorted_kept : (test : ℕ × Node → Bool) (es : List (ℕ × Node)) → IsStrictlySortedBy nat_cmp (map (λ x. x.0) es) → IsStrictlySortedBy nat_cmp (map (λ x. x.0) (filter test es))
unfolding IsStrictlySortedBy
sorted_kept test [] h = tt
sorted_kept test (e ∷ es) h = elim (test e) as (λ b. IsStrictlySortedBy nat_cmp (map (λ x. x.0) (cond b (e ∷ filter test es) (filter test es)))) [ true ↦ (all_kept (λ y. nat_cmp e.0 y ≡ Less) test es h.0, sorted_kept test es h.1) | false ↦ sorted_kept test es h.1 ]

by_inode : (test : ℕ × Node → Bool) (p : ℕ → Option Node → Bool) → ((q : ℕ) (x : Node) → p q (Some x) ≡ test (q, x)) → (q : ℕ) (o : Option Node) → passing test q o ≡ cond (p q o) o None
by_inode test p agree q None = elim (p q None) as (λ b. ◌≡◌ {A = Option Node} None (cond b None None)) [ true ↦ refl | false ↦ refl ]
by_inode test p agree q (Some x) = ap (λ b. cond b (Some x) None) (sym (agree q x))

-- the sorted inodes that pass make the table without the others
pub kept_inodes : (test : ℕ × Node → Bool) (p : ℕ → Option Node → Bool) → ((q : ℕ) (x : Node) → p q (Some x) ≡ test (q, x)) → (es : List (ℕ × Node)) → IsStrictlySortedBy nat_cmp (map (λ x. x.0) es)
    → put_all nat_cmp_total nat_cmp-IsAntisymmetric (empty {X = Node} {R = nat_cmp}) (filter test es) ≡ retain_keys (from_entries {R = nat_cmp} es) (λ k. p k (get (from_entries {R = nat_cmp} es) k))
kept_inodes test p agree es h = put_all_sorted nat_cmp_total nat_cmp-IsAntisymmetric (filter test es) (sorted_kept test es h) ∙ same_map nat_cmp_total nat_cmp-IsAntisymmetric _ _ (λ q.
    get-from_entries nat_cmp_total (filter test es) q ∙ find_passing test es q h ∙ by_inode test p agree q (find nat_cmp q es)
    ∙ ap (λ w. cond (p q w) w None) (sym (get-from_entries nat_cmp_total es q))
    ∙ sym (get-retain_keys (from_entries {R = nat_cmp} es) (λ k. p k (get (from_entries {R = nat_cmp} es) k)) q (λ x t. ap (λ k. p k (get (from_entries {R = nat_cmp} es) k)) (sym (nat_cmp-IsAntisymmetric q x t)))))
