-- Each command keeps the numbers of inodes below the next one of their PFS.
use Rattle.std.specs.Prelude.{◌≡◌, ◌⊎◌, ℕ, ◌+◌, ◌-◌, ◌<◌, List, [], ◌∷◌, cond, Bool, true, false, not, ◌&&◌, ◌||◌, nat_eq, nat_le, is_some, Option, Some, None, IsSome, All, refl, ⊤}
use Rattle.std.specs.Ordering.{nat_cmp, eq_by_cmp}
use Rattle.std.specs.Cmp.{nat_cmp_total}
use Rattle.std.specs.Cmp.Lexicographic.{pointwise}
use Rattle.std.specs.FinMap.{empty, get, insert, remove, retain_keys, contains_key, len, get-empty, get-insert, get-remove, get-retain_keys, nat_cmp-IsAntisymmetric}
use Rattle.std.proofs.Common.{ap, sym, subst, arith, inl, inr}
use Rattle.std.proofs.lemmas.List.Elements.{All-nil, All-push}
use Rattle.h2_command.specs.declared.command.Command.{Command}
use Rattle.h2_command.specs.declared.reply.Reply.TheVariants.{Done, Exists, NotDir, IsDir, NotEmpty, Full, LinksFull, Loop}
use Rattle.h2_forest.specs.declared.pfs.Pfs.{Pfs}
use Rattle.h2_forest.specs.declared.table.Node.{Node}
use Rattle.h2_forest.specs.declared.table.Node.TheVariants.{Directory}
use Rattle.h2_forest.specs.Node.{Entries}
use Rattle.h2_forest.specs.Table.{Table, entries_at, changed_entries, changed_node, entered, left, relinked, rewritten, with_bytes, with_links, links_of, walk, looked_up, passes, is_orphan, without_orphans}
use Rattle.h2_forest.specs.TableLaws.{stands}
use Rattle.h2_forest.specs.Pfs.{front, last, is_full}
use Rattle.h2_forest.specs.Forest.{PlainForest, answer, fresh, bare_table}
use Rattle.h2_forest.specs.Ids.{IsBelowNext, NumbersBelow}
use Rattle.h2_forest.proofs.Trimming.{equal_keys}
use Rattle.h2_forest.proofs.Kept.{Outcome, goes_on, goes_given, goes_unless, AreSteps, IsKept, answer_kept}
use Rattle.h2_forest.proofs.PfsLists.{set_each, remove_each, found_each}

-- Which inodes a changed table has

abbrev Has : Table → ℕ → Type 0
Has t n = IsSome (get t n)

-- the first table has no inode that the second lacks
abbrev Within : Table → Table → Type 0
Within t u = (n : ℕ) → Has t n → Has u n

no_inode : (o : Option Node) → o ≡ None → IsSome o → ⊥
no_inode None e h = cc
no_inode (Some x) e h = cc

inserted_has : (t : Table) (k : ℕ) (x : Node) (n : ℕ) → Has (insert t k x) n → (n ≡ k) ⊎ Has t n
inserted_has t k x n h = by (eq_by_cmp nat_cmp n k) refl (subst IsSome (get-insert nat_cmp_total t k x n) h)
  where
    by : (b : Bool) → eq_by_cmp nat_cmp n k ≡ b → IsSome (cond b (Some x) (get t n)) → (n ≡ k) ⊎ Has t n
    by true is h = inl (equal_keys n k is)
    by false is h = inr h

set_within : (t : Table) (k : ℕ) (x : Node) → Has t k → Within (insert t k x) t
set_within t k x here n h = elim (inserted_has t k x n h) [ inl same ↦ subst (Has t) (sym same) here | inr old ↦ old ]

entries_within : (t : Table) (k : ℕ) (f : Entries → Entries) → Within (changed_entries t k (entries_at t k) f) t
entries_within t k f = by (entries_at t k) refl
  where
    some : (o : Option Entries) (es : Entries) → o ≡ Some es → IsSome o
    some o es is = subst IsSome (sym is) refl

    by : (o : Option Entries) → entries_at t k ≡ o → Within (changed_entries t k o f) t
    by (Some es) is = set_within t k (Directory (f es)) (stands t k (some (entries_at t k) es is))
    by None is = λ n h. h

node_within : (t : Table) (k : ℕ) (f : Node → Node) → Within (changed_node t k (get t k) f) t
node_within t k f = by (get t k) refl
  where
    by : (o : Option Node) → get t k ≡ o → Within (changed_node t k o f) t
    by (Some x) is = set_within t k (f x) (subst IsSome (sym is) refl)
    by None is = λ n h. h

removed_within : (t : Table) (k : ℕ) → Within (remove t k) t
removed_within t k n h = by (eq_by_cmp nat_cmp n k) (subst IsSome (get-remove nat_cmp_total t k n) h)
  where
    by : (b : Bool) → IsSome (cond b None (get t n)) → Has t n
    by true h = absurd (no_inode None refl h)
    by false h = h

kept_within : (t : Table) (p : ℕ → Bool) → Within (retain_keys t p) t
kept_within t p n h = by (p n) (subst IsSome (get-retain_keys t p n (λ x e. ap p (sym (nat_cmp-IsAntisymmetric n x e)))) h)
  where
    by : (b : Bool) → IsSome (cond b (get t n) None) → Has t n
    by true h = h
    by false h = absurd (no_inode None refl h)

-- In one PFS

-- the table lost inodes at most
fewer : (p : Pfs) (t : Table) → Within t p.table → IsBelowNext p → IsBelowNext (record p { table = t })
fewer p t within below n h = below n (within n h)

-- one inode came, with the next number
one_more : (p : Pfs) (t : Table) (x : Node) → Within t p.table → IsBelowNext p → IsBelowNext (record p { next = p.next + 1; table = insert t p.next x })
one_more p t x within below n h = elim (inserted_has t p.next x n h) [
  | inl same ↦ omega (arith, same)
  | inr old ↦ let lt : n < p.next = below n (within n old) in omega (arith, lt)
]

abbrev Keeps : Pfs → Pfs → Type 0
Keeps p q = IsBelowNext p → IsBelowNext q

abbrev Ends : Type 0
Ends = Outcome IsBelowNext

abbrev made_end : (p : Pfs) → IsBelowNext p → List (List ℕ) → Node → Ends
made_end p below names node =
    goes_on IsBelowNext p below (walk p.table 1 (front names)) (λ dir.
    goes_given IsBelowNext p below (entries_at p.table dir) NotDir (λ entries.
    goes_unless IsBelowNext p below (contains_key entries (last names)) Exists (
    goes_unless IsBelowNext p below (is_full entries) Full (
      (Done, record p { next = p.next + 1; table = insert (entered p.table dir (last names) p.next) p.next node }),
      one_more p (entered p.table dir (last names) p.next) node (entries_within p.table dir (λ es. insert es (last names) p.next)) below,
    ))))

abbrev linked_end : (p : Pfs) → IsBelowNext p → List (List ℕ) → List (List ℕ) → Ends
linked_end p below names new =
    goes_on IsBelowNext p below (walk p.table 1 names) (λ number.
    goes_unless IsBelowNext p below (is_some (entries_at p.table number)) IsDir (
    goes_on IsBelowNext p below (walk p.table 1 (front new)) (λ dir.
    goes_given IsBelowNext p below (entries_at p.table dir) NotDir (λ entries.
    goes_unless IsBelowNext p below (contains_key entries (last new)) Exists (
    goes_unless IsBelowNext p below (is_full entries) Full (
    goes_unless IsBelowNext p below (nat_le 65535 (links_of (get p.table number))) LinksFull (
      (Done, record p { table = relinked (entered p.table dir (last new) number) number (links_of (get p.table number) + 1) }),
      fewer p (relinked (entered p.table dir (last new) number) number (links_of (get p.table number) + 1))
          (λ n h. entries_within p.table dir (λ es. insert es (last new) number) n (node_within (entered p.table dir (last new) number) number (with_links (links_of (get p.table number) + 1)) n h)) below,
    )))))))

abbrev unlinked_end : (p : Pfs) → IsBelowNext p → List (List ℕ) → Ends
unlinked_end p below names =
    goes_on IsBelowNext p below (walk p.table 1 (front names)) (λ dir.
    goes_on IsBelowNext p below (looked_up (entries_at p.table dir) (last names)) (λ number.
    goes_unless IsBelowNext p below (is_some (entries_at p.table number)) IsDir (
      (Done, record p { table = relinked (left p.table dir (last names)) number (links_of (get p.table number) - 1) }),
      fewer p (relinked (left p.table dir (last names)) number (links_of (get p.table number) - 1))
          (λ n h. entries_within p.table dir (λ es. remove es (last names)) n (node_within (left p.table dir (last names)) number (with_links (links_of (get p.table number) - 1)) n h)) below,
    )))

abbrev removed_end : (p : Pfs) → IsBelowNext p → List (List ℕ) → Ends
removed_end p below names =
    goes_on IsBelowNext p below (walk p.table 1 (front names)) (λ dir.
    goes_on IsBelowNext p below (looked_up (entries_at p.table dir) (last names)) (λ number.
    goes_given IsBelowNext p below (entries_at p.table number) NotDir (λ entries.
    goes_unless IsBelowNext p below (not (nat_eq (len entries) 0)) NotEmpty (
      (Done, record p { table = remove (left p.table dir (last names)) number }),
      fewer p (remove (left p.table dir (last names)) number)
          (λ n h. entries_within p.table dir (λ es. remove es (last names)) n (removed_within (left p.table dir (last names)) number n h)) below,
    ))))

abbrev moved_end : (p : Pfs) → IsBelowNext p → List (List ℕ) → List (List ℕ) → Ends
moved_end p below names new =
    goes_on IsBelowNext p below (walk p.table 1 (front names)) (λ from.
    goes_on IsBelowNext p below (looked_up (entries_at p.table from) (last names)) (λ number.
    goes_on IsBelowNext p below (walk p.table 1 (front new)) (λ dir.
    goes_given IsBelowNext p below (entries_at p.table dir) NotDir (λ entries.
    goes_unless IsBelowNext p below (contains_key entries (last new)) Exists (
    goes_unless IsBelowNext p below (is_some (entries_at p.table number) && passes p.table 1 (front new) number) Loop (
    goes_unless IsBelowNext p below (not (nat_eq from dir) && is_full entries) Full (
      (Done, record p { table = left (entered p.table dir (last new) number) from (last names) }),
      fewer p (left (entered p.table dir (last new) number) from (last names))
          (λ n h. entries_within p.table dir (λ es. insert es (last new) number) n (entries_within (entered p.table dir (last new) number) from (λ es. remove es (last names)) n h)) below,
    )))))))

below_steps : AreSteps Keeps
below_steps = record {
  makes = λ p names node below. (made_end p below names node).1;
  links = λ p names new below. (linked_end p below names new).1;
  unlinks = λ p names below. (unlinked_end p below names).1;
  removes = λ p names below. (removed_end p below names).1;
  moves = λ p names new below. (moved_end p below names new).1;
  rewrites = λ p n change below. fewer p (rewritten p.table n change) (node_within p.table n (with_bytes change)) below;
}

-- In a forest

bare_below : (id : ℕ) (name : List ℕ) → IsBelowNext (record { id = id; name = name; next = 2; table = bare_table })
bare_below id name n h = elim (inserted_has empty 1 (Directory empty) n h) [
  | inl same ↦ omega (arith, same)
  | inr old ↦ absurd (no_inode (get empty n) (get-empty nat_cmp n) old)
]

numbers_kept : IsKept NumbersBelow Keeps (λ name. ⊤)
numbers_kept = record {
  same = λ f g pfss next h. subst (All IsBelowNext) (sym pfss) h;
  change = λ f i p q at step h. set_each IsBelowNext f.pfss i p q at step h;
  create = λ f name new absent h. All-push IsBelowNext f.pfss (record { id = f.next_pfs; name = name; next = 2; table = bare_table }) h (bare_below f.next_pfs name);
  copy = λ f source name found new is absent h.
      let below : IsBelowNext found.1 = found_each IsBelowNext (λ p. pointwise nat_eq p.name source) 0 f.pfss found is h in
      All-push IsBelowNext f.pfss (record { id = f.next_pfs; name = name; next = found.1.next; table = without_orphans found.1.table (λ n. false) }) h
      (λ n has. below n (kept_within found.1.table (λ k. false || not (is_orphan (get found.1.table k))) n has));
  delete = λ f i h. remove_each IsBelowNext f.pfss i h;
}

pub answer_numbers : (f : PlainForest) (client : ℕ) (command : Command) → NumbersBelow f → NumbersBelow (answer f client command).1
answer_numbers f client command h = answer_kept NumbersBelow Keeps (λ name. ⊤) below_steps numbers_kept f h client command (λ name e. tt) (λ source name e. tt)

pub fresh_numbers : NumbersBelow fresh
fresh_numbers = All-push IsBelowNext [] (record { id = 1; name = 82 ∷ 79 ∷ 79 ∷ 84 ∷ []; next = 2; table = bare_table }) (All-nil IsBelowNext) (bare_below 1 (82 ∷ 79 ∷ 79 ∷ 84 ∷ []))
