-- A PFS is consistent, its table a file tree, where its entries and its inodes agree, and only there.
use Rattle.std.specs.Prelude.{◌≡◌, ◌≢◌, ◌⊎◌, ℕ, ◌<◌, ◌≤◌, cond, Option, Some, None, IsSome, refl}
use Rattle.std.specs.FinMap.{get}
use Rattle.std.proofs.Common.{ap, sym, subst, arith, inl, inr}
use Rattle.std.proofs.lemmas.Bool.{ne_eqb, cases_lt}
use Rattle.h2_forest.specs.declared.pfs.Pfs.{Pfs}
use Rattle.h2_forest.specs.declared.table.Node.{Node}
use Rattle.h2_forest.specs.declared.table.Node.TheVariants.{File, Directory}
use Rattle.h2_forest.specs.Node.{Entries}
use Rattle.h2_forest.specs.Table.{entries_of}
use Rattle.h2_consistent.specs.FileTree.{names_of}
use Rattle.h2_consistent.specs.Consistent.{IsConsistent}
use Rattle.h2_consistent.proofs.Entries.{Exactly, entry_at, IsReachedBy}
use Rattle.h2_consistent.proofs.Counting.{same_number, exactly_once}
use Rattle.h2_consistent.proofs.Agreeing.{missing, directory, due, missing_directory, file_directory, named_stands}
use Rattle.h2_consistent.proofs.Tables.{kind_of, kind_at, entries_there, has_entry}
use Rattle.h2_consistent.proofs.Names.{looked_entry}
use Rattle.h2_consistent.proofs.Listed.{exactly_names}
use Rattle.h2_consistent.proofs.Walks.{entry_looked, names_lead, entries_reach}
use Rattle.h2_consistent.proofs.Commands.{Holds}

is_directory : (o : Option Node) → IsSome (entries_of o) → kind_of o ≡ directory
is_directory (Some (Directory es)) h = refl
is_directory (Some (File bytes links)) h = absurd (cc)
is_directory None h = absurd (cc)

has_entries : (o : Option Node) → kind_of o ≡ directory → IsSome (entries_of o)
has_entries o is = subst IsSome (sym (entries_there o is).1) refl

no_inode : (o : Option Node) → o ≡ None → IsSome o → ⊥
no_inode None e h = cc
no_inode (Some x) e h = cc

stands_of : (o : Option Node) → kind_of o ≢ missing → IsSome o
stands_of (Some x) d = refl
stands_of None d = absurd (d refl)

not_missing : (o : Option Node) → IsSome o → kind_of o ≢ missing
not_missing (Some (File bytes links)) h e = cc
not_missing (Some (Directory es)) h e = cc
not_missing None h e = no_inode None refl h

due_other : (n : ℕ) → n ≢ 1 → due n directory ≡ 1
due_other n d = ap (λ b. cond b 0 1) (ne_eqb n 1 d)

module _ (p : Pfs) where
  abbrev Named : ℕ → ℕ → Type 0
  Named n k = Exactly k (λ x. entry_at p.table x ≡ Some n)

  by_names : (n k : ℕ) → names_of p.table n ≡ k → Named n k
  by_names n k is = subst (Named n) is (exactly_names p.table n)

  names_are : (n k : ℕ) → Named n k → names_of p.table n ≡ k
  names_are n k h = exactly_once (names_of p.table n) k (λ x. entry_at p.table x ≡ Some n) (exactly_names p.table n) h

  directory_here : (o : Option Node) → kind_of o ≡ directory → (es : Entries) × (o ≡ Some (Directory es))
  directory_here (Some (Directory es)) is = (es, refl)
  directory_here (Some (File bytes links)) is = absurd (file_directory links is)
  directory_here None is = absurd (missing_directory is)

  pub agrees : IsConsistent p → Holds p
  agrees c = record {
    first = is_directory (get p.table 1) c.root;
    free = λ n ge. free n ge (get p.table n) refl;
    counts = λ n. counts n (get p.table n) refl;
    places = λ x n is. has_entry p.table x n is;
    reached = λ n is. reached n (directory_here (get p.table n) is);
  }
    where
      free : (n : ℕ) → p.next ≤ n → (o : Option Node) → get p.table n ≡ o → kind_of o ≡ missing
      free n ge None is = refl
      free n ge (Some x) is = absurd (apart n p.next (c.below n (subst IsSome (sym is) refl)) ge)
        where
          apart : (n next : ℕ) → n < next → next ≤ n → ⊥
          apart n next lt ge = omega arith

      counts : (n : ℕ) → (o : Option Node) → get p.table n ≡ o → Named n (due n (kind_of o))
      counts n None is = λ x at. no_inode (get p.table n) is (c.named x.0 n x.1 (entry_looked p.table x.0 x.1 n at))
      counts n (Some (File bytes links)) is = by_names n links (c.links_are n links bytes is)
      counts n (Some (Directory es)) is = by (same_number n 1)
        where
          by : ((n ≡ 1) ⊎ (n ≢ 1)) → Named n (due n directory)
          by (inl s) = subst (λ m. Named m (due m directory)) (sym s) (by_names 1 0 c.root_unnamed)
          by (inr d) = subst (Named n) (sym (due_other n d)) (by_names n 1 (c.once n es is d))

      reached : (n : ℕ) → (es : Entries) × (get p.table n ≡ Some (Directory es)) → IsReachedBy (entry_at p.table) n
      reached n is = entries_reach p.table n (c.reached n is.0 is.1)

  pub consistent : Holds p → IsConsistent p
  consistent h = record {
    root = has_entries (get p.table 1) h.first;
    root_unnamed = names_are 1 0 (subst (λ k. Named 1 (due 1 k)) h.first (h.counts 1));
    named = λ dir n name at. stands_of (get p.table n) (named_stands (entry_at p.table) (kind_at p.table) p.next h (dir, name) n (looked_entry p.table dir name n at));
    links_are = λ n links bytes is. names_are n links (subst (λ o. Named n (due n (kind_of o))) is (h.counts n));
    once = λ n es is d. names_are n 1 (subst (Named n) (due_other n d) (subst (λ k. Named n (due n k)) (ap kind_of is) (h.counts n)));
    reached = λ n es is. names_lead p.table n (h.reached n (ap kind_of is));
    below = λ n is. below n is (cases_lt n p.next);
  }
    where
      below : (n : ℕ) → IsSome (get p.table n) → ((n < p.next) ⊎ (p.next ≤ n)) → n < p.next
      below n is (inl lt) = lt
      below n is (inr ge) = absurd (not_missing (get p.table n) is (h.free n ge))
