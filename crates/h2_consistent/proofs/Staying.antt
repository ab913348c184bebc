-- What is a file stays one over each command on names in a PFS.
use Rattle.std.specs.Prelude.{◌≡◌, ◌≢◌, ◌⊎◌, ℕ, ◌+◌, ◌-◌, List, Bool, true, not, cond, ◌&&◌, ◌||◌, nat_eq, nat_le, is_some, Option, Some, None, IsSome, refl}
use Rattle.std.specs.FinMap.{get, insert, remove, contains_key, len}
use Rattle.std.proofs.Common.{ap, sym, ◌∙◌, subst, arith, inl, inr}
use Rattle.h2_forest.specs.declared.pfs.Pfs.{Pfs}
use Rattle.h2_forest.specs.declared.table.Node.{Node}
use Rattle.h2_forest.specs.declared.table.Node.TheVariants.{File, Directory}
use Rattle.h2_forest.specs.Node.{Entries}
use Rattle.h2_forest.specs.Table.{Table, entries_at, looked_up, changed_entries, changed_node, entered, left, links_of, with_links, relinked, rewritten, walk, passes, bytes_of, is_orphan, without_orphans}
use Rattle.h2_forest.specs.Pfs.{front, last, is_full, made, linked, unlinked, removed, moved}
use Rattle.h2_consistent.proofs.Counting.{same_number}
use Rattle.h2_consistent.proofs.Agreeing.{missing, file, missing_file, file_directory}
use Rattle.h2_consistent.proofs.Tables.{kind_of, kind_at, directory_of, file_of, kind_put, kind_stays, same_rewritten, kind_removed, thinned}
use Rattle.h2_consistent.proofs.Commands.{Holds, on_keeps, given_keeps, refuse_keeps}

-- the inode with a number is a file, as what it holds tells
abbrev pub IsFileAt : Table → ℕ → Type 0
IsFileAt t n = IsSome (bytes_of (get t n))

-- as its kind tells
abbrev pub IsFileKind : Table → ℕ → Type 0
IsFileKind t n = (links : ℕ) × (kind_at t n ≡ file links)

-- each file of the first table is one of the second
abbrev pub FilesStay : Table → Table → Type 0
FilesStay t u = (n : ℕ) → IsFileKind t n → IsFileKind u n

-- the PFS has the same id, and its files
abbrev pub Stays : Pfs → Pfs → Type 0
Stays p q = (q.id ≡ p.id) × FilesStay p.table q.table

no_bytes : (o : Option (List ℕ)) → o ≡ None → IsSome o → ⊥
no_bytes None e h = cc
no_bytes (Some x) e h = cc

file_kind : (o : Option Node) → IsSome (bytes_of o) → (links : ℕ) × (kind_of o ≡ file links)
file_kind (Some (File bytes links)) h = (links, refl)
file_kind (Some (Directory es)) h = absurd (no_bytes None refl h)
file_kind None h = absurd (no_bytes None refl h)

pub has_bytes : (o : Option Node) (links : ℕ) → kind_of o ≡ file links → IsSome (bytes_of o)
has_bytes o links is = subst (λ w. IsSome (bytes_of w)) (sym (file_of o links is).1) refl

-- what is a file is one still
pub file_stays : (t u : Table) (n : ℕ) → FilesStay t u → IsFileAt t n → IsFileAt u n
file_stays t u n stay h =
    let after = stay n (file_kind (get t n) h) in
    has_bytes (get u n) after.0 after.1

-- Where each kind is as it was

same_kinds : (t u : Table) → ((n : ℕ) → kind_at u n ≡ kind_at t n) → FilesStay t u
same_kinds t u same n is = (is.0, same n ∙ is.1)

then_stays : (t u v : Table) → FilesStay t u → FilesStay u v → FilesStay t v
then_stays t u v first second n is = second n (first n is)

changed_stays : (t : Table) (dir : ℕ) (f : Entries → Entries) → FilesStay t (changed_entries t dir (entries_at t dir) f)
changed_stays t dir f = by (entries_at t dir) refl
  where
    by : (o : Option Entries) → entries_at t dir ≡ o → FilesStay t (changed_entries t dir o f)
    by None is = λ n here. here
    by (Some es) is = same_kinds t (insert t dir (Directory (f es))) (kind_stays t dir es (f es) is)

entered_stays : (t : Table) (dir : ℕ) (name : List ℕ) (n : ℕ) → FilesStay t (entered t dir name n)
entered_stays t dir name n = changed_stays t dir (λ es. insert es name n)

left_stays : (t : Table) (dir : ℕ) (name : List ℕ) → FilesStay t (left t dir name)
left_stays t dir name = changed_stays t dir (λ es. remove es name)

-- another inode in the place of one, which is a file where that one was
put_stays : (t : Table) (n : ℕ) (node : Node) → (IsFileKind t n → (links : ℕ) × (kind_of (Some node) ≡ file links))
    → FilesStay t (insert t n node)
put_stays t n node here m is = by (same_number m n)
  where
    by : ((m ≡ n) ⊎ (m ≢ n)) → IsFileKind (insert t n node) m
    by (inl s) =
        let new = here (subst (IsFileKind t) s is) in
        (new.0, ap (kind_at (insert t n node)) s ∙ (kind_put t n node).0 ∙ new.1)
    by (inr d) = (is.0, (kind_put t n node).1 m d ∙ is.1)

relinked_stays : (t : Table) (n links : ℕ) → FilesStay t (relinked t n links)
relinked_stays t n links = by (get t n) refl
  where
    by : (o : Option Node) → get t n ≡ o → FilesStay t (changed_node t n o (with_links links))
    by None is = λ m here. here
    by (Some (File bytes old)) is = put_stays t n (File bytes links) (λ here. (links, refl))
    by (Some (Directory es)) is = put_stays t n (Directory es) (λ here. absurd (file_directory here.0 (sym here.1 ∙ ap kind_of is)))

-- without files that have no link, a kept one stays
pub kept_stays : (t : Table) (kept : ℕ → Bool) (n : ℕ) → kept n ≡ true → IsFileAt t n
    → IsFileAt (without_orphans t kept) n
kept_stays t kept n is h = subst (λ o. IsSome (bytes_of o)) (sym (thinned t kept n ∙ ap (λ b. cond (b || not (is_orphan (get t n))) (get t n) None) is)) h

-- Each command

module _ (p : Pfs) where
  stays_itself : Stays p p
  stays_itself = (refl, λ n is. is)

  module _ (h : Holds p) where
    new_stays : (t : Table) (node : Node) → FilesStay p.table t → ((n : ℕ) → kind_at t n ≡ kind_at p.table n)
        → FilesStay p.table (insert t p.next node)
    new_stays t node stay same = then_stays p.table t (insert t p.next node) stay (put_stays t p.next node (λ here. absurd (missing_file here.0 (sym none ∙ here.1))))
      where
        none : kind_at t p.next ≡ missing
        none = same p.next ∙ h.free p.next (omega arith)

    pub made_stays : (names : List (List ℕ)) (node : Node) → Stays p (made p names node).1
    made_stays names node =
        on_keeps (Stays p) p stays_itself (walk p.table 1 (front names)) _ (λ dir way.
        given_keeps (Stays p) p stays_itself (entries_at p.table dir) _ _ (λ es is.
        refuse_keeps (Stays p) p stays_itself (contains_key es (last names)) _ _ (λ free.
        refuse_keeps (Stays p) p stays_itself (is_full es) _ _ (λ room. (
          refl,
          new_stays (entered p.table dir (last names) p.next) node (entered_stays p.table dir (last names) p.next)
              (λ n. ap (λ o. kind_at (changed_entries p.table dir o (λ es. insert es (last names) p.next)) n) is ∙ kind_stays p.table dir es (insert es (last names) p.next) is n),
        )))))

  pub linked_stays : (names new : List (List ℕ)) → Stays p (linked p names new).1
  linked_stays names new =
      on_keeps (Stays p) p stays_itself (walk p.table 1 names) _ (λ number way.
      refuse_keeps (Stays p) p stays_itself (is_some (entries_at p.table number)) _ _ (λ plain.
      on_keeps (Stays p) p stays_itself (walk p.table 1 (front new)) _ (λ dir there.
      given_keeps (Stays p) p stays_itself (entries_at p.table dir) _ _ (λ es is.
      refuse_keeps (Stays p) p stays_itself (contains_key es (last new)) _ _ (λ free.
      refuse_keeps (Stays p) p stays_itself (is_full es) _ _ (λ room.
      refuse_keeps (Stays p) p stays_itself (nat_le 65535 (links_of (get p.table number))) _ _ (λ few. (
        refl,
        then_stays p.table (entered p.table dir (last new) number) (relinked (entered p.table dir (last new) number) number (links_of (get p.table number) + 1))
            (entered_stays p.table dir (last new) number)
            (relinked_stays (entered p.table dir (last new) number) number (links_of (get p.table number) + 1)),
      ))))))))

  pub unlinked_stays : (names : List (List ℕ)) → Stays p (unlinked p names).1
  unlinked_stays names =
      on_keeps (Stays p) p stays_itself (walk p.table 1 (front names)) _ (λ dir way.
      on_keeps (Stays p) p stays_itself (looked_up (entries_at p.table dir) (last names)) _ (λ number is.
      refuse_keeps (Stays p) p stays_itself (is_some (entries_at p.table number)) _ _ (λ plain. (
        refl,
        then_stays p.table (left p.table dir (last names)) (relinked (left p.table dir (last names)) number (links_of (get p.table number) - 1))
            (left_stays p.table dir (last names))
            (relinked_stays (left p.table dir (last names)) number (links_of (get p.table number) - 1)),
      ))))

  gone_stays : (dir number : ℕ) (name : List ℕ) (es : Entries) → entries_at p.table number ≡ Some es
      → FilesStay p.table (remove (left p.table dir name) number)
  gone_stays dir number name es is m here =
      let off = left_stays p.table dir name m here in
      (off.0, (kind_removed (left p.table dir name) number).1 m apart ∙ off.1)
    where
      apart : m ≢ number
      apart s = file_directory here.0 (sym here.1 ∙ ap (kind_at p.table) s ∙ directory_of (get p.table number) es is)

  pub removed_stays : (names : List (List ℕ)) → Stays p (removed p names).1
  removed_stays names =
      on_keeps (Stays p) p stays_itself (walk p.table 1 (front names)) _ (λ dir way.
      on_keeps (Stays p) p stays_itself (looked_up (entries_at p.table dir) (last names)) _ (λ number at.
      given_keeps (Stays p) p stays_itself (entries_at p.table number) _ _ (λ es is.
      refuse_keeps (Stays p) p stays_itself (not (nat_eq (len es) 0)) _ _ (λ bare.
      (refl, gone_stays dir number (last names) es is)))))

  pub moved_stays : (names new : List (List ℕ)) → Stays p (moved p names new).1
  moved_stays names new =
      on_keeps (Stays p) p stays_itself (walk p.table 1 (front names)) _ (λ from way.
      on_keeps (Stays p) p stays_itself (looked_up (entries_at p.table from) (last names)) _ (λ number at.
      on_keeps (Stays p) p stays_itself (walk p.table 1 (front new)) _ (λ dir there.
      given_keeps (Stays p) p stays_itself (entries_at p.table dir) _ _ (λ es is.
      refuse_keeps (Stays p) p stays_itself (contains_key es (last new)) _ _ (λ free.
      refuse_keeps (Stays p) p stays_itself (is_some (entries_at p.table number) && passes p.table 1 (front new) number) _ _ (λ off.
      refuse_keeps (Stays p) p stays_itself (not (nat_eq from dir) && is_full es) _ _ (λ room. (
        refl,
        then_stays p.table (entered p.table dir (last new) number) (left (entered p.table dir (last new) number) from (last names))
            (entered_stays p.table dir (last new) number)
            (left_stays (entered p.table dir (last new) number) from (last names)),
      ))))))))

  pub rewritten_stays : (n : ℕ) (change : List ℕ → List ℕ) → Stays p (record p { table = rewritten p.table n change })
  rewritten_stays n change = (refl, same_kinds p.table (rewritten p.table n change) (same_rewritten p.table n change).1)
