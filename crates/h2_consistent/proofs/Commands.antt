-- Each command on names in a PFS keeps the agreement of its entries and inodes.
use Rattle.std.specs.Prelude.{◌≡◌, ◌≢◌, ◌⊎◌, ℕ, suc, ◌+◌, ◌-◌, ◌<◌, ◌≤◌, List, Bool, true, false, not, cond, ◌&&◌, nat_eq, nat_le, is_some, Option, Some, None, Result, Ok, Err, refl}
use Rattle.std.specs.FinMap.{get, insert, remove, contains_key, len}
use Rattle.std.proofs.Common.{ap, sym, ◌∙◌, subst, arith, inl, inr}
use Rattle.std.proofs.lemmas.Bool.{ne_eqb, cases_lt}
use Rattle.h2_forest.specs.declared.pfs.Pfs.{Pfs}
use Rattle.h2_forest.specs.declared.table.Node.{Node}
use Rattle.h2_forest.specs.declared.table.Node.TheVariants.{File, Directory}
use Rattle.h2_forest.specs.Node.{Entries}
use Rattle.h2_forest.specs.Table.{Table, entries_of, entries_at, looked_up, entered, left, links_of, relinked, rewritten, walk, passes}
use Rattle.h2_forest.specs.Steps.{on, given, refuse}
use Rattle.h2_forest.specs.Pfs.{front, last, is_full, made, linked, unlinked, removed, moved}
use Rattle.h2_command.specs.declared.reply.Reply.{Reply}
use Rattle.h2_consistent.proofs.Entries.{EntryName, number_in, entry_at, Exactly, IsReachedBy, root}
use Rattle.h2_consistent.proofs.Counting.{same_number}
use Rattle.h2_consistent.proofs.Agreeing.{Kind, missing, directory, file, due, Entry, Changed, Turned, missing_directory, missing_file, file_directory, named_stands, named_other, alike, comes, goes, moves, reach_others}
use Rattle.h2_consistent.proofs.Tables.{kind_of, kind_at, directory_of, entries_there, nothing_in, has_entry, kind_put, entries_put, kind_entered, entry_entered, kind_left, entry_left, kind_relinked, entry_relinked, same_rewritten, nothing_there, kind_removed, entry_removed}
use Rattle.h2_consistent.proofs.Names.{Agrees, looked_entry, walk_stands, walk_reached}

-- What holds where a step is refused, and where it goes on

module _ {S : Type 0} (B : S → Type 0) (s : S) (base : B s) where
  pub on_keeps : {A : Type 0} (r : Result A Reply) (go : A → Reply × S) → ((x : A) → r ≡ Ok x → B (go x).1) → B (on s r go).1
  on_keeps (Ok x) go step = step x refl
  on_keeps (Err refusal) go step = base

  pub given_keeps : {A : Type 0} (o : Option A) (refusal : Reply) (go : A → Reply × S) → ((x : A) → o ≡ Some x → B (go x).1) → B (given s o refusal go).1
  given_keeps (Some x) refusal go step = step x refl
  given_keeps None refusal go step = base

  pub refuse_keeps : (b : Bool) (refusal : Reply) (rest : Reply × S) → (b ≡ false → B rest.1) → B (refuse s b refusal rest).1
  refuse_keeps true refusal rest step = base
  refuse_keeps false refusal rest step = step refl

-- a PFS whose entries and inodes agree
abbrev pub Holds : Pfs → Type 0
Holds p = Agrees p.table p.next

no_key : (es : Entries) (name : List ℕ) → contains_key es name ≡ false → get es name ≡ None
no_key es name e = by (get es name) refl e
  where
    by : (o : Option ℕ) → get es name ≡ o → is_some o ≡ false → o ≡ None
    by None is e = refl
    by (Some n) is e = absurd (cc)

-- a name without an entry
vacant : (t : Table) (dir : ℕ) (name : List ℕ) (es : Entries) → entries_at t dir ≡ Some es → contains_key es name ≡ false → entry_at t (dir, name) ≡ None
vacant t dir name es is e = ap (λ w. number_in w name) is ∙ no_key es name e

then_same : (e g h : Entry) (x : EntryName) (o : Option ℕ) → Changed e g x o → ((y : EntryName) → h y ≡ g y) → Changed e h x o
then_same e g h x o c same = (same x ∙ c.0, λ y d. same y ∙ c.1 y d)

same_then : (kind mid turn : ℕ → Kind) (n : ℕ) (k : Kind) → ((m : ℕ) → mid m ≡ kind m) → Turned mid turn n k → Turned kind turn n k
same_then kind mid turn n k same t = (t.0, λ m d. t.1 m d ∙ same m)

not_other : (k l : Kind) → k ≢ l → (m : Kind) → m ≡ k → m ≢ l
not_other k l d m e s = d (sym e ∙ s)

-- a new inode is a directory or a file with one link, without entries
abbrev pub IsNew : Node → Type 0
IsNew node = ((n : ℕ) → n ≢ 1 → due n (kind_of (Some node)) ≡ 1) × ((name : List ℕ) → number_in (entries_of (Some node)) name ≡ None)

module _ (p : Pfs) (h : Holds p) where
  made_there : (dir : ℕ) (name : List ℕ) (node : Node) (es : Entries) → IsNew node → entries_at p.table dir ≡ Some es → contains_key es name ≡ false
      → Holds (record p { next = p.next + 1; table = insert (entered p.table dir name p.next) p.next node })
  made_there dir name node es new is free =
      comes (entry_at p.table) (entry_at t2) (kind_at p.table) (kind_at t2) p.next (p.next + 1) (dir, name) p.next (kind_of (Some node))
      (then_same (entry_at p.table) (entry_at t1) (entry_at t2) (dir, name) (Some p.next) (entry_entered p.table dir es is name p.next) same)
      (same_then (kind_at p.table) (kind_at t1) (kind_at t2) p.next (kind_of (Some node)) (kind_entered p.table dir es is name p.next) (kind_put t1 p.next node))
      (vacant p.table dir name es is free) (directory_of (get p.table dir) es is)
      (λ d. missing_directory (sym none ∙ d))
      (new.0 p.next apart ∙ sym (ap (λ k. suc (due p.next k)) none))
      (omega arith) (omega arith) h
    where
      t1 : Table
      t1 = entered p.table dir name p.next

      t2 : Table
      t2 = insert t1 p.next node

      none : kind_at p.table p.next ≡ missing
      none = h.free p.next (omega arith)

      apart : p.next ≢ 1
      apart s = missing_directory (sym none ∙ ap (kind_at p.table) s ∙ h.first)

      same : (y : EntryName) → entry_at t2 y ≡ entry_at t1 y
      same y = entries_put t1 p.next node (λ m. new.1 m ∙ sym (nothing_in (get t1 p.next) m (λ d. missing_directory (sym none ∙ sym (kind_entered p.table dir es is name p.next p.next) ∙ d)))) y

  pub made_holds : (names : List (List ℕ)) (node : Node) → IsNew node → Holds (made p names node).1
  made_holds names node new =
      on_keeps Holds p h (walk p.table 1 (front names)) _ (λ dir way.
      given_keeps Holds p h (entries_at p.table dir) _ _ (λ es is.
      refuse_keeps Holds p h (contains_key es (last names)) _ _ (λ free.
      refuse_keeps Holds p h (is_full es) _ _ (λ room.
      made_there dir (last names) node es new is free))))

  -- a number that is no directory and isn't missing is a file's
  pub a_file : (o : Option Node) → kind_of o ≢ missing → is_some (entries_of o) ≡ false → kind_of o ≡ file (links_of o)
  a_file (Some (File bytes links)) stands plain = refl
  a_file (Some (Directory es)) stands plain = absurd (cc)
  a_file None stands plain = absurd (stands refl)

  linked_there : (dir : ℕ) (name : List ℕ) (number : ℕ) (es : Entries) → kind_at p.table number ≡ file (links_of (get p.table number)) → entries_at p.table dir ≡ Some es → contains_key es name ≡ false
      → Holds (record p { table = relinked (entered p.table dir name number) number (links_of (get p.table number) + 1) })
  linked_there dir name number es is_file is free =
      comes (entry_at p.table) (entry_at t2) (kind_at p.table) (kind_at t2) p.next p.next (dir, name) number (file (l + 1))
      (then_same (entry_at p.table) (entry_at t1) (entry_at t2) (dir, name) (Some number) (entry_entered p.table dir es is name number) (entry_relinked t1 number l (l + 1) there))
      (same_then (kind_at p.table) (kind_at t1) (kind_at t2) number (file (l + 1)) (kind_entered p.table dir es is name number) (kind_relinked t1 number l (l + 1) there))
      (vacant p.table dir name es is free) (directory_of (get p.table dir) es is)
      (λ d. file_directory l (sym is_file ∙ d))
      (more l ∙ sym (ap (λ k. suc (due number k)) is_file))
      (omega arith) (low number (λ gone. missing_file l (sym gone ∙ is_file))) h
    where
      l : ℕ
      l = links_of (get p.table number)

      t1 : Table
      t1 = entered p.table dir name number

      t2 : Table
      t2 = relinked t1 number (l + 1)

      there : kind_at t1 number ≡ file l
      there = kind_entered p.table dir es is name number number ∙ is_file

      more : (k : ℕ) → k + 1 ≡ suc k
      more k = omega arith

      low : (n : ℕ) → kind_at p.table n ≢ missing → n < p.next
      low n stands = by (cases_lt n p.next)
        where
          by : ((n < p.next) ⊎ (p.next ≤ n)) → n < p.next
          by (inl lt) = lt
          by (inr ge) = absurd (stands (h.free n ge))

  pub linked_holds : (names new : List (List ℕ)) → Holds (linked p names new).1
  linked_holds names new =
      on_keeps Holds p h (walk p.table 1 names) _ (λ number way.
      refuse_keeps Holds p h (is_some (entries_at p.table number)) _ _ (λ plain.
      on_keeps Holds p h (walk p.table 1 (front new)) _ (λ dir there.
      given_keeps Holds p h (entries_at p.table dir) _ _ (λ es is.
      refuse_keeps Holds p h (contains_key es (last new)) _ _ (λ free.
      refuse_keeps Holds p h (is_full es) _ _ (λ room.
      refuse_keeps Holds p h (nat_le 65535 (links_of (get p.table number))) _ _ (λ few.
      linked_there dir (last new) number es
      (a_file (get p.table number) (walk_stands p.table p.next h names 1 number way (λ gone. missing_directory (sym gone ∙ h.first))) plain) is free)))))))

  unlinked_there : (dir : ℕ) (name : List ℕ) (number : ℕ) → entry_at p.table (dir, name) ≡ Some number → is_some (entries_at p.table number) ≡ false
      → Holds (record p { table = relinked (left p.table dir name) number (links_of (get p.table number) - 1) })
  unlinked_there dir name number had plain =
      goes (entry_at p.table) (entry_at t2) (kind_at p.table) (kind_at t2) p.next (dir, name) number (file (l - 1))
      (then_same (entry_at p.table) (entry_at t1) (entry_at t2) (dir, name) None (entry_left p.table dir es.0 es.1 name) (entry_relinked t1 number l (l - 1) there))
      (same_then (kind_at p.table) (kind_at t1) (kind_at t2) number (file (l - 1)) (kind_left p.table dir es.0 es.1 name) (kind_relinked t1 number l (l - 1) there))
      had (file_directory (l - 1)) (ap (due number) is_file ∙ some l linked_once) bare h
    where
      l : ℕ
      l = links_of (get p.table number)

      es : (es : Entries) × (entries_at p.table dir ≡ Some es)
      es = entries_there (get p.table dir) (has_entry p.table (dir, name) number had)

      is_file : kind_at p.table number ≡ file l
      is_file = a_file (get p.table number) (named_stands (entry_at p.table) (kind_at p.table) p.next h (dir, name) number had) plain

      t1 : Table
      t1 = left p.table dir name

      t2 : Table
      t2 = relinked t1 number (l - 1)

      there : kind_at t1 number ≡ file l
      there = kind_left p.table dir es.0 es.1 name number ∙ is_file

      -- an entry names it, so it has a link
      linked_once : l ≢ 0
      linked_once none = subst (λ k. Exactly k (λ y. entry_at p.table y ≡ Some number)) none (subst (λ k. Exactly (due number k) (λ y. entry_at p.table y ≡ Some number)) is_file (h.counts number)) (dir, name) had

      some : (k : ℕ) → k ≢ 0 → k ≡ suc (k - 1)
      some k d = by (same_number k 0)
        where
          by : ((k ≡ 0) ⊎ (k ≢ 0)) → k ≡ suc (k - 1)
          by (inl s) = absurd (d s)
          by (inr off) = omega (arith, off)

      bare : (y : EntryName) (m : ℕ) → entry_at p.table y ≡ Some m → y.0 ≢ number
      bare y m is s = file_directory l (sym is_file ∙ sym (ap (kind_at p.table) s) ∙ has_entry p.table y m is)

  pub unlinked_holds : (names : List (List ℕ)) → Holds (unlinked p names).1
  unlinked_holds names =
      on_keeps Holds p h (walk p.table 1 (front names)) _ (λ dir way.
      on_keeps Holds p h (looked_up (entries_at p.table dir) (last names)) _ (λ number is.
      refuse_keeps Holds p h (is_some (entries_at p.table number)) _ _ (λ plain.
      unlinked_there dir (last names) number (looked_entry p.table dir (last names) number is) plain)))

  removed_there : (dir : ℕ) (name : List ℕ) (number : ℕ) (es : Entries) → entry_at p.table (dir, name) ≡ Some number → entries_at p.table number ≡ Some es → len es ≡ 0
      → Holds (record p { table = remove (left p.table dir name) number })
  removed_there dir name number es had is bare =
      goes (entry_at p.table) (entry_at t2) (kind_at p.table) (kind_at t2) p.next (dir, name) number missing
      (then_same (entry_at p.table) (entry_at t1) (entry_at t2) (dir, name) None changed (entry_removed t1 number nothing))
      (same_then (kind_at p.table) (kind_at t1) (kind_at t2) number missing (kind_left p.table dir up.0 up.1 name) (kind_removed t1 number))
      had missing_directory (ap (due number) is_directory ∙ ap (λ b. cond b 0 1) (ne_eqb number 1 (named_other (entry_at p.table) (kind_at p.table) p.next h (dir, name) number had))) empty_there h
    where
      up : (es : Entries) × (entries_at p.table dir ≡ Some es)
      up = entries_there (get p.table dir) (has_entry p.table (dir, name) number had)

      is_directory : kind_at p.table number ≡ directory
      is_directory = directory_of (get p.table number) es is

      t1 : Table
      t1 = left p.table dir name

      t2 : Table
      t2 = remove t1 number

      changed : Changed (entry_at p.table) (entry_at t1) (dir, name) None
      changed = entry_left p.table dir up.0 up.1 name

      no_number : (m : ℕ) → None ≡ Some m → ⊥
      no_number m e = cc

      empty_there : (y : EntryName) (m : ℕ) → entry_at p.table y ≡ Some m → y.0 ≢ number
      empty_there y m at s = no_number m (sym (nothing_there p.table number es is bare y.1) ∙ sym (ap (λ n. number_in (entries_at p.table n) y.1) s) ∙ at)

      nothing : (m : List ℕ) → number_in (entries_at t1 number) m ≡ None
      nothing m = changed.1 (number, m) (λ s. empty_there (dir, name) number had (sym (ap (λ (w : EntryName). w.0) s))) ∙ nothing_there p.table number es is bare m

  pub removed_holds : (names : List (List ℕ)) → Holds (removed p names).1
  removed_holds names =
      on_keeps Holds p h (walk p.table 1 (front names)) _ (λ dir way.
      on_keeps Holds p h (looked_up (entries_at p.table dir) (last names)) _ (λ number at.
      given_keeps Holds p h (entries_at p.table number) _ _ (λ es is.
      refuse_keeps Holds p h (not (nat_eq (len es) 0)) _ _ (λ bare.
      removed_there dir (last names) number es (looked_entry p.table dir (last names) number at) is (is_zero (len es) bare)))))
    where
      is_zero : (n : ℕ) → not (nat_eq n 0) ≡ false → n ≡ 0
      is_zero n e = by (same_number n 0)
        where
          not_false : not false ≡ false → ⊥
          not_false e = cc

          by : ((n ≡ 0) ⊎ (n ≢ 0)) → n ≡ 0
          by (inl s) = s
          by (inr d) = absurd (not_false (subst (λ b. not b ≡ false) (ne_eqb n 0 d) e))

  moved_there : (from dir : ℕ) (old new : List ℕ) (number : ℕ) (es : Entries) (names : List (List ℕ)) → entry_at p.table (from, old) ≡ Some number → walk p.table 1 names ≡ Ok dir → entries_at p.table dir ≡ Some es → contains_key es new ≡ false
      → (is_some (entries_at p.table number) && passes p.table 1 names number) ≡ false
      → Holds (record p { table = left (entered p.table dir new number) from old })
  moved_there from dir old new number es names had way is free off =
      moves (entry_at p.table) (entry_at t1) (entry_at t2) (kind_at p.table) (kind_at t2) p.next (from, old) (dir, new) number first then kinds had empty_place in_directory (there (same_kind (kind_at p.table number))) h
    where
      t1 : Table
      t1 = entered p.table dir new number

      t2 : Table
      t2 = left t1 from old

      up : (es : Entries) × (entries_at t1 from ≡ Some es)
      up = entries_there (get t1 from) (kind_entered p.table dir es is new number from ∙ has_entry p.table (from, old) number had)

      first : Changed (entry_at p.table) (entry_at t1) (dir, new) (Some number)
      first = entry_entered p.table dir es is new number

      then : Changed (entry_at t1) (entry_at t2) (from, old) None
      then = entry_left t1 from up.0 up.1 old

      kinds : (m : ℕ) → kind_at t2 m ≡ kind_at p.table m
      kinds m = kind_left t1 from up.0 up.1 old m ∙ kind_entered p.table dir es is new number m

      empty_place : entry_at p.table (dir, new) ≡ None
      empty_place = vacant p.table dir new es is free

      in_directory : kind_at p.table dir ≡ directory
      in_directory = directory_of (get p.table dir) es is

      no_number : (m : ℕ) → None ≡ Some m → ⊥
      no_number m e = cc

      same_some : (m n : ℕ) → Some m ≡ Some n → m ≡ n
      same_some m n e = cc

      stay : (y : EntryName) (m : ℕ) → entry_at p.table y ≡ Some m → m ≢ number → entry_at t2 y ≡ Some m
      stay y m at d =
          then.1 y (λ s. d (sym (same_some number m (sym had ∙ subst (λ z. entry_at p.table z ≡ Some m) s at))))
          ∙ first.1 y (λ s. no_number m (sym empty_place ∙ subst (λ z. entry_at p.table z ≡ Some m) s at)) ∙ at

      same_kind : (k : Kind) → (k ≡ directory) ⊎ (k ≢ directory)
      same_kind directory = inl refl
      same_kind missing = inr missing_directory
      same_kind (file l) = inr (file_directory l)

      there : ((kind_at p.table number ≡ directory) ⊎ (kind_at p.table number ≢ directory)) → IsReachedBy (entry_at t2) dir
      there (inl d) =
          let some : is_some (entries_at p.table number) ≡ true = ap is_some (entries_there (get p.table number) d).1 in
          walk_reached p.table (entry_at t2) number stay names 1 dir way (subst (λ b. (b && passes p.table 1 names number) ≡ false) some off) root
      there (inr d) =
          reach_others (entry_at p.table) (entry_at t2) number stay (λ y m at s. d (sym (ap (kind_at p.table) s) ∙ has_entry p.table y m at)) dir (h.reached dir in_directory) (λ s. d (sym (ap (kind_at p.table) s) ∙ in_directory))

  pub moved_holds : (names new : List (List ℕ)) → Holds (moved p names new).1
  moved_holds names new =
      on_keeps Holds p h (walk p.table 1 (front names)) _ (λ from way.
      on_keeps Holds p h (looked_up (entries_at p.table from) (last names)) _ (λ number at.
      on_keeps Holds p h (walk p.table 1 (front new)) _ (λ dir there.
      given_keeps Holds p h (entries_at p.table dir) _ _ (λ es is.
      refuse_keeps Holds p h (contains_key es (last new)) _ _ (λ free.
      refuse_keeps Holds p h (is_some (entries_at p.table number) && passes p.table 1 (front new) number) _ _ (λ off.
      refuse_keeps Holds p h (not (nat_eq from dir) && is_full es) _ _ (λ room.
      moved_there from dir (last names) (last new) number es (front new) (looked_entry p.table from (last names) number at) there is free off)))))))

  pub rewritten_holds : (n : ℕ) (change : List ℕ → List ℕ) → Holds (record p { table = rewritten p.table n change })
  rewritten_holds n change =
      let same = same_rewritten p.table n change in
      alike (entry_at p.table) (entry_at (rewritten p.table n change)) (kind_at p.table) (kind_at (rewritten p.table n change)) p.next same.0 (λ m. inl (same.1 m)) h
