-- Each command keeps the PFSs of a forest consistent.
use Rattle.std.specs.Prelude.{◌≡◌, ◌≢◌, ◌⊎◌, ℕ, zero, suc, ◌+◌, ◌≤◌, ◌^◌, List, [], ◌∷◌, ◌++◌, take, drop, length, cond, Bool, true, false, not, nat_eq, nat_lt, is_some, Option, Some, None, slice_set, All, refl}
use Rattle.std.specs.Ordering.{nat_cmp}
use Rattle.std.specs.Cmp.Lexicographic.{pointwise, slice_cmp}
use Rattle.std.specs.FinMap as map
use Rattle.std.specs.FinMap.{get, contains_key, get-empty}
use Rattle.std.proofs.Common.{ap, sym, ◌∙◌, subst, arith, inl, inr}
use Rattle.std.proofs.lemmas.Bool.{ne_eqb}
use Rattle.std.proofs.lemmas.List.Elements.{All-nil, All-cons, All-head, All-tail, All-push, All-map}
use Rattle.h2_forest.specs.declared.pfs.Pfs.{Pfs}
use Rattle.h2_forest.specs.declared.table.Node.TheVariants.{File, Directory}
use Rattle.h2_forest.specs.Table.{Table, entries_of, without_orphans, rewritten}
use Rattle.h2_forest.specs.Pfs.{made, linked, unlinked, removed, moved, listed, stated}
use Rattle.h2_forest.specs.Forest.{PlainForest, first_from, pfs_named, pfs_with_id, in_pfs, ask_pfs, opened_in, opened, with_file, with_pfs, write_reply, cut_reply, snapshot_reply, create_reply, delete_reply, is_crowded, answer, bare_table, fresh, trim, trimmed, closed, is_named}
use Rattle.h2_forest.specs.Handles.{handles_in}
use Rattle.h2_command.specs.declared.reply.Reply.{Reply}
use Rattle.h2_command.specs.declared.command.Command.{Command}
use Rattle.h2_command.specs.declared.command.Command.TheVariants.{Mkdir, Create, Link, Rm, Rmdir, Mv, Ls, Stat, Attach, Close, ReadAt, WriteAt, Cut, Sync, Bulkfree, Snapshot, PfsCreate, PfsDelete, PfsList}
use Rattle.h2_command.specs.declared.path.Path.{Path}
use Rattle.h2_contents.specs.Bytes.{written_at, cut_to}
use Rattle.h2_contents.specs.Payload.{payload_bytes}
use Rattle.h2_consistent.specs.Consistent.{IsConsistent, AreConsistent}
use Rattle.h2_consistent.proofs.Entries.{EntryName, number_in, entry_at, Exactly, IsReachedBy, root}
use Rattle.h2_consistent.proofs.Counting.{same_number}
use Rattle.h2_consistent.proofs.Agreeing.{missing, directory, due, missing_directory, alike}
use Rattle.h2_consistent.proofs.Tables.{kind_of, kind_at, kind_put, entries_put, has_entry, kind_thinned, entry_thinned}
use Rattle.h2_consistent.proofs.Commands.{given_keeps, refuse_keeps, Holds, IsNew, made_holds, linked_holds, unlinked_holds, removed_holds, moved_holds, rewritten_holds}
use Rattle.h2_consistent.proofs.Consistency.{agrees, consistent}
use Rattle.h2_consistent.proofs.Names.{Agrees}

-- What holds of each PFS of a list

module _ (B : Pfs → Type 0) where
  set_all : (ps : List Pfs) (i : ℕ) (q : Pfs) → B q → All B ps → All B (slice_set ps i q)
  set_all [] i q b h = h
  set_all (x ∷ ps) zero q b h = All-cons B q ps b (All-tail B x ps h)
  set_all (x ∷ ps) (suc i) q b h = All-cons B x (slice_set ps i q) (All-head B x ps h) (set_all ps i q b (All-tail B x ps h))

  remove_all : (ps : List Pfs) (i : ℕ) → All B ps → All B (take i ps ++ drop (suc i) ps)
  remove_all [] zero h = h
  remove_all [] (suc i) h = h
  remove_all (x ∷ ps) zero h = All-tail B x ps h
  remove_all (x ∷ ps) (suc i) h = All-cons B x (take i ps ++ drop (suc i) ps) (All-head B x ps h) (remove_all ps i (All-tail B x ps h))

  none_found : (found : ℕ × Pfs) → None ≡ Some found → ⊥
  none_found found e = cc

  same_found : (x y : ℕ × Pfs) → Some x ≡ Some y → x ≡ y
  same_found x y e = cc

  -- the one that is found is of the list
  pub found_all : (test : Pfs → Bool) (k : ℕ) (ps : List Pfs) (found : ℕ × Pfs) → first_from test k ps ≡ Some found → All B ps → B found.1
  found_all test k [] found e h = absurd (none_found found e)
  found_all test k (x ∷ ps) found e h = by (test x) e (λ later. found_all test (k + 1) ps found later (All-tail B x ps h))
    where
      by : (b : Bool) → cond b (Some (k, x)) (first_from test (k + 1) ps) ≡ Some found → (first_from test (k + 1) ps ≡ Some found → B found.1) → B found.1
      by true e later = subst (λ (w : ℕ × Pfs). B w.1) (same_found (k, x) found e) (All-head B x ps h)
      by false e later = later e

-- What a PFS becomes

nothing : (name : List ℕ) → number_in (Some map.empty) name ≡ None
nothing name = get-empty (slice_cmp nat_cmp) name

new_directory : IsNew (Directory map.empty)
new_directory = (λ n d. ap (λ b. cond b 0 1) (ne_eqb n 1 d), nothing)

new_file : IsNew (File [] 1)
new_file = (λ n d. refl, λ name. refl)

-- without files that have no link
pub thinned_consistent : (p q : Pfs) (kept : ℕ → Bool) → q.next ≡ p.next → q.table ≡ without_orphans p.table kept → IsConsistent p → IsConsistent q
thinned_consistent p q kept next table c =
    consistent q (subst (λ n. Agrees q.table n) (sym next) (subst (λ t. Agrees t p.next) (sym table)
    (alike (entry_at p.table) (entry_at (without_orphans p.table kept)) (kind_at p.table) (kind_at (without_orphans p.table kept)) p.next (entry_thinned p.table kept) (kind_thinned p.table kept) (agrees p c))))

-- a new PFS
pub bare_consistent : (id : ℕ) (name : List ℕ) → IsConsistent (record { id = id; name = name; next = 2; table = bare_table })
bare_consistent id name = consistent (record { id = id; name = name; next = 2; table = bare_table }) (record {
  first = first;
  free = λ n ge. free n ge;
  counts = λ n. counts n (same_number n 1);
  places = λ x n is. has_entry bare_table x n is;
  reached = λ n is. reached n is (same_number n 1);
})
  where
    first : kind_at bare_table 1 ≡ directory
    first = (kind_put map.empty 1 (Directory map.empty)).0

    others : (n : ℕ) → n ≢ 1 → kind_at bare_table n ≡ missing
    others n d = (kind_put map.empty 1 (Directory map.empty)).1 n d ∙ ap kind_of (get-empty nat_cmp n)

    free : (n : ℕ) → 2 ≤ n → kind_at bare_table n ≡ missing
    free n ge = others n (λ s. apart n ge s)
      where
        apart : (n : ℕ) → 2 ≤ n → n ≡ 1 → ⊥
        apart n ge s = omega (arith, s)

    no_entry : (y : EntryName) → entry_at bare_table y ≡ None
    no_entry y =
        entries_put map.empty 1 (Directory map.empty) (λ name. nothing name ∙ sym (ap (λ o. number_in (entries_of o) name) (get-empty nat_cmp 1))) y
        ∙ ap (λ o. number_in (entries_of o) y.1) (get-empty nat_cmp y.0)

    no_number : (n : ℕ) → None ≡ Some n → ⊥
    no_number n e = cc

    none : (n : ℕ) (x : EntryName) → entry_at bare_table x ≡ Some n → ⊥
    none n x at = no_number n (sym (no_entry x) ∙ at)

    counts : (n : ℕ) → ((n ≡ 1) ⊎ (n ≢ 1)) → Exactly (due n (kind_at bare_table n)) (λ x. entry_at bare_table x ≡ Some n)
    counts n (inl s) = subst (λ m. Exactly (due m (kind_at bare_table m)) (λ x. entry_at bare_table x ≡ Some m)) (sym s) (subst (λ k. Exactly (due 1 k) (λ x. entry_at bare_table x ≡ Some 1)) (sym first) (none 1))
    counts n (inr d) = subst (λ k. Exactly (due n k) (λ x. entry_at bare_table x ≡ Some n)) (sym (others n d)) (none n)

    reached : (n : ℕ) → kind_at bare_table n ≡ directory → ((n ≡ 1) ⊎ (n ≢ 1)) → IsReachedBy (entry_at bare_table) n
    reached n is (inl s) = subst (IsReachedBy (entry_at bare_table)) (sym s) root
    reached n is (inr d) = absurd (missing_directory (sym (others n d) ∙ is))

-- What a forest becomes

module _ (f : PlainForest) (h : AreConsistent f) where
  in_pfs_keeps : (name : List ℕ) (command : Pfs → Reply × Pfs) → ((p : Pfs) → Holds p → Holds (command p).1) → AreConsistent (in_pfs f name command).1
  in_pfs_keeps name command step =
      given_keeps AreConsistent f h (pfs_named name f.pfss) _ _ (λ found is.
      set_all IsConsistent f.pfss found.0 (command found.1).1 (consistent (command found.1).1 (step found.1 (agrees found.1 (found_all IsConsistent (λ p. pointwise nat_eq p.name name) 0 f.pfss found is h)))) h)

  ask_pfs_keeps : (name : List ℕ) (question : Pfs → Reply) → AreConsistent (ask_pfs f name question).1
  ask_pfs_keeps name question = given_keeps AreConsistent f h (pfs_named name f.pfss) _ _ (λ found is. h)

  attach_pfss : (client : ℕ) (p : Path) → (answer f client (Attach p)).1.pfss ≡ f.pfss
  attach_pfss client p = grind arith

  read_same : (client number off len : ℕ) → (answer f client (ReadAt number off len)).1 ≡ f
  read_same client number off len = grind arith

  opened_consistent : (o : Option (ℕ × ℕ)) (here : ℕ × (Pfs × ℕ)) → opened_in f o ≡ Some here → IsConsistent here.1.0
  opened_consistent None here e = absurd (nothing_opened here e)
    where
      nothing_opened : (here : ℕ × (Pfs × ℕ)) → None ≡ Some here → ⊥
      nothing_opened here e = cc
  opened_consistent (Some (id, inode)) here e = by (pfs_with_id id f.pfss) refl e
    where
      nothing_opened : (here : ℕ × (Pfs × ℕ)) → None ≡ Some here → ⊥
      nothing_opened here e = cc

      same_opened : (found : ℕ × Pfs) → Some (found.0, (found.1, inode)) ≡ Some here → (found.0, (found.1, inode)) ≡ here
      same_opened found e = cc

      by : (o : Option (ℕ × Pfs)) → pfs_with_id id f.pfss ≡ o → elim o [ Some found ↦ Some (found.0, (found.1, inode)) | None ↦ None ] ≡ Some here → IsConsistent here.1.0
      by None is e = absurd (nothing_opened here e)
      by (Some found) is e = subst (λ (w : ℕ × (Pfs × ℕ)). IsConsistent w.1.0) (same_opened found e) (found_all IsConsistent (λ p. nat_eq p.id id) 0 f.pfss found is h)

  file_keeps : (here : ℕ × (Pfs × ℕ)) (change : List ℕ → List ℕ) → IsConsistent here.1.0 → AreConsistent (with_file f here change)
  file_keeps here change c =
      let q : Pfs = record here.1.0 { table = rewritten here.1.0.table here.1.1 change } in
      set_all IsConsistent f.pfss here.0 q (consistent q (rewritten_holds here.1.0 (agrees here.1.0 c) here.1.1 change)) h

  write_keeps : (client number off : ℕ) (new : List ℕ) → AreConsistent (write_reply f (opened f client number) off new).1
  write_keeps client number off new =
      given_keeps AreConsistent f h (opened f client number) _ _ (λ here is.
      refuse_keeps AreConsistent f h (nat_lt (2 ^ 40) (off + length new)) _ _ (λ short.
      refuse_keeps AreConsistent f h (nat_eq (length new) 0) _ _ (λ some.
      file_keeps here (λ bytes. written_at bytes off new) (opened_consistent (get f.handles (client, number)) here is))))

  cut_keeps : (client number size : ℕ) → AreConsistent (cut_reply f (opened f client number) size).1
  cut_keeps client number size =
      given_keeps AreConsistent f h (opened f client number) _ _ (λ here is.
      refuse_keeps AreConsistent f h (nat_lt (2 ^ 40) size) _ _ (λ short.
      file_keeps here (λ bytes. cut_to bytes size) (opened_consistent (get f.handles (client, number)) here is)))

  with_pfs_keeps : (name : List ℕ) (next : ℕ) (table : Table) → IsConsistent (record { id = f.next_pfs; name = name; next = next; table = table }) → AreConsistent (with_pfs f name next table)
  with_pfs_keeps name next table c = All-push IsConsistent f.pfss (record { id = f.next_pfs; name = name; next = next; table = table }) h c

  snapshot_keeps : (source name : List ℕ) → AreConsistent (snapshot_reply f source name).1
  snapshot_keeps source name =
      given_keeps AreConsistent f h (pfs_named source f.pfss) _ _ (λ found is.
      refuse_keeps AreConsistent f h (is_some (pfs_named name f.pfss)) _ _ (λ new.
      refuse_keeps AreConsistent f h (is_crowded f) _ _ (λ room.
      with_pfs_keeps name found.1.next (without_orphans found.1.table (λ n. false))
      (thinned_consistent found.1 (record { id = f.next_pfs; name = name; next = found.1.next; table = without_orphans found.1.table (λ n. false) }) (λ n. false) refl refl
      (found_all IsConsistent (λ p. pointwise nat_eq p.name source) 0 f.pfss found is h)))))

  create_keeps : (name : List ℕ) → AreConsistent (create_reply f name).1
  create_keeps name =
      refuse_keeps AreConsistent f h (is_some (pfs_named name f.pfss)) _ _ (λ new.
      refuse_keeps AreConsistent f h (is_crowded f) _ _ (λ room.
      with_pfs_keeps name 2 bare_table (bare_consistent f.next_pfs name)))

  delete_keeps : (name : List ℕ) → AreConsistent (delete_reply f name).1
  delete_keeps name =
      given_keeps AreConsistent f h (pfs_named name f.pfss) _ _ (λ found is.
      refuse_keeps AreConsistent f h (nat_lt 0 (handles_in f.handles found.1.id)) _ _ (λ unused.
      remove_all IsConsistent f.pfss found.0 h))

  close_keeps : (client number : ℕ) → AreConsistent (answer f client (Close number)).1
  close_keeps client number = refuse_keeps AreConsistent f h (not (contains_key f.handles (client, number))) _ _ (λ is. h)

  pub answer_consistent : (client : ℕ) (command : Command) → AreConsistent (answer f client command).1
  answer_consistent client (Mkdir p) = in_pfs_keeps p.pfs (λ pfs. made pfs p.names (Directory map.empty)) (λ pfs holds. made_holds pfs holds p.names (Directory map.empty) new_directory)
  answer_consistent client (Create p) = in_pfs_keeps p.pfs (λ pfs. made pfs p.names (File [] 1)) (λ pfs holds. made_holds pfs holds p.names (File [] 1) new_file)
  answer_consistent client (Link p q) = in_pfs_keeps p.pfs (λ pfs. linked pfs p.names q.names) (λ pfs holds. linked_holds pfs holds p.names q.names)
  answer_consistent client (Rm p) = in_pfs_keeps p.pfs (λ pfs. unlinked pfs p.names) (λ pfs holds. unlinked_holds pfs holds p.names)
  answer_consistent client (Rmdir p) = in_pfs_keeps p.pfs (λ pfs. removed pfs p.names) (λ pfs holds. removed_holds pfs holds p.names)
  answer_consistent client (Mv p q) = in_pfs_keeps p.pfs (λ pfs. moved pfs p.names q.names) (λ pfs holds. moved_holds pfs holds p.names q.names)
  answer_consistent client (Ls p) = ask_pfs_keeps p.pfs (λ pfs. listed pfs p.names)
  answer_consistent client (Stat p) = ask_pfs_keeps p.pfs (λ pfs. stated pfs p.names)
  answer_consistent client (Attach p) = subst (All IsConsistent) (sym (attach_pfss client p)) h
  answer_consistent client (Close number) = close_keeps client number
  answer_consistent client (ReadAt number off len) = subst AreConsistent (sym (read_same client number off len)) h
  answer_consistent client (WriteAt number off payload) = write_keeps client number off (payload_bytes payload)
  answer_consistent client (Cut number size) = cut_keeps client number size
  answer_consistent client Sync = h
  answer_consistent client Bulkfree = h
  answer_consistent client (Snapshot source name) = snapshot_keeps source name
  answer_consistent client (PfsCreate name) = create_keeps name
  answer_consistent client (PfsDelete name) = delete_keeps name
  answer_consistent client PfsList = h

pub fresh_consistent : AreConsistent fresh
fresh_consistent = All-push IsConsistent [] (record { id = 1; name = 82 ∷ 79 ∷ 79 ∷ 84 ∷ []; next = 2; table = bare_table }) (All-nil IsConsistent) (bare_consistent 1 (82 ∷ 79 ∷ 79 ∷ 84 ∷ []))

each_implies : (P Q : Pfs → Type 0) → ((p : Pfs) → P p → Q p) → (ps : List Pfs) → All P ps → All Q ps
each_implies P Q step [] h = All-nil Q
each_implies P Q step (x ∷ ps) h = All-cons Q x ps (step x (All-head P x ps h)) (each_implies P Q step ps (All-tail P x ps h))

pub trim_consistent : (f : PlainForest) → AreConsistent f → AreConsistent (trim f)
trim_consistent f h =
    All-map IsConsistent {Y = Pfs} (trimmed f.handles) f.pfss (each_implies IsConsistent (λ p. IsConsistent (trimmed f.handles p)) (λ p c. thinned_consistent p (trimmed f.handles p) (is_named f.handles p.id) refl refl c) f.pfss h)

pub closed_consistent : (f : PlainForest) → AreConsistent f → AreConsistent (closed f)
closed_consistent f h = h
