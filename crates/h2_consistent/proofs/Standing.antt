-- Each command keeps the files of open handles, and without the files that have no link only open ones are left.
use Rattle.std.specs.Prelude.{◌≡◌, ◌≢◌, ◌⊎◌, ℕ, ◌+◌, ◌^◌, List, [], ◌∷◌, length, cond, Bool, true, false, not, ◌&&◌, ◌||◌, nat_eq, nat_lt, is_some, Option, Some, None, Ok, IsSome, slice_set, slice_index_or, refl}
use Rattle.std.specs.List.{Contains, remove}
use Rattle.std.specs.Cmp.Lexicographic.{pointwise}
use Rattle.std.specs.FinMap as map
use Rattle.std.specs.FinMap.{get, contains_key, entries, entries_sorted, get-entries, get-empty}
use Rattle.std.proofs.Common.{ap, sym, ◌∙◌, subst, arith, inl, inr}
use Rattle.std.proofs.lemmas.List.Elements.{All-contains, All-contains_itself, Contains-append_left}
use Rattle.h2_forest.specs.declared.pfs.Pfs.{Pfs}
use Rattle.h2_forest.specs.declared.table.Node.{Node}
use Rattle.h2_forest.specs.declared.table.Node.TheVariants.{File, Directory}
use Rattle.h2_forest.specs.Handles.{Handles, handle_cmp, least_free, handles_in}
use Rattle.h2_forest.specs.HandleLaws.{handles_total, exact_handles}
use Rattle.h2_forest.specs.Table.{Table, entries_at, walk, bytes_of, is_orphan, without_orphans, rewritten, links_of}
use Rattle.h2_forest.specs.Pfs.{made, linked, unlinked, removed, moved, listed, stated}
use Rattle.h2_forest.specs.Forest.{PlainForest, pfs_named, in_pfs, ask_pfs, opened, with_file, with_pfs, attached, write_reply, cut_reply, snapshot_reply, create_reply, delete_reply, is_crowded, answer, bare_table, fresh, trim, trimmed, closed, clean, is_named}
use Rattle.h2_command.specs.declared.reply.Reply.{Reply}
use Rattle.h2_command.specs.declared.command.Command.{Command}
use Rattle.h2_command.specs.declared.command.Command.TheVariants.{Mkdir, Create, Link, Rm, Rmdir, Mv, Ls, Stat, Attach, Close, ReadAt, WriteAt, Cut, Sync, Bulkfree, Snapshot, PfsCreate, PfsDelete, PfsList}
use Rattle.h2_contents.specs.Bytes.{written_at, cut_to}
use Rattle.h2_contents.specs.Payload.{payload_bytes}
use Rattle.h2_consistent.specs.Consistent.{IsConsistent, AreConsistent}
use Rattle.h2_consistent.specs.Handles.{HasFile, HandlesStand, IsOpen, OrphansAreOpen, HasNoOrphans}
use Rattle.h2_consistent.proofs.Lookups.{same_key, inserted_here, inserted_there, removed_here, removed_there}
use Rattle.h2_consistent.proofs.Agreeing.{missing_directory}
use Rattle.h2_consistent.proofs.Tables.{thinned}
use Rattle.h2_consistent.proofs.Names.{walk_stands}
use Rattle.h2_consistent.proofs.Commands.{Holds, a_file, on_keeps, given_keeps, refuse_keeps}
use Rattle.h2_consistent.proofs.Listed.{is_equal}
use Rattle.h2_consistent.proofs.Consistency.{agrees}
use Rattle.h2_consistent.proofs.Forests.{found_all, answer_consistent}
use Rattle.h2_consistent.proofs.Staying.{Stays, has_bytes, file_stays, kept_stays, made_stays, linked_stays, unlinked_stays, removed_stays, moved_stays, rewritten_stays}
use Rattle.h2_consistent.proofs.Found.{has_set, has_left, has_mapped, mapped_from, at_found, opened_at, found_counted, found_passes, passes_found}

no_number : (v : ℕ × ℕ) → None ≡ Some v → ⊥
no_number v e = cc

same_number : (u v : ℕ × ℕ) → Some u ≡ Some v → u ≡ v
same_number u v e = cc

both_true : (a b : Bool) → (a && b) ≡ true → (a ≡ true) × (b ≡ true)
both_true true b e = (refl, e)
both_true false b e = absurd (cc)

itself : (n : ℕ) → nat_eq n n ≡ true
itself n = grind arith

-- where no handle is open, each stands
none_open : (f : PlainForest) → f.handles ≡ map.empty → HandlesStand f
none_open f none client handle id number at = absurd (no_number (id, number) (sym (ap (λ (h : Handles). get h (client, handle)) none ∙ get-empty handle_cmp (client, handle)) ∙ at))

pub closed_stand : (f : PlainForest) → HandlesStand (closed f)
closed_stand f = none_open (closed f) refl

pub closed_empty : (f : PlainForest) (client handle : ℕ) → contains_key (closed f).handles (client, handle) ≡ false
closed_empty f client handle = ap is_some (get-empty handle_cmp (client, handle))

pub fresh_stand : HandlesStand fresh
fresh_stand = none_open fresh refl

-- a PFS with a name is one of the forest
named_has : (f : PlainForest) (name : List ℕ) (found : ℕ × Pfs) → pfs_named name f.pfss ≡ Some found
    → Contains f.pfss found.1
named_has f name found is = found_all (Contains f.pfss) (λ p. pointwise nat_eq p.name name) 0 f.pfss found is (All-contains_itself f.pfss)

module _ (f : PlainForest) (stand : HandlesStand f) where
  -- another PFS in the place of one, with its id and its files
  set_stand : (i : ℕ) (p q : Pfs) → slice_index_or f.pfss i p ≡ p → Stays p q
      → HandlesStand (record f { pfss = slice_set f.pfss i q })
  set_stand i p q at stays client handle id number is =
      let here = stand client handle id number is in
      by here (has_set f.pfss i p q here.pfs at here.listed)
    where
      by : (here : HasFile f id number)
          → Contains (slice_set f.pfss i q) here.pfs ⊎ ((here.pfs ≡ p) × Contains (slice_set f.pfss i q) q)
          → HasFile (record f { pfss = slice_set f.pfss i q }) id number
      by here (inl there) = record { pfs = here.pfs; listed = there; id_is = here.id_is; file = here.file }
      by here (inr there) = record {
        pfs = q;
        listed = there.1;
        id_is = stays.0 ∙ ap (λ (x : Pfs). x.id) (sym there.0) ∙ here.id_is;
        file = file_stays p.table q.table number stays.1 (subst (λ (x : Pfs). IsSome (bytes_of (get x.table number))) there.0 here.file);
      }

  push_stand : (name : List ℕ) (next : ℕ) (table : Table) → HandlesStand (with_pfs f name next table)
  push_stand name next table client handle id number is =
      let here = stand client handle id number is in
      record { pfs = here.pfs; listed = Contains-append_left f.pfss (record { id = f.next_pfs; name = name; next = next; table = table } ∷ []) here.pfs here.listed; id_is = here.id_is; file = here.file }

  -- a PFS in which no handle is open goes
  remove_stand : (i : ℕ) (p : Pfs) → slice_index_or f.pfss i p ≡ p → handles_in f.handles p.id ≡ 0
      → HandlesStand (record f { pfss = remove f.pfss i })
  remove_stand i p at none client handle id number is =
      let here = stand client handle id number is in
      by here (has_left f.pfss i p here.pfs at here.listed)
    where
      used : p.id ≡ id → ⊥
      used s = found_counted handle_cmp (λ (at : ℕ × ℕ). nat_eq at.0 p.id) (client, handle) (entries f.handles) (id, number) (sym (get-entries f.handles (client, handle)) ∙ is) (ap (λ n. nat_eq n p.id) (sym s) ∙ itself p.id) none

      by : (here : HasFile f id number) → Contains (remove f.pfss i) here.pfs ⊎ (here.pfs ≡ p)
          → HasFile (record f { pfss = remove f.pfss i }) id number
      by here (inl there) = record { pfs = here.pfs; listed = there; id_is = here.id_is; file = here.file }
      by here (inr s) = absurd (used (sym (ap (λ (x : Pfs). x.id) s) ∙ here.id_is))

  -- a handle of a file is opened
  open_stand : (client handle id number : ℕ) → HasFile f id number
      → HandlesStand (record f { handles = map.insert f.handles (client, handle) (id, number) })
  open_stand client handle id number new c h i n is = by (same_key handles_total exact_handles (c, h) (client, handle))
    where
      g : PlainForest
      g = record f { handles = map.insert f.handles (client, handle) (id, number) }

      here : HasFile f i n → HasFile g i n
      here there = record { pfs = there.pfs; listed = there.listed; id_is = there.id_is; file = there.file }

      by : ((◌≡◌ {A = ℕ × ℕ} (c, h) (client, handle)) ⊎ (◌≢◌ {A = ℕ × ℕ} (c, h) (client, handle))) → HasFile g i n
      by (inl s) =
          let v = same_number (id, number) (i, n) (sym (inserted_here handles_total exact_handles f.handles (client, handle) (id, number)) ∙ sym (ap (get g.handles) s) ∙ is) in
          here (subst (λ (v : ℕ × ℕ). HasFile f v.0 v.1) v new)
      by (inr d) = here (stand c h i n (sym (inserted_there handles_total exact_handles f.handles (client, handle) (id, number) (c, h) d) ∙ is))

  -- a handle is closed
  close_stand : (client handle : ℕ) → HandlesStand (record f { handles = map.remove f.handles (client, handle) })
  close_stand client handle c h i n is = by (same_key handles_total exact_handles (c, h) (client, handle))
    where
      g : PlainForest
      g = record f { handles = map.remove f.handles (client, handle) }

      here : HasFile f i n → HasFile g i n
      here there = record { pfs = there.pfs; listed = there.listed; id_is = there.id_is; file = there.file }

      by : ((◌≡◌ {A = ℕ × ℕ} (c, h) (client, handle)) ⊎ (◌≢◌ {A = ℕ × ℕ} (c, h) (client, handle))) → HasFile g i n
      by (inl s) = absurd (no_number (i, n) (sym (ap (get g.handles) s ∙ removed_here handles_total exact_handles f.handles (client, handle)) ∙ is))
      by (inr d) = here (stand c h i n (sym (removed_there handles_total exact_handles f.handles (client, handle) (c, h) d) ∙ is))

  -- The commands

  in_pfs_stand : (name : List ℕ) (command : Pfs → Reply × Pfs)
      → ((p : Pfs) → Contains f.pfss p → Stays p (command p).1) → HandlesStand (in_pfs f name command).1
  in_pfs_stand name command step =
      given_keeps HandlesStand f stand (pfs_named name f.pfss) _ _ (λ found is.
      set_stand found.0 found.1 (command found.1).1 (at_found (λ p. pointwise nat_eq p.name name) f.pfss found is) (step found.1 (named_has f name found is)))

  ask_pfs_stand : (name : List ℕ) (question : Pfs → Reply) → HandlesStand (ask_pfs f name question).1
  ask_pfs_stand name question = given_keeps HandlesStand f stand (pfs_named name f.pfss) _ _ (λ found is. stand)

  file_stand : (client number : ℕ) (here : ℕ × (Pfs × ℕ)) (change : List ℕ → List ℕ)
      → opened f client number ≡ Some here → HandlesStand (with_file f here change)
  file_stand client number here change is =
      set_stand here.0 here.1.0 (record here.1.0 { table = rewritten here.1.0.table here.1.1 change }) (opened_at f (get f.handles (client, number)) here is) (rewritten_stays here.1.0 here.1.1 change)

  write_stand : (client number off : ℕ) (new : List ℕ) → HandlesStand (write_reply f (opened f client number) off new).1
  write_stand client number off new =
      given_keeps HandlesStand f stand (opened f client number) _ _ (λ here is.
      refuse_keeps HandlesStand f stand (nat_lt (2 ^ 40) (off + length new)) _ _ (λ short.
      refuse_keeps HandlesStand f stand (nat_eq (length new) 0) _ _ (λ some.
      file_stand client number here (λ bytes. written_at bytes off new) is)))

  cut_stand : (client number size : ℕ) → HandlesStand (cut_reply f (opened f client number) size).1
  cut_stand client number size =
      given_keeps HandlesStand f stand (opened f client number) _ _ (λ here is.
      refuse_keeps HandlesStand f stand (nat_lt (2 ^ 40) size) _ _ (λ short.
      file_stand client number here (λ bytes. cut_to bytes size) is))

  snapshot_stand : (source name : List ℕ) → HandlesStand (snapshot_reply f source name).1
  snapshot_stand source name =
      given_keeps HandlesStand f stand (pfs_named source f.pfss) _ _ (λ found is.
      refuse_keeps HandlesStand f stand (is_some (pfs_named name f.pfss)) _ _ (λ new.
      refuse_keeps HandlesStand f stand (is_crowded f) _ _ (λ room.
      push_stand name found.1.next (without_orphans found.1.table (λ n. false)))))

  create_stand : (name : List ℕ) → HandlesStand (create_reply f name).1
  create_stand name =
      refuse_keeps HandlesStand f stand (is_some (pfs_named name f.pfss)) _ _ (λ new.
      refuse_keeps HandlesStand f stand (is_crowded f) _ _ (λ room.
      push_stand name 2 bare_table))

  delete_stand : (name : List ℕ) → HandlesStand (delete_reply f name).1
  delete_stand name =
      given_keeps HandlesStand f stand (pfs_named name f.pfss) _ _ (λ found is.
      refuse_keeps HandlesStand f stand (nat_lt 0 (handles_in f.handles found.1.id)) _ _ (λ unused.
      remove_stand found.0 found.1 (at_found (λ p. pointwise nat_eq p.name name) f.pfss found is) (not_some (handles_in f.handles found.1.id) unused)))
    where
      not_some : (n : ℕ) → nat_lt 0 n ≡ false → n ≡ 0
      not_some n e = grind arith

  close_keeps : (client number : ℕ) → HandlesStand (answer f client (Close number)).1
  close_keeps client number = refuse_keeps HandlesStand f stand (not (contains_key f.handles (client, number))) _ _ (λ is. close_stand client number)

  read_same : (client number off len : ℕ) → (answer f client (ReadAt number off len)).1 ≡ f
  read_same client number off len = grind arith

  module _ (c : AreConsistent f) where
    holds_of : (p : Pfs) → Contains f.pfss p → Holds p
    holds_of p has = agrees p (All-contains IsConsistent f.pfss p c has)

    -- what names lead to is a file where it isn't a directory
    led_to : (p : Pfs) (names : List (List ℕ)) (number : ℕ) → Contains f.pfss p → walk p.table 1 names ≡ Ok number
        → is_some (entries_at p.table number) ≡ false → HasFile f p.id number
    led_to p names number has way plain =
        let h = holds_of p has in
        let there = walk_stands p.table p.next h names 1 number way (λ gone. missing_directory (sym gone ∙ h.first)) in
        record { pfs = p; listed = has; id_is = refl; file = has_bytes (get p.table number) (links_of (get p.table number)) (a_file p h (get p.table number) there plain) }

    attach_stand : (client place : ℕ) (names : List (List ℕ)) (p : Pfs) → Contains f.pfss p
        → HandlesStand (attached f client place names p).1
    attach_stand client place names p has =
        on_keeps HandlesStand f stand (walk p.table 1 names) _ (λ inode way.
        refuse_keeps HandlesStand f stand (is_some (entries_at p.table inode)) _ _ (λ plain.
        given_keeps HandlesStand f stand (least_free f.handles client 0 16) _ _ (λ number free.
        open_stand client number p.id inode (led_to p names inode has way plain))))

    pub answer_stand : (client : ℕ) (command : Command) → HandlesStand (answer f client command).1
    answer_stand client (Mkdir p) = in_pfs_stand p.pfs (λ pfs. made pfs p.names (Directory map.empty)) (λ pfs has. made_stays pfs (holds_of pfs has) p.names (Directory map.empty))
    answer_stand client (Create p) = in_pfs_stand p.pfs (λ pfs. made pfs p.names (File [] 1)) (λ pfs has. made_stays pfs (holds_of pfs has) p.names (File [] 1))
    answer_stand client (Link p q) = in_pfs_stand p.pfs (λ pfs. linked pfs p.names q.names) (λ pfs has. linked_stays pfs p.names q.names)
    answer_stand client (Rm p) = in_pfs_stand p.pfs (λ pfs. unlinked pfs p.names) (λ pfs has. unlinked_stays pfs p.names)
    answer_stand client (Rmdir p) = in_pfs_stand p.pfs (λ pfs. removed pfs p.names) (λ pfs has. removed_stays pfs p.names)
    answer_stand client (Mv p q) = in_pfs_stand p.pfs (λ pfs. moved pfs p.names q.names) (λ pfs has. moved_stays pfs p.names q.names)
    answer_stand client (Ls p) = ask_pfs_stand p.pfs (λ pfs. listed pfs p.names)
    answer_stand client (Stat p) = ask_pfs_stand p.pfs (λ pfs. stated pfs p.names)
    answer_stand client (Attach p) = given_keeps HandlesStand f stand (pfs_named p.pfs f.pfss) _ _ (λ found is. attach_stand client found.0 p.names found.1 (named_has f p.pfs found is))
    answer_stand client (Close number) = close_keeps client number
    answer_stand client (ReadAt number off len) = subst HandlesStand (sym (read_same client number off len)) stand
    answer_stand client (WriteAt number off payload) = write_stand client number off (payload_bytes payload)
    answer_stand client (Cut number size) = cut_stand client number size
    answer_stand client Sync = stand
    answer_stand client Bulkfree = stand
    answer_stand client (Snapshot source name) = snapshot_stand source name
    answer_stand client (PfsCreate name) = create_stand name
    answer_stand client (PfsDelete name) = delete_stand name
    answer_stand client PfsList = stand

  -- files without a link go, but for those that a handle names
  pub trim_stand : HandlesStand (trim f)
  trim_stand client handle id number is =
      let here = stand client handle id number is in
      record {
        pfs = trimmed f.handles here.pfs;
        listed = has_mapped (trimmed f.handles) f.pfss here.pfs here.listed;
        id_is = here.id_is;
        file = kept_stays here.pfs.table (is_named f.handles here.pfs.id) number (named here.pfs here.id_is) here.file;
      }
    where
      named : (p : Pfs) → p.id ≡ id → is_named f.handles p.id number ≡ true
      named p s =
          found_passes handle_cmp (λ (at : ℕ × ℕ). nat_eq at.0 p.id && nat_eq at.1 number) (client, handle) (entries f.handles) (id, number) (sym (get-entries f.handles (client, handle)) ∙ is)
          (ap (λ n. nat_eq n p.id && nat_eq number number) (sym s) ∙ both (nat_eq p.id p.id) (nat_eq number number) (itself p.id) (itself number))
        where
          both : (a b : Bool) → a ≡ true → b ≡ true → (a && b) ≡ true
          both true b d e = e
          both false b d e = d

-- a file that is named has a handle that names it
named_open : (f : PlainForest) (id number : ℕ) → is_named f.handles id number ≡ true → IsOpen f id number
named_open f id number is =
    let at = passes_found handle_cmp (λ (at : ℕ × ℕ). nat_eq at.0 id && nat_eq at.1 number) handles_total exact_handles (entries f.handles) (entries_sorted f.handles) is in
    let same = both_true (nat_eq at.1.0.0 id) (nat_eq at.1.0.1 number) at.1.1.1 in
    (at.0.0, (at.0.1, get-entries f.handles at.0 ∙ at.1.1.0 ∙ pair at.1.0.0 id at.1.0.1 number (is_equal at.1.0.0 id same.0) (is_equal at.1.0.1 number same.1)))
  where
    pair : (a b c d : ℕ) → a ≡ b → c ≡ d → ◌≡◌ {A = Option (ℕ × ℕ)} (Some (a, c)) (Some (b, d))
    pair a b c d e g = ap (λ n. Some (n, c)) e ∙ ap (λ m. Some (b, m)) g

-- an orphan that stays is a kept one
orphan_kept : (kept : Bool) (o : Option Node) → is_orphan (cond (kept || not (is_orphan o)) o None) ≡ true → kept ≡ true
orphan_kept true o e = refl
orphan_kept false o e = by (is_orphan o) refl e
  where
    not_true : false ≡ true → ⊥
    not_true e = cc

    by : (b : Bool) → is_orphan o ≡ b → is_orphan (cond (not b) o None) ≡ true → false ≡ true
    by true is e = e
    by false is e = sym is ∙ e

pub trim_orphans : (f : PlainForest) → OrphansAreOpen (trim f)
trim_orphans f p number has is =
    let from = mapped_from (trimmed f.handles) f.pfss p has in
    let there : is_orphan (get (without_orphans from.0.table (is_named f.handles from.0.id)) number) ≡ true = ap (λ (x : Pfs). is_orphan (get x.table number)) from.1.1 ∙ is in
    let kept = orphan_kept (is_named f.handles from.0.id number) (get from.0.table number) (ap is_orphan (sym (thinned from.0.table (is_named f.handles from.0.id) number)) ∙ there) in
    named_open f p.id number (subst (λ id. is_named f.handles id number ≡ true) (ap (λ (x : Pfs). x.id) from.1.1) kept)

pub clean_orphans : (f : PlainForest) → HasNoOrphans (clean f)
clean_orphans f p number has = by (is_orphan (get p.table number)) refl
  where
    by : (b : Bool) → is_orphan (get p.table number) ≡ b → b ≡ false
    by false is = refl
    by true is =
        let at = trim_orphans (closed f) p number has is in
        absurd (no_number (p.id, number) (sym (get-empty handle_cmp (at.0, at.1.0)) ∙ at.1.1))

-- consistent, and each handle's file stands
abbrev pub Sound : PlainForest → Type 0
Sound f = AreConsistent f × HandlesStand f

pub sound_kept : (f : PlainForest) (client : ℕ) (command : Command) → Sound f → Sound (answer f client command).1
sound_kept f client command h = (answer_consistent f h.0 client command, answer_stand f h.1 h.0 client command)
