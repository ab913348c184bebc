-- What each command keeps of a forest, by the few ways in which a command changes one.
use Rattle.std.specs.Prelude.{◌≡◌, ℕ, suc, ◌+◌, List, [], ◌∷◌, cond, Bool, true, false, Option, Some, None, Result, Ok, Err, slice_set, slice_index_or, refl, nat_lt, nat_eq, length, not, is_some, ◌^◌}
use Rattle.std.specs.List.{remove}
use Rattle.std.specs.Cmp.Lexicographic.{pointwise}
use Rattle.std.specs.FinMap as map
use Rattle.std.specs.FinMap.{get, contains_key}
use Rattle.std.proofs.Common.{ap, sym, subst, arith}
use Rattle.h2_command.specs.declared.command.Command.{Command}
use Rattle.h2_command.specs.declared.command.Command.TheVariants.{Mkdir, Create, Link, Rm, Rmdir, Mv, Ls, Stat, Attach, Close, ReadAt, WriteAt, Cut, Sync, Bulkfree, Snapshot, PfsCreate, PfsDelete, PfsList}
use Rattle.h2_command.specs.declared.reply.Reply.{Reply}
use Rattle.h2_command.specs.declared.reply.Reply.TheVariants.{Done, Wrote, NoPfs, Exists, Full, InUse, NoHandle, Long}
use Rattle.h2_command.specs.declared.path.Path.{Path}
use Rattle.h2_contents.specs.Bytes.{written_at, cut_to}
use Rattle.h2_contents.specs.Payload.{payload_bytes}
use Rattle.h2_forest.specs.declared.pfs.Pfs.{Pfs}
use Rattle.h2_forest.specs.declared.table.Node.{Node}
use Rattle.h2_forest.specs.declared.table.Node.TheVariants.{File, Directory}
use Rattle.h2_forest.specs.Table.{Table, rewritten, without_orphans}
use Rattle.h2_forest.specs.Handles.{handles_in}
use Rattle.h2_forest.specs.Steps.{on, given, refuse}
use Rattle.h2_forest.specs.Pfs.{made, linked, unlinked, removed, moved, listed, stated}
use Rattle.h2_forest.specs.Forest.{PlainForest, first_from, pfs_named, pfs_with_id, in_pfs, ask_pfs, opened_in, opened, with_file, with_pfs, write_reply, cut_reply, snapshot_reply, delete_reply, is_crowded, answer, bare_table}

-- What is kept where a step is refused, and where it goes on

module _ {S : Type 0} (P : S → Type 0) where
  pub keeps_on : {A : Type 0} (s : S) (r : Result A Reply) (go : A → Reply × S) → P s → ((x : A) → P (go x).1) → P (on s r go).1
  keeps_on s (Ok x) go base step = step x
  keeps_on s (Err refusal) go base step = base

  pub keeps_given : {A : Type 0} (s : S) (o : Option A) (refusal : Reply) (go : A → Reply × S) → P s → ((x : A) → P (go x).1) → P (given s o refusal go).1
  keeps_given s (Some x) refusal go base step = step x
  keeps_given s None refusal go base step = base

  pub keeps_refuse : (s : S) (b : Bool) (refusal : Reply) (rest : Reply × S) → P s → P rest.1 → P (refuse s b refusal rest).1
  keeps_refuse s true refusal rest base step = base
  keeps_refuse s false refusal rest base step = step

  -- a reply and a state of which P holds, put together as a command is from its steps
  abbrev pub Outcome : Type 0
  Outcome = (r : Reply × S) × P r.1

  abbrev pub goes_on : {A : Type 0} (s : S) → P s → Result A Reply → (A → Outcome) → Outcome
  goes_on s base r go = (on s r (λ x. (go x).0), keeps_on s r (λ x. (go x).0) base (λ x. (go x).1))

  abbrev pub goes_given : {A : Type 0} (s : S) → P s → Option A → Reply → (A → Outcome) → Outcome
  goes_given s base o refusal go = (given s o refusal (λ x. (go x).0), keeps_given s o refusal (λ x. (go x).0) base (λ x. (go x).1))

  abbrev pub goes_unless : (s : S) → P s → Bool → Reply → Outcome → Outcome
  goes_unless s base b refusal rest = (refuse s b refusal rest.0, keeps_refuse s b refusal rest.0 base rest.1)

-- What is found in a list of PFSs

pub none_some : {A : Type 0} (x : A) → None ≡ Some x → ⊥
none_some x e = cc

first_same : (k i : ℕ) (x p : Pfs) → ◌≡◌ {A = Option (ℕ × Pfs)} (Some (k, x)) (Some (i, p)) → (k ≡ i) × (x ≡ p)
first_same k i x p e =
    let pair : ◌≡◌ {A = ℕ × Pfs} (k, x) (i, p) = cc in
    (ap (λ (w : ℕ × Pfs). w.0) pair, ap (λ (w : ℕ × Pfs). w.1) pair)

-- what is found stands at its place
found_at : (test : Pfs → Bool) (k : ℕ) (ps : List Pfs) (i : ℕ) (p : Pfs) → first_from test k ps ≡ Some (i, p) → (j : ℕ) × ((i ≡ k + j) × (slice_index_or ps j p ≡ p))
found_at test k [] i p e = absurd (none_some (i, p) e)
found_at test k (x ∷ ps) i p e = by (test x) e (found_at test (k + 1) ps i p)
  where
    by : (b : Bool) → cond b (Some (k, x)) (first_from test (k + 1) ps) ≡ Some (i, p)
        → (first_from test (k + 1) ps ≡ Some (i, p) → (j : ℕ) × ((i ≡ (k + 1) + j) × (slice_index_or ps j p ≡ p)))
        → (j : ℕ) × ((i ≡ k + j) × (slice_index_or (x ∷ ps) j p ≡ p))
    by true e later = let s = first_same k i x p e in let here : k ≡ i = s.0 in (0, (omega arith, s.1))
    by false e later = let r = later e in let j = r.0 in let there : i ≡ (k + 1) + j = r.1.0 in (suc j, (omega arith, r.1.1))

at_found : (test : Pfs → Bool) (ps : List Pfs) (i : ℕ) (p : Pfs) → first_from test 0 ps ≡ Some (i, p) → slice_index_or ps i p ≡ p
at_found test ps i p e =
    let r = found_at test 0 ps i p e in let j = r.0 in let there : i ≡ 0 + j = r.1.0 in let at : j ≡ i = omega arith in
    subst (λ n. slice_index_or ps n p ≡ p) at r.1.1

opened_at : (f : PlainForest) (o : Option (ℕ × ℕ)) (here : ℕ × (Pfs × ℕ)) → opened_in f o ≡ Some here → slice_index_or f.pfss here.0 here.1.0 ≡ here.1.0
opened_at f None here e = absurd (none_some here e)
opened_at f (Some (id, inode)) here e = by (pfs_with_id id f.pfss) refl e
  where
    by : (o : Option (ℕ × Pfs)) → pfs_with_id id f.pfss ≡ o → elim o [ Some found ↦ Some (found.0, (found.1, inode)) | None ↦ None ] ≡ Some here → slice_index_or f.pfss here.0 here.1.0 ≡ here.1.0
    by None is e = absurd (none_some here e)
    by (Some found) is e = subst (λ (h : ℕ × (Pfs × ℕ)). slice_index_or f.pfss h.0 h.1.0 ≡ h.1.0) (some_here found e) (at_found (λ p. nat_eq p.id id) f.pfss found.0 found.1 is)
      where
        some_here : (found : ℕ × Pfs) → Some (found.0, (found.1, inode)) ≡ Some here → (found.0, (found.1, inode)) ≡ here
        some_here found e = cc

-- The ways in which a command changes a forest

-- a PFS after a command on names or bytes in it
pub record AreSteps (R : Pfs → Pfs → Type 0) : Type 0 where
  pub makes : (p : Pfs) (names : List (List ℕ)) (node : Node) → R p (made p names node).1
  pub links : (p : Pfs) (names new : List (List ℕ)) → R p (linked p names new).1
  pub unlinks : (p : Pfs) (names : List (List ℕ)) → R p (unlinked p names).1
  pub removes : (p : Pfs) (names : List (List ℕ)) → R p (removed p names).1
  pub moves : (p : Pfs) (names new : List (List ℕ)) → R p (moved p names new).1
  pub rewrites : (p : Pfs) (n : ℕ) (change : List ℕ → List ℕ) → R p (record p { table = rewritten p.table n change })

-- P holds still after each of them, where the name of a PFS that comes is New
pub record IsKept (P : PlainForest → Type 0) (R : Pfs → Pfs → Type 0) (New : List ℕ → Type 0) : Type 0 where
  pub same : (f g : PlainForest) → g.pfss ≡ f.pfss → g.next_pfs ≡ f.next_pfs → P f → P g
  pub change : (f : PlainForest) (i : ℕ) (p q : Pfs) → slice_index_or f.pfss i p ≡ p → R p q → P f → P (record f { pfss = slice_set f.pfss i q })
  pub create : (f : PlainForest) (name : List ℕ) → New name → pfs_named name f.pfss ≡ None → P f → P (with_pfs f name 2 bare_table)
  pub copy : (f : PlainForest) (source name : List ℕ) (found : ℕ × Pfs) → New name → pfs_named source f.pfss ≡ Some found → pfs_named name f.pfss ≡ None → P f
      → P (with_pfs f name found.1.next (without_orphans found.1.table (λ n. false)))
  pub delete : (f : PlainForest) (i : ℕ) → P f → P (record f { pfss = remove f.pfss i })

module _ (P : PlainForest → Type 0) (R : Pfs → Pfs → Type 0) (New : List ℕ → Type 0) (steps : AreSteps R) (kept : IsKept P R New) (f : PlainForest) (holds : P f) where
  in_pfs_kept : (name : List ℕ) (command : Pfs → Reply × Pfs) → ((p : Pfs) → R p (command p).1) → P (in_pfs f name command).1
  in_pfs_kept name command step = by (pfs_named name f.pfss) refl
    where
      by : (o : Option (ℕ × Pfs)) → pfs_named name f.pfss ≡ o → P (given f o NoPfs (λ found. ((command found.1).0, record f { pfss = slice_set f.pfss found.0 (command found.1).1 }))).1
      by None is = holds
      by (Some found) is = kept.change f found.0 found.1 (command found.1).1 (at_found (λ p. pointwise nat_eq p.name name) f.pfss found.0 found.1 is) (step found.1) holds

  ask_pfs_kept : (name : List ℕ) (question : Pfs → Reply) → P (ask_pfs f name question).1
  ask_pfs_kept name question = keeps_given P f (pfs_named name f.pfss) NoPfs (λ found. (question found.1, f)) holds (λ found. holds)

  attach_pfss : (client : ℕ) (p : Path) → (answer f client (Attach p)).1.pfss ≡ f.pfss
  attach_pfss client p = grind arith

  attach_next : (client : ℕ) (p : Path) → (answer f client (Attach p)).1.next_pfs ≡ f.next_pfs
  attach_next client p = grind arith

  read_same : (client number off len : ℕ) → (answer f client (ReadAt number off len)).1 ≡ f
  read_same client number off len = grind arith

  closed_kept : (client number : ℕ) → P (record f { handles = map.remove f.handles (client, number) })
  closed_kept client number = kept.same f (record f { handles = map.remove f.handles (client, number) }) refl refl holds

  file_kept : (here : ℕ × (Pfs × ℕ)) (change : List ℕ → List ℕ) → slice_index_or f.pfss here.0 here.1.0 ≡ here.1.0 → P (with_file f here change)
  file_kept here change at = kept.change f here.0 here.1.0 (record here.1.0 { table = rewritten here.1.0.table here.1.1 change }) at (steps.rewrites here.1.0 here.1.1 change) holds

  write_kept : (client number off : ℕ) (new : List ℕ) → P (write_reply f (opened f client number) off new).1
  write_kept client number off new = by (opened f client number) refl
    where
      by : (o : Option (ℕ × (Pfs × ℕ))) → opened f client number ≡ o → P (write_reply f o off new).1
      by None is = holds
      by (Some here) is =
          let done : Reply × PlainForest = (Wrote (length new), with_file f here (λ bytes. written_at bytes off new)) in
          keeps_refuse P f (nat_lt (2 ^ 40) (off + length new)) Long (refuse f (nat_eq (length new) 0) (Wrote 0) done) holds
          (keeps_refuse P f (nat_eq (length new) 0) (Wrote 0) done holds (file_kept here (λ bytes. written_at bytes off new) (opened_at f (get f.handles (client, number)) here is)))

  cut_kept : (client number size : ℕ) → P (cut_reply f (opened f client number) size).1
  cut_kept client number size = by (opened f client number) refl
    where
      by : (o : Option (ℕ × (Pfs × ℕ))) → opened f client number ≡ o → P (cut_reply f o size).1
      by None is = holds
      by (Some here) is = keeps_refuse P f (nat_lt (2 ^ 40) size) Long (Done, with_file f here (λ bytes. cut_to bytes size)) holds (file_kept here (λ bytes. cut_to bytes size) (opened_at f (get f.handles (client, number)) here is))

  new_kept : (name : List ℕ) (next : ℕ) (table : Table) → (pfs_named name f.pfss ≡ None → P (with_pfs f name next table))
      → P (refuse f (is_some (pfs_named name f.pfss)) Exists (refuse f (is_crowded f) Full (Done, with_pfs f name next table))).1
  new_kept name next table more = by (pfs_named name f.pfss) refl
    where
      by : (o : Option (ℕ × Pfs)) → pfs_named name f.pfss ≡ o → P (refuse f (is_some o) Exists (refuse f (is_crowded f) Full (Done, with_pfs f name next table))).1
      by None is = keeps_refuse P f (is_crowded f) Full (Done, with_pfs f name next table) holds (more is)
      by (Some found) is = holds

  snapshot_kept : (source name : List ℕ) → New name → P (snapshot_reply f source name).1
  snapshot_kept source name new = by (pfs_named source f.pfss) refl
    where
      by : (o : Option (ℕ × Pfs)) → pfs_named source f.pfss ≡ o
          → P (given f o NoPfs (λ found. refuse f (is_some (pfs_named name f.pfss)) Exists (refuse f (is_crowded f) Full (Done, with_pfs f name found.1.next (without_orphans found.1.table (λ n. false)))))).1
      by None is = holds
      by (Some found) is = new_kept name found.1.next (without_orphans found.1.table (λ n. false)) (λ absent. kept.copy f source name found new is absent holds)

  delete_kept : (name : List ℕ) → P (delete_reply f name).1
  delete_kept name = by (pfs_named name f.pfss)
    where
      by : (o : Option (ℕ × Pfs)) → P (given f o NoPfs (λ found. refuse f (nat_lt 0 (handles_in f.handles found.1.id)) (InUse (handles_in f.handles found.1.id)) (Done, record f { pfss = remove f.pfss found.0 }))).1
      by None = holds
      by (Some found) = keeps_refuse P f (nat_lt 0 (handles_in f.handles found.1.id)) (InUse (handles_in f.handles found.1.id)) (Done, record f { pfss = remove f.pfss found.0 }) holds (kept.delete f found.0 holds)

  -- P is kept by a command whose name for a PFS that comes is New
  pub answer_kept : (client : ℕ) (command : Command) → ((name : List ℕ) → command ≡ PfsCreate name → New name) → ((source name : List ℕ) → command ≡ Snapshot source name → New name)
      → P (answer f client command).1
  answer_kept client (Mkdir p) new copied = in_pfs_kept p.pfs (λ pfs. made pfs p.names (Directory map.empty)) (λ pfs. steps.makes pfs p.names (Directory map.empty))
  answer_kept client (Create p) new copied = in_pfs_kept p.pfs (λ pfs. made pfs p.names (File [] 1)) (λ pfs. steps.makes pfs p.names (File [] 1))
  answer_kept client (Link p q) new copied = in_pfs_kept p.pfs (λ pfs. linked pfs p.names q.names) (λ pfs. steps.links pfs p.names q.names)
  answer_kept client (Rm p) new copied = in_pfs_kept p.pfs (λ pfs. unlinked pfs p.names) (λ pfs. steps.unlinks pfs p.names)
  answer_kept client (Rmdir p) new copied = in_pfs_kept p.pfs (λ pfs. removed pfs p.names) (λ pfs. steps.removes pfs p.names)
  answer_kept client (Mv p q) new copied = in_pfs_kept p.pfs (λ pfs. moved pfs p.names q.names) (λ pfs. steps.moves pfs p.names q.names)
  answer_kept client (Ls p) new copied = ask_pfs_kept p.pfs (λ pfs. listed pfs p.names)
  answer_kept client (Stat p) new copied = ask_pfs_kept p.pfs (λ pfs. stated pfs p.names)
  answer_kept client (Attach p) new copied = kept.same f (answer f client (Attach p)).1 (attach_pfss client p) (attach_next client p) holds
  answer_kept client (Close number) new copied = keeps_refuse P f (not (contains_key f.handles (client, number))) NoHandle (Done, record f { handles = map.remove f.handles (client, number) }) holds (closed_kept client number)
  answer_kept client (ReadAt number off len) new copied = subst P (sym (read_same client number off len)) holds
  answer_kept client (WriteAt number off payload) new copied = write_kept client number off (payload_bytes payload)
  answer_kept client (Cut number size) new copied = cut_kept client number size
  answer_kept client Sync new copied = holds
  answer_kept client Bulkfree new copied = holds
  answer_kept client (Snapshot source name) new copied = snapshot_kept source name (copied source name refl)
  answer_kept client (PfsCreate name) new copied = new_kept name 2 bare_table (λ absent. kept.create f name (new name refl) absent holds)
  answer_kept client (PfsDelete name) new copied = delete_kept name
  answer_kept client PfsList new copied = holds
