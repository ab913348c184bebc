use Rattle.std.proofs.Common.{◌≡◌, ◌∙◌, ℕ, [], ◌∷◌, Option, IsSome, arith, ap, sym, subst, refl}
use Rattle.std.specs.Ordering.{nat_cmp, eq_by_cmp}
use Rattle.std.specs.FinMap.{get, empty, get-empty}
use Rattle.h2_command.specs.declared.command.Command.TheVariants.{ReadAt}
use Rattle.h2_command.specs.declared.reply.Reply.TheVariants.{Got, NoHandle}
use Rattle.h2_forest.specs.declared.pfs.Pfs.{Pfs}
use Rattle.h2_forest.specs.declared.table.Node.{Node}
use Rattle.h2_forest.specs.Handles.{Handles, handle_cmp}
use Rattle.h2_forest.specs.Steps.{given}
use Rattle.h2_forest.specs.Table.{bytes_of}
use Rattle.h2_forest.specs.Forest.{PlainForest, opened_in, read_reply, answer}
use Rattle.h2_consistent.specs.Handles.{HasFile, HandlesStand, IsOpen}
use Rattle.h2_worked_rows.specs.Forests.{pfs_of, one_file, file_forest, one_handle}
use Rattle.h2_worked_rows.proofs.Lists.{only_one, the_one}
use Rattle.h2_worked_rows.proofs.Maps.{file_if, file_at, handle_at, named_by, not_some, not_none}
use Rattle.h2_worked_rows.proofs.handles.worked_handles_law.Goals as goal

has_file : (handles : Handles) → HasFile (file_forest 1 handles) 1 2
has_file handles = record { pfs = pfs_of 1 97 3 (one_file 1); listed = the_one (pfs_of 1 97 3 (one_file 1)); id_is = refl; file = subst (λ o. IsSome (bytes_of o)) (sym (file_at 1 2)) refl }

-- the only PFS has the id 1 and the file
id_of : (handles : Handles) (id number : ℕ) → HasFile (file_forest 1 handles) id number → 1 ≡ id
id_of handles id number h = ap (λ (p : Pfs). p.id) (only_one (pfs_of 1 97 3 (one_file 1)) h.pfs h.listed) ∙ h.id_is

file_of : (handles : Handles) (id number : ℕ) → HasFile (file_forest 1 handles) id number → IsSome (bytes_of (file_if 1 (eq_by_cmp nat_cmp number 2)))
file_of handles id number h =
    let there = subst (λ (p : Pfs). IsSome (bytes_of (get p.table number))) (sym (only_one (pfs_of 1 97 3 (one_file 1)) h.pfs h.listed)) h.file in
    subst (λ o. IsSome (bytes_of o)) (file_at 1 number) there

three_not : (handles : Handles) (id : ℕ) → HasFile (file_forest 1 handles) id 3 → ⊥
three_not handles id h = not_some (file_of handles id 3 h)

stands : HandlesStand (file_forest 1 (one_handle 1 2))
stands client handle id number at =
    subst (λ (x : ℕ × ℕ). HasFile (file_forest 1 (one_handle 1 2)) x.0 x.1) (named_by 1 2 (eq_by_cmp handle_cmp (client, handle) (0, 0)) (id, number) (sym (handle_at 1 2 client handle) ∙ at)) (has_file (one_handle 1 2))

not_open : IsOpen (file_forest 1 (one_handle 1 2)) 1 3 → ⊥
not_open (client, (handle, at)) =
    let e = named_by 1 2 (eq_by_cmp handle_cmp (client, handle) (0, 0)) (1, 3) (sym (handle_at 1 2 client handle) ∙ at) in
    absurd (let is : 2 ≡ 3 = ap (λ (x : ℕ × ℕ). x.1) e in omega arith)

abbrev open_forest : PlainForest
open_forest = file_forest 1 (one_handle 1 2)

reply : (answer open_forest 0 (ReadAt 0 1 2)).0 ≡ Got (6 ∷ 7 ∷ [])
reply =
    ap (λ (o : Option (ℕ × ℕ)). (given open_forest (opened_in open_forest o) NoHandle (λ file. read_reply open_forest (bytes_of (get file.1.0.table file.1.1)) 1 2)).0) (handle_at 1 2 0 0)
    ∙ ap (λ (o : Option Node). (read_reply open_forest (bytes_of o) 1 2).0) (file_at 1 2)

refused : (answer open_forest 0 (ReadAt 1 1 2)).0 ≡ NoHandle
refused = ap (λ (o : Option (ℕ × ℕ)). (given open_forest (opened_in open_forest o) NoHandle (λ file. read_reply open_forest (bytes_of (get file.1.0.table file.1.1)) 1 2)).0) (handle_at 1 2 0 1)

pub returns : goal.returns
unfolding has_file
returns c = record {
  file = has_file empty;
  no_number = three_not empty 1;
  no_pfs = λ h. absurd (let is : 1 ≡ 2 = id_of empty 2 2 h in omega arith);
  stands = stands;
  none = λ client handle id number at. absurd (not_none (id, number) (sym (get-empty handle_cmp (client, handle)) ∙ at));
  dangling = λ stand. three_not (one_handle 1 3) 1 (stand 0 0 1 3 (handle_at 1 3 0 0));
  is_open = (0, (0, handle_at 1 2 0 0));
  not_open = not_open;
  reply = reply;
  refused = refused;
  read = record { id = 1; number = 2; held = handle_at 1 2 0 0; file = has_file (one_handle 1 2); bytes = 5 ∷ 6 ∷ 7 ∷ []; bytes_are = ap bytes_of (file_at 1 2); reply_is = reply };
  not_read = λ r. not_none (r.id, r.number) (sym (handle_at 1 2 0 1) ∙ r.held);
}
