use Rattle.std.proofs.Common.{◌≡◌, ◌∙◌, ℕ, [], ◌∷◌, Bool, true, false, arith, ap, sym, subst, refl}
use Rattle.std.specs.List.{Contains}
use Rattle.std.specs.Ordering.{nat_cmp, eq_by_cmp}
use Rattle.std.specs.FinMap.{get, empty, get-empty}
use Rattle.h2_forest.specs.declared.pfs.Pfs.{Pfs}
use Rattle.h2_forest.specs.Handles.{handle_cmp}
use Rattle.h2_forest.specs.Table.{is_orphan}
use Rattle.h2_consistent.specs.Handles.{IsOpen, HasNoOrphans}
use Rattle.h2_worked_rows.specs.Forests.{pfs_of, one_file, file_forest, one_handle}
use Rattle.h2_worked_rows.proofs.Lists.{only_one, the_one}
use Rattle.h2_worked_rows.proofs.Maps.{equal_number, file_if, file_at, handle_at, named_by, not_some, not_none}
use Rattle.h2_worked_rows.proofs.handles.worked_orphans_law.Goals as goal

abbrev the_pfs : ℕ → Pfs
the_pfs links = pfs_of 1 97 3 (one_file links)

-- what is an orphan of the only PFS
orphan_of : (links number : ℕ) (b : Bool) (p : Pfs) → Contains (the_pfs links ∷ []) p → is_orphan (get p.table number) ≡ b → is_orphan (file_if links (eq_by_cmp nat_cmp number 2)) ≡ b
orphan_of links number b p listed is =
    ap is_orphan (sym (file_at links number)) ∙ subst (λ (q : Pfs). is_orphan (get q.table number) ≡ b) (sym (only_one (the_pfs links) p listed)) is

is_two : (number : ℕ) (b : Bool) → eq_by_cmp nat_cmp number 2 ≡ b → is_orphan (file_if 0 b) ≡ true → number ≡ 2
is_two number true e is = equal_number number 2 e
is_two number false e is = absurd (not_some is)

two_open : (p : Pfs) (number : ℕ) → the_pfs 0 ≡ p → number ≡ 2 → IsOpen (file_forest 0 (one_handle 1 2)) p.id number
two_open p number e is =
    subst (λ (q : Pfs). IsOpen (file_forest 0 (one_handle 1 2)) q.id number) e (subst (λ n. IsOpen (file_forest 0 (one_handle 1 2)) 1 n) (sym is) (0, (0, handle_at 1 2 0 0)))

orphan_two : is_orphan (get (one_file 0) 2) ≡ true
orphan_two = ap is_orphan (file_at 0 2)

closed : IsOpen (file_forest 0 empty) 1 2 → ⊥
closed (client, (handle, at)) = not_none (1, 2) (sym (get-empty handle_cmp (client, handle)) ∙ at)

other : IsOpen (file_forest 0 (one_handle 1 3)) 1 2 → ⊥
other (client, (handle, at)) =
    let e = named_by 1 3 (eq_by_cmp handle_cmp (client, handle) (0, 0)) (1, 2) (sym (handle_at 1 3 client handle) ∙ at) in
    absurd (let is : 3 ≡ 2 = ap (λ (x : ℕ × ℕ). x.1) e in omega arith)

no_orphan : (b : Bool) → is_orphan (file_if 1 b) ≡ false
no_orphan true = refl
no_orphan false = refl

linked : HasNoOrphans (file_forest 1 empty)
linked p number listed =
    subst (λ (q : Pfs). is_orphan (get q.table number) ≡ false) (only_one (the_pfs 1) p listed) (ap is_orphan (file_at 1 number) ∙ no_orphan (eq_by_cmp nat_cmp number 2))

pub returns : goal.returns
returns c = record {
  is_open = λ p number listed is. two_open p number (only_one (the_pfs 0) p listed) (is_two number (eq_by_cmp nat_cmp number 2) refl (orphan_of 0 number true p listed is));
  closed = λ all. closed (all (the_pfs 0) 2 (the_one (the_pfs 0)) orphan_two);
  other_open = λ all. other (all (the_pfs 0) 2 (the_one (the_pfs 0)) orphan_two);
  linked = linked;
  linked_open = λ p number listed is. absurd (not_some (sym (linked p number listed) ∙ is));
  orphan = λ none. not_some (sym (none (the_pfs 0) 2 (the_one (the_pfs 0))) ∙ orphan_two);
}
