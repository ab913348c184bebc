-- Tables that are no file trees: with an entry that names nothing or the root, or a directory that no names lead to.
use Rattle.std.specs.Prelude.{◌≡◌, ℕ, List, [], ◌∷◌, map, sum, count_by, nat_eq, Option, Some, None, Result, Ok, Err, IsSome, refl}
use Rattle.std.specs.Cmp.{nat_cmp_total}
use Rattle.std.specs.Ordering.{nat_cmp}
use Rattle.std.specs.Cmp.Lexicographic.{slice_cmp, nat_list_cmp_total}
use Rattle.std.specs.FinMap.{get, entries, empty, put, find, entries-insert, get-entries, len-entries, len-empty}
use Rattle.std.proofs.Common.{ap, sym, ◌∙◌, subst, arith}
use Rattle.h2_command.specs.declared.reply.Reply.{Reply}
use Rattle.h2_command.specs.declared.reply.Reply.TheVariants.{NoEntry}
use Rattle.h2_forest.specs.declared.table.Node.{Node}
use Rattle.h2_forest.specs.declared.table.Node.TheVariants.{Directory}
use Rattle.h2_forest.specs.Node.{Entries}
use Rattle.h2_forest.specs.Table.{entries_of, entries_at, found, looked_up, walk}
use Rattle.h2_consistent.specs.FileTree.{names_in, names_of, IsFileTree}
use Rattle.h2_consistent.specs.Example.{two_entries, one_entry, only_root, names_nothing, names_root, beside_root}
use Rattle.h2_consistent.proofs.Names.{not_ok, same_ok}
use Rattle.h2_consistent.proofs.TwoNames.{no_items, two_listed}

-- a map with one name
named_listed : (number : ℕ) → entries (one_entry number) ≡ (97 ∷ [], number) ∷ []
named_listed number =
    entries-insert nat_list_cmp_total empty (97 ∷ []) number
    ∙ ap (put (slice_cmp nat_cmp) (97 ∷ []) number) (no_items (entries empty) (sym (len-entries empty) ∙ len-empty (slice_cmp nat_cmp) ℕ))

-- a table with one inode
one_listed : (es : Entries) → entries (only_root es) ≡ (1, Directory es) ∷ []
one_listed es =
    entries-insert nat_cmp_total empty 1 (Directory es)
    ∙ ap (put nat_cmp 1 (Directory es)) (no_items (entries empty) (sym (len-entries empty) ∙ len-empty nat_cmp Node))

one_at : (es : Entries) (n : ℕ) → get (only_root es) n ≡ find nat_cmp n ((1, Directory es) ∷ [])
one_at es n = get-entries (only_root es) n ∙ ap (find nat_cmp n) (one_listed es)

none_there : (o : Option Node) → o ≡ None → IsSome o → ⊥
none_there None e h = cc
none_there (Some x) e h = cc

-- the name a of number 2 leads to no inode
pub nothing_named : IsFileTree 3 names_nothing → ⊥
nothing_named h = none_there (get names_nothing 2) (one_at two_entries 2) (h.named 1 2 (97 ∷ []) there)
  where
    found_there : get two_entries (97 ∷ []) ≡ Some 2
    found_there = get-entries two_entries (97 ∷ []) ∙ ap (find (slice_cmp nat_cmp) (97 ∷ [])) two_listed

    there : looked_up (entries_at names_nothing 1) (97 ∷ []) ≡ Ok 2
    there = ap (λ o. looked_up (entries_of o) (97 ∷ [])) (one_at two_entries 1) ∙ ap found found_there

-- the root is named once
pub root_named : IsFileTree 3 names_root → ⊥
root_named h = (let once = sym h.root_unnamed ∙ counted in cc)
  where
    counted : names_of names_root 1 ≡ 1
    counted =
        ap (λ es. sum (map (λ (e : ℕ × Node). names_in 1 e.1) es)) (one_listed (one_entry 1))
        ∙ ap (λ es. sum (count_by (λ (e : List ℕ × ℕ). nat_eq e.1 1) es ∷ [])) (named_listed 1)

-- no names lead from the root to directory 2
pub root_leads_nowhere : IsFileTree 3 beside_root → ⊥
root_leads_nowhere h = let way = h.reached 2 (one_entry 2) (at 2) in nowhere way.0 way.1
  where
    at : (n : ℕ) → get beside_root n ≡ find nat_cmp n ((1, Directory empty) ∷ (2, Directory (one_entry 2)) ∷ [])
    at n =
        get-entries beside_root n
        ∙ ap (find nat_cmp n) (entries-insert nat_cmp_total (only_root empty) 2 (Directory (one_entry 2)) ∙ ap (put nat_cmp 2 (Directory (one_entry 2))) (one_listed empty))

    bare : Entries
    bare = empty

    no_name : (name : List ℕ) → get bare name ≡ None
    no_name name = get-entries bare name ∙ ap (find (slice_cmp nat_cmp) name) (no_items (entries empty) (sym (len-entries empty) ∙ len-empty (slice_cmp nat_cmp) ℕ))

    refused : (names : List (List ℕ)) (first : Result ℕ Reply) → first ≡ Err NoEntry
        → ◌≡◌ {A = Result ℕ Reply} (elim first [ Ok next ↦ walk beside_root next names | Err r ↦ Err r ]) (Ok 2) → ⊥
    refused names (Ok n) e is = not_ok NoEntry n (sym e)
    refused names (Err r) e is = not_ok r 2 is

    nowhere : (names : List (List ℕ)) → walk beside_root 1 names ≡ Ok 2 → ⊥
    nowhere [] is = (let same = same_ok 1 2 is in omega arith)
    nowhere (name ∷ names) is =
        refused names (looked_up (entries_at beside_root 1) name) (ap (λ o. looked_up (entries_of o) name) (at 1) ∙ ap found (no_name name)) is
