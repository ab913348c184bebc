-- What names lead to is what entries reach.
use Rattle.std.specs.Prelude.{◌≡◌, ℕ, List, [], ◌∷◌, ◌++◌, Option, Some, None, Result, Ok, Err, refl}
use Rattle.std.proofs.Common.{ap, ◌∙◌, subst}
use Rattle.h2_forest.specs.Node.{Entries}
use Rattle.h2_forest.specs.Table.{Table, entries_at, found, looked_up, walk}
use Rattle.h2_command.specs.declared.reply.Reply.{Reply}
use Rattle.h2_consistent.specs.FileTree.{IsReached}
use Rattle.h2_consistent.proofs.Entries.{number_in, entry_at, IsReachedBy, root, below}
use Rattle.h2_consistent.proofs.Names.{looked_entry, not_ok, same_ok}

none_number : (n : ℕ) → None ≡ Some n → ⊥
none_number n e = cc

found_entry : (o : Option Entries) (name : List ℕ) (n : ℕ) → number_in o name ≡ Some n → looked_up o name ≡ Ok n
found_entry (Some es) name n e = ap found e
found_entry None name n e = absurd (none_number n e)

-- an entry's name is looked up with success
pub entry_looked : (t : Table) (dir : ℕ) (name : List ℕ) (n : ℕ) → entry_at t (dir, name) ≡ Some n
    → looked_up (entries_at t dir) name ≡ Ok n
entry_looked t dir name n e = found_entry (entries_at t dir) name n e

-- names, and then one more
walk_more : (t : Table) (names : List (List ℕ)) (from dir : ℕ) (name : List ℕ) (to : ℕ) → walk t from names ≡ Ok dir
    → looked_up (entries_at t dir) name ≡ Ok to → walk t from (names ++ name ∷ []) ≡ Ok to
walk_more t [] from dir name to way is = by (looked_up (entries_at t from) name) (ap (λ n. looked_up (entries_at t n) name) (same_ok from dir way) ∙ is)
  where
    by : (r : Result ℕ Reply) → r ≡ Ok to
        → ◌≡◌ {A = Result ℕ Reply} (elim r [ Ok n ↦ Ok n | Err refusal ↦ Err refusal ]) (Ok to)
    by (Ok n) e = e
    by (Err refusal) e = e
walk_more t (first ∷ names) from dir name to way is = by (looked_up (entries_at t from) first) (λ n way. walk_more t names n dir name to way is) way
  where
    by : (r : Result ℕ Reply) → ((n : ℕ) → walk t n names ≡ Ok dir → walk t n (names ++ name ∷ []) ≡ Ok to)
        → ◌≡◌ {A = Result ℕ Reply} (elim r [ Ok n ↦ walk t n names | Err refusal ↦ Err refusal ]) (Ok dir)
        → ◌≡◌ {A = Result ℕ Reply} (elim r [ Ok n ↦ walk t n (names ++ name ∷ []) | Err refusal ↦ Err refusal ]) (Ok to)
    by (Ok n) later way = later n way
    by (Err refusal) later way = absurd (not_ok refusal dir way)

-- what entries reach, names lead to
pub names_lead : (t : Table) (n : ℕ) → IsReachedBy (entry_at t) n → IsReached t n
names_lead t n root = ([], refl)
names_lead t n (below entry number up is) =
    let way = names_lead t entry.0 up in
    (way.0 ++ entry.1 ∷ [], walk_more t way.0 1 entry.0 entry.1 n way.1 (entry_looked t entry.0 entry.1 n is))

walked : (t : Table) (names : List (List ℕ)) (from to : ℕ) → walk t from names ≡ Ok to
    → IsReachedBy (entry_at t) from → IsReachedBy (entry_at t) to
walked t [] from to way here = subst (IsReachedBy (entry_at t)) (same_ok from to way) here
walked t (name ∷ names) from to way here = by (looked_up (entries_at t from) name) refl (walked t names) way
  where
    by : (r : Result ℕ Reply) → looked_up (entries_at t from) name ≡ r
        → ((from to : ℕ) → walk t from names ≡ Ok to → IsReachedBy (entry_at t) from → IsReachedBy (entry_at t) to)
        → ◌≡◌ {A = Result ℕ Reply} (elim r [ Ok n ↦ walk t n names | Err refusal ↦ Err refusal ]) (Ok to) → IsReachedBy (entry_at t) to
    by (Ok n) at later way = later n to way (below (from, name) n here (looked_entry t from name n at))
    by (Err refusal) at later way = absurd (not_ok refusal to way)

-- what names lead to, entries reach
pub entries_reach : (t : Table) (n : ℕ) → IsReached t n → IsReachedBy (entry_at t) n
entries_reach t n h = walked t h.0 1 n h.1 root
