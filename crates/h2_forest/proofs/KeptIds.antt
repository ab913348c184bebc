-- Each command keeps the order of PFSs.
use Rattle.std.specs.Prelude.{◌≡◌, ℕ, zero, suc, ◌+◌, ◌≤◌, List, [], ◌∷◌, ◌++◌, take, drop, slice_set, slice_index_or, false, refl, ⊤}
use Rattle.std.proofs.Common.{ap, sym, ◌∙◌, subst, arith}
use Rattle.h2_command.specs.declared.command.Command.{Command}
use Rattle.h2_forest.specs.declared.pfs.Pfs.{Pfs}
use Rattle.h2_forest.specs.declared.table.Node.{Node}
use Rattle.h2_forest.specs.Table.{without_orphans}
use Rattle.h2_forest.specs.Pfs.{made, linked, unlinked, removed, moved}
use Rattle.h2_forest.specs.Forest.{PlainForest, answer, fresh, bare_table}
use Rattle.h2_forest.specs.Ids.{Ascend, IdsAscend}
use Rattle.h2_forest.proofs.Kept.{AreSteps, IsKept, answer_kept}

-- the PFSs have one id and one name
abbrev pub IsSamePfs : Pfs → Pfs → Type 0
IsSamePfs p q = (q.id ≡ p.id) × (q.name ≡ p.name)

made_same : (p : Pfs) (names : List (List ℕ)) (node : Node) → IsSamePfs p (made p names node).1
made_same p names node = (grind arith, grind arith)

linked_same : (p : Pfs) (names new : List (List ℕ)) → IsSamePfs p (linked p names new).1
linked_same p names new = (grind arith, grind arith)

unlinked_same : (p : Pfs) (names : List (List ℕ)) → IsSamePfs p (unlinked p names).1
unlinked_same p names = (grind arith, grind arith)

removed_same : (p : Pfs) (names : List (List ℕ)) → IsSamePfs p (removed p names).1
removed_same p names = (grind arith, grind arith)

moved_same : (p : Pfs) (names new : List (List ℕ)) → IsSamePfs p (moved p names new).1
moved_same p names new = (grind arith, grind arith)

-- a command in a PFS changes neither its id nor its name
pub same_steps : AreSteps IsSamePfs
same_steps = record { makes = made_same; links = linked_same; unlinks = unlinked_same; removes = removed_same; moves = moved_same; rewrites = λ p n change. (refl, refl) }

-- another PFS of the same id in the place of one
set_ids : (low next : ℕ) (ps : List Pfs) (i : ℕ) (p q : Pfs) → slice_index_or ps i p ≡ p → q.id ≡ p.id → Ascend low ps next → Ascend low (slice_set ps i q) next
set_ids low next [] i p q at same a = a
set_ids low next (x ∷ ps) zero p q at same a =
    let e : x.id ≡ q.id = ap (λ (y : Pfs). y.id) at ∙ sym same in
    (subst (λ n. low ≤ n) e a.0, subst (λ n. Ascend (n + 1) ps next) e a.1)
set_ids low next (x ∷ ps) (suc i) p q at same a = (a.0, set_ids (x.id + 1) next ps i p q at same a.1)

-- one more PFS, with the next id
push_ids : (low next : ℕ) (ps : List Pfs) (p : Pfs) → p.id ≡ next → Ascend low ps next → Ascend low (ps ++ p ∷ []) (next + 1)
push_ids low next [] p same a = let low_next : low ≤ next = a in (omega arith, omega arith)
push_ids low next (x ∷ ps) p same a = (a.0, push_ids (x.id + 1) next ps p same a.1)

from_lower : (low high next : ℕ) (ps : List Pfs) → low ≤ high → Ascend high ps next → Ascend low ps next
from_lower low high next [] le a = let high_next : high ≤ next = a in omega arith
from_lower low high next (x ∷ ps) le a = let high_x : high ≤ x.id = a.0 in (omega arith, a.1)

-- a PFS goes
remove_ids : (low next : ℕ) (ps : List Pfs) (i : ℕ) → Ascend low ps next → Ascend low (take i ps ++ drop (suc i) ps) next
remove_ids low next [] zero a = a
remove_ids low next [] (suc i) a = a
remove_ids low next (x ∷ ps) zero a = let low_x : low ≤ x.id = a.0 in from_lower low (x.id + 1) next ps (omega arith) a.1
remove_ids low next (x ∷ ps) (suc i) a = (a.0, remove_ids (x.id + 1) next ps i a.1)

ids_kept : IsKept IdsAscend IsSamePfs (λ name. ⊤)
ids_kept = record {
  same = λ f g pfss next ids. subst (λ n. Ascend 0 g.pfss n) (sym next) (subst (λ ps. Ascend 0 ps f.next_pfs) (sym pfss) ids);
  change = λ f i p q at step ids. set_ids 0 f.next_pfs f.pfss i p q at step.0 ids;
  create = λ f name new absent ids. push_ids 0 f.next_pfs f.pfss (record { id = f.next_pfs; name = name; next = 2; table = bare_table }) refl ids;
  copy = λ f source name found new is absent ids. push_ids 0 f.next_pfs f.pfss (record { id = f.next_pfs; name = name; next = found.1.next; table = without_orphans found.1.table (λ n. false) }) refl ids;
  delete = λ f i ids. remove_ids 0 f.next_pfs f.pfss i ids;
}

pub answer_ids : (f : PlainForest) (client : ℕ) (command : Command) → IdsAscend f → IdsAscend (answer f client command).1
answer_ids f client command ids = answer_kept IdsAscend IsSamePfs (λ name. ⊤) same_steps ids_kept f ids client command (λ name e. tt) (λ source name e. tt)

pub fresh_ids : IdsAscend fresh
fresh_ids = let low : 0 ≤ 1 = omega arith in push_ids 0 1 [] (record { id = 1; name = 82 ∷ 79 ∷ 79 ∷ 84 ∷ []; next = 2; table = bare_table }) refl low
