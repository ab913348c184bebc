-- Each command keeps the names of PFSs different and good.
use Rattle.std.specs.Prelude.{◌≡◌, ◌≢◌, ℕ, zero, suc, ◌+◌, ◌≤◌, List, [], ◌∷◌, ◌++◌, take, drop, cond, Bool, true, false, Some, None, slice_set, slice_index_or, nat_eq, All, AllPairs, refl, ⊤}
use Rattle.std.specs.Cmp.Lexicographic.{pointwise, bytes_decides}
use Rattle.std.proofs.Common.{ap, sym, ◌∙◌, subst, arith, inl, inr}
use Rattle.std.proofs.lemmas.List.Elements.{All-cons, All-nil, All-push}
use Rattle.std.proofs.lemmas.List.Kept.{AllPairs-cons}
use Rattle.h2_command.specs.declared.command.Command.{Command}
use Rattle.h2_command.specs.declared.command.Command.TheVariants.{PfsCreate, Snapshot}
use Rattle.h2_command.specs.Lawful.{Lawful}
use Rattle.h2_forest.specs.declared.pfs.Pfs.{Pfs}
use Rattle.h2_forest.specs.Table.{Table, without_orphans}
use Rattle.h2_forest.specs.Forest.{PlainForest, first_from, pfs_named, answer, fresh, bare_table}
use Rattle.h2_forest.specs.Ids.{NamesDiffer, NamesAreGood}
use Rattle.h2_forest.proofs.Kept.{IsKept, answer_kept}
use Rattle.h2_forest.proofs.PfsLists.{set_each, remove_each}
use Rattle.h2_forest.proofs.KeptIds.{IsSamePfs, same_steps}

-- Names that differ

abbrev Differ : Pfs → Pfs → Type 0
Differ p q = p.name ≢ q.name

pairs_head : (x : Pfs) (ps : List Pfs) → AllPairs Differ (x ∷ ps) → All (Differ x) ps
pairs_head x ps h k d lt = h zero (suc k) d (omega arith) (omega (arith, lt))

pairs_tail : (x : Pfs) (ps : List Pfs) → AllPairs Differ (x ∷ ps) → AllPairs Differ ps
pairs_tail x ps h i j d lt len = h (suc i) (suc j) d (omega (arith, lt)) (omega (arith, len))

-- another PFS of the same name in the place of one
set_names : (ps : List Pfs) (i : ℕ) (p q : Pfs) → slice_index_or ps i p ≡ p → q.name ≡ p.name → AllPairs Differ ps → AllPairs Differ (slice_set ps i q)
set_names [] i p q at same h = h
set_names (x ∷ ps) zero p q at same h =
    let name : x.name ≡ q.name = ap (λ (y : Pfs). y.name) at ∙ sym same in
    AllPairs-cons Differ q ps (subst (λ n. All (λ (y : Pfs). n ≢ y.name) ps) name (pairs_head x ps h)) (pairs_tail x ps h)
set_names (x ∷ ps) (suc i) p q at same h =
    AllPairs-cons Differ x (slice_set ps i q)
    (set_each (Differ x) ps i p q at (λ other e. other (e ∙ same)) (pairs_head x ps h))
    (set_names ps i p q at same (pairs_tail x ps h))

-- one more PFS, of another name
push_names : (ps : List Pfs) (p : Pfs) → All (λ (q : Pfs). q.name ≢ p.name) ps → AllPairs Differ ps → AllPairs Differ (ps ++ p ∷ [])
push_names [] p new h = AllPairs-cons Differ p [] (All-nil (Differ p)) h
push_names (x ∷ ps) p new h =
    AllPairs-cons Differ x (ps ++ p ∷ [])
    (All-push (Differ x) ps p (pairs_head x ps h) (new zero x (omega arith)))
    (push_names ps p (λ k d lt. new (suc k) d (omega (arith, lt))) (pairs_tail x ps h))

-- a PFS goes
remove_names : (ps : List Pfs) (i : ℕ) → AllPairs Differ ps → AllPairs Differ (take i ps ++ drop (suc i) ps)
remove_names [] zero h = h
remove_names [] (suc i) h = h
remove_names (x ∷ ps) zero h = pairs_tail x ps h
remove_names (x ∷ ps) (suc i) h = AllPairs-cons Differ x (take i ps ++ drop (suc i) ps) (remove_each (Differ x) ps i (pairs_head x ps h)) (remove_names ps i (pairs_tail x ps h))

some_none : (x : ℕ × Pfs) → Some x ≡ None → ⊥
some_none x e = cc

both_ways : (b : Bool) → b ≡ true → b ≡ false → ⊥
both_ways b e f = cc

-- a name that isn't found is nobody's
nobody : (name : List ℕ) (k : ℕ) (ps : List Pfs) → first_from (λ p. pointwise nat_eq p.name name) k ps ≡ None → All (λ (q : Pfs). q.name ≢ name) ps
nobody name k [] e = All-nil (λ (q : Pfs). q.name ≢ name)
nobody name k (x ∷ ps) e = by (pointwise nat_eq x.name name) refl e (nobody name (k + 1) ps)
  where
    by : (b : Bool) → pointwise nat_eq x.name name ≡ b → cond b (Some (k, x)) (first_from (λ p. pointwise nat_eq p.name name) (k + 1) ps) ≡ None
        → (first_from (λ p. pointwise nat_eq p.name name) (k + 1) ps ≡ None → All (λ (q : Pfs). q.name ≢ name) ps) → All (λ (q : Pfs). q.name ≢ name) (x ∷ ps)
    by true is e later = absurd (some_none (k, x) e)
    by false is e later = All-cons (λ (q : Pfs). q.name ≢ name) x ps (λ same. both_ways (pointwise nat_eq x.name name) ((bytes_decides x.name name).1 same) is) (later e)

more_names : (f : PlainForest) (name : List ℕ) (next : ℕ) (table : Table) → pfs_named name f.pfss ≡ None → NamesDiffer f → AllPairs Differ (f.pfss ++ (record { id = f.next_pfs; name = name; next = next; table = table }) ∷ [])
more_names f name next table absent h = push_names f.pfss (record { id = f.next_pfs; name = name; next = next; table = table }) (nobody name 0 f.pfss absent) h

names_kept : IsKept NamesDiffer IsSamePfs (λ name. ⊤)
names_kept = record {
  same = λ f g pfss next h. subst (AllPairs Differ) (sym pfss) h;
  change = λ f i p q at step h. set_names f.pfss i p q at step.1 h;
  create = λ f name new absent h. more_names f name 2 bare_table absent h;
  copy = λ f source name found new is absent h. more_names f name found.1.next (without_orphans found.1.table (λ n. false)) absent h;
  delete = λ f i h. remove_names f.pfss i h;
}

pub answer_names : (f : PlainForest) (client : ℕ) (command : Command) → NamesDiffer f → NamesDiffer (answer f client command).1
answer_names f client command h = answer_kept NamesDiffer IsSamePfs (λ name. ⊤) same_steps names_kept f h client command (λ name e. tt) (λ source name e. tt)

pub fresh_names : NamesDiffer fresh
fresh_names = push_names [] (record { id = 1; name = 82 ∷ 79 ∷ 79 ∷ 84 ∷ []; next = 2; table = bare_table }) (All-nil (λ (q : Pfs). q.name ≢ 82 ∷ 79 ∷ 79 ∷ 84 ∷ [])) (λ i j d lt len. absurd (omega (arith, len)))

-- Names that are good

abbrev IsGood : List ℕ → Type 0
IsGood name = Lawful (PfsCreate name)

abbrev HasGoodName : Pfs → Type 0
HasGoodName p = IsGood p.name

good_kept : IsKept NamesAreGood IsSamePfs IsGood
good_kept = record {
  same = λ f g pfss next h. subst (All HasGoodName) (sym pfss) h;
  change = λ f i p q at step h. set_each HasGoodName f.pfss i p q at (subst IsGood (sym step.1)) h;
  create = λ f name new absent h. All-push HasGoodName f.pfss (record { id = f.next_pfs; name = name; next = 2; table = bare_table }) h new;
  copy = λ f source name found new is absent h. All-push HasGoodName f.pfss (record { id = f.next_pfs; name = name; next = found.1.next; table = without_orphans found.1.table (λ n. false) }) h new;
  delete = λ f i h. remove_each HasGoodName f.pfss i h;
}

pub answer_good : (f : PlainForest) (client : ℕ) (command : Command) → Lawful command → NamesAreGood f → NamesAreGood (answer f client command).1
answer_good f client command lawful h =
    answer_kept NamesAreGood IsSamePfs IsGood same_steps good_kept f h client command
    (λ name e. subst Lawful e lawful)
    (λ source name e. let both : Lawful (Snapshot source name) = subst Lawful e lawful in both.1)

abbrev IsCapital : ℕ → Type 0
IsCapital b = (65 ≤ b) × (b ≤ 90)

capital : (b : ℕ) → 65 ≤ b → b ≤ 90 → IsCapital b
capital b low high = (low, high)

capitals : All IsCapital (82 ∷ 79 ∷ 79 ∷ 84 ∷ [])
capitals =
    All-cons IsCapital 82 (79 ∷ 79 ∷ 84 ∷ []) (capital 82 (omega arith) (omega arith))
    (All-cons IsCapital 79 (79 ∷ 84 ∷ []) (capital 79 (omega arith) (omega arith))
    (All-cons IsCapital 79 (84 ∷ []) (capital 79 (omega arith) (omega arith))
    (All-cons IsCapital 84 [] (capital 84 (omega arith) (omega arith)) (All-nil IsCapital))))

root_good : IsGood (82 ∷ 79 ∷ 79 ∷ 84 ∷ [])
root_good = record { some = omega arith; few = omega arith; bytes = λ k d lt. inr (inl (capitals k d lt)) }

pub fresh_good : NamesAreGood fresh
fresh_good = All-push HasGoodName [] (record { id = 1; name = 82 ∷ 79 ∷ 79 ∷ 84 ∷ []; next = 2; table = bare_table }) (All-nil HasGoodName) root_good
