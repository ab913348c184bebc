-- Where names lead in a table whose entries and inodes agree.
use Rattle.std.specs.Prelude.{◌≡◌, ◌≢◌, ℕ, List, [], ◌∷◌, Bool, true, false, nat_eq, ◌||◌, Option, Some, None, Result, Ok, Err, refl}
use Rattle.std.specs.FinMap.{get}
use Rattle.std.proofs.Common.{ap, subst, arith}
use Rattle.h2_forest.specs.Node.{Entries}
use Rattle.h2_forest.specs.Table.{Table, entries_at, found, looked_up, walk, passes}
use Rattle.h2_command.specs.declared.reply.Reply.{Reply}
use Rattle.h2_consistent.proofs.Entries.{EntryName, number_in, entry_at, IsReachedBy, below}
use Rattle.h2_consistent.proofs.Agreeing.{Agree, missing, named_stands}
use Rattle.h2_consistent.proofs.Tables.{kind_at}

abbrev pub Agrees : Table → ℕ → Type 0
Agrees t next = Agree (entry_at t) (kind_at t) next

pub not_ok : (r : Reply) (n : ℕ) → ◌≡◌ {A = Result ℕ Reply} (Err r) (Ok n) → ⊥
not_ok r n e = cc

pub same_ok : (m n : ℕ) → ◌≡◌ {A = Result ℕ Reply} (Ok m) (Ok n) → m ≡ n
same_ok m n e = cc

found_number : (o : Option ℕ) (n : ℕ) → found o ≡ Ok n → o ≡ Some n
found_number (Some m) n e = ap Some (same_ok m n e)
found_number None n e = absurd (not_ok _ n e)

-- a name that was looked up with success has an entry
looked_number : (o : Option Entries) (name : List ℕ) (n : ℕ) → looked_up o name ≡ Ok n → number_in o name ≡ Some n
looked_number (Some es) name n e = found_number (get es name) n e
looked_number None name n e = absurd (not_ok _ n e)

pub looked_entry : (t : Table) (dir : ℕ) (name : List ℕ) (n : ℕ) → looked_up (entries_at t dir) name ≡ Ok n → entry_at t (dir, name) ≡ Some n
looked_entry t dir name n e = looked_number (entries_at t dir) name n e

-- names lead to inodes of the table
pub walk_stands : (t : Table) (next : ℕ) → Agrees t next → (names : List (List ℕ)) (from to : ℕ) → walk t from names ≡ Ok to → kind_at t from ≢ missing → kind_at t to ≢ missing
walk_stands t next a [] from to is here = subst (λ n. kind_at t n ≢ missing) (same_ok from to is) here
walk_stands t next a (name ∷ names) from to is here = by (looked_up (entries_at t from) name) refl (walk_stands t next a names) is
  where
    by : (r : Result ℕ Reply) → looked_up (entries_at t from) name ≡ r → ((from to : ℕ) → walk t from names ≡ Ok to → kind_at t from ≢ missing → kind_at t to ≢ missing) → ◌≡◌ {A = Result ℕ Reply} (elim r [ Ok n ↦ walk t n names | Err refusal ↦ Err refusal ]) (Ok to) → kind_at t to ≢ missing
    by (Ok n) at later is = later n to is (named_stands (entry_at t) (kind_at t) next a (from, name) n (looked_entry t from name n at))
    by (Err refusal) at later is = absurd (not_ok refusal to is)

either_false : (a b : Bool) → (a || b) ≡ false → (a ≡ false) × (b ≡ false)
either_false true b e = absurd (cc)
either_false false b e = (refl, e)

one_itself : (n m : ℕ) → nat_eq m n ≡ false → m ≢ n
one_itself n m e s = differs (subst (λ k. nat_eq k n ≡ false) s e)
  where
    differs : nat_eq n n ≡ false → ⊥
    differs e = grind arith

-- whether the way passes an inode is asked of its first one too
passes_first : (t : Table) (names : List (List ℕ)) (from n : ℕ) → passes t from names n ≡ false → from ≢ n
passes_first t [] from n e = one_itself n from e
passes_first t (name ∷ names) from n e = one_itself n from (either_false (nat_eq from n) _ e).0

-- where names lead by a way that doesn't pass an inode, they lead still where entries went or came that name it
pub walk_reached : (t : Table) (g : EntryName → Option ℕ) (n : ℕ) → ((y : EntryName) (m : ℕ) → entry_at t y ≡ Some m → m ≢ n → g y ≡ Some m) → (names : List (List ℕ)) (from to : ℕ) → walk t from names ≡ Ok to → passes t from names n ≡ false → IsReachedBy g from → IsReachedBy g to
walk_reached t g n stay [] from to is off here = subst (IsReachedBy g) (same_ok from to is) here
walk_reached t g n stay (name ∷ names) from to is off here = by (looked_up (entries_at t from) name) refl (walk_reached t g n stay names) is (either_false (nat_eq from n) _ off).1
  where
    by : (r : Result ℕ Reply) → looked_up (entries_at t from) name ≡ r → ((from to : ℕ) → walk t from names ≡ Ok to → passes t from names n ≡ false → IsReachedBy g from → IsReachedBy g to)
        → ◌≡◌ {A = Result ℕ Reply} (elim r [ Ok k ↦ walk t k names | Err refusal ↦ Err refusal ]) (Ok to) → ◌≡◌ {A = Bool} (elim r [ Ok k ↦ passes t k names n | Err refusal ↦ false ]) false → IsReachedBy g to
    by (Ok k) at later is off = later k to is off (below (from, name) k here (stay (from, name) k (looked_entry t from name k at) (passes_first t names k n off)))
    by (Err refusal) at later is off = absurd (not_ok refusal to is)
