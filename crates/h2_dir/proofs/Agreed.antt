-- A walk's steps agree with what was known before it began.
use Rattle.std.specs.Prelude.{◌≡◌, ℕ, zero, suc, Bool, true, false, cond, List, [], ◌∷◌, Contains, Some, None, Result, Ok, Err, IsErrAnd, slice_get, refl}
use Rattle.std.specs.FinMap.{get}
use Rattle.std.proofs.Common.{ap, sym, ◌∙◌, subst, inl, inr}
use Rattle.std.proofs.lemmas.Option.{none-some, same_Some}
use Rattle.h2_ref.specs.declared.faults.Trouble.{Trouble}
use Rattle.h2_ref.specs.declared.reference.Ref.{Ref}
use Rattle.h2_set.specs.Ranges.{find, holds}
use Rattle.h2_set.specs.Forest.{Forest, LeavesOf, Reaches}
use Rattle.h2_inode.specs.declared.inode.Inode.{Inode}
use Rattle.h2_inode.specs.declared.kind.InodeKind.TheVariants.{Directory}
use Rattle.h2_inode.specs.Nodes.{HasInode, Seeks}
use Rattle.h2_inode.specs.Directory.{Entries, IsDirectory}
use Rattle.h2_inode.specs.CarryLaws.{directory_carried}
use Rattle.h2_inode.specs.Loaded.{Tree, at_root, NamesInode, View, reading, no_content, IsSameTree, Rereads, StandsAlike, as_before, by_load, over_loads}
use Rattle.h2_inode.specs.LoadedLaws.{rereads_follow, alike_stands, alike_leaves}
use Rattle.h2_dir.specs.declared.fault.DirFault.{DirFault}
use Rattle.h2_dir.specs.declared.fault.DirFault.TheVariants as fault
use Rattle.h2_dir.specs.Finding.{AgreesOn, FindFails}
use Rattle.h2_dir.proofs.FoundLaws.{reached_in}
use Rattle.h2_dir.proofs.Members.{at_place, has_place}
use Rattle.h2_dir.specs.Knowing.{KnowsWay, KnowsInode, KnownAs, KnownEntries, LeadsBy, entered, unknown, no_directory, no_inode, WalkAgrees, StepAgrees}
use Rattle.h2_dir.proofs.Entered.{holds_own}
use Rattle.h2_dir.proofs.Way.{same_root}

-- A leaf names this inode, and where more is known, its tree has these entries.
record NamesWith (v : View) (may : ℕ → ℕ → Bool) (pfs : ℕ) (leaf : Ref) (inode : Inode) (More : Type 0) (size : More → ℕ) (entries : More → Entries) : Type 0 where
  tree : Tree
  named : NamesInode v.forest v.holds v.tells (at_root pfs) leaf inode tree
  directory : (more : More) → IsDirectory (reading v no_content) (λ target number. may target number ≡ true) tree (size more) (entries more)

-- the root of the inode is loaded
record RootWith (v : View) (may : ℕ → ℕ → Bool) (c : ℕ) (inode : Inode) (More : Type 0) (size : More → ℕ) (entries : More → Entries) : Type 0 where
  has : HasInode v.forest v.holds c inode
  directory : (more : More) → IsDirectory (reading v no_content) (λ target number. may target number ≡ true) (at_root c) (size more) (entries more)

module _ (may : ℕ → ℕ → Bool) (pfs : ℕ) (l : List Ref) (leaf : Ref) (at : Contains l leaf) (inode : Inode) (More : Type 0) (size : More → ℕ) (entries : More → Entries) where
  directory_on : (u v : View) → Rereads u v → (t w : Tree) → IsSameTree u v t w → (more : More) → IsDirectory (reading u no_content) (λ target number. may target number ≡ true) t (size more) (entries more) → IsDirectory (reading v no_content) (λ target number. may target number ≡ true) w (size more) (entries more)
  directory_on u v h t w same more has = directory_carried (over_loads u v no_content) (rereads_follow u v h no_content) (λ target number. may target number ≡ true) (λ target number. may target number ≡ true) (λ target number x. x) t w (size more) (entries more) same has

  with_on : (u v : View) → Rereads u v → u.forest.stands pfs ≡ true → LeavesOf u.forest pfs l → NamesWith u may pfs leaf inode More size entries → NamesWith v may pfs leaf inode More size entries
  with_on u v h stands has k =
      let g = h.inode pfs leaf inode k.tree stands (l, has, at) k.named in
      record { tree = g.0; named = g.1; directory = λ more. directory_on u v h k.tree g.0 g.2 more (k.directory more) }

  with_alike : {u v : View} → StandsAlike u v → u.forest.stands pfs ≡ true → LeavesOf u.forest pfs l → NamesWith u may pfs leaf inode More size entries → NamesWith v may pfs leaf inode More size entries
  with_alike as_before stands has k = k
  with_alike {u} (by_load {v = w} h a) stands has k = with_alike a (h.stands pfs stands) (h.leaves pfs stands l has) (with_on u w h stands has k)

  -- the root that was sought
  module _ (u v : View) (c : ℕ) (seeks : Seeks u.forest v.forest pfs leaf.key c) (h : Rereads u v) (stands : u.forest.stands pfs ≡ true) (has : LeavesOf u.forest pfs l) where
    root_by : (k : NamesWith u may pfs leaf inode More size entries) (w : Tree) → IsSameTree u v k.tree w → NamesInode v.forest v.holds v.tells (at_root pfs) leaf inode w → RootWith v may c inode More size entries
    root_by k w same (inl (d, named, is, tree)) =
        let there : IsSameTree u v k.tree (at_root d) = subst (IsSameTree u v k.tree) tree same in
        let root : d ≡ c = same_root u v pfs c leaf seeks k.tree inode d k.named there named.stands in
        record {
          has = subst (λ m. HasInode v.forest v.holds m inode) root is;
          directory = λ more. subst (λ m. IsDirectory (reading v no_content) (λ target number. may target number ≡ true) (at_root m) (size more) (entries more)) root (directory_on u v h k.tree (at_root d) there more (k.directory more));
        }
    root_by k w same (inr (none, told)) = absurd (none c seeks.named)

    root_with : NamesWith u may pfs leaf inode More size entries → RootWith v may c inode More size entries
    root_with k = let g = h.inode pfs leaf inode k.tree stands (l, has, at) k.named in root_by k g.0 g.2 g.1

-- a list that a search finds no reference in has none with the key
found_none : (key : ℕ) (l : List Ref) (i : ℕ) (r : Ref) → find key l ≡ None → slice_get l i ≡ Some r → r.key ≡ key → ⊥
found_none key [] i r none read is = none-some r read
found_none key (x ∷ xs) i r none read is = step (holds key x) refl none i read (λ none' j there. found_none key xs j r none' there is)
  where
    step : (b : Bool) → holds key x ≡ b → cond b (Some x) (find key xs) ≡ None → (i : ℕ) → slice_get (x ∷ xs) i ≡ Some r → (find key xs ≡ None → (j : ℕ) → slice_get xs j ≡ Some r → ⊥) → ⊥
    step true e none i read more = none-some x (sym none)
    step false e none zero read more =
        let same : x ≡ r = same_Some x r read in
        let own : holds key r ≡ true = subst (λ k. holds k r ≡ true) is (holds_own r) in
        let clash : true ≡ false = sym own ∙ ap (holds key) (sym same) ∙ e in
        absurd (cc)
    step false e none (suc j) read more = more none j read

-- The first step of a walk, whose leaf is given

module _ (u o : View) (a : StandsAlike u o) (may : ℕ → ℕ → Bool) (pfs number : ℕ) (l : List Ref) (name : List ℕ) (names : List (List ℕ)) (stands : u.forest.stands pfs ≡ true) (has : LeavesOf u.forest pfs l) (k : KnowsWay u may pfs l number (name ∷ names)) where
  -- no inode has the number
  pub nothing_agrees : (none : (m : List Ref) → LeavesOf o.forest pfs m → None ≡ find number m) → StepAgrees u may pfs l number name names (Err fault.NotDir)
  nothing_agrees none = no_inode (λ leaf at is. let it = has_place l leaf at in found_none number l it.0 leaf (sym (none l (alike_leaves a pfs stands l has))) it.1 is)

  module _ (w v : View) (r : Rereads o w) (s : Rereads w v) (leaf : Ref) (key_is : leaf.key ≡ number) (path : Reaches w.forest leaf.key pfs (Some leaf)) (c : ℕ) (seeks : Seeks w.forest v.forest pfs leaf.key c) where
    there : o.forest.stands pfs ≡ true
    there = alike_stands a pfs stands

    listed : LeavesOf o.forest pfs l
    listed = alike_leaves a pfs stands l has

    among : Contains l leaf
    among = let it = reached_in path leaf refl l (r.leaves pfs there l listed) in at_place l it.0 leaf it.1

    known : KnowsInode u may pfs leaf name (λ next. KnowsWay u may pfs l next names)
    known = k leaf among key_is

    known_as : KnownAs u pfs l number known.inode known.tree
    known_as = record { leaf = leaf; among = among; key_is = key_is; named = known.named }

    root : RootWith v may c known.inode (known.inode.kind ≡ Directory) (λ kind. (known.entries kind).size) (λ kind. (known.entries kind).entries)
    root =
        let size : known.inode.kind ≡ Directory → ℕ = λ kind. (known.entries kind).size in
        let entries : known.inode.kind ≡ Directory → Entries = λ kind. (known.entries kind).entries in
        let first : NamesWith u may pfs leaf known.inode (known.inode.kind ≡ Directory) size entries = record { tree = known.tree; named = known.named; directory = λ kind. (known.entries kind).directory } in
        let second = with_alike may pfs l leaf among known.inode (known.inode.kind ≡ Directory) size entries a stands has first in
        let third = with_on may pfs l leaf among known.inode (known.inode.kind ≡ Directory) size entries o w r there listed second in
        root_with may pfs l leaf among known.inode (known.inode.kind ≡ Directory) size entries w v c seeks s (r.stands pfs there) (r.leaves pfs there l listed) third

    known_entries : (kind : known.inode.kind ≡ Directory) → KnownEntries u may pfs l number (known.entries kind).entries
    known_entries kind = record { inode = known.inode; tree = known.tree; size = (known.entries kind).size; known = known_as; kind = kind; directory = (known.entries kind).directory }

    -- the name has an entry
    pub found_agrees_on : (next : ℕ) → ((i : Inode) → HasInode v.forest v.holds c i → i.kind ≡ Directory)
        → ((size : ℕ) (entries : Entries) → IsDirectory (reading v no_content) (λ target number. may target number ≡ true) (at_root c) size entries → get entries name ≡ Some next)
        → StepAgrees u may pfs l number name names (Ok next)
    found_agrees_on next kinds agrees =
        let kind = kinds known.inode root.has in
        let e = known.entries kind in
        let is = agrees e.size e.entries (root.directory kind) in
        (e.on next is, λ result rest. entered e.entries next (known_entries kind) is rest)

    -- the name has none, or there is no directory
    pub failed_agrees_on : (f g : Forest) (why : DirFault) → ((i : Inode) → HasInode v.forest v.holds c i → FindFails f g i.kind c name why)
        → ((size : ℕ) (entries : Entries) → IsDirectory (reading v no_content) (λ target number. may target number ≡ true) (at_root c) size entries → AgreesOn entries name (Err why))
        → StepAgrees u may pfs l number name names (Err why)
    failed_agrees_on f g fault.NoEntry fails agrees =
        let kind = (fails known.inode root.has).0 in
        let e = known.entries kind in
        unknown e.entries (known_entries kind) (agrees e.size e.entries (root.directory kind))
    failed_agrees_on f g fault.Exists fails agrees = tt
    failed_agrees_on f g fault.NotDir fails agrees = no_directory known.inode known.tree known_as (fails known.inode root.has)
    failed_agrees_on f g (fault.Trouble e) fails agrees = tt

-- a trouble that is handed on agrees with everything
pub trouble_agrees : (u : View) (may : ℕ → ℕ → Bool) (pfs number : ℕ) (l : List Ref) (name : List ℕ) (names : List (List ℕ)) (e : Trouble) (result : Result ℕ DirFault) → IsErrAnd result (λ why. why ≡ fault.Trouble e) → StepAgrees u may pfs l number name names result
trouble_agrees u may pfs number l name names e (Ok next) is = absurd is
trouble_agrees u may pfs number l name names e (Err why) is = subst (λ w. StepAgrees u may pfs l number name names (Err w)) (sym is) tt

-- Before a walk these were the names; from this number on, what is left leads to what they all lead to.
pub record AgreesOnTheWay (u : View) (may : ℕ → ℕ → Bool) (pfs : ℕ) (l : List Ref) (start number : ℕ) (names left : List (List ℕ)) : Type 0 where
  pub knows : KnowsWay u may pfs l number left
  pub leads : (result : Result ℕ DirFault) → LeadsBy u may pfs l number left result → LeadsBy u may pfs l start names result

pub agrees_first : (u : View) (may : ℕ → ℕ → Bool) (pfs : ℕ) (l : List Ref) (number : ℕ) (names : List (List ℕ)) → KnowsWay u may pfs l number names → AgreesOnTheWay u may pfs l number number names names
agrees_first u may pfs l number names k = record { knows = k; leads = λ result rest. rest }

pub agrees_next : (u : View) (may : ℕ → ℕ → Bool) (pfs : ℕ) (l : List Ref) (start number next : ℕ) (name : List ℕ) (names left : List (List ℕ)) → AgreesOnTheWay u may pfs l start number names (name ∷ left) → StepAgrees u may pfs l number name left (Ok next) → AgreesOnTheWay u may pfs l start next names left
agrees_next u may pfs l start number next name names left way step = record { knows = step.0; leads = λ result rest. way.leads result (step.1 result rest) }

pub agrees_err : (u : View) (may : ℕ → ℕ → Bool) (pfs : ℕ) (l : List Ref) (start number : ℕ) (name : List ℕ) (names left : List (List ℕ)) (why : DirFault) → AgreesOnTheWay u may pfs l start number names (name ∷ left) → StepAgrees u may pfs l number name left (Err why) → WalkAgrees u may pfs l start names (Err why)
agrees_err u may pfs l start number name names left fault.NoEntry way step = way.leads (Err fault.NoEntry) step
agrees_err u may pfs l start number name names left fault.Exists way step = tt
agrees_err u may pfs l start number name names left fault.NotDir way step = way.leads (Err fault.NotDir) step
agrees_err u may pfs l start number name names left (fault.Trouble e) way step = tt
