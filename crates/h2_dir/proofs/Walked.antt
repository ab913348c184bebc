-- Names that lead from inode to inode, while more is loaded.
use Rattle.std.specs.Prelude.{◌≡◌, ◌<◌, ◌≤◌, ◌⊎◌, ℕ, suc, ◌+◌, ◌^◌, true, false, List, [], ◌∷◌, length, drop, slice_get, IsErrAnd, Option, Some, Result, Ok, Err, refl}
use Rattle.std.proofs.Common.{ap, sym, ◌∙◌, arith, inl, inr, subst, get_or, drop-cons, add-one}
use Rattle.std.proofs.Math.ListN.{drop_of_length-le}
use Rattle.std.proofs.lemmas.Bool.{cases_Bool}
use Rattle.h2_num.specs.Causes.{Rose}
use Rattle.h2_ref.specs.declared.reference.Kind.TheVariants as kinds
use Rattle.h2_ref.specs.declared.faults.Trouble.{Trouble}
use Rattle.h2_ref.specs.declared.faults.Trouble.TheVariants.{Failed, Bad, NoMemory}
use Rattle.h2_ref.specs.declared.reference.Dirent.{Dirent}
use Rattle.h2_ref.specs.declared.reference.Ref.{Ref}
use Rattle.h2_set.specs.LeafLaws.{holds_inside}
use Rattle.h2_set.specs.RefSet.{RefSet}
use Rattle.h2_set.specs.Forest.{Forest, loaded, refs, IsSound, Reaches}
use Rattle.h2_set.specs.Calls.{HasCause, KeepsBeside}
use Rattle.h2_set.specs.StayLaws.{stands_below}
use Rattle.h2_tree.specs.Changes.{PathUnloaded, RangeUnloaded, missing as missing_node, deeper}
use Rattle.h2_dirkey.specs.Key.{least_key}
use Rattle.h2_inode.specs.declared.inode.Inode.{Inode}
use Rattle.h2_inode.specs.declared.inode.Body.{Body}
use Rattle.h2_inode.specs.declared.inode.Body.TheVariants.{Refs, Bytes}
use Rattle.h2_inode.specs.declared.kind.InodeKind.{InodeKind}
use Rattle.h2_inode.specs.declared.kind.InodeKind.TheVariants.{Directory, Pfs}
use Rattle.h2_inode.specs.Nodes.{Fields, held_by, IsInodeLeaf, IsUnloaded, MayHave, Visits, leaf_keybits, leaf_kind}
use Rattle.h2_inode.specs.VisitLaws.{visits_path, visits_leaf, visits_name, visits_inode}
use Rattle.h2_dir.specs.declared.fault.DirFault.{DirFault}
use Rattle.h2_dir.specs.declared.fault.DirFault.TheVariants as fault
use Rattle.h2_dir.specs.Finding.{last_key, IsFound, MayLoad, HasLongCandidate, FindFails}
use Rattle.h2_dir.specs.Walking.{IsPfsRoot, IsMember, Leads, onward, missing, in_file, in_nothing, SearchLoads, StepLoads, by_node, by_inode, by_search, WalkLoads, at_once, further, WalkEnds, StepEnds}
use Rattle.h2_dir.proofs.Unchanging.{may_stays}
use Rattle.h2_dir.proofs.Paths.{hangs}
use Rattle.h2_dir.proofs.Spotting.{reached_leaf, link_cases}

-- a cause in a later part is one in the whole

rose_earlier : (a b c : ℕ) → a ≤ b → Rose b c → Rose a c
rose_earlier a b c le h = omega (arith, le, h)

pub cause_earlier : (f g h : Forest) (e : Trouble) → Visits f g → HasCause g h e → HasCause f h e
cause_earlier f g h Failed v cause = rose_earlier f.failed g.failed h.failed v.failed cause
cause_earlier f g h (Bad place why) v cause = (rose_earlier f.bad g.bad h.bad v.bad cause.0, cause.1)
cause_earlier f g h NoMemory v cause = cause

-- the leaves of a PFS name inodes, each of one number

inode_by : (kind : InodeKind) (body : Body) (leaf : Ref) → kind ≡ Pfs → MayHave kind body leaf → leaf.kind ≡ kinds.Inode
inode_by kind (Refs s) leaf is may = may.0 ∙ ap leaf_kind is
inode_by kind (Bytes b) leaf is may = absurd may

pub pfs_leaf : (f : Forest) (holds : ℕ → Option Fields) (pfs number : ℕ) (leaf : Ref) → IsSound f → IsPfsRoot f holds pfs → Reaches f number pfs (Some leaf) → IsInodeLeaf f pfs leaf × (leaf.key ≡ number)
pfs_leaf f holds pfs number leaf sound root path =
    let is = root.has in
    let there = hangs sound is.stands path leaf refl in
    let at = reached_leaf path leaf refl in
    let bits : leaf.keybits ≡ 0 = (there.fits).leaf at.1 ∙ ap f.leaf_bits (there.root ∙ is.root) ∙ is.tree.leaf_bits ∙ ap leaf_keybits root.kind in
    let range = holds_inside number leaf at.0 in
    let low : leaf.key ≤ number = range.0 in
    let high : number < leaf.key + 2 ^ 0 = subst (λ n. number < leaf.key + 2 ^ n) bits range.1 in
    let key : leaf.key ≡ number = omega arith in
    let allowed : f.allows pfs leaf ≡ true = subst (λ m. f.allows m leaf ≡ true) (there.root ∙ is.root) ((there.fits).allowed at.1) in
    let i = root.inode in
    (record { stands = is.stands; root = is.root; kind = inode_by i.kind i.body leaf root.kind ((is.tree.allows leaf).0 allowed); path = subst (λ k. Reaches f k pfs (Some leaf)) (sym key) path }, key)

-- what was found stays

pub pfs_stays : {B : Type 0} (fields : B → Option Fields) (f g : Forest) (old new : ℕ → B) (pfs : ℕ) → Visits f g → KeepsBeside f g old new → IsPfsRoot f (held_by fields old) pfs → IsPfsRoot g (held_by fields new) pfs
pfs_stays fields f g old new pfs v beside is = record { inode = is.inode; has = visits_inode fields f g old new pfs is.inode v beside is.has; kind = is.kind }

pub member_stays : {B : Type 0} (fields : B → Option Fields) (f g : Forest) (old new : ℕ → B) (pfs number root : ℕ) (inode : Inode) → IsSound f → Visits f g → KeepsBeside f g old new → IsMember f (held_by fields old) pfs number root inode → IsMember g (held_by fields new) pfs number root inode
member_stays fields f g old new pfs number root inode sound v beside is = record {
  leaf = is.leaf;
  is_leaf = visits_leaf f g pfs is.leaf sound v is.is_leaf;
  key_is = is.key_is;
  named = visits_name f g pfs number root v is.is_leaf.stands is.named;
  has = visits_inode fields f g old new root inode v beside is.has;
}

pub found_stays : (f g : Forest) (dir : ℕ) (name : List ℕ) (key : ℕ) (entry : Dirent) → IsSound f → Visits f g → f.stands dir ≡ true → IsFound f dir name key entry → IsFound g dir name key entry
found_stays f g dir name key entry sound v stands is = record {
  leaf = is.leaf;
  path = visits_path sound v stands is.path;
  key_is = is.key_is;
  entry_is = is.entry_is;
  under = is.under;
  named = may_stays f g is.leaf name v.name is.named;
}

-- what wasn't loaded later wasn't so before

unloaded_earlier : {f g : Forest} {from to at : ℕ} → IsSound f → Visits f g → f.stands at ≡ true → RangeUnloaded g from to at → RangeUnloaded f from to at
unloaded_earlier {f} {g} sound v stands (missing_node {at = at} {r = r} i read ind touched none) =
    missing_node {r = r} i (ap (λ (s : RefSet). slice_get s.refs i) (sym (v.sets at stands)) ∙ read) ind touched (λ c link. none c ((v.stays at stands).near r.key c link))
unloaded_earlier {f} {g} {from} {to} sound v stands (deeper {at = at} {c = c} {r = r} i read ind touched link rest) =
    let read_before : slice_get (refs f at) i ≡ Some r = ap (λ (s : RefSet). slice_get s.refs i) (sym (v.sets at stands)) ∙ read in
    elim (link_cases (f.link at r.key)) as (λ _. RangeUnloaded f from to at) [
      | inl (d, before) ↦
          let same : d ≡ c = same_loaded d c (sym ((v.stays at stands).near r.key d before) ∙ link) in
          let before_c : f.link at r.key ≡ loaded c = subst (λ n. f.link at r.key ≡ loaded n) same before in
          deeper {r = r} i read_before ind touched before_c (unloaded_earlier sound v (stands_below f sound at r.key c stands before_c) rest)
      | inr not ↦ missing_node {r = r} i read_before ind touched not
    ]
  where
    same_loaded : (d c : ℕ) → loaded d ≡ loaded c → d ≡ c
    same_loaded d c e = cc

search_earlier : (first f g : Forest) (root : ℕ) (name : List ℕ) → IsSound first → Visits first f → RangeUnloaded f (least_key name) (last_key name) root ⊎ HasLongCandidate g root name → SearchLoads first g root name
search_earlier first f g root name sound v (inr long) = inr (inr long)
search_earlier first f g root name sound v (inl unloaded) = elim (cases_Bool (first.stands root)) as (λ _. SearchLoads first g root name) [
  | inl stands ↦ inr (inl (unloaded_earlier sound v stands unloaded))
  | inr not ↦ inl not
]

search_before : (first f g : Forest) (root : ℕ) (name : List ℕ) → IsSound first → Visits first f → SearchLoads f g root name → SearchLoads first g root name
search_before first f g root name sound v (inr loads) = search_earlier first f g root name sound v loads
search_before first f g root name sound v (inl new) = elim (cases_Bool (first.stands root)) as (λ _. SearchLoads first g root name) [
  | inl stands ↦ let clash : true ≡ false = sym (v.stays root stands).place.stands ∙ new in absurd (cc)
  | inr not ↦ inl not
]

pub path_before : (first f : Forest) (pfs number : ℕ) → IsSound first → Visits first f → first.stands pfs ≡ true → PathUnloaded f pfs number → PathUnloaded first pfs number
path_before first f pfs number sound v stands unloaded o path = unloaded o (visits_path sound v stands path)

pub inode_before : (first f : Forest) (pfs number : ℕ) → Visits first f → first.stands pfs ≡ true → IsUnloaded f pfs number → IsUnloaded first pfs number
inode_before first f pfs number v stands unloaded c named = unloaded c (visits_name first f pfs number c v stands named)

step_before : (first f g : Forest) (holds : ℕ → Option Fields) (pfs number : ℕ) (name : List ℕ) → IsSound first → Visits first f → first.stands pfs ≡ true → StepLoads f g holds pfs number name → StepLoads first g holds pfs number name
step_before first f g holds pfs number name sound v stands (by_node unloaded) = by_node (path_before first f pfs number sound v stands unloaded)
step_before first f g holds pfs number name sound v stands (by_inode leaf is key unloaded) = by_inode leaf is key (inode_before first f pfs number v stands unloaded)
step_before first f g holds pfs number name sound v stands (by_search root i is kind loads) = by_search root i is kind (search_before first f g root name sound v loads)

walk_before : {first f g : Forest} {holds : ℕ → Option Fields} {pfs number : ℕ} {names : List (List ℕ)} → IsSound first → Visits first f → first.stands pfs ≡ true → WalkLoads f g holds pfs number names → WalkLoads first g holds pfs number names
walk_before {first} {f} {g} {holds} {pfs} sound v stands (at_once {number = number} {name = name} loads) = at_once (step_before first f g holds pfs number name sound v stands loads)
walk_before sound v stands (further root key i entry is kind found loads) = further root key i entry is kind found (walk_before sound v stands loads)

step_loads : (first f g : Forest) (holds : ℕ → Option Fields) (pfs number root : ℕ) (i : Inode) (name : List ℕ) (e : Trouble) → IsSound first → Visits first f → IsMember g holds pfs number root i → i.kind ≡ Directory → MayLoad f g root name e
    → (e ≡ NoMemory) ⊎ StepLoads first g holds pfs number name
step_loads first f g holds pfs number root i name e sound v is kind (inl none) = inl none
step_loads first f g holds pfs number root i name e sound v is kind (inr loads) = inr (by_search root i is kind (search_earlier first f g root name sound v loads))

-- one step

pub step_found : {B : Type 0} (fields : B → Option Fields) (f g : Forest) (old new : ℕ → B) (pfs number root key : ℕ) (inode : Inode) (name : List ℕ) (entry : Dirent) → IsSound f → Visits f g → KeepsBeside f g old new → IsMember f (held_by fields old) pfs number root inode → inode.kind ≡ Directory → IsFound g root name key entry
    → StepEnds f g (held_by fields new) pfs number name (Ok entry.number)
step_found fields f g old new pfs number root key inode name entry sound v beside is kind found =
    (root, key, inode, entry, member_stays fields f g old new pfs number root inode sound v beside is, kind, found, refl)

pub step_fails : {B : Type 0} (fields : B → Option Fields) (first f g : Forest) (old new : ℕ → B) (pfs number root : ℕ) (inode : Inode) (name : List ℕ) (why : DirFault) → IsSound first → IsSound f → Visits first f → Visits f g → KeepsBeside f g old new → IsMember f (held_by fields old) pfs number root inode
    → FindFails f g inode.kind root name why → StepEnds first g (held_by fields new) pfs number name (Err why)
step_fails fields first f g old new pfs number root inode name fault.NoEntry start sound before v beside is fails = (root, inode, member_stays fields f g old new pfs number root inode sound v beside is, fails.0, fails.1)
step_fails fields first f g old new pfs number root inode name fault.Exists start sound before v beside is fails = fails
step_fails fields first f g old new pfs number root inode name fault.NotDir start sound before v beside is fails = inr (root, inode, member_stays fields f g old new pfs number root inode sound v beside is, fails)
step_fails fields first f g old new pfs number root inode name (fault.Trouble e) start sound before v beside is fails = (cause_earlier first f g e before fails.1, step_loads first f g (held_by fields new) pfs number root inode name e start before (member_stays fields f g old new pfs number root inode sound v beside is) fails.0 fails.2)

-- a trouble that is handed on
pub step_trouble : (f g : Forest) (holds : ℕ → Option Fields) (pfs number : ℕ) (name : List ℕ) (e : Trouble) (result : Result ℕ DirFault) → IsErrAnd result (λ why. why ≡ fault.Trouble e) → StepEnds f g holds pfs number name (Err (fault.Trouble e)) → StepEnds f g holds pfs number name result
step_trouble f g holds pfs number name e (Ok found) is h = absurd is
step_trouble f g holds pfs number name e (Err why) is h = subst (λ w. StepEnds f g holds pfs number name (Err w)) (sym is) h

-- steps one after the other

pub names_at : (xs : List (List ℕ)) (i : ℕ) (name : List ℕ) → i < length xs → get_or xs i name ≡ name → drop i xs ≡ name ∷ drop (i + 1) xs
names_at xs i name lt is = drop-cons xs i name lt ∙ ap (λ x. x ∷ drop (suc i) xs) is ∙ ap (λ n. name ∷ drop n xs) (sym (add-one i))

pub names_end : (xs : List (List ℕ)) (i : ℕ) → length xs ≤ i → drop i xs ≡ []
names_end xs i le = drop_of_length-le xs le

pub ends_err : (f g : Forest) (holds : ℕ → Option Fields) (pfs number : ℕ) (name : List ℕ) (names : List (List ℕ)) (why : DirFault) → StepEnds f g holds pfs number name (Err why) → WalkEnds f g holds pfs number (name ∷ names) (Err why)
ends_err f g holds pfs number name names fault.NoEntry (root, inode, is, kind, none) = missing root inode is kind none
ends_err f g holds pfs number name names fault.Exists h = h
ends_err f g holds pfs number name names fault.NotDir (inl none) = in_nothing none
ends_err f g holds pfs number name names fault.NotDir (inr (root, inode, is, not)) = in_file root inode is not
ends_err f g holds pfs number name names (fault.Trouble e) (cause, inl none) = (cause, inl none)
ends_err f g holds pfs number name names (fault.Trouble e) (cause, inr loads) = (cause, inr (at_once loads))

leads_on : {B : Type 0} (fields : B → Option Fields) (first f g : Forest) (old new : ℕ → B) (pfs number next : ℕ) (name : List ℕ) (names : List (List ℕ)) (result : Result ℕ DirFault) → IsSound f → Visits f g → KeepsBeside f g old new
    → StepEnds first f (held_by fields old) pfs number name (Ok next) → Leads g (held_by fields new) pfs next names result → Leads g (held_by fields new) pfs number (name ∷ names) result
leads_on fields first f g old new pfs number next name names result sound v beside (root, key, inode, entry, is, kind, found, at) rest =
    onward root key inode entry (member_stays fields f g old new pfs number root inode sound v beside is) kind (found_stays f g root name key entry sound v is.has.stands found) (subst (λ n. Leads g (held_by fields new) pfs n names result) (sym at) rest)

loads_on : {B : Type 0} (fields : B → Option Fields) (first f g : Forest) (old new : ℕ → B) (pfs number next : ℕ) (name : List ℕ) (names : List (List ℕ)) → IsSound f → Visits f g → KeepsBeside f g old new
    → StepEnds first f (held_by fields old) pfs number name (Ok next) → WalkLoads first g (held_by fields new) pfs next names → WalkLoads first g (held_by fields new) pfs number (name ∷ names)
loads_on fields first f g old new pfs number next name names sound v beside (root, key, i, entry, is, kind, found, at) rest =
    further root key i entry (member_stays fields f g old new pfs number root i sound v beside is) kind (found_stays f g root name key entry sound v is.has.stands found) (subst (λ n. WalkLoads first g (held_by fields new) pfs n names) (sym at) rest)

trouble_on : {B : Type 0} (fields : B → Option Fields) (first f g : Forest) (old new : ℕ → B) (pfs number next : ℕ) (name : List ℕ) (names : List (List ℕ)) (e : Trouble) → IsSound first → first.stands pfs ≡ true → IsSound f → Visits first f → Visits f g → KeepsBeside f g old new
    → StepEnds first f (held_by fields old) pfs number name (Ok next) → HasCause f g e × ((e ≡ NoMemory) ⊎ WalkLoads f g (held_by fields new) pfs next names) → HasCause first g e × ((e ≡ NoMemory) ⊎ WalkLoads first g (held_by fields new) pfs number (name ∷ names))
trouble_on fields first f g old new pfs number next name names e start stands sound before v beside at (cause, inl none) = (cause_earlier first f g e before cause, inl none)
trouble_on fields first f g old new pfs number next name names e start stands sound before v beside at (cause, inr loads) = (cause_earlier first f g e before cause, inr (loads_on fields first f g old new pfs number next name names sound v beside at (walk_before start before stands loads)))

pub ends_on : {B : Type 0} (fields : B → Option Fields) (first f g : Forest) (old new : ℕ → B) (pfs number next : ℕ) (name : List ℕ) (names : List (List ℕ)) (result : Result ℕ DirFault) → IsSound first → first.stands pfs ≡ true → IsSound f → Visits first f → Visits f g → KeepsBeside f g old new
    → StepEnds first f (held_by fields old) pfs number name (Ok next) → WalkEnds f g (held_by fields new) pfs next names result → WalkEnds first g (held_by fields new) pfs number (name ∷ names) result
ends_on fields first f g old new pfs number next name names (Ok found) start stands sound before v beside at rest = leads_on fields first f g old new pfs number next name names (Ok found) sound v beside at rest
ends_on fields first f g old new pfs number next name names (Err fault.NoEntry) start stands sound before v beside at rest = leads_on fields first f g old new pfs number next name names (Err fault.NoEntry) sound v beside at rest
ends_on fields first f g old new pfs number next name names (Err fault.Exists) start stands sound before v beside at rest = rest
ends_on fields first f g old new pfs number next name names (Err fault.NotDir) start stands sound before v beside at rest = leads_on fields first f g old new pfs number next name names (Err fault.NotDir) sound v beside at rest
ends_on fields first f g old new pfs number next name names (Err (fault.Trouble e)) start stands sound before v beside at rest = trouble_on fields first f g old new pfs number next name names e start stands sound before v beside at rest
