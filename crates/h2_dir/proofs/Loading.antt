-- Which nodes a walk loads.
use Rattle.std.proofs.Common.{◌≡◌, ◌⊎◌, ◌<◌, ◌≤◌, ◌+◌, ◌^◌, ℕ, true, false, sym, ◌∙◌, subst, inl, inr, List, ◌∷◌, Option, Ok}
use Rattle.std.proofs.lemmas.Bool.{cases_Bool}
use Rattle.h2_set.specs.Forest.{Forest, IsSound}
use Rattle.h2_set.specs.Calls.{InPlace, KeepsBeside}
use Rattle.h2_tree.specs.Changes.{LoadsTouched, LoadsIn}
use Rattle.h2_dirkey.specs.Key.{least_key}
use Rattle.h2_inode.specs.declared.inode.Inode.{Inode}
use Rattle.h2_inode.specs.declared.kind.InodeKind.{InodeKind}
use Rattle.h2_inode.specs.declared.kind.InodeKind.TheVariants.{Directory}
use Rattle.h2_inode.specs.Nodes.{Fields, held_by, Seeks, Visits}
use Rattle.h2_dir.specs.declared.fault.DirFault.{DirFault}
use Rattle.h2_dir.specs.declared.fault.DirFault.TheVariants as fault
use Rattle.h2_dir.specs.Finding.{last_key, FindFails}
use Rattle.h2_dir.specs.Walking.{IsMember, HasKeyOf, StepNode, on_path, its_inode, in_search, LoadsStep, WalkNode, first_step, later_step, LoadsWalk, StepEnds}
use Rattle.h2_dir.proofs.Walked.{member_stays, found_stays}

-- a node that came has a key of the range
came_with : (f g : Forest) (from to m : ℕ) → LoadsTouched f g from to → f.stands m ≡ false → g.stands m ≡ true → HasKeyOf g m from to
came_with f g from to m touched gone stands = elim (touched.only m stands) as (λ _. HasKeyOf g m from to) [
  | inl old ↦ let clash : true ≡ false = sym old ∙ gone in absurd (cc)
  | inr new ↦ new
]

-- nodes of the PFS's tree on the path of the number
pub path_loads : (f g : Forest) (holds : ℕ → Option Fields) (pfs number : ℕ) (name : List ℕ) → f.root pfs ≡ pfs → LoadsIn f g pfs number number → LoadsStep f g holds pfs number name
path_loads f g holds pfs number name root loads = record { only = λ m gone stands. on_path (loads.tree m gone stands ∙ root) (came_with f g number number m loads.touched gone stands) }

key_stays : (f g : Forest) (m from to : ℕ) → InPlace f g m → HasKeyOf f m from to → HasKeyOf g m from to
key_stays f g m from to place has = (subst (λ n. n ≤ to) (sym place.low) has.0, subst (λ n. from < n + 2 ^ g.bits m) (sym place.low) (subst (λ n. from < f.low m + 2 ^ n) (sym place.bits) has.1))

node_stays : {B : Type 0} (fields : B → Option Fields) (f g : Forest) (old new : ℕ → B) (pfs number m : ℕ) (name : List ℕ) → IsSound f → Visits f g → KeepsBeside f g old new → f.stands m ≡ true → StepNode f (held_by fields old) pfs number name m → StepNode g (held_by fields new) pfs number name m
node_stays fields f g old new pfs number m name sound v beside stands (on_path root key) =
    let place = (v.stays m stands).place in
    on_path (place.root ∙ root) (key_stays f g m number number place key)
node_stays fields f g old new pfs number m name sound v beside stands (its_inode inode is) = its_inode inode (member_stays fields f g old new pfs number m inode sound v beside is)
node_stays fields f g old new pfs number m name sound v beside stands (in_search dir inode is kind root key) =
    let place = (v.stays m stands).place in
    in_search dir inode (member_stays fields f g old new pfs number dir inode sound v beside is) kind (place.root ∙ root) (key_stays f g m (least_key name) (last_key name) place key)

-- and the inode with the number
pub inode_loads : {B : Type 0} (fields : B → Option Fields) (first f g : Forest) (old new : ℕ → B) (pfs number c : ℕ) (inode : Inode) (name : List ℕ) → IsSound f → KeepsBeside f g old new → Visits f g → Seeks f g pfs number c → IsMember g (held_by fields new) pfs number c inode → LoadsStep first f (held_by fields old) pfs number name → LoadsStep first g (held_by fields new) pfs number name
inode_loads fields first f g old new pfs number c inode name sound beside v seeks is before = record {
  only = λ m gone stands. elim (seeks.brings.new m stands) as (λ _. StepNode g (held_by fields new) pfs number name m) [
    | inl it ↦ its_inode inode (subst (λ n. IsMember g (held_by fields new) pfs number n inode) (sym it) is)
    | inr stood ↦ node_stays fields f g old new pfs number m name sound v beside stood (before.only m gone stood)
  ];
}

-- whether the inode is a directory, by why nothing was found in it
kind_by : (f g : Forest) (kind : InodeKind) (dir : ℕ) (name : List ℕ) (why : DirFault) → FindFails f g kind dir name why → (kind ≡ Directory) ⊎ (kind ≡ Directory → ⊥)
kind_by f g kind dir name fault.NoEntry fails = inl fails.0
kind_by f g kind dir name fault.Exists fails = absurd fails
kind_by f g kind dir name fault.NotDir fails = inr fails
kind_by f g kind dir name (fault.Trouble e) fails = inl fails.0

-- and nodes of the directory's tree that a search for the name needs
module _ {B : Type 0} (fields : B → Option Fields) (first f g : Forest) (old new : ℕ → B) (pfs number dir : ℕ) (inode : Inode) (name : List ℕ) (sound : IsSound f) (v : Visits f g) (beside : KeepsBeside f g old new)
    (is : IsMember f (held_by fields old) pfs number dir inode) (loads : LoadsIn f g dir (least_key name) (last_key name)) (before : LoadsStep first f (held_by fields old) pfs number name) where
  pub search_loads : inode.kind ≡ Directory → LoadsStep first g (held_by fields new) pfs number name
  search_loads kind = record {
    only = λ m gone stands. elim (cases_Bool (f.stands m)) as (λ _. StepNode g (held_by fields new) pfs number name m) [
      | inl between ↦ node_stays fields f g old new pfs number m name sound v beside between (before.only m gone between)
      | inr fresh ↦ in_search dir inode (member_stays fields f g old new pfs number dir inode sound v beside is) kind (loads.tree m fresh stands ∙ is.has.root) (came_with f g (least_key name) (last_key name) m loads.touched fresh stands)
    ];
  }

  none_loads : ((m : ℕ) → g.stands m ≡ true → f.stands m ≡ true) → LoadsStep first g (held_by fields new) pfs number name
  none_loads none = record { only = λ m gone stands. let between = none m stands in node_stays fields f g old new pfs number m name sound v beside between (before.only m gone between) }

  pub failed_loads : (why : DirFault) → FindFails f g inode.kind dir name why → ((inode.kind ≡ Directory → ⊥) → (m : ℕ) → g.stands m ≡ true → f.stands m ≡ true) → LoadsStep first g (held_by fields new) pfs number name
  failed_loads why fails none = elim (kind_by f g inode.kind dir name why fails) as (λ _. LoadsStep first g (held_by fields new) pfs number name) [
    | inl kind ↦ search_loads kind
    | inr not ↦ none_loads (none not)
  ]

-- steps one after the other

pub no_loads : (f : Forest) (holds : ℕ → Option Fields) (pfs number : ℕ) (names : List (List ℕ)) → LoadsWalk f f holds pfs number names
no_loads f holds pfs number names = record { only = λ m gone stands. let clash : true ≡ false = sym stands ∙ gone in absurd (cc) }

pub step_alone : (f g : Forest) (holds : ℕ → Option Fields) (pfs number : ℕ) (name : List ℕ) (names : List (List ℕ)) → LoadsStep f g holds pfs number name → LoadsWalk f g holds pfs number (name ∷ names)
step_alone f g holds pfs number name names loads = record { only = λ m gone stands. first_step (loads.only m gone stands) }

pub steps_load : {B : Type 0} (fields : B → Option Fields) (first f g : Forest) (old new : ℕ → B) (pfs number next : ℕ) (name : List ℕ) (names : List (List ℕ)) → IsSound f → Visits f g → KeepsBeside f g old new
    → StepEnds first f (held_by fields old) pfs number name (Ok next) → LoadsStep first f (held_by fields old) pfs number name → LoadsWalk f g (held_by fields new) pfs next names → LoadsWalk first g (held_by fields new) pfs number (name ∷ names)
steps_load fields first f g old new pfs number next name names sound v beside (root, key, inode, entry, is, kind, found, at) before rest = record {
  only = λ m gone stands. elim (cases_Bool (f.stands m)) as (λ _. WalkNode g (held_by fields new) pfs number (name ∷ names) m) [
    | inl between ↦ first_step (node_stays fields f g old new pfs number m name sound v beside between (before.only m gone between))
    | inr came ↦ later_step root key inode entry (member_stays fields f g old new pfs number root inode sound v beside is) kind (found_stays f g root name key entry sound v is.has.stands found)
        (subst (λ n. WalkNode g (held_by fields new) pfs n names m) (sym at) (rest.only m came stands))
  ];
}
