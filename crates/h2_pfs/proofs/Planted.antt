-- A new leaf and its inode: why they can be added, and what the addition leaves.
use Rattle.std.proofs.Common.{◌≡◌, ℕ, ◌≤◌, ◌+◌, ◌^◌, inl, inr, true, arith, refl, sym, ◌∙◌, ap, subst, List, Option, Some, None}
use Rattle.std.proofs.lemmas.Nat.{pow_pos}
use Rattle.std.proofs.lemmas.Bool.Decides.{nat_tests}
use Rattle.std.proofs.lemmas.Option.{none-some}
use Rattle.h2_ref.specs.declared.reference.Ref.{Ref}
use Rattle.h2_set.specs.Ranges.{limit, holds, find}
use Rattle.h2_set.specs.Forest.{Forest, IsSound, LeavesOf, Reaches, here, below}
use Rattle.h2_set.specs.Calls.{InPlace, ReadiesOnly, Walks, Stays}
use Rattle.h2_set.specs.StayLaws.{Same-Stays, Reaches-walks, stands_below}
use Rattle.h2_set.specs.PathLaws.{reaches_one, reaches_stay}
use Rattle.h2_tree.specs.Changes.{Takes, KeepsPaths, Descends, arrived, onward, TakesIn, replaced, placed, parted, Inserts}
use Rattle.h2_tree.specs.TreeLaws.{insert_fresh}
use Rattle.h2_inode.specs.declared.inode.Inode.{Inode}
use Rattle.h2_inode.specs.Nodes.{Fields, HasInode, IsUnloaded, Visits, Plants}
use Rattle.h2_inode.specs.NodeLaws.{same_stays}
use Rattle.h2_pfs.specs.Addition.{IsFreeId, Founds}

-- a path stays where all nodes stay
pub path_stays : (f g : Forest) (key at : ℕ) (o : Option Ref) → IsSound f → f.stands at ≡ true → ((m : ℕ) → f.stands m ≡ true → Stays f g m) → Reaches f key at o → Reaches g key at o
path_stays f g key at o sound stands stays path =
    reaches_stay f g (λ m. f.stands m ≡ true) (λ m k c st link. stands_below f sound m k c st link) stays stands path

pub ready_path : (f g : Forest) (key at : ℕ) (o : Option Ref) → IsSound f → f.stands at ≡ true → ReadiesOnly f g → Reaches f key at o → Reaches g key at o
ready_path f g key at o sound stands readies path = path_stays f g key at o sound stands (λ m st. Same-Stays f g m (readies.same m st)) path

-- the way down goes on along the path
way_reaches : {f : Forest} {key at n : ℕ} {o : Option Ref} → Descends f key at n → Reaches f key n o → Reaches f key at o
way_reaches arrived path = path
way_reaches (onward {r = r} i read in_r ind link way) path = below {r = r} i read in_r ind link (way_reaches way path)

own_key : (r : Ref) (key : ℕ) → r.key ≡ key → holds key r ≡ true
own_key r key same = let pos = pow_pos r.keybits in grind (arith, nat_tests)

none_replaced : {f g : Forest} {top n blocks : ℕ} {leaf : Ref} {o : Option Ref} → IsSound f → f.stands top ≡ true → Descends f leaf.key top n → Reaches f leaf.key top None → TakesIn f g n leaf blocks o → o ≡ None
none_replaced {leaf = leaf} sound stands way none (replaced {old = old} it) =
    absurd (none-some old (reaches_one sound stands none (way_reaches way (here {r = old} it.place it.was (own_key old leaf.key it.key) it.leaf_was))))
none_replaced sound stands way none (placed it) = refl
none_replaced sound stands way none (parted it) = refl

-- where the path of the key leads to none, the leaf takes no other's place
pub none_before : (f g : Forest) (top : ℕ) (leaf : Ref) (o : Option Ref) → IsSound f → f.stands top ≡ true → Reaches f leaf.key top None → Inserts f g top leaf o → o ≡ None
none_before f g top leaf o sound stands none inserts =
    let goes = inserts.goes in
    none_replaced goes.prepares.sound (goes.prepares.stays top stands).place.stands goes.way (path_stays f goes.then leaf.key top None sound stands goes.prepares.stays none) goes.change

-- the new leaf names an inode that isn't loaded
pub new_unloaded : (f g : Forest) (top : ℕ) (leaf : Ref) → f.stands top ≡ true → Inserts f g top leaf None → IsUnloaded g top leaf.key
new_unloaded f g top leaf stands inserts c named = insert_fresh stands inserts c named.stands ((named.belongs top leaf.key).1 (inl (refl, refl)))

-- the path of a free id leads to none, once it is loaded
pub free_path : (f g : Forest) (top id : ℕ) (o : Option Ref) → IsSound f → f.stands top ≡ true → Walks f g → ((l : List Ref) → LeavesOf f top l → o ≡ find id l) → Reaches g id top o → IsFreeId f top id → Reaches g id top None
free_path f g top id o sound stands walks found path (inl none) = Reaches-walks sound walks stands none
free_path f g top id o sound stands walks found path (inr known) = subst (Reaches g id top) (found known.0 known.1 ∙ known.2) path

-- the leaf is in, and its inode planted
pub founds : (f h k g : Forest) (new : ℕ → Option Fields) (top c : ℕ) (leaf : Ref) (inode : Inode) → ReadiesOnly f h → 2 ≤ h.spare → (2 ≤ f.spare → h.spare ≡ f.spare) → Inserts h k top leaf None → KeepsPaths h k top leaf → Reaches k leaf.key top (Some leaf) → Plants k g top leaf.key c → HasInode g new c inode → Founds f g new top leaf inode
founds f h k g new top c leaf inode readies enough made inserts paths path plants has = record {
  ready = h;
  readies = readies;
  enough = enough;
  made = made;
  put = k;
  inserts = inserts;
  paths = paths;
  node = c;
  plants = plants;
  spent = (let goes = inserts.goes in let none_made = goes.grown (omega (arith, enough)) in omega (arith, none_made, goes.spare, plants.spare));
  has = has;
  path = path_stays k g leaf.key top (Some leaf) inserts.sound inserts.place.stands (λ m st. same_stays k g m (plants.brings.same m st)) path;
}

-- what the tree may have, it may have where its root stays with its rules
stays_takes : (f g : Forest) (at : ℕ) (leaf : Ref) → f.root at ≡ at → InPlace f g at → g.leaf_bits at ≡ f.leaf_bits at → g.allows at leaf ≡ f.allows at leaf → Takes f at leaf → Takes g at leaf
stays_takes f g at leaf root place bits allows takes =
    let top : g.root at ≡ at = place.root ∙ root in
    record {
      is_leaf = takes.is_leaf;
      allowed = ap (λ m. g.allows m leaf) top ∙ allows ∙ ap (λ m. f.allows m leaf) (sym root) ∙ takes.allowed;
      aligned = takes.aligned;
      class = takes.class;
      keybits = takes.keybits ∙ ap f.leaf_bits root ∙ sym (ap g.leaf_bits top ∙ bits);
      low = subst (λ n. n ≤ leaf.key) (sym place.low) takes.low;
      high = subst (λ n. limit leaf ≤ n + 2 ^ g.bits at) (sym place.low) (subst (λ n. limit leaf ≤ f.low at + 2 ^ n) (sym place.bits) takes.high);
    }

-- so it is after loads
pub visits_takes : (f g : Forest) (at : ℕ) (leaf : Ref) → f.root at ≡ at → f.stands at ≡ true → Visits f g → Takes f at leaf → Takes g at leaf
visits_takes f g at leaf root stands visits takes =
    stays_takes f g at leaf root (visits.stays at stands).place (visits.leaf_bits at stands) (visits.allows at leaf stands) takes

-- and once nodes were made ready
pub ready_takes : (f g : Forest) (at : ℕ) (leaf : Ref) → f.root at ≡ at → f.stands at ≡ true → ReadiesOnly f g → Takes f at leaf → Takes g at leaf
ready_takes f g at leaf root stands readies takes =
    let place = (readies.same at stands).place in
    stays_takes f g at leaf root place (readies.fixed.leaf_bits at stands place.stands) (readies.fixed.allows at leaf stands place.stands) takes
