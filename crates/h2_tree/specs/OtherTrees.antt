-- What a leaf that goes in or out leaves of other trees: their loaded paths, their lists and their leaves.
use Rattle.std.proofs.Common.{◌≡◌, ℕ, true, false, refl, sym, ◌∙◌, ap, subst, List, Option, Some, slice_get}
use Rattle.std.proofs.lemmas.Option.{same_Some}
use Rattle.h2_ref.specs.declared.reference.Ref.{Ref}
use Rattle.h2_set.specs.Ranges.{is_indirect}
use Rattle.h2_set.specs.RefSet.{RefSet}
use Rattle.h2_set.specs.Forest.{Forest, refs, loaded, IsSound, LeavesOf, Reaches, here}
use Rattle.h2_set.specs.Calls.{InPlace, OnWay, inside, across}
use Rattle.h2_set.specs.PathLaws.{PathRenewed, reaches_renew, reaches_one, reaches_through}
use Rattle.h2_set.specs.RenewLaws.{RenewsLeaves, leaves_renewed}
use Rattle.h2_tree.specs.Changes.{Descends, arrived, onward, GoesAway, below_it, named, Inserts, Removes}

-- node m stands in another tree than node at
record IsOther (f : Forest) (at m : ℕ) : Type 0 where
  stands : f.stands m ≡ true
  root : f.root m ≡ f.root at → ⊥

-- and doesn't belong to the leaf with this key of that tree
record IsFreeOf (f : Forest) (at key m : ℕ) : Type 0 where
  other : IsOther f at m
  free : f.belongs m (f.root at) key ≡ true → ⊥

-- so is each node that is loaded below it
other_below : (f : Forest) (at : ℕ) → IsSound f → (m k c : ℕ) → IsOther f at m → f.link m k ≡ loaded c → IsOther f at c
other_below f at sound m k c it link =
    let child = (sound.node m it.stands).child k c link in
    record { stands = child.stands; root = λ e. it.root (sym child.root ∙ e) }

free_below : (f : Forest) (at key : ℕ) → IsSound f → (m k c : ℕ) → IsFreeOf f at key m → f.link m k ≡ loaded c → IsFreeOf f at key c
free_below f at key sound m k c it link =
    let child = (sound.node m it.other.stands).child k c link in
    record { other = other_below f at sound m k c it.other link; free = λ e. it.free (sym (child.belongs (f.root at) key) ∙ e) }

-- a loaded path of another tree stays loaded where a leaf goes in
pub inserted_others : (f g : Forest) (at m key : ℕ) (leaf : Ref) (old o : Option Ref) → IsSound f → Inserts f g at leaf old → f.stands m ≡ true → (f.root m ≡ f.root at → ⊥) → Reaches f key m o → PathRenewed g key m o
inserted_others f g at m key leaf old o sound ins stands root reached =
    reaches_renew f g (IsOther f at) (other_below f at sound) (λ n p. ins.above n p.stands p.root) (record { stands = stands; root = root }) reached

-- and so does a known list
pub inserted_lists : (f g : Forest) (at m : ℕ) (leaf : Ref) (old : Option Ref) (l : List Ref) → IsSound f → Inserts f g at leaf old → f.stands m ≡ true → (f.root m ≡ f.root at → ⊥) → LeavesOf f m l → RenewsLeaves g m (refs g m) l
inserted_lists f g at m leaf old l sound ins stands root leaves =
    leaves_renewed f g (IsOther f at) (other_below f at sound) (λ n p. ins.above n p.stands p.root) (record { stands = stands; root = root }) leaves (refs g m) (ins.above m stands root).renewed

-- a loaded path stays so where a leaf goes out that its tree doesn't belong to
pub removed_others : (f g : Forest) (at m key : ℕ) (leaf : Ref) (o : Option Ref) → IsSound f → Removes f g at leaf → f.stands m ≡ true → (f.root m ≡ f.root at → ⊥) → (f.belongs m (f.root at) leaf.key ≡ true → ⊥) → Reaches f key m o → PathRenewed g key m o
removed_others f g at m key leaf o sound rem stands root free reached =
    reaches_renew f g (IsFreeOf f at leaf.key) (free_below f at leaf.key sound) (λ n p. rem.above n p.other.stands p.other.root p.free) (record { other = record { stands = stands; root = root }; free = free }) reached

-- and so does a known list
pub removed_lists : (f g : Forest) (at m : ℕ) (leaf : Ref) (l : List Ref) → IsSound f → Removes f g at leaf → f.stands m ≡ true → (f.root m ≡ f.root at → ⊥) → (f.belongs m (f.root at) leaf.key ≡ true → ⊥) → LeavesOf f m l → RenewsLeaves g m (refs g m) l
removed_lists f g at m leaf l sound rem stands root free leaves =
    leaves_renewed f g (IsFreeOf f at leaf.key) (free_below f at leaf.key sound) (λ n p. rem.above n p.other.stands p.other.root p.free) (record { other = record { stands = stands; root = root }; free = free }) leaves (refs g m) (rem.above m stands root free).renewed

-- The leaves of other trees: none changes but those of the inodes that the changed tree belongs to

-- a leaf of another tree than that of node at is the same, if the node doesn't belong to it
abbrev pub KeepsOtherLeaves : Forest → Forest → ℕ → Type 0
KeepsOtherLeaves f g at =
    (m i : ℕ) (r : Ref) → f.stands m ≡ true → (f.root m ≡ f.root at → ⊥) → slice_get (refs f m) i ≡ Some r → is_indirect r ≡ false → (f.belongs at (f.root m) r.key ≡ true → ⊥) → slice_get (refs g m) i ≡ Some r

-- where no set of another tree changed, so are all of them
pub same_leaves : (f g : Forest) (at : ℕ) → ((m : ℕ) → f.stands m ≡ true → (f.root m ≡ f.root at → ⊥) → g.set m ≡ f.set m) → KeepsOtherLeaves f g at
same_leaves f g at same m i r there other read is_leaf free = ap (λ (s : RefSet). slice_get s.refs i) (same m there other) ∙ read

-- over changes one after the other
pub leaves_trans : (f g h : Forest) (at : ℕ) → InPlace f g at → ((m : ℕ) → f.stands m ≡ true → (f.root m ≡ f.root at → ⊥) → InPlace f g m) → KeepsOtherLeaves f g at → KeepsOtherLeaves g h at → KeepsOtherLeaves f h at
leaves_trans f g h at own place a b m i r there other read is_leaf free =
    let now = place m there other in
    let apart : g.root m ≡ g.root at → ⊥ = λ e. other (sym now.root ∙ e ∙ own.root) in
    let free_g : g.belongs at (g.root m) r.key ≡ true → ⊥ = λ e. free (sym (own.belongs (f.root m) r.key) ∙ subst (λ t. g.belongs at t r.key ≡ true) now.root e) in
    b m i r now.stands apart (a m i r there other read is_leaf free) is_leaf free_g

-- no such leaf is on the way to the node
pub off_leaf : (h : Forest) (m n i : ℕ) (r : Ref) → IsSound h → h.stands m ≡ true → h.stands n ≡ true → slice_get (refs h m) i ≡ Some r → is_indirect r ≡ false → (h.root m ≡ h.root n → ⊥) → (h.belongs n (h.root m) r.key ≡ true → ⊥) → OnWay h m r n → ⊥
off_leaf h m n i r sound stands_m stands_n read leaf other free (inside same ind in_r bits) = other same
off_leaf h m n i r sound stands_m stands_n read leaf other free (across key differs in_r belongs) =
    let owner = sound.owner n (h.root m) key stands_n belongs in
    let top = sound.top m stands_m in
    let through = reaches_through h key (h.root m) (Some owner.leaf) sound top.1 owner.path m i r stands_m refl read in_r in
    let there : Reaches h key m (Some r) = here {r = r} i read in_r leaf in
    let same : owner.leaf ≡ r = same_Some owner.leaf r (reaches_one sound stands_m through there) in
    free (subst (λ k. h.belongs n (h.root m) k ≡ true) (sym owner.key_is ∙ ap (λ (x : Ref). x.key) same) belongs)

-- a node at the end of a way down is in the tree, and belongs to what its first node belongs to
pub way_end : {f : Forest} {key at n : ℕ} → IsSound f → f.stands at ≡ true → Descends f key at n → (f.root n ≡ f.root at) × ((t k : ℕ) → f.belongs n t k ≡ f.belongs at t k)
way_end sound stands arrived = (refl, λ t k. refl)
way_end {f} sound stands (onward {at = at} {c = c} {r = r} i read in_r ind link way) =
    let child = (sound.node at stands).child r.key c link in
    let rest = way_end sound child.stands way in
    (rest.0 ∙ child.root, λ t k. rest.1 t k ∙ child.belongs t k)

-- where a leaf goes in
pub inserted_leaves : (f g : Forest) (at : ℕ) (leaf : Ref) (old : Option Ref) → f.stands at ≡ true → Inserts f g at leaf old → KeepsOtherLeaves f g at
inserted_leaves f g at leaf old stands ins m i r there other read is_leaf free =
    let goes = ins.goes in
    let h = goes.then in
    let n = goes.node in
    let at_h = (goes.prepares.stays at stands).place in
    let now = (goes.prepares.stays m there).place in
    let end = way_end goes.prepares.sound at_h.stands goes.way in
    let read_h : slice_get (refs h m) i ≡ Some r = ap (λ (s : RefSet). slice_get s.refs i) (goes.prepares.sets m there) ∙ read in
    let apart : h.root m ≡ h.root n → ⊥ = λ e. other (sym now.root ∙ e ∙ end.0 ∙ at_h.root) in
    let free_h : h.belongs n (h.root m) r.key ≡ true → ⊥ = λ e. free (sym (at_h.belongs (f.root m) r.key) ∙ sym (end.1 (f.root m) r.key) ∙ subst (λ t. h.belongs n t r.key ≡ true) now.root e) in
    goes.only.exact m i r now.stands (λ e. apart (ap h.root e)) (λ gone. gone) read_h (off_leaf h m n i r goes.prepares.sound now.stands goes.stands read_h is_leaf apart free_h)

-- where one goes out to which nothing belongs
pub removed_leaves : (f g : Forest) (at : ℕ) (leaf : Ref) → f.stands at ≡ true → Removes f g at leaf → ((m : ℕ) → f.stands m ≡ true → f.belongs m (f.root at) leaf.key ≡ true → ⊥) → KeepsOtherLeaves f g at
removed_leaves f g at leaf stands out none m i r there other read is_leaf free =
    let goes = out.goes in
    let h = goes.then in
    let n = goes.node in
    let at_h = (goes.walks.stays at stands).place in
    let now = (goes.walks.stays m there).place in
    let end = way_end goes.walks.sound at_h.stands goes.way in
    let read_h : slice_get (refs h m) i ≡ Some r = ap (λ (s : RefSet). slice_get s.refs i) (goes.walks.sets m there) ∙ read in
    let apart : h.root m ≡ h.root n → ⊥ = λ e. other (sym now.root ∙ e ∙ end.0 ∙ at_h.root) in
    let free_h : h.belongs n (h.root m) r.key ≡ true → ⊥ = λ e. free (sym (at_h.belongs (f.root m) r.key) ∙ sym (end.1 (f.root m) r.key) ∙ subst (λ t. h.belongs n t r.key ≡ true) now.root e) in
    let stays : GoesAway h n goes.place leaf m → ⊥ = stays_put h n goes.place apart (λ e. none m there (sym (now.belongs (f.root at) leaf.key) ∙ subst (λ t. h.belongs m t leaf.key ≡ true) (end.0 ∙ at_h.root) e)) in
    goes.only.exact m i r now.stands (λ e. apart (ap h.root e)) stays read_h (off_leaf h m n i r goes.walks.sound now.stands goes.stands read_h is_leaf apart free_h)
  where
    stays_put : (h : Forest) (n place : ℕ) → (h.root m ≡ h.root n → ⊥) → (h.belongs m (h.root n) leaf.key ≡ true → ⊥) → GoesAway h n place leaf m → ⊥
    stays_put h n place apart free (below_it q read_q tree fewer in_q) = apart tree
    stays_put h n place apart free (named differs belongs) = free belongs
