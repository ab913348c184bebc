-- A key of a name that no entry has.
use Rattle.std.specs.Prelude.{◌≡◌, ◌<◌, ◌≤◌, ◌⊎◌, ℕ, zero, suc, ◌+◌, ◌^◌, Bool, true, false, List, [], ◌∷◌, map, Contains, Option, Some, None, slice_get, IsSome, refl}
use Rattle.std.proofs.Common.{ap, sym, ◌∙◌, arith, inl, inr, subst}
use Rattle.std.proofs.lemmas.Bool.{cases_Bool}
use Rattle.std.proofs.lemmas.Bool.Decides.{nat_tests}
use Rattle.std.proofs.lemmas.Option.{none-some, same_Some}
use Rattle.h2_ref.specs.declared.reference.Ref.{Ref}
use Rattle.h2_set.specs.Ranges.{holds, limit, is_indirect, NoneHolds}
use Rattle.h2_set.specs.LeafLaws.{holds_inside}
use Rattle.h2_set.specs.Forest.{Forest, Link, loaded, told, untold, refs, IsSound, Reaches, nowhere, here, below}
use Rattle.h2_tree.specs.Changes.{touches, RangeUnloaded, missing, deeper, Lists}
use Rattle.h2_dirkey.specs.Name.{IsName}
use Rattle.h2_dirkey.specs.Key.{least_key, IsPicked}
use Rattle.h2_dirkey.specs.KeyLaws.{picked_upper}
use Rattle.h2_inode.specs.declared.kind.InodeKind.TheVariants.{Directory}
use Rattle.h2_inode.specs.declared.inode.Inode.{Inode}
use Rattle.h2_inode.specs.Nodes.{Fields, HasInode, leaf_keybits}
use Rattle.h2_dir.specs.Names.{NoneNamed, IsPlaceOfName}
use Rattle.h2_dir.specs.Finding.{last_key}
use Rattle.h2_dir.specs.Placing.{IsSpot, IsTaken}
use Rattle.h2_dir.proofs.Members.{first, behind, at_place, has_place}
use Rattle.h2_dir.proofs.Agreeing.{between}
use Rattle.h2_dir.proofs.Paths.{hangs}
use Rattle.h2_dir.proofs.Searched.{missing_there, found_there}

pub link_cases : (x : Link) → ((c : ℕ) × (x ≡ loaded c)) ⊎ ((c : ℕ) → x ≡ loaded c → ⊥)
link_cases (loaded c) = inl (c, refl)
link_cases (told l) = inr (λ c e. cc)
link_cases untold = inr (λ c e. cc)

holder_step : (key : ℕ) (q : Ref) (qs : List Ref) (b : Bool) → holds key q ≡ b → NoneHolds key qs ⊎ ((i : ℕ) × (r : Ref) × (slice_get qs i ≡ Some r) × (holds key r ≡ true))
    → NoneHolds key (q ∷ qs) ⊎ ((i : ℕ) × (r : Ref) × (slice_get (q ∷ qs) i ≡ Some r) × (holds key r ≡ true))
holder_step key q qs true h rest = inr (0, q, refl, h)
holder_step key q qs false h (inl none) = inl (λ i r read. none_here i r read)
  where
    none_here : (i : ℕ) (r : Ref) → slice_get (q ∷ qs) i ≡ Some r → holds key r ≡ false
    none_here zero r read = subst (λ x. holds key x ≡ false) (same_Some q r read) h
    none_here (suc i) r read = none i r read
holder_step key q qs false h (inr (i, r, read, in_r)) = inr (suc i, r, read, in_r)

-- a range of the list holds the key, or none does
holder : (key : ℕ) (rs : List Ref) → NoneHolds key rs ⊎ ((i : ℕ) × (r : Ref) × (slice_get rs i ≡ Some r) × (holds key r ≡ true))
holder key [] = inl (λ i r read. absurd (none-some r read))
holder key (q ∷ qs) = holder_step key q qs (holds key q) refl (holder key qs)

touching : (from to key : ℕ) (r : Ref) → from ≤ key → key ≤ to → holds key r ≡ true → touches from to r ≡ true
touching from to key r low high h =
    let range = holds_inside key r h in
    let start : r.key ≤ to = omega (arith, low, high, range.0) in
    let end : from < limit r = omega (arith, low, high, range.1) in
    let some : from ≤ to = omega (arith, low, high) in
    grind (arith, nat_tests)

-- where all that a range needs is loaded, so is the path of each of its keys
path_by : (f : Forest) (from to key : ℕ) → IsSound f → from ≤ key → key ≤ to → (n at : ℕ) → f.stands at ≡ true → f.bits at < n → (RangeUnloaded f from to at → ⊥) → (o : Option Ref) × Reaches f key at o
path_by f from to key sound low high zero at stands lt none = absurd (omega (arith, lt))
path_by f from to key sound low high (suc n) at stands lt none = elim (holder key (refs f at)) as (λ _. (o : Option Ref) × Reaches f key at o) [
  | inl miss ↦ (None, nowhere miss)
  | inr (i, r, read, in_r) ↦ elim (cases_Bool (is_indirect r)) as (λ _. (o : Option Ref) × Reaches f key at o) [
    | inl ind ↦ elim (link_cases (f.link at r.key)) as (λ _. (o : Option Ref) × Reaches f key at o) [
      | inl (c, link) ↦
          let child = (sound.node at stands).child r.key c link in
          let fewer = child.fewer in
          let rest = path_by f from to key sound low high n c child.stands (omega (arith, fewer, lt)) (λ u. none (deeper {r = r} i read ind (touching from to key r low high in_r) link u)) in
          (rest.0, below {r = r} i read in_r ind link rest.1)
      | inr not ↦ absurd (none (missing {r = r} i read ind (touching from to key r low high in_r) not))
    ]
    | inr leaf ↦ (Some r, here {r = r} i read in_r leaf)
  ]
]

pub path_loaded : (f : Forest) (from to key at : ℕ) → IsSound f → from ≤ key → key ≤ to → f.stands at ≡ true → (RangeUnloaded f from to at → ⊥) → (o : Option Ref) × Reaches f key at o
path_loaded f from to key at sound low high stands none = path_by f from to key sound low high (suc (f.bits at)) at stands (omega arith) none

-- the leaf that a path leads to holds the key
pub reached_leaf : {f : Forest} {key at : ℕ} {o : Option Ref} → Reaches f key at o → (leaf : Ref) → o ≡ Some leaf → (holds key leaf ≡ true) × (is_indirect leaf ≡ false)
reached_leaf (nowhere miss) leaf e = absurd (none-some leaf e)
reached_leaf {key = key} (here {r = r} i read in_r is_leaf) leaf e = let same : r ≡ leaf = same_Some r leaf e in (subst (λ x. holds key x ≡ true) same in_r, subst (λ x. is_indirect x ≡ false) same is_leaf)
reached_leaf (below i read in_r ind link rest) leaf e = reached_leaf rest leaf e

-- in a directory each key has a leaf of its own
pub own_key : (f : Forest) (fields : ℕ → Option Fields) (dir : ℕ) (i : Inode) (key : ℕ) (leaf : Ref) → IsSound f → HasInode f fields dir i → i.kind ≡ Directory → Reaches f key dir (Some leaf) → leaf.key ≡ key
own_key f fields dir i key leaf sound is kind path =
    let there = hangs sound is.stands path leaf refl in
    let at = reached_leaf path leaf refl in
    let bits : leaf.keybits ≡ 0 = (there.fits).leaf at.1 ∙ ap f.leaf_bits (there.root ∙ is.root) ∙ is.tree.leaf_bits ∙ ap leaf_keybits kind in
    let range = holds_inside key leaf at.0 in
    let low : leaf.key ≤ key = range.0 in
    let high : key < leaf.key + 2 ^ 0 = subst (λ n. key < leaf.key + 2 ^ n) bits range.1 in
    omega arith

-- the keys of leaves
pub key_of_place : (xs : List Ref) (leaf : Ref) → Contains xs leaf → Contains (map (λ (r : Ref). r.key) xs) leaf.key
key_of_place [] leaf (k, lt, is) = absurd (omega (arith, lt))
key_of_place (x ∷ xs) leaf (zero, lt, is) = (0, omega arith, ap (λ (r : Ref). r.key) is)
key_of_place (x ∷ xs) leaf (suc k, lt, is) = behind x.key (map (λ (r : Ref). r.key) xs) leaf.key (key_of_place xs leaf (k, omega (arith, lt), is))

pub place_of_key : (xs : List Ref) (key : ℕ) → Contains (map (λ (r : Ref). r.key) xs) key → (leaf : Ref) × Contains xs leaf × (leaf.key ≡ key)
place_of_key [] key (k, lt, is) = absurd (omega (arith, lt))
place_of_key (x ∷ xs) key (zero, lt, is) = (x, first x xs, is)
place_of_key (x ∷ xs) key (suc k, lt, is) = let h = place_of_key xs key (k, omega (arith, lt), is) in (h.0, behind x xs h.0 h.1, h.2)

free_path : (f : Forest) (fields : ℕ → Option Fields) (dir : ℕ) (i : Inode) (name : List ℕ) (items : List Ref) (key : ℕ) → IsSound f → HasInode f fields dir i → i.kind ≡ Directory
    → Lists f dir (least_key name) (last_key name) items → IsPicked (least_key name) (map (λ (r : Ref). r.key) items) key
    → (o : Option Ref) → Reaches f key dir o → Reaches f key dir None
free_path f fields dir i name items key sound is kind lists picked None path = path
free_path f fields dir i name items key sound is kind lists picked (Some leaf) path =
    let own : leaf.key ≡ key = own_key f fields dir i key leaf sound is kind path in
    let low : least_key name ≤ key = picked.from_key in
    let high : key < least_key name + 2 ^ 15 = picked.same_upper in
    let inside = between (least_key name) (last_key name) leaf (omega arith) (omega arith) in
    let at = lists.all key leaf path inside in
    absurd (picked.unused (subst (λ k. Contains (map (λ (r : Ref). r.key) items) k) own (key_of_place items leaf (at_place items at.0 leaf at.1))))

pub spot_there : (f : Forest) (fields : ℕ → Option Fields) (dir : ℕ) (i : Inode) (name : List ℕ) (items : List Ref) (key : ℕ) → IsName name → IsSound f → HasInode f fields dir i → i.kind ≡ Directory
    → Lists f dir (least_key name) (last_key name) items → NoneNamed f items name → IsPicked (least_key name) (map (λ (r : Ref). r.key) items) key → IsSpot f dir name key
spot_there f fields dir i name items key good sound is kind lists none picked =
    let low : least_key name ≤ key = picked.from_key in
    let high : key < least_key name + 2 ^ 15 = picked.same_upper in
    let path = path_loaded f (least_key name) (last_key name) key dir sound low (omega arith) is.stands lists.loaded in
    record {
      missing = missing_there f dir name items lists none;
      under = record { good = good; upper = picked_upper name (map (λ (r : Ref). r.key) items) key picked };
      path = free_path f fields dir i name items key sound is kind lists picked path.0 path.1;
      used = λ k from below_it.
          let at = place_of_key items k (picked.least k from below_it) in
          let place = has_place items at.0 at.1 in
          (at.0, subst (λ m. Reaches f m dir (Some at.0)) at.2 (lists.each place.0 at.0 place.1).1, at.2);
    }

-- where the name is missing, it has no number; where it is found, it has one
pub is_some : (o : Option ℕ) (n : ℕ) → o ≡ Some n → IsSome o
is_some None n e = absurd (none-some n e)
is_some (Some m) n e = cc

-- the name is that of the entry at the place
pub taken_there : (f : Forest) (dir : ℕ) (name : List ℕ) (items : List Ref) (i : ℕ) → IsName name → Lists f dir (least_key name) (last_key name) items → IsPlaceOfName f items name i → IsTaken f dir name
taken_there f dir name items i good lists at =
    let leaf = at.leaf in
    let named = at.named in
    record {
      key = leaf.key;
      entry = named.entry;
      found = found_there f dir name items i leaf.key named.entry good lists at (λ r read.
          let same : leaf ≡ r = same_Some leaf r (sym at.read ∙ read) in
          (ap (λ (x : Ref). x.key) (sym same), ap (λ (x : Ref). x.dirent) (sym same) ∙ named.entry_is));
    }
