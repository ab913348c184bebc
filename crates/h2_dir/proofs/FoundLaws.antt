-- What was found and what is missing agree with the entries of the directory.
use Rattle.std.specs.Prelude.{◌≡◌, ℕ, zero, suc, Bool, true, false, List, Option, Some, None, slice_get, refl}
use Rattle.std.proofs.Common.{ap, sym, ◌∙◌, subst}
use Rattle.std.proofs.lemmas.Option.{none-some, same_Some}
use Rattle.std.specs.FinMap.{get}
use Rattle.h2_ref.specs.declared.reference.Dirent.{Dirent}
use Rattle.h2_ref.specs.declared.reference.Ref.{Ref}
use Rattle.h2_set.specs.Ranges.{is_indirect}
use Rattle.h2_set.specs.Forest.{Forest, loaded, told, HasLeaves, done, one, near, far, LeavesOf, Reaches, nowhere, here, below}
use Rattle.h2_tree.specs.ListLaws.{In, has_left, has_right}
use Rattle.h2_tree.specs.TreeLaws.{leaves_reached}
use Rattle.h2_dirkey.specs.Key.{least_key}
use Rattle.h2_inode.specs.Nodes.{Fields, Told}
use Rattle.h2_inode.specs.Directory.{Entries}
use Rattle.h2_dir.specs.Finding.{last_key, HoldsEntries, IsFound, IsMissing}
use Rattle.h2_dir.proofs.Members.{at_place, has_place}
use Rattle.h2_dir.proofs.Agreeing.{key_between, found_agrees, missing_agrees}

-- A loaded path leads to a leaf of the tree.

-- a leaf of a node's references is one of those below them
leaf_in : {f : Forest} {at : ℕ} {rs l : List Ref} → HasLeaves f at rs l → (i : ℕ) (r : Ref) → slice_get rs i ≡ Some r → is_indirect r ≡ false → In l r
leaf_in done i r read leaf = absurd (none-some r read)
leaf_in (one {r = q} {l = l} is rest) zero r read leaf = (0, read)
leaf_in (one {r = q} {l = l} is rest) (suc i) r read leaf = let h = leaf_in rest i r read leaf in (suc h.0, h.1)
leaf_in (near {r = q} ind link kids inside rest) zero r read leaf = let e : q ≡ r = same_Some q r read in let clash : true ≡ false = sym ind ∙ ap is_indirect e ∙ leaf in absurd (cc)
leaf_in (near {r = q} {below = b} {l = l} ind link kids inside rest) (suc i) r read leaf = has_right b l r (leaf_in rest i r read leaf)
leaf_in (far {r = q} ind link inside rest) zero r read leaf = let e : q ≡ r = same_Some q r read in let clash : true ≡ false = sym ind ∙ ap is_indirect e ∙ leaf in absurd (cc)
leaf_in (far {r = q} {below = b} {l = l} ind link inside rest) (suc i) r read leaf = has_right b l r (leaf_in rest i r read leaf)

-- the leaves below a loaded node are among them
record HasKids (f : Forest) (c : ℕ) (l : List Ref) : Type 0 where
  pub kids : List Ref
  pub leaves : LeavesOf f c kids
  pub within : (x : Ref) → In kids x → In l x

kids_in : {f : Forest} {at : ℕ} {rs l : List Ref} → HasLeaves f at rs l → (i c : ℕ) (r : Ref) → slice_get rs i ≡ Some r → is_indirect r ≡ true → f.link at r.key ≡ loaded c → HasKids f c l
kids_in done i c r read ind link = absurd (none-some r read)
kids_in (one {r = q} is rest) zero c r read ind link = let e : q ≡ r = same_Some q r read in let clash : true ≡ false = sym ind ∙ sym (ap is_indirect e) ∙ is in absurd (cc)
kids_in (one {r = q} {l = l} is rest) (suc i) c r read ind link = let h = kids_in rest i c r read ind link in record { kids = h.kids; leaves = h.leaves; within = λ x at. let g = h.within x at in (suc g.0, g.1) }
kids_in {f} (near {at = at} {c = d} {r = q} {below = b} {l = l} is to kids inside rest) zero c r read ind link =
    let e : q ≡ r = same_Some q r read in
    let same : d ≡ c = same_loaded (sym to ∙ ap (λ (x : Ref). f.link at x.key) e ∙ link) in
    record { kids = b; leaves = subst (λ n. LeavesOf f n b) same kids; within = λ x at. has_left b l x at.0 at.1 }
  where
    same_loaded : loaded d ≡ loaded c → d ≡ c
    same_loaded e = cc
kids_in (near {r = q} {below = b} {l = l} is to kids inside rest) (suc i) c r read ind link = let h = kids_in rest i c r read ind link in record { kids = h.kids; leaves = h.leaves; within = λ x at. has_right b l x (h.within x at) }
kids_in {f} (far {at = at} {r = q} {below = b} is to inside rest) zero c r read ind link =
    let e : q ≡ r = same_Some q r read in
    let clash : told b ≡ loaded c = sym to ∙ ap (λ (x : Ref). f.link at x.key) e ∙ link in
    absurd (cc)
kids_in (far {r = q} {below = b} {l = l} is to inside rest) (suc i) c r read ind link = let h = kids_in rest i c r read ind link in record { kids = h.kids; leaves = h.leaves; within = λ x at. has_right b l x (h.within x at) }

pub reached_in : {f : Forest} {key at : ℕ} {o : Option Ref} → Reaches f key at o → (leaf : Ref) → o ≡ Some leaf → (l : List Ref) → LeavesOf f at l → In l leaf
reached_in (nowhere none) leaf is l has = absurd (none-some leaf is)
reached_in (here {r = r} i read in_r is_leaf) leaf is l has = subst (λ q. In l q) (same_Some r leaf is) (leaf_in has i r read is_leaf)
reached_in (below {c = c} {r = r} i read in_r ind link rest) leaf is l has = let h = kids_in has i c r read ind link in h.within leaf (reached_in rest leaf is h.kids h.leaves)

-- an entry that was found has the number of its name
pub found_number : (f : Forest) (holds : ℕ → Option Fields) (tells : Ref → Option Told) (may : ℕ → ℕ → Bool) (dir size : ℕ) (entries : Entries) (name : List ℕ) (key : ℕ) (entry : Dirent) → IsFound f dir name key entry → HoldsEntries f holds tells may dir size entries → get entries name ≡ Some entry.number
found_number f holds tells may dir size entries name key entry is h =
    let it = reached_in is.path is.leaf refl h.leaves h.has.read in
    found_agrees f holds tells may dir size entries h name is.leaf entry (at_place h.leaves it.0 is.leaf it.1) is.named is.entry_is

-- a name that is missing has none
pub missing_number : (f : Forest) (holds : ℕ → Option Fields) (tells : Ref → Option Told) (may : ℕ → ℕ → Bool) (dir size : ℕ) (entries : Entries) (name : List ℕ) → IsMissing f dir name → HoldsEntries f holds tells may dir size entries → get entries name ≡ None
missing_number f holds tells may dir size entries name is h = missing_agrees f holds tells may dir size entries h name (λ leaf at under named.
    let it = has_place h.leaves leaf at in
    is.none leaf (leaves_reached (λ j q read. (j, read)) h.has.read (least_key name) (last_key name) (is.loaded under.good) it.0 leaf it.1 (key_between name leaf under)) under named)
