-- A volume stays one where all that belongs to nothing stays.
use Rattle.std.proofs.lemmas.Bool.{cases_eq}
use Rattle.std.proofs.Common.{◌≡◌, ℕ, slice_get, true, false, Bool, Option, Some, sym, ◌∙◌, ap, subst, refl, inl, inr}
use Rattle.h2_ref.specs.declared.reference.Ref.{Ref}
use Rattle.h2_set.specs.Ranges.{NoneHolds}
use Rattle.h2_set.specs.RefSet.{RefSet}
use Rattle.h2_set.specs.StayLaws.{InPlace-trans}
use Rattle.h2_set.specs.Forest.{Forest, IsSound, Reaches, nowhere, here, below}
use Rattle.h2_set.specs.Calls.{Same, Unchanged}
use Rattle.h2_inode.specs.declared.inode.Inode.{Inode}
use Rattle.h2_inode.specs.Nodes.{Fields, Brings, Replaces, set_of}
use Rattle.h2_inode.specs.PathLaws.{refit_place, refit_path}
use Rattle.h2_memory_sets.specs.Roots.{AddsSuperRoot, HoldsRoot}
use Rattle.h2_tree.specs.Changes.{Inserts}
use Rattle.h2_node_rows.specs.VolumeUnderTest.{IsTop, IsLeaf, IsVolume, IsWorked, IsEmptyDirectory}

-- nothing has changed of the nodes that belong to nothing
abbrev pub Unmoved : Forest → Forest → Type 0
Unmoved f g = (m : ℕ) → f.stands m ≡ true → ((t k : ℕ) → f.belongs m t k ≡ false) → Same f g m

path_still : {f g : Forest} {key at : ℕ} {o : Option Ref} → IsSound f → Unmoved f g → f.stands at ≡ true → ((t k : ℕ) → f.belongs at t k ≡ false) → Reaches f key at o → Reaches g key at o
path_still {f} {g} {key} {at} sound same stands free (nowhere none) = nowhere (subst (λ (s : RefSet). NoneHolds key s.refs) (sym (same at stands free).set) none)
path_still {f} {g} {key} {at} sound same stands free (here {r = r} i read in_r leaf) = here i (ap (λ (s : RefSet). slice_get s.refs i) (same at stands free).set ∙ read) in_r leaf
path_still {f} {g} {key} {at} sound same stands free (below {c = c} {r = r} i read in_r ind link rest) =
    let child = (sound.node at stands).child r.key c link in
    let now = same at stands free in
    below i (ap (λ (s : RefSet). slice_get s.refs i) now.set ∙ read) in_r ind (now.link r.key ∙ link) (path_still sound same child.stands (λ t k. child.belongs t k ∙ free t k) rest)

pub still : (f g : Forest) (root : ℕ) (leaf : Ref) → IsVolume f root leaf → IsSound g → Unmoved f g → ((m : ℕ) → g.held m ≡ f.held m) → IsVolume g root leaf
still f g root leaf is sound same held =
    let n = is.named in
    let place = (same root n.stands is.unowned).place in
    record {
      sound = sound;
      named = record { stands = place.stands; root = place.root ∙ n.root; kind = n.kind; path = path_still is.sound same n.stands is.unowned n.path };
      number = is.number;
      unowned = λ t k. place.belongs t k ∙ is.unowned t k;
      free = λ m. held m ∙ is.free m;
    }

-- the first root of a forest without nodes
pub fresh : (f g : Forest) (c : ℕ) → IsSound f → ((m : ℕ) → f.stands m ≡ false) → AddsSuperRoot f g c → IsTop g c
fresh f g c sound empty added =
    let t = added.top in
    record {
      sound = t.sound;
      super_root = record { stands = t.stands; root = t.root; low = t.low; bits = t.bits; leaf_bits = t.leaf_bits; allows = added.allows };
      unowned = added.belongs;
      free = λ m. added.others_held m ∙ none m (f.held m) refl;
    }
  where
    none : (m : ℕ) (b : Bool) → f.held m ≡ b → f.held m ≡ false
    none m false e = e
    none m true e = let clash : true ≡ false = sym (sound.held m e).0 ∙ empty m in absurd (cc)

-- once the super-root has the leaf
pub leafed : (f g : Forest) (c : ℕ) (leaf : Ref) (old : Option Ref) → IsTop f c → IsLeaf leaf → Inserts f g c leaf old → Reaches g leaf.key c (Some leaf) → IsVolume g c leaf
leafed f g c leaf old is l ins path =
    let place = ins.place in
    let fixed = ins.fixed in
    record {
      sound = ins.sound;
      named = record { stands = place.stands; root = place.root ∙ is.super_root.root; kind = l.kind; path = path };
      number = l.number;
      unowned = λ t k. place.belongs t k ∙ is.unowned t k;
      free = λ m. fixed.held m ∙ is.free m;
    }

-- where the root of a directory without leaves gets the set of another
pub replaced : (f g : Forest) (holds : ℕ → Option Fields) (at root : ℕ) (leaf : Ref) (i : Inode) → IsVolume f root leaf → IsWorked f holds at → IsEmptyDirectory i → Replaces f g at (set_of i.body) → IsVolume g root leaf
replaced f g holds at root leaf i is worked empty h =
    let same : set_of i.body ≡ f.set at = empty.empty ∙ sym (worked.has.set ∙ worked.is_empty.empty) in
    let h' : Replaces f g at (f.set at) = subst (Replaces f g at) same h in
    let n = is.named in
    let place = refit_place f g at is.sound h' root n.stands in
    record {
      sound = h.sound;
      named = record { stands = place.stands; root = place.root ∙ n.root; kind = n.kind; path = refit_path f g at is.sound h' n.stands n.path };
      number = is.number;
      unowned = λ t k. place.belongs t k ∙ is.unowned t k;
      free = λ m. h.held m ∙ is.free m;
    }

pub brought : (f g : Forest) (c root : ℕ) (leaf : Ref) → IsVolume f root leaf → Brings f g c → IsVolume g root leaf
brought f g c root leaf is brings = still f g root leaf is brings.sound (λ m stands free. brings.same m stands) brings.held

pub unchanged : (f g : Forest) (root : ℕ) (leaf : Ref) → IsVolume f root leaf → Unchanged f g → IsVolume g root leaf
unchanged f g root leaf is same = let fixed = same.fixed in still f g root leaf is same.sound (λ m stands free. same.same m stands) fixed.held

same_trans : (f g h : Forest) (m : ℕ) → Same f g m → Same g h m → Same f h m
same_trans f g h m a b = record { place = InPlace-trans f g h m a.place b.place; set = b.set ∙ a.set; link = λ k. b.link k ∙ a.link k; writable = b.writable ∙ a.writable; copies = b.copies ∙ a.copies }

-- a root that is held for a while
pub held_once : (f g h : Forest) (root : ℕ) (leaf : Ref) (at : ℕ) → IsVolume f root leaf → HoldsRoot f g at true → HoldsRoot g h at false → IsVolume h root leaf
held_once f g h root leaf at is hold release = still f h root leaf is release.sound moved held
  where
    moved : Unmoved f h
    moved m stands free = same_trans f g h m (hold.same m stands) (release.same m (hold.stands m ∙ stands))

    held : (m : ℕ) → h.held m ≡ f.held m
    held m = elim (cases_eq m at) as (λ _. h.held m ≡ f.held m) [
      | inl e ↦ ap h.held e ∙ release.now ∙ sym (is.free m)
      | inr apart ↦ release.others_held m apart ∙ hold.others_held m apart
    ]
