-- A root is one with the same keys and leaves after an insertion or a removal.
use Rattle.std.proofs.Common.{◌≡◌, Bool, true, false, refl, sym, ℕ, ◌∙◌, Option, Some, None, inr, Result, Ok, Err, IfOk}
use Rattle.std.specs.Prelude.{OnErr, IfSome, IfNone}
use Rattle.h2_ref.specs.declared.reference.Ref.{Ref}
use Rattle.h2_ref.specs.declared.faults.Trouble.{Trouble}
use Rattle.h2_set.specs.Forest.{Forest, IsSound}
use Rattle.h2_set.specs.Calls.{Fixed, InPlace, Walks}
use Rattle.h2_memory_sets.specs.declared.node.KeyClass.{KeyClass}
use Rattle.h2_memory_sets.specs.Roots.{AddsRoot, Unloads}
use Rattle.h2_tree_rows.specs.TreeUnderTest.{IsPlainTree}
use Rattle.h2_tree.specs.Changes.{Inserts, Removes}

-- where it stands as before
root_stays : (f g : Forest) (c : ℕ) (keys : KeyClass) (bits : ℕ) → IsSound g → InPlace f g c → Fixed f g → IsPlainTree f c keys bits → IsPlainTree g c keys bits
root_stays f g c keys bits sound place fixed tree =
    let t = tree.top in
    record {
      top = record {
        sound = sound;
        stands = place.stands;
        root = place.root ∙ t.root;
        low = place.low ∙ t.low;
        bits = place.bits ∙ t.bits;
        leaf_bits = fixed.leaf_bits c t.stands place.stands ∙ t.leaf_bits;
      };
      free = λ m. fixed.held m ∙ tree.free m;
      allows = λ r inode empty. fixed.allows c r t.stands place.stands ∙ tree.allows r inode empty;
    }

pub walked : (f g : Forest) (c : ℕ) (keys : KeyClass) (bits : ℕ) → Walks f g → IsPlainTree f c keys bits → IsPlainTree g c keys bits
walked f g c keys bits walks tree = root_stays f g c keys bits walks.sound (walks.stays c tree.top.stands).place walks.fixed tree

pub inserted : (f g : Forest) (c : ℕ) (keys : KeyClass) (bits : ℕ) (leaf : Ref) (r : Result (Option Ref) Trouble) → IfOk r (Inserts f g c leaf) → OnErr r (Walks f g) → IsPlainTree f c keys bits → IsPlainTree g c keys bits
inserted f g c keys bits leaf (Ok o) ins walks tree = root_stays f g c keys bits ins.sound ins.place ins.fixed tree
inserted f g c keys bits leaf (Err e) ins walks tree = walked f g c keys bits walks tree

pub removed : (f g : Forest) (c : ℕ) (keys : KeyClass) (bits : ℕ) (r : Result (Option Ref) Trouble) → IfOk r (λ o. IfSome o (Removes f g c)) → IfOk r (λ o. IfNone o (Walks f g)) → OnErr r (Walks f g) → IsPlainTree f c keys bits → IsPlainTree g c keys bits
removed f g c keys bits (Ok (Some leaf)) out none walks tree = root_stays f g c keys bits out.sound out.place out.fixed tree
removed f g c keys bits (Ok None) out none walks tree = walked f g c keys bits none tree
removed f g c keys bits (Err e) out none walks tree = walked f g c keys bits walks tree

pub unloaded : (f g : Forest) (c from : ℕ) (keys : KeyClass) (bits : ℕ) → Unloads f g from → IsPlainTree f c keys bits → IsPlainTree g c keys bits
unloaded f g c from keys bits un tree = root_stays f g c keys bits un.sound (un.stays c tree.top.stands (inr tree.top.root)) un.fixed tree

-- the first root of a forest without nodes
pub fresh : (f g : Forest) (c : ℕ) (keys : KeyClass) (bits : ℕ) → IsSound f → ((m : ℕ) → f.stands m ≡ false) → AddsRoot f g c keys bits → IsPlainTree g c keys bits
fresh f g c keys bits sound empty added = record { top = added.top; free = λ m. added.others_held m ∙ none m (f.held m) refl; allows = added.allows }
  where
    none : (m : ℕ) (b : Bool) → f.held m ≡ b → f.held m ≡ false
    none m false e = e
    none m true e = let clash : true ≡ false = sym (sound.held m e).0 ∙ empty m in absurd (cc)
