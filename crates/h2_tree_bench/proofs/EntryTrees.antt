-- A tree stays one of entries, and takes each of them.
use Rattle.std.proofs.Common.{◌≡◌, ℕ, ◌≤◌, ◌<◌, ◌^◌, ◌%◌, false, arith, refl, sym, ap, ◌∙◌, Option, Result, Ok, Err, IfOk, inr}
use Rattle.std.specs.Prelude.{OnErr}
use Rattle.h2_ref.specs.declared.faults.Trouble.{Trouble}
use Rattle.h2_ref.specs.declared.reference.Kind.{Kind}
use Rattle.h2_ref.specs.declared.reference.Kind.TheVariants.{Empty, Inode, Dirent}
use Rattle.h2_ref.specs.declared.reference.Ref.{Ref}
use Rattle.h2_set.specs.Ranges.{is_indirect}
use Rattle.h2_set.specs.Forest.{Forest, IsSound}
use Rattle.h2_set.specs.Calls.{Fixed, InPlace, Walks}
use Rattle.h2_memory_sets.specs.declared.node.KeyClass.TheVariants.{High}
use Rattle.h2_memory_sets.specs.Roots.{AddsRoot}
use Rattle.h2_tree.specs.Changes.{Takes, Inserts}
use Rattle.h2_tree_bench.specs.EntryTree.{IsEntryTree}

-- an entry names neither nothing nor an inode
not_inode : (k : Kind) → k ≡ Dirent → k ≡ Inode → ⊥
not_inode k e h = let clash : Dirent ≡ Inode = sym e ∙ h in cc

not_empty : (k : Kind) → k ≡ Dirent → k ≡ Empty → ⊥
not_empty k e h = let clash : Dirent ≡ Empty = sym e ∙ h in cc

pub fresh : (f g : Forest) (c : ℕ) → AddsRoot f g c High 0 → IsEntryTree g c
fresh f g c added = record { top = added.top; allows = λ r entry. added.allows r (not_inode r.kind entry) (not_empty r.kind entry) }

-- where it stands as before
root_stays : (f g : Forest) (c : ℕ) → IsSound g → InPlace f g c → Fixed f g → IsEntryTree f c → IsEntryTree g c
root_stays f g c sound place fixed tree =
    let t = tree.top in
    record {
      top = record {
        sound = sound;
        stands = place.stands;
        root = place.root ∙ t.root;
        low = place.low ∙ t.low;
        bits = place.bits ∙ t.bits;
        leaf_bits = fixed.leaf_bits c t.stands place.stands ∙ t.leaf_bits;
      };
      allows = λ r entry. fixed.allows c r t.stands place.stands ∙ tree.allows r entry;
    }

pub walked : (f g : Forest) (c : ℕ) → Walks f g → IsEntryTree f c → IsEntryTree g c
walked f g c walks tree = root_stays f g c walks.sound (walks.stays c tree.top.stands).place walks.fixed tree

pub inserted : (f g : Forest) (c : ℕ) (leaf : Ref) (r : Result (Option Ref) Trouble) → IfOk r (Inserts f g c leaf) → OnErr r (Walks f g) → IsEntryTree f c → IsEntryTree g c
inserted f g c leaf (Ok o) ins walks tree = root_stays f g c ins.sound ins.place ins.fixed tree
inserted f g c leaf (Err e) ins walks tree = walked f g c walks tree

entry_leaf : (r : Ref) → r.kind ≡ Dirent → is_indirect r ≡ false
entry_leaf r e = rw e refl

one_key : (n : ℕ) → n ≡ 0 → 2 ^ n ≡ 1
one_key n e = rw e refl

no_rest : (key n : ℕ) → n ≡ 0 → key % 2 ^ n ≡ 0
no_rest key n e = rw e (omega arith)

pub takes : (f : Forest) (c : ℕ) (leaf : Ref) → IsEntryTree f c → leaf.kind ≡ Dirent → 2 ^ 63 ≤ leaf.key → leaf.key < 2 ^ 64 → leaf.keybits ≡ 0 → Takes f c leaf
takes f c leaf tree kind from to bits =
    let t = tree.top in
    let one = one_key leaf.keybits bits in
    let low = t.low in
    let half : 2 ^ f.bits c ≡ 2 ^ 63 = ap (λ n. 2 ^ n) t.bits in
    record {
      is_leaf = entry_leaf leaf kind;
      allowed = ap (λ m. f.allows m leaf) t.root ∙ tree.allows leaf kind;
      aligned = no_rest leaf.key leaf.keybits bits;
      class = inr from;
      keybits = bits ∙ sym (ap f.leaf_bits t.root ∙ t.leaf_bits);
      low = omega (arith, low, from);
      high = omega (arith, low, half, one, to);
    }
