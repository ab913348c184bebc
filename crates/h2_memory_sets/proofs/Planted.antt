-- A new root of an inode, which a leaf names.
use Rattle.std.proofs.Common.{◌≡◌, ◌+◌, ◌≤◌, ℕ, List, [], ◌∷◌, ◌++◌, Option, Some, true, length, slice_get, refl, sym, ap, arith, subst, ◌∙◌}
use Rattle.std.proofs.lemmas.List.{length-append}
use Rattle.h2_ref.specs.declared.faults.Why.{Why}
use Rattle.h2_ref.specs.declared.reference.Ref.{Ref}
use Rattle.h2_set.specs.Forest.{IsSound}
use Rattle.h2_set.specs.Calls.{KeepsBeside}
use Rattle.h2_set.specs.RefSet.{IsRefSet}
use Rattle.h2_inode.specs.declared.inode.Inode.{Inode}
use Rattle.h2_inode.specs.Nodes.{IsInodeLeaf, IsUnloaded, IsPlantable, Plants, HasInode, held_by, set_of as set_of_body}
use Rattle.h2_memory_sets.specs.declared.node.Node.{Node}
use Rattle.h2_memory_sets.specs.declared.node.Owner.{Owner}
use Rattle.h2_memory_sets.specs.Inodes.{inode_node, fields_seen}
use Rattle.h2_memory_sets.specs.Kept.{AreKept, IsInodeRoot}
use Rattle.h2_memory_sets.specs.Owners.{beside_of, owner_of}
use Rattle.h2_memory_sets.specs.View.{AllRooted, forest_with, stands_of, root_of}
use Rattle.h2_memory_sets.proofs.Arrived.{rooted_arrives, kept_arrives, beside_arrives}
use Rattle.h2_memory_sets.proofs.Arriving.{pushed, plants}
use Rattle.h2_memory_sets.proofs.Coming.{Comes}
use Rattle.h2_memory_sets.proofs.Inoded.{has_inode}
use Rattle.h2_memory_sets.proofs.Named.{named_by}
use Rattle.h2_memory_sets.proofs.Nodes.{is_there}
use Rattle.h2_memory_sets.proofs.Owned.{are_lower}
use Rattle.h2_memory_sets.proofs.Plantable.{planted_fits}

-- what the call that plants an inode does
pub record Grown (xs ys : List Node) (spare spare' epoch room failed bad : ℕ) (met : Option (ℕ × Why)) (top key c : ℕ) (i : Inode) : Type 0 where
  pub rooted : AllRooted ys
  pub kept : AreKept ys
  pub plants : Plants (forest_with xs spare epoch room failed bad met) (forest_with ys spare' epoch room failed bad met) top key c
  pub inode : HasInode (forest_with ys spare' epoch room failed bad met) (held_by fields_seen (λ m. beside_of (slice_get ys m))) c i
  pub beside : KeepsBeside (forest_with xs spare epoch room failed bad met) (forest_with ys spare' epoch room failed bad met) (λ m. beside_of (slice_get xs m)) (λ m. beside_of (slice_get ys m))

module _ (xs : List Node) (spare spare' epoch room failed bad : ℕ) (met : Option (ℕ × Why)) (top : ℕ) (leaf : Ref) (i : Inode) (set : IsRefSet (set_of_body i.body)) (rooted : AllRooted xs) (kept : AreKept xs)
    (sound : IsSound (forest_with xs spare epoch room failed bad met)) (named : IsInodeLeaf (forest_with xs spare epoch room failed bad met) top leaf) (unloaded : IsUnloaded (forest_with xs spare epoch room failed bad met) top leaf.key) (number : i.number ≡ leaf.key) (may : IsPlantable i) (less : spare' + 1 ≡ spare) where
  abbrev o : Owner
  o = record { root = top; key = leaf.key }

  abbrev y : Node
  y = inode_node (length xs) (record { root = top; key = leaf.key }) i

  abbrev ys : List Node
  ys = xs ++ inode_node (length xs) (record { root = top; key = leaf.key }) i ∷ []

  comes : Comes xs ys (length xs) y
  comes = pushed xs y rooted kept (are_lower xs kept) refl refl refl refl refl refl

  none_owned : (j : ℕ) (x : Node) → slice_get xs j ≡ Some x → x.loaded ≡ true → x.owner ≡ Some o → ⊥
  none_owned j x read on own =
      let st : stands_of (slice_get xs j) ≡ true = ap stands_of read ∙ on in
      let root : root_of (slice_get xs j) ≡ j = ap root_of read ∙ (kept.owner j x o read own).root in
      unloaded j (named_by xs spare epoch room failed bad met (are_lower xs kept) top leaf.key j (ap owner_of read ∙ own) st root named.root)

  kept_now : AreKept ys
  kept_now = kept_arrives xs ys (length xs) y comes refl o kept longer refl
      (record { lower = is_there xs top named.stands; root = refl; bare = refl; known = λ on. refl })
      (λ v e. subst (IsInodeRoot (length xs) y) (one_inode i v e) (record { root = refl; bare = refl; low = refl; bits = refl; leaf_bits = refl; set = refl; number = λ p own. number ∙ ap (λ (q : Owner). q.key) (one_owner o p own) }))
      none_owned
    where
      one_inode : (a b : Inode) → Some a ≡ Some b → a ≡ b
      one_inode a b e = cc

      one_owner : (a b : Owner) → Some a ≡ Some b → a ≡ b
      one_owner a b e = cc

      longer : length xs ≤ length ys
      longer = let n : length ys ≡ length xs + length (y ∷ []) = length-append xs (y ∷ []) in omega (arith, n)

  grown : Grown xs ys spare spare' epoch room failed bad met top leaf.key (length xs) i
  grown = record {
    rooted = rooted_arrives xs ys (length xs) y comes refl rooted;
    kept = kept_now;
    plants = plants xs ys (length xs) y spare spare' epoch room failed failed bad bad met met comes sound (planted_fits (length xs) o i may set) (are_lower ys kept_now) top leaf named refl refl less refl refl refl;
    inode = has_inode ys spare' epoch room failed bad met kept_now (length xs) y i (ap stands_of comes.at_c) comes.at_c refl;
    beside = beside_arrives xs ys (length xs) y comes refl spare spare' epoch room failed failed bad bad met met;
  }

pub grows : (xs ys : List Node) (spare spare' epoch room failed bad : ℕ) (met : Option (ℕ × Why)) (top : ℕ) (leaf : Ref) (c : ℕ) (i : Inode) → ys ≡ xs ++ inode_node (length xs) (record { root = top; key = leaf.key }) i ∷ [] → c ≡ length xs → IsRefSet (set_of_body i.body) → AllRooted xs → AreKept xs
    → IsSound (forest_with xs spare epoch room failed bad met) → IsInodeLeaf (forest_with xs spare epoch room failed bad met) top leaf → IsUnloaded (forest_with xs spare epoch room failed bad met) top leaf.key → i.number ≡ leaf.key → IsPlantable i → spare' + 1 ≡ spare
    → Grown xs ys spare spare' epoch room failed bad met top leaf.key c i
grows xs ys spare spare' epoch room failed bad met top leaf c i items number_c set rooted kept sound named unloaded number may less =
    subst (λ (zs : List Node). Grown xs zs spare spare' epoch room failed bad met top leaf.key c i) (sym items) (subst (λ z. Grown xs (xs ++ inode_node (length xs) (record { root = top; key = leaf.key }) i ∷ []) spare spare' epoch room failed bad met top leaf.key z i) (sym number_c) (grown xs spare spare' epoch room failed bad met top leaf i set rooted kept sound named unloaded number may less))
