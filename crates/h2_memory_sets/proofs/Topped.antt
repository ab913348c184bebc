-- The root of a tree without an inode, at the end of a vector.
use Rattle.std.proofs.Common.{◌≡◌, ℕ, ◌+◌, ◌%◌, ◌≤◌, ◌^◌, true, false, arith, refl, sym, ◌∙◌, ap, List, [], ◌∷◌, ◌++◌, length, Option, None, subst, ◌⊎◌, inl, inr, slice_get}
use Rattle.std.specs.Prelude.{◌↔◌}
use Rattle.std.proofs.lemmas.List.{length-append}
use Rattle.std.proofs.lemmas.Option.{none-some, slice_get_past}
use Rattle.h2_ref.specs.declared.faults.Why.{Why}
use Rattle.h2_ref.specs.declared.reference.Kind.{Kind}
use Rattle.h2_ref.specs.declared.reference.Kind.TheVariants.{Empty, Inode as Inode_kind, Indirect, Content, Dirent, MapNode, MapLeaf}
use Rattle.h2_set.specs.Forest.{Forest, IsSound}
use Rattle.h2_set.specs.Calls.{KeepsBeside}
use Rattle.h2_set.specs.SetBytes.{IsHeld}
use Rattle.h2_inode.specs.declared.kind.InodeKind.TheVariants.{Pfs}
use Rattle.h2_memory_sets.specs.declared.node.KeyClass.{KeyClass}
use Rattle.h2_memory_sets.specs.declared.node.KeyClass.TheVariants.{Low, High}
use Rattle.h2_memory_sets.specs.declared.node.Leaves.{Leaves}
use Rattle.h2_memory_sets.specs.declared.node.Leaves.TheVariants.{Any, Inodes}
use Rattle.h2_memory_sets.specs.declared.node.Node.{Node}
use Rattle.h2_memory_sets.specs.Kept.{AreKept}
use Rattle.h2_memory_sets.specs.Owners.{owner_of, belongs_to, beside_of, held_of, allows_of, tree_allows, is_plain}
use Rattle.h2_memory_sets.specs.Roots.{IsTreeRoot, AddsRoot, AddsSuperRoot}
use Rattle.h2_memory_sets.specs.View.{stands_of, set_of, root_of, low_of, bits_of, writable_of, leaf_bits_of, forest_with, first_key, top_node, AllRooted}
use Rattle.h2_memory_sets.proofs.Arrived.{rooted_arrives, kept_plain, beside_arrives}
use Rattle.h2_memory_sets.proofs.Arriving.{pushed}
use Rattle.h2_memory_sets.proofs.Coming.{Comes, IsFitRoot, HasPath, sound_now, same, held, link_here}
use Rattle.h2_memory_sets.proofs.Inoded.{kind_allows}
use Rattle.h2_memory_sets.proofs.Owned.{are_lower, belongs_none}

keys_aligned : (keys : KeyClass) → first_key keys % 2 ^ 63 ≡ 0
keys_aligned Low = refl
keys_aligned High = refl

keys_end : (keys : KeyClass) → first_key keys + 2 ^ 63 ≤ 2 ^ 64
keys_end Low = omega arith
keys_end High = omega arith

plain_kind : (k : Kind) → (k ≡ Inode_kind → ⊥) → (k ≡ Empty → ⊥) → is_plain k ≡ true
plain_kind Empty inode empty = absurd (empty refl)
plain_kind Inode_kind inode empty = absurd (inode refl)
plain_kind Indirect inode empty = refl
plain_kind Content inode empty = refl
plain_kind Dirent inode empty = refl
plain_kind MapNode inode empty = refl
plain_kind MapLeaf inode empty = refl

bare_kind : (k : Kind) → (k ≡ Inode_kind) ⊎ (k ≡ Empty) → is_plain k ≡ false
bare_kind k (inl e) = ap is_plain e
bare_kind k (inr e) = ap is_plain e

-- what adding a root does
pub record Topped (xs ys : List Node) (spare epoch room failed bad : ℕ) (met : Option (ℕ × Why)) (c : ℕ) (keys : KeyClass) (leaf_bits : ℕ) : Type 0 where
  pub rooted : AllRooted ys
  pub kept : AreKept ys
  pub beside : KeepsBeside (forest_with xs spare epoch room failed bad met) (forest_with ys spare epoch room failed bad met) (λ m. beside_of (slice_get xs m)) (λ m. beside_of (slice_get ys m))
  pub none : beside_of (slice_get ys c) ≡ None

module _ (xs : List Node) (keys : KeyClass) (leaf_bits : ℕ) (leaves : Leaves) (spare epoch room failed bad : ℕ) (met : Option (ℕ × Why)) (rooted : AllRooted xs) (kept : AreKept xs) where
  abbrev y : Node
  y = top_node (length xs) keys leaf_bits leaves

  abbrev ys : List Node
  ys = xs ++ top_node (length xs) keys leaf_bits leaves ∷ []

  abbrev f : Forest
  f = forest_with xs spare epoch room failed bad met

  abbrev g : Forest
  g = forest_with (xs ++ top_node (length xs) keys leaf_bits leaves ∷ []) spare epoch room failed bad met

  comes : Comes xs ys (length xs) y
  comes = pushed xs y rooted kept (are_lower xs kept) refl refl refl refl refl refl

  fit : IsFitRoot y
  fit = record {
    set = record { rising = omega arith; fits = omega arith; known = inl refl };
    capacity = refl;
    aligned = keys_aligned keys;
    ends = keys_end keys;
    fits = λ j r read. absurd (none-some r read);
  }

  unowned : owner_of (slice_get ys (length xs)) ≡ None
  unowned = ap owner_of comes.at_c

  no_path : (t k : ℕ) → belongs_to ys (length xs) t k ≡ true → HasPath f t k
  no_path t k b = let clash : true ≡ false = sym b ∙ belongs_none ys (length xs) t k unowned in absurd (cc)

  longer : length xs ≤ length ys
  longer = let n : length ys ≡ length xs + length (y ∷ []) = length-append xs (y ∷ []) in omega (arith, n)

  tree : IsSound f → IsTreeRoot g (length xs) keys leaf_bits
  tree sound = record {
    sound = sound_now xs ys (length xs) y spare spare epoch room failed failed bad bad met met comes sound (are_lower ys (kept_plain xs ys (length xs) y comes refl kept longer refl refl)) fit no_path;
    stands = ap stands_of comes.at_c;
    root = ap root_of comes.at_c;
    low = ap low_of comes.at_c;
    bits = ap bits_of comes.at_c;
    leaf_bits = ap leaf_bits_of comes.at_c;
  }

  held_same : IsSound f → (m : ℕ) → g.held m ≡ f.held m
  held_same sound m = held xs ys (length xs) y spare spare epoch room failed failed bad bad met met comes sound m

  no_belongs : (t k : ℕ) → g.belongs (length xs) t k ≡ false
  no_belongs t k = ap (λ q. belongs_to ys q t k) (ap root_of comes.at_c) ∙ belongs_none ys (length xs) t k unowned

  pub topped : Topped xs ys spare epoch room failed bad met (length xs) keys leaf_bits
  topped = record {
    rooted = rooted_arrives xs ys (length xs) y comes refl rooted;
    kept = kept_plain xs ys (length xs) y comes refl kept longer refl refl;
    beside = beside_arrives xs ys (length xs) y comes refl spare spare epoch room failed failed bad bad met met;
    none = ap beside_of comes.at_c;
  }

  pub adds : IsSound f → leaves ≡ Any → AddsRoot f g (length xs) keys leaf_bits
  adds sound any = record {
    top = tree sound;
    fresh = comes.fresh;
    set = ap set_of comes.at_c;
    writable = ap writable_of comes.at_c;
    link = link_here xs ys (length xs) y spare spare epoch room failed failed bad bad met met comes sound;
    allows = λ r ne full. ap (λ (o : Option Node). allows_of o r) comes.at_c ∙ ap (λ (l : Leaves). tree_allows l r) any ∙ plain_kind r.kind ne full;
    refuses = λ r e. ap (λ (o : Option Node). allows_of o r) comes.at_c ∙ ap (λ (l : Leaves). tree_allows l r) any ∙ bare_kind r.kind e;
    belongs = no_belongs;
    held = held_same sound (length xs) ∙ away;
    others = same xs ys (length xs) y spare spare epoch room failed failed bad bad met met comes sound;
    others_leaf_bits = λ m ne. ap leaf_bits_of (comes.off_c m ne);
    others_allow = λ m r ne. ap (λ (o : Option Node). allows_of o r) (comes.off_c m ne);
    others_held = held_same sound;
    none_new = λ m ne. ap stands_of (comes.off_c m ne);
    name = λ r. refl;
    epoch = refl;
    spare = refl;
    room = refl;
    failed = refl;
    bad = refl;
    met = refl;
  }
    where
      away : held_of (slice_get xs (length xs)) ≡ false
      away = ap held_of (slice_get_past xs (length xs) (omega arith))

  pub adds_super : IsSound f → keys ≡ Low → leaf_bits ≡ 0 → leaves ≡ Inodes → AddsSuperRoot f g (length xs)
  adds_super sound low zero_bits inodes = record {
    top = subst (λ n. IsTreeRoot g (length xs) Low n) zero_bits (subst (λ (k : KeyClass). IsTreeRoot g (length xs) k leaf_bits) low (tree sound));
    fresh = comes.fresh;
    set = ap set_of comes.at_c;
    writable = ap writable_of comes.at_c;
    link = link_here xs ys (length xs) y spare spare epoch room failed failed bad bad met met comes sound;
    allows = λ r. subst (λ b. (b ≡ true) ↔ ((r.kind ≡ Inode_kind) × IsHeld r)) (sym (ap (λ (o : Option Node). allows_of o r) comes.at_c ∙ ap (λ (l : Leaves). tree_allows l r) inodes)) (kind_allows Pfs r);
    belongs = no_belongs;
    held = held_same sound (length xs) ∙ ap held_of (slice_get_past xs (length xs) (omega arith));
    others = same xs ys (length xs) y spare spare epoch room failed failed bad bad met met comes sound;
    others_leaf_bits = λ m ne. ap leaf_bits_of (comes.off_c m ne);
    others_allow = λ m r ne. ap (λ (o : Option Node). allows_of o r) (comes.off_c m ne);
    others_held = held_same sound;
    none_new = λ m ne. ap stands_of (comes.off_c m ne);
    name = λ r. refl;
    epoch = refl;
    spare = refl;
    room = refl;
    failed = refl;
    bad = refl;
    met = refl;
  }
