-- A super-root stays one after each call that concerns others.
use Rattle.std.specs.Prelude.{◌≡◌, ◌↔◌, ℕ, true, Option}
use Rattle.std.proofs.Common.{sym, ◌∙◌, subst, refl, inl, inr}
use Rattle.h2_ref.specs.declared.reference.Kind.TheVariants.{Inode as Inode_kind}
use Rattle.h2_ref.specs.declared.reference.Ref.{Ref}
use Rattle.h2_set.specs.SetBytes.{IsHeld}
use Rattle.h2_set.specs.Forest.{Forest, IsSound}
use Rattle.h2_set.specs.Calls.{Fixed, InPlace, ReadiesOnly}
use Rattle.h2_tree.specs.Changes.{Inserts}
use Rattle.h2_inode.specs.Nodes.{IsUnloaded, Visits, Brings}
use Rattle.h2_memory_sets.specs.Roots.{Unloads, UnloadsInodes}
use Rattle.h2_node_rows.specs.VolumeUnderTest.{IsTop}

-- where it stays in its place, its tree takes in the same leaves, and nothing else is held
pub top_on : (f g : Forest) (c : ℕ) → IsTop f c → IsSound g → InPlace f g c → g.leaf_bits c ≡ f.leaf_bits c → ((r : Ref) → g.allows c r ≡ f.allows c r) → ((m : ℕ) → g.held m ≡ f.held m) → IsTop g c
top_on f g c is sound place bits allows held =
    let s = is.super_root in
    record {
      sound = sound;
      super_root = record {
        stands = place.stands;
        root = place.root ∙ s.root;
        low = place.low ∙ s.low;
        bits = place.bits ∙ s.bits;
        leaf_bits = bits ∙ s.leaf_bits;
        allows = λ r. subst (λ x. (x ≡ true) ↔ ((r.kind ≡ Inode_kind) × IsHeld r)) (sym (allows r)) (s.allows r);
      };
      unowned = λ t k. place.belongs t k ∙ is.unowned t k;
      free = λ m. held m ∙ is.free m;
    }

-- the same, where no node changed what its tree takes in
pub top_fixed : (f g : Forest) (c : ℕ) → IsTop f c → IsSound g → InPlace f g c → Fixed f g → IsTop g c
top_fixed f g c is sound place fixed =
    let s = is.super_root in
    top_on f g c is sound place (fixed.leaf_bits c s.stands place.stands) (λ r. fixed.allows c r s.stands place.stands) fixed.held

-- room was made
pub readied : (f g : Forest) (c : ℕ) → IsTop f c → ReadiesOnly f g → IsTop g c
readied f g c is ready = let s = is.super_root in top_fixed f g c is ready.sound (ready.same c s.stands).place ready.fixed

-- blocks and inodes were loaded
pub visited : (f g : Forest) (c : ℕ) → IsTop f c → Visits f g → IsTop g c
visited f g c is visits =
    let s = is.super_root in
    top_on f g c is visits.sound (visits.stays c s.stands).place (visits.leaf_bits c s.stands) (λ r. visits.allows c r s.stands) visits.held

-- a root came
pub brought : (f g : Forest) (c at : ℕ) → IsTop f c → Brings f g at → IsTop g c
brought f g c at is brings =
    let s = is.super_root in
    top_on f g c is brings.sound (brings.same c s.stands).place (brings.leaf_bits c s.stands) (λ r. brings.allows c r s.stands) brings.held

-- a leaf went into a tree
pub inserted : (f g : Forest) (c at : ℕ) (leaf : Ref) (old : Option Ref) → IsTop f c → Inserts f g at leaf old → IsTop g c
inserted f g c at leaf old is ins = let s = is.super_root in top_fixed f g c is ins.sound (ins.still c s.stands) ins.fixed

-- inodes were unloaded
pub unloaded : (f g : Forest) (c : ℕ) → IsTop f c → UnloadsInodes f g → IsTop g c
unloaded f g c is un = let s = is.super_root in top_fixed f g c is un.sound (un.stays c s.stands is.unowned).place un.fixed

-- blocks below roots were unloaded
pub unloaded_from : (f g : Forest) (c from : ℕ) → IsTop f c → Unloads f g from → IsTop g c
unloaded_from f g c from is un = let s = is.super_root in top_fixed f g c is un.sound (un.stays c s.stands (inr s.root)) un.fixed

-- no root is named by a leaf to which nothing belongs
pub none_named : (g : Forest) (c key : ℕ) → ((m : ℕ) → g.stands m ≡ true → g.belongs m c key ≡ true → ⊥) → IsUnloaded g c key
none_named g c key none = λ d n. none d n.stands ((n.belongs c key).1 (inl (refl, refl)))
