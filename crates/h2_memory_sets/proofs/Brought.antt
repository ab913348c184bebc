-- What stands of the nodes of inodes, once a node was loaded.
use Rattle.std.proofs.Common.{◌≡◌, ℕ, true, false, arith, refl, sym, ◌∙◌, ap, List, length, Option, Some, None, subst, ◌⊎◌, inl, inr, slice_get, slice_set, nat_eq}
use Rattle.std.proofs.Math.ListN.{length-set}
use Rattle.std.proofs.lemmas.Option.{slice_get_within}
use Rattle.h2_ref.specs.declared.reference.Ref.{Ref}
use Rattle.h2_set.specs.ChangeLaws.{same_or_not}
use Rattle.h2_inode.specs.declared.inode.Inode.{Inode}
use Rattle.h2_memory_sets.specs.declared.node.Node.{Node}
use Rattle.h2_memory_sets.specs.declared.node.Owner.{Owner}
use Rattle.h2_memory_sets.specs.Kept.{AreKept}
use Rattle.h2_memory_sets.specs.Owners.{beside_of}
use Rattle.h2_memory_sets.specs.View.{root_of, copies_of, is_up, IsLoadable, brought}
use Rattle.h2_memory_sets.proofs.Bringing.{away_parts, brought_is}
use Rattle.h2_memory_sets.proofs.Keeping.{CameFrom, IsPlain, kept_from}
use Rattle.h2_memory_sets.proofs.Nodes.{get_set, get_set_other, field_stays}
use Rattle.h2_memory_sets.proofs.Parting.{one_of}

module _ (xs : List Node) (at c : ℕ) (r : Ref) (kept : AreKept xs) (l : IsLoadable xs at r c) where
  abbrev new : Node
  new = brought (root_of (slice_get xs at)) (copies_of (slice_get xs at)) r.keybits l.node

  abbrev ys : List Node
  ys = slice_set xs c (brought (root_of (slice_get xs at)) (copies_of (slice_get xs at)) r.keybits l.node)

  -- something is above the node, so that it is no root
  above : l.node.up ≡ None → ⊥
  above bare = let clash : true ≡ false = sym (away_parts l.node.loaded (is_up at l.node.up) (nat_eq l.node.low r.key) l.away).1 ∙ ap (is_up at) bare in cc

  unowned : l.node.owner ≡ None
  unowned = go l.node.owner refl
    where
      go : (o : Option Owner) → l.node.owner ≡ o → l.node.owner ≡ None
      go None e = e
      go (Some o) e = absurd (above (kept.owner c l.node o l.read e).bare)

  no_inode : l.node.inode ≡ None
  no_inode = go l.node.inode refl
    where
      go : (o : Option Inode) → l.node.inode ≡ o → l.node.inode ≡ None
      go None e = e
      go (Some v) e = absurd (above (kept.inode c l.node v l.read e).bare)

  long : length ys ≡ length xs
  long = length-set xs c new

  plain : (y : Node) → new ≡ y → IsPlain (length ys) y
  plain y is = subst (IsPlain (length ys)) is (record { above = λ u up. (let lt = kept.above c l.node u l.read up in omega (arith, lt, long)); owner = unowned; inode = no_inode })

  from : (i : ℕ) (y : Node) → slice_get ys i ≡ Some y → CameFrom xs (length ys) i y ⊎ IsPlain (length ys) y
  from i y got = elim (same_or_not i c) as (λ _. CameFrom xs (length ys) i y ⊎ IsPlain (length ys) y) [
    | inl e ↦ inr (plain y (one_of new y (sym (get_set xs c new (slice_get_within xs c l.node l.read)) ∙ subst (λ z. slice_get ys z ≡ Some y) e got)))
    | inr ne ↦
        let read = sym (get_set_other xs c i new ne) ∙ got in
        inl (record {
          old = y;
          read = read;
          owner = refl;
          root = refl;
          bare = λ e. e;
          above = λ u up. (let lt = kept.above i y u read up in omega (arith, lt, long));
          loaded = λ o own on. on;
          inode = λ v e. kept.inode i y v read e;
          known = λ on e. e;
        })
  ]

  kept_load : AreKept (slice_set xs c (brought (root_of (slice_get xs at)) (copies_of (slice_get xs at)) r.keybits l.node))
  kept_load = kept_from xs ys kept from

pub kept_bring : (xs : List Node) (at c : ℕ) (q : Ref) (x y z : Node) → AreKept xs → IsLoadable xs at q c → slice_get xs at ≡ Some x → slice_get xs c ≡ Some y → z ≡ brought x.root x.copies q.keybits y → AreKept (slice_set xs c z)
kept_bring xs at c q x y z kept l at_x at_y z_is = subst AreKept (brought_is xs at c q x y z l at_x at_y z_is) (kept_load xs at c q kept l)

-- what is kept beside a set stays
pub beside_bring : (xs : List Node) (c root copies bits : ℕ) (y z : Node) → slice_get xs c ≡ Some y → z ≡ brought root copies bits y → (m : ℕ) → beside_of (slice_get (slice_set xs c z) m) ≡ beside_of (slice_get xs m)
beside_bring xs c root copies bits y z read is m = ap (λ (n : Node). beside_of (slice_get (slice_set xs c n) m)) is ∙ field_stays beside_of xs c y (brought root copies bits y) read refl m
