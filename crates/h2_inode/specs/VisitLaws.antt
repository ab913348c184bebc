-- Loads, of indirect blocks and of inodes: they chain, and keep the leaves of all trees, loaded paths, names, and inodes.
use Rattle.std.specs.Prelude.{◌≡◌, ℕ, true, false, slice_get, Option}
use Rattle.std.proofs.Common.{ap, sym, ◌∙◌, arith, inl, inr, subst}
use Rattle.std.proofs.lemmas.Bool.{cases_Bool}
use Rattle.h2_ref.specs.declared.reference.Ref.{Ref}
use Rattle.h2_set.specs.RefSet.{RefSet}
use Rattle.h2_set.specs.Forest.{Forest, KeepsLeaves, IsSound, Reaches, nowhere, here, below, IsRootOf}
use Rattle.h2_set.specs.Calls.{Walks, Unchanged, KeepsBeside}
use Rattle.h2_set.specs.StayLaws.{Stays-trans, leaves_stay_all, stands_below}
use Rattle.h2_inode.specs.declared.inode.Inode.{Inode}
use Rattle.h2_inode.specs.Nodes.{Fields, held_by, HasInode, IsInodeLeaf, Seeks, Visits}
use Rattle.h2_inode.specs.NodeLaws.{named_stays, same_stays, inode_held}
use Rattle.h2_inode.specs.NamesOneLaws.{walks_one, unchanged_one, seeks_one}

-- What loads

-- loads of indirect blocks alone
pub walks_visit : (f g : Forest) → Walks f g → Visits f g
walks_visit f g h = record {
  sound = h.sound;
  stays = h.stays;
  sets = h.sets;
  writable = h.writable;
  clean = h.clean;
  copies = h.copies;
  names_one = λ sound names. walks_one f g names h;
  leaf_bits = λ m stands. h.fixed.leaf_bits m stands (h.stays m stands).place.stands;
  allows = λ m r stands. h.fixed.allows m r stands (h.stays m stands).place.stands;
  held = h.fixed.held;
  name = h.fixed.name;
  epoch = h.fixed.epoch;
  spare = h.spare;
  room = h.room;
  failed = h.fixed.failed;
  bad = h.fixed.bad;
}

-- a load that failed
pub unchanged_visits : (f g : Forest) → Unchanged f g → Visits f g
unchanged_visits f g h = record {
  sound = h.sound;
  stays = λ m stands. same_stays f g m (h.same m stands);
  sets = λ m stands. (h.same m stands).set;
  writable = λ m stands. (h.same m stands).writable;
  clean = λ m gone stands. let clash : true ≡ false = sym (h.none_new m stands) ∙ gone in absurd (cc);
  copies = λ m stands. (h.same m stands).copies;
  names_one = λ sound names. unchanged_one f g names h;
  leaf_bits = λ m stands. h.fixed.leaf_bits m stands (h.same m stands).place.stands;
  allows = λ m r stands. h.fixed.allows m r stands (h.same m stands).place.stands;
  held = h.fixed.held;
  name = h.fixed.name;
  epoch = h.fixed.epoch;
  spare = h.spare;
  room = h.room;
  failed = h.fixed.failed;
  bad = h.fixed.bad;
}

-- the load of an inode
pub seeks_visit : (f g : Forest) (top key c : ℕ) → Seeks f g top key c → Visits f g
seeks_visit f g top key c h = record {
  sound = h.brings.sound;
  stays = λ m stands. same_stays f g m (h.brings.same m stands);
  sets = λ m stands. (h.brings.same m stands).set;
  writable = λ m stands. (h.brings.same m stands).writable;
  clean = λ m gone stands. elim (h.brings.new m stands) as (λ _. g.writable m ≡ false) [
    | inl e ↦ subst (λ n. g.writable n ≡ false) (sym e) (h.clean (subst (λ n. f.stands n ≡ false) e gone))
    | inr stood ↦ let clash : true ≡ false = sym stood ∙ gone in absurd (cc)
  ];
  copies = λ m stands. (h.brings.same m stands).copies;
  names_one = λ sound names. seeks_one f g top key c sound names h;
  leaf_bits = h.brings.leaf_bits;
  allows = h.brings.allows;
  held = h.brings.held;
  name = h.brings.name;
  epoch = h.brings.epoch;
  spare = h.spare;
  room = h.brings.room;
  failed = h.failed;
  bad = h.bad;
}

-- one after the other
pub visits_trans : (f g h : Forest) → Visits f g → Visits g h → Visits f h
visits_trans f g h a b =
    let failed = a.failed in
    let failed_too = b.failed in
    let bad = a.bad in
    let bad_too = b.bad in
    record {
      sound = b.sound;
      stays = λ m stands. Stays-trans f g h a.sound b.stays m (a.stays m stands);
      sets = λ m stands. b.sets m (there m stands) ∙ a.sets m stands;
      writable = λ m stands. b.writable m (there m stands) ∙ a.writable m stands;
      clean = λ m gone stands. elim (cases_Bool (g.stands m)) as (λ _. h.writable m ≡ false) [
        | inl between ↦ b.writable m between ∙ a.clean m gone between
        | inr still ↦ b.clean m still stands
      ];
      copies = λ m stands. b.copies m (there m stands) ∙ a.copies m stands;
      names_one = λ sound names. b.names_one a.sound (a.names_one sound names);
      leaf_bits = λ m stands. b.leaf_bits m (there m stands) ∙ a.leaf_bits m stands;
      allows = λ m r stands. b.allows m r (there m stands) ∙ a.allows m r stands;
      held = λ m. b.held m ∙ a.held m;
      name = λ r. b.name r ∙ a.name r;
      epoch = b.epoch ∙ a.epoch;
      spare = b.spare ∙ a.spare;
      room = b.room ∙ a.room;
      failed = omega arith;
      bad = omega arith;
    }
  where
    there : (m : ℕ) → f.stands m ≡ true → g.stands m ≡ true
    there m stands = (a.stays m stands).place.stands

-- What stays

pub visits_leaves : (f g : Forest) → IsSound f → Visits f g → (at : ℕ) → f.stands at ≡ true → KeepsLeaves f g at
visits_leaves f g sound h = leaves_stay_all f g sound h.stays

pub visits_path : {f g : Forest} {key at : ℕ} {o : Option Ref} → IsSound f → Visits f g → f.stands at ≡ true → Reaches f key at o → Reaches g key at o
visits_path {key = key} sound h stands (nowhere {at = at} miss) = nowhere (λ i r read. miss i r (ap (λ (s : RefSet). slice_get s.refs i) (sym (h.sets at stands)) ∙ read))
visits_path sound h stands (here {at = at} {r = r} i read in_r leaf) = here {r = r} i (ap (λ (s : RefSet). slice_get s.refs i) (h.sets at stands) ∙ read) in_r leaf
visits_path {f} sound h stands (below {at = at} {c = c} {r = r} i read in_r ind link rest) = below {r = r} i (ap (λ (s : RefSet). slice_get s.refs i) (h.sets at stands) ∙ read) in_r ind ((h.stays at stands).near r.key c link) (visits_path sound h (stands_below f sound at r.key c stands link) rest)

-- a leaf of an inode, and its path
pub visits_leaf : (f g : Forest) (top : ℕ) (leaf : Ref) → IsSound f → Visits f g → IsInodeLeaf f top leaf → IsInodeLeaf g top leaf
visits_leaf f g top leaf sound h is = record {
  stands = (h.stays top is.stands).place.stands;
  root = (h.stays top is.stands).place.root ∙ is.root;
  kind = is.kind;
  path = visits_path sound h is.stands is.path;
}

-- which root a leaf names
pub visits_name : (f g : Forest) (top key c : ℕ) → Visits f g → f.stands top ≡ true → IsRootOf f top key c → IsRootOf g top key c
visits_name f g top key c h stands is = named_stays f g top key c (h.stays top stands).place (h.stays c is.stands).place is

-- the inode of a root, where what it holds beside its set stays
pub visits_held : (f g : Forest) (old new : ℕ → Option Fields) (at : ℕ) (i : Inode) → Visits f g → new at ≡ old at → HasInode f old at i → HasInode g new at i
visits_held f g old new at i h same is = inode_held f g old new at i (h.stays at is.stands).place (h.leaf_bits at is.stands) (λ r. h.allows at r is.stands) (h.sets at is.stands) same is

pub visits_inode : {B : Type 0} (fields : B → Option Fields) (f g : Forest) (old new : ℕ → B) (at : ℕ) (i : Inode) → Visits f g → KeepsBeside f g old new → HasInode f (held_by fields old) at i → HasInode g (held_by fields new) at i
visits_inode fields f g old new at i h beside is = visits_held f g (held_by fields old) (held_by fields new) at i h (ap fields (beside.same at is.stands (h.stays at is.stands).place.stands)) is
