-- A leaf that goes into a directory's tree, or out of it, and the inode then.
use Rattle.std.specs.Prelude.{◌≡◌, ◌≤◌, ◌↔◌, ℕ, ◌+◌, ◌^◌, true, List, [], ◌∷◌, length, Option, Some, None, slice_get, IfNone, IsSome, refl}
use Rattle.std.proofs.Common.{ap, sym, ◌∙◌, arith, subst}
use Rattle.std.proofs.lemmas.Option.{none-some, same_Some}
use Rattle.std.proofs.lemmas.Nat.{pow_pos}
use Rattle.h2_ref.specs.declared.reference.Ref.{Ref}
use Rattle.h2_set.specs.Ranges.{holds, limit}
use Rattle.h2_set.specs.LeafLaws.{holds_inside, place_above}
use Rattle.h2_set.specs.SplitLaws.{below_high}
use Rattle.h2_set.specs.Forest.{Forest, refs, IsSound, Reaches, here, below}
use Rattle.h2_set.specs.Calls.{InPlace, Fixed, Walks, KeepsBeside}
use Rattle.h2_set.specs.StayLaws.{stands_below, Reaches-walks}
use Rattle.h2_set.specs.PathLaws.{in_holds, reaches_one, reaches_stay}
use Rattle.h2_tree.specs.Changes.{Descends, arrived, onward, TakesIn, replaced, placed, parted, Inserts, Removes, LeadsOnly, itself, down, LacksLeaf, KeepsPaths, GoesAway, below_it, named}
use Rattle.h2_tree.specs.Changes as change
use Rattle.h2_inode.specs.declared.inode.Body.{Body}
use Rattle.h2_inode.specs.declared.inode.Body.TheVariants.{Refs}
use Rattle.h2_inode.specs.declared.inode.Inode.{Inode}
use Rattle.h2_inode.specs.Nodes.{Fields, bytes_of, held_by, MayHave, HasInode, KeepsOthersBeside}
use Rattle.h2_dir.specs.Changing.{HasRefs, with_entries}

descends_path : {f : Forest} {key at n : ℕ} {o : Option Ref} → Descends f key at n → Reaches f key n o → Reaches f key at o
descends_path arrived path = path
descends_path (onward {r = r} i read in_r ind link rest) path = below {r = r} i read in_r ind link (descends_path rest path)

-- Going in

replaces_old : {h g : Forest} {n blocks : ℕ} {leaf : Ref} {o : Option Ref} → TakesIn h g n leaf blocks o → (old : Ref) → o ≡ Some old → change.Replaces h g n leaf old
replaces_old {h} {g} {n} {leaf = leaf} (replaced {old = q} rep) old e = subst (λ x. change.Replaces h g n leaf x) (same_Some q old e) rep
replaces_old (placed p) old e = absurd (none-some old e)
replaces_old (parted p) old e = absurd (none-some old e)

-- where the key had no leaf, none was replaced
pub none_replaced : (f g : Forest) (root : ℕ) (leaf : Ref) (o : Option Ref) → IsSound f → f.stands root ≡ true → Reaches f leaf.key root None → Inserts f g root leaf o → Inserts f g root leaf None
none_replaced f g root leaf None sound stands free h = h
none_replaced f g root leaf (Some old) sound stands free h =
    let goes = h.goes in
    let middle = goes.then in
    let rep = replaces_old goes.change old refl in
    let pos = pow_pos old.keybits in
    let is : old.key ≡ leaf.key = rep.key in
    let in_old : holds leaf.key old ≡ true = in_holds leaf.key old (omega arith) (omega arith) in
    let at_node : Reaches middle leaf.key goes.node (Some old) = here {r = old} rep.place rep.was in_old rep.leaf_was in
    let was : Reaches middle leaf.key root None = reaches_stay f middle (λ m. f.stands m ≡ true) (stands_below f sound) goes.prepares.stays stands free in
    absurd (none-some old (reaches_one goes.prepares.sound (goes.prepares.stays root stands).place.stands was (descends_path goes.way at_node)))

-- the inode of the root is the same but for its set
pub same_but_set : {B : Type 0} (fields : B → Option Fields) (f g : Forest) (old new : ℕ → B) (at : ℕ) (i : Inode) → InPlace f g at → Fixed f g → KeepsBeside f g old new → HasRefs i
    → HasInode f (held_by fields old) at i → HasInode g (held_by fields new) at (with_entries i i.size (g.set at))
same_but_set fields f g old new at i place fixed beside has is = record {
  stands = place.stands;
  root = place.root ∙ is.root;
  tree = record {
    low = place.low ∙ is.tree.low;
    bits = place.bits ∙ is.tree.bits;
    leaf_bits = fixed.leaf_bits at is.stands place.stands ∙ is.tree.leaf_bits;
    allows = λ r. subst (λ x. (x ≡ true) ↔ MayHave i.kind (Refs (g.set at)) r) (sym (fixed.allows at r is.stands place.stands)) (subst (λ (b : Body). (f.allows at r ≡ true) ↔ MayHave i.kind b r) has.body_is (is.tree.allows r));
  };
  fields = ap fields (beside.same at is.stands place.stands) ∙ is.fields ∙ ap Some (λ k. record { kind = i.kind; number = i.number; size = i.size; links = i.links; next = i.next; name = i.name; bytes = ap bytes_of has.body_is k });
  set = refl;
}

pub beside_on : {B : Type 0} (f g h : Forest) (at : ℕ) (a b c : ℕ → B) → ((m : ℕ) → f.stands m ≡ true → h.stands m ≡ true → g.stands m ≡ true) → KeepsBeside f g a b → KeepsOthersBeside g h at b c → KeepsOthersBeside f h at a c
beside_on f g h at a b c still first second = record { same = λ m other stands stands_too. let there = still m stands stands_too in second.same m other there stands_too ∙ first.same m stands there }

-- Going out

only_ref : (rs : List Ref) → length rs ≡ 1 → (r : Ref) × (slice_get rs 0 ≡ Some r)
only_ref [] e = absurd (omega (arith, e))
only_ref (r ∷ rs) e = (r, refl)

-- the leaf to which a reference leads alone is reached
pub led_path : {f : Forest} {at i : ℕ} {leaf : Ref} → IsSound f → f.stands at ≡ true → LeadsOnly f at i leaf → (r : Ref) → slice_get (refs f at) i ≡ Some r → (holds leaf.key r ≡ true) × Reaches f leaf.key at (Some leaf)
led_path {f} sound stands (itself {at = at} {r = q} i read leaf) r again =
    let same : q ≡ r = same_Some q r (sym read ∙ again) in
    let pos = pow_pos q.keybits in
    let in_q : holds q.key q ≡ true = in_holds q.key q (omega arith) (omega arith) in
    (subst (λ x. holds q.key x ≡ true) same in_q, here {r = q} i read in_q leaf)
led_path {f} sound stands (down {at = at} {c = c} {r = q} {leaf = leaf} i read ind link one rest) r again =
    let same : q ≡ r = same_Some q r (sym read ∙ again) in
    let node = sound.node at stands in
    let child = node.child q.key c link in
    let first = only_ref (refs f c) one in
    let on = led_path sound child.stands rest first.0 first.1 in
    let inner = sound.node c child.stands in
    let from = place_above (f.low c) (f.low c + 2 ^ f.bits c) (refs f c) 0 first.0 inner.inside first.1 in
    let to = below_high (f.low c) (f.low c + 2 ^ f.bits c) (refs f c) 0 first.0 inner.inside first.1 in
    let range = holds_inside leaf.key first.0 on.0 in
    let low : f.low c ≡ q.key = child.low in
    let bits : f.bits c ≡ q.keybits = node.bits i c q read ind link in
    let end : limit first.0 ≤ q.key + 2 ^ q.keybits = subst (λ n. limit first.0 ≤ n + 2 ^ q.keybits) low (subst (λ n. limit first.0 ≤ f.low c + 2 ^ n) bits to) in
    let start : q.key ≤ (first.0).key = subst (λ n. n ≤ (first.0).key) low from in
    let in_q : holds leaf.key q ≡ true = in_holds leaf.key q (omega (arith, start, range.0)) (omega (arith, end, range.1)) in
    (subst (λ x. holds leaf.key x ≡ true) same in_q, below {r = q} i read in_q ind link on.1)

-- the leaf that was taken out is the one that was there
pub was_there : (f g : Forest) (root key : ℕ) (leaf out : Ref) → IsSound f → f.stands root ≡ true → Reaches f key root (Some leaf) → out.key ≡ key → Removes f g root out → out ≡ leaf
was_there f g root key leaf out sound stands path is h =
    let goes = h.goes in
    let middle = goes.then in
    let at = in_node middle goes.node goes.place out goes.only_leaf in
    let led = led_path goes.walks.sound goes.stands goes.only_leaf at.0 at.1 in
    let down_path : Reaches middle out.key root (Some out) = descends_path goes.way led.1 in
    let was : Reaches middle key root (Some leaf) = Reaches-walks sound goes.walks stands path in
    same_Some out leaf (reaches_one goes.walks.sound (goes.walks.stays root stands).place.stands (subst (λ k. Reaches middle k root (Some out)) is down_path) was)
  where
    in_node : (m : Forest) (at i : ℕ) (x : Ref) → LeadsOnly m at i x → (r : Ref) × (slice_get (refs m at) i ≡ Some r)
    in_node m at i x (itself {r = r} j read leaf_is) = (r, read)
    in_node m at i x (down {r = r} j read ind link one rest) = (r, read)

-- a key that leads to a leaf doesn't lack it
pub not_lacking : (f g : Forest) (root key : ℕ) (leaf : Ref) → IsSound g → g.stands root ≡ true → Reaches g key root (Some leaf) → leaf.key ≡ key → LacksLeaf g root key → ⊥
not_lacking f g root key leaf sound stands path is lacks = lacks.other leaf (reaches_one sound stands lacks.path path) is

-- The root is writable then

pub descends_root : {f : Forest} {key at n : ℕ} → IsSound f → f.stands at ≡ true → Descends f key at n → f.root n ≡ f.root at
descends_root sound stands arrived = refl
descends_root {f} sound stands (onward {at = at} {r = r} i read in_r ind link rest) =
    let child = (sound.node at stands).child r.key _ link in
    descends_root sound child.stands rest ∙ child.root

pub writable_in : (f h : Forest) (dir : ℕ) (leaf : Ref) (o : Option Ref) → f.stands dir ≡ true → f.root dir ≡ dir → Inserts f h dir leaf o → h.writable dir ≡ true
writable_in f h dir leaf o stands root ins =
    let goes = ins.goes in
    let place = (goes.prepares.stays dir stands).place in
    let top : (goes.then).root goes.node ≡ dir = descends_root goes.prepares.sound place.stands goes.way ∙ place.root ∙ root in
    subst (λ m. h.writable m ≡ true) top (goes.only.top (λ none. none) (subst (λ m. (goes.then).stands m ≡ true) (sym top) place.stands))

root_stays : (m : Forest) (dir node i : ℕ) (leaf : Ref) → IsSound m → m.stands dir ≡ true → m.root dir ≡ dir → m.stands node ≡ true → m.root node ≡ dir → GoesAway m node i leaf (m.root node) → ⊥
root_stays m dir node i leaf sound stands root there top (below_it r read tree fewer in_r) =
    let bits : m.bits (m.root node) ≡ 63 = ap m.bits top ∙ (sound.node dir stands).half root in
    let slope = (sound.node node there).slope in
    omega arith
root_stays m dir node i leaf sound stands root there top (named other belongs) = other (ap m.root top ∙ root ∙ sym top)

pub writable_out : (f h : Forest) (dir : ℕ) (leaf : Ref) → f.stands dir ≡ true → f.root dir ≡ dir → Removes f h dir leaf → h.writable dir ≡ true
writable_out f h dir leaf stands root out =
    let goes = out.goes in
    let middle = goes.then in
    let place = (goes.walks.stays dir stands).place in
    let top : middle.root goes.node ≡ dir = descends_root goes.walks.sound place.stands goes.way ∙ place.root ∙ root in
    subst (λ m. h.writable m ≡ true) top (goes.only.top (root_stays middle dir goes.node goes.place leaf goes.walks.sound place.stands (place.root ∙ root) goes.stands top) (subst (λ m. middle.stands m ≡ true) (sym top) place.stands))

-- the leaf that is there is answered
pub answered : (f g : Forest) (root key : ℕ) (leaf : Ref) → IsSound f → f.stands root ≡ true → Reaches f key root (Some leaf) → leaf.key ≡ key → (o : Option Ref) → IfNone o (Walks f g) → IfNone o (LacksLeaf g root key) → IsSome o
answered f g root key leaf sound stands path is (Some out) walks lacks = refl
answered f g root key leaf sound stands path is None walks lacks =
    absurd (not_lacking f g root key leaf walks.sound (walks.stays root stands).place.stands (Reaches-walks sound walks stands path) is lacks)
