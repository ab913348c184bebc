-- A root whose inode gets another size, with the same set: the tree is as before.
use Rattle.std.specs.Prelude.{◌≡◌, ◌<◌, ◌≤◌, ℕ, ◌+◌, ◌^◌, true, false, Option, Some, None, slice_get, refl}
use Rattle.std.proofs.Common.{ap, sym, ◌∙◌, arith, subst, inl, inr}
use Rattle.std.proofs.lemmas.Bool.{cases_Bool}
use Rattle.std.proofs.lemmas.Option.{none-some, same_Some}
use Rattle.h2_ref.specs.declared.reference.Ref.{Ref}
use Rattle.h2_set.specs.Ranges.{is_indirect, Rising}
use Rattle.h2_set.specs.RefSet.{RefSet}
use Rattle.h2_set.specs.SetBytes.{IsHeld}
use Rattle.h2_set.specs.Forest.{Forest, loaded, refs, IsSound, Fits, KeepsLeaves, Reaches, nowhere, here, below}
use Rattle.h2_set.specs.Calls.{Loses, Same, Stays, Alike}
use Rattle.h2_set.specs.StayLaws.{Alike-refl, leaves_stay, Same-Stays}
use Rattle.h2_set.specs.ChangeLaws.{leaves_move}
use Rattle.h2_set.specs.PathLaws.{reaches_stay}
use Rattle.h2_inode.specs.declared.kind.InodeKind.{InodeKind}
use Rattle.h2_inode.specs.declared.inode.Body.{Body}
use Rattle.h2_inode.specs.declared.inode.Body.TheVariants.{Refs, Bytes}
use Rattle.h2_inode.specs.declared.inode.Inode.{Inode}
use Rattle.h2_inode.specs.Inode.{keys_from}
use Rattle.h2_inode.specs.Nodes.{Fields, fields_of, bytes_of, set_of, MayHave, FitsIn, HasInode, Replaceable, Replaces, leaf_kind}
use Rattle.h2_dir.specs.Changing.{HasRefs, with_size, with_entries}

-- no reference is lost
kept_all : (f : Forest) (at key : ℕ) → Loses f at (f.set at) key → ⊥
kept_all f at key h = h.lacks h.place h.lost h.was refl refl

module _ (f g : Forest) (at : ℕ) (sound : IsSound f) (stands : f.stands at ≡ true) (root : f.root at ≡ at) (h : Replaces f g at (f.set at)) where
  pub others_same : (m : ℕ) → f.stands m ≡ true → (m ≡ at → ⊥) → Same f g m
  others_same m there other = h.others m there other (λ goes. kept_all f at (f.low m) goes.loses) (λ goes. kept_all f at goes.key goes.loses)

  abbrev IsOther : ℕ → Type 0
  IsOther m = (f.stands m ≡ true) × (m ≡ at → ⊥)

  -- no node stands above a root
  below_other : (m k c : ℕ) → f.stands m ≡ true → f.link m k ≡ loaded c → IsOther c
  below_other m k c there link =
      let child = (sound.node m there).child k c link in
      let fewer = child.fewer in
      let slope = (sound.node m there).slope in
      let top : f.bits at ≡ 63 = (sound.node at stands).half root in
      (child.stands, λ e. let same : f.bits c ≡ f.bits at = ap f.bits e in absurd (omega arith))

  other_stays : (m : ℕ) → IsOther m → Stays f g m
  other_stays m is = Same-Stays f g m (others_same m is.0 is.1)

  other_closed : (m k c : ℕ) → IsOther m → f.link m k ≡ loaded c → IsOther c
  other_closed m k c is link = below_other m k c is.0 link

  pub other_leaves : (m : ℕ) → f.stands m ≡ true → (m ≡ at → ⊥) → KeepsLeaves f g m
  other_leaves m there other l leaves = leaves_stay f g IsOther other_closed other_stays (there, other) leaves (refs g m) (other_stays m (there, other)).alike

  pub root_leaves : KeepsLeaves f g at
  root_leaves l leaves =
      leaves_move leaves (refs g at) (subst (λ (s : RefSet). Alike (refs f at) s.refs) (sym h.set) (Alike-refl (refs f at))) h.link
      (λ i c r read ind link. let is = below_other at r.key c stands link in other_leaves c is.0 is.1)

  link_stays : (i c : ℕ) (r : Ref) → slice_get (refs f at) i ≡ Some r → is_indirect r ≡ true → f.link at r.key ≡ loaded c → g.link at r.key ≡ loaded c
  link_stays i c r read ind link = h.link i r read ind ∙ link

  -- a loaded path stays loaded
  path_cases : {key m : ℕ} {o : Option Ref} → m ≡ at → Reaches f key m o → Reaches g key m o
  path_cases e (nowhere {at = m} miss) = nowhere (λ i r read. miss i r (subst (λ (s : RefSet). slice_get s.refs i ≡ Some r) (ap g.set e ∙ h.set ∙ sym (ap f.set e)) read))
  path_cases e (here {at = m} {r = r} i read in_r leaf) = here {r = r} i (subst (λ (s : RefSet). slice_get s.refs i ≡ Some r) (ap f.set e ∙ sym h.set ∙ sym (ap g.set e)) read) in_r leaf
  path_cases e (below {at = m} {c = c} {r = r} i read in_r ind link rest) =
      let read_at : slice_get (refs f at) i ≡ Some r = subst (λ n. slice_get (refs f n) i ≡ Some r) e read in
      let link_at : f.link at r.key ≡ loaded c = subst (λ n. f.link n r.key ≡ loaded c) e link in
      let link_now : g.link m r.key ≡ loaded c = subst (λ n. g.link n r.key ≡ loaded c) (sym e) (link_stays i c r read_at ind link_at) in
      below {r = r} i (subst (λ (s : RefSet). slice_get s.refs i ≡ Some r) (ap f.set e ∙ sym h.set ∙ sym (ap g.set e)) read) in_r ind link_now
      (reaches_stay f g IsOther other_closed other_stays (below_other at r.key c stands link_at) rest)

  pub root_path : {key : ℕ} {o : Option Ref} → Reaches f key at o → Reaches g key at o
  root_path path = path_cases refl path

-- A root's own set may be stored again

fits_kind : (kind : InodeKind) (body : Body) (r : Ref) → MayHave kind body r → (r.kind ≡ leaf_kind kind) × IsHeld r
fits_kind kind (Refs s) r may = may
fits_kind kind (Bytes b) r may = absurd may

fits_again : (f : Forest) (holds : ℕ → Option Fields) (at : ℕ) (i : Inode) (r : Ref) → HasInode f holds at i → Fits f at r → FitsIn i.kind r
fits_again f holds at i r is fits = record {
  held = elim (cases_Bool (is_indirect r)) as (λ _. IsHeld r) [ inl ind ↦ fits.held ind | inr leaf ↦ (may leaf).1 ];
  aligned = fits.aligned;
  class = fits.class;
  leaf = λ e. fits.leaf e ∙ ap f.leaf_bits is.root ∙ is.tree.leaf_bits;
  allowed = λ e. (may e).0;
  wide = λ e. subst (λ n. n ≤ r.keybits) (ap f.leaf_bits is.root ∙ is.tree.leaf_bits) (fits.wide e);
  some_bits = fits.some_bits;
  falls = λ e. subst (λ n. r.keybits < n) is.tree.bits (fits.falls e);
}
  where
    may : is_indirect r ≡ false → (r.kind ≡ leaf_kind i.kind) × IsHeld r
    may e = fits_kind i.kind i.body r ((is.tree.allows r).0 (subst (λ m. f.allows m r ≡ true) is.root (fits.allowed e)))

pub own_set : (f : Forest) (holds : ℕ → Option Fields) (at : ℕ) (i : Inode) → IsSound f → HasInode f holds at i → Replaceable f at i.kind (f.set at)
own_set f holds at i sound is =
    let node = sound.node at is.stands in
    record {
      capacity = node.root_capacity is.root;
      set = node.set;
      inside = subst (λ n. Rising (keys_from i.kind) (keys_from i.kind + 2 ^ n) (refs f at)) is.tree.bits (subst (λ n. Rising n (n + 2 ^ f.bits at) (refs f at)) is.tree.low node.inside);
      fits = λ j r read. fits_again f holds at i r is (node.fits j r read);
      stood = λ j r read ind. (j, read);
      free = λ m there goes. absurd (kept_all f at goes.key goes.loses);
    }

-- The inode of a root is known but for its set

body_refs : (b : Body) → bytes_of b ≡ None → b ≡ Refs (set_of b)
body_refs (Refs s) e = refl
body_refs (Bytes x) e = absurd (none-some x (sym e))

pub same_fields : (f : Forest) (holds : ℕ → Option Fields) (at : ℕ) (i j : Inode) → HasInode f holds at i → HasInode f holds at j → fields_of j ≡ fields_of i
same_fields f holds at i j p q = same_Some (fields_of j) (fields_of i) (sym q.fields ∙ p.fields)

pub sized : (i j : Inode) (size : ℕ) (s : RefSet) → fields_of j ≡ fields_of i → HasRefs i → s ≡ set_of j.body → with_size j size ≡ with_entries i size s
sized i j size s e has is =
    let none : bytes_of j.body ≡ None = ap (λ (x : Fields). x.bytes) e ∙ ap bytes_of has.body_is in
    let kind = ap (λ (x : Fields). x.kind) e in
    let number = ap (λ (x : Fields). x.number) e in
    let links = ap (λ (x : Fields). x.links) e in
    let next = ap (λ (x : Fields). x.next) e in
    let name = ap (λ (x : Fields). x.name) e in
    let body : j.body ≡ Refs s = body_refs j.body none ∙ ap Refs (sym is) in
    λ k. record { kind = kind k; number = number k; size = size; links = links k; next = next k; name = name k; body = body k }

-- what is known of the fields decides all but the size and the set
pub regrown : (i j : Inode) (n m : ℕ) (s t : RefSet) → fields_of j ≡ fields_of i → n ≡ m → s ≡ t → with_entries j n s ≡ with_entries i m t
regrown i j n m s t e size set =
    let kind = ap (λ (x : Fields). x.kind) e in
    let number = ap (λ (x : Fields). x.number) e in
    let links = ap (λ (x : Fields). x.links) e in
    let next = ap (λ (x : Fields). x.next) e in
    let name = ap (λ (x : Fields). x.name) e in
    λ k. record { kind = kind k; number = number k; size = size k; links = links k; next = next k; name = name k; body = Refs (set k) }
