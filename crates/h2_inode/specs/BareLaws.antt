-- The leaves and the loaded paths of a tree, where a leaf of whose inode nothing is loaded stays as it is.
use Rattle.std.proofs.Common.{◌≡◌, ℕ, true, false, refl, sym, ◌∙◌, ap, List, [], ◌∷◌, ◌++◌, Option, Some, subst, slice_get, suc}
use Rattle.std.proofs.lemmas.Option.{none-some, same_Some}
use Rattle.h2_ref.specs.declared.reference.Ref.{Ref}
use Rattle.h2_set.specs.Ranges.{leads_on, Rising, limit, is_indirect}
use Rattle.h2_set.specs.Forest.{Forest, refs, loaded, told, HasLeaves, done, one, near, far, LeavesOf, Reaches, nowhere, here, below, IsSound}
use Rattle.h2_set.specs.Calls.{IsRenewed, AllRenewed, InPlace, Renews}
use Rattle.h2_set.specs.PathLaws.{same_holds, renewed_at}
use Rattle.h2_inode.specs.Access.{OneByOne}
use Rattle.h2_inode.specs.Following.{SameLeaf}
use Rattle.h2_inode.specs.ListLaws.{all_beside, rising_carried}
use Rattle.h2_inode.specs.Nodes.{IsUnloaded, IsBare}
use Rattle.h2_inode.specs.Others.{LeafRenewed, ListRenewed}

-- of an inode that isn't loaded nothing is, in a sound forest
pub unloaded_bare : (f : Forest) (c key : ℕ) → IsSound f → IsUnloaded f c key → IsBare f c key
unloaded_bare f c key sound none m stands root belongs = let it = sound.inode m c key stands belongs in none it.inode it.named

-- a leaf stays bare, where each root that stands stood, and belongs to what it belonged to
pub bare_stays : (f g : Forest) (c key : ℕ) → ((m : ℕ) → g.stands m ≡ true → g.root m ≡ m → f.stands m ≡ true) → ((m : ℕ) → f.stands m ≡ true → g.stands m ≡ true → InPlace f g m) → IsBare f c key → IsBare g c key
bare_stays f g c key stood still bare m stands root belongs =
    let was = stood m stands root in
    let here = still m was stands in
    bare m was (sym here.root ∙ root) (sym (here.belongs c key) ∙ belongs)

-- two lists one by one, behind two others
both_beside : {X Y : Type 0} (R : X → Y → Type 0) (xs : List X) (ys : List Y) (vs : List X) (ws : List Y) → OneByOne R xs ys → OneByOne R vs ws → OneByOne R (xs ++ vs) (ys ++ ws)
both_beside R [] [] vs ws p q = q
both_beside R [] (y ∷ ys) vs ws p q = absurd p
both_beside R (x ∷ xs) [] vs ws p q = absurd p
both_beside R (x ∷ xs) (y ∷ ys) vs ws p q = (p.0, both_beside R xs ys vs ws p.1 q)

-- a reference beside itself
pub LeafRenewed-refl : (f : Forest) (c : ℕ) (r : Ref) → LeafRenewed f c r r
LeafRenewed-refl f c r = record { renewed = record { kind = refl; key = refl; keybits = refl; radix = refl; dirent = refl; others = λ e. refl }; same = λ bare. refl }

-- a leaf that was renewed is the same but for its block
pub leaf_like : (f : Forest) (c : ℕ) (r s : Ref) → LeafRenewed f c r s → SameLeaf r s
leaf_like f c r s h = record { kind = h.renewed.kind; key = h.renewed.key; keybits = h.renewed.keybits; dirent = h.renewed.dirent }

-- A reference of a node of the tree of root c after a change: a leaf of whose inode nothing was loaded is the same.
record RefRenewed (f : Forest) (c : ℕ) (r q : Ref) : Type 0 where
  renewed : IsRenewed r q
  same : is_indirect r ≡ false → IsBare f c r.key → q ≡ r

-- the leaves of references qs, beside those of root c before
record Renewal (f g : Forest) (c at : ℕ) (qs l : List Ref) : Type 0 where
  list : List Ref
  leaves : HasLeaves g at qs list
  each : OneByOne (LeafRenewed f c) l list

refs_beside : (f : Forest) (c : ℕ) (rs qs : List Ref) → AllRenewed rs qs → ((i : ℕ) (r : Ref) → slice_get rs i ≡ Some r → is_indirect r ≡ false → IsBare f c r.key → slice_get qs i ≡ Some r) → OneByOne (RefRenewed f c) rs qs
refs_beside f c [] [] a exact = tt
refs_beside f c [] (q ∷ qs) a exact = absurd a
refs_beside f c (r ∷ rs) [] a exact = absurd a
refs_beside f c (r ∷ rs) (q ∷ qs) a exact =
    (record { renewed = a.0; same = λ leaf bare. same_Some q r (exact 0 r refl leaf bare) }, refs_beside f c rs qs a.1 (λ i x read. exact (suc i) x read))

module _ (f g : Forest) (c : ℕ) (P : ℕ → Type 0) (closed : (m k d : ℕ) → P m → f.link m k ≡ loaded d → P d) (renew : (m : ℕ) → P m → Renews f g m)
    (exact : (m i : ℕ) (r : Ref) → P m → slice_get (refs f m) i ≡ Some r → is_indirect r ≡ false → IsBare f c r.key → slice_get (refs g m) i ≡ Some r) where
  node_beside : (m : ℕ) → P m → OneByOne (RefRenewed f c) (refs f m) (refs g m)
  node_beside m p = refs_beside f c (refs f m) (refs g m) (renew m p).renewed (λ i r read. exact m i r p read)

  refs_leaves : {at : ℕ} {rs l : List Ref} → P at → HasLeaves f at rs l → (qs : List Ref) → OneByOne (RefRenewed f c) rs qs → Renewal f g c at qs l
  refs_leaves p done [] a = record { list = []; leaves = done; each = tt }
  refs_leaves p done (q ∷ qs) a = absurd a
  refs_leaves p (one leaf rest) [] a = absurd a
  refs_leaves p (one {r = r} leaf rest) (q ∷ qs) a =
      let it = refs_leaves p rest qs a.1 in
      record { list = q ∷ it.list; leaves = one (ap leads_on a.0.renewed.kind ∙ leaf) it.leaves; each = (record { renewed = a.0.renewed; same = a.0.same leaf }, it.each) }
  refs_leaves p (near ind link kids inside rest) [] a = absurd a
  refs_leaves {at} p (near {c = d} {r = r} {below = b} {l = l} ind link kids inside rest) (q ∷ qs) a =
      let pd : P d = closed at r.key d p link in
      let it = refs_leaves p rest qs a.1 in
      let kids' = refs_leaves pd kids (refs g d) (node_beside d pd) in
      let link' : g.link at q.key ≡ loaded d = rw a.0.renewed.key ((renew at p).link r.key ∙ link) in
      let ordered = rising_carried (LeafRenewed f c) (leaf_like f c) b kids'.list kids'.each r.key (limit r) inside in
      let inside' : Rising q.key (limit q) kids'.list = rw (a.0.renewed.key, a.0.renewed.keybits) ordered in
      record { list = kids'.list ++ it.list; leaves = near (ap leads_on a.0.renewed.kind ∙ ind) link' kids'.leaves inside' it.leaves; each = both_beside (LeafRenewed f c) b kids'.list l it.list kids'.each it.each }
  refs_leaves p (far ind link inside rest) [] a = absurd a
  refs_leaves {at} p (far {r = r} {below = b} {l = l} ind link inside rest) (q ∷ qs) a =
      let it = refs_leaves p rest qs a.1 in
      let link' : g.link at q.key ≡ told b = rw a.0.renewed.key ((renew at p).link r.key ∙ link) in
      let inside' : Rising q.key (limit q) b = rw (a.0.renewed.key, a.0.renewed.keybits) inside in
      record { list = b ++ it.list; leaves = far (ap leads_on a.0.renewed.kind ∙ ind) link' inside' it.leaves; each = both_beside (LeafRenewed f c) b b l it.list (all_beside (LeafRenewed f c) b (λ r at. LeafRenewed-refl f c r)) it.each }

  -- where each node of a tree was renewed, its leaves are, and those of whose inodes nothing was loaded are the same
  pub list_renewed : P c → (l : List Ref) → LeavesOf f c l → ListRenewed f g c l
  list_renewed p l has = let it = refs_leaves p has (refs g c) (node_beside c p) in record { list = it.list; leaves = it.leaves; each = it.each }

  path_from : {key at : ℕ} {o : Option Ref} (r : Ref) → P at → Reaches f key at o → o ≡ Some r → IsBare f c r.key → Reaches g key at (Some r)
  path_from r p (nowhere miss) e bare = absurd (none-some r e)
  path_from {key} r p (here {at = at} {r = q} i read in_q leaf) e bare =
      let same : q ≡ r = same_Some q r e in
      let bare_q : IsBare f c q.key = subst (λ (x : Ref). IsBare f c x.key) (sym same) bare in
      subst (λ (x : Ref). Reaches g key at (Some x)) same (here {r = q} i (exact at i q p read leaf bare_q) in_q leaf)
  path_from {key} r p (below {at = at} {c = d} {r = q} i read in_q ind link rest) e bare =
      let it = renewed_at (refs f at) (refs g at) (renew at p).renewed i q read in
      let link' : g.link at it.ref.key ≡ loaded d = ap (g.link at) it.renewed.key ∙ (renew at p).link q.key ∙ link in
      below {r = it.ref} i it.read (same_holds key q it.ref true it.renewed.key it.renewed.keybits in_q) (ap leads_on it.renewed.kind ∙ ind) link' (path_from r (closed at q.key d p link) rest e bare)

  -- and so is what a loaded path led to
  pub path_same : P c → (key : ℕ) (r : Ref) → IsBare f c r.key → Reaches f key c (Some r) → Reaches g key c (Some r)
  path_same p key r bare path = path_from r p path refl bare
