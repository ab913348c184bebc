-- Nodes that stand where they stood, while references name other blocks.
use Rattle.std.proofs.Common.{◌≡◌, ℕ, false, refl, sym, ◌∙◌, ap, List, [], ◌∷◌, ◌++◌, length, Some, subst, inl, inr, slice_get, suc, zero}
use Rattle.std.proofs.lemmas.Option.{none-some}
use Rattle.h2_ref.specs.declared.reference.Ref.{Ref}
use Rattle.h2_ref.specs.declared.reference.Kind.{Kind}
use Rattle.h2_ref.specs.declared.reference.Kind.TheVariants.{Empty, Inode, Indirect, Content, Dirent, MapNode, MapLeaf}
use Rattle.h2_set.specs.Ranges.{leads_on, IsApart, Apart, Rising, limit}
use Rattle.h2_set.specs.Forest.{Forest, refs, loaded, told, HasLeaves, done, one, near, far}
use Rattle.h2_set.specs.Calls.{IsAlike, Alike, names_node, IsRenewed, AllRenewed, Keeps, Renews}
use Rattle.h2_set.specs.StayLaws.{InPlace-trans}

-- what names no node leads to no further references
not_node : (k : Kind) → names_node k ≡ false → leads_on k ≡ false
not_node Empty e = refl
not_node Inode e = refl
not_node Indirect e = e
not_node Content e = refl
not_node Dirent e = refl
not_node MapNode e = refl
not_node MapLeaf e = refl

IsAlike-renewed : (r q : Ref) → IsAlike r q → IsRenewed r q
IsAlike-renewed r q a = record { kind = a.kind; key = a.key; keybits = a.keybits; radix = a.radix; dirent = a.dirent; others = λ e. a.leaf (not_node r.kind e) }

pub Alike-renewed : (rs qs : List Ref) → Alike rs qs → AllRenewed rs qs
Alike-renewed [] [] a = tt
Alike-renewed [] (q ∷ qs) a = absurd a
Alike-renewed (r ∷ rs) [] a = absurd a
Alike-renewed (r ∷ rs) (q ∷ qs) a = (IsAlike-renewed r q a.0, Alike-renewed rs qs a.1)

IsRenewed-trans : (r q p : Ref) → IsRenewed r q → IsRenewed q p → IsRenewed r p
IsRenewed-trans r q p a b = record {
  kind = b.kind ∙ a.kind;
  key = b.key ∙ a.key;
  keybits = b.keybits ∙ a.keybits;
  radix = b.radix ∙ a.radix;
  dirent = b.dirent ∙ a.dirent;
  others = λ e. b.others (ap names_node a.kind ∙ e) ∙ a.others e;
}

pub AllRenewed-trans : (rs qs ps : List Ref) → AllRenewed rs qs → AllRenewed qs ps → AllRenewed rs ps
AllRenewed-trans [] [] [] a b = tt
AllRenewed-trans [] [] (p ∷ ps) a b = b
AllRenewed-trans [] (q ∷ qs) ps a b = absurd a
AllRenewed-trans (r ∷ rs) [] ps a b = absurd a
AllRenewed-trans (r ∷ rs) (q ∷ qs) [] a b = absurd b
AllRenewed-trans (r ∷ rs) (q ∷ qs) (p ∷ ps) a b = (IsRenewed-trans r q p a.0 b.0, AllRenewed-trans rs qs ps a.1 b.1)

pub Keeps-Renews : (f g : Forest) (m : ℕ) → Keeps f g m → Renews f g m
Keeps-Renews f g m k = record { place = k.place; renewed = Alike-renewed (refs f m) (refs g m) k.alike; link = k.link }

pub Renews-trans : (f g h : Forest) (m : ℕ) → Renews f g m → Renews g h m → Renews f h m
Renews-trans f g h m a b = record { place = InPlace-trans f g h m a.place b.place; renewed = AllRenewed-trans _ _ _ a.renewed b.renewed; link = λ k. b.link k ∙ a.link k }

-- what stands at the same place of a list that is alike
pub record LikeAt (qs : List Ref) (i : ℕ) (r : Ref) : Type 0 where
  pub ref : Ref
  pub read : slice_get qs i ≡ Some ref
  pub like : IsAlike r ref

pub like_at : (rs qs : List Ref) → Alike rs qs → (i : ℕ) (r : Ref) → slice_get rs i ≡ Some r → LikeAt qs i r
like_at [] qs a i r read = absurd (none-some r read)
like_at (x ∷ rs) [] a i r read = absurd a
like_at (x ∷ rs) (y ∷ qs) a zero r read =
    let same : x ≡ r = (cc) in
    subst (LikeAt (y ∷ qs) 0) same (record { ref = y; read = refl; like = a.0 })
like_at (x ∷ rs) (y ∷ qs) a (suc i) r read =
    let it = like_at rs qs a.1 i r read in
    record { ref = it.ref; read = it.read; like = it.like }

IsAlike-sym : (r q : Ref) → IsAlike r q → IsAlike q r
IsAlike-sym r q a = record { kind = sym a.kind; key = sym a.key; keybits = sym a.keybits; radix = sym a.radix; dirent = sym a.dirent; leaf = λ e. sym (a.leaf (ap leads_on (sym a.kind) ∙ e)) }

pub Alike-sym : (rs qs : List Ref) → Alike rs qs → Alike qs rs
Alike-sym [] [] a = tt
Alike-sym [] (q ∷ qs) a = absurd a
Alike-sym (r ∷ rs) [] a = absurd a
Alike-sym (r ∷ rs) (q ∷ qs) a = (IsAlike-sym r q a.0, Alike-sym rs qs a.1)

pub Alike-length : (rs qs : List Ref) → Alike rs qs → length qs ≡ length rs
Alike-length [] [] a = refl
Alike-length [] (q ∷ qs) a = absurd a
Alike-length (r ∷ rs) [] a = absurd a
Alike-length (r ∷ rs) (q ∷ qs) a = ap suc (Alike-length rs qs a.1)

-- ranges that are alike are apart from the same ones
pub apart_alike : (leaf : Ref) (rs qs : List Ref) → Alike rs qs → IsApart leaf rs → IsApart leaf qs
apart_alike leaf rs qs a apart i q read =
    let it = like_at qs rs (Alike-sym rs qs a) i q read in
    elim (apart i it.ref it.read) as (λ _. Apart leaf q) [
      | inl lower ↦ inl (rw it.like.key at lower)
      | inr upper ↦ inr (rw (it.like.key, it.like.keybits) at upper)
    ]

-- The leaves of a tree whose nodes were renewed

AllRenewed-refl : (rs : List Ref) → AllRenewed rs rs
AllRenewed-refl [] = tt
AllRenewed-refl (r ∷ rs) = (record { kind = refl; key = refl; keybits = refl; radix = refl; dirent = refl; others = λ e. refl }, AllRenewed-refl rs)

AllRenewed-append : (rs qs rs' qs' : List Ref) → AllRenewed rs qs → AllRenewed rs' qs' → AllRenewed (rs ++ rs') (qs ++ qs')
AllRenewed-append [] [] rs' qs' a b = b
AllRenewed-append [] (q ∷ qs) rs' qs' a b = absurd a
AllRenewed-append (r ∷ rs) [] rs' qs' a b = absurd a
AllRenewed-append (r ∷ rs) (q ∷ qs) rs' qs' a b = (a.0, AllRenewed-append rs qs rs' qs' a.1 b)

-- ranges that were renewed are the same
Rising-renewed : (rs qs : List Ref) → AllRenewed rs qs → (low high : ℕ) → Rising low high rs → Rising low high qs
Rising-renewed [] [] a low high h = h
Rising-renewed [] (q ∷ qs) a low high h = absurd a
Rising-renewed (r ∷ rs) [] a low high h = absurd a
Rising-renewed (r ∷ rs) (q ∷ qs) a low high h =
    let rest = Rising-renewed rs qs a.1 (limit r) high h.1 in
    rw (a.0.key, a.0.keybits) (h.0, rest)

-- a list of leaves, up to where the blocks of inodes lie
pub record RenewsLeaves (g : Forest) (at : ℕ) (qs l : List Ref) : Type 0 where
  pub list : List Ref
  pub leaves : HasLeaves g at qs list
  pub renewed : AllRenewed l list

module _ (f g : Forest) (P : ℕ → Type 0) (closed : (m k c : ℕ) → P m → f.link m k ≡ loaded c → P c) (renew : (m : ℕ) → P m → Renews f g m) where
  pub leaves_renewed : {at : ℕ} {rs l : List Ref} → P at → HasLeaves f at rs l → (qs : List Ref) → AllRenewed rs qs → RenewsLeaves g at qs l
  leaves_renewed p done [] a = record { list = []; leaves = done; renewed = tt }
  leaves_renewed p done (q ∷ qs) a = absurd a
  leaves_renewed p (one leaf rest) [] a = absurd a
  leaves_renewed p (one {r = r} leaf rest) (q ∷ qs) a =
      let it = leaves_renewed p rest qs a.1 in
      record { list = q ∷ it.list; leaves = one (ap leads_on a.0.kind ∙ leaf) it.leaves; renewed = (a.0, it.renewed) }
  leaves_renewed p (near ind link kids inside rest) [] a = absurd a
  leaves_renewed {at} p (near {c = c} {r = r} {below = b} {l = l} ind link kids inside rest) (q ∷ qs) a =
      let pc : P c = closed at r.key c p link in
      let it = leaves_renewed p rest qs a.1 in
      let kids' = leaves_renewed pc kids (refs g c) (renew c pc).renewed in
      let link' : g.link at q.key ≡ loaded c = rw a.0.key ((renew at p).link r.key ∙ link) in
      let inside' : Rising q.key (limit q) kids'.list = rw (a.0.key, a.0.keybits) (Rising-renewed b kids'.list kids'.renewed r.key (limit r) inside) in
      record { list = kids'.list ++ it.list; leaves = near (ap leads_on a.0.kind ∙ ind) link' kids'.leaves inside' it.leaves; renewed = AllRenewed-append b kids'.list l it.list kids'.renewed it.renewed }
  leaves_renewed p (far ind link inside rest) [] a = absurd a
  leaves_renewed {at} p (far {r = r} {below = b} {l = l} ind link inside rest) (q ∷ qs) a =
      let it = leaves_renewed p rest qs a.1 in
      let link' : g.link at q.key ≡ told b = rw a.0.key ((renew at p).link r.key ∙ link) in
      let inside' : Rising q.key (limit q) b = rw (a.0.key, a.0.keybits) inside in
      record { list = b ++ it.list; leaves = far (ap leads_on a.0.kind ∙ ind) link' inside' it.leaves; renewed = AllRenewed-append b b l it.list (AllRenewed-refl b) it.renewed }
