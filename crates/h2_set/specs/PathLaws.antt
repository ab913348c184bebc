-- Loaded paths: each key has one at most, and it stays where no node on it loses a reference.
use Rattle.std.proofs.Common.{◌≡◌, ℕ, ◌+◌, ◌^◌, ◌<◌, ◌≤◌, Bool, true, false, arith, refl, sym, ◌∙◌, ap, List, [], ◌∷◌, Option, Some, None, subst, inl, inr, slice_get, suc, zero}
use Rattle.std.proofs.lemmas.Bool.Decides.{nat_tests}
use Rattle.std.proofs.lemmas.Option.{none-some}
use Rattle.h2_ref.specs.declared.reference.Ref.{Ref}
use Rattle.h2_set.specs.Ranges.{leads_on, Rising, limit, holds, is_indirect}
use Rattle.h2_set.specs.Forest.{Forest, refs, loaded, IsSound, Reaches, nowhere, here, below}
use Rattle.h2_set.specs.Calls.{Stays, Renews, AllRenewed, IsRenewed, Alters}
use Rattle.h2_set.specs.LeafLaws.{holds_inside, place_above}
use Rattle.h2_set.specs.SplitLaws.{below_high}
use Rattle.h2_set.specs.StayLaws.{stands_below}
use Rattle.h2_set.specs.ChangeLaws.{Keeps-Stays, apart_places, same_or_not}
use Rattle.h2_set.specs.RenewLaws.{like_at, Alike-sym}

pub in_holds : (key : ℕ) (r : Ref) → r.key ≤ key → key < limit r → holds key r ≡ true
in_holds key r lo hi = grind (arith, nat_tests)

-- ranges that are the same hold the same keys
pub same_holds : (key : ℕ) (r q : Ref) (b : Bool) → q.key ≡ r.key → q.keybits ≡ r.keybits → holds key r ≡ b → holds key q ≡ b
same_holds key r q b k bits e = rw (k, bits) e

-- two references whose ranges hold one key are one
pub same_holder : (low high key : ℕ) (rs : List Ref) (i j : ℕ) (q r : Ref) → Rising low high rs → slice_get rs i ≡ Some q → slice_get rs j ≡ Some r → holds key q ≡ true → holds key r ≡ true → r ≡ q
same_holder low high key rs i j q r h read_q read_r in_q in_r =
    let a = holds_inside key q in_q in
    let b = holds_inside key r in_r in
    elim (same_or_not j i) as (λ _. r ≡ q) [
      | inl e ↦ let moved : slice_get rs i ≡ Some r = subst (λ z. slice_get rs z ≡ Some r) e read_r in cc
      | inr ne ↦ elim (apart_places low high rs i j q r h read_q read_r ne) as (λ _. r ≡ q) [
        | inl lower ↦ absurd (omega (arith, lower, a.0, b.1))
        | inr upper ↦ absurd (omega (arith, upper, a.1, b.0))
      ]
    ]

-- the loaded path of a key leads to one leaf, or to none
pub reaches_one : {f : Forest} {key at : ℕ} {o p : Option Ref} → IsSound f → f.stands at ≡ true → Reaches f key at o → Reaches f key at p → o ≡ p
reaches_one sound stands (nowhere miss) (nowhere miss') = refl
reaches_one sound stands (nowhere miss) (here {r = q} j read' in_q leaf') = let clash : true ≡ false = sym in_q ∙ miss j q read' in cc
reaches_one sound stands (nowhere miss) (below {r = q} j read' in_q ind' link' rest') = let clash : true ≡ false = sym in_q ∙ miss j q read' in cc
reaches_one sound stands (here {r = r} i read in_r leaf) (nowhere miss') = let clash : true ≡ false = sym in_r ∙ miss' i r read in cc
reaches_one {f} {key} sound stands (here {at = at} {r = r} i read in_r leaf) (here {r = q} j read' in_q leaf') =
    ap Some (sym (same_holder _ _ key (refs f at) i j r q (sound.node at stands).inside read read' in_r in_q))
reaches_one {f} {key} sound stands (here {at = at} {r = r} i read in_r leaf) (below {r = q} j read' in_q ind' link' rest') =
    let same = same_holder _ _ key (refs f at) i j r q (sound.node at stands).inside read read' in_r in_q in
    let clash : false ≡ true = sym leaf ∙ ap (λ (x : Ref). is_indirect x) (sym same) ∙ ind' in
    cc
reaches_one sound stands (below {r = r} i read in_r ind link rest) (nowhere miss') = let clash : true ≡ false = sym in_r ∙ miss' i r read in cc
reaches_one {f} {key} sound stands (below {at = at} {r = r} i read in_r ind link rest) (here {r = q} j read' in_q leaf') =
    let same = same_holder _ _ key (refs f at) i j r q (sound.node at stands).inside read read' in_r in_q in
    let clash : false ≡ true = sym leaf' ∙ ap (λ (x : Ref). is_indirect x) same ∙ ind in
    cc
reaches_one {f} {key} {p = p} sound stands (below {at = at} {c = c} {r = r} i read in_r ind link rest) (below {c = d} {r = q} j read' in_q ind' link' rest') =
    let same = same_holder _ _ key (refs f at) i j r q (sound.node at stands).inside read read' in_r in_q in
    let link_d : f.link at r.key ≡ loaded d = subst (λ (x : Ref). f.link at x.key ≡ loaded d) same link' in
    let dc : d ≡ c = cc (link_d, link) in
    reaches_one sound (stands_below f sound at r.key c stands link) rest (subst (λ z. Reaches f key z p) dc rest')

-- where each node on the way stays, so does the path
module _ (f g : Forest) (key : ℕ) (P : ℕ → Type 0) (closed : (m i c : ℕ) (r : Ref) → P m → slice_get (refs f m) i ≡ Some r → holds key r ≡ true → f.link m r.key ≡ loaded c → P c) (stay : (m : ℕ) → P m → Stays f g m) where
  pub reaches_along : {at : ℕ} {o : Option Ref} → P at → Reaches f key at o → Reaches g key at o
  reaches_along p (nowhere {at = at} miss) = nowhere (λ i q read.
      let it = like_at (refs g at) (refs f at) (Alike-sym (refs f at) (refs g at) (stay at p).alike) i q read in
      same_holds key it.ref q false (sym it.like.key) (sym it.like.keybits) (miss i it.ref it.read))
  reaches_along p (here {at = at} {r = r} i read in_r leaf) =
      let it = like_at (refs f at) (refs g at) (stay at p).alike i r read in
      here {r = r} i (it.read ∙ ap Some (it.like.leaf leaf)) in_r leaf
  reaches_along p (below {at = at} {c = c} {r = r} {o = o} i read in_r ind link rest) =
      let it = like_at (refs f at) (refs g at) (stay at p).alike i r read in
      let q = it.ref in
      let link' : g.link at q.key ≡ loaded c = ap (g.link at) it.like.key ∙ (stay at p).near r.key c link in
      let rest' : Reaches g key c o = reaches_along (closed at i c r p read in_r link) rest in
      below {r = q} i it.read (same_holds key r q true it.like.key it.like.keybits in_r) (ap leads_on it.like.kind ∙ ind) link' rest'

-- the same where all below stay
pub reaches_stay : (f g : Forest) (P : ℕ → Type 0) → ((m k c : ℕ) → P m → f.link m k ≡ loaded c → P c) → ((m : ℕ) → P m → Stays f g m) → {key at : ℕ} {o : Option Ref} → P at → Reaches f key at o → Reaches g key at o
reaches_stay f g P closed stay {key} p reached = reaches_along f g key P (λ m i c r q read in_r link. closed m r.key c q link) stay p reached

-- the reference at a place, where the block of an inode or an indirect one may lie elsewhere
pub record RenewedAt (qs : List Ref) (i : ℕ) (r : Ref) : Type 0 where
  pub ref : Ref
  pub read : slice_get qs i ≡ Some ref
  pub renewed : IsRenewed r ref

pub renewed_at : (rs qs : List Ref) → AllRenewed rs qs → (i : ℕ) (r : Ref) → slice_get rs i ≡ Some r → RenewedAt qs i r
renewed_at [] qs a i r read = absurd (none-some r read)
renewed_at (x ∷ xs) [] a i r read = absurd a
renewed_at (x ∷ xs) (q ∷ qs) a zero r read =
    let same : x ≡ r = (cc) in
    record { ref = q; read = refl; renewed = subst (λ (y : Ref). IsRenewed y q) same a.0 }
renewed_at (x ∷ xs) (q ∷ qs) a (suc i) r read = let it = renewed_at xs qs a.1 i r read in record { ref = it.ref; read = it.read; renewed = it.renewed }

-- and where it was before
pub record RenewedFrom (rs : List Ref) (i : ℕ) (q : Ref) : Type 0 where
  pub ref : Ref
  pub read : slice_get rs i ≡ Some ref
  pub renewed : IsRenewed ref q

pub renewed_from : (rs qs : List Ref) → AllRenewed rs qs → (i : ℕ) (q : Ref) → slice_get qs i ≡ Some q → RenewedFrom rs i q
renewed_from rs [] a i q read = absurd (none-some q read)
renewed_from [] (y ∷ ys) a i q read = absurd a
renewed_from (x ∷ xs) (y ∷ ys) a zero q read =
    let same : y ≡ q = (cc) in
    record { ref = x; read = refl; renewed = subst (λ (z : Ref). IsRenewed x z) same a.0 }
renewed_from (x ∷ xs) (y ∷ ys) a (suc i) q read = let it = renewed_from xs ys a.1 i q read in record { ref = it.ref; read = it.read; renewed = it.renewed }

-- the same leaf, but for where the block of an inode lies; or none, as before
abbrev pub AnswerRenewed : Option Ref → Option Ref → Type 0
AnswerRenewed None None = Unit {0}
AnswerRenewed None (Some q) = ⊥
AnswerRenewed (Some r) None = ⊥
AnswerRenewed (Some r) (Some q) = IsRenewed r q

pub answer_same : (o : Option Ref) → AnswerRenewed o o
answer_same None = tt
answer_same (Some r) = record { kind = refl; key = refl; keybits = refl; radix = refl; dirent = refl; others = λ e. refl }

-- a path that leads to what it led to, in another place perhaps
pub record PathRenewed (g : Forest) (key at : ℕ) (o : Option Ref) : Type 0 where
  pub answer : Option Ref
  pub path : Reaches g key at answer
  pub renewed : AnswerRenewed o answer

-- where each node on the way is renewed, so is the path
module _ (f g : Forest) (P : ℕ → Type 0) (closed : (m k c : ℕ) → P m → f.link m k ≡ loaded c → P c) (renew : (m : ℕ) → P m → Renews f g m) where
  pub reaches_renew : {key at : ℕ} {o : Option Ref} → P at → Reaches f key at o → PathRenewed g key at o
  reaches_renew {key} p (nowhere {at = at} miss) = record {
    answer = None;
    path = nowhere (λ i q read.
        let it = renewed_from (refs f at) (refs g at) (renew at p).renewed i q read in
        same_holds key it.ref q false it.renewed.key it.renewed.keybits (miss i it.ref it.read));
    renewed = tt;
  }
  reaches_renew {key} p (here {at = at} {r = r} i read in_r leaf) =
      let it = renewed_at (refs f at) (refs g at) (renew at p).renewed i r read in
      record {
        answer = Some it.ref;
        path = here {r = it.ref} i it.read (same_holds key r it.ref true it.renewed.key it.renewed.keybits in_r) (ap leads_on it.renewed.kind ∙ leaf);
        renewed = it.renewed;
      }
  reaches_renew {key} p (below {at = at} {c = c} {r = r} {o = o} i read in_r ind link rest) =
      let it = renewed_at (refs f at) (refs g at) (renew at p).renewed i r read in
      let link' : g.link at it.ref.key ≡ loaded c = ap (g.link at) it.renewed.key ∙ (renew at p).link r.key ∙ link in
      let on = reaches_renew (closed at r.key c p link) rest in
      record {
        answer = on.answer;
        path = below {r = it.ref} i it.read (same_holds key r it.ref true it.renewed.key it.renewed.keybits in_r) (ap leads_on it.renewed.kind ∙ ind) link' on.path;
        renewed = on.renewed;
      }

-- an alteration keeps the paths of the tree
pub alters_path : {f g : Forest} {at key m : ℕ} {o : Option Ref} → IsSound f → Alters f g at → f.stands m ≡ true → f.root m ≡ f.root at → Reaches f key m o → Reaches g key m o
alters_path {f} {g} {at} sound alters stands root reached =
    reaches_stay f g (λ m. (f.stands m ≡ true) × (f.root m ≡ f.root at)) (λ m k c p link. let child = (sound.node m p.0).child k c link in (child.stands, child.root ∙ p.1)) (λ m p. Keeps-Stays f g m (alters.tree m p.0 p.1)) (stands, root) reached

-- and those of any tree, in which an inode's reference may name another block
pub alters_paths : {f g : Forest} {at key m : ℕ} {o : Option Ref} → IsSound f → Alters f g at → f.stands m ≡ true → Reaches f key m o → PathRenewed g key m o
alters_paths {f} {g} {at} {key} {m} {o} sound alters stands reached = elim (same_or_not (f.root m) (f.root at)) as (λ _. PathRenewed g key m o) [
  | inl same ↦ record { answer = o; path = alters_path sound alters stands same reached; renewed = answer_same o }
  | inr differs ↦ reaches_renew f g (λ m. (f.stands m ≡ true) × (f.root m ≡ f.root at → ⊥)) (λ m k c p link. let child = (sound.node m p.0).child k c link in (child.stands, λ e. p.1 (sym child.root ∙ e))) (λ m p. alters.above m p.0 p.1) (stands, differs) reached
]

-- A loaded path through a node of the tree

-- a path goes on through the child whose reference holds the key
reaches_on : {f : Forest} {key at : ℕ} {o : Option Ref} (i c : ℕ) (r : Ref) → IsSound f → f.stands at ≡ true → slice_get (refs f at) i ≡ Some r → holds key r ≡ true → is_indirect r ≡ true → f.link at r.key ≡ loaded c → Reaches f key at o → Reaches f key c o
reaches_on i c r sound stands read in_r ind link (nowhere miss) = let clash : true ≡ false = sym in_r ∙ miss i r read in cc
reaches_on {f} {key} i c r sound stands read in_r ind link (here {at = at} {r = q} j read' in_q leaf) =
    let same = same_holder _ _ key (refs f at) i j r q (sound.node at stands).inside read read' in_r in_q in
    let clash : false ≡ true = sym leaf ∙ ap (λ (x : Ref). is_indirect x) same ∙ ind in
    cc
reaches_on {f} {key} {o = o} i c r sound stands read in_r ind link (below {at = at} {c = d} {r = q} j read' in_q ind' link' rest) =
    let same = same_holder _ _ key (refs f at) i j r q (sound.node at stands).inside read read' in_r in_q in
    let link_d : f.link at r.key ≡ loaded d = subst (λ (x : Ref). f.link at x.key ≡ loaded d) same link' in
    let dc : d ≡ c = cc (link_d, link) in
    subst (λ z. Reaches f key z o) dc rest

-- In a tree, the loaded path of a key leads through each node in whose range the key is.
module _ (f : Forest) (key top : ℕ) (o : Option Ref) (sound : IsSound f) (own : f.root top ≡ top) (path : Reaches f key top o) where
  through_range : (n at : ℕ) → 64 ≤ f.bits at + n → f.stands at ≡ true → f.root at ≡ top → f.low at ≤ key → key < f.low at + 2 ^ f.bits at → Reaches f key at o
  through_range zero at few stands root low high = absurd (let slope = (sound.node at stands).slope in omega (arith, few, slope))
  through_range (suc n) at few stands root low high = elim (same_or_not (f.root at) at) as (λ _. Reaches f key at o) [
    | inl is_top ↦ subst (λ z. Reaches f key z o) (sym root ∙ is_top) path
    | inr ne ↦
        let up = sound.parent at stands ne in
        let node = sound.node up.parent up.stands in
        let child = node.child (f.low at) at up.link in
        let named = node.named (f.low at) at up.link in
        let link : f.link up.parent named.ref.key ≡ loaded at = ap (f.link up.parent) named.key ∙ up.link in
        let bits = node.bits named.place at named.ref named.read named.indirect link in
        let in_ref = in_holds key named.ref (omega (arith, named.key, low)) (omega (arith, named.key, high, ap (λ z. 2 ^ z) bits)) in
        let from = through_range n up.parent (omega (arith, few, child.fewer)) up.stands (sym child.root ∙ root) (omega (arith, child.above, low)) (omega (arith, child.within, high)) in
        reaches_on named.place at named.ref sound up.stands named.read in_ref named.indirect link from
  ]

  -- as it does where a reference of the node holds the key
  pub reaches_through : (at i : ℕ) (r : Ref) → f.stands at ≡ true → f.root at ≡ top → slice_get (refs f at) i ≡ Some r → holds key r ≡ true → Reaches f key at o
  reaches_through at i r stands root read in_r =
      let node = sound.node at stands in
      let range = holds_inside key r in_r in
      let low = place_above _ _ (refs f at) i r node.inside read in
      let high = below_high _ _ (refs f at) i r node.inside read in
      through_range 64 at (omega arith) stands root (omega (arith, low, range.0)) (omega (arith, high, range.1))
