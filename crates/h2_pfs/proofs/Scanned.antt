-- A scan: the leaves are those of inodes, what is listed stays, and the PFSs are those that were known.
use Rattle.std.proofs.Common.{◌≡◌, ℕ, ◌≤◌, ◌+◌, ◌-◌, ◌^◌, ◌⊎◌, inl, inr, suc, zero, true, arith, refl, sym, ◌∙◌, ap, subst, List, [], ◌∷◌, Option, Some, None, slice_get}
use Rattle.std.specs.Prelude.{filter, ◌↔◌}
use Rattle.std.proofs.lemmas.Nat.{pow_pos}
use Rattle.std.proofs.lemmas.Option.{none-some}
use Rattle.std.proofs.lemmas.Bool.Decides.{nat_tests}
use Rattle.h2_ref.specs.declared.reference.Kind.TheVariants.{Inode as Inode_kind}
use Rattle.h2_ref.specs.declared.reference.Ref.{Ref}
use Rattle.h2_set.specs.Ranges.{Rising, limit}
use Rattle.h2_set.specs.RefSet.{RefSet}
use Rattle.h2_set.specs.SetBytes.{IsHeld}
use Rattle.h2_set.specs.Forest.{Forest, refs, loaded, told, untold, Link, IsSound, Reaches, nowhere, here, below}
use Rattle.h2_set.specs.LeafLaws.{Rising-le}
use Rattle.h2_set.specs.StayLaws.{stands_below}
use Rattle.h2_tree.specs.Changes.{is_between, touches, RangeUnloaded, missing, deeper, Lists}
use Rattle.h2_inode.specs.Nodes.{Visits}
use Rattle.h2_inode.specs.VisitLaws.{visits_path}
use Rattle.h2_pfs.specs.SuperRoot.{IsSuperRoot}
use Rattle.h2_pfs.specs.Meets.{AreLeaves}

-- a leaf that is reached is one that the tree may have
pub reaches_allowed : {f : Forest} {key at : ℕ} {o : Option Ref} → IsSound f → f.stands at ≡ true → Reaches f key at o → (r : Ref) → o ≡ Some r → f.allows (f.root at) r ≡ true
reaches_allowed sound stands (nowhere miss) r is = absurd (absurd_some is)
  where
    absurd_some : {x : Ref} → None ≡ Some x → ⊥
    absurd_some e = (cc)
reaches_allowed {f} sound stands (here {at = at} {r = q} i read in_q leaf) r is =
    let same : q ≡ r = (cc) in
    subst (λ x. f.allows (f.root at) x ≡ true) same (((sound.node at stands).fits i q read).allowed leaf)
reaches_allowed {f} sound stands (below {at = at} {c = c} {r = q} i read in_q ind link rest) r is =
    let child = (sound.node at stands).child q.key c link in
    subst (λ m. f.allows m r ≡ true) child.root (reaches_allowed sound child.stands rest r is)

-- a leaf of the super-root's tree names an inode
pub names_inode : (f : Forest) (top key : ℕ) (r : Ref) → IsSound f → IsSuperRoot f top → Reaches f key top (Some r) → r.kind ≡ Inode_kind
names_inode f top key r sound super path = ((super.allows r).0 (subst (λ m. f.allows m r ≡ true) super.root (reaches_allowed sound super.stands path r refl))).0

pub listed_leaves : (f : Forest) (top : ℕ) (l : List Ref) → IsSound f → IsSuperRoot f top → Lists f top 0 (2 ^ 64 - 1) l → AreLeaves f top l
listed_leaves f top l sound super lists = record {
  rising = lists.rising;
  each = λ i r read.
      let path = (lists.each i r read).1 in
      record { stands = super.stands; root = super.root; kind = names_inode f top r.key r sound super path; path = path };
}

-- loads leave the super-root
pub super_stays : (f g : Forest) (top : ℕ) → IsSuperRoot f top → Visits f g → IsSuperRoot g top
super_stays f g top super h =
    let place = (h.stays top super.stands).place in
    record {
      stands = place.stands;
      root = place.root ∙ super.root;
      low = place.low ∙ super.low;
      bits = place.bits ∙ super.bits;
      leaf_bits = h.leaf_bits top super.stands ∙ super.leaf_bits;
      allows = λ r. subst (λ x. (x ≡ true) ↔ ((r.kind ≡ Inode_kind) × IsHeld r)) (sym (h.allows top r super.stands)) (super.allows r);
    }

-- whether a block is loaded
abbrev IsLoadedAt : Forest → ℕ → ℕ → Type 0
IsLoadedAt f at key = ((c : ℕ) × (f.link at key ≡ loaded c)) ⊎ ((c : ℕ) → f.link at key ≡ loaded c → ⊥)

loaded_or_not : (f : Forest) (at key : ℕ) → IsLoadedAt f at key
loaded_or_not f at key = decide (f.link at key) refl
  where
    decide : (x : Link) → f.link at key ≡ x → IsLoadedAt f at key
    decide (loaded c) e = inl (c, e)
    decide (told l) e = inr (λ c is. (cc))
    decide untold e = inr (λ c is. (cc))

same_node : {c d : ℕ} → loaded c ≡ loaded d → c ≡ d
same_node e = (cc)

-- what all blocks of a range are loaded for stays loaded
pub range_stays : {f g : Forest} {from to at : ℕ} → IsSound f → Visits f g → f.stands at ≡ true → RangeUnloaded g from to at → RangeUnloaded f from to at
range_stays {f} {g} {from} {to} sound h stands (missing {at = at} {r = r} i read ind on none) =
    missing {r = r} i (ap (λ (s : RefSet). slice_get s.refs i) (sym (h.sets at stands)) ∙ read) ind on (λ c link. none c ((h.stays at stands).near r.key c link))
range_stays {f} {g} {from} {to} sound h stands (deeper {at = at} {c = c} {r = r} i read ind on link rest) =
    let read_f = ap (λ (s : RefSet). slice_get s.refs i) (sym (h.sets at stands)) ∙ read in
    elim (loaded_or_not f at r.key) as (λ _. RangeUnloaded f from to at) [
      | inr none ↦ missing {r = r} i read_f ind on none
      | inl some ↦
          let same : some.0 ≡ c = same_node (sym ((h.stays at stands).near r.key some.0 some.1) ∙ link) in
          deeper {r = r} i read_f ind on (some.1 ∙ ap loaded same) (range_stays sound h (stands_below f sound at r.key c stands (some.1 ∙ ap loaded same)) rest)
    ]

place_limit : (low high : ℕ) (rs : List Ref) (i : ℕ) (q : Ref) → Rising low high rs → slice_get rs i ≡ Some q → limit q ≤ high
place_limit low high [] i q rising read = absurd (none-some q read)
place_limit low high (r ∷ rs) zero q rising read =
    let same : r ≡ q = (cc) in
    subst (λ (x : Ref). limit x ≤ high) same (Rising-le (limit r) high rs rising.1)
place_limit low high (r ∷ rs) (suc i) q rising read = place_limit (limit r) high rs i q rising.1 read

-- a range that ends by 2 ^ 64 has a key below it
touches_all : (r : Ref) → limit r ≤ 2 ^ 64 → touches 0 (2 ^ 64 - 1) r ≡ true
touches_all r ends = let pos = pow_pos r.keybits in grind (arith, nat_tests)

-- a path that is loaded now was so before, where nothing was unloaded
pub path_before : {f g : Forest} {key at : ℕ} {o : Option Ref} → IsSound f → Visits f g → f.stands at ≡ true → (RangeUnloaded f 0 (2 ^ 64 - 1) at → ⊥) → Reaches g key at o → Reaches f key at o
path_before sound h stands none (nowhere {at = at} miss) = nowhere (λ i r read. miss i r (ap (λ (s : RefSet). slice_get s.refs i) (h.sets at stands) ∙ read))
path_before sound h stands none (here {at = at} {r = r} i read in_r leaf) = here {r = r} i (ap (λ (s : RefSet). slice_get s.refs i) (sym (h.sets at stands)) ∙ read) in_r leaf
path_before {f} {g} {key} {o = o} sound h stands none (below {at = at} {c = c} {r = r} i read in_r ind link rest) =
    let node = sound.node at stands in
    let read_f = ap (λ (s : RefSet). slice_get s.refs i) (sym (h.sets at stands)) ∙ read in
    let inside = place_limit (f.low at) (f.low at + 2 ^ f.bits at) (refs f at) i r node.inside read_f in
    let ends = node.ends in
    let on : touches 0 (2 ^ 64 - 1) r ≡ true = touches_all r (omega arith) in
    elim (loaded_or_not f at r.key) as (λ _. Reaches f key at o) [
      | inr missed ↦ absurd (none (missing {r = r} i read_f ind on missed))
      | inl some ↦
          let same : some.0 ≡ c = same_node (sym ((h.stays at stands).near r.key some.0 some.1) ∙ link) in
          let link_f = some.1 ∙ ap loaded same in
          below {r = r} i read_f in_r ind link_f (path_before sound h (stands_below f sound at r.key c stands link_f) (λ u. none (deeper {r = r} i read_f ind on link_f u)) rest)
    ]

-- what is listed stays
pub lists_stay : (f g : Forest) (top : ℕ) (l : List Ref) → IsSound f → Visits f g → f.stands top ≡ true → Lists f top 0 (2 ^ 64 - 1) l → Lists g top 0 (2 ^ 64 - 1) l
lists_stay f g top l sound h stands lists = record {
  rising = lists.rising;
  each = λ i r read. ((lists.each i r read).0, visits_path sound h stands (lists.each i r read).1);
  all = λ key r path between. lists.all key r (path_before sound h stands lists.loaded path) between;
  loaded = λ u. lists.loaded (range_stays sound h stands u);
}

-- all leaves lie between the least and the greatest key
pub whole_range : (low : ℕ) (l : List Ref) → Rising low (2 ^ 64) l → filter (is_between 0 (2 ^ 64 - 1)) l ≡ l
whole_range low [] rising = refl
whole_range low (r ∷ l) rising =
    let above = Rising-le (limit r) (2 ^ 64) l rising.1 in
    let pos = pow_pos r.keybits in
    let on : is_between 0 (2 ^ 64 - 1) r ≡ true = grind (arith, nat_tests) in
    rw on (ap (λ z. r ∷ z) (whole_range (limit r) l rising.1))
