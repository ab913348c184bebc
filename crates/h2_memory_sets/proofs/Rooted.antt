-- The root of each loaded node is loaded, whatever is done.
use Rattle.std.proofs.Common.{◌≡◌, ℕ, Bool, true, false, ◌&&◌, ◌||◌, nat_eq, refl, sym, ◌∙◌, ap, List, [], ◌∷◌, ◌++◌, length, Option, Some, None, subst, inl, inr, slice_get, slice_set, suc, zero}
use Rattle.std.specs.Prelude.{map}
use Rattle.std.proofs.lemmas.Bool.{cases_lt}
use Rattle.std.proofs.lemmas.Option.{slice_get_within, slice_get_past}
use Rattle.h2_ref.specs.declared.reference.Ref.{Ref}
use Rattle.h2_set.specs.RefSet.{RefSet}
use Rattle.h2_set.specs.ChangeLaws.{same_or_not}
use Rattle.h2_memory_sets.specs.declared.node.Node.{Node}
use Rattle.h2_memory_sets.specs.View.{stands_of, root_of, copies_of, is_up, is_bare, is_top, AllRooted, IsLoadable, brought, with_set, moved, moved_up, parted, unloaded, unloaded_all}
use Rattle.h2_memory_sets.proofs.Nodes.{get_set, get_set_other, field_stays}
use Rattle.h2_memory_sets.proofs.Parting.{at_new, at_here, at_other, past, item_at, get_append, get_none}
use Rattle.h2_memory_sets.proofs.Bringing.{away_parts, brought_is}

-- a top stands
pub top_stands : (o : Option Node) → is_top o ≡ true → stands_of o ≡ true
top_stands None h = absurd (cc)
top_stands (Some x) h = go x.loaded h
  where
    go : (l : Bool) → (l && is_bare x.up) ≡ true → l ≡ true
    go true h = refl
    go false h = absurd (cc)

-- the root of a loaded node isn't one that isn't loaded
pub root_not : (xs : List Node) (at c : ℕ) → AllRooted xs → stands_of (slice_get xs at) ≡ true → stands_of (slice_get xs c) ≡ false → root_of (slice_get xs at) ≡ c → ⊥
root_not xs at c rooted st fresh e = let clash : true ≡ false = sym (top_stands _ (rooted at st)) ∙ ap (λ z. stands_of (slice_get xs z)) e ∙ fresh in cc

-- where each loaded node has the root of one that was loaded, and tops stay
pub record HasRootOf (xs ys : List Node) (i : ℕ) : Type 0 where
  pub other : ℕ
  pub stood : stands_of (slice_get xs other) ≡ true
  pub root : root_of (slice_get ys i) ≡ root_of (slice_get xs other)

rooted_by : (xs ys : List Node) → AllRooted xs → ((i : ℕ) → stands_of (slice_get ys i) ≡ true → HasRootOf xs ys i) → ((t : ℕ) → is_top (slice_get xs t) ≡ true → is_top (slice_get ys t) ≡ true) → AllRooted ys
rooted_by xs ys rooted from tops i st =
    let it = from i st in
    subst (λ (t : ℕ). is_top (slice_get ys t) ≡ true) (sym it.root) (tops (root_of (slice_get xs it.other)) (rooted it.other it.stood))

pub rooted_store : (xs : List Node) (at : ℕ) (x : Node) (s : RefSet) → AllRooted xs → slice_get xs at ≡ Some x → AllRooted (slice_set xs at (with_set x s))
rooted_store xs at x s rooted read =
    let y = with_set x s in
    let field : (X : Type 0) (F : Option Node → X) → F (Some y) ≡ F (Some x) → (m : ℕ) → F (slice_get (slice_set xs at y) m) ≡ F (slice_get xs m) = λ X F same. field_stays F xs at x y read same in
    rooted_by xs (slice_set xs at y) rooted (λ i st. record { other = i; stood = sym (field _ stands_of refl i) ∙ st; root = field _ root_of refl i }) (λ t top. field _ is_top refl t ∙ top)

module _ (xs : List Node) (at c : ℕ) (r : Ref) (rooted : AllRooted xs) (stands : stands_of (slice_get xs at) ≡ true) (l : IsLoadable xs at r c) where
  abbrev new : Node
  new = brought (root_of (slice_get xs at)) (copies_of (slice_get xs at)) r.keybits l.node

  fresh : stands_of (slice_get xs c) ≡ false
  fresh = ap stands_of l.read ∙ (away_parts l.node.loaded (is_up at l.node.up) (nat_eq l.node.low r.key) l.away).0

  not_fresh : (m : ℕ) → stands_of (slice_get xs m) ≡ true → m ≡ c → ⊥
  not_fresh m st e = let clash : true ≡ false = sym st ∙ ap (λ z. stands_of (slice_get xs z)) e ∙ fresh in cc

  rooted_load : AllRooted (slice_set xs c (brought (root_of (slice_get xs at)) (copies_of (slice_get xs at)) r.keybits l.node))
  rooted_load = rooted_by xs (slice_set xs c new) rooted from tops
    where
      from : (i : ℕ) → stands_of (slice_get (slice_set xs c new) i) ≡ true → HasRootOf xs (slice_set xs c new) i
      from i st = elim (same_or_not i c) as (λ _. HasRootOf xs (slice_set xs c new) i) [
        | inl e ↦ subst (HasRootOf xs (slice_set xs c new)) (sym e) (record { other = at; stood = stands; root = ap root_of (get_set xs c new (slice_get_within xs c l.node l.read)) })
        | inr ne ↦ let off = get_set_other xs c i new ne in record { other = i; stood = sym (ap stands_of off) ∙ st; root = ap root_of off }
      ]

      tops : (t : ℕ) → is_top (slice_get xs t) ≡ true → is_top (slice_get (slice_set xs c new) t) ≡ true
      tops t top = ap is_top (get_set_other xs c t new (not_fresh t (top_stands _ top))) ∙ top

pub rooted_bring : (xs : List Node) (at c : ℕ) (q : Ref) (x y z : Node) → AllRooted xs → stands_of (slice_get xs at) ≡ true → IsLoadable xs at q c → slice_get xs at ≡ Some x → slice_get xs c ≡ Some y → z ≡ brought x.root x.copies q.keybits y → AllRooted (slice_set xs c z)
rooted_bring xs at c q x y z rooted stands l at_x at_y z_is = subst AllRooted (brought_is xs at c q x y z l at_x at_y z_is) (rooted_load xs at c q rooted stands l)

module _ (xs : List Node) (at : ℕ) (x : Node) (kept part : RefSet) (r : Ref) (rooted : AllRooted xs) (stands : stands_of (slice_get xs at) ≡ true) (read : slice_get xs at ≡ Some x) where
  ys : List Node
  ys = parted xs at x kept part r

  still_top : (y : Node) → is_top (Some y) ≡ true → is_top (Some (moved at (length xs) r y)) ≡ true
  still_top y top = go y.loaded y.up top
    where
      go : (l : Bool) (u : Option ℕ) → (l && is_bare u) ≡ true → (l && is_bare (moved_up at (length xs) r y.low u)) ≡ true
      go true None h = refl
      go true (Some u) h = absurd (cc)
      go false u h = absurd (cc)

  pub rooted_part : AllRooted (parted xs at x kept part r)
  rooted_part = rooted_by xs (parted xs at x kept part r) rooted from tops
    where
      from : (i : ℕ) → stands_of (slice_get (parted xs at x kept part r) i) ≡ true → HasRootOf xs (parted xs at x kept part r) i
      from i st = elim (same_or_not i (length xs)) as (λ _. HasRootOf xs (parted xs at x kept part r) i) [
        | inl e ↦ subst (HasRootOf xs (parted xs at x kept part r)) (sym e) (record { other = at; stood = stands; root = ap root_of (at_new xs at x kept part r read) ∙ sym (ap root_of read) })
        | inr ne ↦ elim (same_or_not i at) as (λ _. HasRootOf xs (parted xs at x kept part r) i) [
          | inl e ↦ subst (HasRootOf xs (parted xs at x kept part r)) (sym e) (record { other = at; stood = stands; root = ap root_of (at_here xs at x kept part r read) ∙ sym (ap root_of read) })
          | inr off ↦ elim (cases_lt i (length xs)) as (λ _. HasRootOf xs (parted xs at x kept part r) i) [
            | inl lt ↦ let y = item_at xs i lt in let it = at_other xs at x kept part r read i y.0 off y.1 in record { other = i; stood = ap stands_of y.1 ∙ sym (ap stands_of it) ∙ st; root = ap root_of it ∙ sym (ap root_of y.1) }
            | inr ge ↦ let clash : true ≡ false = sym st ∙ ap stands_of (past xs at x kept part r read i ne ge) in absurd (cc)
          ]
        ]
      ]

      tops : (t : ℕ) → is_top (slice_get xs t) ≡ true → is_top (slice_get (parted xs at x kept part r) t) ≡ true
      tops t top = elim (same_or_not t at) as (λ _. is_top (slice_get (parted xs at x kept part r) t) ≡ true) [
        | inl e ↦ subst (λ z. is_top (slice_get (parted xs at x kept part r) z) ≡ true) (sym e) (ap is_top (at_here xs at x kept part r read) ∙ still_top (with_set x kept) (sym (ap is_top read) ∙ subst (λ z. is_top (slice_get xs z) ≡ true) e top))
        | inr off ↦ elim (cases_lt t (length xs)) as (λ _. is_top (slice_get (parted xs at x kept part r) t) ≡ true) [
          | inl lt ↦ let y = item_at xs t lt in ap is_top (at_other xs at x kept part r read t y.0 off y.1) ∙ still_top y.0 (sym (ap is_top y.1) ∙ top)
          | inr ge ↦ let clash : true ≡ false = sym top ∙ ap is_top (slice_get_past xs t ge) in absurd (cc)
        ]
      ]

-- one more at the end
pub get_push : {X : Type 0} (xs : List X) (z : X) (m : ℕ) → (m ≡ length xs → ⊥) → slice_get (xs ++ z ∷ []) m ≡ slice_get xs m
get_push xs z m ne = elim (cases_lt m (length xs)) as (λ _. slice_get (xs ++ z ∷ []) m ≡ slice_get xs m) [
  | inl lt ↦ get_append xs z m lt
  | inr ge ↦ get_none xs z m ne ge ∙ sym (slice_get_past xs m ge)
]

-- what reads the same of a node once it is changed reads the same of all
pub map_field : {X : Type 0} (F : Option Node → X) (f : Node → Node) (xs : List Node) → ((x : Node) → F (Some (f x)) ≡ F (Some x)) → (m : ℕ) → F (slice_get (map f xs) m) ≡ F (slice_get xs m)
map_field F f [] same m = refl
map_field F f (x ∷ xs) same zero = same x
map_field F f (x ∷ xs) same (suc m) = map_field F f xs same m

pub stood : (from : ℕ) (xs : List Node) (m : ℕ) → stands_of (slice_get (unloaded_all from xs) m) ≡ true → stands_of (slice_get xs m) ≡ true
stood from [] m h = h
stood from (x ∷ xs) zero h = go x.loaded _ h
  where
    go : (l b : Bool) → (l && b) ≡ true → l ≡ true
    go true b h = refl
    go false b h = absurd (cc)
stood from (x ∷ xs) (suc m) h = stood from xs m h

pub rooted_unload : (from : ℕ) (xs : List Node) → AllRooted xs → AllRooted (unloaded_all from xs)
rooted_unload from xs rooted = rooted_by xs (unloaded_all from xs) rooted (λ i st. record { other = i; stood = stood from xs i st; root = map_field root_of (unloaded from) xs (λ x. refl) i }) (tops xs)
  where
    tops : (zs : List Node) (t : ℕ) → is_top (slice_get zs t) ≡ true → is_top (slice_get (unloaded_all from zs) t) ≡ true
    tops [] t h = h
    tops (x ∷ zs) zero h = go x.loaded x.up _ h
      where
        go : (l : Bool) (u : Option ℕ) (b : Bool) → (l && is_bare u) ≡ true → ((l && (is_bare u || b)) && is_bare u) ≡ true
        go true None b h = refl
        go true (Some u) b h = absurd (cc)
        go false u b h = absurd (cc)
    tops (x ∷ zs) (suc t) h = tops zs t h
