-- Which nodes a range of keys touches.
use Rattle.std.proofs.Common.{◌≡◌, ℕ, ◌+◌, ◌<◌, ◌≤◌, ◌^◌, ◌⊎◌, inl, inr, Bool, true, false, arith, refl, sym, ◌∙◌, ap, List, [], ◌∷◌, ◌++◌, Some, slice_get, Result, Ok, Err, IfErr}
use Rattle.std.specs.Prelude.{filter, OnErr}
use Rattle.std.specs.Result.{IsErrAnd}
use Rattle.std.proofs.lemmas.Bool.Decides.{nat_tests}
use Rattle.std.proofs.lemmas.Bool.{cases_lt}
use Rattle.std.proofs.lemmas.Nat.{pow_pos}
use Rattle.std.proofs.lemmas.List.{append-nil}
use Rattle.h2_ref.specs.declared.reference.Ref.{Ref}
use Rattle.h2_ref.specs.declared.faults.Trouble.{Trouble}
use Rattle.h2_ref.specs.declared.faults.Trouble.TheVariants.{NoMemory}
use Rattle.h2_set.specs.RefSet.{RefSet}
use Rattle.h2_set.specs.Ranges.{Rising, limit, holds, is_indirect}
use Rattle.h2_set.specs.LeafLaws.{Rising-le, holds_inside, leaves_rising}
use Rattle.h2_set.specs.Forest.{Link, loaded, told, untold, Forest, refs, HasLeaves, IsSound}
use Rattle.h2_set.specs.Calls.{InPlace, Walks, Loads}
use Rattle.h2_tree.specs.Changes.{is_between, touches, RangeUnloaded, missing, deeper, LoadsTouched, LoadsIn, Prepares}

-- where no node was loaded
none_touched : (f g : Forest) (from to : ℕ) → ((m : ℕ) → g.stands m ≡ true → f.stands m ≡ true) → LoadsTouched f g from to
none_touched f g from to none_new = record { only = λ m st. inl (none_new m st) }

-- where each node that stood in between stands where it stood
Touched-placed : (f g h : Forest) (from to : ℕ) → ((m : ℕ) → g.stands m ≡ true → InPlace g h m) → LoadsTouched f g from to → LoadsTouched g h from to → LoadsTouched f h from to
Touched-placed f g h from to placed a b = record {
  only = λ m st. elim (b.only m st) as (λ _. (f.stands m ≡ true) ⊎ ((h.low m ≤ to) × (from < h.low m + 2 ^ h.bits m))) [
    | inr new ↦ inr new
    | inl was ↦ elim (a.only m was) as (λ _. (f.stands m ≡ true) ⊎ ((h.low m ≤ to) × (from < h.low m + 2 ^ h.bits m))) [
      | inl first ↦ inl first
      | inr new ↦
          let place = placed m was in
          inr (omega (arith, place.low, new.0), omega (arith, place.low, ap (λ z. 2 ^ z) place.bits, new.1))
    ]
  ];
}

pub touches_inside : (from to : ℕ) (r : Ref) → touches from to r ≡ true → (r.key ≤ to) × (from < limit r) × (from ≤ to)
touches_inside from to r e = (grind (arith, nat_tests), grind (arith, nat_tests), grind (arith, nat_tests))

all_touch : (from to : ℕ) (r : Ref) → from ≤ to → r.key ≤ to → from < limit r → touches from to r ≡ true
all_touch from to r some low high = grind (arith, nat_tests)

-- one key
touches_one : (key : ℕ) (r : Ref) → holds key r ≡ true → touches key key r ≡ true
touches_one key r e = let it = holds_inside key r e in let low = it.0 in let high = it.1 in grind (arith, nat_tests)

-- the load of a child whose reference is touched
touched_load : (f g : Forest) (at i : ℕ) (r : Ref) (from to : ℕ) → f.stands at ≡ true → slice_get (refs f at) i ≡ Some r → is_indirect r ≡ true → touches from to r ≡ true → Walks f g → Loads f g at r.key → LoadsTouched f g from to
touched_load f g at i r from to stands read ind touch walks loads = record {
  only = λ m st. elim (loads.new m st) as (λ _. (f.stands m ≡ true) ⊎ ((g.low m ≤ to) × (from < g.low m + 2 ^ g.bits m))) [
    | inl was ↦ inl was
    | inr link ↦
        let node = walks.sound.node at (walks.stays at stands).place.stands in
        let read_g : slice_get (refs g at) i ≡ Some r = ap (λ (s : RefSet). slice_get s.refs i) (walks.sets at stands) ∙ read in
        let kid = node.child r.key m link in
        let bits = node.bits i m r read_g ind link in
        let it = touches_inside from to r touch in
        inr (omega (arith, kid.low, it.0), omega (arith, kid.low, ap (λ z. 2 ^ z) bits, it.1))
  ];
}

-- The same, with the tree in which nodes are loaded

-- nothing stands and doesn't
not_both : {A : Type 0} (b : Bool) → b ≡ false → b ≡ true → A
not_both b out there = let clash : false ≡ true = sym out ∙ there in cc

pub none_in : (f g : Forest) (at from to : ℕ) → ((m : ℕ) → g.stands m ≡ true → f.stands m ≡ true) → LoadsIn f g at from to
none_in f g at from to none_new = record {
  touched = none_touched f g from to none_new;
  tree = λ m out st. not_both (f.stands m) out (none_new m st);
  some = λ m out st. not_both (f.stands m) out (none_new m st);
}

pub In-refl : (f : Forest) (at from to : ℕ) → LoadsIn f f at from to
In-refl f at from to = none_in f f at from to (λ m st. st)

-- and then below node c of this tree
In-placed : (f g h : Forest) (at c from to : ℕ) → g.root c ≡ f.root at → ((m : ℕ) → g.stands m ≡ true → InPlace g h m) → LoadsIn f g at from to → LoadsIn g h c from to → LoadsIn f h at from to
In-placed f g h at c from to root placed a b = record {
  touched = Touched-placed f g h from to placed a.touched b.touched;
  tree = λ m out st. tree_of m (g.stands m) refl out st;
  some = λ m out st. some_of m (g.stands m) refl out st;
}
  where
    tree_of : (m : ℕ) (there : Bool) → g.stands m ≡ there → f.stands m ≡ false → h.stands m ≡ true → h.root m ≡ f.root at
    tree_of m true e out st = (placed m e).root ∙ a.tree m out e
    tree_of m false e out st = b.tree m e st ∙ root

    some_of : (m : ℕ) (there : Bool) → g.stands m ≡ there → f.stands m ≡ false → h.stands m ≡ true → from ≤ to
    some_of m true e out st = a.some m out e
    some_of m false e out st = b.some m e st

pub In-prepared : (f g h : Forest) (at c from to : ℕ) → g.root c ≡ f.root at → Prepares g h → LoadsIn f g at from to → LoadsIn g h c from to → LoadsIn f h at from to
In-prepared f g h at c from to root p a b = In-placed f g h at c from to root (λ m st. (p.stays m st).place) a b

pub In-trans : (f g h : Forest) (at c from to : ℕ) → g.root c ≡ f.root at → Walks g h → LoadsIn f g at from to → LoadsIn g h c from to → LoadsIn f h at from to
In-trans f g h at c from to root walks a b = In-placed f g h at c from to root (λ m st. (walks.stays m st).place) a b

pub in_load : (f g : Forest) (at i : ℕ) (r : Ref) (from to : ℕ) → f.stands at ≡ true → slice_get (refs f at) i ≡ Some r → is_indirect r ≡ true → touches from to r ≡ true → Walks f g → Loads f g at r.key → LoadsIn f g at from to
in_load f g at i r from to stands read ind touch walks loads = record {
  touched = touched_load f g at i r from to stands read ind touch walks loads;
  tree = λ m out st. elim (loads.new m st) as (λ _. g.root m ≡ f.root at) [
    | inl was ↦ not_both (f.stands m) out was
    | inr link ↦
        let there = (walks.stays at stands).place in
        ((walks.sound.node at there.stands).child r.key m link).root ∙ there.root
  ];
  some = λ m out st. (touches_inside from to r touch).2;
}

-- the load of a child on the key's path
pub in_path : (f g : Forest) (at i : ℕ) (r : Ref) (key : ℕ) → f.stands at ≡ true → slice_get (refs f at) i ≡ Some r → is_indirect r ≡ true → holds key r ≡ true → Walks f g → Loads f g at r.key → LoadsIn f g at key key
in_path f g at i r key stands read ind in_r walks loads = in_load f g at i r key key stands read ind (touches_one key r in_r) walks loads

pub err_touched : {T E : Type 0} (f g : Forest) (at from to : ℕ) (r : Result T E) → OnErr r (LoadsIn f g at from to) → OnErr r (LoadsTouched f g from to)
err_touched f g at from to (Ok v) it = tt
err_touched f g at from to (Err e) it = it.touched

-- what isn't loaded after a walk wasn't before it
pub unloaded_back : {f h : Forest} {from to at : ℕ} → IsSound f → Walks f h → f.stands at ≡ true → RangeUnloaded h from to at → RangeUnloaded f from to at
unloaded_back sound walks stands (missing {at = at} {r = r} i read ind touch none) =
    missing {r = r} i (ap (λ (s : RefSet). slice_get s.refs i) (sym (walks.sets at stands)) ∙ read) ind touch (λ c link. none c ((walks.stays at stands).near r.key c link))
unloaded_back {f} {h} {from} {to} sound walks stands (deeper {at = at} {c = c} {r = r} i read ind touch link rest) = by (f.link at r.key) refl (λ st. unloaded_back sound walks st rest)
  where
    read_f : slice_get (refs f at) i ≡ Some r
    read_f = ap (λ (s : RefSet). slice_get s.refs i) (sym (walks.sets at stands)) ∙ read

    on : (d : ℕ) → f.link at r.key ≡ loaded d → d ≡ c
    on d e = let there = (walks.stays at stands).near r.key d e in cc (there, link)

    by : (l : Link) → f.link at r.key ≡ l → (f.stands c ≡ true → RangeUnloaded f from to c) → RangeUnloaded f from to at
    by (loaded d) e below =
        let same = on d e in
        let link_f : f.link at r.key ≡ loaded c = e ∙ ap loaded same in
        deeper {r = r} i read_f ind touch link_f (below ((sound.node at stands).child r.key c link_f).stands)
    by (told l) e below = missing {r = r} i read_f ind touch (λ d e'. let clash : told l ≡ loaded d = sym e ∙ e' in cc)
    by untold e below = missing {r = r} i read_f ind touch (λ d e'. let clash : untold ≡ loaded d = sym e ∙ e' in cc)

-- leaves out of the range are left out
none_between : (from to low high : ℕ) (l : List Ref) → Rising low high l → (to < low) ⊎ (high ≤ from) → filter (is_between from to) l ≡ []
none_between from to low high [] rising out = refl
none_between from to low high (r ∷ l) rising (inl above) =
    let pos = pow_pos r.keybits in
    let first : is_between from to r ≡ false = (let low_r = rising.0 in grind (arith, nat_tests)) in
    rw first (none_between from to (limit r) high l rising.1 (inl (omega (arith, above, rising.0, pos))))
none_between from to low high (r ∷ l) rising (inr behind) =
    let pos = pow_pos r.keybits in
    let top = Rising-le (limit r) high l rising.1 in
    let first : is_between from to r ≡ false = (let less : r.key < from = omega (arith, top, pos, behind) in grind (arith, nat_tests)) in
    rw first (none_between from to (limit r) high l rising.1 (inr behind))

-- no leaf is between where `from` is above `to`
none_crossed : (from to : ℕ) (l : List Ref) → to < from → filter (is_between from to) l ≡ []
none_crossed from to [] crossed = refl
none_crossed from to (r ∷ l) crossed =
    let first : is_between from to r ≡ false = (grind (arith, nat_tests)) in
    rw first (none_crossed from to l crossed)

-- a reference that isn't touched has no leaf between
pub skip_step : (f : Forest) (at from to : ℕ) (out : List Ref) (r : Ref) → touches from to r ≡ false → (last : List Ref) → HasLeaves f at (r ∷ []) last → out ≡ out ++ filter (is_between from to) last
skip_step f at from to out r off last h = elim (cases_lt to from) as (λ _. out ≡ out ++ filter (is_between from to) last) [
  | inl crossed ↦ sym (ap (λ (z : List Ref). out ++ z) (none_crossed from to last crossed) ∙ append-nil out)
  | inr some ↦
      let rising : Rising r.key (limit r) last = leaves_rising h r.key (limit r) (omega arith, omega arith) in
      let outside : (to < r.key) ⊎ (limit r ≤ from) = elim (cases_lt to r.key) as (λ _. (to < r.key) ⊎ (limit r ≤ from)) [
        | inl above ↦ inl above
        | inr le ↦ elim (cases_lt from (limit r)) as (λ _. (to < r.key) ⊎ (limit r ≤ from)) [
          | inl inside ↦ let on : touches from to r ≡ true = all_touch from to r some le inside in let clash : true ≡ false = sym on ∙ off in cc
          | inr behind ↦ inr behind
        ]
      ] in
      sym (ap (λ (z : List Ref). out ++ z) (none_between from to r.key (limit r) last rising outside) ∙ append-nil out)
]

pub always_unloaded : {T : Type 0} {Q : Type 0} (r : Result T Trouble) → Q → IfErr r (λ e. (e ≡ NoMemory) ⊎ Q)
always_unloaded (Ok v) q = tt
always_unloaded (Err e) q = inr q

-- the cause of an error is that of it where it is handed on
pub carried_err : {T Q : Type 0} (r : Result T Trouble) (e : Trouble) → IsErrAnd r (λ x. x ≡ e) → (e ≡ NoMemory) ⊎ Q → IfErr r (λ x. (x ≡ NoMemory) ⊎ Q)
carried_err (Ok v) e same q = tt
carried_err {Q = Q} (Err x) e same (inl none) = inl (same ∙ none)
carried_err (Err x) e same (inr q) = inr q
