-- Paths of several keys that are loaded one after the other.
use Rattle.std.proofs.Common.{◌≡◌, ℕ, ◌+◌, ◌<◌, ◌^◌, true, arith, refl, sym, ◌∙◌, ap, List, [], ◌∷◌, length, Option, Some, subst, ◌⊎◌, inl, inr, slice_get, suc, zero}
use Rattle.std.specs.Prelude.{slice_index_or}
use Rattle.std.proofs.lemmas.Bool.{cases_Bool}
use Rattle.h2_ref.specs.declared.reference.Ref.{Ref}
use Rattle.h2_set.specs.Forest.{Forest, IsSound, Reaches}
use Rattle.h2_set.specs.Calls.{InPlace, Walks, ReadiesOnly}
use Rattle.h2_set.specs.StayLaws.{Reaches-walks, Same-Stays, stands_below}
use Rattle.h2_set.specs.PathLaws.{reaches_stay}
use Rattle.h2_set.specs.ChangeLaws.{Keeps-refl, Keeps-trans, Same-Keeps, same_or_not}
use Rattle.h2_tree.specs.Changes.{LoadsIn, PathUnloaded, WalksUnder}
use Rattle.h2_file.specs.Linking.{PathsLoaded, IsOnPath, LoadsEach, KeepsOthers}

pub Each-refl : (f : Forest) (at : ℕ) (rs : List Ref) → LoadsEach f f at rs
Each-refl f at rs = record { only = λ m st. inl st }

-- where no node was loaded
pub none_loaded : (f g : Forest) (at : ℕ) (rs : List Ref) → ((m : ℕ) → g.stands m ≡ true → f.stands m ≡ true) → LoadsEach f g at rs
none_loaded f g at rs none_new = record { only = λ m st. inl (none_new m st) }

place_moves : (f g : Forest) (m : ℕ) (rs : List Ref) → InPlace f g m → IsOnPath f m rs → IsOnPath g m rs
place_moves f g m rs place on = record {
  place = on.place;
  ref = on.ref;
  read = on.read;
  low = (let e = place.low in let l = on.low in omega (arith, e, l));
  high = (let e = place.low in let b = ap (λ z. 2 ^ z) place.bits in let h = on.high in omega (arith, e, b, h));
}

pub each_on : (f g h : Forest) (at : ℕ) (rs : List Ref) → g.root at ≡ f.root at → ((m : ℕ) → g.stands m ≡ true → InPlace g h m) → LoadsEach f g at rs → LoadsEach g h at rs → LoadsEach f h at rs
each_on f g h at rs root placed a b = record {
  only = λ m st. elim (b.only m st) as (λ _. (f.stands m ≡ true) ⊎ (IsOnPath h m rs × (h.root m ≡ f.root at))) [
    | inr new ↦ inr (new.0, new.1 ∙ root)
    | inl was ↦ elim (a.only m was) as (λ _. (f.stands m ≡ true) ⊎ (IsOnPath h m rs × (h.root m ≡ f.root at))) [
      | inl first ↦ inl first
      | inr on ↦ inr (place_moves g h m rs (placed m was) on.0, (placed m was).root ∙ on.1)
    ]
  ];
}

-- the path of one of them was loaded
pub one_loaded : (f g : Forest) (at : ℕ) (rs : List Ref) (i : ℕ) (r : Ref) → slice_get rs i ≡ Some r → LoadsIn f g at r.key r.key → LoadsEach f g at rs
one_loaded f g at rs i r read loads = record {
  only = λ m st. elim (cases_Bool (f.stands m)) as (λ _. (f.stands m ≡ true) ⊎ (IsOnPath g m rs × (g.root m ≡ f.root at))) [
    | inl was ↦ inl was
    | inr out ↦ elim (loads.touched.only m st) as (λ _. (f.stands m ≡ true) ⊎ (IsOnPath g m rs × (g.root m ≡ f.root at))) [
      | inl was ↦ inl was
      | inr new ↦ inr (record { place = i; ref = r; read = read; low = new.0; high = new.1 }, loads.tree m out st)
    ]
  ];
}

-- what isn't loaded after a walk wasn't before
pub unloaded_before : (f g : Forest) (at key : ℕ) → IsSound f → f.stands at ≡ true → Walks f g → PathUnloaded g at key → PathUnloaded f at key
unloaded_before f g at key sound stands walks none o reached = none o (Reaches-walks sound walks stands reached)

pub loaded_on : (f g : Forest) (at : ℕ) (rs : List Ref) → ((key : ℕ) (o : Option Ref) → Reaches f key at o → Reaches g key at o) → PathsLoaded f at rs → PathsLoaded g at rs
loaded_on f g at rs paths loaded i r read = let it = loaded i r read in (it.0, paths r.key it.0 it.1)

-- what stands at a place
pub at_place : (xs : List Ref) (i : ℕ) (d : Ref) → i < length xs → slice_get xs i ≡ Some (slice_index_or xs i d)
at_place [] i d within = absurd (omega (arith, within))
at_place (x ∷ xs) zero d within = refl
at_place (x ∷ xs) (suc i) d within = at_place xs i d (omega (arith, within))

-- once one more path is loaded
pub loaded_more : (f g : Forest) (at : ℕ) (rs : List Ref) (i : ℕ) (r : Ref) (o : Option Ref) → IsSound f → f.stands at ≡ true → Walks f g → slice_get rs i ≡ Some r → Reaches g r.key at o → ((j : ℕ) (x : Ref) → slice_get rs j ≡ Some x → j < i → (p : Option Ref) × Reaches f x.key at p) → (j : ℕ) (x : Ref) → slice_get rs j ≡ Some x → j < i + 1 → (p : Option Ref) × Reaches g x.key at p
loaded_more f g at rs i r o sound stands walks read path prior j x read' lt = elim (same_or_not j i) as (λ _. (p : Option Ref) × Reaches g x.key at p) [
  | inl e ↦
      let there : slice_get rs i ≡ Some x = subst (λ z. slice_get rs z ≡ Some x) e read' in
      let same : r ≡ x = (cc) in
      (o, subst (λ (y : Ref). Reaches g y.key at o) same path)
  | inr ne ↦ let it = prior j x read' (omega (arith, lt, ne)) in (it.0, Reaches-walks sound walks stands it.1)
]

-- loaded paths stay where only spare nodes were made ready
pub readied_paths : (f g : Forest) (at : ℕ) → IsSound f → f.stands at ≡ true → ReadiesOnly f g → (key : ℕ) (o : Option Ref) → Reaches f key at o → Reaches g key at o
readied_paths f g at sound stands ready key o reached = reaches_stay f g (λ m. f.stands m ≡ true) (stands_below f sound) (λ m st. Same-Stays f g m (ready.same m st)) stands reached

-- The nodes of other trees

pub apart_refl : (f : Forest) (at : ℕ) → KeepsOthers f f at
apart_refl f at m st other = Keeps-refl f m st

pub apart_on : (f g h : Forest) (at : ℕ) → g.root at ≡ f.root at → KeepsOthers f g at → WalksUnder g h at → KeepsOthers f h at
apart_on f g h at root first second m st other =
    let there = first m st other in
    Keeps-trans f g h m there (second.keeps m there.place.stands (λ same under. other (sym there.place.root ∙ (same ∙ root))))

pub apart_readied : (f g h : Forest) (at : ℕ) → KeepsOthers f g at → ReadiesOnly g h → KeepsOthers f h at
apart_readied f g h at first ready m st other =
    let there = first m st other in
    Keeps-trans f g h m there (Same-Keeps g h m (ready.same m there.place.stands))
