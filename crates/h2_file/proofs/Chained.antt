-- References of blocks that go into a file's tree, one after the other.
use Rattle.std.proofs.Common.{◌≡◌, ℕ, ◌+◌, ◌*◌, ◌%◌, ◌^◌, ◌<◌, ◌≤◌, true, false, arith, refl, sym, ◌∙◌, ap, List, [], ◌∷◌, ◌++◌, length, Option, Some, subst, inl, inr, slice_get, take, suc, zero}
use Rattle.std.proofs.lemmas.Option.{none-some}
use Rattle.std.proofs.lemmas.Bool.{cases_Bool}
use Rattle.h2_ref.specs.declared.reference.Ref.{Ref}
use Rattle.h2_set.specs.Ranges.{limit, holds, NoneHolds, put}
use Rattle.h2_set.specs.Forest.{Forest, IsSound, LeavesOf, Reaches}
use Rattle.h2_set.specs.Calls.{Fixed, InPlace, Renews}
use Rattle.h2_set.specs.StayLaws.{Fixed-refl, Fixed-trans, InPlace-refl, InPlace-trans}
use Rattle.h2_set.specs.LeafLaws.{outside_holds}
use Rattle.h2_set.specs.ChangeLaws.{Keeps-refl}
use Rattle.h2_set.specs.RenewLaws.{Keeps-Renews, Renews-trans}
use Rattle.h2_tree.specs.Changes.{ChangesOnly, TakesIn, replaced, placed, parted, Inserts}
use Rattle.h2_tree.specs.OtherTrees.{KeepsOtherLeaves, leaves_trans, inserted_leaves}
use Rattle.h2_file.proofs.Parts.{take_from, take_next}
use Rattle.h2_file.specs.Linking.{IsBlock, FollowFrom, IsRun, blocks, behind_zero, AreBlocks, put_each, Puts, PutsEach, none, first, new_blocks}

-- The keys of a run

pub follow_key : (key : ℕ) (rs : List Ref) → FollowFrom key rs → (i : ℕ) (r : Ref) → slice_get rs i ≡ Some r → r.key ≡ key + 16384 * i
follow_key key [] h i r read = absurd (none-some r read)
follow_key key (x ∷ rs) h zero r read = let same : x ≡ r = (cc) in let k = h.0 in subst (λ (y : Ref). y.key ≡ key + 16384 * 0) same (omega (arith, k))
follow_key key (x ∷ rs) h (suc i) r read = let it = follow_key (key + 16384) rs h.1 i r read in omega (arith, it)

pub run_few : {rs : List Ref} → IsRun rs → length rs ≤ 66
run_few (blocks start follow few) = omega (arith, few)
run_few (behind_zero {r = r} {rs = rs} start zero_key pos follow few) = let n : length (r ∷ rs) ≡ suc (length rs) = refl in omega (arith, few, n)

pub block_limit : (r : Ref) → IsBlock r → limit r ≡ r.key + 16384
block_limit r is = ap (λ n. r.key + 2 ^ n) is.keybits

pub block_aligned : (r : Ref) → IsBlock r → r.key % 16384 ≡ 0
block_aligned r is = let a = is.aligned in rw is.keybits at a

-- blocks in the order of their keys, of which no two are one
pub record Ordered (rs : List Ref) : Type 0 where
  pub each : (i : ℕ) (r : Ref) → slice_get rs i ≡ Some r → IsBlock r
  pub apart : (i j : ℕ) (x y : Ref) → slice_get rs i ≡ Some x → slice_get rs j ≡ Some y → i < j → x.key + 16384 ≤ y.key

ends_by : (n : ℕ) → n % 16384 ≡ 0 → 0 < n → 16384 ≤ n
ends_by n e pos = omega (arith, e, pos)

run_apart : {rs : List Ref} → IsRun rs → ((i : ℕ) (r : Ref) → slice_get rs i ≡ Some r → IsBlock r) → (i j : ℕ) (x y : Ref) → slice_get rs i ≡ Some x → slice_get rs j ≡ Some y → i < j → x.key + 16384 ≤ y.key
run_apart (blocks {rs = rs} start follow few) each i j x y read read' lt =
    let a = follow_key start rs follow i x read in
    let b = follow_key start rs follow j y read' in
    omega (arith, a, b, lt)
run_apart (behind_zero start zero_key pos follow few) each i zero x y read read' lt = absurd (omega (arith, lt))
run_apart (behind_zero {r = r} {rs = rs} start zero_key pos follow few) each zero (suc j) x y read read' lt =
    let same : r ≡ x = (cc) in
    let b = follow_key start rs follow j y read' in
    let aligned = block_aligned y (each (suc j) y read') in
    let ends = ends_by y.key aligned (omega (arith, b, pos)) in
    subst (λ (z : Ref). z.key + 16384 ≤ y.key) same (omega (arith, zero_key, ends))
run_apart (behind_zero {rs = rs} start zero_key pos follow few) each (suc i) (suc j) x y read read' lt =
    let a = follow_key start rs follow i x read in
    let b = follow_key start rs follow j y read' in
    omega (arith, a, b, lt)

pub blocks_ordered : (rs : List Ref) → AreBlocks rs → Ordered rs
blocks_ordered rs are = record { each = are.each; apart = run_apart are.run are.each }

pub ordered_tail : (r : Ref) (rs : List Ref) → Ordered (r ∷ rs) → Ordered rs
ordered_tail r rs o = record { each = λ i x read. o.each (suc i) x read; apart = λ i j x y read read' lt. o.apart (suc i) (suc j) x y read read' (omega (arith, lt)) }

-- a block behind another one isn't in its range, nor one before it
pub behind_out : (x y : Ref) → IsBlock x → x.key + 16384 ≤ y.key → holds y.key x ≡ false
behind_out x y is le = let e = block_limit x is in outside_holds y.key x (inr (omega (arith, e, le)))

pub before_out : (x y : Ref) → x.key + 16384 ≤ y.key → holds x.key y ≡ false
before_out x y le = outside_holds x.key y (inl (omega (arith, le)))

-- What they leave

-- no root is new where a leaf has gone in
entered_root : {h g : Forest} {n blocks : ℕ} {leaf : Ref} {old : Option Ref} → IsSound h → IsSound g → h.stands n ≡ true → ChangesOnly h g n (λ m. ⊥) → TakesIn h g n leaf blocks old → (m : ℕ) → g.stands m ≡ true → g.root m ≡ m → h.stands m ≡ true
entered_root sound sound' st_n only (replaced it) m st own = it.none_new m st
entered_root sound sound' st_n only (placed it) m st own = it.none_new m st
entered_root {h} {g} {n = n} sound sound' st_n only (parted it) m st own = elim (it.none_new m st) as (λ _. h.stands m ≡ true) [
  | inr was ↦ was
  | inl new ↦
      let place = only.still n st_n (λ z. z) in
      let child = (sound'.node n place.stands).child it.key it.node it.link in
      let top : h.root n ≡ it.node = sym place.root ∙ (sym child.root ∙ (sym (ap g.root new) ∙ (own ∙ new))) in
      let there : h.stands it.node ≡ true = subst (λ z. h.stands z ≡ true) top (sound.top n st_n).0 in
      absurd (let clash : true ≡ false = sym there ∙ it.fresh in cc)
]

inserted_root : {f g : Forest} {at : ℕ} {leaf : Ref} {old : Option Ref} → IsSound f → f.stands at ≡ true → Inserts f g at leaf old → (m : ℕ) → g.stands m ≡ true → g.root m ≡ m → f.stands m ≡ true
inserted_root {f} {g} {at} sound stands ins m st own =
    let goes = ins.goes in
    let h = goes.then in
    let there : h.stands m ≡ true = entered_root goes.prepares.sound ins.sound goes.stands goes.only goes.change m st own in
    let own_h : h.root m ≡ m = sym (goes.only.still m there (λ z. z)).root ∙ own in
    elim (cases_Bool (f.stands m)) as (λ _. f.stands m ≡ true) [
      | inl was ↦ was
      | inr out ↦
          let top : m ≡ f.root at = sym own_h ∙ goes.touched.tree m out there in
          subst (λ z. f.stands z ≡ true) (sym top) (sound.top at stands).0
    ]

pub record PutAll (f g : Forest) (at : ℕ) (rs : List Ref) : Type 0 where
  pub sound : IsSound g
  pub fixed : Fixed f g
  pub place : InPlace f g at
  pub leaves : (l : List Ref) → LeavesOf f at l → LeavesOf g at (put_each rs l)
  pub paths : (key : ℕ) (o : Option Ref) → NoneHolds key rs → Reaches f key at o → Reaches g key at o
  pub still : (m : ℕ) → f.stands m ≡ true → InPlace f g m
  pub roots : (m : ℕ) → g.stands m ≡ true → g.root m ≡ m → f.stands m ≡ true
  pub above : (m : ℕ) → f.stands m ≡ true → (f.root m ≡ f.root at → ⊥) → Renews f g m
  pub exact : KeepsOtherLeaves f g at
  pub room : f.room ≤ g.room + 63 * length rs
  pub room_falls : g.room ≤ f.room
  pub spare : f.spare ≤ g.spare + length rs
  pub grown : length rs ≤ f.spare → g.spare ≤ f.spare

pub puts_all : {at : ℕ} {f g : Forest} {rs : List Ref} → PutsEach at f rs g → IsSound f → f.stands at ≡ true → PutAll f g at rs
puts_all {at} (none {f = f}) sound stands = record {
  sound = sound;
  fixed = Fixed-refl f;
  place = InPlace-refl f at stands;
  leaves = λ l hl. hl;
  paths = λ key o miss reached. reached;
  still = λ m st. InPlace-refl f m st;
  roots = λ m st own. st;
  above = λ m st root. Keeps-Renews f f m (Keeps-refl f m st);
  exact = λ m i x st other read leaf free. read;
  room = omega arith;
  room_falls = omega arith;
  spare = omega arith;
  grown = λ enough. omega arith;
}
puts_all {at} (first {f = f} {h = h} {g = g} {r = r} {rs = rs} step rest) sound stands =
    let ins = step.inserts in
    let tail = puts_all rest ins.sound ins.place.stands in
    let n : length (r ∷ rs) ≡ suc (length rs) = refl in
    record {
      sound = tail.sound;
      fixed = Fixed-trans f h g (λ m st st'. (ins.still m st).stands) ins.fixed tail.fixed;
      place = InPlace-trans f h g at ins.place tail.place;
      leaves = λ l hl. tail.leaves (put r l) (ins.leaves l hl);
      paths = λ key o miss reached. tail.paths key o (λ i x read. miss (suc i) x read) (step.paths key o (miss 0 r refl) reached);
      still = λ m st. let there = ins.still m st in InPlace-trans f h g m there (tail.still m there.stands);
      roots = λ m st own. let there = tail.roots m st own in inserted_root sound stands ins m there (sym (tail.still m there).root ∙ own);
      above = λ m st root. let there = ins.above m st root in Renews-trans f h g m there (tail.above m there.place.stands (λ e. root (sym there.place.root ∙ e ∙ ins.place.root)));
      exact = leaves_trans f h g at ins.place (λ m st other. ins.still m st) (inserted_leaves f h at r step.old stands ins) tail.exact;
      room = omega (arith, ins.room, tail.room, n);
      room_falls = omega (arith, ins.room_falls, tail.room_falls);
      spare = omega (arith, ins.spare, tail.spare, n);
      grown = λ enough.
          let goes = ins.goes in
          let then = goes.then in
          let first : then.spare ≡ f.spare = goes.grown (omega (arith, enough, n)) in
          let rest_grown = tail.grown (omega (arith, enough, n, ins.spare)) in
          let spent = goes.spare in
          omega (arith, first, rest_grown, spent);
    }

-- spare nodes fall by the blocks that are made
pub puts_spare : {at : ℕ} {f g : Forest} {rs : List Ref} (chain : PutsEach at f rs g) → length rs ≤ f.spare → g.spare + new_blocks chain ≡ f.spare
puts_spare none enough = omega arith
puts_spare (first {r = r} {rs = rs} step rest) enough =
    let ins = step.inserts in
    let goes = ins.goes in
    let n : length (r ∷ rs) ≡ suc (length rs) = refl in
    let made = goes.grown (omega (arith, enough, n)) in
    let spent = goes.spare in
    let tail = puts_spare rest (omega (arith, enough, n, ins.spare)) in
    omega (arith, made, spent, tail)

-- each path leads to what was put there
pub puts_reach : {at : ℕ} {f g : Forest} {rs : List Ref} → PutsEach at f rs g → IsSound f → f.stands at ≡ true → Ordered rs → (i : ℕ) (r : Ref) → slice_get rs i ≡ Some r → Reaches g r.key at (Some r)
puts_reach none sound stands ordered i r read = absurd (none-some r read)
puts_reach {at} (first {g = g} {r = x} {rs = rs} step rest) sound stands ordered zero r read =
    let same : x ≡ r = (cc) in
    let ins = step.inserts in
    let tail = puts_all rest ins.sound ins.place.stands in
    let path = tail.paths x.key (Some x) (λ j y read'. before_out x y (ordered.apart 0 (suc j) x y refl read' (omega arith))) step.path in
    subst (λ (y : Ref). Reaches g y.key at (Some y)) same path
puts_reach (first {r = x} {rs = rs} step rest) sound stands ordered (suc i) r read = puts_reach rest step.inserts.sound step.inserts.place.stands (ordered_tail x rs ordered) i r read

pub puts_more : {at : ℕ} {f h g : Forest} {rs : List Ref} {r : Ref} → PutsEach at f rs h → Puts h g at r → PutsEach at f (rs ++ (r ∷ [])) g
puts_more none step = first step none
puts_more (first step rest) more = first step (puts_more rest more)

-- a path that isn't that of one of those before stays
pub front_out : (rs : List Ref) (i : ℕ) (r : Ref) → Ordered rs → slice_get rs i ≡ Some r → (j : ℕ) (x : Ref) → slice_get rs j ≡ Some x → j < i → holds r.key x ≡ false
front_out rs i r ordered read j x read' lt = behind_out x r (ordered.each j x read') (ordered.apart j i x r read' read lt)

pub front_none : (rs : List Ref) (i : ℕ) (r : Ref) → Ordered rs → slice_get rs i ≡ Some r → NoneHolds r.key (take i rs)
front_none rs i r ordered read j x read' = let it = take_from i rs j x read' in front_out rs i r ordered read j x it.1 it.0

pub front_more : (rs : List Ref) (i : ℕ) (r : Ref) → slice_get rs i ≡ Some r → take (i + 1) rs ≡ take i rs ++ (r ∷ [])
front_more rs i r read = let next : i + 1 ≡ suc i = omega arith in ap (λ n. take n rs) next ∙ take_next rs i r read

pub taken_length : (n : ℕ) (rs : List Ref) → n ≤ length rs → length (take n rs) ≡ n
taken_length zero rs le = refl
taken_length (suc n) [] le = absurd (omega (arith, le))
taken_length (suc n) (x ∷ rs) le = ap suc (taken_length n rs (omega (arith, le)))
