-- The nodes of a forest in memory once a node took over a part of another.
use Rattle.std.proofs.Common.{◌≡◌, ℕ, ◌+◌, ◌<◌, ◌≤◌, Bool, true, false, ◌&&◌, arith, refl, cond, sym, ◌∙◌, ap, List, [], ◌∷◌, ◌++◌, length, Option, Some, None, subst, inl, inr, slice_get, slice_set, suc, zero, nat_lt, nat_eq}
use Rattle.std.specs.Prelude.{not, map}
use Rattle.std.specs.List.{position, position_or_len}
use Rattle.std.proofs.Math.Numerals.{one-add}
use Rattle.std.proofs.lemmas.Bool.{cases_lt}
use Rattle.std.proofs.lemmas.Bool.Decides.{nat_tests}
use Rattle.std.proofs.lemmas.Option.{none-some, slice_get_within, slice_get_past}
use Rattle.std.proofs.lemmas.List.{length-map}
use Rattle.std.proofs.Math.ListN.{length-set}
use Rattle.h2_ref.specs.declared.reference.Ref.{Ref}
use Rattle.h2_set.specs.Ranges.{holds}
use Rattle.h2_set.specs.RefSet.{RefSet}
use Rattle.h2_set.specs.ChangeLaws.{same_or_not}
use Rattle.h2_memory_sets.specs.declared.node.Node.{Node}
use Rattle.h2_memory_sets.specs.View.{is_up, moved_up, moved, moved_all, with_set, new_node, parted}
use Rattle.h2_memory_sets.proofs.Nodes.{position_same, get_set, get_set_other}

pub unlike : (a b : ℕ) → (a ≡ b → ⊥) → nat_eq a b ≡ false
unlike a b ne = elim (cases_lt a b) as (λ _. nat_eq a b ≡ false) [
  | inl lt ↦ grind (arith, nat_tests)
  | inr ge ↦ elim (cases_lt b a) as (λ _. nat_eq a b ≡ false) [
    | inl gt ↦ grind (arith, nat_tests)
    | inr le ↦ absurd (ne (omega (arith, ge, le)))
  ]
]

pub alike : (a b : ℕ) → nat_eq a b ≡ true → a ≡ b
alike a b e = grind (arith, nat_tests)

-- what is above a node, once node c has what lay in a range below node at
module _ (at c : ℕ) (r : Ref) (low : ℕ) (other : at ≡ c → ⊥) where
  -- for any other node nothing has changed
  pub up_other : (m : ℕ) → (m ≡ at → ⊥) → (m ≡ c → ⊥) → (u : Option ℕ) → is_up m (moved_up at c r low u) ≡ is_up m u
  up_other m off_at off_c None = refl
  up_other m off_at off_c (Some u) = go (nat_eq u c) refl (nat_eq u at) refl (holds low r)
    where
      go : (a : Bool) → nat_eq u c ≡ a → (b : Bool) → nat_eq u at ≡ b → (h : Bool) → is_up m (cond a None (cond b (cond h (Some c) (Some u)) (Some u))) ≡ nat_eq u m
      go true ea b eb h = let k = alike u c ea in sym (unlike u m (λ e. off_c (sym e ∙ k)))
      go false ea false eb h = refl
      go false ea true eb false = refl
      go false ea true eb true = let k = alike u at eb in unlike c m (λ e. off_c (sym e)) ∙ sym (unlike u m (λ e. off_at (sym e ∙ k)))

  -- outside the range nothing has changed for the node either, and nothing is below the new one
  pub up_at_out : holds low r ≡ false → (u : Option ℕ) → is_up at (moved_up at c r low u) ≡ is_up at u
  up_at_out out None = refl
  up_at_out out (Some u) = rw out (go (nat_eq u c) refl (nat_eq u at) refl)
    where
      go : (a : Bool) → nat_eq u c ≡ a → (b : Bool) → nat_eq u at ≡ b → is_up at (cond a None (cond b (Some u) (Some u))) ≡ nat_eq u at
      go true ea b eb = let k = alike u c ea in sym (unlike u at (λ e. other (sym e ∙ k)))
      go false ea true eb = refl
      go false ea false eb = refl

  pub up_c_out : holds low r ≡ false → (u : Option ℕ) → is_up c (moved_up at c r low u) ≡ false
  up_c_out out None = refl
  up_c_out out (Some u) = rw out (go (nat_eq u c) refl (nat_eq u at) refl)
    where
      go : (a : Bool) → nat_eq u c ≡ a → (b : Bool) → nat_eq u at ≡ b → is_up c (cond a None (cond b (Some u) (Some u))) ≡ false
      go true ea b eb = refl
      go false ea true eb = ea
      go false ea false eb = ea

  -- in the range nothing is below the node, and below the new one what was below it
  pub up_at_in : holds low r ≡ true → (u : Option ℕ) → is_up at (moved_up at c r low u) ≡ false
  up_at_in in_it None = refl
  up_at_in in_it (Some u) = rw in_it (go (nat_eq u c) refl (nat_eq u at) refl)
    where
      go : (a : Bool) → nat_eq u c ≡ a → (b : Bool) → nat_eq u at ≡ b → is_up at (cond a None (cond b (Some c) (Some u))) ≡ false
      go true ea b eb = refl
      go false ea true eb = unlike c at (λ e. other (sym e))
      go false ea false eb = eb

  pub up_c_in : holds low r ≡ true → (u : Option ℕ) → is_up c (moved_up at c r low u) ≡ is_up at u
  up_c_in in_it None = refl
  up_c_in in_it (Some u) = rw in_it (go (nat_eq u c) refl (nat_eq u at) refl)
    where
      same_c : nat_eq c c ≡ true
      same_c = grind (arith, nat_tests)

      go : (a : Bool) → nat_eq u c ≡ a → (b : Bool) → nat_eq u at ≡ b → is_up c (cond a None (cond b (Some c) (Some u))) ≡ nat_eq u at
      go true ea b eb = let k = alike u c ea in sym (unlike u at (λ e. other (sym e ∙ k)))
      go false ea true eb = same_c ∙ sym eb
      go false ea false eb = ea ∙ sym eb

-- a test of a node by what is above it and by its key
pub tests : (l a b e : Bool) → (e ≡ true → a ≡ b) → (l && (a && e)) ≡ (l && (b && e))
tests l a b true h = ap (λ z. l && (z && true)) (h refl)
tests l true true false h = refl
tests l true false false h = refl
tests l false true false h = refl
tests l false false false h = refl

pub fails : (l a e : Bool) → (e ≡ true → a ≡ false) → (l && (a && e)) ≡ false
fails true true true h = absurd (let e = h refl in cc)
fails true true false h = refl
fails true false e h = refl
fails false a e h = refl

-- the first place at which a test passes, from the front on
abbrev pub after_one : Option ℕ → Option ℕ
after_one None = None
after_one (Some n) = Some (suc n)

abbrev pub first_of : {X : Type 0} → (X → Bool) → List X → Option ℕ
first_of p [] = None
first_of p (x ∷ xs) = cond (p x) (Some 0) (after_one (first_of p xs))

zero_lt : (n : ℕ) → nat_lt 0 (suc n) ≡ true
zero_lt n = let lt : 0 < suc n = omega arith in grind (arith, nat_tests)

first_step : (b : Bool) (n len : ℕ) (o : Option ℕ) → cond (nat_lt n len) (Some n) None ≡ o → cond (nat_lt (cond (not b) (1 + n) 0) (suc len)) (Some (cond (not b) (1 + n) 0)) None ≡ cond b (Some 0) (after_one o)
first_step true n len o ih = rw (zero_lt len) refl
first_step false n len o ih = elim (cases_lt n len) as (λ _. cond (nat_lt (1 + n) (suc len)) (Some (1 + n)) None ≡ after_one o) [
  | inl lt ↦
      let now : nat_lt n len ≡ true = grind (arith, nat_tests) in
      let then' : nat_lt (1 + n) (suc len) ≡ true = (let more : 1 + n < suc len = omega (arith, lt) in grind (arith, nat_tests)) in
      let it : Some n ≡ o = rw now at ih in
      rw then' (ap Some (one-add n) ∙ ap after_one it)
  | inr ge ↦
      let now : nat_lt n len ≡ false = grind (arith, nat_tests) in
      let then' : nat_lt (1 + n) (suc len) ≡ false = (let most : suc len ≤ 1 + n = omega (arith, ge) in grind (arith, nat_tests)) in
      let it : None ≡ o = rw now at ih in
      rw then' (ap after_one it)
]

pub position_first : {X : Type 0} (p : X → Bool) (xs : List X) → position p xs ≡ first_of p xs
position_first p [] = refl
position_first p (x ∷ xs) = first_step (p x) (position_or_len p xs) (length xs) (first_of p xs) (position_first p xs)

-- a list that has one more at its end
pub first_push : {X : Type 0} (p : X → Bool) (xs : List X) (z : X) → p z ≡ false → position p (xs ++ z ∷ []) ≡ position p xs
first_push p xs z e = position_first p (xs ++ z ∷ []) ∙ go xs ∙ sym (position_first p xs)
  where
    go : (ys : List _) → first_of p (ys ++ z ∷ []) ≡ first_of p ys
    go [] = rw e refl
    go (y ∷ ys) = ap (λ o. cond (p y) (Some 0) (after_one o)) (go ys)

pub first_none : {X : Type 0} (p : X → Bool) (xs : List X) (z : X) → ((i : ℕ) (x : X) → slice_get xs i ≡ Some x → p x ≡ false) → p z ≡ true → position p (xs ++ z ∷ []) ≡ Some (length xs)
first_none p xs z none e = position_first p (xs ++ z ∷ []) ∙ go xs none
  where
    go : (ys : List _) → ((i : ℕ) (x : _) → slice_get ys i ≡ Some x → p x ≡ false) → first_of p (ys ++ z ∷ []) ≡ Some (length ys)
    go [] none = rw e refl
    go (y ∷ ys) none = rw (none 0 y refl) (ap after_one (go ys (λ i x read. none (suc i) x read)))

pub none_passes : {X : Type 0} (p : X → Bool) (xs : List X) → ((i : ℕ) (x : X) → slice_get xs i ≡ Some x → p x ≡ false) → position p xs ≡ None
none_passes p xs none = position_first p xs ∙ go xs none
  where
    go : (ys : List _) → ((i : ℕ) (x : _) → slice_get ys i ≡ Some x → p x ≡ false) → first_of p ys ≡ None
    go [] none = refl
    go (y ∷ ys) none = rw (none 0 y refl) (ap after_one (go ys (λ i x read. none (suc i) x read)))

-- what a search that found nothing, or found the one place, says
rest_none : (o : Option ℕ) → after_one o ≡ None → o ≡ None
rest_none None e = refl
rest_none (Some n) e = absurd (none-some (suc n) (sym e))

first_false : {X : Type 0} (p : X → Bool) (xs : List X) → first_of p xs ≡ None → (i : ℕ) (x : X) → slice_get xs i ≡ Some x → p x ≡ false
first_false p [] e i x read = absurd (none-some x read)
first_false p (y ∷ ys) e i x read = head (p y) refl e i read (first_false p ys)
  where
    head : (b : Bool) → p y ≡ b → cond b (Some 0) (after_one (first_of p ys)) ≡ None → (i : ℕ) → slice_get (y ∷ ys) i ≡ Some x → (first_of p ys ≡ None → (i : ℕ) (x : _) → slice_get ys i ≡ Some x → p x ≡ false) → p x ≡ false
    head true e' n i read ih = absurd (none-some 0 (sym n))
    head false e' n zero read ih = let same : y ≡ x = (cc) in subst (λ z. p z ≡ false) same e'
    head false e' n (suc i) read ih = ih (rest_none (first_of p ys) n) i x read

pub none_false : {X : Type 0} (p : X → Bool) (xs : List X) → position p xs ≡ None → (i : ℕ) (x : X) → slice_get xs i ≡ Some x → p x ≡ false
none_false p xs e = first_false p xs (sym (position_first p xs) ∙ e)

pub position_one : {X : Type 0} (p : X → Bool) (xs : List X) (c : ℕ) (y : X) → slice_get xs c ≡ Some y → p y ≡ true → ((i : ℕ) (x : X) → (i ≡ c → ⊥) → slice_get xs i ≡ Some x → p x ≡ false) → position p xs ≡ Some c
position_one p xs c y read yes' others = position_first p xs ∙ go xs c read others
  where
    go : (zs : List _) (c : ℕ) → slice_get zs c ≡ Some y → ((i : ℕ) (x : _) → (i ≡ c → ⊥) → slice_get zs i ≡ Some x → p x ≡ false) → first_of p zs ≡ Some c
    go [] c read others = absurd (none-some y read)
    go (z ∷ zs) zero read others = let same : z ≡ y = (cc) in rw (same, yes') refl
    go (z ∷ zs) (suc c) read others = rw (others 0 z (λ e. omega (arith, e)) refl) (ap after_one (go zs c read (λ i x ne got. others (suc i) x (λ e. ne (omega (arith, e))) got)))

-- the first place at which a test passes stays where fewer pass and this one still does
pub position_less : {X : Type 0} (p : X → Bool) (xs ys : List X) → length ys ≡ length xs → ((i : ℕ) (a b : X) → slice_get xs i ≡ Some a → slice_get ys i ≡ Some b → p b ≡ true → p a ≡ true) → ((c : ℕ) → position p xs ≡ Some c → (a b : X) → slice_get xs c ≡ Some a → slice_get ys c ≡ Some b → p a ≡ true → p b ≡ true) → position p ys ≡ position p xs
position_less p xs ys len fewer found = position_first p ys ∙ go xs ys len fewer (λ c e. found c (position_first p xs ∙ e)) ∙ sym (position_first p xs)
  where
    go : (xs ys : List _) → length ys ≡ length xs → ((i : ℕ) (a b : _) → slice_get xs i ≡ Some a → slice_get ys i ≡ Some b → p b ≡ true → p a ≡ true) → ((c : ℕ) → first_of p xs ≡ Some c → (a b : _) → slice_get xs c ≡ Some a → slice_get ys c ≡ Some b → p a ≡ true → p b ≡ true) → first_of p ys ≡ first_of p xs
    go [] [] len fewer found = refl
    go [] (y ∷ ys) len fewer found = absurd (omega (arith, len))
    go (x ∷ xs) [] len fewer found = absurd (omega (arith, len))
    go (x ∷ xs) (y ∷ ys) len fewer found = head x y xs ys (p x) refl (p y) refl (fewer 0 x y refl refl) (λ e. found 0 e x y refl refl) (λ miss. go xs ys (omega (arith, len)) (λ i a b ra rb. fewer (suc i) a b ra rb) (λ c e a b ra rb. found (suc c) (rw miss (ap after_one e)) a b ra rb))
      where
        head : (x y : _) (xs ys : List _) (a : Bool) → p x ≡ a → (b : Bool) → p y ≡ b → (p y ≡ true → p x ≡ true) → (first_of p (x ∷ xs) ≡ Some 0 → p x ≡ true → p y ≡ true) → (p x ≡ false → first_of p ys ≡ first_of p xs) → first_of p (y ∷ ys) ≡ first_of p (x ∷ xs)
        head x y xs ys true ea true eb fewer found ih = rw (ea, eb) refl
        head x y xs ys true ea false eb fewer found ih = let clash : true ≡ false = sym (found (rw ea refl) ea) ∙ eb in absurd (cc)
        head x y xs ys false ea true eb fewer found ih = let clash : true ≡ false = sym (fewer eb) ∙ ea in absurd (cc)
        head x y xs ys false ea false eb fewer found ih = rw (ea, eb) (ap after_one (ih ea))

pub get_append : {X : Type 0} (xs : List X) (z : X) (i : ℕ) → i < length xs → slice_get (xs ++ z ∷ []) i ≡ slice_get xs i
get_append [] z i lt = absurd (omega (arith, lt))
get_append (x ∷ xs) z zero lt = refl
get_append (x ∷ xs) z (suc i) lt = get_append xs z i (omega arith)

pub get_last : {X : Type 0} (xs : List X) (z : X) → slice_get (xs ++ z ∷ []) (length xs) ≡ Some z
get_last [] z = refl
get_last (x ∷ xs) z = get_last xs z

pub get_none : {X : Type 0} (xs : List X) (z : X) (i : ℕ) → (i ≡ length xs → ⊥) → length xs ≤ i → slice_get (xs ++ z ∷ []) i ≡ None
get_none [] z zero ne le = absurd (ne refl)
get_none [] z (suc i) ne le = refl
get_none (x ∷ xs) z zero ne le = absurd (omega (arith, le))
get_none (x ∷ xs) z (suc i) ne le = get_none xs z i (λ e. ne (ap suc e)) (omega arith)

pub get_map : {X Y : Type 0} (f : X → Y) (xs : List X) (i : ℕ) (x : X) → slice_get xs i ≡ Some x → slice_get (map f xs) i ≡ Some (f x)
get_map f [] i x read = absurd (none-some x read)
get_map f (y ∷ ys) zero x read = let e : y ≡ x = (cc) in ap (λ z. Some (f z)) e
get_map f (y ∷ ys) (suc i) x read = get_map f ys i x read

pub item_at : {X : Type 0} (zs : List X) (m : ℕ) → m < length zs → (y : X) × (slice_get zs m ≡ Some y)
item_at [] m lt = absurd (omega (arith, lt))
item_at (z ∷ zs) zero lt = (z, refl)
item_at (z ∷ zs) (suc m) lt = item_at zs m (omega arith)

pub one_of : {X : Type 0} (a b : X) → Some a ≡ Some b → a ≡ b
one_of a b e = cc

-- what is read of such nodes
module _ (xs : List Node) (at : ℕ) (x : Node) (kept part : RefSet) (r : Ref) (read : slice_get xs at ≡ Some x) where
  ys : List Node
  ys = parted xs at x kept part r

  front : List Node
  front = moved_all at (length xs) r (slice_set xs at (with_set x kept))

  within : at < length xs
  within = slice_get_within xs at x read

  pub front_length : length (moved_all at (length xs) r (slice_set xs at (with_set x kept))) ≡ length xs
  front_length = length-map _ _ ∙ length-set xs at (with_set x kept)

  pub at_new : slice_get (parted xs at x kept part r) (length xs) ≡ Some (new_node at x part r)
  at_new = subst (λ n. slice_get (parted xs at x kept part r) n ≡ Some (new_node at x part r)) front_length (get_last (moved_all at (length xs) r (slice_set xs at (with_set x kept))) (new_node at x part r))

  front_at : slice_get (moved_all at (length xs) r (slice_set xs at (with_set x kept))) at ≡ Some (moved at (length xs) r (with_set x kept))
  front_at = get_map (moved at (length xs) r) _ at _ (get_set xs at (with_set x kept) within)

  front_other : (i : ℕ) (y : Node) → (i ≡ at → ⊥) → slice_get xs i ≡ Some y → slice_get (moved_all at (length xs) r (slice_set xs at (with_set x kept))) i ≡ Some (moved at (length xs) r y)
  front_other i y ne get = get_map (moved at (length xs) r) _ i y (get_set_other xs at i (with_set x kept) ne ∙ get)

  pub at_here : slice_get (parted xs at x kept part r) at ≡ Some (moved at (length xs) r (with_set x kept))
  at_here = get_append _ _ at (rw front_length within) ∙ front_at

  pub at_other : (i : ℕ) (y : Node) → (i ≡ at → ⊥) → slice_get xs i ≡ Some y → slice_get (parted xs at x kept part r) i ≡ Some (moved at (length xs) r y)
  at_other i y ne get = get_append _ _ i (rw front_length (slice_get_within xs i y get)) ∙ front_other i y ne get

  pub past : (i : ℕ) → (i ≡ length xs → ⊥) → length xs ≤ i → slice_get (parted xs at x kept part r) i ≡ None
  past i ne le = get_none (moved_all at (length xs) r (slice_set xs at (with_set x kept))) (new_node at x part r) i (λ e. ne (e ∙ front_length)) (rw front_length le)

  -- what doesn't read the set nor what is above stays, but of the new node
  pub field : {X : Type 0} (F : Option Node → X) → ((y : Node) → F (Some (moved at (length xs) r y)) ≡ F (Some y)) → F (Some (with_set x kept)) ≡ F (Some x) → (m : ℕ) → (m ≡ length xs → ⊥) → F (slice_get (parted xs at x kept part r) m) ≡ F (slice_get xs m)
  field F same same_set m ne = elim (cases_lt m (length xs)) as (λ _. F (slice_get (parted xs at x kept part r) m) ≡ F (slice_get xs m)) [
    | inr ge ↦ ap F (past m ne ge) ∙ ap F (sym (slice_get_past xs m ge))
    | inl lt ↦ elim (same_or_not m at) as (λ _. F (slice_get (parted xs at x kept part r) m) ≡ F (slice_get xs m)) [
      | inl e ↦ subst (λ z. F (slice_get (parted xs at x kept part r) z) ≡ F (slice_get xs z)) (sym e) (ap F at_here ∙ same (with_set x kept) ∙ same_set ∙ ap F (sym read))
      | inr off ↦ let y = item_at xs m lt in ap F (at_other m y.0 off y.1) ∙ same y.0 ∙ ap F (sym y.1)
    ]
  ]

  -- the first place at which a node of the front passes that does what it did before the move
  pub front_same : (p q : Node → Bool) → ((y : Node) → q (moved at (length xs) r y) ≡ p y) → p (with_set x kept) ≡ p x → position q (moved_all at (length xs) r (slice_set xs at (with_set x kept))) ≡ position p xs
  front_same p q same same_set = sym (position_same p q xs _ (sym front_length) pointwise)
    where
      pointwise : (i : ℕ) (a b : Node) → slice_get xs i ≡ Some a → slice_get (moved_all at (length xs) r (slice_set xs at (with_set x kept))) i ≡ Some b → p a ≡ q b
      pointwise i a b ra rb = elim (same_or_not i at) as (λ _. p a ≡ q b) [
        | inr off ↦ let b_is = one_of _ b (sym (front_other i a off ra) ∙ rb) in sym (same a) ∙ ap q b_is
        | inl e ↦
            let a_is = one_of x a (sym read ∙ subst (λ z. slice_get xs z ≡ Some a) e ra) in
            let b_is = one_of _ b (sym front_at ∙ subst (λ z. slice_get (moved_all at (length xs) r (slice_set xs at (with_set x kept))) z ≡ Some b) e rb) in
            sym (sym (ap q b_is) ∙ same (with_set x kept) ∙ same_set ∙ ap p a_is)
      ]

  pub front_none : (q : Node → Bool) → ((y : Node) → q (moved at (length xs) r y) ≡ false) → (i : ℕ) (b : Node) → slice_get (moved_all at (length xs) r (slice_set xs at (with_set x kept))) i ≡ Some b → q b ≡ false
  front_none q same i b rb = elim (cases_lt i (length xs)) as (λ _. q b ≡ false) [
    | inr ge ↦ absurd (none-some b (sym (slice_get_past (moved_all at (length xs) r (slice_set xs at (with_set x kept))) i (rw front_length ge)) ∙ rb))
    | inl lt ↦ let it = from_map (slice_set xs at (with_set x kept)) i rb in ap q it.1 ∙ same it.0
  ]
    where
      from_map : (zs : List Node) (i : ℕ) → slice_get (map (moved at (length xs) r) zs) i ≡ Some b → (y : Node) × (b ≡ moved at (length xs) r y)
      from_map [] i rb = absurd (none-some b rb)
      from_map (z ∷ zs) zero rb = (z, sym (one_of _ b rb))
      from_map (z ∷ zs) (suc i) rb = from_map zs i rb
