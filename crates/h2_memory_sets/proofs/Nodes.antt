-- Lists of nodes in which some have changed.
use Rattle.std.proofs.Common.{◌≡◌, ℕ, ◌+◌, ◌<◌, ◌≤◌, Bool, true, arith, refl, cond, sym, ◌∙◌, ap, List, [], ◌∷◌, ◌++◌, length, Option, Some, subst, inl, inr, slice_get, slice_set, suc, zero}
use Rattle.std.specs.Prelude.{not}
use Rattle.std.specs.List.{position, position_or_len}
use Rattle.std.proofs.lemmas.Option.{slice_get_within}
use Rattle.h2_ref.specs.declared.faults.Why.{Why}
use Rattle.h2_ref.specs.declared.reference.Ref.{Ref}
use Rattle.h2_set.specs.RefSet.{RefSet}
use Rattle.h2_set.specs.Forest.{IsSound}
use Rattle.h2_set.specs.Calls.{Fixed, ReadiesOnly, Unchanged}
use Rattle.h2_set.specs.ChangeLaws.{same_or_not}
use Rattle.h2_memory_sets.specs.declared.node.Node.{Node}
use Rattle.h2_memory_sets.specs.View.{stands_of, set_of, root_of, low_of, bits_of, writable_of, copies_of, leaf_bits_of, link_of, with_set, new_node, moved_all, parted, forest_with}
use Rattle.h2_memory_sets.specs.Owners.{owner_of, belongs_to, allows_of, held_of}
use Rattle.h2_memory_sets.proofs.Owned.{belongs_same}
use Rattle.h2_memory_sets.proofs.Settled.{Loose, Settled, readies, counts_rise}

-- a test that passes at the same places of two lists
pub first_same : {X : Type 0} (p q : X → Bool) (xs ys : List X) → length xs ≡ length ys → ((i : ℕ) (x y : X) → slice_get xs i ≡ Some x → slice_get ys i ≡ Some y → p x ≡ q y) → position_or_len p xs ≡ position_or_len q ys
first_same p q [] [] len same = refl
first_same p q [] (y ∷ ys) len same = absurd (omega (arith, len))
first_same p q (x ∷ xs) [] len same = absurd (omega (arith, len))
first_same p q (x ∷ xs) (y ∷ ys) len same = rw (same 0 x y refl refl) (ap (λ n. cond (not (q y)) (1 + n) 0) (first_same p q xs ys (omega (arith, len)) (λ i a b ra rb. same (suc i) a b ra rb)))

pub position_same : {X : Type 0} (p q : X → Bool) (xs ys : List X) → length xs ≡ length ys → ((i : ℕ) (x y : X) → slice_get xs i ≡ Some x → slice_get ys i ≡ Some y → p x ≡ q y) → position p xs ≡ position q ys
position_same p q xs ys len same = rw (first_same p q xs ys len same, len) refl

pub get_set : {X : Type 0} (xs : List X) (at : ℕ) (y : X) → at < length xs → slice_get (slice_set xs at y) at ≡ Some y
get_set [] at y lt = absurd (omega (arith, lt))
get_set (z ∷ zs) zero y lt = refl
get_set (z ∷ zs) (suc at) y lt = get_set zs at y (omega arith)

pub get_set_other : {X : Type 0} (xs : List X) (at m : ℕ) (y : X) → (m ≡ at → ⊥) → slice_get (slice_set xs at y) m ≡ slice_get xs m
get_set_other [] at m y ne = refl
get_set_other (z ∷ zs) zero zero y ne = absurd (ne refl)
get_set_other (z ∷ zs) zero (suc m) y ne = refl
get_set_other (z ∷ zs) (suc at) zero y ne = refl
get_set_other (z ∷ zs) (suc at) (suc m) y ne = get_set_other zs at m y (λ e. ne (ap suc e))

-- what reads the same of one node reads the same of all
pub field_stays : {X Y : Type 0} (F : Option Y → X) (xs : List Y) (at : ℕ) (x y : Y) → slice_get xs at ≡ Some x → F (Some y) ≡ F (Some x) → (m : ℕ) → F (slice_get (slice_set xs at y) m) ≡ F (slice_get xs m)
field_stays F xs at x y read same m = elim (same_or_not m at) as (λ _. F (slice_get (slice_set xs at y) m) ≡ F (slice_get xs m)) [
  | inl e ↦ subst (λ z. F (slice_get (slice_set xs at y) z) ≡ F (slice_get xs z)) (sym e) (ap F (get_set xs at y (slice_get_within xs at x read)) ∙ same ∙ ap F (sym read))
  | inr ne ↦ ap F (get_set_other xs at m y ne)
]

-- a node that stands is there
pub is_there : (xs : List Node) (at : ℕ) → stands_of (slice_get xs at) ≡ true → at < length xs
is_there [] at h = absurd (cc)
is_there (x ∷ xs) zero h = omega arith
is_there (x ∷ xs) (suc at) h = let it = is_there xs at h in omega arith

-- what every change of a forest in memory leaves as it is of each node, whether it stands or not
pub record KeepsRoots (xs ys : List Node) : Type 0 where
  pub leaf_bits : (m : ℕ) → leaf_bits_of (slice_get ys m) ≡ leaf_bits_of (slice_get xs m)
  pub owner : (m : ℕ) → owner_of (slice_get ys m) ≡ owner_of (slice_get xs m)
  pub held : (m : ℕ) → held_of (slice_get ys m) ≡ held_of (slice_get xs m)

-- a node in its place, as writable as it was
pub record KeepsNode (xs ys : List Node) (m : ℕ) : Type 0 where
  pub root : root_of (slice_get ys m) ≡ root_of (slice_get xs m)
  pub low : low_of (slice_get ys m) ≡ low_of (slice_get xs m)
  pub bits : bits_of (slice_get ys m) ≡ bits_of (slice_get xs m)
  pub writable : writable_of (slice_get ys m) ≡ writable_of (slice_get xs m)
  pub copies : copies_of (slice_get ys m) ≡ copies_of (slice_get xs m)

-- what a node belongs to, where its root is the same
pub belongs_still : (xs ys : List Node) → ((m : ℕ) → owner_of (slice_get ys m) ≡ owner_of (slice_get xs m)) → (m t k : ℕ) → root_of (slice_get ys m) ≡ root_of (slice_get xs m) → belongs_to ys (root_of (slice_get ys m)) t k ≡ belongs_to xs (root_of (slice_get xs m)) t k
belongs_still xs ys owner m t k root = ap (λ q. belongs_to ys q t k) root ∙ belongs_same xs ys owner (root_of (slice_get xs m)) t k

pub loose_of : (xs ys : List Node) (spare spare' epoch room room' failed failed' bad bad' : ℕ) (met met' : Option (ℕ × Why)) → KeepsRoots xs ys → ((m : ℕ) → stands_of (slice_get xs m) ≡ true → stands_of (slice_get ys m) ≡ true → KeepsNode xs ys m) → Loose (forest_with xs spare epoch room failed bad met) (forest_with ys spare' epoch room' failed' bad' met')
loose_of xs ys spare spare' epoch room room' failed failed' bad bad' met met' roots place = record {
  leaf_bits = λ m st now. roots.leaf_bits m;
  held = roots.held;
  epoch = refl;
  place = λ m st now. let it = place m st now in record { stands = now; root = it.root; low = it.low; bits = it.bits; belongs = λ t k. belongs_still xs ys roots.owner m t k it.root; writable = λ e. it.writable ∙ e };
  copies = λ m st now. (place m st now).copies;
  writable = λ m st now. (place m st now).writable;
}

pub fixed_of : (xs ys : List Node) (spare spare' epoch room room' failed failed' bad bad' : ℕ) (met met' : Option (ℕ × Why)) → KeepsRoots xs ys → ((m : ℕ) (r : Ref) → stands_of (slice_get xs m) ≡ true → stands_of (slice_get ys m) ≡ true → allows_of (slice_get ys m) r ≡ allows_of (slice_get xs m) r) → failed ≤ failed' → bad ≤ bad' → Fixed (forest_with xs spare epoch room failed bad met) (forest_with ys spare' epoch room' failed' bad' met')
fixed_of xs ys spare spare' epoch room room' failed failed' bad bad' met met' roots allows more_failed more_bad = record {
  leaf_bits = λ m st now. roots.leaf_bits m;
  allows = allows;
  held = roots.held;
  name = λ r. refl;
  epoch = refl;
  failed = more_failed;
  bad = more_bad;
}

pub settled_of : (xs ys : List Node) (spare spare' epoch room room' failed failed' bad bad' : ℕ) (met met' : Option (ℕ × Why)) → KeepsRoots xs ys → ((m : ℕ) (r : Ref) → stands_of (slice_get xs m) ≡ true → stands_of (slice_get ys m) ≡ true → allows_of (slice_get ys m) r ≡ allows_of (slice_get xs m) r) → failed ≤ failed' → bad ≤ bad' → ((m : ℕ) → stands_of (slice_get xs m) ≡ true → (stands_of (slice_get ys m) ≡ true) × KeepsNode xs ys m) → Settled (forest_with xs spare epoch room failed bad met) (forest_with ys spare' epoch room' failed' bad' met')
settled_of xs ys spare spare' epoch room room' failed failed' bad bad' met met' roots allows more_failed more_bad place = record {
  fixed = fixed_of xs ys spare spare' epoch room room' failed failed' bad bad' met met' roots allows more_failed more_bad;
  loose = loose_of xs ys spare spare' epoch room room' failed failed' bad bad' met met' roots (λ m st now. (place m st).1);
  stands = λ m st. (place m st).0;
}

-- where the nodes are the same and there are more spare ones
pub readies_nodes : (xs ys : List Node) (spare more epoch room failed bad : ℕ) (met : Option (ℕ × Why)) → ys ≡ xs → spare ≤ more → IsSound (forest_with xs spare epoch room failed bad met) → ReadiesOnly (forest_with xs spare epoch room failed bad met) (forest_with ys more epoch room failed bad met)
readies_nodes xs ys spare more epoch room failed bad met items le sound =
    let field : (X : Type 0) (F : Option Node → X) (m : ℕ) → F (slice_get ys m) ≡ F (slice_get xs m) = λ X F m. ap (λ (l : List Node). F (slice_get l m)) items in
    readies _ _ (settled_of xs ys spare more epoch room room failed failed bad bad met met (record { leaf_bits = field _ leaf_bits_of; owner = field _ owner_of; held = field _ held_of }) (λ m r st now. field _ (λ o. allows_of o r) m) (omega arith) (omega arith) (λ m st. (field _ stands_of m ∙ st, record { root = field _ root_of m; low = field _ low_of m; bits = field _ bits_of m; writable = field _ writable_of m; copies = field _ copies_of m }))) (field _ stands_of) (field _ set_of) (λ m k. ap (λ (l : List Node). link_of l m k) items) le refl refl refl refl sound

-- the nodes that a change of the set, a move of what is below, and one more node make
pub parted_is : (xs zs items : List Node) (at n : ℕ) (x a b : Node) (kept part : RefSet) (r : Ref) → n ≡ length xs → slice_get xs at ≡ Some x → slice_get xs at ≡ Some a → slice_get xs at ≡ Some b → zs ≡ moved_all at n r (slice_set xs at (with_set b kept)) → items ≡ zs ++ new_node at a part r ∷ [] → items ≡ parted xs at x kept part r
parted_is xs zs items at n x a b kept part r n_is at_x at_a at_b zs_is items_is =
    let a_is : a ≡ x = (cc) in
    let b_is : b ≡ x = (cc) in
    items_is ∙ ap (λ (l : List Node). l ++ new_node at a part r ∷ []) zs_is ∙ ap (λ (y : Node). moved_all at n r (slice_set xs at (with_set b kept)) ++ new_node at y part r ∷ []) a_is ∙ ap (λ (y : Node). moved_all at n r (slice_set xs at (with_set y kept)) ++ new_node at x part r ∷ []) b_is ∙ ap (λ k. moved_all at k r (slice_set xs at (with_set x kept)) ++ new_node at x part r ∷ []) n_is

-- where faults or bad blocks were met, and nothing else
pub unchanged_nodes : (xs : List Node) (spare epoch room failed failed' bad bad' : ℕ) (met met' : Option (ℕ × Why)) → failed ≤ failed' → bad ≤ bad' → IsSound (forest_with xs spare epoch room failed bad met) → Unchanged (forest_with xs spare epoch room failed bad met) (forest_with xs spare epoch room failed' bad' met')
unchanged_nodes xs spare epoch room failed failed' bad bad' met met' more_failed more_bad sound = counts_rise _ _ (settled_of xs xs spare spare epoch room room failed failed' bad bad' met met' (record { leaf_bits = λ m. refl; owner = λ m. refl; held = λ m. refl }) (λ m r st now. refl) more_failed more_bad (λ m st. (st, record { root = refl; low = refl; bits = refl; writable = refl; copies = refl }))) (λ m. refl) (λ m. refl) (λ m k. refl) refl refl sound
