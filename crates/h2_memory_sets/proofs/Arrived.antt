-- What stands of the nodes of inodes once a root has come that a leaf names.
use Rattle.std.proofs.Common.{◌≡◌, ℕ, ◌<◌, ◌≤◌, Bool, true, false, ◌&&◌, arith, sym, ◌∙◌, ap, List, length, Option, Some, None, subst, inl, inr, slice_get}
use Rattle.std.proofs.lemmas.Option.{none-some}
use Rattle.h2_ref.specs.declared.faults.Why.{Why}
use Rattle.h2_set.specs.Calls.{KeepsBeside}
use Rattle.h2_set.specs.ChangeLaws.{same_or_not}
use Rattle.h2_inode.specs.declared.inode.Inode.{Inode}
use Rattle.h2_memory_sets.specs.declared.node.Node.{Node}
use Rattle.h2_memory_sets.specs.declared.node.Owner.{Owner}
use Rattle.h2_memory_sets.specs.Kept.{AreKept, IsNamedRoot, IsInodeRoot}
use Rattle.h2_memory_sets.specs.Owners.{beside_of}
use Rattle.h2_memory_sets.specs.View.{stands_of, root_of, is_top, is_bare, forest_with, AllRooted}
use Rattle.h2_memory_sets.proofs.Coming.{Comes}
use Rattle.h2_memory_sets.proofs.Parting.{one_of}
use Rattle.h2_memory_sets.proofs.Passing.{and_parts}

module _ (xs ys : List Node) (c : ℕ) (y : Node) (h : Comes xs ys c y) (bare : y.up ≡ None) where
  top_stood : (o : Option Node) → is_top o ≡ true → stands_of o ≡ true
  top_stood None e = absurd (cc)
  top_stood (Some x) e = (and_parts x.loaded _ e).0

  both_on : (l b : Bool) → l ≡ true → b ≡ true → (l && b) ≡ true
  both_on true b e f = f
  both_on false b e f = absurd (cc)

  is_bare_now : is_bare y.up ≡ true
  is_bare_now = ap is_bare bare

  -- the root of each loaded node is loaded still
  pub rooted_arrives : AllRooted xs → AllRooted ys
  rooted_arrives rooted i st = elim (same_or_not i c) as (λ _. is_top (slice_get ys (root_of (slice_get ys i))) ≡ true) [
    | inl e ↦
        let root : root_of (slice_get ys i) ≡ c = ap (λ z. root_of (slice_get ys z)) e ∙ ap root_of h.at_c ∙ h.root in
        ap (λ z. is_top (slice_get ys z)) root ∙ ap is_top h.at_c ∙ both_on y.loaded (is_bare y.up) h.loaded is_bare_now
    | inr ne ↦
        let off = h.off_c i ne in
        let top = rooted i (sym (ap stands_of off) ∙ st) in
        let apart : root_of (slice_get xs i) ≡ c → ⊥ = λ e. (let clash : true ≡ false = sym (top_stood (slice_get xs (root_of (slice_get xs i))) top) ∙ ap (λ z. stands_of (slice_get xs z)) e ∙ h.fresh in cc) in
        ap (λ z. is_top (slice_get ys z)) (ap root_of off) ∙ ap is_top (h.off_c (root_of (slice_get xs i)) apart) ∙ top
  ]

  -- and what is kept of nodes
  pub kept_arrives : (o : Owner) → AreKept xs → length xs ≤ length ys → y.owner ≡ Some o → IsNamedRoot c y o → ((v : Inode) → y.inode ≡ Some v → IsInodeRoot c y v) → ((j : ℕ) (x : Node) → slice_get xs j ≡ Some x → x.loaded ≡ true → x.owner ≡ Some o → ⊥) → AreKept ys
  kept_arrives o kept longer own named inode none = record {
    above = λ i x u read up. elim (same_or_not i c) as (λ _. u < length ys) [
      | inl e ↦ absurd (none-some u (sym (ap (λ (z : Node). z.up) (it_is i x read e) ∙ bare) ∙ up))
      | inr ne ↦ let lt = kept.above i x u (was i x read ne) up in omega (arith, lt, longer)
    ];
    owner = λ i x p read is. elim (same_or_not i c) as (λ _. IsNamedRoot i x p) [
      | inl e ↦ subst (λ z. IsNamedRoot z x p) (sym e) (subst (λ (z : Node). IsNamedRoot c z p) (sym (it_is i x read e)) (subst (IsNamedRoot c y) (one_owner o p (sym own ∙ sym (ap (λ (z : Node). z.owner) (it_is i x read e)) ∙ is)) named))
      | inr ne ↦ kept.owner i x p (was i x read ne) is
    ];
    inode = λ i x v read is. elim (same_or_not i c) as (λ _. IsInodeRoot i x v) [
      | inl e ↦ subst (λ z. IsInodeRoot z x v) (sym e) (subst (λ (z : Node). IsInodeRoot c z v) (sym (it_is i x read e)) (inode v (sym (ap (λ (z : Node). z.inode) (it_is i x read e)) ∙ is)))
      | inr ne ↦ kept.inode i x v (was i x read ne) is
    ];
    one = λ i j a b p read_a read_b on_a on_b own_a own_b. elim (same_or_not i c) as (λ _. i ≡ j) [
      | inl e ↦ elim (same_or_not j c) as (λ _. i ≡ j) [
        | inl e' ↦ e ∙ sym e'
        | inr ne ↦ absurd (none j b (was j b read_b ne) on_b (own_b ∙ sym (own_is i a p read_a e own_a)))
      ]
      | inr ne ↦ elim (same_or_not j c) as (λ _. i ≡ j) [
        | inl e ↦ absurd (none i a (was i a read_a ne) on_a (own_a ∙ sym (own_is j b p read_b e own_b)))
        | inr ne' ↦ kept.one i j a b p (was i a read_a ne) (was j b read_b ne') on_a on_b own_a own_b
      ]
    ];
  }
    where
      one_owner : (a b : Owner) → Some a ≡ Some b → a ≡ b
      one_owner a b e = cc

      it_is : (i : ℕ) (x : Node) → slice_get ys i ≡ Some x → i ≡ c → x ≡ y
      it_is i x read e = one_of x y (sym read ∙ ap (λ z. slice_get ys z) e ∙ h.at_c)

      was : (i : ℕ) (x : Node) → slice_get ys i ≡ Some x → (i ≡ c → ⊥) → slice_get xs i ≡ Some x
      was i x read ne = sym (h.off_c i ne) ∙ read

      own_is : (i : ℕ) (x : Node) (p : Owner) → slice_get ys i ≡ Some x → i ≡ c → x.owner ≡ Some p → ◌≡◌ {A = Option Owner} (Some o) (Some p)
      own_is i x p read e is = sym own ∙ sym (ap (λ (z : Node). z.owner) (it_is i x read e)) ∙ is

  -- a root that no leaf names, and that isn't that of an inode
  pub kept_plain : AreKept xs → length xs ≤ length ys → y.owner ≡ None → y.inode ≡ None → AreKept ys
  kept_plain kept longer unowned plain = record {
    above = λ i x u read up. elim (same_or_not i c) as (λ _. u < length ys) [
      | inl e ↦ absurd (none-some u (sym (ap (λ (z : Node). z.up) (new_is i x read e) ∙ bare) ∙ up))
      | inr ne ↦ let lt = kept.above i x u (sym (h.off_c i ne) ∙ read) up in omega (arith, lt, longer)
    ];
    owner = λ i x p read is. elim (same_or_not i c) as (λ _. IsNamedRoot i x p) [
      | inl e ↦ absurd (none-some p (sym (ap (λ (z : Node). z.owner) (new_is i x read e) ∙ unowned) ∙ is))
      | inr ne ↦ kept.owner i x p (sym (h.off_c i ne) ∙ read) is
    ];
    inode = λ i x v read is. elim (same_or_not i c) as (λ _. IsInodeRoot i x v) [
      | inl e ↦ absurd (none-some v (sym (ap (λ (z : Node). z.inode) (new_is i x read e) ∙ plain) ∙ is))
      | inr ne ↦ kept.inode i x v (sym (h.off_c i ne) ∙ read) is
    ];
    one = λ i j a b p read_a read_b on_a on_b own_a own_b. elim (same_or_not i c) as (λ _. i ≡ j) [
      | inl e ↦ absurd (none-some p (sym (ap (λ (z : Node). z.owner) (new_is i a read_a e) ∙ unowned) ∙ own_a))
      | inr ne ↦ elim (same_or_not j c) as (λ _. i ≡ j) [
        | inl e ↦ absurd (none-some p (sym (ap (λ (z : Node). z.owner) (new_is j b read_b e) ∙ unowned) ∙ own_b))
        | inr ne' ↦ kept.one i j a b p (sym (h.off_c i ne) ∙ read_a) (sym (h.off_c j ne') ∙ read_b) on_a on_b own_a own_b
      ]
    ];
  }
    where
      new_is : (i : ℕ) (x : Node) → slice_get ys i ≡ Some x → i ≡ c → x ≡ y
      new_is i x read e = one_of x y (sym read ∙ ap (λ z. slice_get ys z) e ∙ h.at_c)

  -- what stood keeps what it has beside its set
  pub beside_arrives : (spare spare' epoch room failed failed' bad bad' : ℕ) (met met' : Option (ℕ × Why)) → KeepsBeside (forest_with xs spare epoch room failed bad met) (forest_with ys spare' epoch room failed' bad' met') (λ m. beside_of (slice_get xs m)) (λ m. beside_of (slice_get ys m))
  beside_arrives spare spare' epoch room failed failed' bad bad' met met' = record {
    same = λ m st now. ap beside_of (h.off_c m (λ e. let clash : true ≡ false = sym st ∙ ap (λ z. stands_of (slice_get xs z)) e ∙ h.fresh in cc));
  }
