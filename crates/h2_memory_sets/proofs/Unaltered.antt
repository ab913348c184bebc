-- A forest in memory in which a node and all above it are writable already.
use Rattle.std.proofs.Common.{◌≡◌, ℕ, ◌+◌, ◌≤◌, Bool, true, false, arith, refl, cond, sym, ◌∙◌, ap, List, Option, Some, None, subst, inl, inr, slice_get, suc, zero}
use Rattle.std.proofs.lemmas.Nat.{pow_pos}
use Rattle.h2_ref.specs.declared.faults.Why.{Why}
use Rattle.h2_set.specs.Forest.{Forest, refs, IsSound, HasParent}
use Rattle.h2_set.specs.Calls.{Keeps, Alters, IsAbove, itself, by, inside, across}
use Rattle.h2_set.specs.ChangeLaws.{same_or_not}
use Rattle.h2_set.specs.StayLaws.{Alike-refl}
use Rattle.h2_set.specs.RenewLaws.{Keeps-Renews}
use Rattle.h2_memory_sets.specs.declared.node.Node.{Node}
use Rattle.h2_memory_sets.specs.declared.node.Owner.{Owner}
use Rattle.h2_memory_sets.specs.View.{stands_of, root_of, writable_of, copies_of, forest_with}
use Rattle.h2_memory_sets.specs.Inodes.{is_settled_top, is_unowned}
use Rattle.h2_memory_sets.specs.Owners.{owner_of}
use Rattle.h2_memory_sets.proofs.Altered.{above_of}
use Rattle.h2_memory_sets.proofs.Nesting.{Link, link_of as link_at, few_bits}
use Rattle.h2_memory_sets.proofs.Owned.{AreLower, belongs_none}
use Rattle.h2_memory_sets.proofs.Parting.{one_of}
use Rattle.h2_memory_sets.proofs.Passing.{and_parts}
use Rattle.h2_memory_sets.proofs.Recounting.{Above, up}

-- what a settled root is
settled_top : (o : Option Node) → is_settled_top o ≡ true → (writable_of o ≡ true) × (owner_of o ≡ None)
settled_top None e = absurd (cc)
settled_top (Some x) e = let p = and_parts x.dirty (is_unowned x.owner) e in (p.0, none x.owner p.1)
  where
    none : (o : Option Owner) → is_unowned o ≡ true → o ≡ None
    none None e = refl
    none (Some w) e = absurd (cc)

-- a count of none
none_more : (m n : ℕ) (b : Bool) → n ≡ m + cond b 0 1 → n ≡ 0 → (m ≡ 0) × (b ≡ true)
none_more m n true is zero' = (omega (arith, is, zero'), refl)
none_more m n false is zero' = absurd (omega (arith, is, zero'))

module _ (xs : List Node) (spare epoch room failed bad : ℕ) (met : Option (ℕ × Why)) (sound : IsSound (forest_with xs spare epoch room failed bad met)) where
  abbrev f : Forest
  f = forest_with xs spare epoch room failed bad met

  -- where none above a node has to be copied, and its root is writable, all above it is
  abbrev Written : ℕ → Type 0
  Written n = (c i : ℕ) → f.stands c ≡ true → f.stands i ≡ true → f.copies c ≡ 0 → f.writable (f.root c) ≡ true → Above f i c → 63 ≤ n + f.bits c → f.writable i ≡ true

  written_top : (c i : ℕ) → f.stands c ≡ true → f.stands i ≡ true → f.writable (f.root c) ≡ true → Above f i c → f.root c ≡ c → f.writable i ≡ true
  written_top c i st st' top a own = elim (same_or_not (f.root i) i) as (λ _. f.writable i ≡ true) [
    | inl e ↦ subst (λ z. f.writable z ≡ true) (sym a.root ∙ e) top
    | inr off ↦
        let h = sound.parent i st' off in
        let l = link_at f sound h.parent i h.stands h.link in
        let fewer = l.child.fewer in
        let few = few_bits f sound h.parent h.stands in
        let half = (sound.node c st).half own in
        let bits = a.bits in
        absurd (omega (arith, fewer, few, half, bits))
  ]

  written_kid : (c i : ℕ) (h : HasParent f c) → f.stands i ≡ true → f.copies c ≡ 0 → ((m : ℕ) → f.stands m ≡ true → Link f sound m c → f.copies m ≡ 0 → Above f i m → f.writable i ≡ true) → Above f i c → f.writable i ≡ true
  written_kid c i h st' none ih a =
      let l = link_at f sound h.parent c h.stands h.link in
      let counts = none_more (f.copies h.parent) (f.copies c) (f.writable c) l.child.copies none in
      elim (same_or_not i c) as (λ _. f.writable i ≡ true) [
        | inl e ↦ ap f.writable e ∙ counts.1
        | inr ne ↦ ih h.parent h.stands l counts.0 (up xs (λ x. x.dirty) spare epoch room failed bad met sound i h.parent c st' h.stands l ne a)
      ]

  written : (n : ℕ) → Written n
  written zero c i st st' none top a most = elim (same_or_not (f.root c) c) as (λ _. f.writable i ≡ true) [
    | inl own ↦ written_top c i st st' top a own
    | inr off ↦
        let h = sound.parent c st off in
        let l = link_at f sound h.parent c h.stands h.link in
        let fewer = l.child.fewer in
        let few = few_bits f sound h.parent h.stands in
        absurd (omega (arith, fewer, few, most))
  ]
  written (suc n) c i st st' none top a most = elim (same_or_not (f.root c) c) as (λ _. f.writable i ≡ true) [
    | inl own ↦ written_top c i st st' top a own
    | inr off ↦ written_kid c i (sound.parent c st off) st' none (λ m stm l none_m a'. let fewer = l.child.fewer in written n m i stm st' none_m (ap f.writable (sym l.child.root) ∙ top) a' (omega (arith, most, fewer))) a
  ]

  module _ (at : ℕ) (x : Node) (read : slice_get xs at ≡ Some x) (low : AreLower xs) (stands : stands_of (slice_get xs at) ≡ true) (none : x.copies ≡ 0) (settled : is_settled_top (slice_get xs x.root) ≡ true) where
    no_copies : f.copies at ≡ 0
    no_copies = ap copies_of read ∙ none

    root_is : f.root at ≡ x.root
    root_is = ap root_of read

    top : f.writable (f.root at) ≡ true
    top = ap f.writable root_is ∙ (settled_top (slice_get xs x.root) settled).0

    unowned : owner_of (slice_get xs (f.root at)) ≡ None
    unowned = ap (λ m. owner_of (slice_get xs m)) root_is ∙ (settled_top (slice_get xs x.root) settled).1

    all_above : (m : ℕ) → f.stands m ≡ true → Above f m at → f.writable m ≡ true
    all_above m st a = written 63 at m stands st no_copies top a (omega arith)

    self : Above f at at
    self = let pos = pow_pos (f.bits at) in record { root = refl; bits = omega arith; low = omega arith; high = omega (arith, pos) }

    made : (m : ℕ) → f.stands m ≡ true → IsAbove f m at → f.writable m ≡ true
    made m st (itself e) = ap f.writable e ∙ all_above at stands self
    made m st (by i r got (inside root ind held bits)) = all_above m st (above_of xs at x read spare epoch room room failed bad met low sound stands (omega (arith, no_copies)) m i r st got root ind held bits)
    made m st (by i r got (across key ne held bel)) = let clash : true ≡ false = sym bel ∙ belongs_none xs (f.root at) (f.root m) key unowned in absurd (cc)

    keeps : (m : ℕ) → f.stands m ≡ true → Keeps f f m
    keeps m st = record { place = record { stands = st; root = refl; low = refl; bits = refl; belongs = λ t k. refl; writable = λ e. e }; alike = Alike-refl (refs f m); link = λ k. refl }

    pub unaltered : Alters f f at
    unaltered = record {
      sound = sound;
      fixed = record { leaf_bits = λ m st now. refl; allows = λ m r st now. refl; held = λ m. refl; name = λ r. refl; epoch = refl; failed = omega arith; bad = omega arith };
      writable = all_above at stands self;
      top = top;
      made = made;
      copies = no_copies;
      room = omega (arith, no_copies);
      exact = λ m i r st got off. got;
      kept = λ m i c r st got link w. got;
      kept_leaf = λ m i c r st got leaf is w. got;
      dated = λ m i r q st got now. inl (one_of q r (sym now ∙ got));
      still = λ all m st. refl;
      others = λ m st off. refl;
      tree = λ m st root. keeps m st;
      above = λ m st root. Keeps-Renews f f m (keeps m st);
      capacity = λ m st. refl;
      none_new = λ m now. now;
      spare = refl;
      failed = refl;
      bad = refl;
      met = refl;
    }
