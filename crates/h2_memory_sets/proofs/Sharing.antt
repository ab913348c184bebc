-- The sets of a node and of one that takes over a part of it.
use Rattle.std.proofs.Common.{◌≡◌, ℕ, ◌+◌, ◌<◌, ◌≤◌, ◌^◌, true, false, arith, refl, sym, ◌∙◌, ap, length, Some, ◌⊎◌, inl, inr, slice_get, suc}
use Rattle.std.specs.Prelude.{filter, not, count_by}
use Rattle.std.proofs.lemmas.Nat.{pow_pos}
use Rattle.std.proofs.lemmas.List.Sums.{length-filter}
use Rattle.h2_ref.specs.declared.reference.Ref.{Ref}
use Rattle.h2_set.specs.declared.set.Split.{Split}
use Rattle.h2_set.specs.Ranges.{Rising, limit, put, lies, is_indirect, IsApart, Apart}
use Rattle.h2_set.specs.RefSet.{RefSet, IsRefSet, with_rest}
use Rattle.h2_set.specs.Forest.{Forest, refs, IsSound, IsSoundNode, NamesBelow, Fits}
use Rattle.h2_set.specs.Calls.{MadeFrom}
use Rattle.h2_set.specs.LeafLaws.{Rising-low}
use Rattle.h2_set.specs.EditLaws.{Rising-put, length-put}
use Rattle.h2_set.specs.PutLaws.{Rising-filter, put_from, put_keeps}
use Rattle.h2_set.specs.MadeLaws.{put_rising, put_fits, PartsNode, parts_node}
use Rattle.h2_memory_sets.specs.View.{names}
use Rattle.h2_memory_sets.proofs.Lists.{names_below, below_names, filter_from, filter_keeps, Rising-within}
use Rattle.h2_memory_sets.proofs.Sides.{same_bool, count_not, not_false, off_range, on_range, off_lies, Rising-wide}

module _ (f : Forest) (at : ℕ) (set : RefSet) (s : Split) (ref leaf : Ref) (sound : IsSound f) (stands : f.stands at ≡ true) (made : MadeFrom f at leaf set s) (is_ind : is_indirect ref ≡ true) (key_is : ref.key ≡ s.key) (bits_is : ref.keybits ≡ s.keybits) where
  node : IsSoundNode f at
  node = sound.node at stands

  pub parts : PartsNode f at leaf s.key s.keybits
  parts = parts_node f at leaf set s node made

  all_rising : Rising (f.low at) (f.low at + 2 ^ f.bits at) (put leaf (refs f at))
  all_rising = put_rising f at leaf node made.apart made.fits made.low made.high

  pub all_fits : (i : ℕ) (q : Ref) → slice_get (put leaf (refs f at)) i ≡ Some q → Fits f at q
  all_fits = put_fits f at leaf node made.apart made.fits made.low made.high

  outer_rising : Rising (f.low at) (f.low at + 2 ^ f.bits at) (filter (λ q. not (lies s.key s.keybits q)) (put leaf (refs f at)))
  outer_rising = Rising-filter (λ q. not (lies s.key s.keybits q)) _ _ (put leaf (refs f at)) all_rising

  -- a reference that stays is apart from the range
  pub record Stayed (q : Ref) : Type 0 where
    pub place : ℕ
    pub read : slice_get (put leaf (refs f at)) place ≡ Some q
    pub off : (limit q ≤ s.key) ⊎ (s.key + 2 ^ s.keybits ≤ q.key)

  pub stayed : (i : ℕ) (q : Ref) → slice_get (filter (λ q. not (lies s.key s.keybits q)) (put leaf (refs f at))) i ≡ Some q → Stayed q
  stayed i q read =
      let it = filter_from (λ q. not (lies s.key s.keybits q)) (put leaf (refs f at)) i q read in
      record { place = it.place; read = it.read; off = off_range s.key s.keybits q (parts.sides it.place q it.read) (not_false _ it.passes) }

  pub ref_apart : IsApart ref (filter (λ q. not (lies s.key s.keybits q)) (put leaf (refs f at)))
  ref_apart i q read = elim (stayed i q read).off as (λ _. Apart ref q) [
    | inl before ↦ inr (rw key_is before)
    | inr after ↦ inl (rw (key_is, bits_is) after)
  ]

  counts : count_by (lies s.key s.keybits) (put leaf (refs f at)) + length (filter (λ q. not (lies s.key s.keybits q)) (put leaf (refs f at))) ≡ suc (length (refs f at))
  counts =
      let a = count_not (lies s.key s.keybits) (put leaf (refs f at)) in
      let b = length-filter (λ q. not (lies s.key s.keybits q)) (put leaf (refs f at)) in
      let n = length-put leaf (refs f at) made.apart in
      omega (arith, a, b, n)

  -- a reference of the whole that leads on stood there before
  pub record Stood (q : Ref) : Type 0 where
    pub place : ℕ
    pub read : slice_get (refs f at) place ≡ Some q

  pub stood : (i : ℕ) (q : Ref) → slice_get (put leaf (refs f at)) i ≡ Some q → is_indirect q ≡ true → Stood q
  stood i q read ind = elim (put_from leaf (refs f at) made.apart i q read) as (λ _. Stood q) [
    | inl e ↦ let clash : true ≡ false = sym ind ∙ ap (λ (z : Ref). is_indirect z) e ∙ made.leaf in absurd (cc)
    | inr old ↦ record { place = old.0; read = old.1 }
  ]

  pub here_rising : Rising (f.low at) (f.low at + 2 ^ f.bits at) (put ref (filter (λ q. not (lies s.key s.keybits q)) (put leaf (refs f at))))
  here_rising = Rising-put _ _ _ ref outer_rising ref_apart (rw key_is parts.range_low) (rw (key_is, bits_is) parts.range_high)

  pub here_length : length (put ref (filter (λ q. not (lies s.key s.keybits q)) (put leaf (refs f at)))) ≡ suc (length (filter (λ q. not (lies s.key s.keybits q)) (put leaf (refs f at))))
  here_length = length-put ref _ ref_apart

  pub here_set : IsRefSet (record { refs = put ref (filter (λ q. not (lies s.key s.keybits q)) (put leaf (refs f at))); capacity = set.capacity })
  here_set =
      let full = made.full in
      let same = made.capacity in
      let n = here_length in
      let k = counts in
      let two = parts.two in
      record {
        rising = Rising-wide 0 _ (2 ^ 64) _ node.ends (Rising-low (f.low at) 0 _ _ (omega arith) here_rising);
        fits = omega (arith, full, same, n, k, two);
        known = rw same node.set.known;
      }

  -- what moved stands in the new node
  pub came : (i : ℕ) (q : Ref) → slice_get (filter (lies s.key s.keybits) (put leaf (refs f at))) i ≡ Some q → (lies s.key s.keybits q ≡ true) × (j : ℕ) × (slice_get (put leaf (refs f at)) j ≡ Some q)
  came i q read = let it = filter_from (lies s.key s.keybits) (put leaf (refs f at)) i q read in (it.passes, it.place, it.read)

  pub inner_rising : Rising s.key (s.key + 2 ^ s.keybits) (filter (lies s.key s.keybits) (put leaf (refs f at)))
  inner_rising = Rising-within s.key s.keybits _ _ (filter (lies s.key s.keybits) (put leaf (refs f at))) (Rising-filter (lies s.key s.keybits) _ _ (put leaf (refs f at)) all_rising) (λ i q read. (came i q read).0)

  pub inner_length : length (filter (lies s.key s.keybits) (put leaf (refs f at))) ≡ count_by (lies s.key s.keybits) (put leaf (refs f at))
  inner_length = length-filter (lies s.key s.keybits) (put leaf (refs f at))

  pub new_set : IsRefSet (record { refs = filter (lies s.key s.keybits) (put leaf (refs f at)); capacity = 32 })
  new_set = record {
    rising = Rising-wide 0 _ (2 ^ 64) _ top (Rising-low s.key 0 _ _ (omega arith) inner_rising);
    fits = few node.set.known refl;
    known = inr refl;
  }
    where
      top : s.key + 2 ^ s.keybits ≤ 2 ^ 64
      top = let a = parts.range_high in let b = node.ends in omega (arith, a, b)

      few : {n : ℕ} → (n ≡ 4) ⊎ (n ≡ 32) → n ≡ (let t = f.set at in t.capacity) → length (filter (lies s.key s.keybits) (put leaf (refs f at))) ≤ 32
      few (inl e) same = let a = parts.few in let n = inner_length in let full = made.full in omega (arith, e, same, a, n, full)
      few (inr e) same = let a = parts.few in let n = inner_length in let full = made.full in omega (arith, e, same, a, n, full)

  -- the reference that leads there moved
  pub record Moved (q : Ref) : Type 0 where
    pub lies_there : lies s.key s.keybits q ≡ true
    pub all_place : ℕ
    pub all_read : slice_get (put leaf (refs f at)) all_place ≡ Some q
    pub place : ℕ
    pub read : slice_get (filter (lies s.key s.keybits) (put leaf (refs f at))) place ≡ Some q

  pub moved_there : (k : ℕ) → s.key ≤ k → k < s.key + 2 ^ s.keybits → (n : NamesBelow (refs f at) k) → Moved n.ref
  moved_there k lo hi n =
      let one = put_keeps leaf (refs f at) made.apart n.place n.ref n.read in
      let key_is : n.ref.key ≡ k = n.key in
      let in_it = on_range s.key s.keybits n.ref (parts.sides one.0 n.ref one.1) (rw key_is lo) (rw key_is hi) in
      let two = filter_keeps (lies s.key s.keybits) (put leaf (refs f at)) one.0 n.ref one.1 in_it in
      record { lies_there = in_it; all_place = one.0; all_read = one.1; place = two.0; read = two.1 }

  kept_apart : (k : ℕ) → (k < s.key) ⊎ (s.key + 2 ^ s.keybits ≤ k) → (q : Ref) → q.key ≡ k → lies s.key s.keybits q ≡ false
  kept_apart k out q e = off_lies s.key s.keybits q (rw e out) _ refl

  -- a reference outside the range that leads on stays
  outer_has : (k : ℕ) → (k < s.key) ⊎ (s.key + 2 ^ s.keybits ≤ k) → (n : NamesBelow (refs f at) k) → (i : ℕ) × (slice_get (put ref (filter (λ q. not (lies s.key s.keybits q)) (put leaf (refs f at)))) i ≡ Some n.ref)
  outer_has k out n =
      let one = put_keeps leaf (refs f at) made.apart n.place n.ref n.read in
      let two = filter_keeps (λ q. not (lies s.key s.keybits q)) (put leaf (refs f at)) one.0 n.ref one.1 (ap not (kept_apart k out n.ref n.key)) in
      put_keeps ref (filter (λ q. not (lies s.key s.keybits q)) (put leaf (refs f at))) ref_apart two.0 n.ref two.1

  pub names_kept : (k : ℕ) → (k < s.key) ⊎ (s.key + 2 ^ s.keybits ≤ k) → names (put ref (filter (λ q. not (lies s.key s.keybits q)) (put leaf (refs f at)))) k ≡ names (refs f at) k
  names_kept k out = same_bool _ _ to from
    where
      to : names (put ref (filter (λ q. not (lies s.key s.keybits q)) (put leaf (refs f at)))) k ≡ true → names (refs f at) k ≡ true
      to e =
          let n = names_below _ k e in
          elim (put_from ref (filter (λ q. not (lies s.key s.keybits q)) (put leaf (refs f at))) ref_apart n.place n.ref n.read) as (λ _. names (refs f at) k ≡ true) [
            | inl same ↦ let key : k ≡ s.key = sym n.key ∙ ap (λ (z : Ref). z.key) same ∙ key_is in absurd (at_start_out key out)
            | inr old ↦
                let st = stayed old.0 n.ref old.1 in
                let was = stood st.place n.ref st.read n.indirect in
                below_names (refs f at) k was.place n.ref was.read n.indirect n.key
          ]
        where
          at_start_out : k ≡ s.key → (k < s.key) ⊎ (s.key + 2 ^ s.keybits ≤ k) → ⊥
          at_start_out e (inl lt) = omega (arith, e, lt)
          at_start_out e (inr le) = let pos = pow_pos s.keybits in omega (arith, e, le, pos)

      from : names (refs f at) k ≡ true → names (put ref (filter (λ q. not (lies s.key s.keybits q)) (put leaf (refs f at)))) k ≡ true
      from e =
          let n = names_below _ k e in
          let it = outer_has k out n in
          below_names _ k it.0 n.ref it.1 n.indirect n.key

  pub names_moved : (k : ℕ) → s.key ≤ k → k < s.key + 2 ^ s.keybits → names (filter (lies s.key s.keybits) (put leaf (refs f at))) k ≡ names (refs f at) k
  names_moved k lo hi = same_bool _ _ to from
    where
      to : names (filter (lies s.key s.keybits) (put leaf (refs f at))) k ≡ true → names (refs f at) k ≡ true
      to e =
          let n = names_below _ k e in
          let it = came n.place n.ref n.read in
          let was = stood it.1 n.ref it.2 n.indirect in
          below_names (refs f at) k was.place n.ref was.read n.indirect n.key

      from : names (refs f at) k ≡ true → names (filter (lies s.key s.keybits) (put leaf (refs f at))) k ≡ true
      from e =
          let n = names_below _ k e in
          let it = moved_there k lo hi n in
          below_names _ k it.place n.ref it.read n.indirect n.key

  -- the two sets that the node is given, one after the other
  pub kept_set : IsRefSet (record { refs = with_rest s.rest set.refs; capacity = set.capacity })
  kept_set =
      let full = made.full in
      let same = made.capacity in
      let n = counts in
      let two = parts.two in
      rw made.kept (record {
        rising = Rising-wide 0 _ (2 ^ 64) _ node.ends (Rising-low (f.low at) 0 _ _ (omega arith) outer_rising);
        fits = omega (arith, full, same, n, two);
        known = rw same node.set.known;
      })

  pub whole_set : IsRefSet (record { refs = put ref (with_rest s.rest set.refs); capacity = set.capacity })
  whole_set = rw made.kept here_set

  pub whole_length : length (put ref (with_rest s.rest set.refs)) ≤ set.capacity
  whole_length = whole_set.fits
