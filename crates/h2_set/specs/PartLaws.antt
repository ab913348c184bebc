-- The leaves of a node whose set was split.
use Rattle.std.proofs.Common.{◌≡◌, ℕ, ◌+◌, ◌<◌, ◌≤◌, ◌^◌, true, false, arith, refl, sym, ◌∙◌, ap, List, [], ◌∷◌, ◌++◌, Some, subst, ◌⊎◌, inl, inr, slice_get, suc, append_assoc}
use Rattle.std.specs.Prelude.{filter, not}
use Rattle.std.proofs.lemmas.Bool.Decides.{nat_tests}
use Rattle.std.proofs.lemmas.Nat.{pow_pos}
use Rattle.h2_ref.specs.declared.reference.Ref.{Ref}
use Rattle.h2_set.specs.Ranges.{Rising, limit, put, lies, Sides, is_indirect}
use Rattle.h2_set.specs.Forest.{loaded, Forest, refs, HasLeaves, done, one, near, far, KeepsLeaves}
use Rattle.h2_set.specs.LeafLaws.{Rising-low, Rising-append}
use Rattle.h2_set.specs.EditLaws.{behind_apart}
use Rattle.h2_set.specs.ChangeLaws.{put_below}

pub lies_inside : (key bits : ℕ) (r : Ref) → lies key bits r ≡ true → (key ≤ r.key) × (limit r ≤ key + 2 ^ bits)
lies_inside key bits r e = (grind (arith, nat_tests), grind (arith, nat_tests))

not_before : (key bits : ℕ) (r : Ref) → limit r ≤ key → lies key bits r ≡ false
not_before key bits r le = let pos = pow_pos r.keybits in grind (arith, nat_tests)

not_after : (key bits : ℕ) (r : Ref) → key + 2 ^ bits ≤ r.key → lies key bits r ≡ false
not_after key bits r le = let pos = pow_pos r.keybits in grind (arith, nat_tests)

-- the references in the range
abbrev pub inner_of : ℕ → ℕ → List Ref → List Ref
inner_of key bits rs = filter (lies key bits) rs

-- those outside of it
abbrev pub outer_of : ℕ → ℕ → List Ref → List Ref
outer_of key bits rs = filter (λ q. not (lies key bits q)) rs

-- above the range all is outside
after_inner : (key bits low high : ℕ) (rs : List Ref) → Rising low high rs → key + 2 ^ bits ≤ low → inner_of key bits rs ≡ []
after_inner key bits low high [] h le = refl
after_inner key bits low high (r ∷ rs) h le =
    let pos = pow_pos r.keybits in
    rw (not_after key bits r (omega (arith, le, h.0))) (after_inner key bits (limit r) high rs h.1 (omega (arith, le, h.0, pos)))

after_outer : (key bits low high : ℕ) (rs : List Ref) → Rising low high rs → key + 2 ^ bits ≤ low → outer_of key bits rs ≡ rs
after_outer key bits low high [] h le = refl
after_outer key bits low high (r ∷ rs) h le =
    let pos = pow_pos r.keybits in
    rw (not_after key bits r (omega (arith, le, h.0))) (ap (λ (l : List Ref). r ∷ l) (after_outer key bits (limit r) high rs h.1 (omega (arith, le, h.0, pos))))

-- what was below keys of the range of node at is below c, the rest is where it was, and all has its leaves
pub record Divides (h g : Forest) (at c key bits : ℕ) : Type 0 where
  pub moved : (k : ℕ) → key ≤ k → k < key + 2 ^ bits → g.link c k ≡ h.link at k
  pub kept : (k : ℕ) → (k < key) ⊎ (key + 2 ^ bits ≤ k) → g.link at k ≡ h.link at k
  pub keep : (k d : ℕ) → h.link at k ≡ loaded d → KeepsLeaves h g d

-- the parts of references from the range on, and of their leaves
pub record Parts (g : Forest) (at c key bits : ℕ) (rs l : List Ref) (low high : ℕ) : Type 0 where
  pub inner : List Ref
  pub outer : List Ref
  pub whole : l ≡ inner ++ outer
  pub inside : HasLeaves g c (inner_of key bits rs) inner
  pub outside : HasLeaves g at (outer_of key bits rs) outer
  pub rising : Rising low (key + 2 ^ bits) inner
  pub above : Rising (key + 2 ^ bits) high (outer_of key bits rs)

after_move : {h g : Forest} {at : ℕ} {rs l : List Ref} (c key bits low high : ℕ) → Divides h g at c key bits → HasLeaves h at rs l → Rising low high rs → key + 2 ^ bits ≤ low → HasLeaves g at rs l
after_move c key bits low high d done h le = done
after_move c key bits low high d (one {r = r} leaf rest) h le = one leaf (after_move c key bits (limit r) high d rest h.1 (omega (arith, le, h.0)))
after_move c key bits low high d (near {c = e} {r = r} {below = b} ind link kids inside rest) h le =
    near ind (d.kept r.key (inr (omega (arith, le, h.0))) ∙ link) (d.keep r.key e link b kids) inside (after_move c key bits (limit r) high d rest h.1 (omega (arith, le, h.0)))
after_move c key bits low high d (far {r = r} ind link inside rest) h le =
    far ind (d.kept r.key (inr (omega (arith, le, h.0))) ∙ link) inside (after_move c key bits (limit r) high d rest h.1 (omega (arith, le, h.0)))

-- from a reference past the range on
after_parts : {h g : Forest} {at : ℕ} {rs l : List Ref} (c key bits low high : ℕ) → Divides h g at c key bits → HasLeaves h at rs l → Rising low high rs → low ≤ key + 2 ^ bits → Rising (key + 2 ^ bits) high rs → Parts g at c key bits rs l low high
after_parts {g = g} {at = at} {rs = rs} {l = l} c key bits low high d hl h le top =
    let inner_is = after_inner key bits (key + 2 ^ bits) high rs top (omega arith) in
    let outer_is = after_outer key bits (key + 2 ^ bits) high rs top (omega arith) in
    record {
      inner = [];
      outer = l;
      whole = refl;
      inside = subst (λ z. HasLeaves g c z []) (sym inner_is) done;
      outside = subst (λ z. HasLeaves g at z l) (sym outer_is) (after_move c key bits _ high d hl top (omega arith));
      rising = le;
      above = subst (Rising (key + 2 ^ bits) high) (sym outer_is) top;
    }

pub parts : {h g : Forest} {at : ℕ} {rs l : List Ref} (c key bits low high : ℕ) → Divides h g at c key bits → HasLeaves h at rs l → Rising low high rs → key ≤ low → low ≤ key + 2 ^ bits → ((i : ℕ) (r : Ref) → slice_get rs i ≡ Some r → Sides key bits r) → (key + 2 ^ bits ≤ high) → Parts g at c key bits rs l low high
parts c key bits low high d done h ge le sides top = record { inner = []; outer = []; whole = refl; inside = done; outside = done; rising = le; above = top }
parts {g = g} {at = at} c key bits low high d (one {r = r} {rs = rs} {l = l} leaf rest) h ge le sides top = elim (sides 0 r refl) as (λ _. Parts g at c key bits (r ∷ rs) (r ∷ l) low high) [
  | inl e ↦
      let in_r = lies_inside key bits r e in
      let pos = pow_pos r.keybits in
      let it = parts c key bits (limit r) high d rest h.1 (omega (arith, ge, h.0, pos)) in_r.1 (λ i x read. sides (suc i) x read) top in
      record {
        inner = r ∷ it.inner;
        outer = it.outer;
        whole = ap (λ (z : List Ref). r ∷ z) it.whole;
        inside = rw e (one leaf it.inside);
        outside = rw e it.outside;
        rising = (h.0, it.rising);
        above = rw e it.above;
      }
  | inr apart ↦ elim apart as (λ _. Parts g at c key bits (r ∷ rs) (r ∷ l) low high) [
    | inl before ↦ let pos = pow_pos r.keybits in absurd (omega (arith, before, ge, h.0, pos))
    | inr after ↦ after_parts c key bits low high d (one leaf rest) h le (after, h.1)
  ]
]
parts {g = g} {at = at} c key bits low high d (near {c = kid} {r = r} {rs = rs} {below = b} {l = l} ind link kids inside rest) h ge le sides top = elim (sides 0 r refl) as (λ _. Parts g at c key bits (r ∷ rs) (b ++ l) low high) [
  | inl e ↦
      let in_r = lies_inside key bits r e in
      let pos = pow_pos r.keybits in
      let it = parts c key bits (limit r) high d rest h.1 (omega (arith, ge, h.0, pos)) in_r.1 (λ i x read. sides (suc i) x read) top in
      let link' = d.moved r.key in_r.0 (omega (arith, in_r.1, pos)) ∙ link in
      record {
        inner = b ++ it.inner;
        outer = it.outer;
        whole = ap (λ (z : List Ref). b ++ z) it.whole ∙ sym (append_assoc b it.inner it.outer);
        inside = rw e (near ind link' (d.keep r.key kid link b kids) inside it.inside);
        outside = rw e it.outside;
        rising = Rising-append low (limit r) (key + 2 ^ bits) b it.inner (Rising-low r.key low (limit r) b h.0 inside) it.rising;
        above = rw e it.above;
      }
  | inr apart ↦ elim apart as (λ _. Parts g at c key bits (r ∷ rs) (b ++ l) low high) [
    | inl before ↦ let pos = pow_pos r.keybits in absurd (omega (arith, before, ge, h.0, pos))
    | inr after ↦ after_parts c key bits low high d (near ind link kids inside rest) h le (after, h.1)
  ]
]
parts {g = g} {at = at} c key bits low high d (far {r = r} {rs = rs} {below = b} {l = l} ind link inside rest) h ge le sides top = elim (sides 0 r refl) as (λ _. Parts g at c key bits (r ∷ rs) (b ++ l) low high) [
  | inl e ↦
      let in_r = lies_inside key bits r e in
      let pos = pow_pos r.keybits in
      let it = parts c key bits (limit r) high d rest h.1 (omega (arith, ge, h.0, pos)) in_r.1 (λ i x read. sides (suc i) x read) top in
      let link' = d.moved r.key in_r.0 (omega (arith, in_r.1, pos)) ∙ link in
      record {
        inner = b ++ it.inner;
        outer = it.outer;
        whole = ap (λ (z : List Ref). b ++ z) it.whole ∙ sym (append_assoc b it.inner it.outer);
        inside = rw e (far ind link' inside it.inside);
        outside = rw e it.outside;
        rising = Rising-append low (limit r) (key + 2 ^ bits) b it.inner (Rising-low r.key low (limit r) b h.0 inside) it.rising;
        above = rw e it.above;
      }
  | inr apart ↦ elim apart as (λ _. Parts g at c key bits (r ∷ rs) (b ++ l) low high) [
    | inl before ↦ let pos = pow_pos r.keybits in absurd (omega (arith, before, ge, h.0, pos))
    | inr after ↦ after_parts c key bits low high d (far ind link inside rest) h le (after, h.1)
  ]
]

-- the reference that leads to the range's node, before the rest
join : {g : Forest} {at : ℕ} {rs l : List Ref} (c key bits high : ℕ) (ref : Ref) → is_indirect ref ≡ true → ref.key ≡ key → ref.keybits ≡ bits → g.link at key ≡ loaded c → refs g c ≡ inner_of key bits rs → Parts g at c key bits rs l key high → HasLeaves g at (put ref (outer_of key bits rs)) l
join {g} {at} {rs} {l} c key bits high ref ind key_is bits_is link refs_is p =
    let pos = pow_pos bits in
    let first = put_below ref (key + 2 ^ bits) high (outer_of key bits rs) p.above (omega (arith, key_is, pos)) in
    let link' : g.link at ref.key ≡ loaded c = rw key_is link in
    let kids : HasLeaves g c (refs g c) p.inner = subst (λ z. HasLeaves g c z p.inner) (sym refs_is) p.inside in
    let inside : Rising ref.key (limit ref) p.inner = rw (key_is, bits_is) p.rising in
    rw (first, p.whole) (near ind link' kids inside p.outside)

pub halves : {h g : Forest} {at : ℕ} {rs l : List Ref} (c key bits low high : ℕ) (ref : Ref) → Divides h g at c key bits → is_indirect ref ≡ true → ref.key ≡ key → ref.keybits ≡ bits → g.link at key ≡ loaded c → HasLeaves h at rs l → Rising low high rs → key + 2 ^ bits ≤ high → ((i : ℕ) (r : Ref) → slice_get rs i ≡ Some r → Sides key bits r) → refs g c ≡ inner_of key bits rs → HasLeaves g at (put ref (outer_of key bits rs)) l
halves c key bits low high ref d ind key_is bits_is link done h top sides refs_is =
    join c key bits high ref ind key_is bits_is link refs_is (parts c key bits key high d done (omega (arith, top)) (omega arith) (omega arith) sides top)
halves {g = g} {at = at} c key bits low high ref d ind key_is bits_is link (one {r = r} {rs = rs} {l = l} leaf rest) h top sides refs_is = elim (sides 0 r refl) as (λ _. HasLeaves g at (put ref (outer_of key bits (r ∷ rs))) (r ∷ l)) [
  | inl e ↦
      let in_r = lies_inside key bits r e in
      join c key bits high ref ind key_is bits_is link refs_is (parts c key bits key high d (one leaf rest) (in_r.0, h.1) (omega arith) (omega arith) sides top)
  | inr apart ↦ elim apart as (λ _. HasLeaves g at (put ref (outer_of key bits (r ∷ rs))) (r ∷ l)) [
    | inl before ↦
        let out = not_before key bits r before in
        let way = behind_apart ref r (omega (arith, before, key_is)) in
        let tail : HasLeaves g at (put ref (outer_of key bits rs)) l = halves c key bits (limit r) high ref d ind key_is bits_is link rest h.1 top (λ i x read. sides (suc i) x read) (rw out at refs_is) in
        rw (out, way.0, way.1) (one leaf tail)
    | inr after ↦
        join c key bits high ref ind key_is bits_is link refs_is (parts c key bits key high d (one leaf rest) (omega (arith, after), h.1) (omega arith) (omega arith) sides top)
  ]
]
halves {g = g} {at = at} c key bits low high ref d ind key_is bits_is link (near {c = kid} {r = r} {rs = rs} {below = b} {l = l} ind' link' kids inside rest) h top sides refs_is = elim (sides 0 r refl) as (λ _. HasLeaves g at (put ref (outer_of key bits (r ∷ rs))) (b ++ l)) [
  | inl e ↦
      let in_r = lies_inside key bits r e in
      join c key bits high ref ind key_is bits_is link refs_is (parts c key bits key high d (near ind' link' kids inside rest) (in_r.0, h.1) (omega arith) (omega arith) sides top)
  | inr apart ↦ elim apart as (λ _. HasLeaves g at (put ref (outer_of key bits (r ∷ rs))) (b ++ l)) [
    | inl before ↦
        let out = not_before key bits r before in
        let pos = pow_pos r.keybits in
        let way = behind_apart ref r (omega (arith, before, key_is)) in
        let tail : HasLeaves g at (put ref (outer_of key bits rs)) l = halves c key bits (limit r) high ref d ind key_is bits_is link rest h.1 top (λ i x read. sides (suc i) x read) (rw out at refs_is) in
        rw (out, way.0, way.1) (near ind' (d.kept r.key (inl (omega (arith, before, pos))) ∙ link') (d.keep r.key kid link' b kids) inside tail)
    | inr after ↦
        join c key bits high ref ind key_is bits_is link refs_is (parts c key bits key high d (near ind' link' kids inside rest) (omega (arith, after), h.1) (omega arith) (omega arith) sides top)
  ]
]
halves {g = g} {at = at} c key bits low high ref d ind key_is bits_is link (far {r = r} {rs = rs} {below = b} {l = l} ind' link' inside rest) h top sides refs_is = elim (sides 0 r refl) as (λ _. HasLeaves g at (put ref (outer_of key bits (r ∷ rs))) (b ++ l)) [
  | inl e ↦
      let in_r = lies_inside key bits r e in
      join c key bits high ref ind key_is bits_is link refs_is (parts c key bits key high d (far ind' link' inside rest) (in_r.0, h.1) (omega arith) (omega arith) sides top)
  | inr apart ↦ elim apart as (λ _. HasLeaves g at (put ref (outer_of key bits (r ∷ rs))) (b ++ l)) [
    | inl before ↦
        let out = not_before key bits r before in
        let pos = pow_pos r.keybits in
        let way = behind_apart ref r (omega (arith, before, key_is)) in
        let tail : HasLeaves g at (put ref (outer_of key bits rs)) l = halves c key bits (limit r) high ref d ind key_is bits_is link rest h.1 top (λ i x read. sides (suc i) x read) (rw out at refs_is) in
        rw (out, way.0, way.1) (far ind' (d.kept r.key (inl (omega (arith, before, pos))) ∙ link') inside tail)
    | inr after ↦
        join c key bits high ref ind key_is bits_is link refs_is (parts c key bits key high d (far ind' link' inside rest) (omega (arith, after), h.1) (omega arith) (omega arith) sides top)
  ]
]
