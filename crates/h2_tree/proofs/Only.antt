-- A reference that leads to one leaf alone.
use Rattle.std.proofs.Common.{◌≡◌, ℕ, true, false, arith, refl, sym, ◌∙◌, ap, List, [], ◌∷◌, length, Some, subst, inl, inr, slice_get}
use Rattle.std.proofs.lemmas.Option.{slice_get_within}
use Rattle.h2_ref.specs.declared.reference.Ref.{Ref}
use Rattle.h2_set.specs.Ranges.{leads_on, holds, is_indirect}
use Rattle.h2_set.specs.Forest.{Forest, refs, loaded, told, LeavesOf, IsSound, Reaches, here, below}
use Rattle.h2_set.specs.Calls.{Alters}
use Rattle.h2_set.specs.RenewLaws.{like_at, Alike-length}
use Rattle.h2_tree.specs.Changes.{LeadsOnly, itself, down}
use Rattle.h2_tree.proofs.Collect.{last_leaf, last_below}
use Rattle.h2_set.specs.PathLaws.{same_holder}

-- a list of one
pub single : (rs : List Ref) (r : Ref) → length rs ≡ 1 → slice_get rs 0 ≡ Some r → rs ≡ r ∷ []
single [] r one read = absurd (omega (arith, one))
single (x ∷ []) r one read = let same : x ≡ r = (cc) in ap (λ (y : Ref). y ∷ []) same
single (x ∷ y ∷ ys) r one read = absurd (omega (arith, one))

-- the leaves of a node that has one reference, which leads to one leaf
pub sole_leaves : {f : Forest} {c i : ℕ} {leaf : Ref} → LeadsOnly f c i leaf → i ≡ 0 → length (refs f c) ≡ 1 → (b : List Ref) → LeavesOf f c b → b ≡ leaf ∷ []
sole_leaves {f} (itself {at = c} {r = r} i read is_leaf) first one b h =
    last_leaf h r (single (refs f c) r one (subst (λ z. slice_get (refs f c) z ≡ Some r) first read)) is_leaf
sole_leaves {f} (down {at = at} {c = c} {r = r} {leaf = leaf} i read ind link one' rest) first one b h =
    elim (last_below h r (single (refs f at) r one (subst (λ z. slice_get (refs f at) z ≡ Some r) first read)) ind) as (λ _. b ≡ leaf ∷ []) [
      | inl far ↦ let clash : told b ≡ loaded c = sym far ∙ link in cc
      | inr near ↦
          let same : near.0 ≡ c = cc (near.1, link) in
          sole_leaves rest refl one' b (subst (λ z. LeavesOf f z b) same near.2)
    ]

-- where a path begins in a node that has one reference, that one holds the key
first_holds : {f : Forest} {key c : ℕ} {r : Ref} → Reaches f key c (Some r) → length (refs f c) ≡ 1 → (q : Ref) → slice_get (refs f c) 0 ≡ Some q → holds key q ≡ true
first_holds {f} {key} (here {at = c} {r = r} i read in_r is_leaf) one q read_q =
    let within = slice_get_within (refs f c) i r read in
    let zero_is : i ≡ 0 = omega (arith, within, one) in
    let moved : slice_get (refs f c) 0 ≡ Some r = subst (λ z. slice_get (refs f c) z ≡ Some r) zero_is read in
    let same : r ≡ q = (cc) in
    subst (λ (y : Ref). holds key y ≡ true) same in_r
first_holds {f} {key} (below {at = c} {r = x} i read in_r ind link rest) one q read_q =
    let within = slice_get_within (refs f c) i x read in
    let zero_is : i ≡ 0 = omega (arith, within, one) in
    let moved : slice_get (refs f c) 0 ≡ Some x = subst (λ z. slice_get (refs f c) z ≡ Some x) zero_is read in
    let same : x ≡ q = (cc) in
    subst (λ (y : Ref). holds key y ≡ true) same in_r

-- each path through it leads to that leaf
pub only_reaches : {f : Forest} {at i : ℕ} {leaf : Ref} → IsSound f → f.stands at ≡ true → LeadsOnly f at i leaf → (key : ℕ) (q r : Ref) → slice_get (refs f at) i ≡ Some q → holds key q ≡ true → Reaches f key at (Some r) → r ≡ leaf
only_reaches {f} sound stands (itself {at = at} {r = leaf} i read is_leaf) key q r read_q in_q (here j read_r in_r leaf_r) =
    let same : r ≡ q = same_holder _ _ key (refs f at) i j q r (sound.node at stands).inside read_q read_r in_q in_r in
    let there : leaf ≡ q = (cc) in
    same ∙ sym there
only_reaches {f} sound stands (itself {at = at} {r = leaf} i read is_leaf) key q r read_q in_q (below {r = x} j read_x in_x ind link rest) =
    let same : x ≡ q = same_holder _ _ key (refs f at) i j q x (sound.node at stands).inside read_q read_x in_q in_x in
    let there : leaf ≡ q = (cc) in
    let clash : false ≡ true = sym is_leaf ∙ ap (λ (y : Ref). is_indirect y) (there ∙ sym same) ∙ ind in
    cc
only_reaches {f} sound stands (down {at = at} {c = c} {r = y} {leaf = leaf} i read ind' link' one rest') key q r read_q in_q (here j read_r in_r leaf_r) =
    let same : r ≡ q = same_holder _ _ key (refs f at) i j q r (sound.node at stands).inside read_q read_r in_q in_r in
    let there : y ≡ q = (cc) in
    let clash : false ≡ true = sym leaf_r ∙ ap (λ (z : Ref). is_indirect z) (same ∙ sym there) ∙ ind' in
    cc
only_reaches {f} sound stands (down {at = at} {c = c} {r = y} {leaf = leaf} i read ind' link' one rest') key q r read_q in_q (below {c = d} {r = x} j read_x in_x ind link rest) =
    let same : x ≡ q = same_holder _ _ key (refs f at) i j q x (sound.node at stands).inside read_q read_x in_q in_x in
    let there : y ≡ q = (cc) in
    let keys : x.key ≡ y.key = ap (λ (z : Ref). z.key) (same ∙ sym there) in
    let link_d : f.link at y.key ≡ loaded d = subst (λ z. f.link at z ≡ loaded d) keys link in
    let dc : d ≡ c = cc (link_d, link') in
    let rest_c : Reaches f key c (Some r) = subst (λ z. Reaches f key z (Some r)) dc rest in
    let child = (sound.node at stands).child y.key c link' in
    let first = first_of (refs f c) one in
    only_reaches sound child.stands rest' key first.0 r first.1 (first_holds rest_c one first.0 first.1) rest_c
  where
    first_of : (rs : List Ref) → length rs ≡ 1 → (x : Ref) × (slice_get rs 0 ≡ Some x)
    first_of [] e = absurd (omega (arith, e))
    first_of (x ∷ xs) e = (x, refl)

-- it leads there still when a node of its tree is altered
pub only_altered : {f h : Forest} {to at i : ℕ} {leaf : Ref} → IsSound f → Alters f h to → f.stands at ≡ true → f.root at ≡ f.root to → LeadsOnly f at i leaf → LeadsOnly h at i leaf
only_altered {f} {h} sound alters stands root (itself {at = at} {r = r} i read is_leaf) =
    let kept = alters.tree at stands root in
    let it = like_at (refs f at) (refs h at) kept.alike i r read in
    itself i (subst (λ (y : Ref). slice_get (refs h at) i ≡ Some y) (it.like.leaf is_leaf) it.read) is_leaf
only_altered {f} {h} sound alters stands root (down {at = at} {c = c} {r = r} i read ind link one rest) =
    let kept = alters.tree at stands root in
    let it = like_at (refs f at) (refs h at) kept.alike i r read in
    let child = (sound.node at stands).child r.key c link in
    let kid = alters.tree c child.stands (child.root ∙ root) in
    let link' : h.link at it.ref.key ≡ loaded c = ap (h.link at) it.like.key ∙ kept.link r.key ∙ link in
    down {r = it.ref} i it.read (ap leads_on it.like.kind ∙ ind) link' (Alike-length (refs f c) (refs h c) kid.alike ∙ one) (only_altered sound alters child.stands (child.root ∙ root) rest)
