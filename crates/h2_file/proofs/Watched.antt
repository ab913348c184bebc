-- The nodes of high bits on the paths of a few keys: how many there are, and how many of them aren't writable.
use Rattle.std.proofs.Common.{◌≡◌, ℕ, ◌+◌, ◌<◌, ◌≤◌, ◌^◌, Bool, true, false, arith, refl, sym, ◌∙◌, ap, cond, List, [], ◌∷◌, ◌++◌, length, Option, Some, subst, ◌⊎◌, inl, inr, slice_get, suc, zero}
use Rattle.std.proofs.lemmas.Bool.{cases_lt, cases_Bool}
use Rattle.h2_ref.specs.declared.reference.Ref.{Ref}
use Rattle.h2_set.specs.Ranges.{holds, is_indirect}
use Rattle.h2_set.specs.RefSet.{RefSet}
use Rattle.h2_set.specs.Forest.{Forest, refs, loaded, IsSound, Reaches, nowhere, here, below}
use Rattle.h2_set.specs.PathLaws.{in_holds, same_holder}
use Rattle.h2_set.specs.ChangeLaws.{same_or_not}
use Rattle.h2_tree.specs.Changes.{Prepares}

-- Lists of nodes

abbrev pub Among : ℕ → List ℕ → Type 0
Among m [] = ⊥
Among m (x ∷ l) = (x ≡ m) ⊎ Among m l

pub among_left : (m : ℕ) (xs ys : List ℕ) → Among m xs → Among m (xs ++ ys)
among_left m [] ys it = absurd it
among_left m (x ∷ xs) ys (inl e) = inl e
among_left m (x ∷ xs) ys (inr it) = inr (among_left m xs ys it)

pub among_right : (m : ℕ) (xs ys : List ℕ) → Among m ys → Among m (xs ++ ys)
among_right m [] ys it = it
among_right m (x ∷ xs) ys it = inr (among_right m xs ys it)

pub among_either : (m : ℕ) (xs ys : List ℕ) → Among m (xs ++ ys) → Among m xs ⊎ Among m ys
among_either m [] ys it = inr it
among_either m (x ∷ xs) ys (inl e) = inl (inl e)
among_either m (x ∷ xs) ys (inr it) = elim (among_either m xs ys it) as (λ _. Among m (x ∷ xs) ⊎ Among m ys) [
  | inl left ↦ inl (inr left)
  | inr right ↦ inr right
]

-- how many of them aren't writable
abbrev pub unwritten : (ℕ → Bool) → List ℕ → ℕ
unwritten w [] = 0
unwritten w (m ∷ l) = cond (w m) 0 1 + unwritten w l

cond_one : (b : Bool) → cond b 0 1 ≤ 1
cond_one true = omega arith
cond_one false = omega arith

pub unwritten_most : (w : ℕ → Bool) (l : List ℕ) → unwritten w l ≤ length l
unwritten_most w [] = omega arith
unwritten_most w (m ∷ l) = let one = cond_one (w m) in let rest = unwritten_most w l in let n : length (m ∷ l) ≡ suc (length l) = refl in omega (arith, one, rest, n)

pub unwritten_same : (v w : ℕ → Bool) (l : List ℕ) → ((m : ℕ) → Among m l → w m ≡ v m) → unwritten w l ≡ unwritten v l
unwritten_same v w [] each = refl
unwritten_same v w (m ∷ l) each = let first = each m (inl refl) in let rest = unwritten_same v w l (λ x it. each x (inr it)) in rw (first, rest) refl

cond_falls : (v w : Bool) → (v ≡ true → w ≡ true) → cond w 0 1 ≤ cond v 0 1
cond_falls true w on = rw (on refl) (omega arith)
cond_falls false w on = cond_one w

pub unwritten_falls : (v w : ℕ → Bool) (l : List ℕ) → ((m : ℕ) → Among m l → v m ≡ true → w m ≡ true) → unwritten w l ≤ unwritten v l
unwritten_falls v w [] on = omega arith
unwritten_falls v w (m ∷ l) on = let first = cond_falls (v m) (w m) (on m (inl refl)) in let rest = unwritten_falls v w l (λ x it. on x (inr it)) in omega (arith, first, rest)

-- a list without one of its nodes
record Without (m : ℕ) (l : List ℕ) : Type 0 where
  pub rest : List ℕ
  pub counted : (w : ℕ → Bool) → unwritten w l ≡ cond (w m) 0 1 + unwritten w rest
  pub kept : (x : ℕ) → (x ≡ m → ⊥) → Among x l → Among x rest
  pub from : (x : ℕ) → Among x rest → Among x l

without_one : (m : ℕ) (l : List ℕ) → Among m l → Without m l
without_one m [] it = absurd it
without_one m (x ∷ l) (inl e) = record {
  rest = l;
  counted = λ w. ap (λ z. cond (w z) 0 1 + unwritten w l) e;
  kept = λ y ne it. elim it as (λ _. Among y l) [ inl same ↦ absurd (ne (sym same ∙ e)) | inr there ↦ there ];
  from = λ y it. inr it;
}
without_one m (x ∷ l) (inr it) =
    let less = without_one m l it in
    record {
      rest = x ∷ less.rest;
      counted = λ w. let e = less.counted w in omega (arith, e);
      kept = λ y ne there. elim there as (λ _. Among y (x ∷ less.rest)) [ inl same ↦ inl same | inr later ↦ inr (less.kept y ne later) ];
      from = λ y there. elim there as (λ _. Among y (x ∷ l)) [ inl same ↦ inl same | inr later ↦ inr (less.from y later) ];
    }

-- nodes whose bits fall, so that no two are one
abbrev pub Falls : (ℕ → ℕ) → ℕ → List ℕ → Type 0
Falls bits b [] = Unit {0}
Falls bits b (m ∷ l) = (bits m < b) × Falls bits (bits m) l

falls_below : (bits : ℕ → ℕ) (b : ℕ) (l : List ℕ) → Falls bits b l → (m : ℕ) → Among m l → bits m < b
falls_below bits b [] falls m it = absurd it
falls_below bits b (x ∷ l) falls m (inl e) = let less = falls.0 in let same = ap bits e in omega (arith, less, same)
falls_below bits b (x ∷ l) falls m (inr it) = let less = falls.0 in let rest = falls_below bits (bits x) l falls.1 m it in omega (arith, less, rest)

-- each of the nodes was writable, or is one of the watched ones, which became so
pub fallen : (v w : ℕ → Bool) (bits : ℕ → ℕ) (b : ℕ) (way l : List ℕ) → Falls bits b way → ((m : ℕ) → Among m way → (v m ≡ true) ⊎ (Among m l × (w m ≡ true))) → ((m : ℕ) → Among m l → v m ≡ true → w m ≡ true) → unwritten v way + unwritten w l ≤ unwritten v l
fallen v w bits b [] l falls each on = let less = unwritten_falls v w l on in omega (arith, less)
fallen v w bits b (m ∷ way) l falls each on = elim (cases_Bool (v m)) as (λ _. unwritten v (m ∷ way) + unwritten w l ≤ unwritten v l) [
  | inl was ↦
      let rest = fallen v w bits (bits m) way l falls.1 (λ x it. each x (inr it)) on in
      let none : ◌≡◌ {A = ℕ} (cond (v m) 0 1) 0 = rw was refl in
      omega (arith, rest, none)
  | inr not ↦ elim (each m (inl refl)) as (λ _. unwritten v (m ∷ way) + unwritten w l ≤ unwritten v l) [
    | inl was ↦ absurd (let clash : true ≡ false = sym was ∙ not in cc)
    | inr now ↦
        let less = without_one m l now.0 in
        let other : (x : ℕ) → Among x way → x ≡ m → ⊥ = λ x it e. let below_m = falls_below bits (bits m) way falls.1 x it in let same = ap bits e in omega (arith, below_m, same) in
        let rest = fallen v w bits (bits m) way less.rest falls.1 (λ x it. elim (each x (inr it)) as (λ _. (v x ≡ true) ⊎ (Among x less.rest × (w x ≡ true))) [
          | inl was ↦ inl was
          | inr there ↦ inr (less.kept x (other x it) there.0, there.1)
        ]) (λ x it. on x (less.from x it)) in
        let before = less.counted v in
        let after = less.counted w in
        let one : ◌≡◌ {A = ℕ} (cond (v m) 0 1) 1 = rw not refl in
        let none : ◌≡◌ {A = ℕ} (cond (w m) 0 1) 0 = rw now.1 refl in
        omega (arith, rest, before, after, one, none)
  ]
]

-- The nodes of at least 20 bits on a path

pub record HighPath (f : Forest) (key at : ℕ) : Type 0 where
  pub list : List ℕ
  pub next : (p i : ℕ) (r : Ref) → (p ≡ at) ⊎ Among p list → slice_get (refs f p) i ≡ Some r → holds key r ≡ true → is_indirect r ≡ true → 20 ≤ r.keybits → (c : ℕ) × (f.link p r.key ≡ loaded c) × Among c list
  pub stands : (m : ℕ) → Among m list → f.stands m ≡ true

-- and how many these are
pub record ShortPath (f : Forest) (key at : ℕ) : Type 0 where
  pub high : HighPath f key at
  pub short : length high.list + 20 ≤ f.bits at

pub high_path : {f : Forest} {key at : ℕ} {o : Option Ref} → IsSound f → Reaches f key at o → f.stands at ≡ true → 20 ≤ f.bits at → ShortPath f key at
high_path {f} {key} sound (nowhere {at = at} miss) stands wide = record {
  high = record {
    list = [];
    next = λ p i r where_p read in_r ind big. elim where_p as (λ _. (c : ℕ) × (f.link p r.key ≡ loaded c) × Among c []) [
      | inl e ↦ absurd (let out = miss i r (subst (λ z. slice_get (refs f z) i ≡ Some r) e read) in let clash : true ≡ false = sym in_r ∙ out in cc)
      | inr none ↦ absurd none
    ];
    stands = λ m it. absurd it;
  };
  short = omega (arith, wide);
}
high_path {f} {key} sound (here {at = at} {r = q} j read_q in_q leaf) stands wide = record {
  high = record {
    list = [];
    next = λ p i r where_p read in_r ind big. elim where_p as (λ _. (c : ℕ) × (f.link p r.key ≡ loaded c) × Among c []) [
      | inl e ↦ absurd (
          let there : slice_get (refs f at) i ≡ Some r = subst (λ z. slice_get (refs f z) i ≡ Some r) e read in
          let same : r ≡ q = same_holder _ _ key (refs f at) j i q r (sound.node at stands).inside read_q there in_q in_r in
          let clash : true ≡ false = sym ind ∙ (ap (λ (x : Ref). is_indirect x) same ∙ leaf) in
          cc)
      | inr none ↦ absurd none
    ];
    stands = λ m it. absurd it;
  };
  short = omega (arith, wide);
}
high_path {f} {key} sound (below {at = at} {c = c} {r = q} j read_q in_q ind_q link rest) stands wide =
    let node = sound.node at stands in
    let kid = node.child q.key c link in
    let bits_c = node.bits j c q read_q ind_q link in
    let same_at : (i : ℕ) (r : Ref) → slice_get (refs f at) i ≡ Some r → holds key r ≡ true → r ≡ q = λ i r read in_r. same_holder _ _ key (refs f at) j i q r node.inside read_q read in_q in_r in
    elim (cases_lt q.keybits 20) as (λ _. ShortPath f key at) [
      | inl small ↦ record {
        high = record {
          list = [];
          next = λ p i r where_p read in_r ind big. elim where_p as (λ _. (d : ℕ) × (f.link p r.key ≡ loaded d) × Among d []) [
            | inl e ↦ absurd (
                let there : slice_get (refs f at) i ≡ Some r = subst (λ z. slice_get (refs f z) i ≡ Some r) e read in
                let same = ap (λ (x : Ref). x.keybits) (same_at i r there in_r) in
                omega (arith, same, small, big))
            | inr none ↦ absurd none
          ];
          stands = λ m it. absurd it;
        };
        short = omega (arith, wide);
      }
      | inr large ↦
          let more = high_path sound rest kid.stands (omega (arith, bits_c, large)) in
          let fewer = kid.fewer in
          let most = more.short in
          let n : length (c ∷ more.high.list) ≡ suc (length more.high.list) = refl in
          record {
            high = record {
              list = c ∷ more.high.list;
              next = λ p i r where_p read in_r ind big. elim where_p as (λ _. (d : ℕ) × (f.link p r.key ≡ loaded d) × Among d (c ∷ more.high.list)) [
                | inl e ↦
                    let there : slice_get (refs f at) i ≡ Some r = subst (λ z. slice_get (refs f z) i ≡ Some r) e read in
                    let same = same_at i r there in_r in
                    let link_p : f.link p r.key ≡ loaded c = ap (f.link p) (ap (λ (x : Ref). x.key) same) ∙ ap (λ z. f.link z q.key) e ∙ link in
                    (c, link_p, inl refl)
                | inr there ↦
                    let where_c : (p ≡ c) ⊎ Among p more.high.list = elim there as (λ _. (p ≡ c) ⊎ Among p more.high.list) [ inl e ↦ inl (sym e) | inr later ↦ inr later ] in
                    let it = more.high.next p i r where_c read in_r ind big in
                    (it.0, it.1, inr it.2)
              ];
              stands = λ m it. elim it as (λ _. f.stands m ≡ true) [
                | inl e ↦ subst (λ z. f.stands z ≡ true) e kid.stands
                | inr later ↦ more.high.stands m later
              ];
            };
            short = omega (arith, most, fewer, n);
          }
    ]

-- each node of the tree with so many bits that has the key in its range is one of them
module _ (f : Forest) (key at : ℕ) (sound : IsSound f) (path : HighPath f key at) (own : f.root at ≡ at) where
  pub on_high : (n m : ℕ) → 64 ≤ f.bits m + n → f.stands m ≡ true → f.root m ≡ at → (m ≡ at → ⊥) → f.low m ≤ key → key < f.low m + 2 ^ f.bits m → 20 ≤ f.bits m → Among m path.list
  on_high zero m few stands root other low high big = absurd (let slope = (sound.node m stands).slope in omega (arith, few, slope))
  on_high (suc n) m few stands root other low high big =
      let up = sound.parent m stands (λ e. other (sym e ∙ root)) in
      let p = up.parent in
      let node = sound.node p up.stands in
      let kid = node.child (f.low m) m up.link in
      let named = node.named (f.low m) m up.link in
      let link : f.link p named.ref.key ≡ loaded m = ap (f.link p) named.key ∙ up.link in
      let bits = node.bits named.place m named.ref named.read named.indirect link in
      let in_ref = in_holds key named.ref (omega (arith, named.key, low)) (omega (arith, named.key, high, ap (λ z. 2 ^ z) bits)) in
      let where_p : (p ≡ at) ⊎ Among p path.list = elim (same_or_not p at) as (λ _. (p ≡ at) ⊎ Among p path.list) [
        | inl e ↦ inl e
        | inr ne ↦ inr (on_high n p (omega (arith, few, kid.fewer)) up.stands (sym kid.root ∙ root) ne (omega (arith, kid.above, low)) (omega (arith, kid.within, high)) (omega (arith, kid.fewer, big)))
      ] in
      let it = path.next p named.place named.ref where_p named.read in_ref named.indirect (omega (arith, bits, big)) in
      let same : it.0 ≡ m = cc (it.1, link) in
      subst (λ z. Among z path.list) same it.2

-- The watched nodes: each node of so many bits that has the key in its range and isn't writable is one of them

pub record Watched (f : Forest) (at : ℕ) (l : List ℕ) (key : ℕ) : Type 0 where
  pub all : (m : ℕ) → f.stands m ≡ true → f.root m ≡ at → (m ≡ at → ⊥) → f.low m ≤ key → key < f.low m + 2 ^ f.bits m → 20 ≤ f.bits m → f.writable m ≡ false → Among m l

pub watched_from : (f : Forest) (at key : ℕ) (l : List ℕ) → IsSound f → f.root at ≡ at → (path : HighPath f key at) → ((m : ℕ) → Among m path.list → Among m l) → Watched f at l key
watched_from f at key l sound own path all_in = record { all = λ m stands root other low high big not. all_in m (on_high f key at sound path own 64 m (omega arith) stands root other low high big) }

-- while nodes are loaded, the paths that were loaded get no others
abbrev pub path_prepared : (f t : Forest) (key at : ℕ) → f.stands at ≡ true → Prepares f t → HighPath f key at → HighPath t key at
path_prepared f t key at stands prepares path = record {
  list = path.list;
  next = λ p i r where_p read in_r ind big.
      let st : f.stands p ≡ true = elim where_p as (λ _. f.stands p ≡ true) [ inl e ↦ subst (λ z. f.stands z ≡ true) (sym e) stands | inr it ↦ path.stands p it ] in
      let was : slice_get (refs f p) i ≡ Some r = ap (λ (s : RefSet). slice_get s.refs i) (sym (prepares.sets p st)) ∙ read in
      let it = path.next p i r where_p was in_r ind big in
      (it.0, (prepares.stays p st).near r.key it.0 it.1, it.2);
  stands = λ m it. (prepares.stays m (path.stands m it)).place.stands;
}

pub watched_prepared : (f t : Forest) (at key : ℕ) (l : List ℕ) → f.root at ≡ at → f.stands at ≡ true → Prepares f t → HighPath f key at → Watched f at l key → Watched t at l key
watched_prepared f t at key l own stands_at prepares path watched = record {
  all = λ m stands root other low high big not.
      let on = on_high t key at prepares.sound (path_prepared f t key at stands_at prepares path) ((prepares.stays at stands_at).place.root ∙ own) 64 m (omega arith) stands root other low high big in
      let st = path.stands m on in
      let place = (prepares.stays m st).place in
      watched.all m st (sym place.root ∙ root) other (omega (arith, place.low, low)) (let e = ap (λ z. 2 ^ z) place.bits in omega (arith, place.low, e, high)) (omega (arith, place.bits, big)) (sym (prepares.writable m st) ∙ not);
}
