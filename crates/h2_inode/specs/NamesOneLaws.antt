-- Each leaf names one root at most: which root is named after a call, and that it stays so over all calls.
use Rattle.std.specs.Prelude.{◌≡◌, ◌⊎◌, ℕ, true, false, None, refl}
use Rattle.std.proofs.Common.{sym, ◌∙◌, inl, inr, subst}
use Rattle.std.proofs.lemmas.Bool.{cases_Bool, cases_eq}
use Rattle.h2_set.specs.RefSet.{RefSet}
use Rattle.h2_set.specs.declared.set.Split.{Split}
use Rattle.h2_set.specs.Forest.{Forest, IsSound, IsRootOf}
use Rattle.h2_set.specs.Calls.{InPlace, Walks, ReadiesOnly, Unchanged, Alters, Stores, Makes}
use Rattle.h2_inode.specs.Nodes.{NamesOne, IsUnloaded, Brings, Seeks, Plants, Replaces}
use Rattle.h2_inode.specs.NodeLaws.{named_back, replaced_place}
use Rattle.h2_inode.specs.NamedLaws.{brings_bare}
use Rattle.h2_inode.specs.Loaded.{View}

-- what is named now is the root that came, or was named before
pub brings_named : (f g : Forest) (c top key d : ℕ) → Brings f g c → f.stands top ≡ true → IsRootOf g top key d → (d ≡ c) ⊎ IsRootOf f top key d
brings_named f g c top key d h stands is = elim (h.new d is.stands) [
  | inl e ↦ inl e
  | inr stood ↦ inr (named_back f g top key d (h.same top stands).place stood (h.same d stood).place is)
]

-- Two roots that one leaf names are one, right after a load or the making of an inode. In any sound forest they need not
-- be: what is said of a root, and which leaves it belongs to, may be said of a second one.

pub sought_one : (f g : Forest) (top key c d : ℕ) → Seeks f g top key c → f.stands top ≡ true → IsRootOf g top key d → d ≡ c
sought_one f g top key c d h stands is = elim (brings_named f g c top key d h.brings stands is) [ inl e ↦ e | inr before ↦ sym (h.loaded d before) ]

pub planted_one : (f g : Forest) (top key c d : ℕ) → Plants f g top key c → f.stands top ≡ true → IsUnloaded f top key → IsRootOf g top key d → d ≡ c
planted_one f g top key c d h stands none is = elim (brings_named f g c top key d h.brings stands is) [ inl e ↦ e | inr before ↦ absurd (none d before) ]

-- It stays so over all calls

-- what names a root stands, and is a root
above_stands : (f : Forest) (top key c : ℕ) → IsSound f → IsRootOf f top key c → (f.stands top ≡ true) × (f.root top ≡ top)
above_stands f top key c sound is = let own = sound.owner c top key is.stands ((is.belongs top key).1 (inl (refl, refl))) in (own.stands, own.root)

-- where no root comes, and what stands before and after stays in its place
pub rootless_one : (f g : Forest) → NamesOne f → IsSound g → ((m : ℕ) → g.stands m ≡ true → g.root m ≡ m → f.stands m ≡ true) → ((m : ℕ) → f.stands m ≡ true → g.stands m ≡ true → InPlace f g m) → NamesOne g
rootless_one f g names sound roots place top key c d p q =
    let above = above_stands g top key c sound p in
    let stood = roots top above.0 above.1 in
    let first = roots c p.stands p.root in
    let second = roots d q.stands q.root in
    names top key c d
    (named_back f g top key c (place top stood above.0) first (place c first p.stands) p)
    (named_back f g top key d (place top stood above.0) second (place d second q.stands) q)

pub walks_one : (f g : Forest) → NamesOne f → Walks f g → NamesOne g
walks_one f g names h = rootless_one f g names h.sound h.roots (λ m stood stands. (h.stays m stood).place)

pub readies_one : (f g : Forest) → NamesOne f → ReadiesOnly f g → NamesOne g
readies_one f g names h = rootless_one f g names h.sound (λ m stands root. h.none_new m stands) (λ m stood stands. (h.same m stood).place)

pub alters_one : (f g : Forest) (at : ℕ) → NamesOne f → Alters f g at → NamesOne g
alters_one f g at names h = rootless_one f g names h.sound (λ m stands root. h.none_new m stands) place
  where
    place : (m : ℕ) → f.stands m ≡ true → g.stands m ≡ true → InPlace f g m
    place m stood stands = elim (cases_eq (f.root m) (f.root at)) as (λ _. InPlace f g m) [ inl e ↦ (h.tree m stood e).place | inr ne ↦ (h.above m stood ne).place ]

pub stores_one : (f g : Forest) (at : ℕ) (s : RefSet) → NamesOne f → Stores f g at s → NamesOne g
stores_one f g at s names h = rootless_one f g names h.sound (λ m stands root. h.none_new m stands) place
  where
    place : (m : ℕ) → f.stands m ≡ true → g.stands m ≡ true → InPlace f g m
    place m stood stands = elim (cases_eq m at) as (λ _. InPlace f g m) [
      | inl e ↦ subst (λ n. InPlace f g n) (sym e) h.place
      | inr ne ↦ (h.others m stood ne (λ goes. let clash : true ≡ false = sym stands ∙ h.gone m stood (inl goes) in absurd (cc)) (λ goes. let clash : true ≡ false = sym stands ∙ h.gone m stood (inr goes) in absurd (cc))).place
    ]

pub replaces_one : (f g : Forest) (at : ℕ) (s : RefSet) → NamesOne f → Replaces f g at s → NamesOne g
replaces_one f g at s names h = rootless_one f g names h.sound (λ m stands root. h.none_new m stands) (replaced_place f g at s h)

-- the node that a split makes is no root
pub makes_one : (f g : Forest) (at c : ℕ) (set : RefSet) (split : Split) → IsSound f → f.stands at ≡ true → NamesOne f → Makes f g at c set split → NamesOne g
makes_one f g at c set split sound stood names h = rootless_one f g names h.sound roots place
  where
    place : (m : ℕ) → f.stands m ≡ true → g.stands m ≡ true → InPlace f g m
    place m was stands = elim (cases_eq m at) as (λ _. InPlace f g m) [
      | inl e ↦ subst (λ n. InPlace f g n) (sym e) h.place
      | inr ne ↦ (h.others m was ne).place
    ]

    no_root : g.root c ≡ c → ⊥
    no_root own =
        let child = (h.sound.node at h.place.stands).child split.key c h.child in
        let is : f.root at ≡ c = sym h.place.root ∙ sym child.root ∙ own in
        let clash : true ≡ false = sym (subst (λ m. f.stands m ≡ true) is (sound.top at stood).0) ∙ h.fresh in
        absurd (cc)

    roots : (m : ℕ) → g.stands m ≡ true → g.root m ≡ m → f.stands m ≡ true
    roots m stands root = elim (h.none_new m stands) as (λ _. f.stands m ≡ true) [
      | inl e ↦ absurd (no_root (subst (λ n. g.root n ≡ n) e root))
      | inr was ↦ was
    ]

module _ (f g : Forest) (top key c : ℕ) (sound : IsSound f) (names : NamesOne f) (brings : Brings f g c) (only : f.stands c ≡ false → (t k : ℕ) → IsRootOf g t k c → (t ≡ top) × (k ≡ key))
    (this : (d : ℕ) → IsRootOf g top key d → d ≡ c) where
  -- the forest as a view in which no root holds an inode and nothing is told
  abbrev seen : Forest → View
  seen x = record { forest = x; holds = λ m. None; tells = λ r. None }

  -- where one of two roots has come, both are that one
  one_came : (t k d e : ℕ) → f.stands d ≡ false → IsRootOf g t k d → IsRootOf g t k e → e ≡ d
  one_came t k d e gone p q =
      let is_c : d ≡ c = elim (brings.new d p.stands) [ inl same ↦ same | inr stood ↦ let clash : true ≡ false = sym stood ∙ gone in absurd (cc) ] in
      let at = only (subst (λ m. f.stands m ≡ false) is_c gone) t k (subst (λ m. IsRootOf g t k m) is_c p) in
      let second : IsRootOf g top key e = subst (λ n. IsRootOf g n key e) at.0 (subst (λ n. IsRootOf g t n e) at.1 q) in
      this e second ∙ sym is_c

  back : (t k d : ℕ) → f.stands t ≡ true → f.stands d ≡ true → IsRootOf g t k d → IsRootOf f t k d
  back t k d above stood p = named_back f g t k d (brings.same t above).place stood (brings.same d stood).place p

  pub brings_one : NamesOne g
  brings_one t k d e p q =
      let above = above_stands g t k d brings.sound p in
      elim (cases_Bool (f.stands t)) as (λ _. e ≡ d) [
        | inr gone ↦ absurd (brings_bare (seen f) (seen g) top key c sound brings only (λ m x y. refl) (λ r x is. is) t k gone above.0 d p)
        | inl stood ↦ elim (cases_Bool (f.stands d)) as (λ _. e ≡ d) [
          | inr gone ↦ one_came t k d e gone p q
          | inl first ↦ elim (cases_Bool (f.stands e)) as (λ _. e ≡ d) [
            | inr gone ↦ sym (one_came t k e d gone q p)
            | inl second ↦ names t k d e (back t k d stood first p) (back t k e stood second q)
          ]
        ]
      ]

-- what names the root that came stood before
named_above : (f g : Forest) (c top key : ℕ) → Brings f g c → IsRootOf g top key c → f.stands top ≡ true
named_above f g c top key h is =
    let own = h.sound.owner c top key is.stands ((is.belongs top key).1 (inl (refl, refl))) in
    elim (h.new top own.stands) as (λ _. f.stands top ≡ true) [ inl e ↦ absurd (own.other (is.root ∙ sym e)) | inr stood ↦ stood ]

pub seeks_one : (f g : Forest) (top key c : ℕ) → IsSound f → NamesOne f → Seeks f g top key c → NamesOne g
seeks_one f g top key c sound names h = brings_one f g top key c sound names h.brings h.only (λ d. sought_one f g top key c d h (named_above f g c top key h.brings h.named))

pub plants_one : (f g : Forest) (top key c : ℕ) → IsSound f → NamesOne f → IsUnloaded f top key → Plants f g top key c → NamesOne g
plants_one f g top key c sound names none h = brings_one f g top key c sound names h.brings (λ gone. h.only) (λ d. planted_one f g top key c d h (named_above f g c top key h.brings h.named) none)

pub unchanged_one : (f g : Forest) → NamesOne f → Unchanged f g → NamesOne g
unchanged_one f g names h = rootless_one f g names h.sound (λ m stands root. h.none_new m stands) (λ m stood stands. (h.same m stood).place)
