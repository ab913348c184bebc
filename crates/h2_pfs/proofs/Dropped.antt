-- The list of PFSs without the one whose leaf went out.
use Rattle.std.proofs.Common.{◌≡◌, ℕ, ◌<◌, Bool, true, false, arith, refl, ◌∙◌, ap, List, [], ◌∷◌, suc, zero}
use Rattle.std.specs.Prelude.{◌==◌, ◌≢◌, All, AllPairs}
use Rattle.std.proofs.lemmas.Nat.{pow_pos}
use Rattle.std.proofs.lemmas.Bool.Decides.{nat_tests}
use Rattle.h2_ref.specs.declared.reference.Ref.{Ref}
use Rattle.h2_set.specs.Ranges.{Rising, limit, without}
use Rattle.h2_inode.specs.Access.{OneByOne}
use Rattle.h2_inode.specs.PfsList.{ListedPfs}
use Rattle.h2_pfs.specs.Listing.{without_id}

-- what holds of the references above a key
above_carried : (P Q : Ref → ListedPfs → Type 0) (key low high : ℕ) (rs : List Ref) (ps : List ListedPfs) → Rising low high rs → key < low → ((r : Ref) (p : ListedPfs) → (r.key ≡ key → ⊥) → P r p → Q r p) → OneByOne P rs ps → OneByOne Q rs ps
above_carried P Q key low high [] [] rising above step all = tt
above_carried P Q key low high [] (p ∷ ps) rising above step all = all
above_carried P Q key low high (r ∷ rs) [] rising above step all = all
above_carried P Q key low high (r ∷ rs) (p ∷ ps) rising above step all =
    let pos = pow_pos r.keybits in
    (step r p (λ e. omega (arith, e, rising.0, above)) all.0, above_carried P Q key (limit r) high rs ps rising.1 (omega (arith, rising.0, above, pos)) step all.1)

same_key : (m n : ℕ) → (m == n) ≡ true → m ≡ n
same_key m n e = grind (arith, nat_tests)

other_key : (m n : ℕ) → (m == n) ≡ false → m ≡ n → ⊥
other_key m n e = grind (arith, nat_tests)

-- what holds of the others, one by one
pub each_without : (P Q : Ref → ListedPfs → Type 0) (key low high : ℕ) (rs : List Ref) (ps : List ListedPfs) → Rising low high rs → ((r : Ref) (p : ListedPfs) → P r p → p.id ≡ r.key) → ((r : Ref) (p : ListedPfs) → (r.key ≡ key → ⊥) → P r p → Q r p) → OneByOne P rs ps → OneByOne Q (without key rs) (without_id key ps)
each_without P Q key low high [] [] rising ids step all = tt
each_without P Q key low high [] (p ∷ ps) rising ids step all = absurd all
each_without P Q key low high (r ∷ rs) [] rising ids step all = absurd all
each_without P Q key low high (r ∷ rs) (p ∷ ps) rising ids step all = decide (r.key == key) refl (each_without P Q key (limit r) high rs ps rising.1 ids step all.1)
  where
    decide : (b : Bool) → (r.key == key) ≡ b → OneByOne Q (without key rs) (without_id key ps) → OneByOne Q (without key (r ∷ rs)) (without_id key (p ∷ ps))
    decide true e rest =
        let same = same_key r.key key e in
        let pos = pow_pos r.keybits in
        let e' : (p.id == key) ≡ true = ap (λ z. z == key) (ids r p all.0) ∙ e in
        rw (e, e') (above_carried P Q key (limit r) high rs ps rising.1 (omega (arith, same, pos)) step all.1)
    decide false e rest =
        let e' : (p.id == key) ≡ false = ap (λ z. z == key) (ids r p all.0) ∙ e in
        rw (e, e') (step r p (other_key r.key key e) all.0, rest)

-- the first of a list and the others
pub all_head : (P : ListedPfs → Type 0) (p : ListedPfs) (ps : List ListedPfs) → All P (p ∷ ps) → P p
all_head P p ps all = all 0 p (omega arith)

pub all_tail : (P : ListedPfs → Type 0) (p : ListedPfs) (ps : List ListedPfs) → All P (p ∷ ps) → All P ps
all_tail P p ps all k d lt = all (suc k) d (omega (arith, lt))

pub all_more : (P : ListedPfs → Type 0) (p : ListedPfs) (ps : List ListedPfs) → P p → All P ps → All P (p ∷ ps)
all_more P p ps here all zero d lt = here
all_more P p ps here all (suc k) d lt = all k d (omega (arith, lt))

pub all_without : (P : ListedPfs → Type 0) (key : ℕ) (ps : List ListedPfs) → All P ps → All P (without_id key ps)
all_without P key [] all = all
all_without P key (p ∷ ps) all = decide (p.id == key) refl (all_without P key ps (all_tail P p ps all))
  where
    decide : (b : Bool) → (p.id == key) ≡ b → All P (without_id key ps) → All P (without_id key (p ∷ ps))
    decide true e rest = rw e (all_tail P p ps all)
    decide false e rest = rw e (all_more P p (without_id key ps) (all_head P p ps all) rest)

abbrev pub Differ : List ListedPfs → Type 0
Differ ps = AllPairs (λ (p q : ListedPfs). p.name ≢ q.name) ps

pub pairs_head : (p : ListedPfs) (ps : List ListedPfs) → Differ (p ∷ ps) → All (λ (q : ListedPfs). p.name ≢ q.name) ps
pairs_head p ps all k d lt = all 0 (suc k) d (omega arith) (omega (arith, lt))

pub pairs_tail : (p : ListedPfs) (ps : List ListedPfs) → Differ (p ∷ ps) → Differ ps
pairs_tail p ps all i j d lt within = all (suc i) (suc j) d (omega (arith, lt)) (omega (arith, within))

pub pairs_more : (p : ListedPfs) (ps : List ListedPfs) → All (λ (q : ListedPfs). p.name ≢ q.name) ps → Differ ps → Differ (p ∷ ps)
pairs_more p ps here all zero zero d lt within = absurd (omega (arith, lt))
pairs_more p ps here all zero (suc j) d lt within = here j d (omega (arith, within))
pairs_more p ps here all (suc i) zero d lt within = absurd (omega (arith, lt))
pairs_more p ps here all (suc i) (suc j) d lt within = all i j d (omega (arith, lt)) (omega (arith, within))

pub pairs_without : (key : ℕ) (ps : List ListedPfs) → Differ ps → Differ (without_id key ps)
pairs_without key [] all = all
pairs_without key (p ∷ ps) all = decide (p.id == key) refl (pairs_without key ps (pairs_tail p ps all))
  where
    decide : (b : Bool) → (p.id == key) ≡ b → Differ (without_id key ps) → Differ (without_id key (p ∷ ps))
    decide true e rest = rw e (pairs_tail p ps all)
    decide false e rest = rw e (pairs_more p (without_id key ps) (all_without (λ (q : ListedPfs). p.name ≢ q.name) key ps (pairs_head p ps all)) rest)
