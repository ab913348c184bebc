-- Laws of an image with entries laid over it.
use Rattle.std.proofs.Common.{◌≡◌, ◌⊎◌, ℕ, List, [], ◌∷◌, length, refl, sym, ◌∙◌, subst, inl, inr}
use Rattle.h2_num.specs.Places.{Holds, InRange, Places, Same, SameOutside}
use Rattle.h2_num.specs.PlaceLaws.{holds_too, in_range, outside, same_held}
use Rattle.h2_disk.specs.Laid.{laid, laid_inside, laid_elsewhere}
use Rattle.h2_checkpoint.specs.Queue.{Entry, IsAmong, InEntries, AreApart, overlay_all}

-- what a write leaves is the image with its bytes laid over it
pub overlay_is : (at : ℕ) (bytes : List ℕ) (i j : Places) → Holds at bytes j → SameOutside at (length bytes) i j → Same (laid at bytes i) j
overlay_is at bytes i j stands others k = elim (in_range at (length bytes) k) [
  | inl r ↦ same_held at bytes j (laid at bytes i) stands (laid_inside at bytes i) k r
  | inr out ↦ outside at (length bytes) i j others k out ∙ sym (outside at (length bytes) i (laid at bytes i) (laid_elsewhere at bytes i) k out)
]

pub overlay_same : (at : ℕ) (bytes : List ℕ) (i j : Places) → Same i j → Same (laid at bytes i) (laid at bytes j)
overlay_same at bytes i j same = overlay_is at bytes i (laid at bytes j) (laid_inside at bytes j) (record {
  before = λ k lt. (laid_elsewhere at bytes j).before k lt ∙ same k;
  after = λ k le. (laid_elsewhere at bytes j).after k le ∙ same k;
})

pub overlay_all_same : (entries : List Entry) (i j : Places) → Same i j → Same (overlay_all entries i) (overlay_all entries j)
unfolding overlay_all
overlay_all_same [] i j same = same
overlay_all_same (e ∷ entries) i j same = overlay_all_same entries (laid e.at e.bytes i) (laid e.at e.bytes j) (overlay_same e.at e.bytes i j same)

-- the first of the entries is written, and then the others
pub overlay_first : (e : Entry) (entries : List Entry) (i j : Places) → Holds e.at e.bytes j → SameOutside e.at (length e.bytes) i j → Same (overlay_all (e ∷ entries) i) (overlay_all entries j)
unfolding overlay_all
overlay_first e entries i j stands others = overlay_all_same entries (laid e.at e.bytes i) j (overlay_is e.at e.bytes i j stands others)

pub overlay_none : (image : Places) → Same (overlay_all [] image) image
unfolding overlay_all
overlay_none image k = refl

-- each byte is an entry's, or as in the image
pub overlay_others : (entries : List Entry) (image : Places) (k : ℕ) → InEntries entries k ⊎ (overlay_all entries image k ≡ image k)
unfolding overlay_all
overlay_others [] image k = inr refl
overlay_others (e ∷ entries) image k = split (overlay_others entries (laid e.at e.bytes image) k)
  where
    split : InEntries entries k ⊎ (overlay_all entries (laid e.at e.bytes image) k ≡ laid e.at e.bytes image k) → InEntries (e ∷ entries) k ⊎ (overlay_all (e ∷ entries) image k ≡ image k)
    split (inl (a, m, r)) = inl (a, inr m, r)
    split (inr same) = elim (in_range e.at (length e.bytes) k) [
      | inl r ↦ inl (e, inl refl, r)
      | inr out ↦ inr (same ∙ outside e.at (length e.bytes) image (laid e.at e.bytes image) (laid_elsewhere e.at e.bytes image) k out)
    ]

-- where the entries stand in an image, another one with the entries laid over it is the same, but where the two differ outside the entries
pub overlay_stands : (entries : List Entry) (image whole : Places) (k : ℕ) → ((e : Entry) → IsAmong entries e → Holds e.at e.bytes whole) → InEntries entries k ⊎ (image k ≡ whole k) → overlay_all entries image k ≡ whole k
unfolding overlay_all
overlay_stands [] image whole k all (inl q) = absurd q.1
overlay_stands [] image whole k all (inr e) = e
overlay_stands (e ∷ entries) image whole k all h = overlay_stands entries (laid e.at e.bytes image) whole k (λ a m. all a (inr m)) (split (in_range e.at (length e.bytes) k) h)
  where
    split : InRange e.at (length e.bytes) k ⊎ (InRange e.at (length e.bytes) k → ⊥) → InEntries (e ∷ entries) k ⊎ (image k ≡ whole k) → InEntries entries k ⊎ (laid e.at e.bytes image k ≡ whole k)
    split (inl r) h = inr (same_held e.at e.bytes (laid e.at e.bytes image) whole (laid_inside e.at e.bytes image) (all e (inl refl)) k r)
    split (inr out) (inr same) = inr (outside e.at (length e.bytes) image (laid e.at e.bytes image) (laid_elsewhere e.at e.bytes image) k out ∙ same)
    split (inr out) (inl (a, inl is, r)) = absurd (out (subst (λ (z : Entry). InRange z.at (length z.bytes) k) is r))
    split (inr out) (inl (a, inr m, r)) = inl (a, m, r)

-- entries that are apart all stand when they are laid over an image
pub overlay_holds : (entries : List Entry) (image : Places) → AreApart entries → (e : Entry) → IsAmong entries e → Holds e.at e.bytes (overlay_all entries image)
unfolding overlay_all
overlay_holds [] image apart e m = absurd m
overlay_holds (f ∷ entries) image apart e (inr m) = overlay_holds entries (laid f.at f.bytes image) apart.1 e m
overlay_holds (f ∷ entries) image apart e (inl is) = subst (λ (z : Entry). Holds z.at z.bytes (overlay_all entries (laid f.at f.bytes image))) (sym is)
    (holds_too f.at f.bytes (laid f.at f.bytes image) (overlay_all entries (laid f.at f.bytes image)) (laid_inside f.at f.bytes image)
    (λ k r. elim (overlay_others entries (laid f.at f.bytes image) k) [ inl q ↦ absurd (apart.0 k r q) | inr same ↦ same ]))
