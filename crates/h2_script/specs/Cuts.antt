-- Words that a colon parts.
use Rattle.std.specs.Prelude.{◌≡◌, ◌≢◌, ℕ, List, ◌∷◌, ◌++◌, All}

-- the code of a colon
abbrev pub colon : ℕ
colon = 58

-- no byte of the text is a colon
abbrev pub HasNoColon : List ℕ → Type 0
HasNoColon text = All (λ b. b ≢ colon) text

-- the first colon of the word stands between the two parts
pub record IsCut (word before after : List ℕ) : Type 0 where
  pub word_is : word ≡ before ++ colon ∷ after
  pub first : HasNoColon before
