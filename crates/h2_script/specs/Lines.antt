-- What a line of a script is, and what is wrong with it first.
use Rattle.std.specs.Prelude.{◌≡◌, ◌≢◌, ◌⊎◌, ◌<◌, ◌+◌, ◌==◌, ℕ, List, [], ◌∷◌, codes}
use Rattle.std.specs.List.{slice_split}
use Rattle.std.specs.Str.{IsUtf8}
use Rattle.std.specs.Str.Lines.{strip_carriage_return}
use Rattle.h2_script.specs.declared.line.Line.{Line}
use Rattle.h2_script.specs.declared.line.Line.TheVariants.{Skipped, PhaseEnd, Call}
use Rattle.h2_script.specs.declared.fault.LineFault.{LineFault}
use Rattle.h2_script.specs.declared.fault.LineFault.TheVariants.{Utf8, Client}
use Rattle.h2_script.specs.Commands.{SpellsCommand, IsFaultOfCommand}

-- the lines of a script: a line feed parts two
abbrev pub lines_of : List ℕ → List (List ℕ)
lines_of bytes = slice_split (λ b. b == 10) bytes

-- the words of a line: each space parts two
abbrev pub words_of : List ℕ → List (List ℕ)
words_of text = slice_split (λ b. b == 32) text

-- nothing, or a text that begins with `#`
abbrev pub IsSkipped : List ℕ → Type 0
IsSkipped text = (text ≡ []) ⊎ ((rest : List ℕ) × (text ≡ 35 ∷ rest))

-- the digit of one of 8 clients
abbrev pub IsClient : List ℕ → ℕ → Type 0
IsClient word client = (client < 8) × (word ≡ (48 + client) ∷ [])

-- the text is a client's digit and these words
abbrev pub IsOfClient : List ℕ → ℕ → List (List ℕ) → Type 0
IsOfClient text client words = (digit : List ℕ) × (words_of text ≡ digit ∷ words) × IsClient digit client

-- what the text of a line is
abbrev pub SpellsText : List ℕ → Line → Type 0
SpellsText text Skipped = IsSkipped text
SpellsText text PhaseEnd = text ≡ codes "---"
SpellsText text (Call client command) = (words : List (List ℕ)) × IsOfClient text client words × SpellsCommand words command

-- what a line is, whose last carriage return doesn't count
abbrev pub SpellsLine : List ℕ → Line → Type 0
SpellsLine line l = IsUtf8 (strip_carriage_return line) × SpellsText (strip_carriage_return line) l

-- the text is no line that is skipped or ends a phase, and begins with no client
pub record HasNoClient (text : List ℕ) : Type 0 where
  pub is_read : IsSkipped text → ⊥
  pub goes_on : text ≢ codes "---"
  pub no_client : (client : ℕ) (words : List (List ℕ)) → IsOfClient text client words → ⊥

-- the first fault of the text of a line
abbrev pub IsFaultOfText : List ℕ → LineFault → Type 0
IsFaultOfText text why = (HasNoClient text × (why ≡ Client)) ⊎ ((client : ℕ) × (words : List (List ℕ)) × IsOfClient text client words × IsFaultOfCommand words why)

-- the first fault of a line
abbrev pub IsFaultOfLine : List ℕ → LineFault → Type 0
IsFaultOfLine line why = ((IsUtf8 (strip_carriage_return line) → ⊥) × (why ≡ Utf8)) ⊎ (IsUtf8 (strip_carriage_return line) × IsFaultOfText (strip_carriage_return line) why)
