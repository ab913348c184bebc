-- What the words after a command's word spell.
use Rattle.std.specs.Prelude.{◌≡◌, ◌≢◌, ◌⊎◌, ◌<◌, ◌^◌, ℕ, List, [], ◌∷◌, length}
use Rattle.h2_command.specs.declared.path.Path.{Path}
use Rattle.h2_dirkey.specs.PfsName.{IsPfsName}
use Rattle.h2_contents.specs.declared.payload.Payload.{Payload}
use Rattle.h2_script.specs.declared.fault.LineFault.{LineFault}
use Rattle.h2_script.specs.declared.fault.LineFault.TheVariants.{Word, Path as BadPath, Number, Payload as NoData, TooLong}
use Rattle.h2_script.specs.declared.number.Amount.TheVariants.{Few, Many}
use Rattle.h2_script.specs.Numbers.{IsNumber, IsAmount}
use Rattle.h2_script.specs.Paths.{SpellsPath, SpellsEntryPath}
use Rattle.h2_script.specs.Payloads.{SpellsPayload, IsFewBytes, IsFaultOfData}
use Rattle.h2_script.specs.Verbs.{Argument, EntryPath, AnyPath, PfsName, Handle, Place, Length, Datum}

-- the word is a number below the bound
abbrev pub IsNumberBelow : ℕ → List ℕ → ℕ → Type 0
IsNumberBelow bound word n = IsNumber word n × (n < bound)

-- one path with a name
abbrev pub OneEntry : List (List ℕ) → Path → Type 0
OneEntry args p = (a : List ℕ) × (args ≡ a ∷ []) × SpellsEntryPath a p

-- two paths with a name in one PFS
abbrev pub TwoEntries : List (List ℕ) → Path → Path → Type 0
TwoEntries args p q = (a b : List ℕ) × (args ≡ a ∷ b ∷ []) × SpellsEntryPath a p × SpellsEntryPath b q × (q.pfs ≡ p.pfs)

-- one path
abbrev pub OnePath : List (List ℕ) → Path → Type 0
OnePath args p = (a : List ℕ) × (args ≡ a ∷ []) × SpellsPath a p

-- the name of a PFS
abbrev pub OneName : List (List ℕ) → List ℕ → Type 0
OneName args name = (args ≡ name ∷ []) × IsPfsName name

-- the names of two PFSs
abbrev pub TwoNames : List (List ℕ) → List ℕ → List ℕ → Type 0
TwoNames args name other = (args ≡ name ∷ other ∷ []) × IsPfsName name × IsPfsName other

-- a handle
abbrev pub OneHandle : List (List ℕ) → ℕ → Type 0
OneHandle args handle = (a : List ℕ) × (args ≡ a ∷ []) × IsNumberBelow (2 ^ 32) a handle

-- a handle and a size
abbrev pub HandleAndSize : List (List ℕ) → ℕ → ℕ → Type 0
HandleAndSize args handle size = (a b : List ℕ) × (args ≡ a ∷ b ∷ []) × IsNumberBelow (2 ^ 32) a handle × IsNumberBelow (2 ^ 64) b size

-- a handle, a place in the file and a number of bytes that isn't too large
abbrev pub HandleAndRange : List (List ℕ) → ℕ → ℕ → ℕ → Type 0
HandleAndRange args handle off len = (a b c : List ℕ) × (args ≡ a ∷ b ∷ c ∷ []) × IsNumberBelow (2 ^ 32) a handle × IsNumberBelow (2 ^ 64) b off × IsAmount c (Few len)

-- a handle, a place in the file and bytes that aren't too many
abbrev pub HandleAndData : List (List ℕ) → ℕ → ℕ → Payload → Type 0
HandleAndData args handle off p = (a b c : List ℕ) × (args ≡ a ∷ b ∷ c ∷ []) × IsNumberBelow (2 ^ 32) a handle × IsNumberBelow (2 ^ 64) b off × SpellsPayload c p × IsFewBytes p

-- the word is what the argument is to be, where lengths may be too large
abbrev pub IsArgument : Argument → List ℕ → Type 0
IsArgument EntryPath word = (p : Path) × SpellsEntryPath word p
IsArgument AnyPath word = (p : Path) × SpellsPath word p
IsArgument PfsName word = IsPfsName word
IsArgument Handle word = (n : ℕ) × IsNumberBelow (2 ^ 32) word n
IsArgument Place word = (n : ℕ) × IsNumberBelow (2 ^ 64) word n
IsArgument Length word = (n : ℕ) × IsNumber word n
IsArgument Datum word = (p : Payload) × SpellsPayload word p

-- what a word is called that isn't
abbrev pub fault_of : Argument → LineFault
fault_of EntryPath = BadPath
fault_of AnyPath = BadPath
fault_of PfsName = BadPath
fault_of Handle = Number
fault_of Place = Number
fault_of Length = Number
fault_of Datum = NoData

-- the first word that isn't its argument has the fault
abbrev pub IsFirstBad : List Argument → List (List ℕ) → LineFault → Type 0
IsFirstBad [] words why = ⊥
IsFirstBad (kind ∷ kinds) [] why = ⊥
IsFirstBad (kind ∷ kinds) (word ∷ words) why = ((IsArgument kind word → ⊥) × (why ≡ fault_of kind)) ⊎ (IsArgument kind word × IsFirstBad kinds words why)

-- another number of words, or else the first bad word
abbrev pub IsFaultOfWords : List Argument → List (List ℕ) → LineFault → Type 0
IsFaultOfWords kinds words why = ((length words ≢ length kinds) × (why ≡ Word)) ⊎ ((length words ≡ length kinds) × IsFirstBad kinds words why)

-- two good paths name two PFSs
abbrev pub NameTwoPfss : List (List ℕ) → LineFault → Type 0
NameTwoPfss words why = (why ≡ BadPath) × ((a b : List ℕ) × (p q : Path) × (words ≡ a ∷ b ∷ []) × SpellsEntryPath a p × SpellsEntryPath b q × (q.pfs ≢ p.pfs))

-- a read that is good but for its length
abbrev pub AsksTooMuch : List (List ℕ) → LineFault → Type 0
AsksTooMuch words why = (why ≡ TooLong) × ((a b c : List ℕ) × (words ≡ a ∷ b ∷ c ∷ []) × IsArgument Handle a × IsArgument Place b × IsAmount c Many)

-- a write that is good but for the number of its bytes
abbrev pub WritesTooMuch : List (List ℕ) → LineFault → Type 0
WritesTooMuch words why = (why ≡ TooLong) × ((a b c : List ℕ) × (words ≡ a ∷ b ∷ c ∷ []) × IsArgument Handle a × IsArgument Place b × IsFaultOfData (SpellsPayload c) TooLong)
