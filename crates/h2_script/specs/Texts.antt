-- The text of a history: a line for each reply, phase by phase, client by client, index by index.
use Rattle.std.specs.Prelude.{◌≡◌, ℕ, List, [], ◌∷◌, ◌++◌, codes, IsPermutation, IsSortedByKey}
use Rattle.std.specs.Fmt.{decimal}
use Rattle.std.specs.List.{flat_map}
use Rattle.std.specs.List.Sorted.{IsStableByKey}
use Rattle.std.specs.Ordering.{nat_cmp, ordering_then}
use Rattle.std.specs.declared.cmp.Ordering.{Ordering}
use Rattle.h2_command.specs.declared.history.Entry.{Entry}
use Rattle.h2_command.specs.declared.history.Item.{Item}
use Rattle.h2_command.specs.declared.history.Item.TheVariants.{Call, Mark}
use Rattle.h2_script.specs.ReplyTexts.{reply_text}

-- the line of a command: its client, its index, its reply, and a line feed
abbrev pub line_of : Entry → List ℕ
line_of e = decimal e.client ++ (codes " " ++ (decimal e.index ++ (codes " " ++ (reply_text e.reply ++ (10 ∷ [])))))

-- the command that an item is, if it is one
abbrev pub entry_in : Item → List Entry
entry_in (Call e) = e ∷ []
entry_in (Mark m) = []

-- the commands among the items, as they came
abbrev pub entries_of : List Item → List Entry
entries_of items = flat_map entry_in items

-- where a command stands in its script
abbrev pub place_of : Entry → ℕ × ℕ × ℕ
place_of e = (e.phase, e.client, e.index)

-- the phase decides, then the client, then the index
abbrev pub place_cmp : ℕ × ℕ × ℕ → ℕ × ℕ × ℕ → Ordering
place_cmp x y = ordering_then (ordering_then (nat_cmp x.0 y.0) (nat_cmp x.1 y.1)) (nat_cmp x.2 y.2)

-- the same commands by their places; those of one place, of which no run has two, stay as they came
pub record IsByPlace (came told : List Entry) : Type 0 where
  pub same : IsPermutation came told
  pub rises : IsSortedByKey place_of place_cmp told
  pub stays : IsStableByKey place_of place_cmp came told

-- the text of the items
abbrev pub IsText : List Item → List ℕ → Type 0
IsText items text = (told : List Entry) × IsByPlace (entries_of items) told × (text ≡ flat_map line_of told)
