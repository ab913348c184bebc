-- The text that tells a reply: its word, its numbers, and then its names or bytes.
use Rattle.std.specs.Prelude.{ℕ, List, [], ◌∷◌, ◌++◌, length, codes}
use Rattle.std.specs.Fmt.{decimal}
use Rattle.std.specs.List.{flat_map}
use Rattle.hex.specs.Hex.{encode_lower}
use Rattle.h2_command.specs.declared.reply.Reply.{Reply}
use Rattle.h2_command.specs.declared.reply.Reply.TheVariants.{Done, List as Listed, Dir, File, Handle, Got, Wrote, Bulk, Pfs, NoEntry, Exists, NotDir, IsDir, NotEmpty, Full, LinksFull, Loop, NoPfs, InUse, NoHandle, HandlesFull, Long, Running, NoSpace, Io, BadBlock, NoMemory}

-- the word that a reply begins with
abbrev pub word_of : Reply → List ℕ
word_of Done = codes "ok"
word_of (Listed names) = codes "list"
word_of (Dir number entries) = codes "dir"
word_of (File number links size) = codes "file"
word_of (Handle number) = codes "handle"
word_of (Got bytes) = codes "data"
word_of (Wrote count) = codes "wrote"
word_of (Bulk seen staged freed) = codes "bulk"
word_of (Pfs names) = codes "pfs"
word_of NoEntry = codes "no-entry"
word_of Exists = codes "exists"
word_of NotDir = codes "not-dir"
word_of IsDir = codes "is-dir"
word_of NotEmpty = codes "not-empty"
word_of Full = codes "full"
word_of LinksFull = codes "links-full"
word_of Loop = codes "loop"
word_of NoPfs = codes "no-pfs"
word_of (InUse handles) = codes "in-use"
word_of NoHandle = codes "no-handle"
word_of HandlesFull = codes "handles-full"
word_of Long = codes "long"
word_of (Running client) = codes "running"
word_of (NoSpace need free) = codes "no-space"
word_of (Io before after) = codes "io"
word_of (BadBlock place why) = codes "bad-block"
word_of NoMemory = codes "no-memory"

-- the numbers of a reply, with the words before them; of names and of bytes it is how many
abbrev pub numbers_of : Reply → List ℕ
numbers_of (Listed names) = codes " " ++ decimal (length names)
numbers_of (Dir number entries) = codes " inode " ++ (decimal number ++ (codes " entries " ++ decimal entries))
numbers_of (File number links size) = codes " inode " ++ (decimal number ++ (codes " links " ++ (decimal links ++ (codes " size " ++ decimal size))))
numbers_of (Handle number) = codes " " ++ decimal number
numbers_of (Got bytes) = codes " " ++ decimal (length bytes)
numbers_of (Wrote count) = codes " " ++ decimal count
numbers_of (Bulk seen staged freed) = codes " seen " ++ (decimal seen ++ (codes " staged " ++ (decimal staged ++ (codes " freed " ++ decimal freed))))
numbers_of (Pfs names) = codes " " ++ decimal (length names)
numbers_of (InUse handles) = codes " " ++ decimal handles
numbers_of (Running client) = codes " " ++ decimal client
numbers_of (NoSpace need free) = codes " " ++ (decimal need ++ (codes " " ++ decimal free))
numbers_of (BadBlock place why) = codes " " ++ decimal place
numbers_of _ = []

-- each name after a space
abbrev pub spaced : List (List ℕ) → List ℕ
spaced names = flat_map (λ name. 32 ∷ name) names

-- the bytes as lower hexadecimal digits after a space; of no byte nothing
abbrev pub digits_of : List ℕ → List ℕ
digits_of [] = []
digits_of (b ∷ bytes) = 32 ∷ encode_lower (b ∷ bytes)

-- the names or the bytes of a reply
abbrev pub items_of : Reply → List ℕ
items_of (Listed names) = spaced names
items_of (Pfs names) = spaced names
items_of (Got bytes) = digits_of bytes
items_of _ = []

-- the text of a reply
abbrev pub reply_text : Reply → List ℕ
reply_text reply = word_of reply ++ (numbers_of reply ++ items_of reply)
