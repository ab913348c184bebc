-- What a disk in memory notes: what stood there at first, and its writes and syncs. The newest entry is the last of the list.
use Rattle.std.specs.Prelude.{◌≡◌, ◌≤◌, ℕ, ◌+◌, ◌^◌, List, [], ◌∷◌, length, reverse}
use Rattle.h2_num.specs.Places.{Places}
use Rattle.h2_disk.specs.Laid.{laid}
use Rattle.h2_disk.specs.Trace.{Trace, Opened, Wrote, Synced}
use Rattle.h2_disk.specs.declared.entry.Entry.{Entry}
use Rattle.h2_disk.specs.declared.entry.Entry.TheVariants.{Laid, Write, Sync}

-- an image after an entry more
abbrev pub laid_by : Entry → Places → Places
laid_by (Laid at bytes) below = laid at bytes below
laid_by (Write began at bytes) below = laid at bytes below
laid_by (Sync done) below = below

-- the image after entries, the newest first
abbrev pub image_after : List Entry → Places
image_after [] = λ k. 0
image_after (entry ∷ entries) = laid_by entry (image_after entries)

-- the trace after entries, the newest first
abbrev pub trace_after : List Entry → Trace
trace_after [] = Opened (λ k. 0)
trace_after (Laid at bytes ∷ entries) = Opened (laid at bytes (image_after entries))
trace_after (Write began at bytes ∷ entries) = Wrote began at bytes (trace_after entries)
trace_after (Sync done ∷ entries) = Synced done (image_after entries) (trace_after entries)

-- the image that a record has
abbrev pub image_of : List Entry → Places
image_of entries = image_after (reverse entries)

-- the trace that a record has
abbrev pub trace_of : List Entry → Trace
trace_of entries = trace_after (reverse entries)

-- the place past the last byte of an entry
abbrev pub end_of : Entry → ℕ
end_of (Laid at bytes) = at + length bytes
end_of (Write began at bytes) = at + length bytes
end_of (Sync done) = 0

-- the bytes of an entry lie on the disk
abbrev pub IsOnDisk : Entry → Type 0
IsOnDisk entry = end_of entry ≤ 2 ^ 34

-- the moment by which an entry counts
abbrev pub moment_of : Entry → ℕ
moment_of (Laid at bytes) = 0
moment_of (Write began at bytes) = began
moment_of (Sync done) = done

-- the entry is a write
abbrev pub IsWrite : Entry → Type 0
IsWrite (Laid at bytes) = ⊥
IsWrite (Write began at bytes) = Unit {0}
IsWrite (Sync done) = ⊥

-- a disk at moment 0 with an image
pub record StartsWith (image : Places) (entries : List Entry) (moment : ℕ) : Type 0 where
  pub image_is : image_of entries ≡ image
  pub trace_is : trace_of entries ≡ Opened image
  pub moment_is : moment ≡ 0
