-- What a disk went through, and what a power cut may leave of it.
use Rattle.std.specs.Prelude.{◌≡◌, ◌⊎◌, ℕ, List, [], ◌∷◌, length, nat_le, max, if◌then◌else◌}
use Rattle.h2_num.specs.Places.{Places, places, from_place, InRange, SameBelow, SameOutside, Same, Holds}

-- An image, and then the writes that began, well or not, and the syncs that succeeded, the newest outermost, each with its moment.
pub data Trace : Type 0 where
  Opened : (image : Places) → Trace
  -- bytes began to be written at a place
  Wrote : (began at : ℕ) (bytes : List ℕ) → Trace → Trace
  -- a sync was done, and this was what a read gave
  Synced : (done : ℕ) (image : Places) → Trace → Trace

-- a call that a trace has: a write that began, well or not, or a sync that was done
pub data Call : Type 0 where
  Write : (began at : ℕ) (bytes : List ℕ) → Call
  Sync : (done : ℕ) (image : Places) → Call

-- a trace after further calls, the newest first
abbrev pub after : List Call → Trace → Trace
after [] t = t
after (Write began at bytes ∷ calls) t = Wrote began at bytes (after calls t)
after (Sync done image ∷ calls) t = Synced done image (after calls t)

-- the moment by which all of it was done
abbrev pub latest : Trace → ℕ
latest (Opened image) = 0
latest (Wrote began at bytes t) = max began (latest t)
latest (Synced done image t) = max done (latest t)

-- what went on up to a moment
abbrev pub up_to : ℕ → Trace → Trace
up_to m (Opened image) = Opened image
up_to m (Wrote began at bytes t) = if nat_le began m then Wrote began at bytes t else up_to m t
up_to m (Synced done image t) = if nat_le done m then Synced done image t else up_to m t

-- the durable image: what a read gave when the last sync ended
abbrev pub durable : Trace → Places
durable (Opened image) = image
durable (Wrote began at bytes t) = durable t
durable (Synced done image t) = image

-- the byte was written since the last sync
abbrev pub IsWritten : Trace → ℕ → Type 0
IsWritten (Opened image) k = ⊥
IsWritten (Wrote began at bytes t) k = InRange at (length bytes) k ⊎ IsWritten t k
IsWritten (Synced done image t) k = ⊥

-- the byte was written since by a write that was to change durable bytes
abbrev pub IsChanged : Trace → ℕ → Type 0
IsChanged (Opened image) k = ⊥
IsChanged (Wrote began at bytes t) k = (InRange at (length bytes) k × (Holds at bytes (durable t) → ⊥)) ⊎ IsChanged t k
IsChanged (Synced done image t) k = ⊥

-- a write met n bytes at a place, and may have left these: its own, where it wrote the n and nothing else; any, where it wrote a part of them or more
pub record MayAppear (at n place : ℕ) (bytes : List ℕ) (b : Places) : Type 0 where
  pub byte : ℕ
  pub met : InRange at n byte
  pub wrote : InRange place (length bytes) byte
  pub whole : place ≡ at → length bytes ≡ n → SameBelow n (places bytes) b

-- these n bytes stood at the place in the first image, or a write may have left them there
abbrev pub Appeared : ℕ → ℕ → Trace → Places → Type 0
Appeared at n (Opened image) b = SameBelow n (from_place image at) b
Appeared at n (Wrote began place bytes t) b = MayAppear at n place bytes b ⊎ Appeared at n t b
Appeared at n (Synced done image t) b = Appeared at n t b

-- a power cut after all this may leave the image: each byte that wasn't written since the last sync is as it was then
abbrev pub MayLeave : Trace → Places → Type 0
MayLeave t image = (k : ℕ) → (IsWritten t k → ⊥) → image k ≡ durable t k

-- a power cut at a moment may leave the image
abbrev pub LeftAt : Trace → ℕ → Places → Type 0
LeftAt t m image = MayLeave (up_to m t) image

-- writing bytes that are durable leaves them there
abbrev pub KeepsDurable : Trace → Places → Type 0
KeepsDurable t image = (k : ℕ) → IsWritten t k → (IsChanged t k → ⊥) → image k ≡ durable t k

-- a power cut before anything more is written leaves exactly this image
pub record IsDurable (t : Trace) (image : Places) : Type 0 where
  pub nothing_written : (k : ℕ) → IsWritten t k → ⊥
  pub same : Same (durable t) image

-- a write began at a moment, and its range may hold any bytes, or it never began, and nothing changed
abbrev pub Tried : ℕ → ℕ → List ℕ → Trace → Places → Trace → Places → Type 0
Tried moment at bytes t i u j = ((u ≡ Wrote moment at bytes t) × SameOutside at (length bytes) i j) ⊎ ((u ≡ t) × Same i j)
