-- What formatting does to a disk.
use Rattle.std.specs.Prelude.{◌≡◌, ◌⊎◌, ◌<◌, ◌≤◌, ℕ, ◌+◌, List, Option, Some, None, MatchOption, slice_index_or}
use Rattle.h2_num.specs.Places.{Places, Same}
use Rattle.h2_num.specs.Causes.{one_more}
use Rattle.h2_disk.specs.Trace.{Call, after, IsDurable}
use Rattle.h2_header.specs.declared.header.Header.{Header}
use Rattle.h2_header.specs.Header.{IsHeaderAt, NoHeaderAt}
use Rattle.h2_checkpoint.specs.Slots.{slot_bytes, InSlot}
use Rattle.h2_checkpoint.specs.Stands.{DiskState, MayBeCut}
use Rattle.h2_image.specs.NewVolume.{InNewBlocks, map_block_count}
use Rattle.h2_image.specs.VolumeFormat.{volume, IsNewest, HasNoHeader, IsFormatted}
use Rattle.h2_cmd.specs.declared.formatting.Formatting.{Formatting}
use Rattle.h2_cmd.specs.declared.formatting.Formatting.TheVariants.{Made, Already}

-- what a slot of the image was found to hold
abbrev pub IsSlotHeader : Places → ℕ → Option Header → Type 0
IsSlotHeader image slot found = MatchOption found (NoHeaderAt slot (slot_bytes image slot)) (λ h. IsHeaderAt slot (slot_bytes image slot) h)

-- the headers of the first n slots
abbrev pub AreSlotHeaders : ℕ → Places → List (Option Header) → Type 0
AreSlotHeaders n image headers = (slot : ℕ) → slot < n → IsSlotHeader image slot (slice_index_or headers slot None)

-- the number of the newest header, or that there is no header
abbrev pub IsNewestNumber : Places → Option ℕ → Type 0
IsNewestNumber image None = HasNoHeader image
IsNewestNumber image (Some number) = (h : Header) × IsNewest image h × (h.number ≡ number)

-- all bytes but those of the new volume's blocks and of its header's slot are as they were
pub record SameElsewhere (zones : ℕ) (old new : Places) : Type 0 where
  pub same : (k : ℕ) → (InNewBlocks zones k → ⊥) → (InSlot 0 k → ⊥) → new k ≡ old k

-- nothing was changed
pub record IsUnchanged (old new : DiskState) : Type 0 where
  pub image : Same old.image new.image
  pub trace : new.trace ≡ old.trace
  pub moment : new.moment ≡ old.moment

-- where a header stands, nothing is changed
abbrev pub LeavesVolume : DiskState → DiskState → Type 0
LeavesVolume old new = HasNoHeader old.image ⊎ IsUnchanged old new

-- a volume was made where there was no header, and is durable
pub record MakesVolume (zones : ℕ) (old new : DiskState) : Type 0 where
  pub none : HasNoHeader old.image
  pub formatted : IsFormatted zones new.image
  pub durable : IsDurable new.trace new.image

-- a header stood there already, and nothing was changed
pub record FindsHeader (number : ℕ) (old new : DiskState) : Type 0 where
  pub header : Header
  pub newest : IsNewest old.image header
  pub number_is : header.number ≡ number
  pub image : Same old.image new.image
  pub trace : new.trace ≡ old.trace

-- what formatting answers says what it did
abbrev pub DoesFormat : ℕ → DiskState → DiskState → Formatting → Type 0
DoesFormat zones old new Made = MakesVolume zones old new
DoesFormat zones old new (Already number) = FindsHeader number old new

-- how many moments it takes to make a volume: a write for each block of the freemap, for the two inodes and for the header,
-- and two syncs of two moments each
abbrev pub moments_of : ℕ → ℕ
moments_of zones = map_block_count zones + 7

-- and how long it took
abbrev pub TakesMoments : ℕ → ℕ → ℕ → Formatting → Type 0
TakesMoments zones old new Made = new ≡ old + moments_of zones
TakesMoments zones old new (Already number) = new ≡ old

-- the moment at which the header's write begins: after a write for each block of the freemap and for the two inodes, and a
-- sync of two moments
abbrev pub header_moment : ℕ → ℕ → ℕ
header_moment zones moment = one_more (moment + map_block_count zones + 4)

-- At each moment from the old state to the new one a power cut leaves no header, or a new volume of so many zones, and before
-- the header's write no header, where headers are torn into no others and durable bytes that are written again stay.
pub record CutsFormat (zones : ℕ) (old new : DiskState) : Type 0 where
  pub since : List Call
  pub trace_is : new.trace ≡ after since old.trace
  pub each : (m : ℕ) (image : Places) → old.moment ≤ m → m ≤ new.moment → MayBeCut volume old.image since new.trace m image → HasNoHeader image ⊎ IsFormatted zones image
  pub early : (m : ℕ) (image : Places) → old.moment ≤ m → m ≤ new.moment → m < header_moment zones old.moment → MayBeCut volume old.image since new.trace m image → HasNoHeader image
