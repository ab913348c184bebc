-- What a record holds after one entry more, and what its last write leaves of itself.
use Rattle.std.proofs.Common.{◌≡◌, ℕ, ◌+◌, ◌-◌, ◌<◌, ◌≤◌, List, [], ◌∷◌, ◌++◌, length, take, get_or, sym, ap, ◌∙◌, arith}
use Rattle.std.specs.Prelude.{reverse}
use Rattle.std.proofs.lemmas.List.{reverse-append, take_more}
use Rattle.h2_num.specs.Places.{Places}
use Rattle.h2_disk.specs.Laid.{laid}
use Rattle.h2_disk.specs.Trace.{Opened}
use Rattle.h2_disk.specs.Cut.{torn}
use Rattle.h2_disk.specs.Record.{image_after, image_of, trace_after, trace_of, StartsWith}
use Rattle.h2_disk.specs.RecordLaws.{newest-after}
use Rattle.h2_disk.specs.declared.entry.Entry.{Entry}
use Rattle.h2_disk.specs.declared.entry.Entry.TheVariants.{Laid, Write}

-- the newest of the first entries
newest_first : (entries : List Entry) (count : ℕ) (e : Entry) → 0 < count → count ≤ length entries → e ≡ get_or entries (count - 1) e
    → reverse (take count entries) ≡ e ∷ reverse (take (count - 1) entries)
newest_first entries count e some le is =
    let one : count - 1 + 1 ≡ count = omega arith in
    let more = take_more entries (count - 1) e (omega arith) in
    ap (λ n. reverse (take n entries)) (sym one) ∙ ap reverse more
    ∙ reverse-append (take (count - 1) entries) (get_or entries (count - 1) e ∷ []) ∙ ap (λ x. x ∷ reverse (take (count - 1) entries)) (sym is)

-- of a last write only the first bytes are kept
pub torn-write : (k began at : ℕ) (bytes : List ℕ) (entries : List Entry) (count : ℕ) → 0 < count → count ≤ length entries → Write began at bytes ≡ get_or entries (count - 1) (Write began at bytes)
    → torn k (trace_of (take count entries)) ≡ laid at (take k bytes) (image_of (take (count - 1) entries))
torn-write k began at bytes entries count some le is =
    ap (λ xs. torn k (trace_after xs)) (newest_first entries count (Write began at bytes) some le is)
    ∙ ap (laid at (take k bytes)) (newest-after (reverse (take (count - 1) entries)))

-- a disk at moment 0 with bytes laid over it
pub starts_laid : (at moment later : ℕ) (bytes : List ℕ) (image : Places) (entries more : List Entry) → StartsWith image entries moment → more ≡ entries ++ Laid at bytes ∷ [] → later ≡ moment
    → StartsWith (laid at bytes image) more later
starts_laid at moment later bytes image entries more start e same =
    let newest_is = ap reverse e ∙ reverse-append entries (Laid at bytes ∷ []) in
    record {
      image_is = ap image_after newest_is ∙ ap (laid at bytes) start.image_is;
      trace_is = ap trace_after newest_is ∙ ap (λ below. Opened (laid at bytes below)) start.image_is;
      moment_is = same ∙ start.moment_is;
    }
