use Rattle.std.proofs.Common.{◌<◌, ◌+◌, ◌*◌, ℕ}
use Rattle.std.specs.Prelude.{slice_index_or}
use Rattle.h2_num.specs.Places.{places}
use Rattle.h2_ref.specs.declared.reference.Ref.{Ref}
use Rattle.h2_ref.specs.Ref.{IsValid, RefBytes}
use Rattle.h2_header.specs.Map.{zones_under, IsMapEntry}
use Rattle.h2_freeleaf.proofs.Parts.{ReadTo}
use Rattle.h2_freeleaf.proofs.reading.decode_entries.Given as goal

abbrev pub invariant-loop-i : goal.invariant-loop-i
invariant-loop-i l = record {
  read : ReadTo IsValid RefBytes (places l.b) l.refs l.i;
  entries : (k : ℕ) (d : Ref) → k < l.i → IsMapEntry l.level l.h.zones l.h.map_number (l.zone + zones_under l.level * k) (slice_index_or l.refs k d);
}
