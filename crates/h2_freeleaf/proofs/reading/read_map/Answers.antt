use Rattle.std.proofs.Common.{List, sym, subst}
use Rattle.h2_codes.specs.declared.code.Code.{Code}
use Rattle.h2_freeleaf.specs.InImage.{AreCodesOf}
use Rattle.h2_freeleaf.proofs.Filling.{top_room, top_entries, top_codes}
use Rattle.h2_freeleaf.proofs.reading.read_map.Goals as goal

pub read_eight-requires-clause-room : goal.read_eight-requires-clause-room
read_eight-requires-clause-room g c = top_room c.args.h.now.zones c.top_level.result c.top_level.ensures.level

pub read_eight-requires-clause-entries : goal.read_eight-requires-clause-entries
read_eight-requires-clause-entries g c = top_entries c.args.h.now.zones c.args.h.now.map_number c.top_level.result c.args.h.now.map c.top_level.ensures.level c.requires.map

pub returns-clause-codes : goal.returns-clause-codes
returns-clause-codes g c = λ tells.
    let image = g.D.Disk.image c.args.disk.now in
    let h = c.args.h.now in
    let s = c.read_eight.new.segments.items in
    subst (λ (x : List (List Code)). AreCodesOf (g.D.Disk.image c.args.disk.now) c.args.h.now x) (sym c.in-Ok-from_segments.ensures.segments_are)
    (top_codes image h c.top_level.result s c.top_level.ensures.level c.requires.ranges.zones_high c.requires.map c.in_ok-read_eight.ensures.count (c.in_ok-read_eight.ensures.leads tells))
