use Rattle.std.proofs.Common.{◌≡◌, ◌≢◌, ◌<◌, ◌≤◌, ◌+◌, ◌*◌, ◌-◌, ℕ, length, sym, subst, ◌∙◌, arith, rules}
use Rattle.std.specs.Prelude.{IsTrue, slice_index_or}
use Rattle.h2_ref.specs.Ref.{empty_ref}
use Rattle.h2_header.specs.Map.{zones_under}
use Rattle.h2_freeleaf.specs.declared.fault.MapFault.{MapFault}
use Rattle.h2_freeleaf.specs.InImage.{LeadsTo, AllLead}
use Rattle.h2_freeleaf.specs.FirstBad.{HasCause, IsBad, IsBadNode, IsFirstBadIn}
use Rattle.h2_freeleaf.specs.Reading.{FillsTo, HasRoom, NamesMapBlock}
use Rattle.h2_freeleaf.proofs.Filling.{names_block, room_of, keeps_more, kept_more, count_more, lead_more, all_lead_past, count_past, cause_later, first_bad, node_room, node_count, node_leads, node_bad, bad_below, on_ok, if_err}
use Rattle.h2_freeleaf.proofs.reading.+blocks.Goals as goal

pub read_eight-returns-then-first-h-clause-leads : goal.read_eight-returns-then-first-h-clause-leads
read_eight-returns-then-first-h-clause-leads g n c = λ tells.
    let past : c.args.h.now.zones ≤ c.args.zone + c.zones_under.result * c.loop-i.i = omega arith in
    all_lead_past (g.D.Disk.image c.args.disk.now) c.args.h.now.zones c.args.h.now.map_number c.args.level c.args.zone c.zones_under.result c.loop-i.i c.args.refs.now c.loop-i.segments.items
    c.requires.level c.zones_under.ensures.zones past (c.loop-i.invariant.leads tells)

pub read_eight-returns-then-first-h-clause-kept : goal.read_eight-returns-then-first-h-clause-kept
read_eight-returns-then-first-h-clause-kept g n c = c.loop-i.invariant.kept

pub read_eight-returns-then-first-h-clause-count : goal.read_eight-returns-then-first-h-clause-count
read_eight-returns-then-first-h-clause-count g n c =
    let past : c.args.h.now.zones ≤ c.args.zone + c.zones_under.result * c.loop-i.i = omega arith in
    count_past c.args.h.now.zones c.args.level c.args.zone c.zones_under.result c.loop-i.i c.loop-i.segments.items c.requires.level c.zones_under.ensures.zones c.loop-i-test.true past c.loop-i.invariant.count

pub read_eight-returns-then-first-h-clause-keeps : goal.read_eight-returns-then-first-h-clause-keeps
read_eight-returns-then-first-h-clause-keeps g n c = c.loop-i.invariant.keeps

pub read_eight-returns-then-first-h-clause-time : goal.read_eight-returns-then-first-h-clause-time
read_eight-returns-then-first-h-clause-time g n c = c.loop-i.invariant.time

pub read_eight-returns-then-first-h-clause-later : goal.read_eight-returns-then-first-h-clause-later
read_eight-returns-then-first-h-clause-later g n c = c.loop-i.invariant.later

pub read_eight-read_under-requires : goal.read_eight-read_under-requires
read_eight-read_under-requires g n c =
    let i = c.loop-i.i in
    let w = c.zones_under.ensures.zones in
    let len : length c.args.refs.now ≡ 8 = search rules in
    let lt : c.loop-i.i < 8 = c.loop-i-test.true in
    let here : c.args.zone + c.zones_under.result * c.loop-i.i < c.args.h.now.zones = omega arith in
    let room : c.args.zone + c.zones_under.result * c.loop-i.i + zones_under c.args.level ≤ 512 =
    subst (λ (x : ℕ). c.args.zone + x * c.loop-i.i + zones_under c.args.level ≤ 512) (sym w) (room_of c.args.level c.args.zone i c.requires.room lt) in
    let inside : c.args.zone + zones_under c.args.level * c.loop-i.i < c.args.h.now.zones = subst (λ (x : ℕ). c.args.zone + x * c.loop-i.i < c.args.h.now.zones) w here in
    let block : NamesMapBlock (slice_index_or c.args.refs.now c.loop-i.i empty_ref) =
    names_block c.args.level c.args.h.now.map_number (c.args.zone + zones_under c.args.level * i) (slice_index_or c.args.refs.now i empty_ref) (c.requires.valid i empty_ref (omega (arith, len))) ((c.requires.entries i empty_ref lt).used inside) in
    let count : FillsTo c.args.h.now.zones (c.args.zone + c.zones_under.result * c.loop-i.i) c.loop-i.segments.items =
    subst (λ (x : ℕ). FillsTo c.args.h.now.zones (c.args.zone + x * c.loop-i.i) c.loop-i.segments.items) (sym w) c.loop-i.invariant.count in
    search rules

pub read_eight-returns-in_err-read_under-clause-keeps : goal.read_eight-returns-in_err-read_under-clause-keeps
read_eight-returns-in_err-read_under-clause-keeps g n c = λ tells.
    keeps_more (g.D.Disk.image c.args.disk.now) (g.D.Disk.image c.loop-i.disk) (g.D.Disk.image c.read_under.new.disk) (g.D.Disk.trace c.args.disk.now) (g.D.Disk.trace c.loop-i.disk) (g.D.Disk.trace c.read_under.new.disk)
    (c.loop-i.invariant.keeps tells) (c.read_under.ensures.keeps tells)

pub read_eight-returns-in_err-read_under-clause-time : goal.read_eight-returns-in_err-read_under-clause-time
read_eight-returns-in_err-read_under-clause-time g n c = c.read_under.ensures.time ∙ c.loop-i.invariant.time

pub read_eight-returns-in_err-read_under-clause-later : goal.read_eight-returns-in_err-read_under-clause-later
read_eight-returns-in_err-read_under-clause-later g n c = omega (arith, c.read_under.ensures.later, c.loop-i.invariant.later)

pub read_eight-returns-in_err-read_under-clause-cause : goal.read_eight-returns-in_err-read_under-clause-cause
read_eight-returns-in_err-read_under-clause-cause g n c =
    let w = c.zones_under.ensures.zones in
    let here : c.args.zone + c.zones_under.result * c.loop-i.i < c.args.h.now.zones = omega arith in
    let i0 = g.D.Disk.image c.args.disk.now in
    let i1 = g.D.Disk.image c.loop-i.disk in
    let zones = c.args.h.now.zones in
    let number = c.args.h.now.map_number in
    let P = λ (f : MapFault). IsTrue g.D.Disk.tells → IsBad i1 zones number c.args.level (c.args.zone + c.zones_under.result * c.loop-i.i) (slice_index_or c.args.refs.now c.loop-i.i empty_ref) f in
    let Q = λ (f : MapFault). IsTrue g.D.Disk.tells → IsFirstBadIn i0 zones number c.args.level c.args.zone c.args.refs.now f in
    let cause : HasCause (λ f. IsTrue g.D.Disk.tells → IsFirstBadIn (g.D.Disk.image c.args.disk.now) c.args.h.now.zones c.args.h.now.map_number c.args.level c.args.zone c.args.refs.now f) (g.D.Disk.faults c.args.disk.now) (g.D.Disk.faults c.read_under.new.disk) c.in_err-read_under.field-0.0 =
    cause_later P Q (λ f bad tells. first_bad i0 i1 (g.D.Disk.trace c.args.disk.now) (g.D.Disk.trace c.loop-i.disk) zones number c.args.level c.args.zone c.zones_under.result c.loop-i.i c.args.refs.now c.loop-i.segments.items f c.requires.level w
    (c.loop-i.invariant.keeps tells) c.loop-i-test.true here (c.loop-i.invariant.leads tells) (bad tells))
    (g.D.Disk.faults c.args.disk.now) (g.D.Disk.faults c.loop-i.disk) (g.D.Disk.faults c.read_under.new.disk) c.in_err-read_under.field-0.0 c.loop-i.invariant.later c.in_err-read_under.ensures.cause in
    search rules

pub read_eight-returns-clause-leads : goal.read_eight-returns-clause-leads
read_eight-returns-clause-leads g n c = λ tells k d lt inside.
    let end : c.loop-i.i ≡ 8 = search rules in
    c.loop-i.invariant.leads tells k d (omega arith) inside

pub read_eight-returns-clause-kept : goal.read_eight-returns-clause-kept
read_eight-returns-clause-kept g n c = c.loop-i.invariant.kept

pub read_eight-returns-clause-count : goal.read_eight-returns-clause-count
read_eight-returns-clause-count g n c =
    let end : c.loop-i.i ≡ 8 = search rules in
    subst (λ (x : ℕ). FillsTo c.args.h.now.zones (c.args.zone + zones_under c.args.level * x) c.loop-i.segments.items) end c.loop-i.invariant.count

pub read_eight-loop-i-preserved : goal.read_eight-loop-i-preserved
read_eight-loop-i-preserved g n c =
    let inv = c.loop-i.invariant in
    let w = c.zones_under.ensures.zones in
    let i0 = g.D.Disk.image c.args.disk.now in
    let i1 = g.D.Disk.image c.loop-i.disk in
    let t0 = g.D.Disk.trace c.args.disk.now in
    let t1 = g.D.Disk.trace c.loop-i.disk in
    let zones = c.args.h.now.zones in
    let s1 = c.loop-i.segments.items in
    let s2 = c.read_under.new.segments.items in
    let len : length c.args.refs.now ≡ 8 = search rules in
    let here : c.args.zone + c.zones_under.result * c.loop-i.i < c.args.h.now.zones = omega arith in
    record {
      keeps = λ tells. keeps_more i0 i1 (g.D.Disk.image c.read_under.new.disk) t0 t1 (g.D.Disk.trace c.read_under.new.disk) (inv.keeps tells) (c.read_under.ensures.keeps tells);
      time = c.read_under.ensures.time ∙ inv.time;
      later = omega (arith, c.read_under.ensures.later, inv.later);
      leads = λ tells.
          lead_more i0 i1 t0 t1 zones c.args.h.now.map_number c.args.level c.args.zone c.zones_under.result c.loop-i.i c.args.refs.now s1 s2 c.requires.level w (inv.keeps tells) len c.loop-i-test.true here
          inv.count c.in_ok-read_under.ensures.kept (inv.leads tells) (c.in_ok-read_under.ensures.leads tells);
      kept = kept_more zones c.args.zone (zones_under c.args.level * c.loop-i.i) c.args.segments.now.items s1 s2 c.requires.count inv.count inv.kept c.in_ok-read_under.ensures.kept;
      count = count_more zones c.args.zone c.args.level c.zones_under.result c.loop-i.i s2 w c.in_ok-read_under.ensures.count;
    }

pub read_under-read_node-requires-clause-room : goal.read_under-read_node-requires-clause-room
read_under-read_node-requires-clause-room g n c =
    let some : c.args.level ≢ 0 = search rules in
    node_room c.args.level c.args.zone some c.requires.level c.requires.room

pub read_under-returns-in_err-refs-clause-cause : goal.read_under-returns-in_err-refs-clause-cause
read_under-returns-in_err-refs-clause-cause g n c =
    let some : c.args.level ≢ 0 = search rules in
    let i0 = g.D.Disk.image c.args.disk.now in
    let zones = c.args.h.now.zones in
    let number = c.args.h.now.map_number in
    let P = λ (f : MapFault). IsTrue g.D.Disk.tells → IsBadNode i0 zones number (c.args.level - 1) c.args.zone c.args.r.now f in
    let Q = λ (f : MapFault). IsTrue g.D.Disk.tells → IsBad i0 zones number c.args.level c.args.zone c.args.r.now f in
    let cause : HasCause (λ f. IsTrue g.D.Disk.tells → IsBad (g.D.Disk.image c.args.disk.now) c.args.h.now.zones c.args.h.now.map_number c.args.level c.args.zone c.args.r.now f) (g.D.Disk.faults c.args.disk.now) (g.D.Disk.faults c.read_node.new.disk) c.in_err-refs.field-0.0 =
    cause_later P Q (λ f bad tells. node_bad i0 zones number c.args.level c.args.zone c.args.r.now f some (bad tells)) (g.D.Disk.faults c.args.disk.now) (g.D.Disk.faults c.args.disk.now) (g.D.Disk.faults c.read_node.new.disk) c.in_err-refs.field-0.0 (omega arith) c.in_err-refs.ensures.cause in
    search rules

pub read_under-read_eight-requires : goal.read_under-read_eight-requires
read_under-read_eight-requires g n c =
    let some : c.args.level ≢ 0 = search rules in
    let room : HasRoom (c.args.level - 1) c.args.zone = node_room c.args.level c.args.zone some c.requires.level c.requires.room in
    let entries = c.in_ok-refs.ensures.entries in
    let valid = c.in_ok-refs.ensures.valid in
    search rules

pub read_under-returns-clause-leads : goal.read_under-returns-clause-leads
read_under-returns-clause-leads g n c =
    let some : c.args.level ≢ 0 = search rules in
    let i0 = g.D.Disk.image c.args.disk.now in
    let i1 = g.D.Disk.image c.read_node.new.disk in
    let zones = c.args.h.now.zones in
    let number = c.args.h.now.map_number in
    let s = c.read_eight.new.segments.items in
    on_ok (IsTrue g.D.Disk.tells → AllLead i1 zones number s (c.args.level - 1) c.args.zone c.in_ok-refs.refs) (IsTrue g.D.Disk.tells → LeadsTo i0 zones number s c.args.level c.args.zone c.args.r.now)
    (λ all tells. node_leads i0 i1 (g.D.Disk.trace c.args.disk.now) (g.D.Disk.trace c.read_node.new.disk) zones number c.args.level c.args.zone c.args.r.now c.in_ok-refs.refs s some (c.read_node.ensures.keeps tells) (c.in_ok-refs.ensures.leads tells) c.in_ok-refs.ensures.entries (all tells))
    c.read_eight.result c.read_eight.ensures.leads

pub read_under-returns-clause-count : goal.read_under-returns-clause-count
read_under-returns-clause-count g n c =
    let some : c.args.level ≢ 0 = search rules in
    let s = c.read_eight.new.segments.items in
    on_ok (FillsTo c.args.h.now.zones (c.args.zone + zones_under (c.args.level - 1) * 8) s) (FillsTo c.args.h.now.zones (c.args.zone + zones_under c.args.level) s)
    (λ count. node_count c.args.h.now.zones c.args.level c.args.zone s some c.requires.level count) c.read_eight.result c.read_eight.ensures.count

pub read_under-returns-clause-cause : goal.read_under-returns-clause-cause
read_under-returns-clause-cause g n c =
    let some : c.args.level ≢ 0 = search rules in
    let i0 = g.D.Disk.image c.args.disk.now in
    let i1 = g.D.Disk.image c.read_node.new.disk in
    let zones = c.args.h.now.zones in
    let number = c.args.h.now.map_number in
    let P = λ (f : MapFault). IsTrue g.D.Disk.tells → IsFirstBadIn i1 zones number (c.args.level - 1) c.args.zone c.in_ok-refs.refs f in
    let Q = λ (f : MapFault). IsTrue g.D.Disk.tells → IsBad i0 zones number c.args.level c.args.zone c.args.r.now f in
    let a = g.D.Disk.faults c.args.disk.now in
    let b = g.D.Disk.faults c.read_node.new.disk in
    let m = g.D.Disk.faults c.read_eight.new.disk in
    if_err (HasCause P b m) (HasCause Q a m)
    (λ e. cause_later P Q (λ f bad tells. bad_below i0 i1 (g.D.Disk.trace c.args.disk.now) (g.D.Disk.trace c.read_node.new.disk) zones number c.args.level c.args.zone c.args.r.now c.in_ok-refs.refs f some (c.read_node.ensures.keeps tells) (c.in_ok-refs.ensures.leads tells) c.in_ok-refs.ensures.entries (bad tells))
    a b m e c.read_node.ensures.later)
    c.read_eight.result c.read_eight.ensures.cause
