-- The blocks of a map, read one after the other in the order of their zones.
use Rattle.std.proofs.Common.{◌≡◌, ◌≢◌, ◌<◌, ◌≤◌, ◌+◌, ◌*◌, ◌-◌, min, ℕ, zero, suc, List, length, refl, sym, ap, ◌∙◌, subst, arith, inl, inr}
use Rattle.std.specs.Prelude.{slice_index_or, Result, Ok, Err, OnOk, IfErr}
use Rattle.std.proofs.lemmas.Bool.{cases_lt}
use Rattle.std.proofs.lemmas.List.{get_or_default}
use mathlib.Core.Path.{fun_ext}
use Rattle.h2_num.specs.Places.{Places, Same}
use Rattle.h2_disk.specs.Trace.{Trace}
use Rattle.h2_disk.specs.Disk.{Keeps}
use Rattle.h2_codes.specs.declared.code.Code.{Code}
use Rattle.h2_ref.specs.declared.reference.Ref.{Ref}
use Rattle.h2_ref.specs.Ref.{empty_ref, IsValid}
use Rattle.h2_header.specs.declared.header.Header.{Header}
use Rattle.h2_header.specs.Map.{top_level, zones_under, IsMapRef, IsMapEntry, IsMap}
use Rattle.h2_freeleaf.specs.declared.fault.MapFault.{MapFault}
use Rattle.h2_freeleaf.specs.declared.fault.MapRead.{MapRead}
use Rattle.h2_freeleaf.specs.declared.fault.MapRead.TheVariants.{Fault, Disk, NoMemory}
use Rattle.h2_freeleaf.specs.InImage.{LeadsToNode, AreEntries, LeadsTo, AllLead, AreCodesOf}
use Rattle.h2_freeleaf.specs.InImageLaws.{top_cases}
use Rattle.h2_freeleaf.specs.FirstBad.{HasCause, IsBad, IsBadNode, IsFirstBadIn}
use Rattle.h2_freeleaf.specs.Reading.{FillsTo, HasRoom, KeepsSegments, NamesMapBlock}

-- those of the first n references whose zones are in the volume lead to their blocks
abbrev pub LeadBelow : ℕ → Places → ℕ → ℕ → List (List Code) → ℕ → ℕ → List Ref → Type 0
LeadBelow n image zones number segments level zone refs =
    (k : ℕ) (d : Ref) → k < n → zone + zones_under level * k < zones → LeadsTo image zones number segments level (zone + zones_under level * k) (slice_index_or refs k d)

-- Zones of blocks

-- a reference of a map names a block of it
pub names_block : (level number zone : ℕ) (r : Ref) → IsValid r → IsMapRef level number zone r → NamesMapBlock r
names_block zero number zone r valid names = record { valid = valid; kind = inr names.kind }
names_block (suc level) number zone r valid names = record { valid = valid; kind = inl names.kind }

-- one of eight blocks lies in the room for them
pub room_of : (level zone i : ℕ) → HasRoom level zone → i < 8 → zone + zones_under level * i + zones_under level ≤ 512
room_of zero zone i room lt = let most : zone + 1 * 8 ≤ 512 = room.zones in omega arith
room_of (suc zero) zone i room lt = let most : zone + 8 * 8 ≤ 512 = room.zones in omega arith
room_of (suc (suc zero)) zone i room lt = let most : zone + 64 * 8 ≤ 512 = room.zones in omega arith
room_of (suc (suc (suc level))) zone i room lt = let le : suc (suc (suc level)) ≤ 2 = room.levels in absurd (omega arith)

-- the eight blocks under a node lie in the room of its own
pub room_below : (level zone : ℕ) → suc level ≤ 2 → zone + zones_under (suc level) ≤ 512 → HasRoom level zone
room_below zero zone le most = record { levels = omega arith; zones = omega arith }
room_below (suc zero) zone le most = record { levels = omega arith; zones = omega arith }
room_below (suc (suc level)) zone le most = absurd (omega arith)

-- a block ends before a later one begins
block_before : (level k i : ℕ) → level ≤ 2 → k < i → zones_under level * k + zones_under level ≤ zones_under level * i
block_before zero k i le lt = omega arith
block_before (suc zero) k i le lt = omega arith
block_before (suc (suc zero)) k i le lt = omega arith
block_before (suc (suc (suc level))) k i le lt = absurd (omega arith)

-- a node stands for all zones of its eight blocks
block_within : (level i : ℕ) → suc level ≤ 2 → i < 8 → zones_under level * i + zones_under level ≤ zones_under (suc level)
block_within zero i le lt = omega arith
block_within (suc zero) i le lt = omega arith
block_within (suc (suc level)) i le lt = absurd (omega arith)

eight_within : (level : ℕ) → suc level ≤ 2 → zones_under level * 8 ≡ zones_under (suc level)
eight_within zero le = refl
eight_within (suc zero) le = refl
eight_within (suc (suc level)) le = absurd (omega arith)

-- Segments that stand

-- what a reference leads to stays where segments are added
pub leads_kept : (image : Places) (zones number : ℕ) (s t : List (List Code)) (level zone : ℕ) (r : Ref) → KeepsSegments s t → level ≤ 2 → zone < zones → 8 * min zones (zone + zones_under level) ≤ length s
    → LeadsTo image zones number s level zone r → LeadsTo image zones number t level zone r
leads_kept image zones number s t zero zone r kept le inside long h = record {
  leaf = h.leaf;
  is_zone = λ k d lt. h.is_zone k d lt ∙ sym (kept (8 * zone + k) (omega arith));
  leads = h.leads;
}
leads_kept image zones number s t (suc level) zone r kept le inside long (refs, leads, entries, below) = (
  refs,
  leads,
  entries,
  λ i d lt here.
      let within = block_within level i le lt in
      leads_kept image zones number s t level (zone + zones_under level * i) (slice_index_or refs i d) kept (omega arith) here (omega arith) (below i d lt here),
)

-- What was read so far

-- images with the same bytes are one
same_is : (a b : Places) → Same a b → b ≡ a
same_is a b same = fun_ext (λ k. same k)

pub keeps_more : (i0 i1 i2 : Places) (t0 t1 t2 : Trace) → Keeps i0 i1 t0 t1 → Keeps i1 i2 t1 t2 → Keeps i0 i2 t0 t2
keeps_more i0 i1 i2 t0 t1 t2 a b = record { image = λ k. b.image k ∙ a.image k; trace = b.trace ∙ a.trace }

pub kept_more : (zones zone more : ℕ) (s0 s1 s2 : List (List Code)) → FillsTo zones zone s0 → FillsTo zones (zone + more) s1 → KeepsSegments s0 s1 → KeepsSegments s1 s2 → KeepsSegments s0 s2
kept_more zones zone more s0 s1 s2 few some a b k lt = let within : k < length s1 = omega (arith, few, some) in b k within ∙ a k lt

pub count_more : (zones zone level w i : ℕ) (s : List (List Code)) → w ≡ zones_under level → FillsTo zones (zone + w * i + zones_under level) s → FillsTo zones (zone + zones_under level * (i + 1)) s
count_more zones zone level w i s is count =
    let e : zone + w * i + zones_under level ≡ zone + zones_under level * (i + 1) = ap (λ (x : ℕ). zone + x * i + zones_under level) is ∙ omega arith in
    count ∙ ap (λ (x : ℕ). 8 * min zones x) e

-- one block more was read
pub lead_more : (i0 i1 : Places) (t0 t1 : Trace) (zones number level zone w i : ℕ) (refs : List Ref) (s1 s2 : List (List Code)) → level ≤ 2 → w ≡ zones_under level → Keeps i0 i1 t0 t1 → length refs ≡ 8 → i < 8 → zone + w * i < zones
    → FillsTo zones (zone + zones_under level * i) s1 → KeepsSegments s1 s2 → LeadBelow i i0 zones number s1 level zone refs
    → LeadsTo i1 zones number s2 level (zone + w * i) (slice_index_or refs i empty_ref) → LeadBelow (i + 1) i0 zones number s2 level zone refs
lead_more i0 i1 t0 t1 zones number level zone w i refs s1 s2 le is keeps len lt here count kept so_far leads k d k_lt inside = elim (cases_lt k i) [
  | inl early ↦
      let before = block_before level k i le early in
      let there : zone + zones_under level * i < zones = subst (λ (x : ℕ). zone + x * i < zones) is here in
      leads_kept i0 zones number s1 s2 level (zone + zones_under level * k) (slice_index_or refs k d) kept le inside (omega (arith, count)) (so_far k d early inside)
  | inr late ↦
      let same : k ≡ i = omega arith in
      let P : ℕ → Ref → Places → Type 0 = λ z r image. LeadsTo image zones number s2 level z r in
      let zone_is : zone + w * i ≡ zone + zones_under level * k = ap (λ (x : ℕ). zone + x * i) is ∙ ap (λ (x : ℕ). zone + zones_under level * x) (sym same) in
      let ref_is : slice_index_or refs i empty_ref ≡ slice_index_or refs k d = get_or_default refs i empty_ref d (omega arith) ∙ ap (λ (x : ℕ). slice_index_or refs x d) (sym same) in
      subst (λ (z : ℕ). P z (slice_index_or refs k d) i0) zone_is (subst (λ (r : Ref). P (zone + w * i) r i0) ref_is (subst (P (zone + w * i) (slice_index_or refs i empty_ref)) (same_is i0 i1 keeps.image) leads))
]

-- a block doesn't begin before an earlier one
begins_later : (level i k : ℕ) → level ≤ 2 → i ≤ k → zones_under level * i ≤ zones_under level * k
begins_later zero i k le ge = omega arith
begins_later (suc zero) i k le ge = omega arith
begins_later (suc (suc zero)) i k le ge = omega arith
begins_later (suc (suc (suc level))) i k le ge = absurd (omega arith)

-- no block is left in the volume
pub all_lead_past : (image : Places) (zones number level zone w i : ℕ) (refs : List Ref) (s : List (List Code)) → level ≤ 2 → w ≡ zones_under level → zones ≤ zone + w * i → LeadBelow i image zones number s level zone refs → AllLead image zones number s level zone refs
all_lead_past image zones number level zone w i refs s le is past leads k d lt inside = elim (cases_lt k i) [
  | inl early ↦ leads k d early inside
  | inr late ↦
      let after = begins_later level i k le late in
      let end : zones ≤ zone + zones_under level * i = subst (λ (x : ℕ). zones ≤ zone + x * i) is past in
      absurd (omega arith)
]

pub count_past : (zones level zone w i : ℕ) (s : List (List Code)) → level ≤ 2 → w ≡ zones_under level → i < 8 → zones ≤ zone + w * i → FillsTo zones (zone + zones_under level * i) s → FillsTo zones (zone + zones_under level * 8) s
count_past zones level zone w i s le is lt past count =
    let after = begins_later level i 8 le (omega arith) in
    let end : zones ≤ zone + zones_under level * i = subst (λ (x : ℕ). zones ≤ zone + x * i) is past in
    omega (arith, count)

-- Causes

pub cause_later : (P Q : MapFault → Type 0) → ((f : MapFault) → P f → Q f) → (a b n : ℕ) (e : MapRead) → a ≤ b → HasCause P b n e → HasCause Q a n e
cause_later P Q go a b n (Fault f) le h = go f h
cause_later P Q go a b n Disk le rose = omega arith
cause_later P Q go a b n NoMemory le h = tt

-- a bad block behind whole ones
pub first_bad : (i0 i1 : Places) (t0 t1 : Trace) (zones number level zone w i : ℕ) (refs : List Ref) (s : List (List Code)) (f : MapFault) → level ≤ 2 → w ≡ zones_under level → Keeps i0 i1 t0 t1 → i < 8 → zone + w * i < zones → LeadBelow i i0 zones number s level zone refs
    → IsBad i1 zones number level (zone + w * i) (slice_index_or refs i empty_ref) f → IsFirstBadIn i0 zones number level zone refs f
first_bad i0 i1 t0 t1 zones number level zone w i refs s f le is keeps lt here leads bad =
    let there : zone + zones_under level * i < zones = subst (λ (x : ℕ). zone + x * i < zones) is here in
    record {
      index = i;
      below = lt;
      inside = there;
      here = subst (λ (image : Places). IsBad image zones number level (zone + zones_under level * i) (slice_index_or refs i empty_ref) f) (same_is i0 i1 keeps.image)
          (subst (λ (x : ℕ). IsBad i1 zones number level (zone + x * i) (slice_index_or refs i empty_ref) f) is bad);
      before = λ k k_lt. let before = block_before level k i le k_lt in (s, leads k empty_ref k_lt (omega arith));
    }

-- Under a node

pub node_room : (level zone : ℕ) → level ≢ 0 → level ≤ 2 → zone + zones_under level ≤ 512 → HasRoom (level - 1) zone
node_room zero zone ne le most = absurd (ne refl)
node_room (suc level) zone ne le most = let down : level ≡ suc level - 1 = omega arith in subst (λ (l : ℕ). HasRoom l zone) down (room_below level zone le most)

pub node_count : (zones level zone : ℕ) (s : List (List Code)) → level ≢ 0 → level ≤ 2 → FillsTo zones (zone + zones_under (level - 1) * 8) s → FillsTo zones (zone + zones_under level) s
node_count zones zero zone s ne le count = absurd (ne refl)
node_count zones (suc level) zone s ne le count =
    let down : suc level - 1 ≡ level = omega arith in
    count ∙ ap (λ (x : ℕ). 8 * min zones (zone + x)) (ap (λ (l : ℕ). zones_under l * 8) down ∙ eight_within level le)

pub node_leads : (i0 i1 : Places) (t0 t1 : Trace) (zones number level zone : ℕ) (r : Ref) (refs : List Ref) (s : List (List Code)) → level ≢ 0 → Keeps i0 i1 t0 t1 → LeadsToNode i0 refs r → AreEntries (level - 1) zones number zone refs
    → AllLead i1 zones number s (level - 1) zone refs → LeadsTo i0 zones number s level zone r
node_leads i0 i1 t0 t1 zones number zero zone r refs s ne keeps leads entries all = absurd (ne refl)
node_leads i0 i1 t0 t1 zones number (suc level) zone r refs s ne keeps leads entries all =
    let down : suc level - 1 ≡ level = omega arith in
    (refs, leads, subst (λ (l : ℕ). AreEntries l zones number zone refs) down entries, subst (λ (image : Places). AllLead image zones number s level zone refs) (same_is i0 i1 keeps.image) (subst (λ (l : ℕ). AllLead i1 zones number s l zone refs) down all))

pub node_bad : (image : Places) (zones number level zone : ℕ) (r : Ref) (f : MapFault) → level ≢ 0 → IsBadNode image zones number (level - 1) zone r f → IsBad image zones number level zone r f
node_bad image zones number zero zone r f ne bad = absurd (ne refl)
node_bad image zones number (suc level) zone r f ne bad = let down : suc level - 1 ≡ level = omega arith in inl (subst (λ (l : ℕ). IsBadNode image zones number l zone r f) down bad)

pub bad_below : (i0 i1 : Places) (t0 t1 : Trace) (zones number level zone : ℕ) (r : Ref) (refs : List Ref) (f : MapFault) → level ≢ 0 → Keeps i0 i1 t0 t1 → LeadsToNode i0 refs r → AreEntries (level - 1) zones number zone refs
    → IsFirstBadIn i1 zones number (level - 1) zone refs f → IsBad i0 zones number level zone r f
bad_below i0 i1 t0 t1 zones number zero zone r refs f ne keeps leads entries bad = absurd (ne refl)
bad_below i0 i1 t0 t1 zones number (suc level) zone r refs f ne keeps leads entries bad =
    let down : suc level - 1 ≡ level = omega arith in
    inr (refs, leads, subst (λ (l : ℕ). AreEntries l zones number zone refs) down entries, subst (λ (image : Places). IsFirstBadIn image zones number level zone refs f) (same_is i0 i1 keeps.image) (subst (λ (l : ℕ). IsFirstBadIn i1 zones number l zone refs f) down bad))

-- From the header's references on

pub top_room : (zones level : ℕ) → level ≡ top_level zones → HasRoom level 0
top_room zones level is = subst (λ (l : ℕ). HasRoom l 0) (sym is)
    (top_cases zones (λ l. HasRoom l 0) (λ few. record { levels = omega arith; zones = omega arith }) (λ more some. record { levels = omega arith; zones = omega arith }) (λ many. record { levels = omega arith; zones = omega arith }))

from_0 : (level i : ℕ) → zones_under level * i ≡ 0 + zones_under level * i
from_0 level i = omega arith

pub top_entries : (zones number level : ℕ) (refs : List Ref) → level ≡ top_level zones → IsMap zones number refs → AreEntries level zones number 0 refs
top_entries zones number level refs is map = subst (λ (l : ℕ). AreEntries l zones number 0 refs) (sym is)
    (λ i d lt. subst (λ (z : ℕ). IsMapEntry (top_level zones) zones number z (slice_index_or refs i d)) (from_0 (top_level zones) i) (map.slots i d lt))

top_count : (zones : ℕ) (s : List (List Code)) → zones ≤ 512 → FillsTo zones (0 + zones_under (top_level zones) * 8) s → length s ≡ 8 * zones
top_count zones s most = top_cases zones (λ l. FillsTo zones (0 + zones_under l * 8) s → length s ≡ 8 * zones) (λ few count. omega (arith, count)) (λ more some count. omega (arith, count)) (λ many count. omega (arith, count))

pub top_codes : (image : Places) (h : Header) (level : ℕ) (s : List (List Code)) → level ≡ top_level h.zones → h.zones ≤ 512 → IsMap h.zones h.map_number h.map → FillsTo h.zones (0 + zones_under level * 8) s
    → AllLead image h.zones h.map_number s level 0 h.map → AreCodesOf image h s
top_codes image h level s is most map count leads = record {
  count = top_count h.zones s most (subst (λ (l : ℕ). FillsTo h.zones (0 + zones_under l * 8) s) is count);
  mapped = record {
    map = map;
    leads = λ i d lt inside.
        let e = from_0 (top_level h.zones) i in
        let all = subst (λ (l : ℕ). AllLead image h.zones h.map_number s l 0 h.map) is leads in
        subst (λ (z : ℕ). LeadsTo image h.zones h.map_number s (top_level h.zones) z (slice_index_or h.map i d)) (sym e) (all i d lt (subst (λ (z : ℕ). z < h.zones) e inside));
  };
}

-- Results

pub on_ok : {T E : Type 0} (P Q : Type 0) → (P → Q) → (x : Result T E) → OnOk x P → OnOk x Q
on_ok P Q go (Ok t) h = go h
on_ok P Q go (Err e) h = tt

pub if_err : {T E : Type 0} (P Q : E → Type 0) → ((e : E) → P e → Q e) → (x : Result T E) → IfErr x P → IfErr x Q
if_err P Q go (Ok t) h = tt
if_err P Q go (Err e) h = go e h
