-- The headers that are read from the slots of an image.
use Rattle.std.proofs.Common.{◌≡◌, ◌⊎◌, ◌<◌, ◌≤◌, ℕ, ◌+◌, List, [], length, slice_index_or, slice_set, refl, sym, subst, ◌∙◌, inl, inr, arith}
use Rattle.std.specs.Prelude.{Option, Some, None, IfSome, IfNone, Result, Ok, Err, IfOk, OnErr}
use Rattle.std.specs.Result.{result_ok}
use Rattle.std.proofs.lemmas.Bool.{cases_lt}
use Rattle.std.proofs.lemmas.List.{get_or-set_same, get_or-set_other}
use mathlib.Core.Path.{fun_ext}
use Rattle.h2_num.specs.Places.{Places, Same, SameBelow}
use Rattle.h2_disk.specs.Trace.{Trace, MayLeave, LeftAt, IsDurable, latest, up_to}
use Rattle.h2_disk.specs.TraceLaws.{up_to-all}
use Rattle.h2_disk.specs.Disk.{Keeps}
use Rattle.h2_header.specs.declared.header.Header.{Header}
use Rattle.h2_header.specs.declared.fault.HeadFault.{HeadFault}
use Rattle.h2_header.specs.Header.{IsHeaderAt, NoHeaderAt}
use Rattle.h2_header.specs.HeaderLaws.{IsHeaderAt-same, one_number}
use Rattle.h2_header.specs.Newest.{NoneOf, IsNewestOf}
use Rattle.h2_geom.specs.Places.{header_place}
use Rattle.h2_checkpoint.specs.Slots.{slot_bytes}
use Rattle.h2_checkpoint.specs.Stands.{DiskState}
use Rattle.h2_image.specs.VolumeFormat.{HasNoHeader}
use Rattle.h2_cmd.specs.Formatting.{IsSlotHeader, AreSlotHeaders, IsNewestNumber, CutsFormat}

pub slot_read : (image block : Places) (slot : ℕ) (found : Option Header) → SameBelow 65536 (slot_bytes image slot) block → IfSome found (IsHeaderAt slot block) → IfNone found (NoHeaderAt slot block) → IsSlotHeader image slot found
slot_read image block slot None same some none = λ h at. none h (IsHeaderAt-same slot h (slot_bytes image slot) block same at)
slot_read image block slot (Some h) same some none = IsHeaderAt-same slot h block (slot_bytes image slot) (λ k lt. sym (same k lt)) some

-- what a slot is read as, without the refusal
pub slot_found : (image block : Places) (slot : ℕ) (x : Result Header HeadFault) (found : Option Header) → found ≡ result_ok x → SameBelow 65536 (slot_bytes image slot) block → IfOk x (IsHeaderAt slot block) → OnErr x (NoHeaderAt slot block) → IsSlotHeader image slot found
slot_found image block slot (Ok h) found is same some none = subst (IsSlotHeader image slot) (sym is) (slot_read image block slot (Some h) same some tt)
slot_found image block slot (Err f) found is same some none = subst (IsSlotHeader image slot) (sym is) (slot_read image block slot None same tt none)

-- images with the same bytes are one
pub same_is : (a b : Places) → Same a b → b ≡ a
same_is a b same = fun_ext (λ k. same k)

-- what was read so far
pub record HasRead (n : ℕ) (image_old image_new : Places) (trace_old trace_new : Trace) (headers : List (Option Header)) : Type 0 where
  pub keeps : Keeps image_old image_new trace_old trace_new
  pub headers_are : AreSlotHeaders n image_old headers

pub nothing_read : (image : Places) (trace : Trace) (headers : List (Option Header)) → HasRead 0 image image trace trace headers
nothing_read image trace headers = record { keeps = record { image = λ k. refl; trace = refl }; headers_are = λ slot lt. absurd (omega arith) }

pub one_more_read : (n : ℕ) (i0 i1 i2 : Places) (t0 t1 t2 : Trace) (headers : List (Option Header)) (found : Option Header) → n < 4 → length headers ≡ 4 → HasRead n i0 i1 t0 t1 headers → Keeps i1 i2 t1 t2 → IsSlotHeader i1 n found
    → HasRead (n + 1) i0 i2 t0 t2 (slice_set headers n found)
one_more_read n i0 i1 i2 t0 t1 t2 headers found below size h k is = record {
  keeps = record { image = λ p. k.image p ∙ h.keeps.image p; trace = k.trace ∙ h.keeps.trace };
  headers_are = λ slot lt. at slot lt (cases_lt slot n);
}
  where
    at : (slot : ℕ) → slot < n + 1 → (slot < n) ⊎ (n ≤ slot) → IsSlotHeader i0 slot (slice_index_or (slice_set headers n found) slot None)
    at slot lt (inl earlier) = subst (IsSlotHeader i0 slot) (sym (get_or-set_other headers n slot found None (omega arith))) (h.headers_are slot earlier)
    at slot lt (inr late) =
        let same : slot ≡ n = omega arith in
        let long : length headers ≡ 4 = size in
        subst (λ (x : ℕ). IsSlotHeader i0 x (slice_index_or (slice_set headers n found) x None)) (sym same)
        (subst (IsSlotHeader i0 n) (sym (get_or-set_same headers n found None (omega arith)))
        (subst (λ (x : Places). IsSlotHeader x n found) (same_is i0 i1 h.keeps.image) is))

pub all_read : (n : ℕ) (i0 i1 : Places) (t0 t1 : Trace) (headers : List (Option Header)) → 4 ≤ n → HasRead n i0 i1 t0 t1 headers → AreSlotHeaders 4 i0 headers
all_read n i0 i1 t0 t1 headers le h slot lt = h.headers_are slot (omega arith)

-- The newest of them

slot_none : (image : Places) (slot : ℕ) (found : Option Header) → IsSlotHeader image slot found → ((h : Header) → found ≡ Some h → ⊥) → (h : Header) → IsHeaderAt slot (slot_bytes image slot) h → ⊥
slot_none image slot None is none h at = is h at
slot_none image slot (Some g) is none h at = none g refl

pub none_newest : (image : Places) (headers : List (Option Header)) → NoneOf 4 headers → AreSlotHeaders 4 image headers → IsNewestNumber image None
none_newest image headers none are s h slot at = slot_none image s (slice_index_or headers s None) (are s slot) (λ g is. none s g slot is) h at

pub newest_here : (headers : List (Option Header)) (slot : ℕ) → IsNewestOf 4 headers slot → slice_index_or headers slot None ≡ None → ⊥
newest_here headers slot newest is = let here = newest.here in cc

slot_some : (image : Places) (slot : ℕ) (found : Option Header) (h : Header) → IsSlotHeader image slot found → found ≡ Some h → IsHeaderAt slot (slot_bytes image slot) h
slot_some image slot found h is e = subst (IsSlotHeader image slot) e is

greater : (image : Places) (slot : ℕ) (found : Option Header) (other : Header) (n : ℕ) → IsSlotHeader image slot found → IsHeaderAt slot (slot_bytes image slot) other → ((g : Header) → found ≡ Some g → g.number ≤ n) → other.number ≤ n
greater image slot None other n is at most = absurd (is other at)
greater image slot (Some g) other n is at most =
    let same : other.number ≡ g.number = one_number slot slot other g (slot_bytes image slot) at is in
    let le : g.number ≤ n = most g refl in
    omega arith

pub newest_some : (image : Places) (headers : List (Option Header)) (slot : ℕ) (h : Header) → IsNewestOf 4 headers slot → slice_index_or headers slot None ≡ Some h → AreSlotHeaders 4 image headers → IsNewestNumber image (Some h.number)
newest_some image headers slot h newest is are =
    let here : newest.header ≡ h = let e = newest.here in cc in
    let at : IsHeaderAt slot (slot_bytes image slot) h = slot_some image slot (slice_index_or headers slot None) h (are slot newest.below) is in (
      h,
      record {
        here = subst (λ (x : ℕ). IsHeaderAt x (slot_bytes image x) h) (sym at.in_turn) at;
        greatest = λ s other s_slot other_at. greater image s (slice_index_or headers s None) other h.number (are s s_slot) other_at
            (λ g g_is. subst (λ (x : Header). g.number ≤ x.number) here (newest.greatest s g s_slot g_is));
      },
      refl,
    )

-- Where nothing was written

no_header_same : (a b : Places) → Same a b → HasNoHeader a → HasNoHeader b
no_header_same a b same none s h slot at = none s h slot (IsHeaderAt-same s h (slot_bytes b s) (slot_bytes a s) (λ k lt. sym (same (header_place s + k))) at)

pub cuts_nothing : (zones : ℕ) (old new : DiskState) → new.trace ≡ old.trace → latest old.trace ≤ old.moment → IsDurable old.trace old.image → HasNoHeader old.image → CutsFormat zones old new
cuts_nothing zones old new is past durable none = record {
  since = [];
  trace_is = is;
  each = λ m image ge le cut. inl (none_left m image ge cut.left);
  early = λ m image ge le lt cut. none_left m image ge cut.left;
}
  where
    none_left : (m : ℕ) (image : Places) → old.moment ≤ m → LeftAt new.trace m image → HasNoHeader image
    none_left m image ge cut =
        let before : latest old.trace ≤ m = omega arith in
        let left : MayLeave old.trace image = subst (λ (t : Trace). MayLeave t image) (up_to-all old.trace m before) (subst (λ (t : Trace). MayLeave (up_to m t) image) is cut) in
        no_header_same old.image image (λ k. left k (durable.nothing_written k) ∙ sym (durable.same k)) none

-- a disk that was only read
pub state_kept : (i0 i1 : Places) (m0 m1 : ℕ) (t0 t1 : Trace) → Keeps i0 i1 t0 t1 → m1 ≡ m0
    → let new : DiskState = record { image = i1; moment = m1; trace = t1 } in let old : DiskState = record { image = i0; moment = m0; trace = t0 } in new ≡ old
state_kept i0 i1 m0 m1 t0 t1 k time = let image : i1 ≡ i0 = same_is i0 i1 k.image in let trace : t1 ≡ t0 = k.trace in cc
