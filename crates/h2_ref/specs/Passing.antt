-- Bytes that meet no refusal pass each test of their row.
use Rattle.std.specs.Prelude.{◌≡◌, ◌<◌, ℕ, Bool, true, false, ◌+◌, ◌==◌, Option, Some, None, option_map, refl}
use Rattle.std.proofs.Common.{ap, sym, ◌∙◌, arith}
use Rattle.std.proofs.lemmas.Bool.{eqb-true, eq-eqb, cond-true}
use Rattle.std.proofs.lemmas.Option.{none-some}
use Rattle.h2_num.specs.Places.{Places, number_at, ZeroIn}
use Rattle.h2_ref.specs.declared.faults.RefFault.{RefFault}
use Rattle.h2_ref.specs.declared.faults.RefFault.TheVariants.{Method as BadMethod, Radix as BadRadix, Place as BadPlace, Key as BadKey, Id as BadId, Dirent as BadDirent, Padding}
use Rattle.h2_ref.specs.declared.table.Row.{Row}
use Rattle.h2_ref.specs.Ref.{InSpan, IsMethodOf, KeyFits, PlaceFits}
use Rattle.h2_ref.specs.Fault.{in_span, is_method_of, key_fits, place_fits, entry_fits_at, area_len_at, fields_end_at, radix_at, place_at, is_padding, first_place, unless, fault_by}
use Rattle.h2_ref.specs.FirstPlace.{first_place-of_none, none_passes}
use Rattle.h2_ref.specs.Padding.{must_before_key, must_before_area, must_behind, zero_there, not_padding}
use Rattle.h2_ref.specs.Tests.{EntryFitsIn, in_span-fact, in_span-test, method-fact, method-test, key-fact, key-test, place-fact, place-test, entry-fact, entry-test}

-- the bytes pass each test of a row
pub record Passes (w : Row) (b : Places) : Type 0 where
  pub method : IsMethodOf w.methods (b 1)
  pub flags : b 3 ≡ w.flags.0
  pub radix : radix_at b ≡ w.radix
  pub place : PlaceFits w.radix (place_at b)
  pub key : KeyFits w (b 2) (number_at b 8 8)
  pub id : InSpan w.ids (number_at b 24 8)
  pub entry : EntryFitsIn w.names b
  pub before_key : ZeroIn 4 8 b
  pub before_area : ZeroIn (fields_end_at w.names) 64 b
  pub tail : ZeroIn (64 + area_len_at w w.names b) 128 b

unless-none : (test : Bool) (fault : RefFault) (rest : Option RefFault) → unless test fault rest ≡ None → (test ≡ true) × (rest ≡ None)
unless-none true fault rest e = (refl, e)
unless-none false fault rest e = absurd (none-some fault (sym e))

unless-pass : (test : Bool) (fault : RefFault) (rest : Option RefFault) → test ≡ true → rest ≡ None → unless test fault rest ≡ None
unless-pass test fault rest pass none = cond-true test rest (Some fault) pass ∙ none

padding-none : (o : Option ℕ) → option_map Padding o ≡ None → o ≡ None
padding-none None e = refl
padding-none (Some n) e = absurd (none-some (Padding n) (sym e))

pub pass : (w : Row) (b : Places) → fault_by w b ≡ None → Passes w b
pass w b e0 =
    let p1 = unless-none (is_method_of w.methods (b 1)) (BadMethod (b 1)) _ e0 in
    let p2 = unless-none (b 3 == w.flags.0) (Padding 3) _ p1.1 in
    let p3 = unless-none (radix_at b == w.radix) (BadRadix (radix_at b)) _ p2.1 in
    let p4 = unless-none (place_fits w.radix (place_at b)) (BadPlace (place_at b)) _ p3.1 in
    let p5 = unless-none (key_fits w (b 2) (number_at b 8 8)) BadKey _ p4.1 in
    let p6 = unless-none (in_span w.ids (number_at b 24 8)) BadId _ p5.1 in
    let p7 = unless-none (entry_fits_at w.names b) BadDirent _ p6.1 in
    let none : (k : ℕ) → k < 128 → is_padding w b k ≡ false = none_passes (is_padding w b) 128 (padding-none (first_place (is_padding w b) 128) p7.1) in
    record {
      method = method-fact w.methods (b 1) p1.0;
      flags = eqb-true (b 3) w.flags.0 p2.0;
      radix = eqb-true (radix_at b) w.radix p3.0;
      place = place-fact w.radix (place_at b) p4.0;
      key = key-fact w (b 2) (number_at b 8 8) p5.0;
      id = in_span-fact w.ids (number_at b 24 8) p6.0;
      entry = entry-fact w.names b p7.0;
      before_key = λ k ge lt. zero_there w b k (none k (omega arith)) (must_before_key w b k ge lt);
      before_area = λ k ge lt. zero_there w b k (none k (omega arith)) (must_before_area w b k ge lt);
      tail = λ k ge lt. zero_there w b k (none k lt) (must_behind w b k ge);
    }

no_padding : (w : Row) (b : Places) → Passes w b → (k : ℕ) → k < 128 → is_padding w b k ≡ false
no_padding w b h k lt = not_padding w b k (h.before_key k) (h.before_area k) (λ ge. h.tail k ge lt)

pub no_fault : (w : Row) (b : Places) → Passes w b → fault_by w b ≡ None
no_fault w b h =
    unless-pass (is_method_of w.methods (b 1)) (BadMethod (b 1)) _ (method-test w.methods (b 1) h.method) (
    unless-pass (b 3 == w.flags.0) (Padding 3) _ (eq-eqb (b 3) w.flags.0 h.flags) (
    unless-pass (radix_at b == w.radix) (BadRadix (radix_at b)) _ (eq-eqb (radix_at b) w.radix h.radix) (
    unless-pass (place_fits w.radix (place_at b)) (BadPlace (place_at b)) _ (place-test w.radix (place_at b) h.place) (
    unless-pass (key_fits w (b 2) (number_at b 8 8)) BadKey _ (key-test w (b 2) (number_at b 8 8) h.key) (
    unless-pass (in_span w.ids (number_at b 24 8)) BadId _ (in_span-test w.ids (number_at b 24 8) h.id) (
    unless-pass (entry_fits_at w.names b) BadDirent _ (entry-test w.names b h.entry) (
    ap (option_map Padding) (first_place-of_none (is_padding w b) 128 (no_padding w b h)))))))))
