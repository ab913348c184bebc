-- The move by which a pass applies a segment.
use Rattle.std.proofs.Common.{Option, Some, None, List, ℕ, ◌≡◌, ◌≢◌, ◌⊎◌, ◌+◌, ◌-◌, ◌*◌, ◌<◌, ◌≤◌, refl, sym, ap, ◌∙◌, subst, inl, inr, arith}
use Rattle.std.proofs.lemmas.Bool.{cases_lt}
use Rattle.h2_num.specs.declared.block.Block.{Block}
use Rattle.h2_geom.specs.Geometry.{segment_chunks, segment_of}
use Rattle.h2_codes.specs.declared.code.Code.{Code}
use Rattle.h2_codes.specs.declared.code.Code.TheVariants.{Free, Reserved, Staged, Used}
use Rattle.h2_codes.specs.Codes.{code_at}
use Rattle.h2_codes.specs.Cursor.{unless_free as unless_code_free}
use Rattle.h2_ledger.specs.declared.shared_size.SharedSize.{SharedSize}
use Rattle.h2_ledger.specs.declared.shared_size.SharedSize.TheVariants.{Small, Middle}
use Rattle.h2_codes.specs.declared.cursor.Cursor.{Cursor}
use Rattle.h2_ledger.specs.Moves.{Same, Applies}
use Rattle.h2_plain_ledger.specs.State.{State, as_ledger, has, cursor_of, unless_free, IsCodeAfter, IsApplied}
use Rattle.h2_plain_ledger.specs.Steps.{IsAppliedNext, MakesApply}

same : (blocks : List Block) → Same has blocks blocks
same blocks b = (λ i. i, λ i. i)

kept_at : (code : Code) (at : Cursor) → code ≢ Free → unless_code_free code at ≡ Some at
kept_at Free at ne = absurd (ne refl)
kept_at Reserved at ne = refl
kept_at Staged at ne = refl
kept_at Used at ne = refl

left_at : (code : Code) (at new : Cursor) → unless_code_free code at ≡ Some new → (at ≡ new) × (code ≢ Free)
left_at Free at new e = cc
left_at Reserved at new e = (cc, λ f. cc)
left_at Staged at new e = (cc, λ f. cc)
left_at Used at new e = (cc, λ f. cc)

-- a cursor in a chunk that isn't free stays
kept : (codes : List Code) (cursor left : Option Cursor) (old : Cursor) → left ≡ unless_free codes cursor → cursor ≡ Some old → code_at codes old.chunk ≢ Free → left ≡ Some old
kept codes cursor left old e was ne = e ∙ ap (unless_free codes) was ∙ kept_at (code_at codes old.chunk) old ne

-- a cursor that is left was there, and its chunk isn't free
left_there : (codes : List Code) (cursor left : Option Cursor) (new : Cursor) → left ≡ unless_free codes cursor → left ≡ Some new → (cursor ≡ Some new) × (code_at codes new.chunk ≢ Free)
left_there codes None left new e now = let none : unless_free codes None ≡ None = refl in cc
left_there codes (Some at) left new e now = on (left_at (code_at codes at.chunk) at new (sym e ∙ now))
  where
    on : (at ≡ new) × (code_at codes at.chunk ≢ Free) → (Some at ≡ Some new) × (code_at codes new.chunk ≢ Free)
    on (is, ne) = (ap Some is, subst (λ (z : Cursor). code_at codes z.chunk ≢ Free) is ne)

pub applies_next : (s t : State) (m : IsAppliedNext s t) → Applies has m.number m.segment (as_ledger s) (as_ledger t)
unfolding as_ledger
applies_next s t m = subst (λ z. Applies has m.number m.segment (as_ledger s) (as_ledger z)) (sym m.new) (record {
  was = m.was;
  chunks = m.codes.length_stays;
  in_volume = m.in_volume;
  applied = λ c here. applied c here;
  elsewhere = λ c ne. elsewhere c ne;
  kept = λ k old e ne. kept_cursor k old e ne;
  forgotten = λ k new e. left_cursor k new e;
  reserved = refl;
  uses = record { live = λ b i. i; pins = λ b i. i; fresh = λ b i. i };
  roots = record { frozen_number = refl; frozen = same s.frozen; completed_number = refl; completed = same s.completed; queued = λ b i. i };
  marked = same s.marked;
  goes_on = m.pass.goes_on;
  ends = m.pass.ends;
})
  where
    applied : (c : ℕ) → segment_of c ≡ m.segment → IsCodeAfter s.marked c (code_at s.codes c) (code_at t.codes c)
    applied c here =
        let k : c ≡ segment_chunks * m.segment + (c - segment_chunks * m.segment) = omega arith in
        subst (λ z. IsCodeAfter s.marked z (code_at s.codes z) (code_at t.codes z)) (sym k) (m.codes.applied (c - segment_chunks * m.segment) (omega arith))

    elsewhere : (c : ℕ) → segment_of c ≢ m.segment → code_at t.codes c ≡ code_at s.codes c
    elsewhere c ne = split (cases_lt c (segment_chunks * m.segment))
      where
        split : (c < segment_chunks * m.segment) ⊎ (segment_chunks * m.segment ≤ c) → code_at t.codes c ≡ code_at s.codes c
        split (inl lt) = m.codes.lower c lt
        split (inr le) = m.codes.upper c (above (cases_lt c (segment_chunks * m.segment + segment_chunks)))
          where
            above : (c < segment_chunks * m.segment + segment_chunks) ⊎ (segment_chunks * m.segment + segment_chunks ≤ c) → segment_chunks * m.segment + segment_chunks ≤ c
            above (inl lt) = absurd (ne (omega arith))
            above (inr le) = le

    kept_cursor : (k : SharedSize) (old : Cursor) → cursor_of s.cursors k ≡ Some old → code_at t.codes old.chunk ≢ Free → cursor_of t.cursors k ≡ Some old
    kept_cursor Small old e ne = kept t.codes s.cursors.small t.cursors.small old m.small e ne
    kept_cursor Middle old e ne = kept t.codes s.cursors.middle t.cursors.middle old m.middle e ne

    left_cursor : (k : SharedSize) (new : Cursor) → cursor_of t.cursors k ≡ Some new → (cursor_of s.cursors k ≡ Some new) × (code_at t.codes new.chunk ≢ Free)
    left_cursor Small new e = left_there t.codes s.cursors.small t.cursors.small new m.small e
    left_cursor Middle new e = left_there t.codes s.cursors.middle t.cursors.middle new m.middle e

pub makes_apply : (s t : State) → IsAppliedNext s t → MakesApply (as_ledger s) (as_ledger t)
makes_apply s t m = (m.number, m.segment, applies_next s t m)

pub applied_as : (marked marked' : List Block) (first n : ℕ) (old old' new new' : List Code) → marked ≡ marked' → old ≡ old' → new' ≡ new → IsApplied marked first n old new → IsApplied marked' first n old' new'
applied_as marked marked' first n old old' new new' em eo en m = subst (λ z. IsApplied z first n old' new') em (subst (λ z. IsApplied marked first n z new') eo (subst (λ z. IsApplied marked first n old z) (sym en) m))
