-- What a cut leaves of a disk that was durable at an opening, by the calls since.
use Rattle.std.proofs.Common.{◌≡◌, ◌≤◌, ℕ, List, [], ◌∷◌, refl, sym, ◌∙◌, subst, inl, inr, arith}
use Rattle.std.specs.Prelude.{nat_le, true, false, if◌then◌else◌}
use Rattle.std.proofs.lemmas.Bool.{cases_lt, le-leb, lt-leb}
use Rattle.h2_num.specs.Places.{Places}
use Rattle.h2_disk.specs.Trace.{Call, IsDurable, IsWritten, LeftAt, MayLeave, Opened, Sync, Synced, Trace, Write, Wrote, after, durable, latest, up_to}
use Rattle.h2_checkpoint.specs.Format.{Format}
use Rattle.h2_checkpoint.specs.Checkpoint.{base_of}
use Rattle.h2_checkpoint.specs.Runs.{MayBeLeft}
use Rattle.h2_checkpoint.specs.Stands.{CutLaw, MayBeCut}

-- a moment by which all was done sees the whole trace
pub up_to_all : (t : Trace) (m : ℕ) → latest t ≤ m → up_to m t ≡ t
up_to_all (Opened image) m le = refl
up_to_all (Wrote began at bytes t) m le = let a : nat_le began m ≡ true = le-leb began m (omega arith) in rw a refl
up_to_all (Synced done image t) m le = let a : nat_le done m ≡ true = le-leb done m (omega arith) in rw a refl

-- the calls up to a moment
abbrev pub calls_up_to : ℕ → List Call → List Call
calls_up_to m [] = []
calls_up_to m (Write began at bytes ∷ calls) = if nat_le began m then Write began at bytes ∷ calls else calls_up_to m calls
calls_up_to m (Sync done image ∷ calls) = if nat_le done m then Sync done image ∷ calls else calls_up_to m calls

-- what went on up to a moment, after a trace that was done by then
pub up_to_after : (m : ℕ) (since : List Call) (t : Trace) → latest t ≤ m → up_to m (after since t) ≡ after (calls_up_to m since) t
up_to_after m [] t le = up_to_all t m le
up_to_after m (Write began at bytes ∷ calls) t le = elim (cases_lt m began) [
  | inl lt ↦ let a : nat_le began m ≡ false = lt-leb began m lt in rw a (up_to_after m calls t le)
  | inr ge ↦ let a : nat_le began m ≡ true = le-leb began m ge in rw a refl
]
up_to_after m (Sync done image ∷ calls) t le = elim (cases_lt m done) [
  | inl lt ↦ let a : nat_le done m ≡ false = lt-leb done m lt in rw a (up_to_after m calls t le)
  | inr ge ↦ let a : nat_le done m ≡ true = le-leb done m ge in rw a refl
]

-- of a disk that was durable, what was written before doesn't count
written_since : (image : Places) (t : Trace) (since : List Call) → IsDurable t image → (k : ℕ) → IsWritten (after since t) k → IsWritten (after since (Opened image)) k
written_since image t [] d k w = absurd (d.nothing_written k w)
written_since image t (Write began at bytes ∷ since) d k (inl r) = inl r
written_since image t (Write began at bytes ∷ since) d k (inr w) = inr (written_since image t since d k w)
written_since image t (Sync done now ∷ since) d k w = w

durable_since : (image : Places) (t : Trace) (since : List Call) → IsDurable t image → (k : ℕ) → durable (after since (Opened image)) k ≡ durable (after since t) k
durable_since image t [] d k = d.same k
durable_since image t (Write began at bytes ∷ since) d k = durable_since image t since d k
durable_since image t (Sync done now ∷ since) d k = refl

leaves_since : (image : Places) (t : Trace) (since : List Call) → IsDurable t image → (i : Places) → MayLeave (after since t) i → MayLeave (after since (Opened image)) i
leaves_since image t since d i left k none = left k (λ w. none (written_since image t since d k w)) ∙ sym (durable_since image t since d k)

-- what a cut may leave by the whole trace, it may leave by the calls since
pub left_since : (image : Places) (t : Trace) (since : List Call) (m : ℕ) → IsDurable t image → latest t ≤ m → (i : Places) → LeftAt (after since t) m i → LeftAt (after since (Opened image)) m i
left_since image t since m d le i left = subst (λ (z : Trace). MayLeave z i) (sym (up_to_after m since (Opened image) (omega arith)))
    (leaves_since image t (calls_up_to m since) d i (subst (λ (z : Trace). MayLeave z i) (up_to_after m since t le) left))

pub cut_left : (v : Format) (image : Places) (t u : Trace) (since : List Call) (m : ℕ) (i : Places) → IsDurable t image → latest t ≤ m → u ≡ after since t → MayBeCut v image since u m i → MayBeLeft v (after since (Opened image)) m i
cut_left v image t u since m i d le is cut = record {
  left = left_since image t since m d le i (subst (λ (z : Trace). LeftAt z m i) is cut.left);
  headers = cut.headers;
  durable = cut.kept;
}

pub cut_law : (v : Format) → CutLaw v
cut_law v laws start opening before disk newest flush marks d le s = record {
  since = s.since;
  trace_is = s.trace_is;
  each = λ m i ge le_m cut. s.survives.cuts m i ge le_m (cut_left v (base_of v opening) before disk.trace s.since m i d (omega arith) s.trace_is cut);
}
