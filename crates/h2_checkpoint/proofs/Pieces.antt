-- Pieces one by one, and what the causes and moments of calls add up to.
use Rattle.std.proofs.Common.{drop, slice_index_or, ◌≡◌, ◌<◌, ◌≤◌, ℕ, zero, suc, ◌+◌, ◌-◌, ◌^◌, List, [], ◌∷◌, length, sym, ap, ◌∙◌, subst, inl, inr, arith}
use Rattle.std.specs.Prelude.{IsTrue, true, false}
use Rattle.std.proofs.lemmas.Bool.{cases_lt}
use Rattle.std.proofs.lemmas.List.{drop_all}
use Rattle.h2_num.specs.Places.{Holds, Places, Same, SameOutside}
use Rattle.h2_num.specs.PlaceLaws.{outside}
use Rattle.h2_num.specs.Causes.{one_more}
use Rattle.h2_disk.specs.Disk.{HasCause, CountsWant}
use Rattle.h2_disk.specs.declared.disk.DiskFault.{DiskFault}
use Rattle.h2_disk.specs.declared.disk.DiskFault.TheVariants.{Failed, NoMemory}
use Rattle.h2_checkpoint.specs.Queue.{Entry, IsAmong, InEntries, entry_of, overlay_all}
use Rattle.h2_checkpoint.specs.Steps.{queue_of}
use Rattle.h2_checkpoint.specs.declared.piece.Piece.{Piece}
use Rattle.h2_checkpoint.specs.OverlayLaws.{overlay_first, overlay_none}
use Rattle.h2_checkpoint.proofs.Calls.{at_piece}

-- a call that is done moves the moment on
pub ticked : (m n : ℕ) → n ≡ one_more m → (2 ^ 64 - 2 ≤ m → IsTrue false) → n ≡ m + 1
ticked m n e before = elim (cases_lt m (2 ^ 64 - 2)) [ inl lt ↦ omega arith | inr ge ↦ absurd (let never : false ≡ true = before ge in cc) ]

-- a cause since a later call is one since an earlier call
pub cause_since : (a b c : ℕ) (fault : DiskFault) → a ≤ b → HasCause b c fault → HasCause a c fault
cause_since a b c Failed le rose = let r : one_more b ≤ c = rose in omega arith
cause_since a b c NoMemory le rose = tt

-- what a call counts of wants of memory, an earlier one counts that wanted none before it
pub want_since : (a b c : ℕ) (fault : DiskFault) → b ≡ a → CountsWant b c fault → CountsWant a c fault
want_since a b c fault same counts = subst (λ (n : ℕ). CountsWant n c fault) same counts

pub piece_among : (pieces : List Piece) (k : ℕ) (piece : Piece) → k < length pieces → piece ≡ slice_index_or pieces k piece → IsAmong (queue_of pieces) (entry_of piece)
piece_among [] k piece lt is = absurd (omega arith)
piece_among (p ∷ pieces) zero piece lt is = inl (ap entry_of is)
piece_among (p ∷ pieces) (suc k) piece lt is = inr (piece_among pieces k piece (omega arith) is)

-- a write in a piece's range changes nothing outside the pieces
pub piece_elsewhere : (pieces : List Piece) (k : ℕ) (piece : Piece) (bytes : List ℕ) (i j : Places) → k < length pieces → piece ≡ slice_index_or pieces k piece → bytes ≡ piece.bytes
    → SameOutside piece.at (length bytes) i j → (n : ℕ) → (InEntries (queue_of pieces) n → ⊥) → j n ≡ i n
piece_elsewhere pieces k piece bytes i j lt is same others n out =
    outside piece.at (length piece.bytes) i j (subst (λ (z : List ℕ). SameOutside piece.at (length z) i j) same others) n (λ r. out (entry_of piece, piece_among pieces k piece lt is, r))

-- a written piece is laid over the image before those that are left
pub piece_overlay : (pieces : List Piece) (k : ℕ) (piece : Piece) (bytes : List ℕ) (i j : Places) → k < length pieces → piece ≡ slice_index_or pieces k piece → bytes ≡ piece.bytes
    → Holds piece.at bytes j → SameOutside piece.at (length bytes) i j → Same (overlay_all (queue_of (drop k pieces)) i) (overlay_all (queue_of (drop (k + 1) pieces)) j)
piece_overlay pieces k piece bytes i j lt is same stands others =
    subst (λ (z : List Entry). Same (overlay_all z i) (overlay_all (queue_of (drop (k + 1) pieces)) j)) (sym (at_piece pieces k piece lt is))
    (overlay_first (entry_of piece) (queue_of (drop (k + 1) pieces)) i j (subst (λ (z : List ℕ). Holds piece.at z j) same stands) (subst (λ (z : List ℕ). SameOutside piece.at (length z) i j) same others))

-- after the last piece the image is the one with all of them
pub last_overlay : (pieces : List Piece) (k : ℕ) (i j : Places) → length pieces ≤ k → Same (overlay_all (queue_of pieces) i) (overlay_all (queue_of (drop k pieces)) j) → Same (overlay_all (queue_of pieces) i) j
last_overlay pieces k i j le same n =
    let none : overlay_all (queue_of (drop k pieces)) j n ≡ j n = subst (λ (z : List Piece). overlay_all (queue_of z) j n ≡ j n) (sym (drop_all k pieces le)) (sym (overlay_none j n)) in
    sym none ∙ same n
