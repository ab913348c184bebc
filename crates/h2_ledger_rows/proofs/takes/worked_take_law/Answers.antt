use Rattle.std.proofs.Common.{◌≡◌, ◌⊎◌, ◌<◌, ◌+◌, ◌*◌, ℕ, suc, arith, inl, inr, refl}
use Rattle.h2_codes.specs.Free.{free_below}
use Rattle.h2_ledger.specs.declared.shared_size.SharedSize.TheVariants.{Small}
use Rattle.h2_ledger.specs.Ledger.{block_chunk}
use Rattle.h2_ledger.specs.Moves.{take_first, take_next}
use Rattle.h2_ledger.specs.RunLaws.{opens_sound}
use Rattle.h2_ledger.specs.SoundLaws.{keeps_sound}
use Rattle.h2_ledger_rows.specs.Ledgers.{IsIn, block_of, used_codes, opened}
use Rattle.h2_ledger_rows.specs.Takes.{after_first, after_next}
use Rattle.h2_ledger_rows.proofs.Blocks.{none_free, free_count}
use Rattle.h2_ledger_rows.proofs.Joining.{opens_old}
use Rattle.h2_ledger_rows.proofs.Taking.{takes_first, takes_next, takes_full, takes_whole, takes_reserved, cursor_place}
use Rattle.h2_ledger_rows.proofs.takes.worked_take_law.Goals as goal

unpaid : (reserved : ℕ) → reserved ≡ 253 → (suc reserved ≡ 253) ⊎ ((reserved ≡ 253) × (253 < free_below used_codes 512)) → ⊥
unpaid reserved e (inl f) = absurd (omega arith)
unpaid reserved e (inr f) = absurd (let lt : 253 < free_below used_codes 512 = f.1 in let all : free_below used_codes 512 ≡ 253 = free_count in omega arith)

pub returns : goal.returns
returns c = record {
  first = takes_first;
  next = takes_next;
  sound =
      keeps_sound IsIn (take_next Small (block_of 259 1024 10)) after_first after_next takes_next
      (keeps_sound IsIn (take_first Small (block_of 259 0 10)) opened after_first takes_first (opens_sound IsIn opened opens_old));
  whole = takes_whole;
  reserved = takes_reserved;
  in_full = takes_full;
  not_in_full = λ b y m. none_free (block_chunk b) m.place.lowest.free;
  not_behind_lowest = λ y m. m.place.lowest.lowest 259 (omega arith) refl;
  not_whole_behind = λ y m. m.place.lowest.lowest 259 (omega arith) refl;
  not_beside_cursor = λ y m. absurd (let lt : 16384 < 2048 = m.filled (record { chunk = 259; used = 1024 }) refl in omega arith);
  not_with_gap = λ y m. absurd (let e : 4244480 ≡ 16384 * m.place.old.chunk + m.place.old.used = cursor_place 259 1024 m.place.old m.place.was in let f : 4245504 ≡ 16384 * m.place.old.chunk + m.place.old.used = m.place.at in omega arith);
  not_unpaid = λ y e m. unpaid y.reserved e m.paid;
}
