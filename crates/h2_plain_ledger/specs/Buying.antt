-- How a free chunk is paid for.
use Rattle.std.specs.Prelude.{ℕ, suc, ◌≡◌, ◌≢◌, ◌⊎◌, ◌<◌, ◌≤◌, List, length}
use Rattle.h2_codes.specs.declared.code.Code.{Code}
use Rattle.h2_codes.specs.declared.code.Code.TheVariants.{Free}
use Rattle.h2_codes.specs.Codes.{code_at}
use Rattle.h2_codes.specs.Free.{free_below, IsLowestFree}
use Rattle.h2_plain_ledger.specs.declared.buying.Payment.{Payment}
use Rattle.h2_plain_ledger.specs.declared.buying.Payment.TheVariants.{FromReserved, FromFree}
use Rattle.h2_plain_ledger.specs.declared.buying.Bought.{Bought}

-- with so many chunks reserved before and after: one that was reserved was spent, or one is free beyond all that is reserved
abbrev pub IsPaid : List Code → ℕ → Payment → ℕ → Type 0
IsPaid codes before FromReserved after = suc after ≡ before
IsPaid codes before FromFree after = (after ≡ before) × (before < free_below (code_at codes) (length codes))

-- nothing is reserved, or no chunk is free beyond all that is reserved
abbrev pub CannotPay : List Code → ℕ → Payment → Type 0
CannotPay codes before FromReserved = before ≡ 0
CannotPay codes before FromFree = free_below (code_at codes) (length codes) ≤ before

-- the lowest free chunk was bought
pub record IsBought (codes : List Code) (before : ℕ) (payment : Payment) (bought : Bought) : Type 0 where
  pub lowest : IsLowestFree (code_at codes) (length codes) bought.chunk
  pub paid : IsPaid codes before payment bought.reserved

-- no chunk is free, or it can't be paid for
abbrev pub CannotBuy : List Code → ℕ → Payment → Type 0
CannotBuy codes before payment = ((c : ℕ) → code_at codes c ≢ Free) ⊎ CannotPay codes before payment
