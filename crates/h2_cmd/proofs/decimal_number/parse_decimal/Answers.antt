use Rattle.h2_cmd.proofs.Decimals.{no_number_begins_so, no_number_refused, number_taken}
use Rattle.h2_cmd.specs.DecimalNumber.{HasSignOrLeadingZero}
use Rattle.std.proofs.Common.{subst, sym, true, ◌≡◌}
use Rattle.h2_cmd.proofs.decimal_number.parse_decimal.Goals as goal

pub returns-then-has_sign_or_leading_zero : goal.returns-then-has_sign_or_leading_zero
returns-then-has_sign_or_leading_zero c = no_number_begins_so c.args.text.now (rw c.as_bytes.ensures.value at (c.has_sign_or_leading_zero.ensures.0 c.if-has_sign_or_leading_zero.true))

pub returns-in_default : goal.returns-in_default
returns-in_default c = no_number_refused c.parse.result c.args.text.now c.in_default.not-Ok c.parse.ensures.value.0

pub returns : goal.returns
returns c = number_taken c.parse.result c.args.text.now c.in-Ok.number c.in-Ok.is plain c.parse.ensures.value.0
  where
    plain : HasSignOrLeadingZero c.args.text.now → ⊥
    plain h = let is : c.has_sign_or_leading_zero.result ≡ true = c.has_sign_or_leading_zero.ensures.1 (subst HasSignOrLeadingZero (sym c.as_bytes.ensures.value) h) in let no = c.if-has_sign_or_leading_zero.false in cc
