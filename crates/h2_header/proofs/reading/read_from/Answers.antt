use Rattle.std.proofs.Common.{sym, ◌∙◌}
use Rattle.h2_num.specs.Places.{places}
use Rattle.h2_header.specs.Fault.{bad_field}
use Rattle.h2_header.specs.FaultLaws.{fault-none}
use Rattle.h2_header.proofs.Found.{header_found, no_magic, other_version, other_check}
use Rattle.h2_header.proofs.reading.read_from.Goals as goal

pub returns-then-not-has_magic-clause-fault : goal.returns-then-not-has_magic-clause-fault
returns-then-not-has_magic-clause-fault c = no_magic c.args.slot (places c.args.b.now) c.has_magic.result c.has_magic.ensures c.if-not-has_magic.true

pub returns-then-version-ne-VERSION-clause-fault : goal.returns-then-version-ne-VERSION-clause-fault
returns-then-version-ne-VERSION-clause-fault c =
    other_version c.args.slot (places c.args.b.now) c.get32-version.result (c.has_magic.ensures.0 c.if-not-has_magic.false) c.get32-version.ensures c.if-version-ne-VERSION.true

pub returns-then-want-got-clause-fault : goal.returns-then-want-got-clause-fault
returns-then-want-got-clause-fault c =
    other_check c.args.slot (places c.args.b.now) c.get32-want.result c.check_of-got.result (c.has_magic.ensures.0 c.if-not-has_magic.false)
    (sym c.get32-version.ensures ∙ c.if-version-ne-VERSION.false) c.get32-want.ensures c.check_of-got.ensures c.if-want-got.true

pub returns-in-Ok-clause-found : goal.returns-in-Ok-clause-found
returns-in-Ok-clause-found c =
    header_found c.args.slot (places c.args.b.now) c.in-Ok.h (c.has_magic.ensures.0 c.if-not-has_magic.false) (sym c.get32-version.ensures ∙ c.if-version-ne-VERSION.false)
    (sym c.get32-want.ensures ∙ c.if-want-got.false ∙ c.check_of-got.ensures) c.in-Ok.ensures.right

pub returns-in-Err-clause-fault : goal.returns-in-Err-clause-fault
returns-in-Err-clause-fault c =
    bad_field c.in-Err.at (c.has_magic.ensures.0 c.if-not-has_magic.false) (sym c.get32-version.ensures ∙ c.if-version-ne-VERSION.false)
    (sym c.get32-want.ensures ∙ c.if-want-got.false ∙ c.check_of-got.ensures) c.in-Err.ensures.wrong

pub returns-in-Err-clause-none : goal.returns-in-Err-clause-none
returns-in-Err-clause-none c = fault-none c.args.slot (places c.args.b.now) _ (returns-in-Err-clause-fault c)
