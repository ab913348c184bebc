use Rattle.std.proofs.Common.{◌≡◌, length, sym, ap, ◌∙◌, rules}
use Rattle.h2_ref.specs.declared.reference.Check.TheVariants.{Crc}
use Rattle.h2_freeleaf.specs.declared.fault.MapFault.TheVariants.{BadCheck}
use Rattle.h2_freeleaf.proofs.BlockReads.{read_check}
use Rattle.h2_freeleaf.proofs.reading.read_block.Goals as goal

pub returns-then-want-got-clause-cause : goal.returns-then-want-got-clause-cause
returns-then-want-got-clause-cause g c = λ tells.
    let long : length c.read.new.buf ≡ 1024 = search rules in
    let got = read_check (g.D.Disk.image c.args.disk.now) c.args.r.now.place c.read.new.buf c.crc32c-got.result long (c.in-Ok.ensures.bytes tells) c.crc32c-got.ensures in
    record { want = c.in-Crc.want; stored = c.in-Crc.is; differs = λ e. c.if-want-got.true (e ∙ sym got); is = ap (BadCheck c.args.r.now.place c.in-Crc.want) got }

pub returns-clause-check : goal.returns-clause-check
returns-clause-check g c = λ tells.
    let long : length c.read.new.buf ≡ 1024 = search rules in
    let same : c.in-Crc.want ≡ c.crc32c-got.result = search rules in
    let got = read_check (g.D.Disk.image c.args.disk.now) c.args.r.now.place c.read.new.buf c.crc32c-got.result long (c.in-Ok.ensures.bytes tells) c.crc32c-got.ensures in
    c.in-Crc.is ∙ ap Crc (same ∙ got)
