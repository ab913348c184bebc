use Rattle.std.proofs.Common.{◌-◌, sym, ap, ◌∙◌, subst, take, get_or, arith}
use Rattle.h2_num.specs.Places.{Places}
use Rattle.h2_disk.specs.Laid.{laid}
use Rattle.h2_disk.specs.Record.{image_of, StartsWith}
use Rattle.h2_disk.specs.declared.entry.Entry.TheVariants.{Write}
use Rattle.h2_disk.proofs.RecordLemmas.{torn-write, starts_laid}
use Rattle.h2_disk.proofs.recording.Recording.copy_torn.Goals as goal

pub returns : goal.returns
returns c =
    let entries = c.args.self.now.entries.items in
    let last = c.in-Write in
    let write = Write last.began last.at last.bytes in
    let below = image_of (take (c.args.count - 1) entries) in
    let part = c.first_bytes.ensures ∙ ap (take c.args.kept) c.as_slice-bytes.ensures in
    let is = sym last.is ∙ c.index.ensures ∙ ap (get_or entries (c.args.count - 1)) last.is in
    let P : Places → Type 0 = λ image. StartsWith image c.lay.new.self.entries.items c.lay.new.self.moment in
    subst P
    (ap (λ bytes. laid last.at bytes below) part ∙ sym (torn-write c.args.kept last.began last.at last.bytes entries c.args.count (omega arith) (omega arith) is))
    (starts_laid last.at c.in_ok-copy.copy.moment c.lay.new.self.moment c.first_bytes.result.now below c.in_ok-copy.copy.entries.items c.lay.new.self.entries.items c.in_ok-copy.ensures c.in_ok-lay.ensures.laid c.in_ok-lay.ensures.time)
