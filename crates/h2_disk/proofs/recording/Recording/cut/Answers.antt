use Rattle.std.proofs.Common.{sym, ap, ◌∙◌, subst, take}
use Rattle.std.specs.Prelude.{IfOk}
use Rattle.h2_num.specs.Places.{Places}
use Rattle.h2_disk.specs.Trace.{up_to}
use Rattle.h2_disk.specs.Cut.{newest, image_cut}
use Rattle.h2_disk.specs.Record.{trace_of, StartsWith}
use Rattle.h2_disk.specs.RecordLaws.{newest-of}
use Rattle.h2_disk.proofs.recording.Recording.cut.Goals as goal

pub returns-in-New : goal.returns-in-New
returns-in-New c =
    let entries = c.args.self.now.entries.items in
    let P : Places → Type 0 = λ image. IfOk c.copy_first-in-New.result (λ disk. StartsWith image disk.entries.items disk.moment) in
    subst P
    (sym (newest-of (take c.count_up_to-count.result entries)) ∙ ap newest (sym c.count_up_to-count.ensures.found) ∙ ap (λ choice. image_cut choice (up_to c.args.m (trace_of entries))) (sym c.in-New.is))
    c.copy_first-in-New.ensures
