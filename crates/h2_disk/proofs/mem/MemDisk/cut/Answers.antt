use Rattle.std.proofs.Common.{◌≤◌, ap, ◌∙◌, arith}
use Rattle.h2_num.specs.Places.{Places}
use Rattle.h2_disk.specs.Trace.{up_to, latest}
use Rattle.h2_disk.specs.Cut.{newest, image_cut}
use Rattle.h2_disk.specs.TraceLaws.{up_to-all}
use Rattle.h2_disk.specs.RecordLaws.{newest-of}
use Rattle.h2_disk.specs.CutLaws.{cut_left, cut_keeps}
use Rattle.h2_disk.specs.Mem.{mem_image, mem_trace}
use Rattle.h2_disk.proofs.mem.MemDisk.cut.Goals as goal

pub returns-clause-now : goal.returns-clause-now
returns-clause-now c =
    let disk = c.args.self.now in
    let trace = mem_trace disk in
    let image = ap mem_image c.over.ensures ∙ c.in_ok-cut.ensures.image_is in
    λ is_new le.
    let past : latest trace ≤ c.args.m = omega (arith, disk.recording.past, le) in
    image ∙ ap (λ choice. image_cut choice (up_to c.args.m trace)) is_new ∙ ap newest (up_to-all trace c.args.m past) ∙ newest-of disk.recording.entries.items

pub returns-clause-left : goal.returns-clause-left
returns-clause-left c =
    let image = ap mem_image c.over.ensures ∙ c.in_ok-cut.ensures.image_is in
    λ k unwritten. ap (λ (i : Places). i k) image ∙ cut_left c.args.choice (mem_trace c.args.self.now) c.args.m k unwritten

pub returns-clause-keeps : goal.returns-clause-keeps
returns-clause-keeps c =
    let image = ap mem_image c.over.ensures ∙ c.in_ok-cut.ensures.image_is in
    λ k written same. ap (λ (i : Places). i k) image ∙ cut_keeps c.args.choice (up_to c.args.m (mem_trace c.args.self.now)) k written same
