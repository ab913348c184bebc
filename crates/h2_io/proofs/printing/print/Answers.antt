use Rattle.std.proofs.Common.{◌≤◌, ◌-◌, length, arith}
use Rattle.std.proofs.lemmas.List.{length-take, length-drop}
use Rattle.h2_io.proofs.Pieces.{grown}
use Rattle.h2_io.proofs.printing.print.Goals as goal

pub loop-done-preserved : goal.loop-done-preserved
loop-done-preserved g c =
    let h = c.loop-done.invariant in
    let q = simp (length-take, length-drop) at c.in-Ok.ensures.count.1 in
    let r : c.in-Ok.count ≤ length c.args.text.now - c.loop-done.done = omega arith in
    record {
      within = omega (arith, h.within);
      held = λ tells. grown (g.K.Sink.held c.args.out.now) (g.K.Sink.held c.loop-done.out) (g.K.Sink.held c.put.new.self) c.args.text.now c.loop-done.done c.in-Ok.count (h.held tells) (c.in-Ok.ensures.held tells);
      later = omega (arith, h.later, c.in-Ok.ensures.later);
    }
