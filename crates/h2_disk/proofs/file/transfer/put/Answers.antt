use Rattle.std.proofs.Common.{ℕ, take, sym, subst, arith}
use Rattle.std.specs.Io.KnownBytes.{Appends}
use Rattle.std.proofs.lemmas.List.{length-drop, take_rest}
use Rattle.h2_disk.proofs.TransferLemmas.{appends-kept, appends-more}
use Rattle.h2_disk.proofs.file.transfer.put.Goals as goal
use Rattle.h2_disk.proofs.file.transfer.put.Goals.{in-Ok, in-Err+else-ne}

pub loop-preserved : goal.loop-preserved
loop-preserved g c =
    let bytes = c.args.bytes.now in
    let before = c.loop.invariant.written in
    let P : ℕ → Type 0 = λ done. Appends (g.F.Write.contents c.args.writer.now) (g.F.Write.contents c.write.new.self) (take done bytes) in
    elim c.match-write.branch [
      | in-Ok w ↦
          let rest = take_rest bytes c.loop.done in
          let bound = rw rest at w.in-Ok.ensures.bound in
          record {
            within = omega (arith, w.done-is, bound, length-drop c.loop.done bytes);
            written = subst P (sym w.done-is) (appends-more _ _ _ bytes c.loop.done w.in-Ok.count before (rw rest at w.in-Ok.ensures.bytes));
          }
      | in-Err+else-ne w ↦
          record {
            within = omega (arith, w.done-is);
            written = subst P (sym w.done-is) (appends-kept _ _ _ _ before w.in-Err.ensures.bytes);
          }
    ]
