use Rattle.std.proofs.Common.{ℕ, take, sym, subst, arith}
use Rattle.std.specs.Io.KnownBytes.{Consumes}
use Rattle.h2_disk.proofs.TransferLemmas.{consumes-kept, consumes-more}
use Rattle.h2_disk.proofs.file.transfer.fill.Goals as goal
use Rattle.h2_disk.proofs.file.transfer.fill.Goals.{in-Ok, in-Err+else-ne}

pub loop-preserved : goal.loop-preserved
loop-preserved g c =
    let before = c.loop.invariant.given in
    let P : ℕ → Type 0 = λ done. Consumes (g.F.Read.remaining c.args.reader.now) (g.F.Read.remaining c.read_some.new.reader) (take done c.read_some.new.buf) in
    elim c.match-read_some.branch [
      | in-Ok w ↦
          let e = w.in-Ok.ensures in
          record {
            within = omega (arith, w.done-is, e.bound);
            given = subst P (sym w.done-is) (consumes-more _ _ _ _ _ c.loop.done w.in-Ok.count before e.before e.given);
          }
      | in-Err+else-ne w ↦
          let e = w.in-Err.ensures in
          record {
            within = omega (arith, w.done-is);
            given = subst P (sym w.done-is) (consumes-kept _ _ _ _ _ c.loop.done before e.before e.given);
          }
    ]
