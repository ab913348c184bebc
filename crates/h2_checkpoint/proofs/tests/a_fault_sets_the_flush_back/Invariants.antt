use Rattle.h2_checkpoint.specs.Fits.{FitsDisk}
use Rattle.h2_checkpoint.proofs.tests.a_fault_sets_the_flush_back.Given as goal

abbrev pub invariant-loop-step : goal.invariant-loop-step
invariant-loop-step g l = FitsDisk l.flush
