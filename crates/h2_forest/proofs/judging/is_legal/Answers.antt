use Rattle.h2_forest.proofs.LegalParts.{legal_decides}
use Rattle.h2_forest.proofs.judging.is_legal.Goals as goal

pub returns : goal.returns
returns c = legal_decides c.args.opening c.args.first c.args.history.now.items c.in_ok-legality.legality c.is_legal.result
    (record {
      replies_are = c.in_ok-legality.ensures.replies;
      faults_are = c.in_ok-legality.ensures.faults;
      indices_are = c.in_ok-legality.ensures.indices;
      phases_are = c.in_ok-legality.ensures.phases;
      flushes_are = c.in_ok-legality.ensures.flushes;
      moments_are = c.in_ok-legality.ensures.moments;
      scans_are = c.in_ok-legality.ensures.scans;
      passes_are = c.in_ok-legality.ensures.passes;
    }) c.is_legal.ensures
