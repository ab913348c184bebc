use Rattle.std.proofs.Common.{◌≡◌, ◌≤◌, refl, arith, slice_index_or}
use Rattle.h2_codes.specs.declared.code.Code.TheVariants.{Free}
use Rattle.h2_codes.specs.Free.{free_below}
use Rattle.h2_codes.specs.Codes.{tally}
use Rattle.h2_plain_ledger.proofs.CodeLists.{one_more_free, tally_free-le}
use Rattle.h2_plain_ledger.proofs.codes.free_chunks.Goals as goal

pub loop-chunk-init : goal.loop-chunk-init
unfolding free_below
loop-chunk-init c = record { counted = refl; few = omega arith }

pub loop-chunk-preserved : goal.loop-chunk-preserved
loop-chunk-preserved c =
    let here : c.one_if_free-free.result ≡ tally Free (slice_index_or c.args.codes.now c.loop-chunk.chunk Free) = c.one_if_free-free.ensures in
    let small : tally Free (slice_index_or c.args.codes.now c.loop-chunk.chunk Free) ≤ 1 = tally_free-le (slice_index_or c.args.codes.now c.loop-chunk.chunk Free) in
    record {
      counted = one_more_free c.args.codes.now c.loop-chunk.chunk c.loop-chunk.free c.one_if_free-free.result c.loop-chunk-test.true c.loop-chunk.invariant.counted here;
      few = let few : c.loop-chunk.free ≤ c.loop-chunk.chunk = c.loop-chunk.invariant.few in omega arith;
    }
