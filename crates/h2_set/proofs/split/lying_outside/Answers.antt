use Rattle.std.proofs.Common.{arith, ap, sym, ◌∙◌, length}
use Rattle.std.specs.Prelude.{not}
use Rattle.std.proofs.lemmas.List.Sums.{count_by-le-length}
use Rattle.h2_set.specs.Ranges.{lies}
use Rattle.h2_set.proofs.Filtered.{room_left, front_fits}
use Rattle.h2_set.proofs.split.lying_outside.Goals as goal

pub push-requires : goal.push-requires
push-requires c =
    let most = count_by-le-length (λ q. not (lies c.args.key c.args.bits q)) c.args.all.now in
    let room = room_left (λ q. not (lies c.args.key c.args.bits q)) c.args.all.now c.loop-r.r-index 32 _ c.loop-r-test.true (omega (arith, most, c.requires.few)) (ap not (sym c.lies_in.ensures ∙ c.if-not-lies_in.true)) in
    (omega arith, omega (arith, room, ap length c.loop-r.invariant))

pub returns-clause-fits : goal.returns-clause-fits
returns-clause-fits c =
    let most = count_by-le-length (λ q. not (lies c.args.key c.args.bits q)) c.args.all.now in
    let fits = front_fits (λ q. not (lies c.args.key c.args.bits q)) c.args.all.now c.loop-r.r-index _ most in
    omega (arith, fits, ap length c.loop-r.invariant)
