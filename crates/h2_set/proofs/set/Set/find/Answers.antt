use Rattle.std.proofs.Common.{rules, ◌≡◌}
use Rattle.std.specs.List.{position}
use Rattle.h2_set.specs.Ranges.{holds}
use Rattle.h2_set.proofs.Holding.{position_finds}
use Rattle.h2_set.proofs.set.Set.find.Goals as goal

pub returns : goal.returns
returns c =
    let e : c.place_in.result ≡ position (holds c.args.key) c.args.self.now.refs = search rules in
    let both = position_finds c.args.key c.args.self.now.refs c.place_in.result e in
    record { found = both.0; absent = both.1 }
