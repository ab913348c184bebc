use Rattle.std.proofs.Common.{◌≡◌, ◌≤◌, ◌<◌, ◌^◌, true, subst, arith}
use Rattle.h2_geom.specs.Geometry.{IsZoneCount}
use Rattle.h2_cmd.proofs.Decimals.{one_number}
use Rattle.h2_cmd.proofs.command_line.zone_count.Goals as goal

pub returns-then-not-is_zone_count : goal.returns-then-not-is_zone_count
returns-then-not-is_zone_count c = λ zones count spelled.
    let most : zones ≤ 512 = count.1 in
    let fits : c.in-Some.zones < 2 ^ 64 = omega arith in
    let same : zones ≡ c.in-Some.zones = one_number zones c.in-Some.zones c.args.word.now (omega arith) fits spelled c.in-Some.ensures in
    let is : c.is_zone_count.result ≡ true = c.is_zone_count.ensures.1 (subst IsZoneCount same count) in
    let no = c.if-not-is_zone_count.true in
    cc
