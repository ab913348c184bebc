use Rattle.h2_geom.proofs.MapPlaces.{blocks_apart, headers_apart, headers_distinct, blocks_reserved, blocks_in_zone, headers_reserved}
use Rattle.h2_geom.proofs.laws.map_place_law.Goals as goal

pub returns : goal.returns
returns c = record {
  blocks_apart = blocks_apart;
  headers_apart = headers_apart;
  headers_distinct = headers_distinct;
  blocks_reserved = blocks_reserved;
  blocks_in_zone = blocks_in_zone;
  headers_reserved = headers_reserved;
}
