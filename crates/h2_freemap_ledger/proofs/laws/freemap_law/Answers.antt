use Rattle.h2_freemap_ledger.specs.SpaceLaws.{take_moves, take_is_granted, adopt_moves, apply_moves, paid_is_free, reservation_pays}
use Rattle.h2_freemap_ledger.proofs.laws.freemap_law.Goals as goal

pub returns : goal.returns
returns g c = record {
  take = take_moves g.S.BlockSet.has;
  granted = take_is_granted g.S.BlockSet.has;
  adopt = adopt_moves g.S.BlockSet.has;
  apply = apply_moves g.S.BlockSet.has;
  paid = paid_is_free g.S.BlockSet.has;
  pays = reservation_pays c.need_law.ensures.splits;
}
