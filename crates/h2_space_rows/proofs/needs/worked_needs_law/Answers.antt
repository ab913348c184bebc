use Rattle.std.proofs.Common.{refl}
use Rattle.h2_space_rows.proofs.needs.worked_needs_law.Goals as goal

pub returns : goal.returns
returns c = record {
  nothing = refl;
  inodes = refl;
  inodes_and_block = refl;
  five_blocks = refl;
  many_blocks = refl;
  full_chunk = refl;
  one_more = refl;
  in_cursor = refl;
  past_cursor = refl;
  past_next = refl;
}
