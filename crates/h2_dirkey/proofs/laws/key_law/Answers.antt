use Rattle.h2_dirkey.specs.KeyLaws.{upper_bits-low, upper_bits-high, picked_upper}
use Rattle.h2_dirkey.proofs.laws.key_law.Goals as goal

pub returns : goal.returns
returns c = record { low = upper_bits-low; high = upper_bits-high; picked = picked_upper }
