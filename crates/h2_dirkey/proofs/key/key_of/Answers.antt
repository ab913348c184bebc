use Rattle.std.proofs.Common.{◌/◌, ◌*◌, ◌^◌, bit_or, ap, arith}
use Rattle.h2_dirkey.specs.Key.{upper_bits}
use Rattle.h2_dirkey.proofs.PickLemmas.{key_fits}
use Rattle.h2_dirkey.proofs.key.key_of.Goals as goal

pub overflow_mul-result : goal.overflow_mul-result
overflow_mul-result c = omega (arith, key_fits c.xxh64-hash.result c.xxh64-hash.type_inv)

pub returns : goal.returns
unfolding upper_bits
returns c = (c.in_ok-check_name.ensures, ap (λ h. bit_or h (2 ^ 63) / 2 ^ 15 * 2 ^ 15) c.xxh64-hash.ensures)
