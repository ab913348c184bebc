use Rattle.std.proofs.Common.{◌≡◌, ◌<◌, ◌≤◌, ◌+◌, ◌*◌, ℕ, length, slice_index}
use Rattle.h2_codes.proofs.word.put_word.Given as goal

abbrev pub invariant-loop-i : goal.invariant-loop-i
invariant-loop-i l = record {
  size : length l.bytes ≡ 64;
  inside : (k : ℕ) → k < l.i → slice_index l.bytes (8 * l.j + k) ≡ slice_index l.parts k;
  below : (k : ℕ) → k < 8 * l.j → slice_index l.bytes k ≡ slice_index l.initial.bytes k;
  above : (k : ℕ) → 8 * l.j + l.i ≤ k → slice_index l.bytes k ≡ slice_index l.initial.bytes k;
}
