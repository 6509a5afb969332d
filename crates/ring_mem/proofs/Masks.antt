-- A mask that does what a remainder would, at the sizes that a buffer can have.
use Rattle.std.proofs.Common.{◌≡◌, ◌<◌, ℕ, ◌+◌, ◌-◌, ◌%◌, true, bit_and, arith}
use Rattle.std.proofs.lemmas.Bool.Decides.{nat_tests}
use Rattle.std.proofs.lemmas.Nat.{and_mask}
use Rattle.ring_mem.specs.Parts.{is_size}

pub mask_is : (size at : ℕ) → is_size size ≡ true → 0 < size → bit_and at (size - 1) ≡ at % size
mask_is size at known some = grind (arith, nat_tests, and_mask at 10, and_mask at 11, and_mask at 12, and_mask at 13, and_mask at 14)

pub distance_mask : (size from to : ℕ) → is_size size ≡ true → 0 < size → from < 65536 → (to + (65536 - from)) % 65536 % size ≡ (to % size + size - from % size) % size
distance_mask size from to known some short = grind (arith, nat_tests)
