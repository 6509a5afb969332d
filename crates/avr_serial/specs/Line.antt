-- The order of a byte's bits on the line.
use Rattle.std.specs.Prelude.{ℕ, ◌+◌, ◌*◌, ◌/◌, ◌%◌}

-- the byte with its bits in the other order: bit 0 becomes bit 7
abbrev pub mirrored : ℕ → ℕ
mirrored n =
    128 * (n % 2) + 64 * (n / 2 % 2) + 32 * (n / 4 % 2) + 16 * (n / 8 % 2)
    + 8 * (n / 16 % 2) + 4 * (n / 32 % 2) + 2 * (n / 64 % 2) + n / 128 % 2
