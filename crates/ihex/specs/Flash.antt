-- Data bytes with their places, and the flash that they make.
use Rattle.std.specs.Prelude.{ℕ, ◌+◌, ◌==◌, List, [], ◌∷◌, slice_set}
use Rattle.std.specs.List.{filter}

-- A data byte and the flash address where it stands.
pub record Placed : Type 0 where
  pub place : ℕ
  pub byte : ℕ

-- Data bytes from a place on: each stands at that place plus its index.
abbrev pub placed : ℕ → List ℕ → List Placed
placed at [] = []
placed at (b ∷ more) = record { place = at; byte = b } ∷ placed (at + 1) more

-- An image with these data bytes over it, one after another.
abbrev pub written : List ℕ → List Placed → List ℕ
written image [] = image
written image (p ∷ more) = written (slice_set image p.place p.byte) more

-- The last byte, else the one given.
abbrev pub last_byte : ℕ → List Placed → ℕ
last_byte none [] = none
last_byte none (p ∷ more) = last_byte p.byte more

-- The data bytes that stand at a place, in their order.
abbrev pub bytes_at : ℕ → List Placed → List Placed
bytes_at at = filter (λ p. p.place == at)

-- Flash byte `at`: the last data byte whose place it is, else FF.
abbrev pub flash_byte : List Placed → ℕ → ℕ
flash_byte ps at = last_byte 255 (bytes_at at ps)
