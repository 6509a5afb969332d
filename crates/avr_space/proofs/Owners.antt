-- The owner of an address by ranges is the owner by the devices' tables, at every address below SRAM.
use Rattle.std.proofs.Common.{◌≡◌, ℕ, ◌<◌, refl, arith}
use Rattle.avr_space.specs.Owners.{owner_of, owner_by_ranges}
use Rattle.avr_sheet.proofs.Table.{table, same_at}

tables : table (λ (x : ℕ) at. owner_by_ranges at) 0 0 256 ≡ table (λ (x : ℕ) at. owner_of at) 0 0 256
unfolding owner_by_ranges owner_of
tables = refl

pub same_owner : (at : ℕ) → at < 256 → owner_by_ranges at ≡ owner_of at
same_owner at small = same_at (λ (x : ℕ) at. owner_by_ranges at) (λ (x : ℕ) at. owner_of at) 0 0 256 tables at (omega arith) (omega arith)
