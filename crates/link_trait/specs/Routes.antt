-- Routes, as contracts see them.
use Rattle.std.specs.Prelude.{ℕ, List, []}
use Rattle.chip_sheet.specs.declared.event.Addr.{Addr}

-- The ports of the chip with the host's, and the addresses that the firmware names with the host's, in the order in which they
-- were added.
pub record RouteLists : Type 0 where
  pub listens : List (ℕ × ℕ)
  pub routes : List (Addr × Addr)

abbrev pub no_routes : RouteLists
no_routes = record { listens = []; routes = [] }
