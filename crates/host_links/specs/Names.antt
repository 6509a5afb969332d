-- Which ports and addresses of the host stand for those that the firmware names.
use Rattle.std.specs.Prelude.{ℕ, Bool, ◌==◌, ◌&&◌, nat_eq, List, Option, None, Some, option_map}
use Rattle.std.specs.List.{find}
use Rattle.std.specs.Cmp.Lexicographic.{pointwise}
use Rattle.chip_sheet.specs.declared.event.Addr.{Addr}

abbrev pub same_address : Addr → Addr → Bool
same_address a b = pointwise nat_eq a.ip b.ip && a.port == b.port

-- What was found, else this.
abbrev pub found_or : {A : Type 0} → A → Option A → A
found_or other (Some x) = x
found_or other None = other

-- The first port that is listed for one of the chip; else the same.
abbrev pub listed_port : List (ℕ × ℕ) → ℕ → Option ℕ
listed_port listens chip = option_map (λ pair. pair.1) (find (λ pair. pair.0 == chip) listens)

abbrev pub host_port : List (ℕ × ℕ) → ℕ → ℕ
host_port listens chip = found_or chip (listed_port listens chip)

-- The first address that is listed for one that the firmware names.
abbrev pub host_addr : List (Addr × Addr) → Addr → Option Addr
host_addr routes named = option_map (λ pair. pair.1) (find (λ pair. same_address pair.0 named) routes)

-- The first from which a route leads to an address of the host; else the same.
abbrev pub named_addr : List (Addr × Addr) → Addr → Option Addr
named_addr routes host = option_map (λ pair. pair.0) (find (λ pair. same_address pair.1 host) routes)

abbrev pub chip_addr : List (Addr × Addr) → Addr → Addr
chip_addr routes host = found_or host (named_addr routes host)
