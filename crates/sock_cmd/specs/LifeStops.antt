-- The stops of a command that need no buffer (this profile's own), in the order in which they are looked at.
use Rattle.std.specs.Prelude.{ℕ, Bool, [], ◌∷◌, Option}
use Rattle.chip_sheet.specs.declared.stop.ChipStop.{ChipStop}
use Rattle.chip_sheet.specs.declared.socket.Status.{Status}
use Rattle.chip_sheet.specs.Stops.{first, send_mac, raw_ethernet, multicast, bad_buffer_size}

-- The first that holds of a command byte to socket n, by its status, by what Sn_MR holds, and by whether the buffer sizes of both
-- directions are valid.
abbrev pub life_stop : ℕ → Status → ℕ → Bool → ℕ → Option ChipStop
life_stop n status mode valid c = first (
    send_mac n c ∷
    raw_ethernet n status mode c ∷
    multicast n status mode c ∷
    bad_buffer_size n status mode valid c ∷
    [])
