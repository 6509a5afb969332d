-- Whether a link event fits, by the fields of the parts.
use Rattle.std.specs.Prelude.{ℕ, Bool, false, None, slice_index_or}
use Rattle.chip_sheet.specs.declared.event.LinkEntry.{LinkEntry}
use Rattle.chip_sheet.specs.declared.socket.Status.TheVariants.{Closed}
use Rattle.chip_sheet.specs.LinkCalls.{no_address, outgoing_of, incoming_of, fits_either}
use Rattle.sock_cmd.specs.declared.life.Life.{Life}
use Rattle.sock_cmd.specs.Lives.{life_of, address_of, port_of}
use Rattle.ring_mem.specs.Buffers.{flight_of, rx_free}
use Rattle.chip_parts.specs.declared.parts.Parts.{Parts}

-- The life of a socket that there is not.
abbrev pub no_life : Life
no_life = record { status = Closed; lives = 0; ended = false; shut = false; asked = false; to_forget = None; address = no_address; port = 0 }

-- It fits socket n, where this is its life, so many bytes are in flight and so many are free of its RX buffer.
abbrev pub fits_life : ℕ → Life → ℕ → ℕ → LinkEntry → Bool
fits_life n life flight free what =
    fits_either (outgoing_of n (life_of life) (address_of life) (port_of life) flight) (incoming_of n (life_of life) (port_of life) free) flight free what

-- It fits socket n of these parts.
abbrev pub fits_here : Parts → ℕ → LinkEntry → Bool
fits_here parts n what = fits_life n (slice_index_or parts.lives n no_life) (flight_of parts.rings n) (rx_free parts.rings n) what
