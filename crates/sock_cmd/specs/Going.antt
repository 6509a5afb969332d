-- How the laws of a socket's life name what they say.
use Rattle.std.specs.Prelude.{◌≡◌, ◌<◌, ℕ, ◌/◌, List, [], ◌∷◌, length, slice_set, Option}
use Rattle.chip_sheet.specs.declared.event.Entry.{Entry}
use Rattle.chip_sheet.specs.declared.stop.ChipStop.{ChipStop}
use Rattle.chip_sheet.specs.declared.socket.Cause.TheVariants as because
use Rattle.chip_sheet.specs.declared.socket.Due.{Due}
use Rattle.chip_sheet.specs.Past.{Past}
use Rattle.chip_sheet.specs.Life.{cause}
use Rattle.chip_sheet.specs.Peers.{destination, source_port}
use Rattle.chip_sheet.specs.Streams.{Starts}
use Rattle.chip_sheet.specs.Windows.{flight, rx_free}
use Rattle.chip_sheet.specs.Stops.{CommandFacts, first, send_busy, send_too_long, recv_past_end}
use Rattle.sock_cmd.specs.declared.life.Life.{Life}
use Rattle.sock_cmd.specs.Lives.{Happened, IsAfter, AllAfter, due_of}
use Rattle.sock_cmd.specs.LifeStops.{life_stop}

-- What the entry is for socket n happened, while the registers held what this past leaves in them.
abbrev pub Happens : Life → Past → Entry → ℕ → Life → Type 0
Happens before past entry n after = Happened before (cause past n entry) (destination past n) (source_port past n) after

-- Of the sockets of a past socket n goes on with the entry, which is nothing for the others; so they are those of the past with it.
abbrev pub OneGoesOn : List Life → Past → Entry → ℕ → Life → Type 0
OneGoesOn sockets past entry n after =
    AllAfter sockets past → n < length sockets → IsAfter after (entry ∷ past) n → ((m : ℕ) → (m ≡ n → ⊥) → cause past m entry ≡ because.Nothing)
    → AllAfter (slice_set sockets n after) (entry ∷ past)

-- What the socket answers at a place, where so many bytes are in flight and free as this past leaves.
abbrev pub due_by : Starts → Past → ℕ → Life → Due
due_by starts past place socket = due_of place socket (flight starts past (place / 2)) (rx_free starts past (place / 2))

-- The stops of a command by these facts, in the order in which they are looked at.
abbrev pub ordered_stops : ℕ → CommandFacts → ℕ → List (Option ChipStop)
ordered_stops n facts c =
    life_stop n facts.status facts.mode facts.valid c ∷
    send_busy n facts.status facts.flight c ∷
    send_too_long n facts.status facts.len facts.free c ∷
    recv_past_end n facts.status facts.asked facts.there c ∷
    []
