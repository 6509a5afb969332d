-- Link tokens of scripts: `@n:` and what the link of socket n did.
use Rattle.std.specs.Prelude.{ℕ, ◌-◌, nat_le, ◌==◌, ◌&&◌, List, [], ◌∷◌, Option, None, Some, option_map, codes, if◌then◌else◌}
use Rattle.std.specs.List.{slice_split}
use Rattle.std.specs.Str.{bytes_eq}
use Rattle.chip_sheet.specs.declared.event.Addr.{Addr}
use Rattle.chip_sheet.specs.declared.event.LinkEntry.{LinkEntry}
use Rattle.chip_sheet.specs.declared.event.LinkEntry.TheVariants.{Linked, Accepted, Refused, TimedOut, Took, Got, Datagram, Ended, Shut, Failed, Dropped}
use Rattle.chip_sheet.specs.Replay.{Step, Happens}
use Rattle.board_read.specs.Numbers.{port, count, address}
use Rattle.board_read.specs.Bytes.{bytes}

-- The words that stand alone.
abbrev pub bare : List ℕ → Option LinkEntry
bare word =
    if bytes_eq word (codes "linked") then Some Linked else
    if bytes_eq word (codes "refused") then Some Refused else
    if bytes_eq word (codes "timedout") then Some TimedOut else
    if bytes_eq word (codes "ended") then Some Ended else
    if bytes_eq word (codes "shut") then Some Shut else
    if bytes_eq word (codes "failed") then Some Failed else
    if bytes_eq word (codes "dropped") then Some Dropped else None

-- `took:K` and `got:HEX`.
abbrev pub counted : List ℕ → List ℕ → Option LinkEntry
counted word field =
    if bytes_eq word (codes "took") then option_map Took (count field) else
    if bytes_eq word (codes "got") then option_map Got (bytes field) else None

-- An address and its port.
abbrev pub peer_of : Option (List ℕ) → Option ℕ → Option Addr
peer_of (Some ip) (Some p) = Some (record { ip = ip; port = p })
peer_of ip p = None

abbrev pub peer : List ℕ → List ℕ → Option Addr
peer addr number = peer_of (address addr) (port number)

-- `accepted:ADDR:PORT`.
abbrev pub accepted : List ℕ → List ℕ → List ℕ → Option LinkEntry
accepted word addr number =
    if bytes_eq word (codes "accepted") then option_map Accepted (peer addr number) else None

abbrev pub datagram_of : Option Addr → Option (List ℕ) → Option LinkEntry
datagram_of (Some from) (Some body) = Some (Datagram from body)
datagram_of from body = None

-- `datagram:ADDR:PORT:HEX`.
abbrev pub datagram : List ℕ → List ℕ → List ℕ → List ℕ → Option LinkEntry
datagram word addr number hex =
    if bytes_eq word (codes "datagram") then datagram_of (peer addr number) (bytes hex) else None

-- What happened, from the parts behind the first colon.
abbrev pub what : List (List ℕ) → Option LinkEntry
what [] = None
what (word ∷ []) = bare word
what (word ∷ field ∷ []) = counted word field
what (word ∷ addr ∷ number ∷ []) = accepted word addr number
what (word ∷ addr ∷ number ∷ hex ∷ []) = datagram word addr number hex
what (word ∷ addr ∷ number ∷ hex ∷ more ∷ others) = None

-- The socket of `@n`, with n from 0 to 7: 64 is @, and 48 to 55 are 0 to 7.
abbrev pub socket : List ℕ → Option ℕ
socket [] = None
socket (c ∷ []) = None
socket (c ∷ n ∷ []) = if (c == 64) && nat_le 48 n && nat_le n 55 then Some (n - 48) else None
socket (c ∷ n ∷ more ∷ others) = None

abbrev pub happens : Option ℕ → Option LinkEntry → Option Step
happens (Some n) (Some entry) = Some (Happens n entry)
happens n entry = None

-- The step of a link token, from the parts between its colons.
abbrev pub link_parts : List (List ℕ) → Option Step
link_parts [] = None
link_parts (place ∷ parts) = happens (socket place) (what parts)

-- The step of a link token: 58 is a colon.
abbrev pub link : List ℕ → Option Step
link token = link_parts (slice_split (λ b. b == 58) token)
