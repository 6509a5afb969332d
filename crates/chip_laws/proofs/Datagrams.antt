-- Datagrams: while one is in flight another SEND stops; one that comes is put where it fits, and else lost.
use Rattle.std.proofs.Common.{◌≡◌, ◌≤◌, ◌<◌, ℕ, ◌+◌, Bool, true, false, ◌&&◌, ◌||◌, cond, eqb, ltb, leb, List, [], ◌∷◌, ◌++◌, append-nil, length, Some, refl, ap, ◌∙◌, arith}
use Rattle.std.proofs.lemmas.Bool.{eq-eqb}
use Rattle.board_bus.specs.declared.event.BusEvent.{BusEvent}
use Rattle.chip_sheet.specs.declared.event.Addr.{Addr}
use Rattle.chip_sheet.specs.declared.event.Entry.TheVariants.{Link}
use Rattle.chip_sheet.specs.declared.event.LinkEntry.TheVariants.{Datagram}
use Rattle.chip_sheet.specs.declared.phase.Access.{Access}
use Rattle.chip_sheet.specs.declared.phase.Access.TheVariants.{Write}
use Rattle.chip_sheet.specs.declared.block.Block.{Block}
use Rattle.chip_sheet.specs.declared.stop.ChipStop.TheVariants.{SendBusy}
use Rattle.chip_sheet.specs.declared.socket.Status.{Status}
use Rattle.chip_sheet.specs.declared.socket.Status.TheVariants.{Udp}
use Rattle.chip_sheet.specs.declared.socket.Cause.TheVariants as because
use Rattle.chip_sheet.specs.declared.socket.Interrupt.TheVariants.{Received}
use Rattle.chip_sheet.specs.Past.{Past}
use Rattle.chip_sheet.specs.Frames.{access}
use Rattle.chip_sheet.specs.Blocks.{registers_of}
use Rattle.chip_sheet.specs.Life.{lives, status, is_udp}
use Rattle.chip_sheet.specs.Streams.{Starts, is_open, got, put_by, free_behind, header}
use Rattle.chip_sheet.specs.Windows.{flight, rx_free}
use Rattle.chip_sheet.specs.Interrupts.{raised_by, raised_by_life, raised_by_bytes}
use Rattle.chip_sheet.specs.LinkCalls.{fits}
use Rattle.chip_sheet.specs.Stops.{Writes, block_access, where_it, first, stop_by, stop, command_facts, send_too_long, recv_past_end}
use Rattle.chip_sheet.proofs.StopRows.{registers_block}
use Rattle.chip_sheet.proofs.FitLaws.{free_open}
use Rattle.chip_sheet.proofs.SendLaws.{is_less}

pub busy_stops : (starts : Starts) (past : Past) (e : BusEvent) (n : ℕ) → access past e ≡ Write (registers_of n) 0x01 0x20 → status past n ≡ Udp → 0 < flight starts past n → stop starts past e ≡ Some (SendBusy n)
busy_stops starts past e n is udp some =
    let facts = command_facts starts past n in
    let rest = send_too_long n facts.status facts.len facts.free 0x20 ∷ recv_past_end n facts.status facts.asked facts.there 0x20 ∷ [] in
    ap (λ (made : Access). stop_by starts past (block_access made)) is
    ∙ ap (λ (b : Block). stop_by starts past (Writes (registers_of n) b 0x01 0x20)) (registers_block n)
    ∙ ap (λ (b : Bool). first (first (where_it (b && ltb 0 (flight starts past n)) (SendBusy n) ∷ rest) ∷ [])) (ap is_udp udp)
    ∙ ap (λ (b : Bool). first (first (where_it b (SendBusy n) ∷ rest) ∷ [])) (is_less 0 (flight starts past n) some)

-- A datagram that comes.
leb_of : (a b : ℕ) → a ≤ b → leb a b ≡ true
leb_of a b h = grind arith

leb_not : (a b : ℕ) → b < a → leb a b ≡ false
leb_not a b h = grind arith

comes : (starts : Starts) (past : Past) (n : ℕ) (from : Addr) (body : List ℕ) (fit : Bool) → status past n ≡ Udp → leb (8 + length body) (rx_free starts past n) ≡ fit
    → got starts (Link n (Datagram from body) ∷ past) n (lives past n) ≡ got starts past n (lives past n) ++ cond fit (header from (length body) ++ body) []
comes starts past n from body fit udp h =
    let before = got starts past n (lives past n) in
    let free = free_behind starts past n (lives past n) (length before) in
    let what = Datagram from body in
    ap (λ (b : Bool). cond (b && eqb (lives past n) (lives past n)) (before ++ put_by (status past n) free what) before) (eq-eqb n n refl)
    ∙ ap (λ (b : Bool). cond b (before ++ put_by (status past n) free what) before) (eq-eqb (lives past n) (lives past n) refl)
    ∙ ap (λ (at : Status). before ++ put_by at free what) udp
    ∙ ap (λ (f : ℕ). before ++ cond (leb (8 + length body) f) (header from (length body) ++ body) []) (free_open starts past n (ap is_open udp))
    ∙ ap (λ (b : Bool). before ++ cond b (header from (length body) ++ body) []) h

raises : (starts : Starts) (past : Past) (n : ℕ) (from : Addr) (body : List ℕ) → status past n ≡ Udp → raised_by starts past n Received (Link n (Datagram from body)) ≡ leb (8 + length body) (rx_free starts past n)
raises starts past n from body udp =
    let entry = Link n (Datagram from body) in
    ap (λ (b : Bool). raised_by_life (cond b (because.Datagram (length body)) because.Nothing) Received (status past n)
    || raised_by_bytes starts past n entry (cond b (because.Datagram (length body)) because.Nothing) Received (status past n)) (eq-eqb n n refl)
    ∙ ap (λ (at : Status). raised_by_bytes starts past n entry (because.Datagram (length body)) Received at) udp

pub datagram_put : (starts : Starts) (past : Past) (n : ℕ) (from : Addr) (body : List ℕ) → status past n ≡ Udp → 8 + length body ≤ rx_free starts past n
    → (got starts (Link n (Datagram from body) ∷ past) n (lives past n) ≡ got starts past n (lives past n) ++ (header from (length body) ++ body)) × (raised_by starts past n Received (Link n (Datagram from body)) ≡ true)
datagram_put starts past n from body udp fits =
    let fit = leb_of (8 + length body) (rx_free starts past n) fits in
    (comes starts past n from body true udp fit, raises starts past n from body udp ∙ fit)

pub datagram_lost : (starts : Starts) (past : Past) (n : ℕ) (from : Addr) (body : List ℕ) → status past n ≡ Udp → rx_free starts past n < 8 + length body
    → (got starts (Link n (Datagram from body) ∷ past) n (lives past n) ≡ got starts past n (lives past n)) × (raised_by starts past n Received (Link n (Datagram from body)) ≡ false)
datagram_lost starts past n from body udp less =
    let none = leb_not (8 + length body) (rx_free starts past n) less in
    (comes starts past n from body false udp none ∙ append-nil (got starts past n (lives past n)), raises starts past n from body udp ∙ none)

pub header_eight : (from : Addr) (count : ℕ) → length (header from count) ≡ 8
header_eight from count = refl
