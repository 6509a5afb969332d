-- A call that moves bytes is due only where its socket is open.
use Rattle.std.proofs.Common.{◌≡◌, ℕ, ◌/◌, ◌%◌, Bool, true, false, cond, eqb, Option, None, Some, refl}
use Rattle.chip_sheet.specs.declared.event.Addr.{Addr}
use Rattle.chip_sheet.specs.declared.event.ConnId.{ConnId}
use Rattle.chip_sheet.specs.declared.socket.Status.{Status}
use Rattle.chip_sheet.specs.declared.socket.Status.TheVariants.{Established, FinWait, CloseWait, LastAck, Udp}
use Rattle.chip_sheet.specs.declared.socket.Due.{Due}
use Rattle.chip_sheet.specs.declared.socket.Due.TheVariants as due
use Rattle.chip_sheet.specs.Past.{Past}
use Rattle.chip_sheet.specs.Life as sheet
use Rattle.chip_sheet.specs.Streams.{Starts, is_open}
use Rattle.chip_sheet.specs.Windows.{flight, rx_free}
use Rattle.chip_sheet.specs.LinkCalls.{outgoing_in, incoming_in, outgoing, incoming, connection, due_at, kept_address, kept_port}

-- A call that moves bytes.
abbrev pub moves : Due → Bool
moves (due.Write c) = true
moves (due.SendTo c port to) = true
moves (due.Read c) = true
moves (due.ReadAway c) = true
moves (due.RecvFrom c port) = true
moves call = false

moves_out : (at : Status) (c : ConnId) (to : Addr) (port flying : ℕ) (shut : Bool) → moves (outgoing_in at c to port flying shut) ≡ true → is_open at ≡ true
moves_out Established c to port flying shut h = refl
moves_out FinWait c to port flying shut h = refl
moves_out CloseWait c to port flying shut h = refl
moves_out LastAck c to port flying shut h = refl
moves_out Udp c to port flying shut h = refl
moves_out at c to port flying shut h = h

moves_in : (at : Status) (c : ConnId) (port free : ℕ) (ended : Bool) → moves (incoming_in at c port free ended) ≡ true → is_open at ≡ true
moves_in Established c port free ended h = refl
moves_in FinWait c port free ended h = refl
moves_in CloseWait c port free ended h = refl
moves_in LastAck c port free ended h = refl
moves_in Udp c port free ended h = refl
moves_in at c port free ended h = h

out_moves : (old : Option ℕ) (n : ℕ) (call : Due) (at : Status) → (moves call ≡ true → is_open at ≡ true)
    → moves (elim old as (λ o. Due) [ None ↦ call | Some life ↦ due.Drop (connection n life) ]) ≡ true → is_open at ≡ true
out_moves None n call at f h = f h
out_moves (Some life) n call at f h = cc

in_moves : (old : Option ℕ) (call : Due) (at : Status) → (moves call ≡ true → is_open at ≡ true)
    → moves (elim old as (λ o. Due) [ None ↦ call | Some life ↦ due.Nothing ]) ≡ true → is_open at ≡ true
in_moves None call at f h = f h
in_moves (Some life) call at f h = cc

pub out_open : (starts : Starts) (past : Past) (n : ℕ) → moves (outgoing starts past n) ≡ true → is_open (sheet.status past n) ≡ true
out_open starts past n h =
    let at = sheet.life past n in
    let f = flight starts past n in
    let conn = connection n at.lives in
    let to = kept_address past n in
    let port = kept_port past n in
    out_moves at.old n (outgoing_in at.status conn to port f at.shut) at.status (moves_out at.status conn to port f at.shut) h

pub in_open : (starts : Starts) (past : Past) (n : ℕ) → moves (incoming starts past n) ≡ true → is_open (sheet.status past n) ≡ true
in_open starts past n h =
    let at = sheet.life past n in
    let r = rx_free starts past n in
    let conn = connection n at.lives in
    let port = kept_port past n in
    in_moves at.old (incoming_in at.status conn port r at.ended) at.status (moves_in at.status conn port r at.ended) h

at_place : (b : Bool) (out in_ : Due) (open_ : Bool) → (moves out ≡ true → open_ ≡ true) → (moves in_ ≡ true → open_ ≡ true) → moves (cond b out in_) ≡ true → open_ ≡ true
at_place true out in_ open_ f g h = f h
at_place false out in_ open_ f g h = g h

pub due_open : (starts : Starts) (past : Past) (place : ℕ) → moves (due_at starts past place) ≡ true → is_open (sheet.status past (place / 2)) ≡ true
due_open starts past place =
    let n = place / 2 in
    at_place (eqb (place % 2) 0) (outgoing starts past n) (incoming starts past n) (is_open (sheet.status past n)) (out_open starts past n) (in_open starts past n)
