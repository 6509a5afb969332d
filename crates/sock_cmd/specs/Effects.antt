-- What a command comes to (W5500 datasheet, 4.2 Sn_CR).
use Rattle.std.specs.Prelude.{◌≡◌, ◌⊎◌, ℕ, Bool, true, false, None, is_some}
use Rattle.chip_sheet.specs.declared.socket.Status.{Status}
use Rattle.chip_sheet.specs.declared.socket.Status.TheVariants.{Init, Established, CloseWait}
use Rattle.chip_sheet.specs.declared.socket.Cause.{Cause}
use Rattle.chip_sheet.specs.declared.socket.Cause.TheVariants as because
use Rattle.chip_sheet.specs.Life.{Facts, row, protocol_of, command, begins, is_closed}
use Rattle.chip_sheet.specs.Streams.{sends, is_open}
use Rattle.sock_cmd.specs.declared.command.CmdAt.{CmdAt}
use Rattle.sock_cmd.specs.declared.command.Effect.{Effect}
use Rattle.sock_cmd.specs.declared.command.Effect.TheVariants as come_to

-- What a command byte asks, by the mode register.
abbrev pub cause_of : ℕ → CmdAt → Cause
cause_of c at = command (protocol_of at.mr) c

-- The table of socket life has a line for a command in this status.
abbrev pub acts : Status → Cause → Bool
acts status why = is_some (row status why (record { both = false }))

abbrev pub where_it : Bool → Effect → Effect
where_it true effect = effect
where_it false effect = come_to.Nothing

-- A command comes to its effect where the table of socket life has a line for it, SEND where the status sends, and RECV where the
-- socket is open. What is no command comes to nothing.
abbrev pub effect_of : Status → Cause → Effect
effect_of status because.OpenTcp = where_it (acts status because.OpenTcp) come_to.Opened
effect_of status because.OpenUdp = where_it (acts status because.OpenUdp) come_to.Opened
effect_of status because.Listen = where_it (acts status because.Listen) come_to.Listen
effect_of status because.Connect = where_it (acts status because.Connect) come_to.Connect
effect_of status because.Disconnect = where_it (acts status because.Disconnect) come_to.Discon
effect_of status because.Close = where_it (acts status because.Close) come_to.Closed
effect_of status because.Send = where_it (sends status) come_to.Send
effect_of status because.Receive = where_it (is_open status) come_to.Recv
effect_of status why = come_to.Nothing

-- What a command that comes to nothing leaves: no line of the table, no bytes to send, and none to release.
abbrev pub IsIdle : Cause → Status → Type 0
IsIdle because.OpenTcp status = (facts : Facts) → row status because.OpenTcp facts ≡ None
IsIdle because.OpenUdp status = (facts : Facts) → row status because.OpenUdp facts ≡ None
IsIdle because.Listen status = (facts : Facts) → row status because.Listen facts ≡ None
IsIdle because.Connect status = (facts : Facts) → row status because.Connect facts ≡ None
IsIdle because.Disconnect status = (facts : Facts) → row status because.Disconnect facts ≡ None
IsIdle because.Close status = is_closed status ≡ true
IsIdle because.Send status = sends status ≡ false
IsIdle because.Receive status = is_open status ≡ false
IsIdle why status = Unit {0}

-- What an effect says of the command and of the status that it found.
abbrev pub Means : Effect → Cause → Status → Type 0
Means come_to.Nothing why status = IsIdle why status
Means come_to.Opened why status = begins why status ≡ true
Means come_to.Closed why status = (why ≡ because.Close) × (is_closed status ≡ false)
Means come_to.Listen why status = (why ≡ because.Listen) × (status ≡ Init)
Means come_to.Connect why status = (why ≡ because.Connect) × (status ≡ Init)
Means come_to.Discon why status = (why ≡ because.Disconnect) × ((status ≡ Established) ⊎ (status ≡ CloseWait))
Means come_to.Send why status = (why ≡ because.Send) × (sends status ≡ true)
Means come_to.Recv why status = (why ≡ because.Receive) × (is_open status ≡ true)
