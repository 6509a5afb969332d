-- What a command's effect makes of the two directions, but for SEND and RECV.
use Rattle.chip_sheet.specs.Sending as sends
use Rattle.chip_sheet.specs.Sending.{Sending}
use Rattle.chip_sheet.specs.Receiving as receives
use Rattle.chip_sheet.specs.Receiving.{Receiving}
use Rattle.sock_cmd.specs.declared.command.Effect.{Effect}
use Rattle.sock_cmd.specs.declared.command.Effect.TheVariants.{Opened, Closed}

abbrev pub settled : Effect → Sending → Sending
settled Opened s = sends.after_begin s 0
settled Closed s = sends.after_empty s
settled effect s = s

abbrev pub got_settled : Effect → Receiving → Receiving
got_settled Opened g = receives.after_begin g 0
got_settled Closed g = receives.after_empty g
got_settled effect g = g
