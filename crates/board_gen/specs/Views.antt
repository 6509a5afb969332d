-- What the program's values say, as the definitions of scripts have them.
use Rattle.std.specs.Prelude.{◌≡◌, Result, Err}
use Rattle.chip_sheet.specs.declared.event.LinkEntry.TheVariants as entry
use Rattle.chip_sheet.specs.declared.event.LinkEntry.{LinkEntry}
use Rattle.chip_sheet.specs.Replay.{Step, Asks, Happens}
use Rattle.board_gen.specs.declared.token.LinkToken.{LinkToken}
use Rattle.board_gen.specs.declared.token.LinkToken.TheVariants.{Linked, Accepted, Refused, TimedOut, Took, Got, Datagram, Ended, Shut, Failed, Dropped}
use Rattle.board_gen.specs.declared.token.Token.{Token}
use Rattle.board_gen.specs.declared.token.Token.TheVariants.{Bus, Link}
use Rattle.board_gen.specs.declared.fault.ScriptFault.{ScriptFault}
use Rattle.board_gen.specs.declared.fault.ReadError.{ReadError}
use Rattle.board_gen.specs.declared.fault.ReadError.TheVariants.{Fault, NoMemory}

-- What a link token says happened.
abbrev pub entry_of : LinkToken → LinkEntry
entry_of Linked = entry.Linked
entry_of (Accepted from) = entry.Accepted from
entry_of Refused = entry.Refused
entry_of TimedOut = entry.TimedOut
entry_of (Took count) = entry.Took count
entry_of (Got bytes) = entry.Got bytes.items
entry_of (Datagram from bytes) = entry.Datagram from bytes.items
entry_of Ended = entry.Ended
entry_of Shut = entry.Shut
entry_of Failed = entry.Failed
entry_of Dropped = entry.Dropped

-- The step that a token is.
abbrev pub step_of : Token → Step
step_of (Bus e) = Asks e
step_of (Link step) = Happens step.socket (entry_of step.what)

-- An error that reading gives: want of memory, or the fault that is found.
abbrev pub Errs : {Y : Type 0} → ReadError → Result Y ScriptFault → Type 0
Errs NoMemory read = Unit {0}
Errs (Fault fault) read = read ≡ Err fault
