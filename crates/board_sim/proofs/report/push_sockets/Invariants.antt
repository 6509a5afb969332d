use Rattle.std.proofs.Common.{◌≡◌, ◌++◌, string_bytes}
use Rattle.chip_core.specs.Chip.{Stands}
use Rattle.chip_sheet.specs.Past.{Past}
use Rattle.chip_sheet.specs.Streams.{Starts}
use Rattle.board_sim.specs.Report.{sockets_text}
use Rattle.board_sim.proofs.report.push_sockets.Given as goal

abbrev pub invariant-loop-sn : goal.invariant-loop-sn
invariant-loop-sn l =
    (starts : Starts) (past : Past) → Stands starts l.chip past → string_bytes l.text ≡ string_bytes l.initial.text ++ sockets_text starts past l.sn
