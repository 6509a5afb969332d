-- The beginning of a script as the program has it.
use Rattle.std.specs.Prelude.{Result}
use Rattle.chip_sheet.specs.Streams.{Starts}
use Rattle.board_gen.specs.declared.fault.ScriptFault.{ScriptFault}
use Rattle.board_gen.specs.declared.head.Head.{Head}
use Rattle.board_gen.specs.declared.head.Head.TheVariants as variants
use Rattle.board_gen.specs.declared.head.Beginning.{Beginning}
use Rattle.board_gen.specs.Script as script

abbrev pub head_said : Head → script.Head
head_said variants.NoHead = script.NoHead
head_said (variants.Pointers tx rx) = script.Pointers (record { tx = tx; rx = rx })
head_said variants.Unreadable = script.Unreadable

abbrev pub starts_said : Beginning → Starts
starts_said b = record { tx = b.tx_start; rx = b.rx_start }

-- The script that begins so: its lines are those of the rest.
abbrev pub script_begun : Beginning → Result script.Scripted ScriptFault
script_begun b =
    script.scripted (starts_said b) b.number (script.lines_from b.number (script.script_lines b.rest.now))
