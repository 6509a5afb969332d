-- What the program's values say, as the definitions of traces have them.
use Rattle.std.specs.Prelude.{Result}
use Rattle.chip_sheet.specs.declared.event.Entry.{Entry}
use Rattle.chip_sheet.specs.declared.event.Entry.TheVariants as entry
use Rattle.chip_sheet.specs.Streams.{Starts}
use Rattle.board_gen.specs.declared.fault.ScriptFault.{ScriptFault}
use Rattle.board_gen.specs.Views.{entry_of}
use Rattle.board_judge.specs.declared.entries.TraceEntry.{TraceEntry}
use Rattle.board_judge.specs.declared.entries.TraceEntry.TheVariants.{Bus, Link, Rest}
use Rattle.board_judge.specs.declared.head.StartPointers.{StartPointers}
use Rattle.board_judge.specs.declared.check.Beginning.{Beginning}
use Rattle.board_judge.specs.Trace.{Traced, entries_from, trace_lines, traced}

-- The entry that a line says.
abbrev pub entry_said : TraceEntry → Entry
entry_said (Bus e a) = entry.Bus e a
entry_said (Link step) = entry.Link step.socket (entry_of step.what)
entry_said Rest = entry.Rest

abbrev pub starts_said : StartPointers → Starts
starts_said p = record { tx = p.tx_start; rx = p.rx_start }

-- The trace that begins so.
abbrev pub trace_begun : Beginning → Result Traced ScriptFault
trace_begun b = traced (starts_said b.starts) (entries_from 2 (trace_lines b.rest.now))
