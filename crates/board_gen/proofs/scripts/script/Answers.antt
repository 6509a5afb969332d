use Rattle.std.proofs.Common.{subst}
use Rattle.chip_sheet.specs.Legal.{Legal}
use Rattle.chip_sheet.specs.Streams.{Starts}
use Rattle.board_gen.specs.Shown.{Shown, Shows, shown}
use Rattle.board_gen.proofs.Readings.{shown_read, starts_read, shown_fault, shown_nothing}
use Rattle.board_gen.proofs.scripts.script.Goals as goal

pub returns-in-Ok-clause-shows : goal.returns-in-Ok-clause-shows
returns-in-Ok-clause-shows g c =
    subst (λ (s : Shown). Shows s c.run_read.result.end c.run_read.result.history.past (g.K.Sink.written c.args.out.now) (g.K.Sink.written c.run_read.new.out))
    (shown_read c.args.text.now c.in-Ok.begins c.in-Ok.ensures.begun c.in-Ok.ensures.read) c.run_read.ensures.shows

pub returns-in-Ok-clause-legal : goal.returns-in-Ok-clause-legal
returns-in-Ok-clause-legal g c =
    subst (λ (s : Starts). Legal s c.run_read.result.history.past) (starts_read c.args.text.now c.in-Ok.begins c.in-Ok.ensures.begun c.in-Ok.ensures.read) c.run_read.ensures.legal

pub returns-in-Err-Fault-clause-shows : goal.returns-in-Err-Fault-clause-shows
returns-in-Err-Fault-clause-shows g c =
    rw (c.nothing_ran.ensures.end, c.nothing_ran.ensures.past) (shown_fault c.args.text.now c.in-Err-Fault.fault (g.K.Sink.written c.args.out.now) (rw c.in-Err-Fault.field-0-is at c.in-Err-Fault.ensures.err))

pub returns-in-Err-NoMemory-clause-shows : goal.returns-in-Err-NoMemory-clause-shows
returns-in-Err-NoMemory-clause-shows g c =
    rw (c.nothing_ran-in-Err-NoMemory.ensures.end, c.nothing_ran-in-Err-NoMemory.ensures.past) (shown_nothing (shown c.args.text.now) (g.K.Sink.written c.args.out.now))
