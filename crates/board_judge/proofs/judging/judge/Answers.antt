use Rattle.std.proofs.Common.{subst}
use Rattle.chip_sheet.specs.Legal.{Legal}
use Rattle.chip_sheet.specs.Streams.{Starts}
use Rattle.board_judge.specs.Shown.{Shown, Shows, shown}
use Rattle.board_judge.proofs.Readings.{shown_read, starts_read, shown_nothing}
use Rattle.board_judge.proofs.judging.judge.Goals as goal

pub returns-in-Ok-clause-shows : goal.returns-in-Ok-clause-shows
returns-in-Ok-clause-shows g c =
    subst (λ (s : Shown). Shows s c.judge_read.result.end c.judge_read.result.history.past (g.K.Sink.written c.args.out.now) (g.K.Sink.written c.judge_read.new.out))
    (shown_read c.args.text.now c.in-Ok.begins c.in-Ok.ensures.begun c.in-Ok.ensures.read) c.judge_read.ensures.shows

pub returns-in-Ok-clause-legal : goal.returns-in-Ok-clause-legal
returns-in-Ok-clause-legal g c =
    subst (λ (s : Starts). Legal s c.judge_read.result.history.past) (starts_read c.args.text.now c.in-Ok.begins c.in-Ok.ensures.begun c.in-Ok.ensures.read) c.judge_read.ensures.legal

pub returns-in-Err-NoMemory-clause-shows : goal.returns-in-Err-NoMemory-clause-shows
returns-in-Err-NoMemory-clause-shows g c =
    rw (c.nothing_judged-in-Err-NoMemory.ensures.end, c.nothing_judged-in-Err-NoMemory.ensures.past) (shown_nothing (shown c.args.text.now) (g.K.Sink.written c.args.out.now))
