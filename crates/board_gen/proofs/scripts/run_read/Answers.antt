use Rattle.std.proofs.Common.{[]}
use Rattle.board_gen.specs.Heads.{starts_said}
use Rattle.board_gen.specs.Run.{lines_in}
use Rattle.board_gen.specs.Shown.{shown_from}
use Rattle.board_gen.proofs.Readings.{shown_nothing}
use Rattle.board_gen.proofs.scripts.run_read.Goals as goal

pub returns-in-Err-clause-shows : goal.returns-in-Err-clause-shows
returns-in-Err-clause-shows g c =
    let begins = c.args.begins in
    rw (c.nothing_ran.ensures.end, c.nothing_ran.ensures.past)
    (shown_nothing (shown_from (starts_said begins) [] begins.number (lines_in begins.rest.now)) (g.K.Sink.written c.args.out.now))
