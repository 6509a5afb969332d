use Rattle.std.proofs.Common.{[]}
use Rattle.board_judge.specs.Judged.{judged}
use Rattle.board_judge.specs.Run.{entries_in}
use Rattle.board_judge.specs.Shown.{told}
use Rattle.board_judge.specs.Views.{starts_said}
use Rattle.board_judge.proofs.Readings.{shown_nothing}
use Rattle.board_judge.proofs.judging.judge_read.Goals as goal

pub returns-in-Err-clause-shows : goal.returns-in-Err-clause-shows
returns-in-Err-clause-shows g c =
    let begins = c.args.begins in
    rw (c.nothing_judged.ensures.end, c.nothing_judged.ensures.past)
    (shown_nothing (told (judged (starts_said begins.starts) [] (entries_in begins.rest.now))) (g.K.Sink.written c.args.out.now))
