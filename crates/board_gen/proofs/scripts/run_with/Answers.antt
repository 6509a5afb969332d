use Rattle.std.proofs.Common.{[], length, arith, sym, subst}
use Rattle.chip_sheet.specs.Past.{Past}
use Rattle.board_gen.specs.Heads.{starts_said}
use Rattle.board_gen.specs.Run.{lines_in}
use Rattle.board_gen.specs.SessionState.{HasTextRoom}
use Rattle.board_gen.specs.Shown.{shown_from}
use Rattle.board_gen.proofs.Readings.{shown_nothing}
use Rattle.board_gen.proofs.Weights.{text_begins}
use Rattle.board_gen.proofs.scripts.run_with.Goals as goal

pub run_script-end-requires-clause-light : goal.run_script-end-requires-clause-light
run_script-end-requires-clause-light g c =
    subst (λ (p : Past). HasTextRoom p (length c.args.begins.rest.now)) (sym c.in-Ok.ensures.past) (text_begins (length c.args.begins.rest.now) (omega arith))

pub returns-in-Err-clause-shows : goal.returns-in-Err-clause-shows
returns-in-Err-clause-shows g c =
    let begins = c.args.begins in
    rw (c.nothing_ran.ensures.end, c.nothing_ran.ensures.past)
    (shown_nothing (shown_from (starts_said begins) [] begins.number (lines_in begins.rest.now)) (g.K.Sink.written c.args.out.now))
