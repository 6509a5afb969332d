use Rattle.std.proofs.Common.{refl, sym, ◌∙◌}
use Rattle.chip_shared.specs.declared.shared.StepEnd.TheVariants as step_ends
use Rattle.board_sim.specs.declared.end.RunEnd.TheVariants as ends
use Rattle.board_sim.proofs.Ending.{refused_finishes}
use Rattle.board_sim.proofs.runs.unanswered.Goals as goal

pub returns-in-Stopped : goal.returns-in-Stopped
returns-in-Stopped c = λ s e wants.
    refused_finishes (step_ends.Stopped c.in-Stopped.stop) (ends.Chip c.in-Stopped.stop) c.args.board.now c.in-Some.unanswered e s
    (sym c.unanswered.ensures.value ∙ c.in-Some.is) c.in-Stopped.is refl c.unanswered.ensures.cause wants

pub returns-in-TraceFull : goal.returns-in-TraceFull
returns-in-TraceFull c = λ s e wants.
    refused_finishes step_ends.TraceFull ends.TraceFull c.args.board.now c.in-Some.unanswered e s
    (sym c.unanswered.ensures.value ∙ c.in-Some.is) c.in-TraceFull.is refl c.unanswered.ensures.cause wants
