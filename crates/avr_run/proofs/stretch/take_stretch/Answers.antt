use Rattle.std.proofs.Common.{◌∙◌, ap}
use Rattle.avr_mcu.specs.Run.{at_limit}
use Rattle.avr_run.proofs.Runs.{stretch-goes, stretch-ends}
use Rattle.avr_run.proofs.stretch.take_stretch.Goals as goal

pub returns-clause-goes : goal.returns-clause-goes
returns-clause-goes c =
    stretch-goes c.args.limit c.hurry-steps.result c.args.mcu.now c.hurry-steps.new.self c.printed-byte.new.self c.printed-byte.result c.at_limit-end.result
    c.requires.below c.hurry-steps.ensures.goes (c.at_limit-end.ensures ∙ ap (λ n. at_limit c.args.limit n) c.cycles.ensures) c.printed-byte.ensures.value c.printed-byte.ensures.state

pub returns-clause-ends : goal.returns-clause-ends
returns-clause-ends c =
    stretch-ends c.args.limit c.hurry-steps.result c.args.mcu.now c.hurry-steps.new.self c.printed-byte.new.self c.printed-byte.result c.at_limit-end.result
    c.requires.below c.hurry-steps.ensures.goes (c.at_limit-end.ensures ∙ ap (λ n. at_limit c.args.limit n) c.cycles.ensures) c.printed-byte.ensures.value c.printed-byte.ensures.state
