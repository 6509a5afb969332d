use Rattle.board_run.proofs.Gathering.{gathered_bus, gathered_cause}
use Rattle.board_run.proofs.ending.gather.Goals as goal

pub returns-clause-bus : goal.returns-clause-bus
returns-clause-bus g c = gathered_bus c.args.firmware c.args.links c.args.refused c.close.result c.requires.quiet c.close.ensures

pub returns-clause-cause : goal.returns-clause-cause
returns-clause-cause g c = λ before after only.
    gathered_cause c.args.firmware c.args.links c.args.refused c.close.result before after c.requires.ends c.requires.quiet c.close.ensures only
