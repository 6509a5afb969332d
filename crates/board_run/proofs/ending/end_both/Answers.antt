use Rattle.std.proofs.Common.{◌∙◌}
use Rattle.board_run.proofs.Closed.{ends_with, none_unstopped, not_finished}
use Rattle.board_run.proofs.ending.end_both.Goals as goal

pub end_of-end-requires-clause-unstopped : goal.end_of-end-requires-clause-unstopped
end_of-end-requires-clause-unstopped g c =
    let it = c.requires.gave in
    none_unstopped c.args.refused c.gather-shared.result it.0 it.1.0 (c.gather-shared.ensures.cause it.0 it.1.0 it.1.1)

pub end_of-end-requires-clause-cause : goal.end_of-end-requires-clause-cause
end_of-end-requires-clause-cause g c =
    let it = c.requires.gave in
    not_finished c.args.refused c.gather-shared.result it.0 it.1.0 (c.gather-shared.ensures.cause it.0 it.1.0 it.1.1)

pub returns-clause-over : goal.returns-clause-over
returns-clause-over g c = record {
  bus = record {
    events_are = c.end_of-end.ensures.bus.events_are ∙ c.gather-shared.ensures.bus.events_are;
    answers_are = c.end_of-end.ensures.bus.answers_are ∙ c.gather-shared.ensures.bus.answers_are;
  };
  ends = λ before after only.
      ends_with c.args.cut c.args.refused c.gather-shared.result c.end_of-end.result c.end_of-end.new.shared before after c.end_of-end.ensures.end
      (c.gather-shared.ensures.cause before after only);
  stalls = c.end_of-end.ensures.stalls;
}
