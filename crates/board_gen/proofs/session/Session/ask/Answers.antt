use Rattle.std.proofs.Common.{◌∷◌, ap, ◌∙◌}
use Rattle.chip_sheet.specs.declared.event.Entry.TheVariants.{Bus}
use Rattle.chip_core.specs.Chip.{starts_of}
use Rattle.board_gen.specs.SessionState.{SessionState}
use Rattle.chip_sheet.specs.Past.{Past}
use Rattle.board_gen.proofs.Together.{short, together_after, together_stopped, takes_asked, stop_found}
use Rattle.board_gen.proofs.session.Session.ask.Goals as goal

pub bus-requires : goal.bus-requires
bus-requires c =
    c.short_is_few.ensures (starts_of c.self.inside.chip) c.self.inside.chip c.self.inside.history.past c.self.invariant.stands
    (short c.self.inside.history.past c.args.self.now.past (ap (λ (s : SessionState). s.past) c.self.view_is) c.requires.light)

pub invariant_of-self-in-Ok : goal.invariant_of-self-in-Ok
invariant_of-self-in-Ok c =
    let starts = starts_of c.self.inside.chip in
    let past = c.self.inside.history.past in
    let stands = (c.in-Ok.ensures.answered starts past c.self.invariant.stands).stands in
    together_after starts c.bus.new.self past (Bus c.args.e c.in-Ok.a) c.push.new.self (c.starts_are.ensures starts c.bus.new.self _ stands) stands
    (rw c.reserve.ensures.past at c.push.ensures.past) (c.push.ensures.limit ∙ c.reserve.ensures.limit ∙ c.self.invariant.limited)

pub returns-in-Ok-clause-starts : goal.returns-in-Ok-clause-starts
returns-in-Ok-clause-starts c =
    let starts = starts_of c.self.inside.chip in
    let stands = (c.in-Ok.ensures.answered starts c.self.inside.history.past c.self.invariant.stands).stands in
    c.starts_are.ensures starts c.bus.new.self _ stands ∙ ap (λ (s : SessionState). s.starts) c.self.view_is

pub invariant_of-self-in-Err : goal.invariant_of-self-in-Err
invariant_of-self-in-Err c =
    let starts = starts_of c.self.inside.chip in
    let past = c.self.inside.history.past in
    let stands = (c.in-Err.ensures.stopped starts past c.self.invariant.stands).stands in
    together_stopped starts c.bus.new.self c.self.inside.history c.reserve.new.self (c.starts_are.ensures starts c.bus.new.self past stands) stands c.reserve.ensures.past c.reserve.ensures.limit c.self.invariant.limited

pub returns-in-Ok-clause-ok : goal.returns-in-Ok-clause-ok
returns-in-Ok-clause-ok c =
    let starts = starts_of c.self.inside.chip in
    let past = c.self.inside.history.past in
    let step = c.in-Ok.ensures.answered starts past c.self.invariant.stands in
    takes_asked starts c.args.self.now.starts past c.args.self.now.past c.push.new.self.past c.args.e c.in-Ok.a (ap (λ (s : SessionState). s.starts) c.self.view_is) (ap (λ (s : SessionState). s.past) c.self.view_is)
    step.allowed step.is (c.push.ensures.past ∙ ap (λ (p : Past). Bus c.args.e c.in-Ok.a ∷ p) c.reserve.ensures.past)

pub returns-in-Ok-clause-running : goal.returns-in-Ok-clause-running
returns-in-Ok-clause-running c = (c.in-Ok.ensures.answered (starts_of c.self.inside.chip) c.self.inside.history.past c.self.invariant.stands).goes_on

pub returns-in-Err-clause-err : goal.returns-in-Err-clause-err
returns-in-Err-clause-err c =
    let starts = starts_of c.self.inside.chip in
    let past = c.self.inside.history.past in
    let stopped = c.in-Err.ensures.stopped starts past c.self.invariant.stands in
    stop_found starts c.args.self.now.starts past c.args.self.now.past c.args.e c.in-Err.stop _ (ap (λ (s : SessionState). s.starts) c.self.view_is) (ap (λ (s : SessionState). s.past) c.self.view_is)
    (ap (λ (s : SessionState). s.stopped) c.self.view_is ∙ c.requires.running) stopped.cause

pub returns-in-Err-clause-starts : goal.returns-in-Err-clause-starts
returns-in-Err-clause-starts c =
    let starts = starts_of c.self.inside.chip in
    let past = c.self.inside.history.past in
    let stands = (c.in-Err.ensures.stopped starts past c.self.invariant.stands).stands in
    c.starts_are.ensures starts c.bus.new.self past stands ∙ ap (λ (s : SessionState). s.starts) c.self.view_is
