use Rattle.std.proofs.Common.{◌∷◌, length, sym, ap, ◌∙◌}
use Rattle.chip_sheet.specs.Past.{Past, entry_of}
use Rattle.chip_core.specs.Chip.{starts_of}
use Rattle.board_judge.proofs.Stepping.{short, together_next}
use Rattle.board_judge.proofs.run.judge_event.Goals as goal

pub fault_of-requires-clause-few : goal.fault_of-requires-clause-few
fault_of-requires-clause-few c =
    c.short_is_few.ensures (starts_of c.args.chip.now) c.args.chip.now c.args.history.now.past c.requires.together.stands (short c.args.history.now.past c.requires.room)

pub returns-in-Some-clause-gives : goal.returns-in-Some-clause-gives
returns-in-Some-clause-gives c =
    let len = sym (c.len.ensures.value ∙ ap length c.reserve.ensures.past) in
    let is = c.fault_of.ensures.is (starts_of c.args.chip.now) c.args.history.now.past c.requires.together.stands len in (sym is ∙ c.in-Some.is, c.reserve.ensures.past)

pub returns-in-None-clause-gives : goal.returns-in-None-clause-gives
returns-in-None-clause-gives c =
    let len = sym (c.len.ensures.value ∙ ap length c.reserve.ensures.past) in
    let is = c.fault_of.ensures.is (starts_of c.args.chip.now) c.args.history.now.past c.requires.together.stands len in
    (sym is ∙ c.in-None.is, c.push.ensures.past ∙ ap (λ (p : Past). entry_of c.args.event ∷ p) c.reserve.ensures.past)

pub returns-in-None-clause-together : goal.returns-in-None-clause-together
returns-in-None-clause-together c =
    let starts = starts_of c.args.chip.now in
    let past = c.args.history.now.past in
    let on = c.fault_of.ensures.goes_on c.in-None.is starts past c.requires.together.stands in
    together_next starts c.fault_of.new.chip c.push.new.self past (entry_of c.args.event) on.0 on.1
    (c.push.ensures.past ∙ ap (λ (p : Past). entry_of c.args.event ∷ p) c.reserve.ensures.past) (c.push.ensures.limit ∙ c.reserve.ensures.limit ∙ c.requires.together.limited)

pub returns-in-None-clause-starts : goal.returns-in-None-clause-starts
returns-in-None-clause-starts c =
    let starts = starts_of c.args.chip.now in
    let on = c.fault_of.ensures.goes_on c.in-None.is starts c.args.history.now.past c.requires.together.stands in
    c.starts_are.ensures starts c.fault_of.new.chip (entry_of c.args.event ∷ c.args.history.now.past) on.0
