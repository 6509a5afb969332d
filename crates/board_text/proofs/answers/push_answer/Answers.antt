use Rattle.std.proofs.Common.{◌≡◌, ℕ, List, [], ◌∷◌, ◌++◌, Result, Ok, Err, OnOk, sym, ◌∙◌}
use Rattle.board_bus.specs.declared.event.BusAnswer.{BusAnswer}
use Rattle.board_text.specs.Adding.{with_printed}
use Rattle.board_text.specs.Answers.{joined, printed}
use Rattle.board_text.proofs.Spaces.{joined_more}
use Rattle.board_text.proofs.answers.push_answer.Goals as goal

added : {T E : Type 0} (r : Result T E) (old new : List ℕ) (a : BusAnswer) → OnOk r (new ≡ with_printed old (printed a))
    → OnOk r ((before : List BusAnswer) → old ≡ joined before → new ≡ joined (before ++ a ∷ []))
added (Ok v) old new a h = λ before is. (rw is at h) ∙ sym (joined_more before a)
added (Err e) old new a h = tt

pub returns : goal.returns
returns c = added c.push_printed.result c.args.text.now.items c.push_printed.new.text.items c.args.answer c.push_printed.ensures
