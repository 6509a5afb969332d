use Rattle.std.proofs.Common.{sym, ◌∙◌}
use Rattle.board_quick.proofs.Shown.{fault_is, fault_told, plain_told}
use Rattle.board_quick.proofs.left.end_told.Goals as goal

pub returns-in-Some-clause-shows : goal.returns-in-Some-clause-shows
returns-in-Some-clause-shows g c = λ o old it.
    rw c.end_refused.ensures.past (fault_told o c.in-Some.fault c.end_refused.result.end c.args.history.past old _ _ (rw (fault_is c.args.end c.in-Some.fault (sym c.text_fault.ensures ∙ c.in-Some.is)) at it) c.end_refused.ensures.adds)

pub returns-in-Some-clause-causes : goal.returns-in-Some-clause-causes
returns-in-Some-clause-causes g c = λ before rises.
    rw (rises.still (λ e. cc (sym (fault_is c.args.end c.in-Some.fault (sym c.text_fault.ensures ∙ c.in-Some.is)) ∙ e))) at c.end_refused.ensures.faults

pub returns-in-None-clause-shows : goal.returns-in-None-clause-shows
returns-in-None-clause-shows g c = λ o old it.
    rw (c.ended.ensures.end, c.ended.ensures.past) (plain_told o c.args.end c.args.history.past old _ (sym c.text_fault.ensures ∙ c.in-None.is) it)
