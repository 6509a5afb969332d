use Rattle.board_top.proofs.Completed.{completed}
use Rattle.board_top.proofs.Topped.{top_follows}
use Rattle.board_top.proofs.top.top.Goals as goal

pub returns-clause-legal : goal.returns-clause-legal
returns-clause-legal g c = (top_follows _ _ _ _ _ _ _ _ c.perform.result _ _ _ _ c.perform.ensures.reports).legal

pub returns-clause-unlinked : goal.returns-clause-unlinked
returns-clause-unlinked g c = (top_follows _ _ _ _ _ _ _ _ c.perform.result _ _ _ _ c.perform.ensures.reports).unlinked

pub returns-clause-scripted : goal.returns-clause-scripted
returns-clause-scripted g c = (top_follows _ _ _ _ _ _ _ _ c.perform.result _ _ _ _ c.perform.ensures.reports).scripted

pub returns-clause-tied : goal.returns-clause-tied
returns-clause-tied g c = (top_follows _ _ _ _ _ _ _ _ c.perform.result _ _ _ _ c.perform.ensures.reports).tied

pub returns-clause-made : goal.returns-clause-made
returns-clause-made g c = (top_follows _ _ _ _ _ _ _ _ c.perform.result _ _ _ _ c.perform.ensures.reports).made

pub returns-clause-usage : goal.returns-clause-usage
returns-clause-usage g c = (top_follows _ _ _ _ _ _ _ _ c.perform.result _ _ _ _ c.perform.ensures.reports).usage

pub returns-clause-misses : goal.returns-clause-misses
returns-clause-misses g c = (top_follows _ _ _ _ _ _ _ _ c.perform.result _ _ _ _ c.perform.ensures.reports).missed

pub returns-clause-read_faults : goal.returns-clause-read_faults
returns-clause-read_faults g c = (top_follows _ _ _ _ _ _ _ _ c.perform.result _ _ _ _ c.perform.ensures.reports).unread

pub returns-clause-write_faults : goal.returns-clause-write_faults
returns-clause-write_faults g c = (top_follows _ _ _ _ _ _ _ _ c.perform.result _ _ _ _ c.perform.ensures.reports).written

pub returns-clause-poll_faults : goal.returns-clause-poll_faults
returns-clause-poll_faults g c = (top_follows _ _ _ _ _ _ _ _ c.perform.result _ _ _ _ c.perform.ensures.reports).polled

pub returns-clause-polls : goal.returns-clause-polls
returns-clause-polls g c = (top_follows _ _ _ _ _ _ _ _ c.perform.result _ _ _ _ c.perform.ensures.reports).later

pub returns-clause-complete : goal.returns-clause-complete
returns-clause-complete g c = λ held told reads writes waits.
    completed _ _ _ held _ _ _ _ _ c.perform.result _ _ _ _ told c.perform.ensures.reports reads (λ is. writes ((top_follows _ _ _ _ _ _ _ _ c.perform.result _ _ _ _ c.perform.ensures.reports).written.rose is)) waits
