use Rattle.board_quick.proofs.Answered.{answers_each, answers_live, answers_untouched}
use Rattle.board_quick.proofs.Reported.{reports_failed, reports_follows, reports_missed, reports_usage}
use Rattle.board_quick.proofs.quick.quick.Goals as goal

pub returns-clause-live : goal.returns-clause-live
returns-clause-live g c = answers_live _ _ _ _ c.run_words.result _ _ _ _ c.run_words.ensures.reports

pub returns-clause-untouched : goal.returns-clause-untouched
returns-clause-untouched g c = answers_untouched _ _ _ _ c.run_words.result _ _ _ _ c.run_words.ensures.reports

pub returns-clause-reports : goal.returns-clause-reports
returns-clause-reports g c = answers_each _ _ _ _ _ c.run_words.result _ _ _ _ (λ r it. it) c.run_words.ensures.reports

pub returns-clause-legal : goal.returns-clause-legal
returns-clause-legal g c = answers_each _ _ _ _ _ c.run_words.result _ _ _ _ (λ r it. (reports_follows _ _ _ _ r _ _ _ _ it).legal) c.run_words.ensures.reports

pub returns-clause-status : goal.returns-clause-status
returns-clause-status g c = answers_each _ _ _ _ _ c.run_words.result _ _ _ _ (λ r it. r.status_of_end) c.run_words.ensures.reports

pub returns-clause-scripted : goal.returns-clause-scripted
returns-clause-scripted g c = answers_each _ _ _ _ _ c.run_words.result _ _ _ _ (λ r it. (reports_follows _ _ _ _ r _ _ _ _ it).scripted) c.run_words.ensures.reports

pub returns-clause-tied : goal.returns-clause-tied
returns-clause-tied g c = answers_each _ _ _ _ _ c.run_words.result _ _ _ _ (λ r it. (reports_follows _ _ _ _ r _ _ _ _ it).tied) c.run_words.ensures.reports

pub returns-clause-made : goal.returns-clause-made
returns-clause-made g c = answers_each _ _ _ _ _ c.run_words.result _ _ _ _ (λ r it. (reports_follows _ _ _ _ r _ _ _ _ it).made) c.run_words.ensures.reports

pub returns-clause-no_poll_fault : goal.returns-clause-no_poll_fault
returns-clause-no_poll_fault g c = answers_each _ _ _ _ _ c.run_words.result _ _ _ _ (λ r it. (reports_follows _ _ _ _ r _ _ _ _ it).no_poll_fault) c.run_words.ensures.reports

pub returns-clause-usage : goal.returns-clause-usage
returns-clause-usage g c = answers_each _ _ _ _ _ c.run_words.result _ _ _ _ (λ r it. reports_usage _ _ _ _ r _ _ _ _ it) c.run_words.ensures.reports

pub returns-clause-misses : goal.returns-clause-misses
returns-clause-misses g c = answers_each _ _ _ _ _ c.run_words.result _ _ _ _ (λ r it. reports_missed _ _ _ _ r _ _ _ _ it) c.run_words.ensures.reports

pub returns-clause-read_faults : goal.returns-clause-read_faults
returns-clause-read_faults g c = answers_each _ _ _ _ _ c.run_words.result _ _ _ _ (λ r it. reports_failed _ _ _ _ r _ _ _ _ it) c.run_words.ensures.reports

pub returns-clause-write_faults : goal.returns-clause-write_faults
returns-clause-write_faults g c = answers_each _ _ _ _ _ c.run_words.result _ _ _ _ (λ r it. (reports_follows _ _ _ _ r _ _ _ _ it).written) c.run_words.ensures.reports
