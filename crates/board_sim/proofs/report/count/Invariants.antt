use Rattle.std.proofs.Common.{◌≡◌, ◌≤◌, take, reverse}
use Rattle.std.specs.List.{count_by}
use Rattle.board_sim.specs.Report.{is_bus, is_link, is_failed}
use Rattle.board_sim.proofs.report.count.Given as goal

abbrev pub invariant-loop-place : goal.invariant-loop-place
invariant-loop-place l = record {
  bus : l.counts.bus ≡ count_by is_bus (take l.place (reverse l.history.past));
  link : l.counts.link ≡ count_by is_link (take l.place (reverse l.history.past));
  faults : l.counts.faults ≡ count_by is_failed (take l.place (reverse l.history.past));
  few_bus : l.counts.bus ≤ l.place;
  few_link : l.counts.link ≤ l.place;
  few_faults : l.counts.faults ≤ l.place;
}
