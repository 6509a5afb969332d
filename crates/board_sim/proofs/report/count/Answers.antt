use Rattle.std.proofs.Common.{◌≡◌, ◌≤◌, length, Some, reverse, slice_get, arith, sym}
use Rattle.chip_sheet.specs.Past.{entry_of}
use Rattle.board_sim.specs.Report.{is_bus, is_link, is_failed}
use Rattle.board_sim.proofs.Walks.{count_next, count_whole}
use Rattle.board_sim.proofs.report.count.Goals as goal

pub loop-place-preserved : goal.loop-place-preserved
loop-place-preserved c =
    let oldest = reverse c.args.history.now.past in
    let entry = entry_of c.in-Some.event in
    let at : slice_get oldest c.loop-place.place ≡ Some entry = sym c.in-Some.ensures in
    let before = c.loop-place.invariant in
    record {
      bus = count_next is_bus oldest c.loop-place.place entry c.loop-place.counts.bus c.one.result c.is_bus.result at c.is_bus.ensures c.one.ensures.value before.bus;
      link = count_next is_link oldest c.loop-place.place entry c.loop-place.counts.link c.one-in-loop-place.result c.is_link.result at c.is_link.ensures c.one-in-loop-place.ensures.value before.link;
      faults = count_next is_failed oldest c.loop-place.place entry c.loop-place.counts.faults c.one-in-loop-place-2.result c.is_failed.result at c.is_failed.ensures c.one-in-loop-place-2.ensures.value before.faults;
      few_bus = omega (arith, before.few_bus, c.one.ensures.small);
      few_link = omega (arith, before.few_link, c.one-in-loop-place.ensures.small);
      few_faults = omega (arith, before.few_faults, c.one-in-loop-place-2.ensures.small);
    }

pub returns-clause-bus : goal.returns-clause-bus
returns-clause-bus c =
    let all : length c.args.history.now.past ≤ c.loop-place.place = omega (arith, c.loop-place-test.false, c.len-place-end.ensures.value) in
    count_whole is_bus c.args.history.now.past c.loop-place.place c.loop-place.counts.bus all c.loop-place.invariant.bus

pub returns-clause-link : goal.returns-clause-link
returns-clause-link c =
    let all : length c.args.history.now.past ≤ c.loop-place.place = omega (arith, c.loop-place-test.false, c.len-place-end.ensures.value) in
    count_whole is_link c.args.history.now.past c.loop-place.place c.loop-place.counts.link all c.loop-place.invariant.link

pub returns-clause-faults : goal.returns-clause-faults
returns-clause-faults c =
    let all : length c.args.history.now.past ≤ c.loop-place.place = omega (arith, c.loop-place-test.false, c.len-place-end.ensures.value) in
    count_whole is_failed c.args.history.now.past c.loop-place.place c.loop-place.counts.faults all c.loop-place.invariant.faults
