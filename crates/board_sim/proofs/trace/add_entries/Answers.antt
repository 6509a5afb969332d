use Rattle.std.proofs.Common.{◌≤◌, length, arith, sym, ◌∙◌}
use Rattle.chip_sheet.specs.Past.{entry_of}
use Rattle.board_sim.proofs.Traces.{traced_more, traced_cut, traced_all}
use Rattle.board_sim.proofs.trace.add_entries.Goals as goal

pub returns-in-Err-clause-err : goal.returns-in-Err-clause-err
returns-in-Err-clause-err g c =
    traced_cut c.args.lines.now c.loop-place.lines c.args.history.now.past c.loop-place.place (entry_of c.in-Some.event) (g.K.Sink.written c.args.out.now)
    (g.K.Sink.written c.loop-place.out) (g.K.Sink.written c.add_entry.new.out) (sym c.in-Some.ensures) c.loop-place.invariant.so_far c.in-Err.ensures.err

pub loop-place-preserved : goal.loop-place-preserved
loop-place-preserved g c = record {
  so_far = traced_more c.args.lines.now c.loop-place.lines c.add_entry.new.lines c.args.history.now.past c.loop-place.place (entry_of c.in-Some.event)
      (g.K.Sink.written c.args.out.now) (g.K.Sink.written c.loop-place.out) (g.K.Sink.written c.add_entry.new.out) (sym c.in-Some.ensures) c.loop-place.invariant.so_far
      c.in-Ok.ensures.ok;
  faults = c.in-Ok.ensures.faults.still (λ e. cc) ∙ c.loop-place.invariant.faults;
}

pub returns-clause-ok : goal.returns-clause-ok
returns-clause-ok g c =
    let all : length c.args.history.now.past ≤ c.loop-place.place = omega (arith, c.loop-place-test.false, c.len-place-end.ensures.value) in
    traced_all c.args.lines.now c.loop-place.lines c.args.history.now.past c.loop-place.place (g.K.Sink.written c.args.out.now) (g.K.Sink.written c.loop-place.out) all
    c.loop-place.invariant.so_far
