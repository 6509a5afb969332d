use Rattle.std.proofs.Common.{◌+◌, refl, ap, ◌∙◌, arith}
use Rattle.wz_base.proofs.Gathered.{on_ok, on_err}
use Rattle.board_list.proofs.Listed.{listed_none, listed_more, listed_cut, listed_all}
use Rattle.board_list.proofs.listing.list.Goals as goal

pub loop-at-init : goal.loop-at-init
loop-at-init g c = record { so_far = rw c.requires (listed_none c.args.image.now (g.K.Sink.written c.args.out.now)); faults = refl }

pub returns-in-Err-clause-err : goal.returns-in-Err-clause-err
returns-in-Err-clause-err g c =
    listed_cut c.args.image.now c.loop-at.at c.loop-at.lines (g.K.Sink.written c.args.out.now) (g.K.Sink.written c.loop-at.out) (g.K.Sink.written c.write_entry.new.out)
    c.loop-at.invariant.so_far c.in-Err.ensures.err

pub loop-at-preserved : goal.loop-at-preserved
loop-at-preserved g c = record {
  so_far = listed_more c.args.image.now c.loop-at.at (c.loop-at.at + c.words_said-at.result) c.loop-at.lines c.write_entry.new.lines (g.K.Sink.written c.args.out.now) (g.K.Sink.written c.loop-at.out) (g.K.Sink.written c.write_entry.new.out) c.said_at-said.result
      c.loop-at.invariant.so_far (rw c.used-used.ensures.is at c.loop-at-test.true) c.said_at-said.ensures (ap (λ k. c.loop-at.at + k) c.words_said-at.ensures.is) (rw c.words_said-at.ensures.is at c.words_said-at.ensures.some) c.in-Ok.ensures.ok;
  faults = c.in-Ok.ensures.faults.still (λ e. cc) ∙ c.loop-at.invariant.faults;
}

pub returns-clause-ok : goal.returns-clause-ok
returns-clause-ok g c =
    on_ok c.flush.result (listed_all c.args.image.now c.loop-at.at c.loop-at.lines (g.K.Sink.written c.args.out.now) (g.K.Sink.written c.loop-at.out) (g.K.Sink.written c.flush.new.out)
    c.loop-at.invariant.so_far (rw (← c.used-used.ensures.is) (omega (arith, c.loop-at-test.false)))) c.flush.ensures.ok

pub returns-clause-err : goal.returns-clause-err
returns-clause-err g c =
    on_err c.flush.result (listed_cut c.args.image.now c.loop-at.at c.loop-at.lines (g.K.Sink.written c.args.out.now) (g.K.Sink.written c.loop-at.out) (g.K.Sink.written c.flush.new.out)
    c.loop-at.invariant.so_far) c.flush.ensures.err
