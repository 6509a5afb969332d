use Rattle.std.proofs.Common.{sym, subst}
use Rattle.avr_mcu.specs.declared.run.RunEnd as firmware
use Rattle.board_sim.specs.Finishing.{Finishes}
use Rattle.board_sim.specs.Seats.{seen}
use Rattle.board_sim.specs.declared.play.Cut.TheVariants as cuts
use Rattle.board_sim.specs.declared.end.RunEnd.TheVariants as ends
use Rattle.board_sim.proofs.Ending.{break_finishes, sleep_finishes, limit_finishes, stop_finishes}
use Rattle.board_sim.proofs.runs.finish_step.Goals as goal

pub returns-in-Break-clause-finishes : goal.returns-in-Break-clause-finishes
returns-in-Break-clause-finishes c = λ s.
    subst (λ (e : firmware.RunEnd). Finishes c.close.result (cuts.Step e) s (seen c.args.board.now) (seen c.close.new.board)) (sym c.in-Break.is)
    (break_finishes c.close.result s (seen c.args.board.now) (seen c.close.new.board) c.close.ensures.end c.close.ensures.closes)

pub returns-in-Sleep-clause-finishes : goal.returns-in-Sleep-clause-finishes
returns-in-Sleep-clause-finishes c = λ s.
    subst (λ (e : firmware.RunEnd). Finishes c.close-in-Sleep.result (cuts.Step e) s (seen c.args.board.now) (seen c.close-in-Sleep.new.board)) (sym c.in-Sleep.is)
    (sleep_finishes c.close-in-Sleep.result s (seen c.args.board.now) (seen c.close-in-Sleep.new.board) c.close-in-Sleep.ensures.end c.close-in-Sleep.ensures.closes)

pub returns-in-CycleLimit-clause-finishes : goal.returns-in-CycleLimit-clause-finishes
returns-in-CycleLimit-clause-finishes c = λ s.
    subst (λ (e : firmware.RunEnd). Finishes c.close-in-CycleLimit.result (cuts.Step e) s (seen c.args.board.now) (seen c.close-in-CycleLimit.new.board)) (sym c.in-CycleLimit.is)
    (limit_finishes c.close-in-CycleLimit.result s (seen c.args.board.now) (seen c.close-in-CycleLimit.new.board) c.close-in-CycleLimit.ensures.end c.close-in-CycleLimit.ensures.closes)

pub returns-in-Stop-clause-finishes : goal.returns-in-Stop-clause-finishes
returns-in-Stop-clause-finishes c = λ s.
    subst (λ (e : firmware.RunEnd). Finishes (ends.Avr c.in-Stop.stop) (cuts.Step e) s (seen c.args.board.now) (seen c.args.board.now)) (sym c.in-Stop.is)
    (stop_finishes s (seen c.args.board.now) c.in-Stop.stop)
