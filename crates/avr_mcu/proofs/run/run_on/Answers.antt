use Rattle.std.proofs.Common.{Some, None, subst, arith}
use Rattle.avr_mcu.specs.Hurry.{GoesFurther, Rounds}
use Rattle.avr_mcu.specs.Run.{run}
use Rattle.avr_mcu.proofs.run.run_on.Goals as goal

pub returns-in-Some : goal.returns-in-Some
returns-in-Some c =
    subst (λ e. Rounds e c.args.limit c.turns.mcu c.round.new.mcu c.round.new.peer c.round.new.serial.items (run c.args.limit c.args.mcu.now c.args.peer.now.left)) c.in-Some.is
    (c.in_ok-end.ensures (run c.args.limit c.args.mcu.now c.args.peer.now.left) c.turns.invariant.fresh c.turns.invariant.whole)

pub turns-smaller : goal.turns-smaller
turns-smaller c =
    let on : GoesFurther c.args.limit c.turns.mcu c.round.new.mcu c.round.new.peer c.round.new.serial.items (run c.args.limit c.args.mcu.now c.args.peer.now.left) =
    subst (λ e. Rounds e c.args.limit c.turns.mcu c.round.new.mcu c.round.new.peer c.round.new.serial.items (run c.args.limit c.args.mcu.now c.args.peer.now.left)) c.in-None.is
    (c.in_ok-end.ensures (run c.args.limit c.args.mcu.now c.args.peer.now.left) c.turns.invariant.fresh c.turns.invariant.whole) in
    omega (arith, on.rises, on.below)

pub turns-preserved : goal.turns-preserved
turns-preserved c =
    let on : GoesFurther c.args.limit c.turns.mcu c.round.new.mcu c.round.new.peer c.round.new.serial.items (run c.args.limit c.args.mcu.now c.args.peer.now.left) =
    subst (λ e. Rounds e c.args.limit c.turns.mcu c.round.new.mcu c.round.new.peer c.round.new.serial.items (run c.args.limit c.args.mcu.now c.args.peer.now.left)) c.in-None.is
    (c.in_ok-end.ensures (run c.args.limit c.args.mcu.now c.args.peer.now.left) c.turns.invariant.fresh c.turns.invariant.whole) in
    record { cycles = omega (arith, on.below, c.requires.limit); fresh = on.unwanted; whole = on.rest }
