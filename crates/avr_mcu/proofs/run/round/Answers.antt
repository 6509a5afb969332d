use Rattle.std.proofs.Common.{◌≡◌, Some, None, Option, subst}
use Rattle.avr_mcu.specs.Hurry.{IsHurry, Rounds}
use Rattle.avr_mcu.specs.Run.{Outcome, after, run}
use Rattle.avr_mcu.specs.Turn.{IsTurn}
use Rattle.avr_mcu.specs.declared.run.RunEnd.{RunEnd}
use Rattle.avr_mcu.proofs.Hurries.{if-ok, round-goes, round-ends}
use Rattle.avr_mcu.proofs.run.round.Goals as goal

pub returns-in-Some : goal.returns-in-Some
returns-in-Some c = λ o fresh before.
    round-ends c.args.limit c.args.mcu.now c.turn.new.mcu c.args.peer.now c.turn.new.peer c.args.serial.now.items c.turn.new.serial.items c.in-Some.end o fresh before
    (subst (λ e. IsTurn c.args.limit c.args.mcu.now c.args.peer.now c.args.serial.now.items e c.turn.new.mcu c.turn.new.peer c.turn.new.serial.items) c.in-Some.is c.in_ok-end.ensures)

pub returns-in-None : goal.returns-in-None
returns-in-None c =
    let turn : IsTurn c.args.limit c.args.mcu.now c.args.peer.now c.args.serial.now.items None c.turn.new.mcu c.turn.new.peer c.turn.new.serial.items =
    subst (λ e. IsTurn c.args.limit c.args.mcu.now c.args.peer.now c.args.serial.now.items e c.turn.new.mcu c.turn.new.peer c.turn.new.serial.items) c.in-None.is c.in_ok-end.ensures in
    if-ok (λ (end : Option RunEnd). IsHurry c.args.limit c.turn.new.mcu c.turn.new.serial.items end c.hurry_on.new.mcu c.hurry_on.new.serial.items)
    (λ (end : Option RunEnd). (o : Outcome) → c.args.peer.now.wanted ≡ None → o ≡ after c.args.peer.now.asked c.args.serial.now.items (run c.args.limit c.args.mcu.now c.args.peer.now.left)
    → Rounds end c.args.limit c.args.mcu.now c.hurry_on.new.mcu c.turn.new.peer c.hurry_on.new.serial.items o)
    c.hurry_on.result
    (λ end hurry o fresh before.
    round-goes c.args.limit c.args.mcu.now c.turn.new.mcu c.hurry_on.new.mcu c.args.peer.now c.turn.new.peer c.args.serial.now.items c.turn.new.serial.items c.hurry_on.new.serial.items
    end o fresh before turn hurry)
    c.hurry_on.ensures
