use Rattle.std.proofs.Common.{◌<◌, arith, sym, subst, []}
use Rattle.avr_mcu.specs.State.{McuState}
use Rattle.avr_run.specs.Told.{SoFar, Ended}
use Rattle.avr_run.proofs.run.run_told.Goals as goal

pub returns-in-Some : goal.returns-in-Some
returns-in-Some g c = λ start far.
    subst (λ bytes. Ended c.args.limit start bytes c.take_turn-turn.new.mcu (g.B.ToldPeer.told c.take_turn-turn.new.peer) c.in-Some.end) (sym c.in_ok-add.ensures)
    (c.take_turn-turn.ensures.ends c.in-Some.end c.in-Some.is start c.turns.serial.items (c.turns.invariant.so_far start far))

pub returns-in-Some-end : goal.returns-in-Some-end
returns-in-Some-end g c = λ start far.
    let turned : SoFar c.args.limit start c.add.new.serial.items c.take_turn-turn.new.mcu (g.B.ToldPeer.told c.take_turn-turn.new.peer) =
    subst (λ bytes. SoFar c.args.limit start bytes c.take_turn-turn.new.mcu (g.B.ToldPeer.told c.take_turn-turn.new.peer)) (sym c.in_ok-add.ensures)
    (c.take_turn-turn.ensures.goes c.in-None.is start c.turns.serial.items (c.turns.invariant.so_far start far)) in
    subst (λ bytes. Ended c.args.limit start bytes c.take_stretch-stretch.new.mcu (g.B.ToldPeer.told c.take_turn-turn.new.peer) c.in-Some-end.end) (sym c.in_ok-add-2.ensures)
    (c.take_stretch-stretch.ensures.ends c.in-Some-end.end c.in-Some-end.is start c.add.new.serial.items (g.B.ToldPeer.told c.take_turn-turn.new.peer) turned)

pub turns-preserved : goal.turns-preserved
turns-preserved g c =
    let below : c.take_stretch-stretch.new.mcu.devices.cycles < c.args.limit = c.take_stretch-stretch.ensures.below c.in-None-end.is in
    record {
      cycles = omega (arith, below, c.requires.limit);
      so_far = λ start far.
          let turned : SoFar c.args.limit start c.add.new.serial.items c.take_turn-turn.new.mcu (g.B.ToldPeer.told c.take_turn-turn.new.peer) =
          subst (λ bytes. SoFar c.args.limit start bytes c.take_turn-turn.new.mcu (g.B.ToldPeer.told c.take_turn-turn.new.peer)) (sym c.in_ok-add.ensures)
          (c.take_turn-turn.ensures.goes c.in-None.is start c.turns.serial.items (c.turns.invariant.so_far start far)) in
          subst (λ bytes. SoFar c.args.limit start bytes c.take_stretch-stretch.new.mcu (g.B.ToldPeer.told c.take_turn-turn.new.peer)) (sym c.in_ok-add-2.ensures)
          (c.take_stretch-stretch.ensures.goes c.in-None-end.is start c.add.new.serial.items (g.B.ToldPeer.told c.take_turn-turn.new.peer) turned);
    }
