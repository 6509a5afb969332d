use Rattle.avr_core.proofs.Plain.{IsPerformed, none-over, owes-is, ran-cycles, ran-over}
use Rattle.avr_core.proofs.cpu.Core.run_plain.Goals as goal

pub returns-in-Ran : goal.returns-in-Ran
returns-in-Ran c =
    let done : IsPerformed c.args.code.now c.image.result.now c.args.self.now c.op-op.result.now c.in_flash.result c.perform.result c.perform.new.self c.args.memory.now c.perform.new.bus = record {
      image_is = c.image.ensures;
      at_is = c.in_flash.ensures;
      is_op = c.op-op.ensures;
      sleep = c.in_default.not-Sleep;
      break = c.in_default.not-Break;
      plays = c.perform.ensures;
    } in
    record {
      went = ran-over c.args.code.now c.image.result.now c.args.self.now c.op-op.result.now c.in_flash.result c.in-Ran.cycles c.perform.result c.perform.new.self c.args.memory.now c.perform.new.bus c.in-Ran.is done;
      cycles = ran-cycles c.image.result.now c.args.self.now c.op-op.result.now c.in-Ran.cycles c.perform.result c.perform.new.self c.args.memory.now c.perform.new.bus c.in-Ran.is c.perform.ensures;
      owing = owes-is c.args.code.now c.args.self.now c.op-op.result.now c.in_flash.result c.in_flash.ensures c.op-op.ensures c.in_default.not-Sei c.in_default.not-Reti;
    }

pub returns-in_default-perform : goal.returns-in_default-perform
returns-in_default-perform c =
    let done : IsPerformed c.args.code.now c.image.result.now c.args.self.now c.op-op.result.now c.in_flash.result c.perform.result c.perform.new.self c.args.memory.now c.perform.new.bus = record {
      image_is = c.image.ensures;
      at_is = c.in_flash.ensures;
      is_op = c.op-op.ensures;
      sleep = c.in_default.not-Sleep;
      break = c.in_default.not-Break;
      plays = c.perform.ensures;
    } in
    record {
      went = none-over c.args.code.now c.image.result.now c.args.self.now c.op-op.result.now c.in_flash.result c.perform.result c.perform.new.self c.args.memory.now c.perform.new.bus c.in_default-perform.not-Ran done;
      cycles = tt;
      owing = tt;
    }
