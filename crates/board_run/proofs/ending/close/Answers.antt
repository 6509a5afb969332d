use Rattle.std.proofs.Common.{refl, inr}
use Rattle.chip_shared.specs.Causes.{Does}
use Rattle.board_run.proofs.Closed.{closing_still, closing_stalls, memory_enough}
use Rattle.board_run.proofs.ending.close.Goals as goal

pub returns-in-NoMemory-clause-bus : goal.returns-in-NoMemory-clause-bus
returns-in-NoMemory-clause-bus g c =
    let still = closing_still (Does g.L.Links.effect g.L.Links.shown) c.args.shared.now c.closing.result c.closing.new.self c.closing.ensures.steps in
    record { events_are = still.asked; answers_are = still.answers }

pub returns-in-NoMemory-clause-starts : goal.returns-in-NoMemory-clause-starts
returns-in-NoMemory-clause-starts g c =
    (closing_still (Does g.L.Links.effect g.L.Links.shown) c.args.shared.now c.closing.result c.closing.new.self c.closing.ensures.steps).starts

pub returns-in-NoMemory-clause-limit : goal.returns-in-NoMemory-clause-limit
returns-in-NoMemory-clause-limit g c =
    (closing_still (Does g.L.Links.effect g.L.Links.shown) c.args.shared.now c.closing.result c.closing.new.self c.closing.ensures.steps).limit

pub returns-in-Clear : goal.returns-in-Clear
returns-in-Clear g c =
    let still = closing_still (Does g.L.Links.effect g.L.Links.shown) c.args.shared.now c.closing.result c.closing.new.self c.closing.ensures.steps in
    record {
      end = inr refl;
      bus = record { events_are = still.asked; answers_are = still.answers };
      stalls = λ same own. closing_stalls g.L.Links.shown c.closing.result (g.L.Links.shown c.args.shared.now.links) c.closing.new.self (memory_enough c.closing.result c.in-Clear.is) c.closing.ensures.leaves;
      starts = still.starts;
      limit = still.limit;
    }
