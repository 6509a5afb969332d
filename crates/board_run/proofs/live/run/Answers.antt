use Rattle.std.proofs.Common.{◌≡◌, ℕ, ◌≤◌, List, None, rules, sym, ap, subst}
use Rattle.board_file.specs.Boards.{Setup}
use Rattle.board_sim.specs.Playing.{Printed, printing}
use Rattle.ready_loop.specs.Serving.{GivesFault}
use Rattle.board_run.specs.Leaving.{Begins}
use Rattle.board_run.specs.Lives.{Left, Lives, left_of}
use Rattle.board_run.specs.Ran.{RanTo, side}
use Rattle.board_run.specs.Wires.{WireView}
use Rattle.board_run.proofs.Living.{came, came_lives, cut_wants}
use Rattle.board_run.proofs.live.run.Goals as goal

pub end_both-ended-requires-clause-wants : goal.end_both-ended-requires-clause-wants
end_both-ended-requires-clause-wants g c =
    let ran = c.run_both-ran.result.0 in
    let old : Printed = printing (g.K.Sink.written c.args.out.now) None in
    let mid : Printed = printing (g.K.Sink.written ran.out.now) ran.last in
    let goes : RanTo c.args.cycles ran.cut (side c.args.mcu c.args.started.1 None old) (side ran.mcu ran.pass ran.refused mid) =
    subst (λ (w : WireView). RanTo c.args.cycles ran.cut (side c.args.mcu w.pass w.refused old) (side ran.mcu ran.pass ran.refused mid)) c.new.ensures c.run_both-ran.ensures.ran in
    cut_wants c.args.cycles ran.cut c.args.started.0 c.args.started.1 c.args.mcu ran.mcu ran.pass ran.refused old mid c.requires.ready.still c.requires.first goes.goes

pub returns : goal.returns
returns g c =
    let ran = c.run_both-ran.result.0 in
    let served = c.run_both-ran.result.1 in
    let over = c.end_both-ended.result in
    let left : Left = left_of g.L.Links.shown g.P.Poller.faults c.leave.result in
    let old : Printed = printing (g.K.Sink.written c.args.out.now) None in
    let mid : Printed = printing (g.K.Sink.written ran.out.now) ran.last in
    let goes : RanTo c.args.cycles ran.cut (side c.args.mcu c.args.started.1 None old) (side ran.mcu ran.pass ran.refused mid) =
    subst (λ (w : WireView). RanTo c.args.cycles ran.cut (side c.args.mcu w.pass w.refused old) (side ran.mcu ran.pass ran.refused mid)) c.new.ensures c.run_both-ran.ensures.ran in
    let same : left.faults ≡ g.P.Poller.faults served.poller = ap g.P.Poller.faults c.leave.ensures.poller in
    let gives : GivesFault (g.P.Poller.faults c.args.poller) left.faults c.args.started.2 served.pass =
    subst (λ (n : ℕ). GivesFault (g.P.Poller.faults c.args.poller) n c.args.started.2 served.pass) (sym same) c.run_both-ran.ensures.served.gave in
    let later : g.P.Poller.faults c.args.poller ≤ left.faults = subst (λ (n : ℕ). g.P.Poller.faults c.args.poller ≤ n) (sym same) c.run_both-ran.ensures.served.later in
    let it : (image : List ℕ) (setup : Setup) → Begins image setup c.args.mcu c.args.cycles c.args.started.1
    → Lives image setup (g.P.Poller.faults c.args.poller) left (g.K.Sink.written c.args.out.now) (g.K.Sink.written c.leave.new.out) (g.K.Sink.faults c.args.out.now) (g.K.Sink.faults c.leave.new.out)
    = λ image setup begins.
    came_lives g.L.Links.shown image setup (g.P.Poller.faults c.args.poller) c.args.started.1 ran.pass served.pass.gave ran.cut ran.refused ran.mcu over.0 over.1
    (g.K.Sink.written c.args.out.now) mid left (g.K.Sink.written c.leave.new.out) (g.K.Sink.faults c.args.out.now) (g.K.Sink.faults ran.out.now) (g.K.Sink.faults c.leave.new.out)
    (came g.L.Links.shown image setup c.args.started.0 (g.P.Poller.faults c.args.poller) c.args.cycles c.args.started.1 c.args.started.2 ran.pass served.pass ran.cut ran.refused c.args.mcu ran.mcu
    over.0 over.1 old mid left begins c.requires.first c.requires.second c.requires.ready.still goes gives c.end_both-ended.ensures.over c.end_both-ended.ensures.starts
    c.end_both-ended.ensures.limit c.leave.ensures.leaves) c.leave.ensures.reports c.run_both-ran.ensures.faults c.leave.ensures.faults c.leave.ensures.still later in
    let name = sym c.run_both-ran.ensures.same_reference in
    subst (λ (k : g.row.K.Denot). (image : List ℕ) (setup : Setup) → Begins image setup c.args.mcu c.args.cycles c.args.started.1
    → Lives image setup (g.P.Poller.faults c.args.poller) left (g.K.Sink.written c.args.out.now) (g.K.Sink.written k) (g.K.Sink.faults c.args.out.now) (g.K.Sink.faults k))
    (search (rules, name)) it
