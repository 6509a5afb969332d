use Rattle.std.proofs.Common.{◌≡◌, [], sym, ap, ◌∙◌, subst}
use Rattle.chip_sheet.specs.Streams.{Starts}
use Rattle.chip_shared.specs.State.{State}
use Rattle.chip_shared.specs.Tied.{Tied}
use Rattle.chip_lock.specs.Passes.{PassView}
use Rattle.board_file.specs.Boards.{Setup}
use Rattle.board_sim.specs.Ends.{starts_of}
use Rattle.board_run.specs.Lives.{left_of}
use Rattle.board_run.proofs.Fresh.{fresh_tied, routes_fresh}
use Rattle.board_run.proofs.Living.{unmade_lives}
use Rattle.board_run.proofs.live.live.Goals as goal

pub new-shared-requires-clause-links : goal.new-shared-requires-clause-links
new-shared-requires-clause-links g c = routes_fresh _ _ _ c.requires.links c.set_routes.ensures.lists

pub returns-in-Ok-start : goal.returns-in-Ok-start
returns-in-Ok-start g c =
    let first = c.in-Ok-start.ensures.first in
    let made : State g.row.L.Denot = c.new-shared.result in
    let starts : made.starts ≡ starts_of c.args.board = ap (λ (s : State g.row.L.Denot). s.starts) c.new-shared.ensures ∙ c.in-Ok.ensures.starts ∙ ap starts_of c.board.view_is in
    let limit : made.log.limit ≡ c.args.board.events = ap (λ (s : State g.row.L.Denot). s.log.limit) c.new-shared.ensures ∙ c.new.ensures.limit ∙ ap (λ (b : Setup). b.events) c.board.view_is in
    c.run.ensures c.args.image c.args.board (record {
      reset = c.in-Ok.ensures.mcu;
      cycles_are = ap (λ (b : Setup). b.cycles) c.board.view_is;
      starts = ap (λ (p : PassView). p.starts) first ∙ starts;
      limit = ap (λ (p : PassView). p.limit) first ∙ limit;
    })

pub returns-in-Ok : goal.returns-in-Ok
returns-in-Ok g c =
    let kept = c.in-Err-start.ensures.refused in
    let starts : c.in-Err-start.shared.starts ≡ starts_of c.args.board =
    kept.starts ∙ ap (λ (s : State g.row.L.Denot). s.starts) c.new-shared.ensures ∙ c.in-Ok.ensures.starts ∙ ap starts_of c.board.view_is in
    let tied : Tied (starts_of c.args.board) [] (g.L.Links.shown c.unstarted.result.links) =
    subst (λ (x : Starts). Tied x [] (g.L.Links.shown c.unstarted.result.links)) starts
    (subst (λ (l : g.row.L.Denot). Tied c.in-Err-start.shared.starts [] (g.L.Links.shown l)) (sym c.unstarted.ensures.links) c.unstarted.ensures.tied) in
    unmade_lives c.args.image c.args.board (g.P.Poller.faults c.args.poller) (left_of g.L.Links.shown g.P.Poller.faults c.unstarted.result) (g.K.Sink.written c.args.out.now)
    (g.K.Sink.faults c.args.out.now) c.unstarted.ensures.history c.unstarted.ensures.end (ap g.P.Poller.faults c.unstarted.ensures.poller) tied

pub returns : goal.returns
returns g c =
    let tied : Tied (starts_of c.args.board) [] (g.L.Links.shown c.unmade.result.links) =
    subst (λ (l : g.row.L.Denot). Tied (starts_of c.args.board) [] (g.L.Links.shown l)) (sym c.unmade.ensures.links)
    (fresh_tied (starts_of c.args.board) (g.L.Links.shown c.args.links) c.requires.links) in
    unmade_lives c.args.image c.args.board (g.P.Poller.faults c.args.poller) (left_of g.L.Links.shown g.P.Poller.faults c.unmade.result) (g.K.Sink.written c.args.out.now)
    (g.K.Sink.faults c.args.out.now) c.unmade.ensures.history c.unmade.ensures.end (ap g.P.Poller.faults c.unmade.ensures.poller) tied
