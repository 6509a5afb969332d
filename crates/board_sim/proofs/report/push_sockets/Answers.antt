use Rattle.std.proofs.Common.{◌≡◌, ℕ, ◌++◌, string_bytes, arith, ap, ◌∙◌}
use Rattle.board_sim.specs.Report.{sockets_text}
use Rattle.board_sim.proofs.Lines.{sockets_none, sockets_more}
use Rattle.board_sim.proofs.report.push_sockets.Goals as goal

pub loop-sn-init : goal.loop-sn-init
loop-sn-init c = λ starts past stands. sockets_none starts past (string_bytes c.args.text.now)

pub loop-sn-preserved : goal.loop-sn-preserved
loop-sn-preserved c = λ starts past stands.
    sockets_more starts past c.loop-sn.sn c.tally-tally.result (string_bytes c.args.text.now) (string_bytes c.loop-sn.text) (string_bytes c.push_socket.new.text)
    (c.tally-tally.ensures starts past stands) (c.loop-sn.invariant starts past stands) c.in_ok-push_socket.ensures

pub returns : goal.returns
returns c =
    let whole : c.loop-sn.sn ≡ 8 = omega (arith, c.loop-sn-test.false) in
    λ starts past stands. c.loop-sn.invariant starts past stands ∙ ap (λ (n : ℕ). string_bytes c.args.text.now ++ sockets_text starts past n) whole
