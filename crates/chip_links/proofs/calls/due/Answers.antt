use Rattle.std.proofs.Common.{◌<◌, ◌/◌, ◌∙◌, arith, get_or}
use Rattle.sock_cmd.proofs.SocketLives.{due_is}
use Rattle.sock_cmd.specs.Lives.{due_of}
use Rattle.chip_links.proofs.Fitting.{flight_is, free_is}
use Rattle.chip_links.proofs.calls.due.Goals as goal

pub returns : goal.returns
returns c = λ starts past held.
    let place = c.args.place in
    let n = place / 2 in
    let below : n < 8 = omega (arith, c.requires) in
    let life = get_or c.args.parts.now.lives n _ in
    c.due.ensures
    ∙ (λ i. due_of place life ((c.flight-flight.ensures.value ∙ flight_is starts past c.args.parts.now n below held) i) ((c.free-free.ensures.value ∙ free_is starts past c.args.parts.now n below held) i))
    ∙ due_is starts past place life (held.lives n _ below)
