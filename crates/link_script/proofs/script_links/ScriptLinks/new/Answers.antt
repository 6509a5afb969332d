use Rattle.std.proofs.Common.{ap, List}
use Rattle.link_script.specs.Acting.{Acting}
use Rattle.link_script.specs.Play.{Played}
use Rattle.link_script.specs.Start.{first_state}
use Rattle.link_script.proofs.Shows.{fresh_is}
use Rattle.link_script.proofs.script_links.ScriptLinks.new.Goals as goal

pub returns-clause-fresh : goal.returns-clause-fresh
returns-clause-fresh c =
    let F : List Acting → Played = λ l. record (first_state c.args.peers.items) { peers = l } in
    fresh_is _ c.args.peers.items (ap F c.in_ok-actors_of.ensures)
