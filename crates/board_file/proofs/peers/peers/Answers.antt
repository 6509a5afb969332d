use Rattle.std.proofs.Common.{◌∙◌, arith}
use Rattle.std.proofs.lemmas.Grind.{common_steps}
use Rattle.board_file.specs.Peers.{peer}
use Rattle.board_file.proofs.Front.{done_table}
use Rattle.board_file.proofs.peers.peers.Goals as goal

pub loop-i-preserved : goal.loop-i-preserved
loop-i-preserved c = record {
  so_far =
      rw c.in_ok-push.ensures.items
      (done_table peer c.loop-i.peers.items c.loop-i.i c.index.result.now c.in_ok-peer.peer c.in_ok-tables.tables.items (omega (arith, c.in_ok-tables.tables.ok.0, c.loop-i-test.true)) c.index.ensures c.in_ok-peer.ensures
      ∙ c.loop-i.invariant.so_far);
  many = grind (arith, common_steps);
}
