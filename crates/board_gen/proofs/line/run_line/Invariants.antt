use Rattle.std.proofs.Common.{◌≡◌, ◌<◌, ℕ, ◌+◌, None, length}
use Rattle.std.specs.Prelude.{IsSome}
use Rattle.chip_sheet.specs.Replay.{told}
use Rattle.board_gen.specs.Run.{steps_in}
use Rattle.board_gen.specs.SessionState.{HasTextRoom, Spends}
use Rattle.board_gen.specs.Tokens.{steps, tokens}
use Rattle.board_gen.proofs.ToldLine.{LineSoFar}
use Rattle.board_gen.proofs.line.run_line.Given as goal

abbrev pub invariant-loop-word : goal.invariant-loop-word
invariant-loop-word l = record {
  read : IsSome (steps (tokens l.rest));
  running : l.session.stopped ≡ None;
  starts : l.session.starts ≡ l.fn.session.starts;
  so_far : LineSoFar l.session.starts (told l.fn.session.starts l.fn.session.past (steps_in l.fn.line)) l.session.past (steps_in l.rest) l.text.items;
  spent : Spends l.fn.session.past (length l.fn.line + 1) l.session.past;
  left : 0 < length l.rest → (more : ℕ) → HasTextRoom l.fn.session.past (length l.fn.line + more) → HasTextRoom l.session.past (length l.rest + more);
}

abbrev pub decreases-loop-word : goal.decreases-loop-word
decreases-loop-word l = length l.rest
