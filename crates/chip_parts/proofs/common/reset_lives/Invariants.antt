use Rattle.std.proofs.Common.{◌≡◌, ◌≤◌, ◌<◌, ℕ, length, get_or}
use Rattle.chip_sheet.specs.declared.event.Addr.{Addr}
use Rattle.chip_sheet.specs.declared.socket.Cause.TheVariants as because
use Rattle.sock_cmd.specs.declared.life.Life.{Life}
use Rattle.sock_cmd.specs.Lives.{Happened}
use Rattle.chip_parts.proofs.common.reset_lives.Given as goal

abbrev pub invariant-loop-n : goal.invariant-loop-n
invariant-loop-n l = record {
  count : l.n ≤ 8;
  len : length l.lives ≡ 8;
  done : (m : ℕ) (other : Life) (to : Addr) (port : ℕ) → m < l.n → Happened (get_or l.fn.lives m other) because.Reset to port (get_or l.lives m other);
  rest : (m : ℕ) (other : Life) → l.n ≤ m → get_or l.lives m other ≡ get_or l.fn.lives m other;
}
