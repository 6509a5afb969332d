use Rattle.std.proofs.Common.{◌≡◌, ◌-◌, ◌++◌}
use Rattle.board_echo.specs.Generator.{state_behind, bytes_behind}
use Rattle.board_echo.proofs.generator.Generator.bytes.Given as goal

abbrev pub invariant-loop-i : goal.invariant-loop-i
invariant-loop-i l = record {
  state : state_behind l.self.state (l.many - l.i) ≡ state_behind l.initial.self.state l.many;
  bytes : l.bytes.items ++ bytes_behind l.self.state (l.many - l.i) ≡ bytes_behind l.initial.self.state l.many;
}
