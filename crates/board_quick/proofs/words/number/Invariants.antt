use Rattle.std.proofs.Common.{◌≡◌, ◌<◌, ◌^◌, drop}
use Rattle.board_read.specs.Numbers.{number_behind}
use Rattle.board_quick.proofs.words.number.Given as goal

abbrev pub invariant-loop-digit : goal.invariant-loop-digit
invariant-loop-digit l = record {
  so_far : number_behind l.value (drop l.digit-index l.digits) ≡ number_behind 0 l.digits;
  small : l.value < 10 ^ l.digit-index;
}
