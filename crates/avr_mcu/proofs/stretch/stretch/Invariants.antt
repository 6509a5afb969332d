use Rattle.std.proofs.Common.{◌≡◌, ◌≤◌, ◌+◌, ◌-◌, length, take}
use Rattle.avr_mcu.specs.Stretch.{RunsPlain, begun}
use Rattle.avr_mcu.proofs.stretch.stretch.Given as goal

abbrev pub invariant-plain : goal.invariant-plain
invariant-plain l = record {
  runs : RunsPlain l.code l.most l.calm l.ran (begun l.fn.core l.fn.memory) (record { core = l.core; memory = l.memory; was = l.was; addresses = take l.ran l.addresses; spent = l.spent });
  size : length l.addresses ≡ 64;
  few : l.ran ≤ l.room;
  least : l.ran ≤ l.spent;
  time : l.spent ≤ l.most + 3;
}

abbrev pub decreases-plain : goal.decreases-plain
decreases-plain l = l.room - l.ran
