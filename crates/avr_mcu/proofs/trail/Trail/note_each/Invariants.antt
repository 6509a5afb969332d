use Rattle.std.proofs.Common.{◌≡◌, take}
use Rattle.avr_mcu.specs.Stretch.{noted_all}
use Rattle.avr_mcu.proofs.trail.Trail.note_each.Given as goal

abbrev pub invariant-loop-at : goal.invariant-loop-at
invariant-loop-at l = l.self ≡ noted_all l.initial.self (take l.at-index l.addresses)
