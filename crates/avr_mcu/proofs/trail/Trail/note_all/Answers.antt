use Rattle.std.proofs.Common.{◌≡◌, ◌-◌, ◌≤◌, length, take, drop, ◌∙◌, ap, arith, length-drop}
use Rattle.std.proofs.lemmas.Grind.{common_steps}
use Rattle.avr_mcu.specs.Stretch.{noted_all}
use Rattle.avr_mcu.proofs.Trails.{last-are-enough}
use Rattle.avr_mcu.proofs.trail.Trail.note_all.Goals as goal

pub returns : goal.returns
returns c =
    let from = c.saturating_sub-from.result in
    let whole : take (length c.args.addresses.now - from) (drop from c.args.addresses.now) ≡ drop from c.args.addresses.now = grind (arith, common_steps, length-drop) in
    c.note_each.ensures ∙ (ap (noted_all c.args.self.now) whole ∙ last-are-enough c.args.self.now c.args.addresses.now from c.saturating_sub-from.ensures)
