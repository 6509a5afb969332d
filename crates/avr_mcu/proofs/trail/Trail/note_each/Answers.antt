use Rattle.std.proofs.Common.{◌≡◌, get_or, take, ◌∙◌, ap, sym}
use Rattle.std.proofs.lemmas.List.{take_more}
use Rattle.avr_mcu.specs.State.{noted}
use Rattle.avr_mcu.specs.Stretch.{noted_all}
use Rattle.avr_mcu.proofs.Stretches.{noted-more}
use Rattle.avr_mcu.proofs.trail.Trail.note_each.Goals as goal

pub loop-at-preserved : goal.loop-at-preserved
loop-at-preserved c =
    c.note.ensures
    ∙ (ap (λ t. noted t (get_or c.args.addresses.now c.loop-at.at-index 0)) c.loop-at.invariant
    ∙ (sym (noted-more c.args.self.now (take c.loop-at.at-index c.args.addresses.now) (get_or c.args.addresses.now c.loop-at.at-index 0))
    ∙ ap (noted_all c.args.self.now) (sym (take_more c.args.addresses.now c.loop-at.at-index 0 c.loop-at-test.true))))
