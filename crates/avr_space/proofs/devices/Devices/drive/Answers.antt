use Rattle.std.proofs.Common.{◌∙◌, ap}
use Rattle.avr_space.specs.Devices.{handled, same}
use Rattle.avr_space.proofs.Drives.{drive-plays}
use Rattle.avr_space.proofs.devices.Devices.drive.Goals as goal

pub returns : goal.returns
returns g c =
    drive-plays g.B.BusPeer.did c.same-stays.result c.select_low-low.result c.args.ports c.args.self.now c.args.peer.now c.drive_by.new.peer
    (handled c.drive_by.result c.drive_by.new.self) c.select_low-low.ensures
    (c.same-stays.ensures ∙ ap (λ b. same b c.select_low-low.result) c.select_low.ensures) c.drive_by.ensures
