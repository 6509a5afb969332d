-- A play of the ports going to a state, by what was computed of the select line.
use Rattle.std.proofs.Common.{◌≡◌, Bool, subst}
use Rattle.avr_core.specs.Ask.{Plays}
use Rattle.avr_ports.specs.Levels.{is_select_low}
use Rattle.avr_ports.specs.Ports.{PortsState}
use Rattle.avr_space.specs.Devices.{Handled, Done, same, drive_by, drive_row}
use Rattle.avr_space.specs.Peer.{AnswerTo}
use Rattle.avr_space.specs.declared.devices.Devices.{Devices}
use Rattle.board_bus.specs.declared.event.BusEvent.{BusEvent}

pub drive-plays : {B : Type 0} (did : B → (c : BusEvent) → AnswerTo c → B → Type 0) (stays low : Bool) (next : PortsState) (ds : Devices) (before after : B) (h : Handled Done)
    → low ≡ is_select_low next → stays ≡ same (is_select_low ds.ports) low
    → Plays did before (drive_by stays low next ds) h after → Plays did before (drive_row next ds) h after
unfolding drive_row
drive-plays did stays low next ds before after h low_is stays_is play =
    subst (λ l. Plays did before (drive_by (same (is_select_low ds.ports) l) l next ds) h after) low_is
    (subst (λ s. Plays did before (drive_by s low next ds) h after) stays_is play)
