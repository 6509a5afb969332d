use Rattle.chip_steps.proofs.WindowSteps.{shows_sending, shows_receiving, in_flight_at_is, rx_byte_is, range_is, release_is, offered_is, room_is}
use Rattle.chip_steps.proofs.laws.directions_show.Goals as goal

pub returns : goal.returns
returns c = record { tx = shows_sending; rx = shows_receiving; in_flight_at = in_flight_at_is; rx_byte = rx_byte_is; range = range_is; release = release_is; offered = offered_is; room = room_is }
