-- When a step ends with the bus over, whatever stands on the other side of it.
use Rattle.std.specs.Prelude.{Bool, true, false, is_err}
use Rattle.avr_core.specs.Cuts.{CutsOnly}
use Rattle.avr_space.specs.Peer.{AnswerTo}
use Rattle.avr_mcu.specs.State.{McuState}
use Rattle.avr_mcu.specs.Step.{Gone, stepped}
use Rattle.avr_mcu.specs.declared.went.McuWent.{McuWent}
use Rattle.avr_mcu.specs.declared.went.McuWent.TheVariants.{Ran, Asleep, Served, Break, Sleep, BusOver, Stop}
use Rattle.board_bus.specs.declared.event.BusEvent.{BusEvent}
use Rattle.board_bus.specs.declared.event.BusEvent.TheVariants.{Select, Byte, Look}

-- An answer of the bus that says that it is over.
abbrev pub bus_over : (c : BusEvent) → AnswerTo c → Bool
bus_over (Select low) a = is_err a
bus_over (Byte mosi) a = is_err a
bus_over Look a = is_err a

-- A step of the microcontroller that ended with the bus over.
abbrev pub mcu_over : McuWent → Bool
mcu_over Ran = false
mcu_over Asleep = false
mcu_over Served = false
mcu_over Break = false
mcu_over Sleep = false
mcu_over BusOver = true
mcu_over (Stop stop) = false

abbrev pub gone_over : Gone → Bool
gone_over g = mcu_over g.went

-- Along every course of a step it ends with the bus over exactly behind an answer of the peer that says so, and nothing more is asked
-- behind such an answer.
abbrev pub OverOnlyAsSaid : Type 0
OverOnlyAsSaid = (s : McuState) → CutsOnly bus_over gone_over (stepped s)
