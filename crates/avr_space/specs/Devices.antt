-- What the devices do at a call of the core, as calls on the bus. They are the memory, the ports, the timers, the
-- serial devices, and the count of cycles that have passed; each read and write of an instruction happens at the count
-- at its start.
use Rattle.std.specs.Prelude.{ℕ, ◌+◌, ◌^◌, ◌==◌, Bool, not, Option, Some, None, Result, Ok, Err, ◌&&◌, if◌then◌else◌, nat_le, nat_lt, slice_index, slice_set}
use Rattle.avr_core.specs.Ask.{Give, Call}
use Rattle.avr_core.specs.Calls.{DataCall, Read, Write, WriteBit, AnswerTo as DataAnswer}
use Rattle.avr_sheet.specs.Registers.{SPDR}
use Rattle.avr_sheet.specs.Bits.{with_bit}
use Rattle.avr_core.specs.declared.bus.DataEnd.{DataEnd}
use Rattle.avr_core.specs.declared.bus.DataEnd.TheVariants as ends
use Rattle.avr_space.specs.Owners.{owner_of}
use Rattle.avr_space.specs.Peer.{OfBus}
use Rattle.avr_space.specs.Registers.{stop_of_stored, reset_memory}
use Rattle.board_bus.specs.declared.event.BusEvent.TheVariants.{Select, Byte, Look}
use Rattle.avr_space.specs.declared.bus.BusIsOver.{BusIsOver}
use Rattle.avr_space.specs.declared.devices.Devices.{Devices}
use Rattle.avr_space.specs.declared.owner.Owner.{Owner}
use Rattle.avr_space.specs.declared.owner.Owner.TheVariants as owners
use Rattle.avr_ports.specs.Levels.{with_edges, is_select_low}
use Rattle.avr_ports.specs.Ports.{PortsState, reset_state as reset_ports}
use Rattle.avr_ports.specs.Requests.{pending_vector as ports_pending, served_state as ports_served}
use Rattle.avr_ports.specs.Writes.{read_value as ports_value, written as ports_written, written_bit as ports_written_bit}
use Rattle.avr_serial.specs.Serial.{reset_state as reset_serial, read_value as serial_value, read_state as serial_read, write_answer as serial_answer, written as serial_written, exchanged, passed as serial_passed, pending_vector as serial_pending, served_state as serial_served}
use Rattle.avr_serial.specs.Spi.{start_answer}
use Rattle.avr_sheet.specs.declared.stop.DeviceStop.{DeviceStop}
use Rattle.avr_timer.specs.Requests.{pending_vector as timers_pending, served_state as timers_served}
use Rattle.avr_timer.specs.Timers.{reset_state as reset_timers, passed as timers_passed}
use Rattle.avr_timer.specs.Writes.{read_value as timers_value, read_state as timers_read, write_outcome, answer_of, left_by}

-- After reset, at cycle count 0.
abbrev pub reset_devices : Devices
reset_devices = record { cycles = 0; memory = reset_memory; ports = reset_ports; timers = reset_timers; serial = reset_serial }

-- The answer to a call, and the devices after it.
pub record Handled (A : Type 0) : Type 0 where
  pub answer : A
  pub devices : Devices

abbrev pub handled : {A : Type 0} → A → Devices → Handled A
handled a ds = record { answer = a; devices = ds }

-- The answer to a call that is answered by nothing, or ends the step.
abbrev pub Done : Type 0
Done = Result (Unit {0}) DataEnd

-- A device's answer, as the core gets it.
abbrev pub or_stop : Result (Unit {0}) DeviceStop → Done
or_stop (Ok u) = Ok tt
or_stop (Err stop) = Err (ends.Stop stop)

-- Goes on with the answer of the bus; where that is over the step ends, and the devices are as they stand.
abbrev pub or_over : {T A : Type 0} → Devices → (T → OfBus (Handled (Result A DataEnd))) → Result T BusIsOver → OfBus (Handled (Result A DataEnd))
or_over ds next (Ok v) = next v
or_over ds next (Err over) = Give (handled (Err ends.BusOver) ds)

-- INTn is looked at: PD2 goes to its level.
abbrev pub with_int : Bool → Devices → Devices
with_int high ds = record ds { ports = with_edges ds.ports (record ds.ports { int_high = high }) }

unfoldable pub look_row : Devices → OfBus (Handled Done)
look_row ds = Call Look (or_over ds (λ high. Give (handled (Ok tt) (with_int high ds))))

-- The ports go to another state, and the select line SCSn to this level: the bus is told, and INTn is looked at.
abbrev pub select_row : Bool → PortsState → Devices → OfBus (Handled Done)
select_row low after ds = Call (Select low) (or_over ds (λ u. look_row (record ds { ports = after })))

-- Whether two levels are one.
abbrev pub same : Bool → Bool → Bool
same a b = if a then b else not b

-- The ports go to another state. Only a change of the select line is told to the bus.
abbrev pub drive_by : Bool → Bool → PortsState → Devices → OfBus (Handled Done)
drive_by stays low after ds =
    if stays then Give (handled (Ok tt) (record ds { ports = after })) else select_row low after ds

unfoldable pub drive_row : PortsState → Devices → OfBus (Handled Done)
drive_row after ds = drive_by (same (is_select_low ds.ports) (is_select_low after)) (is_select_low after) after ds

-- A byte goes out over the SPI, and INTn is looked at.
abbrev pub exchange_row : ℕ → Devices → OfBus (Handled Done)
exchange_row mosi ds =
    Call (Byte mosi) (or_over ds (λ miso. look_row (record ds { serial = exchanged ds.serial ds.cycles miso })))

-- A write of a register of the serial devices other than one that begins an exchange.
abbrev pub serial_row : ℕ → ℕ → Devices → Handled Done
serial_row at v ds = handled (or_stop (serial_answer ds.serial at v)) (record ds { serial = serial_written ds.serial at v })

-- A write of SPDR, by what it puts on the line.
abbrev pub send_row : Result (Option ℕ) DeviceStop → ℕ → Devices → OfBus (Handled Done)
send_row (Err stop) v ds = Give (handled (Err (ends.Stop stop)) ds)
send_row (Ok None) v ds = Give (serial_row SPDR v ds)
send_row (Ok (Some mosi)) v ds = exchange_row mosi ds

unfoldable pub spdr_row : ℕ → Devices → OfBus (Handled Done)
spdr_row v ds = send_row (start_answer ds.serial.spi v) v ds

-- A write of a timer's register.
abbrev pub timers_row : ℕ → ℕ → Devices → Handled Done
timers_row at v ds =
    let outcome = write_outcome ds.timers at v in
    handled (or_stop (answer_of outcome)) (record ds { timers = left_by ds.timers outcome })

-- A write of a byte of memory.
abbrev pub with_byte : ℕ → ℕ → Devices → Devices
with_byte at v ds = record ds { memory = slice_set ds.memory at v }

-- A write of a stored register: a write that stops is not made.
abbrev pub stored_by : Option DeviceStop → ℕ → ℕ → Devices → Handled Done
stored_by None at v ds = handled (Ok tt) (with_byte at v ds)
stored_by (Some stop) at v ds = handled (Err (ends.Stop stop)) ds

abbrev pub stored_row : ℕ → ℕ → Devices → Handled Done
stored_row at v ds = stored_by (stop_of_stored at v) at v ds

-- A write of a register, by its owner.
abbrev pub write_io_row : Owner → ℕ → ℕ → Devices → OfBus (Handled Done)
write_io_row owners.Ports at v ds = drive_row (ports_written ds.ports at v) ds
write_io_row owners.Timers at v ds = Give (timers_row at v ds)
write_io_row owners.Serial at v ds = if at == SPDR then spdr_row v ds else Give (serial_row at v ds)
write_io_row owners.Stored at v ds = Give (stored_row at v ds)
write_io_row owners.Nobody at v ds = Give (handled (Ok tt) ds)

-- SRAM begins at 0100.
unfoldable pub write_row : ℕ → ℕ → Devices → OfBus (Handled Done)
write_row at v ds =
    if nat_le 256 at then Give (handled (Ok tt) (with_byte at v ds)) else write_io_row (owner_of at) at v ds

-- What is read of a register, by its owner, and what the reading leaves.
abbrev pub read_io : Owner → ℕ → Devices → Handled ℕ
read_io owners.Ports at ds = handled (ports_value ds.ports at) ds
read_io owners.Timers at ds = handled (timers_value ds.timers at) (record ds { timers = timers_read ds.timers at })
read_io owners.Serial at ds = handled (serial_value ds.serial at) (record ds { serial = serial_read ds.serial at })
read_io owners.Stored at ds = handled (slice_index ds.memory at) ds
read_io owners.Nobody at ds = handled 0 ds

unfoldable pub read_at : ℕ → Devices → Handled ℕ
read_at at ds = if nat_le 256 at then handled (slice_index ds.memory at) ds else read_io (owner_of at) at ds

-- SBI and CBI, by the owner of the place: they write one bit. Of a flag register of the timers SBI clears that flag
-- alone, and CBI does nothing. No register of the serial devices is in their reach.
abbrev pub write_bit_io_row : Owner → ℕ → ℕ → Bool → Devices → OfBus (Handled Done)
write_bit_io_row owners.Ports io bit set ds = drive_row (ports_written_bit ds.ports io bit set) ds
write_bit_io_row owners.Timers io bit set ds = if set then Give (timers_row (32 + io) (2 ^ bit) ds) else Give (handled (Ok tt) ds)
write_bit_io_row owners.Stored io bit set ds = Give (stored_row (32 + io) (with_bit (slice_index ds.memory (32 + io)) bit set) ds)
write_bit_io_row owner io bit set ds = Give (handled (Ok tt) ds)

-- Only the bits 0 to 7 of the I/O places 0 to 31 can be named.
unfoldable pub write_bit_row : ℕ → ℕ → Bool → Devices → OfBus (Handled Done)
write_bit_row io bit set ds =
    if nat_lt io 32 && nat_lt bit 8 then write_bit_io_row (owner_of (32 + io)) io bit set ds
    else Give (handled (Ok tt) ds)

-- What the devices do at each call of the core.
abbrev pub device : (c : DataCall) → Devices → OfBus (Handled (DataAnswer c))
device (Read at) ds = let r = read_at at ds in Give (handled (Ok r.answer) r.devices)
device (Write at v) ds = write_row at v ds
device (WriteBit io bit set) ds = write_bit_row io bit set ds

-- The first of two requests that is made.
abbrev pub first_of : Option ℕ → Option ℕ → Option ℕ
first_of (Some v) other = Some v
first_of None other = other

-- The pending interrupt: the lowest vector that is enabled and requested. Those of the ports lie below those of the
-- timers, and these below those of the serial devices.
unfoldable pub pending : Devices → Option ℕ
pending ds = first_of (ports_pending ds.ports) (first_of (timers_pending ds.timers) (serial_pending ds.serial))

-- A vector is served: the device that has it clears its flag.
unfoldable pub served : ℕ → Devices → Devices
served vector ds = record ds {
  ports = ports_served ds.ports vector;
  timers = timers_served ds.timers vector;
  serial = serial_served ds.serial vector;
}

-- So many cycles go by.
unfoldable pub passed : ℕ → Devices → Devices
passed n ds = record ds {
  cycles = ds.cycles + n;
  timers = timers_passed ds.timers ds.cycles (ds.cycles + n);
  serial = serial_passed ds.serial (ds.cycles + n);
}
