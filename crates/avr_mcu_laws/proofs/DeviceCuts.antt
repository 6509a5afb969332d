-- What the devices do at a call of the core says that the bus is over exactly where a call on the bus was answered so.
use Rattle.std.proofs.Common.{◌≡◌, ℕ, ◌+◌, ◌^◌, ◌==◌, Bool, true, false, ◌&&◌, Option, Some, None, Result, Ok, Err, is_err, if◌then◌else◌, nat_le, nat_lt, refl, slice_index}
use Rattle.avr_core.specs.Ask.{Give, Call}
use Rattle.avr_core.specs.Calls.{DataCall, Read, Write, WriteBit, AnswerTo as DataAnswer}
use Rattle.avr_sheet.specs.Bits.{with_bit}
use Rattle.avr_core.specs.Steps.{Asked, Stepped}
use Rattle.avr_core.specs.declared.bus.DataEnd.{DataEnd}
use Rattle.avr_mcu.specs.Answers.{over}
use Rattle.avr_space.specs.Devices.{Handled, handled, Done, or_stop, or_over, with_int, with_byte, look_row, drive_row, drive_by, same, serial_row, send_row, spdr_row, timers_row, stored_by, write_io_row, write_row, write_bit_io_row, write_bit_row, device}
use Rattle.avr_space.specs.Owners.{owner_of}
use Rattle.avr_space.specs.Peer.{AnswerTo, OfBus}
use Rattle.avr_space.specs.Registers.{stop_of_stored}
use Rattle.avr_space.specs.Through.{through}
use Rattle.board_bus.specs.declared.event.BusEvent.{BusEvent}
use Rattle.board_bus.specs.declared.event.BusEvent.TheVariants.{Select, Byte, Look}
use Rattle.avr_space.specs.declared.bus.BusIsOver.{BusIsOver}
use Rattle.avr_space.specs.declared.devices.Devices.{Devices}
use Rattle.avr_space.specs.declared.owner.Owner.{Owner}
use Rattle.avr_space.specs.declared.owner.Owner.TheVariants as owners
use Rattle.avr_core.specs.Cuts.{EndsCut, by_cut, CutsOnly, is_data_over, data_over, step_over}
use Rattle.avr_mcu_laws.specs.Over.{bus_over}
use Rattle.avr_mcu_laws.proofs.Cuts.{either, cuts-followed}
use Rattle.avr_ports.specs.Levels.{is_select_low}
use Rattle.avr_ports.specs.Ports.{PortsState}
use Rattle.avr_ports.specs.Writes.{written as ports_written, written_bit as ports_written_bit}
use Rattle.avr_serial.specs.Serial.{exchanged, write_answer}
use Rattle.avr_serial.specs.Spi.{start_answer}
use Rattle.avr_sheet.specs.declared.stop.DeviceStop.{DeviceStop}
use Rattle.avr_timer.specs.Writes.{write_outcome, answer_of}

abbrev answer_over : {A : Type 0} → Handled (Result A DataEnd) → Bool
answer_over h = is_data_over h.answer

-- A device's calls.
abbrev DoneCuts : OfBus (Handled Done) → Type 0
DoneCuts tree = CutsOnly bus_over answer_over tree

-- What a call goes on to, by whether its answer says that the bus is over.
abbrev NextCuts : Bool → OfBus (Handled Done) → Type 0
NextCuts over tree = by_cut over (EndsCut answer_over tree) (DoneCuts tree)

next-cuts : {T : Type 0} (ds : Devices) (next : T → OfBus (Handled Done)) → ((v : T) → DoneCuts (next v))
    → (a : Result T BusIsOver) → NextCuts (is_err a) (or_over ds next a)
next-cuts ds next all (Ok v) = all v
next-cuts ds next all (Err over) = refl

look-cuts : (ds : Devices) → DoneCuts (look_row ds)
unfolding look_row
look-cuts ds = next-cuts ds (λ high. Give (handled (Ok tt) (with_int high ds))) (λ high. refl)

drive-by-cuts : (stays low : Bool) (after : PortsState) (ds : Devices) → DoneCuts (drive_by stays low after ds)
drive-by-cuts true low after ds = refl
drive-by-cuts false low after ds = next-cuts ds (λ u. look_row (record ds { ports = after })) (λ u. look-cuts (record ds { ports = after }))

drive-cuts : (after : PortsState) (ds : Devices) → DoneCuts (drive_row after ds)
unfolding drive_row
drive-cuts after ds = drive-by-cuts (same (is_select_low ds.ports) (is_select_low after)) (is_select_low after) after ds

-- A device that stops the board does not say that the bus is over.
stop-is-no-end : (a : Result (Unit {0}) DeviceStop) → is_data_over (or_stop a) ≡ false
stop-is-no-end (Ok u) = refl
stop-is-no-end (Err stop) = refl

serial-cuts : (at v : ℕ) (ds : Devices) → answer_over (serial_row at v ds) ≡ false
serial-cuts at v ds = stop-is-no-end (write_answer ds.serial at v)

send-cuts : (start : Result (Option ℕ) DeviceStop) (v : ℕ) (ds : Devices) → DoneCuts (send_row start v ds)
send-cuts (Err stop) v ds = refl
send-cuts (Ok None) v ds = serial-cuts 0x4E v ds
send-cuts (Ok (Some mosi)) v ds =
    next-cuts ds (λ miso. look_row (record ds { serial = exchanged ds.serial ds.cycles miso })) (λ miso. look-cuts (record ds { serial = exchanged ds.serial ds.cycles miso }))

spdr-cuts : (v : ℕ) (ds : Devices) → DoneCuts (spdr_row v ds)
unfolding spdr_row
spdr-cuts v ds = send-cuts (start_answer ds.serial.spi v) v ds

timers-cuts : (at v : ℕ) (ds : Devices) → answer_over (timers_row at v ds) ≡ false
timers-cuts at v ds = stop-is-no-end (answer_of (write_outcome ds.timers at v))

stored-cuts : (stop : Option DeviceStop) (at v : ℕ) (ds : Devices) → answer_over (stored_by stop at v ds) ≡ false
stored-cuts None at v ds = refl
stored-cuts (Some stop) at v ds = refl

pick : (b : Bool) (x y : OfBus (Handled Done)) → DoneCuts x → DoneCuts y → DoneCuts (if b then x else y)
pick b x y first second = either bus_over answer_over b x y first second

write-io-cuts : (owner : Owner) (at v : ℕ) (ds : Devices) → DoneCuts (write_io_row owner at v ds)
write-io-cuts owners.Ports at v ds = drive-cuts (ports_written ds.ports at v) ds
write-io-cuts owners.Timers at v ds = timers-cuts at v ds
write-io-cuts owners.Serial at v ds = pick (at == 0x4E) (spdr_row v ds) (Give (serial_row at v ds)) (spdr-cuts v ds) (serial-cuts at v ds)
write-io-cuts owners.Stored at v ds = stored-cuts (stop_of_stored at v) at v ds
write-io-cuts owners.Nobody at v ds = refl

write-cuts : (at v : ℕ) (ds : Devices) → DoneCuts (write_row at v ds)
unfolding write_row
write-cuts at v ds =
    pick (nat_le 256 at) (Give (handled (Ok tt) (with_byte at v ds))) (write_io_row (owner_of at) at v ds) refl (write-io-cuts (owner_of at) at v ds)

write-bit-io-cuts : (owner : Owner) (io bit : ℕ) (set : Bool) (ds : Devices) → DoneCuts (write_bit_io_row owner io bit set ds)
write-bit-io-cuts owners.Ports io bit set ds = drive-cuts (ports_written_bit ds.ports io bit set) ds
write-bit-io-cuts owners.Timers io bit set ds =
    pick set (Give (timers_row (32 + io) (2 ^ bit) ds)) (Give (handled (Ok tt) ds)) (timers-cuts (32 + io) (2 ^ bit) ds) refl
write-bit-io-cuts owners.Stored io bit set ds =
    stored-cuts (stop_of_stored (32 + io) (with_bit (slice_index ds.memory (32 + io)) bit set)) (32 + io) (with_bit (slice_index ds.memory (32 + io)) bit set) ds
write-bit-io-cuts owners.Serial io bit set ds = refl
write-bit-io-cuts owners.Nobody io bit set ds = refl

write-bit-cuts : (io bit : ℕ) (set : Bool) (ds : Devices) → DoneCuts (write_bit_row io bit set ds)
unfolding write_bit_row
write-bit-cuts io bit set ds =
    pick (nat_lt io 32 && nat_lt bit 8) (write_bit_io_row (owner_of (32 + io)) io bit set ds) (Give (handled (Ok tt) ds))
    (write-bit-io-cuts (owner_of (32 + io)) io bit set ds) refl

-- The devices at a call of the core.
abbrev call_over : (c : DataCall) → Handled (DataAnswer c) → Bool
call_over c h = data_over c h.answer

device-cuts : (c : DataCall) (ds : Devices) → CutsOnly bus_over (call_over c) (device c ds)
device-cuts (Read at) ds = refl
device-cuts (Write at v) ds = write-cuts at v ds
device-cuts (WriteBit io bit set) ds = write-bit-cuts io bit set ds

-- The core's calls through the devices.
abbrev pub core_over : Handled Stepped → Bool
core_over h = step_over h.answer

ends-through : (tree : Asked) (ds : Devices) → EndsCut step_over tree → EndsCut core_over (through tree ds)
ends-through (Give s) ds ends = ends
ends-through (Call c go) ds ends = absurd ends

through-by : (b : Bool) (tree : Asked) (ds : Devices) → by_cut b (EndsCut step_over tree) (CutsOnly data_over step_over tree)
    → (CutsOnly data_over step_over tree → CutsOnly bus_over core_over (through tree ds))
    → by_cut b (EndsCut core_over (through tree ds)) (CutsOnly bus_over core_over (through tree ds))
through-by true tree ds it rest = ends-through tree ds it
through-by false tree ds it rest = rest it

pub through-cuts : (tree : Asked) (ds : Devices) → CutsOnly data_over step_over tree → CutsOnly bus_over core_over (through tree ds)
through-cuts (Give s) ds cuts = cuts
through-cuts (Call c go) ds cuts =
    cuts-followed bus_over (call_over c) core_over (device c ds) (λ h. through (go h.answer) h.devices) (device-cuts c ds)
    (λ h. through-by (data_over c h.answer) (go h.answer) h.devices (cuts h.answer) (λ it. through-cuts (go h.answer) h.devices it))
