-- What each call of the core keeps of the devices: the count of cycles, and all of them where it stops.
use Rattle.std.proofs.Common.{◌≡◌, ℕ, ◌+◌, ◌^◌, ◌==◌, Bool, true, false, ◌&&◌, Option, Some, None, Result, Ok, Err, if◌then◌else◌, nat_le, nat_lt, refl, ap, ◌∙◌, slice_index, is_some}
use Rattle.avr_core.specs.Ask.{Ask, Give, Call}
use Rattle.avr_core.specs.Calls.{DataCall, Read, Write, WriteBit, AnswerTo as DataAnswer}
use Rattle.avr_sheet.specs.Bits.{with_bit}
use Rattle.avr_core.specs.declared.bus.DataEnd.{DataEnd}
use Rattle.avr_core.specs.declared.bus.DataEnd.TheVariants as ends
use Rattle.avr_space.specs.Devices.{Handled, handled, Done, or_stop, or_over, with_int, with_byte, look_row, drive_row, drive_by, same, serial_row, send_row, spdr_row, timers_row, stored_by, write_io_row, write_row, read_io, read_at, write_bit_io_row, write_bit_row, device}
use Rattle.avr_space.specs.Owners.{owner_of}
use Rattle.avr_space.specs.Registers.{stop_of_stored}
use Rattle.avr_space.specs.declared.bus.BusIsOver.{BusIsOver}
use Rattle.avr_space.specs.declared.devices.Devices.{Devices}
use Rattle.avr_space.specs.declared.owner.Owner.{Owner}
use Rattle.avr_space.specs.declared.owner.Owner.TheVariants as owners
use Rattle.avr_core.specs.Trees.{All}
use Rattle.avr_space.proofs.Trees.{all-followed}
use Rattle.avr_core.proofs.Trees.{all-weaken}
use Rattle.avr_space.specs.Peer.{OfBus}
use Rattle.avr_space.specs.Through.{through}
use Rattle.avr_ports.specs.Levels.{is_select_low}
use Rattle.avr_ports.specs.Ports.{PortsState}
use Rattle.avr_ports.specs.Writes.{written as ports_written, written_bit as ports_written_bit}
use Rattle.avr_serial.specs.Serial.{SerialState, spdr_answer, register_answer, register_written, answer_at, written_at, exchanged}
use Rattle.avr_serial.specs.Registers.{register_at}
use Rattle.avr_serial.specs.Spi.{start_answer, is_mode_built, is_master, spdr_written}
use Rattle.avr_serial.specs.Usart.{takes, is_mode_built as is_frame_built, udr0_answer, udr0_written}
use Rattle.avr_serial.specs.declared.register.Register.{Register}
use Rattle.avr_serial.specs.declared.register.Register.TheVariants.{Spcr, Spsr, Spdr, Ucsr0a, Ucsr0b, Ucsr0c, Ubrr0Low, Ubrr0High, Udr0}
use Rattle.avr_serial.specs.declared.spi.Spi.{Spi}
use Rattle.avr_serial.specs.declared.usart.Usart.{Usart}
use Rattle.avr_sheet.specs.declared.stop.DeviceStop.{DeviceStop}
use Rattle.avr_timer.specs.Timers.{TimersState}
use Rattle.avr_timer.specs.Writes.{write_outcome, answer_of, left_by}

-- An answer that stops the board.
abbrev pub IsStopped : {A : Type 0} → Result A DataEnd → Type 0
IsStopped (Ok v) = ⊥
IsStopped (Err ends.BusOver) = ⊥
IsStopped (Err (ends.Stop stop)) = Unit {0}

abbrev pub Keeps : {A : Type 0} → Devices → Handled (Result A DataEnd) → Type 0
Keeps ds h = (h.devices.cycles ≡ ds.cycles) × (IsStopped h.answer → h.devices ≡ ds)

look-by : (ds : Devices) (was : Devices) → ds.cycles ≡ was.cycles → (a : Result Bool BusIsOver)
    → All (Keeps was) (or_over ds (λ high. Give (handled (Ok (tt {0})) (with_int high ds))) a)
look-by ds was e (Ok high) = (e, λ h. absurd h)
look-by ds was e (Err over) = (e, λ h. absurd h)

look-keeps : (ds was : Devices) → ds.cycles ≡ was.cycles → All (Keeps was) (look_row ds)
unfolding look_row
look-keeps ds was e = λ a. look-by ds was e a

select-by : (after : PortsState) (ds : Devices) (a : Result (Unit {0}) BusIsOver)
    → All (Keeps ds) (or_over ds (λ u. look_row (record ds { ports = after })) a)
select-by after ds (Ok u) = look-keeps (record ds { ports = after }) ds refl
select-by after ds (Err over) = (refl, λ h. absurd h)

drive-by : (stays low : Bool) (after : PortsState) (ds : Devices) → All (Keeps ds) (drive_by stays low after ds)
drive-by true low after ds = (refl, λ h. absurd h)
drive-by false low after ds = λ a. select-by after ds a

drive-keeps : (after : PortsState) (ds : Devices) → All (Keeps ds) (drive_row after ds)
unfolding drive_row
drive-keeps after ds = drive-by (same (is_select_low ds.ports) (is_select_low after)) (is_select_low after) after ds

exchange-by : (ds : Devices) (a : Result ℕ BusIsOver)
    → All (Keeps ds) (or_over ds (λ miso. look_row (record ds { serial = exchanged ds.serial ds.cycles miso })) a)
exchange-by ds (Ok miso) = look-keeps (record ds { serial = exchanged ds.serial ds.cycles miso }) ds refl
exchange-by ds (Err over) = (refl, λ h. absurd h)

-- A write of a serial register that stops leaves all as it was.
udr0-by : (b d : Bool) (now v : ℕ) (u : Usart) → takes u ≡ b → is_frame_built u ≡ d → IsStopped (or_stop (udr0_answer u)) → udr0_written now v u ≡ u
udr0-by true true now v u e f h = absurd (rw (e, f) at h)
udr0-by true false now v u e f h = rw (e, f) refl
udr0-by false d now v u e f h = absurd (rw e at h)

spdr-by : (t m d : Bool) (v : ℕ) (s : Spi) → is_some s.transfer ≡ t → is_master s ≡ m → is_mode_built s ≡ d
    → IsStopped (or_stop (spdr_answer (start_answer s v))) → spdr_written v s ≡ s
spdr-by true m d v s e f g h = absurd (rw e at h)
spdr-by false true true v s e f g h = absurd (rw (e, f, g) at h)
spdr-by false true false v s e f g h = rw (e, f, g) refl
spdr-by false false d v s e f g h = absurd (rw (e, f) at h)

register-by : (register : Register) (v : ℕ) (s : SerialState) → IsStopped (or_stop (register_answer s register v)) → register_written s register v ≡ s
register-by Spcr v s h = absurd h
register-by Spsr v s h = absurd h
register-by Spdr v s h = ap (λ spi. record s { spi = spi }) (spdr-by _ _ _ v s.spi refl refl refl h)
register-by Ucsr0a v s h = absurd h
register-by Ucsr0b v s h = absurd h
register-by Ucsr0c v s h = absurd h
register-by Ubrr0Low v s h = absurd h
register-by Ubrr0High v s h = absurd h
register-by Udr0 v s h = ap (λ usart. record s { usart = usart }) (udr0-by _ _ s.cycle v s.usart refl refl h)

serial-by : (place : Option Register) (v : ℕ) (s : SerialState) → IsStopped (or_stop (answer_at s place v)) → written_at s place v ≡ s
serial-by None v s h = absurd h
serial-by (Some register) v s h = register-by register v s h

serial-keeps : (at v : ℕ) (ds : Devices) → Keeps ds (serial_row at v ds)
serial-keeps at v ds = (refl, λ h. ap (λ serial. record ds { serial = serial }) (serial-by (register_at at) v ds.serial h))

send-keeps : (start : Result (Option ℕ) DeviceStop) (v : ℕ) (ds : Devices) → All (Keeps ds) (send_row start v ds)
send-keeps (Err stop) v ds = (refl, λ h. refl)
send-keeps (Ok None) v ds = serial-keeps 0x4E v ds
send-keeps (Ok (Some mosi)) v ds = λ a. exchange-by ds a

spdr-keeps : (v : ℕ) (ds : Devices) → All (Keeps ds) (spdr_row v ds)
unfolding spdr_row
spdr-keeps v ds = send-keeps (start_answer ds.serial.spi v) v ds

timers-by : (outcome : Result TimersState DeviceStop) (ds : Devices)
    → Keeps ds (handled (or_stop (answer_of outcome)) (record ds { timers = left_by ds.timers outcome }))
timers-by (Ok next) ds = (refl, λ h. absurd h)
timers-by (Err stop) ds = (refl, λ h. refl)

stored-keeps : (stop : Option DeviceStop) (at v : ℕ) (ds : Devices) → Keeps ds (stored_by stop at v ds)
stored-keeps None at v ds = (refl, λ h. absurd h)
stored-keeps (Some stop) at v ds = (refl, λ h. refl)

done : (ds after : Devices) → after.cycles ≡ ds.cycles → Keeps {A = Unit {0}} ds (handled (Ok tt) after)
done ds after e = (e, λ h. absurd h)

either : (b : Bool) (ds : Devices) (x y : OfBus (Handled Done)) → All (Keeps ds) x → All (Keeps ds) y → All (Keeps ds) (if b then x else y)
either true ds x y first second = first
either false ds x y first second = second

write-io-keeps : (owner : Owner) (at v : ℕ) (ds : Devices) → All (Keeps ds) (write_io_row owner at v ds)
write-io-keeps owners.Ports at v ds = drive-keeps (ports_written ds.ports at v) ds
write-io-keeps owners.Timers at v ds = timers-by (write_outcome ds.timers at v) ds
write-io-keeps owners.Serial at v ds = either (at == 0x4E) ds (spdr_row v ds) (Give (serial_row at v ds)) (spdr-keeps v ds) (serial-keeps at v ds)
write-io-keeps owners.Stored at v ds = stored-keeps (stop_of_stored at v) at v ds
write-io-keeps owners.Nobody at v ds = done ds ds refl

write-keeps : (at v : ℕ) (ds : Devices) → All (Keeps ds) (write_row at v ds)
unfolding write_row
write-keeps at v ds = either (nat_le 256 at) ds (Give (handled (Ok tt) (with_byte at v ds))) (write_io_row (owner_of at) at v ds)
    (done ds (with_byte at v ds) refl) (write-io-keeps (owner_of at) at v ds)

write-bit-io-keeps : (owner : Owner) (io bit : ℕ) (set : Bool) (ds : Devices) → All (Keeps ds) (write_bit_io_row owner io bit set ds)
write-bit-io-keeps owners.Ports io bit set ds = drive-keeps (ports_written_bit ds.ports io bit set) ds
write-bit-io-keeps owners.Timers io bit set ds =
    either set ds (Give (timers_row (32 + io) (2 ^ bit) ds)) (Give (handled (Ok tt) ds)) (timers-by (write_outcome ds.timers (32 + io) (2 ^ bit)) ds) (done ds ds refl)
write-bit-io-keeps owners.Stored io bit set ds =
    stored-keeps (stop_of_stored (32 + io) (with_bit (slice_index ds.memory (32 + io)) bit set)) (32 + io) (with_bit (slice_index ds.memory (32 + io)) bit set) ds
write-bit-io-keeps owners.Serial io bit set ds = done ds ds refl
write-bit-io-keeps owners.Nobody io bit set ds = done ds ds refl

write-bit-keeps : (io bit : ℕ) (set : Bool) (ds : Devices) → All (Keeps ds) (write_bit_row io bit set ds)
unfolding write_bit_row
write-bit-keeps io bit set ds =
    either (nat_lt io 32 && nat_lt bit 8) ds (write_bit_io_row (owner_of (32 + io)) io bit set ds) (Give (handled (Ok tt) ds))
    (write-bit-io-keeps (owner_of (32 + io)) io bit set ds) (done ds ds refl)

read-io-cycles : (owner : Owner) (at : ℕ) (ds : Devices) → (read_io owner at ds).devices.cycles ≡ ds.cycles
read-io-cycles owners.Ports at ds = refl
read-io-cycles owners.Timers at ds = refl
read-io-cycles owners.Serial at ds = refl
read-io-cycles owners.Stored at ds = refl
read-io-cycles owners.Nobody at ds = refl

read-cycles : (at : ℕ) (ds : Devices) → (read_at at ds).devices.cycles ≡ ds.cycles
unfolding read_at
read-cycles at ds =
    elim (nat_le 256 at) as (λ b. (if b then handled (slice_index ds.memory at) ds else read_io (owner_of at) at ds).devices.cycles ≡ ds.cycles)
    [ true ↦ refl | false ↦ read-io-cycles (owner_of at) at ds ]

-- What is kept at each call.
abbrev pub KeepsAt : (c : DataCall) → Devices → Handled (DataAnswer c) → Type 0
KeepsAt (Read at) ds h = Keeps ds h
KeepsAt (Write at v) ds h = Keeps ds h
KeepsAt (WriteBit io bit set) ds h = Keeps ds h

pub device-keeps : (c : DataCall) (ds : Devices) → All (KeepsAt c ds) (device c ds)
device-keeps (Read at) ds = (read-cycles at ds, λ h. absurd h)
device-keeps (Write at v) ds = write-keeps at v ds
device-keeps (WriteBit io bit set) ds = write-bit-keeps io bit set ds

pub cycles-at : (c : DataCall) (ds : Devices) (h : Handled (DataAnswer c)) → KeepsAt c ds h → h.devices.cycles ≡ ds.cycles
cycles-at (Read at) ds h keeps = keeps.0
cycles-at (Write at v) ds h keeps = keeps.0
cycles-at (WriteBit io bit set) ds h keeps = keeps.0

-- No call of the core changes the count of cycles.
pub through-cycles : {R : Type 0} (tree : Ask DataCall DataAnswer R) (ds : Devices) → All (λ h. h.devices.cycles ≡ ds.cycles) (through tree ds)
through-cycles (Give r) ds = refl
through-cycles (Call c go) ds =
    all-followed (KeepsAt c ds) (λ h. h.devices.cycles ≡ ds.cycles) (device c ds) (λ h. through (go h.answer) h.devices) (device-keeps c ds)
    (λ h keeps. all-weaken (λ k. k.devices.cycles ≡ h.devices.cycles) (λ k. k.devices.cycles ≡ ds.cycles) (through (go h.answer) h.devices)
    (λ k e. e ∙ cycles-at c ds h keeps) (through-cycles (go h.answer) h.devices))

-- What holds of every result of a tree holds through the devices.
pub through-all : {R : Type 0} (P : R → Type 0) (tree : Ask DataCall DataAnswer R) (ds : Devices) → All P tree
    → All (λ h. P h.answer × (h.devices.cycles ≡ ds.cycles)) (through tree ds)
through-all P (Give r) ds all = (all, refl)
through-all P (Call c go) ds all =
    all-followed (KeepsAt c ds) (λ h. P h.answer × (h.devices.cycles ≡ ds.cycles)) (device c ds) (λ h. through (go h.answer) h.devices) (device-keeps c ds)
    (λ h keeps. all-weaken (λ k. P k.answer × (k.devices.cycles ≡ h.devices.cycles)) (λ k. P k.answer × (k.devices.cycles ≡ ds.cycles)) (through (go h.answer) h.devices)
    (λ k e. (e.0, e.1 ∙ cycles-at c ds h keeps)) (through-all P (go h.answer) h.devices (all h.answer)))
