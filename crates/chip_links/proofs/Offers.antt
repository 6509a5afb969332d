-- What is offered of a socket, whether it is open or not.
use Rattle.std.proofs.Common.{◌≡◌, ◌≤◌, ◌<◌, ℕ, ◌-◌, ◌%◌, false, min, [], length, length-drop, take, drop, inl, inr, sym, ap, ◌∙◌, arith}
use Rattle.std.proofs.lemmas.Bool.{cases_Bool, cond-false}
use Rattle.std.proofs.lemmas.List.{drop_all, length-take-le}
use Rattle.chip_sheet.specs.Past.{Past}
use Rattle.chip_sheet.specs.Life.{status, lives}
use Rattle.chip_sheet.specs.Sending as sends
use Rattle.chip_sheet.specs.Sizes.{tx_size}
use Rattle.chip_sheet.specs.Streams.{Starts, sent, taken, is_open}
use Rattle.chip_sheet.specs.Windows as windows
use Rattle.chip_sheet.specs.Windows.{flight}
use Rattle.chip_sheet.specs.Buffers.{sending}
use Rattle.chip_sheet.specs.Legal.{Legal}
use Rattle.chip_steps.proofs.WindowSteps as steps
use Rattle.ring_mem.specs.declared.receives.Receives.{Receives}
use Rattle.ring_mem.specs.RxHolds.{room_at, room_len, room_bytes}
use Rattle.ring_mem.proofs.Rooms.{room_within}

-- Where it is not, nothing is in flight.
none_flies : (starts : Starts) (past : Past) (n : ℕ) → is_open (status past n) ≡ false → flight starts past n ≡ 0
none_flies starts past n shut = cond-false (is_open (status past n)) (length (sent starts past n (lives past n)) - taken past n (lives past n)) 0 shut

shut_in_flight : (starts : Starts) (past : Past) (n : ℕ) → is_open (status past n) ≡ false → sends.in_flight (sending starts past n) ≡ windows.in_flight starts past n
shut_in_flight starts past n shut =
    let all = (sending starts past n).sent in
    ap (λ (k : ℕ). drop (length all - k) all) (none_flies starts past n shut)
    ∙ drop_all (length all - 0) all (omega arith)
    ∙ sym (cond-false (is_open (status past n)) (drop (taken past n (lives past n)) (sent starts past n (lives past n))) [] shut)

nothing_offered : (f x y : ℕ) → f ≡ 0 → min f x ≡ min f y
nothing_offered f x y h = omega (arith, h)

pub in_flight_is : (starts : Starts) (past : Past) (n : ℕ) → Legal starts past → sends.in_flight (sending starts past n) ≡ windows.in_flight starts past n
in_flight_is starts past n legal = elim (cases_Bool (is_open (status past n))) [
  | inl live ↦ (steps.offered_is starts past n legal live).0
  | inr shut ↦ shut_in_flight starts past n shut
]

pub offered_is : (starts : Starts) (past : Past) (n : ℕ) → Legal starts past → sends.offered_length (sending starts past n) ≡ windows.offered_length starts past n
offered_is starts past n legal = elim (cases_Bool (is_open (status past n))) [
  | inl live ↦ (steps.offered_is starts past n legal live).1
  | inr shut ↦
      let size = tx_size past n in
      nothing_offered (flight starts past n) (size - sends.first_in_flight (sending starts past n) % size) (size - windows.first_in_flight starts past n % size) (none_flies starts past n shut)
]

-- How many of the bytes of a room the first so many are.
pub length_of_room : (r : Receives) (n k : ℕ) → n < 8 → k ≤ room_len r n → length (take k (room_bytes r n)) ≡ k
length_of_room r n k below few =
    let all = length-take-le (room_len r n) (drop (room_at r n) r.memory.items) (let within = room_within r n below in let rest = length-drop (room_at r n) r.memory.items in omega (arith, within, rest)) in
    length-take-le k (room_bytes r n) (omega (arith, all, few))
