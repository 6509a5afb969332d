-- The vectors of the devices, and which is pending.
use Rattle.std.proofs.Common.{◌≡◌, ◌≤◌, ℕ, true, inl, inr, List, [], ◌∷◌, Option, Some, None, find, refl, sym, ap, subst, ◌∙◌, arith}
use Rattle.avr_space.specs.Devices.{first_of, pending}
use Rattle.avr_space.specs.declared.devices.Devices.{Devices}
use Rattle.avr_mcu_laws.specs.Lowest.{is_serial_requested, Requests, IsLowest}
use Rattle.avr_mcu_laws.proofs.Found.{Among, RisesFrom, UpTo, at-least, at-most, finds, found, among-next}
use Rattle.avr_ports.specs.Ports.{PortsState}
use Rattle.avr_ports.specs.Requests.{vectors as ports_vectors, is_requested as is_ports_requested, pending_vector as ports_pending}
use Rattle.avr_serial.specs.Serial.{SerialState, pending_vector as serial_pending}
use Rattle.avr_timer.specs.Requests.{vectors as timers_vectors, is_requested as is_timers_requested, pending_vector as timers_pending}
use Rattle.avr_timer.specs.Timers.{TimersState}

abbrev serial_vectors : List ℕ
serial_vectors = 0x22 ∷ 0x26 ∷ 0x28 ∷ []

ports-among : (s : PortsState) (v : ℕ) → is_ports_requested s v ≡ true → Among v ports_vectors
ports-among s v is =
    among-next 2 _ _ v _ is (λ is. among-next 4 _ _ v _ is (λ is. among-next 6 _ _ v _ is (λ is. among-next 8 _ _ v _ is (λ is.
    among-next 10 _ _ v _ is (λ is. absurd (cc))))))

timers-among : (s : TimersState) (v : ℕ) → is_timers_requested s v ≡ true → Among v timers_vectors
timers-among s v is =
    among-next 0x0E _ _ v _ is (λ is. among-next 0x10 _ _ v _ is (λ is. among-next 0x12 _ _ v _ is (λ is. among-next 0x16 _ _ v _ is (λ is.
    among-next 0x18 _ _ v _ is (λ is. among-next 0x1A _ _ v _ is (λ is. among-next 0x1C _ _ v _ is (λ is. among-next 0x1E _ _ v _ is (λ is.
    among-next 0x20 _ _ v _ is (λ is. absurd (cc))))))))))

serial-among : (s : SerialState) (v : ℕ) → is_serial_requested s v ≡ true → Among v serial_vectors
serial-among s v is =
    among-next 0x22 _ _ v _ is (λ is. among-next 0x26 _ _ v _ is (λ is. among-next 0x28 _ _ v _ is (λ is. absurd (cc))))

serial-finds : (s : SerialState) → serial_pending s ≡ find (is_serial_requested s) serial_vectors
serial-finds s = refl

ports-rise : RisesFrom 0 ports_vectors
ports-rise = (omega arith, (omega arith, (omega arith, (omega arith, (omega arith, tt)))))

ports-up-to : UpTo 10 ports_vectors
ports-up-to = (omega arith, (omega arith, (omega arith, (omega arith, (omega arith, tt)))))

timers-rise : RisesFrom 14 timers_vectors
timers-rise =
    (omega arith, (omega arith, (omega arith, (omega arith, (omega arith, (omega arith, (omega arith, (omega arith, (omega arith, tt)))))))))

timers-up-to : UpTo 32 timers_vectors
timers-up-to =
    (omega arith, (omega arith, (omega arith, (omega arith, (omega arith, (omega arith, (omega arith, (omega arith, (omega arith, tt)))))))))

serial-rise : RisesFrom 34 serial_vectors
serial-rise = (omega arith, (omega arith, (omega arith, tt)))

-- The pending vector of each device is among its own.
ports-of : (s : PortsState) (w : ℕ) → ports_pending s ≡ Some w → (is_ports_requested s w ≡ true) × (w ≤ 10)
ports-of s w is =
    let it = found (is_ports_requested s) ports_vectors w is in (it.0, at-most 10 ports_vectors w ports-up-to it.1)

timers-of : (s : TimersState) (w : ℕ) → timers_pending s ≡ Some w → (is_timers_requested s w ≡ true) × (w ≤ 32)
timers-of s w is =
    let it = found (is_timers_requested s) timers_vectors w is in (it.0, at-most 32 timers_vectors w timers-up-to it.1)

serial-of : (s : SerialState) (w : ℕ) → serial_pending s ≡ Some w → is_serial_requested s w ≡ true
serial-of s w is = (found (is_serial_requested s) serial_vectors w (sym (serial-finds s) ∙ is)).0

-- What is pending is requested.
requested-by : (ds : Devices) (ports timers serial : Option ℕ) (w : ℕ)
    → ports_pending ds.ports ≡ ports → timers_pending ds.timers ≡ timers → serial_pending ds.serial ≡ serial
    → first_of ports (first_of timers serial) ≡ Some w → Requests ds w
requested-by ds (Some p) timers serial w e f g is = inl (ports-of ds.ports w (e ∙ is)).0
requested-by ds None (Some t) serial w e f g is = inr (inl (timers-of ds.timers w (f ∙ is)).0)
requested-by ds None None serial w e f g is = inr (inr (serial-of ds.serial w (g ∙ is)))

-- At most this vector is pending.
abbrev PendsUpTo : Option ℕ → ℕ → Type 0
PendsUpTo one v = (w : ℕ) × (one ≡ Some w) × (w ≤ v)

ports-first : (ports other : Option ℕ) (v : ℕ) → PendsUpTo ports v → PendsUpTo (first_of ports other) v
ports-first ports other v it = (it.0, ap (λ p. first_of p other) it.1, it.2)

behind : (first other : Option ℕ) (high v : ℕ) → ((w : ℕ) → first ≡ Some w → w ≤ high) → high ≤ v → PendsUpTo other v → PendsUpTo (first_of first other) v
behind (Some w) other high v bound above it = let low : w ≤ high = bound w refl in (w, refl, omega (arith, low, above))
behind None other high v bound above it = it

lowest-of : (ds : Devices) (v : ℕ) → Requests ds v → PendsUpTo (first_of (ports_pending ds.ports) (first_of (timers_pending ds.timers) (serial_pending ds.serial))) v
lowest-of ds v (inl is) =
    ports-first (ports_pending ds.ports) (first_of (timers_pending ds.timers) (serial_pending ds.serial)) v
    (finds (is_ports_requested ds.ports) 0 ports_vectors v ports-rise (ports-among ds.ports v is) is)
lowest-of ds v (inr (inl is)) =
    let among = timers-among ds.timers v is in
    let above : 14 ≤ v = at-least 14 timers_vectors v timers-rise among in
    behind (ports_pending ds.ports) (first_of (timers_pending ds.timers) (serial_pending ds.serial)) 10 v (λ w e. (ports-of ds.ports w e).1) (omega (arith, above))
    (ports-first (timers_pending ds.timers) (serial_pending ds.serial) v (finds (is_timers_requested ds.timers) 14 timers_vectors v timers-rise among is))
lowest-of ds v (inr (inr is)) =
    let among = serial-among ds.serial v is in
    let above : 34 ≤ v = at-least 34 serial_vectors v serial-rise among in
    let own : PendsUpTo (serial_pending ds.serial) v =
    subst (λ o. PendsUpTo o v) (sym (serial-finds ds.serial)) (finds (is_serial_requested ds.serial) 34 serial_vectors v serial-rise among is) in
    behind (ports_pending ds.ports) (first_of (timers_pending ds.timers) (serial_pending ds.serial)) 10 v (λ w e. (ports-of ds.ports w e).1) (omega (arith, above))
    (behind (timers_pending ds.timers) (serial_pending ds.serial) 32 v (λ w e. (timers-of ds.timers w e).1) (omega (arith, above)) own)

pub lowest-first : (ds : Devices) → IsLowest ds
unfolding pending
lowest-first ds = record {
  requested = λ w is. requested-by ds (ports_pending ds.ports) (timers_pending ds.timers) (serial_pending ds.serial) w refl refl refl is;
  lowest = λ v is. lowest-of ds v is;
}
