-- Which interrupt of the timers is pending, and what serving it leaves (ATmega328P datasheet, "Interrupt Vectors").
use Rattle.std.specs.Prelude.{ℕ, ◌==◌, Bool, false, ◌&&◌, List, [], ◌∷◌, Option, find, if◌then◌else◌}
use Rattle.avr_sheet.specs.BitNames.{OCIEA, OCIEB, TOIE}
use Rattle.avr_sheet.specs.Bits.{is_set}
use Rattle.avr_sheet.specs.Vectors.{TIMER2_COMPA, TIMER2_COMPB, TIMER2_OVF, TIMER1_COMPA, TIMER1_COMPB, TIMER1_OVF, TIMER0_COMPA, TIMER0_COMPB, TIMER0_OVF}
use Rattle.avr_timer.specs.Timers.{TimersState}

-- The vectors, the most urgent first. Input capture is not part of this profile, so CAPT of timer 1 is never requested.
abbrev pub timer0_vectors : List ℕ
timer0_vectors = TIMER0_COMPA ∷ TIMER0_COMPB ∷ TIMER0_OVF ∷ []

abbrev pub timer1_and_0_vectors : List ℕ
timer1_and_0_vectors = TIMER1_COMPA ∷ TIMER1_COMPB ∷ TIMER1_OVF ∷ timer0_vectors

abbrev pub vectors : List ℕ
vectors = TIMER2_COMPA ∷ TIMER2_COMPB ∷ TIMER2_OVF ∷ timer1_and_0_vectors

-- A request: its vector, the mask TIMSKn with the bit that enables it, and its flag.
pub record Request : Type 0 where
  pub vector : ℕ
  pub mask : ℕ
  pub enable : ℕ
  pub flag : Bool

abbrev request : ℕ → ℕ → ℕ → Bool → Request
request vector mask enable flag = record { vector = vector; mask = mask; enable = enable; flag = flag }

abbrev pub requests : TimersState → List Request
requests s =
    request TIMER2_COMPA s.timer2.timsk OCIEA s.timer2.flags.match_a ∷
    request TIMER2_COMPB s.timer2.timsk OCIEB s.timer2.flags.match_b ∷
    request TIMER2_OVF s.timer2.timsk TOIE s.timer2.flags.overflow ∷
    request TIMER1_COMPA s.timer1.timsk OCIEA s.timer1.flags.match_a ∷
    request TIMER1_COMPB s.timer1.timsk OCIEB s.timer1.flags.match_b ∷
    request TIMER1_OVF s.timer1.timsk TOIE s.timer1.flags.overflow ∷
    request TIMER0_COMPA s.timer0.timsk OCIEA s.timer0.flags.match_a ∷
    request TIMER0_COMPB s.timer0.timsk OCIEB s.timer0.flags.match_b ∷
    request TIMER0_OVF s.timer0.timsk TOIE s.timer0.flags.overflow ∷
    []

-- Whether the request of the first row with this vector is enabled and its flag set.
abbrev pub requested_in : List Request → ℕ → Bool
requested_in [] vector = false
requested_in (r ∷ more) vector = if vector == r.vector then is_set r.mask r.enable && r.flag else requested_in more vector

-- Whether the flag of a vector is set and its request enabled.
abbrev pub is_requested : TimersState → ℕ → Bool
is_requested s vector = requested_in (requests s) vector

-- The pending vector: the first that is requested.
abbrev pub pending_vector : TimersState → Option ℕ
pending_vector s = find (is_requested s) vectors

-- The timers once a vector is served: its own flag is cleared.
abbrev pub served_state : TimersState → ℕ → TimersState
served_state s vector =
    if vector == TIMER2_COMPA then record s { timer2 = record s.timer2 { flags = record s.timer2.flags { match_a = false } } }
    else if vector == TIMER2_COMPB then record s { timer2 = record s.timer2 { flags = record s.timer2.flags { match_b = false } } }
    else if vector == TIMER2_OVF then record s { timer2 = record s.timer2 { flags = record s.timer2.flags { overflow = false } } }
    else if vector == TIMER1_COMPA then record s { timer1 = record s.timer1 { flags = record s.timer1.flags { match_a = false } } }
    else if vector == TIMER1_COMPB then record s { timer1 = record s.timer1 { flags = record s.timer1.flags { match_b = false } } }
    else if vector == TIMER1_OVF then record s { timer1 = record s.timer1 { flags = record s.timer1.flags { overflow = false } } }
    else if vector == TIMER0_COMPA then record s { timer0 = record s.timer0 { flags = record s.timer0.flags { match_a = false } } }
    else if vector == TIMER0_COMPB then record s { timer0 = record s.timer0 { flags = record s.timer0.flags { match_b = false } } }
    else if vector == TIMER0_OVF then record s { timer0 = record s.timer0 { flags = record s.timer0.flags { overflow = false } } }
    else s
