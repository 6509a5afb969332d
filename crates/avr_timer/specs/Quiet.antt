-- How long no interrupt of the timers is requested.
use Rattle.std.specs.Prelude.{◌≡◌, ◌≢◌, ℕ, ◌-◌, ◌^◌, ◌<◌, ◌≤◌, Bool, false, ◌&&◌, Option, None}
use Rattle.avr_sheet.specs.BitNames.{OCIEA, OCIEB, TOIE}
use Rattle.avr_sheet.specs.Bits.{is_set}
use Rattle.avr_timer.specs.declared.course.Course.{Course}
use Rattle.avr_timer.specs.declared.course.Counter.{Counter}
use Rattle.avr_timer.specs.declared.flags.Flags.{Flags}
use Rattle.avr_timer.specs.declared.timer8.Timer8.{Timer8}
use Rattle.avr_timer.specs.declared.timer16.Timer16.{Timer16}
use Rattle.avr_timer.specs.Count.{is_match, is_overflow}
use Rattle.avr_timer.specs.Ticks.{some_tick}
use Rattle.avr_timer.specs.Timers.{TimersState, passed8, passed16, passed}
use Rattle.avr_timer.specs.Requests.{pending_vector}

-- No flag is set whose request TIMSKn enables.
pub record IsQuiet (timsk : ℕ) (f : Flags) : Type 0 where
  pub match_a : (is_set timsk OCIEA && f.match_a) ≡ false
  pub match_b : (is_set timsk OCIEB && f.match_b) ≡ false
  pub overflow : (is_set timsk TOIE && f.overflow) ≡ false

-- None of the first k ticks raises a flag whose request TIMSKn enables.
pub record IsQuietFor (timsk : ℕ) (course : Course) (c : Counter) (a b k : ℕ) : Type 0 where
  pub match_a : (is_set timsk OCIEA && some_tick (is_match course c a) k) ≡ false
  pub match_b : (is_set timsk OCIEB && some_tick (is_match course c b) k) ≡ false
  pub overflow : (is_set timsk TOIE && some_tick (is_overflow course c) k) ≡ false

-- A timer that is quiet at one cycle count is quiet up to another.
abbrev pub StaysQuiet8 : Option ℕ → Timer8 → ℕ → ℕ → Type 0
StaysQuiet8 prescale t now until =
    IsQuiet t.timsk t.flags → (to : ℕ) → now ≤ to → to < until → IsQuiet t.timsk (passed8 prescale t now to).flags

abbrev pub StaysQuiet16 : Option ℕ → Timer16 → ℕ → ℕ → Type 0
StaysQuiet16 prescale t now until =
    IsQuiet t.timsk t.flags → (to : ℕ) → now ≤ to → to < until → IsQuiet t.timsk (passed16 prescale t now to).flags

-- And some request comes at that cycle count, where it is below the largest number of 64 bits.
abbrev pub RequestComes8 : Option ℕ → Timer8 → ℕ → ℕ → Type 0
RequestComes8 prescale t now at = now ≤ at → at < 2 ^ 64 - 1 → IsQuiet t.timsk (passed8 prescale t now at).flags → ⊥

abbrev pub RequestComes16 : Option ℕ → Timer16 → ℕ → ℕ → Type 0
RequestComes16 prescale t now at = now ≤ at → at < 2 ^ 64 - 1 → IsQuiet t.timsk (passed16 prescale t now at).flags → ⊥

abbrev pub RequestComes : TimersState → ℕ → ℕ → Type 0
RequestComes s now at = now ≤ at → at < 2 ^ 64 - 1 → pending_vector (passed s now at) ≢ None

-- Where nothing is pending at one cycle count, nothing is up to another.
abbrev pub StaysQuiet : TimersState → ℕ → ℕ → Type 0
StaysQuiet s now until =
    pending_vector s ≡ None → (to : ℕ) → now ≤ to → to < until → pending_vector (passed s now to) ≡ None
