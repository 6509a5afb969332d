-- Any number of ticks is so many single ticks.
use Rattle.std.specs.Prelude.{◌≡◌, ◌≤◌, ℕ, zero, suc}
use Rattle.avr_timer.specs.declared.timer8.Timer8.{Timer8}
use Rattle.avr_timer.specs.declared.timer16.Timer16.{Timer16}
use Rattle.avr_timer.specs.Modes.{course8, course16}
use Rattle.avr_timer.specs.Timers.{mode8, mode16, ran8, ran16}
use Rattle.avr_timer_laws.specs.Tick.{ticked8, ticked16}

-- A timer after so many single ticks.
unfoldable pub single_ticks8 : Timer8 → ℕ → Timer8
single_ticks8 t zero = t
single_ticks8 t (suc k) = ticked8 (single_ticks8 t k)

unfoldable pub single_ticks16 : Timer16 → ℕ → Timer16
single_ticks16 t zero = t
single_ticks16 t (suc k) = ticked16 (single_ticks16 t k)

-- What the closed form leaves after any number of ticks, in the mode that the control registers say, is what so many single
-- ticks leave. The counter and TOP fit in their registers.
abbrev pub SingleTicks8 : Type 0
SingleTicks8 = (t : Timer8) (k : ℕ) → t.tcnt ≤ 255 → t.ocra ≤ 255 → ran8 (course8 (mode8 t) t.ocra) t k ≡ single_ticks8 t k

abbrev pub SingleTicks16 : Type 0
SingleTicks16 = (t : Timer16) (k : ℕ) → t.tcnt ≤ 65535 → t.ocra ≤ 65535 → t.icr ≤ 65535
    → ran16 (course16 (mode16 t) t.ocra t.icr) t k ≡ single_ticks16 t k
