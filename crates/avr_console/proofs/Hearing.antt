-- What was heard, what waits and what is left are the console's bytes.
use Rattle.std.proofs.Common.{◌≡◌, ℕ, ◌&&◌, Bool, true, false, List, [], ◌∷◌, ◌++◌, Option, Some, None, ◌+◌, refl, sym, ap, ◌∙◌, subst, append_assoc}
use Rattle.std.specs.Prelude.{if◌then◌else◌, nat_le}
use Rattle.std.proofs.lemmas.Bool.{false≢true}
use Rattle.avr_console.specs.declared.arrival.Arrival.{Arrival}
use Rattle.avr_console.specs.declared.waiting.Waiting.{Waiting}
use Rattle.avr_console.specs.declared.waiting.Waiting.TheVariants as waits
use Rattle.avr_console.specs.Console.{ConsoleState, arrived, begun, enabled, has_room, is_more, joined, landed, oldest_of, once, passed, taken_by}
use Rattle.avr_console.specs.Laws.{Operation, Enable, Pass, Take, after, heard, listed, waiting_bytes}

-- the bytes that are not yet heard
abbrev pub unheard : ConsoleState → List ℕ
unheard s = waiting_bytes s.waiting ++ s.left

-- a frame is on the way only where there is room
abbrev Clear : Option Arrival → Waiting → Type 0
Clear None waiting = Unit {0}
Clear (Some frame) waiting = has_room waiting ≡ true

-- these bytes are not yet heard, and the next arrival loses none
record Whole (s : ConsoleState) (rest : List ℕ) : Type 0 where
  clear : Clear s.coming s.waiting
  bytes : unheard s ≡ rest

begun-by : (on room more : Bool) (at : ℕ) (s : ConsoleState) → has_room s.waiting ≡ room →
    Whole (if on && (room && more) then record s { coming = Some (record { began = at; cycles = s.frame }) } else record s { coming = None })
    (unheard s)
begun-by true true true at s is = record { clear = is; bytes = refl }
begun-by true true false at s is = record { clear = tt; bytes = refl }
begun-by true false more at s is = record { clear = tt; bytes = refl }
begun-by false room more at s is = record { clear = tt; bytes = refl }

begun-whole : (at : ℕ) (s : ConsoleState) → Whole (begun at s) (unheard s)
begun-whole at s = begun-by s.on (has_room s.waiting) (is_more s.left) at s refl

goes-on : (on : Bool) (frame at : ℕ) (s : ConsoleState) → Clear s.coming s.waiting →
    Whole (if on then record s { frame = frame } else begun at (record s { on = true; frame = frame })) (unheard s)
goes-on true frame at s clear = record { clear = clear; bytes = refl }
goes-on false frame at s clear = begun-whole at (record s { on = true; frame = frame })

enabled-whole : (on : Bool) (frame at : ℕ) (s : ConsoleState) → Clear s.coming s.waiting → Whole (enabled on frame at s) (unheard s)
enabled-whole false frame at s clear = record { clear = tt; bytes = refl }
enabled-whole true frame at s clear = goes-on s.on frame at s clear

joined-bytes : (w : Waiting) (byte : ℕ) (more : List ℕ) → has_room w ≡ true →
    waiting_bytes (joined w byte) ++ more ≡ waiting_bytes w ++ byte ∷ more
joined-bytes waits.Nothing byte more room = refl
joined-bytes (waits.One oldest) byte more room = refl
joined-bytes (waits.Two oldest newest) byte more room = absurd (false≢true room)

landed-whole : (at : ℕ) (left : List ℕ) (s : ConsoleState) → s.left ≡ left → has_room s.waiting ≡ true → Whole (landed at left s) (unheard s)
landed-whole at [] s is room = record { clear = tt; bytes = refl }
landed-whole at (byte ∷ more) s is room =
    let next = begun-whole at (record s { waiting = joined s.waiting byte; left = more }) in
    record {
      clear = next.clear;
      bytes = next.bytes ∙ (joined-bytes s.waiting byte more room ∙ ap (λ (l : List ℕ). waiting_bytes s.waiting ++ l) (sym is));
    }

arrived-by : (over : Bool) (at : ℕ) (s : ConsoleState) → Clear s.coming s.waiting → has_room s.waiting ≡ true →
    Whole (if over then landed at s.left s else s) (unheard s)
arrived-by true at s clear room = landed-whole at s.left s refl room
arrived-by false at s clear room = record { clear = clear; bytes = refl }

arrived-whole : (by_now : ℕ) (o : Option Arrival) (s : ConsoleState) → s.coming ≡ o → Clear s.coming s.waiting →
    Whole (arrived by_now o s) (unheard s)
arrived-whole by_now None s is clear = record { clear = clear; bytes = refl }
arrived-whole by_now (Some frame) s is clear =
    arrived-by (nat_le (frame.began + frame.cycles) by_now) (frame.began + frame.cycles) s clear
    (subst (λ (o : Option Arrival). Clear o s.waiting) is clear)

passed-whole : (s : ConsoleState) (to : ℕ) → Clear s.coming s.waiting → Whole (passed s to) (unheard s)
passed-whole s to clear =
    let first = arrived-whole to s.coming s refl clear in
    let second = arrived-whole to (once to s).coming (once to s) refl first.clear in
    record { clear = second.clear; bytes = second.bytes ∙ first.bytes }

-- what is not heard once the oldest byte was
record Taken (before : ConsoleState) (o : Option ℕ) (s : ConsoleState) : Type 0 where
  clear : Clear s.coming s.waiting
  bytes : listed o ++ unheard s ≡ unheard before

one-clear : (o : Option Arrival) (waiting : Waiting) → Clear o waiting → Clear o waits.Nothing
one-clear None waiting clear = tt
one-clear (Some frame) waiting clear = refl

taken-whole : (w : Waiting) (s : ConsoleState) → s.waiting ≡ w → Clear s.coming s.waiting → Taken s (oldest_of w) (taken_by w s)
taken-whole waits.Nothing s is clear = record { clear = clear; bytes = refl }
taken-whole (waits.One oldest) s is clear = record {
  clear = one-clear s.coming s.waiting clear;
  bytes = ap (λ (w : Waiting). waiting_bytes w ++ s.left) (sym is);
}
taken-whole (waits.Two oldest newest) s is clear =
    let next = begun-whole s.cycle (record s { waiting = waits.One newest }) in
    record {
      clear = next.clear;
      bytes = ap (λ (l : List ℕ). oldest ∷ l) next.bytes ∙ ap (λ (w : Waiting). waiting_bytes w ++ s.left) (sym is);
    }

-- after any operations
record Told (bytes : List ℕ) (operations : List Operation) : Type 0 where
  clear : Clear (after bytes operations).coming (after bytes operations).waiting
  all : heard bytes operations ++ unheard (after bytes operations) ≡ bytes

told-by : (bytes : List ℕ) (operation : Operation) (earlier : List Operation) → Told bytes earlier → Told bytes (operation ∷ earlier)
told-by bytes (Enable on frame at) earlier t =
    let next = enabled-whole on frame at (after bytes earlier) t.clear in
    record { clear = next.clear; all = ap (λ (l : List ℕ). heard bytes earlier ++ l) next.bytes ∙ t.all }
told-by bytes (Pass to) earlier t =
    let next = passed-whole (after bytes earlier) to t.clear in
    record { clear = next.clear; all = ap (λ (l : List ℕ). heard bytes earlier ++ l) next.bytes ∙ t.all }
told-by bytes Take earlier t =
    let s = after bytes earlier in
    let next = taken-whole s.waiting s refl t.clear in
    record {
      clear = next.clear;
      all = append_assoc (heard bytes earlier) (listed (oldest_of s.waiting)) (unheard (taken_by s.waiting s))
          ∙ (ap (λ (l : List ℕ). heard bytes earlier ++ l) next.bytes ∙ t.all);
    }

told : (bytes : List ℕ) (operations : List Operation) → Told bytes operations
told bytes [] = record { clear = tt; all = refl }
told bytes (operation ∷ earlier) = told-by bytes operation earlier (told bytes earlier)

pub hears-all : (bytes : List ℕ) (operations : List Operation) →
    heard bytes operations ++ (waiting_bytes (after bytes operations).waiting ++ (after bytes operations).left) ≡ bytes
hears-all bytes operations = (told bytes operations).all
