-- What follows over all that is done with a receiver: no byte is lost, doubled or moved, and none comes early.
use Rattle.std.specs.Prelude.{◌≡◌, ◌<◌, ◌≤◌, ℕ, ◌+◌, ◌*◌, Bool, true, false, List, [], ◌∷◌, ◌++◌, Option, Some, None}
use Rattle.avr_console.specs.declared.waiting.Waiting.{Waiting}
use Rattle.avr_console.specs.declared.waiting.Waiting.TheVariants as waits
use Rattle.avr_console.specs.Console.{ConsoleState, enabled, oldest_of, passed, started, taken}

-- what may be done
pub data Operation : Type 0 where
  Enable : (on : Bool) (frame at : ℕ) → Operation
  Pass : (to : ℕ) → Operation
  Take : Operation

-- what an operation leaves
abbrev pub done : Operation → ConsoleState → ConsoleState
done (Enable on frame at) s = enabled on frame at s
done (Pass to) s = passed s to
done Take s = taken s

-- the receiver after these operations, the newest first, before a console with these bytes
abbrev pub after : List ℕ → List Operation → ConsoleState
after bytes [] = started bytes
after bytes (operation ∷ earlier) = done operation (after bytes earlier)

-- the byte that was taken, as a list
abbrev pub listed : Option ℕ → List ℕ
listed None = []
listed (Some byte) = byte ∷ []

-- the bytes that readings took, the oldest first
abbrev pub heard : List ℕ → List Operation → List ℕ
heard bytes [] = []
heard bytes (Take ∷ earlier) = heard bytes earlier ++ listed (oldest_of (after bytes earlier).waiting)
heard bytes (operation ∷ earlier) = heard bytes earlier

-- the bytes that wait, the oldest first
abbrev pub waiting_bytes : Waiting → List ℕ
waiting_bytes waits.Nothing = []
waiting_bytes (waits.One oldest) = oldest ∷ []
waiting_bytes (waits.Two oldest newest) = oldest ∷ newest ∷ []

-- what was heard, what waits, and what the console has not sent are the console's bytes, in order
abbrev pub HearsAll : Type 0
HearsAll = (bytes : List ℕ) (operations : List Operation) →
    heard bytes operations ++ (waiting_bytes (after bytes operations).waiting ++ (after bytes operations).left) ≡ bytes

-- a receiver goes on at a cycle count, before two bytes and more: none waits before a frame time is over, one before two are, and
-- then both; no further one comes without a reading
pub record ShowsArrivals (first second at frame now : ℕ) (later : Waiting) : Type 0 where
  pub none_yet : now < at + frame → later ≡ waits.Nothing
  pub one : at + frame ≤ now → now < at + 2 * frame → later ≡ waits.One first
  pub both : at + 2 * frame ≤ now → later ≡ waits.Two first second

abbrev pub FramesArrive : Type 0
FramesArrive = (s : ConsoleState) (first second at frame now : ℕ) (more : List ℕ) → s.on ≡ false → s.waiting ≡ waits.Nothing →
    s.left ≡ first ∷ second ∷ more → ShowsArrivals first second at frame now (passed (enabled true frame at s) now).waiting
