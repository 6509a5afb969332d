-- What follows from the shape of a tree (`Shaped`).
use Rattle.std.proofs.Common.{◌≡◌, ◌+◌, ℕ, List, Bool, true, false, Result, Ok, Err, refl, sym, ap, subst, arith}
use Rattle.std.specs.Prelude.{IfOk}
use Rattle.avr_core.proofs.Shaped.{Shaped, Follows, FollowsAt, IsFree, IsSafe, executed-shaped, enter-shaped, sram-asked}
use Rattle.avr_core.specs.Ask.{Give, Call}
use Rattle.avr_core.specs.Calls.{DataCall, Read, Write, WriteBit, AnswerTo}
use Rattle.avr_core.specs.Code.{said_at}
use Rattle.avr_core.specs.Cuts.{EndsCut, by_cut, is_data_over, data_over, went_over, step_over, OverOnlyAsSaid}
use Rattle.avr_core.specs.Meaning.{executed, meaning, interrupted}
use Rattle.avr_core.specs.Ops.{is_resting}
use Rattle.avr_core.specs.Registers.{in_flash, ahead}
use Rattle.avr_sheet.specs.Bits.{with_bit}
use Rattle.avr_core.specs.Settled.{Settles}
use Rattle.avr_core.specs.Steps.{Asked}
use Rattle.avr_core.specs.Trees.{All}
use Rattle.avr_core.specs.Within.{IsWithin, AllWithin}
use Rattle.avr_core.specs.declared.bus.DataEnd.{DataEnd}
use Rattle.avr_core.specs.declared.bus.DataEnd.TheVariants as ends
use Rattle.avr_core.specs.declared.cpu.Core.{Core}
use Rattle.avr_core.specs.declared.went.Went.{Went}
use Rattle.avr_core.specs.declared.went.Went.TheVariants as wents
use Rattle.avr_table.specs.Decoded.{decoded}
use Rattle.avr_table.specs.WellFormed.{IsWellFormed}
use Rattle.flash.specs.Image.{word_at}

-- A step and an interrupt entry.
pub next-word : (pc : ℕ) → in_flash (in_flash pc + 1) ≡ in_flash (pc + 1)
next-word pc = omega arith

pub said-is : (flash : List ℕ) (core : Core) → decoded (word_at flash (in_flash core.pc)) (word_at flash (ahead core 1)) ≡ said_at flash (in_flash core.pc)
unfolding said_at
said-is flash core = ap (λ n. decoded (word_at flash (in_flash core.pc)) (word_at flash n)) (sym (next-word core.pc))

pub meaning-is : (flash : List ℕ) (core : Core) → meaning flash core ≡ executed flash (word_at flash (in_flash core.pc)) (said_at flash (in_flash core.pc)) core
unfolding meaning
meaning-is flash core = ap (λ said. executed flash (word_at flash (in_flash core.pc)) said core) (said-is flash core)

pub meaning-shaped : (flash : List ℕ) (core : Core)
    → Shaped (IfOk (said_at flash (in_flash core.pc)) IsWellFormed) (is_resting (said_at flash (in_flash core.pc))) core false (meaning flash core)
meaning-shaped flash core =
    let said = said_at flash (in_flash core.pc) in
    subst (λ t. Shaped (IfOk said IsWellFormed) (is_resting said) core false t) (sym (meaning-is flash core)) (executed-shaped flash (word_at flash (in_flash core.pc)) said core)

pub interrupted-shaped : (vector : ℕ) (core : Core) → Shaped (Unit {0}) false core false (interrupted vector core)
interrupted-shaped vector core = enter-shaped (Unit {0}) 4 core.pc vector (with_bit core.sreg 7 false) core (omega arith, omega arith)

-- Every result settles the step.
settle-by : {T : Type 0} (core : Core) (a : Result T DataEnd) (tree : Asked) (goes : Type 0) → Follows core a tree goes → (goes → All (Settles core) tree) → All (Settles core) tree
settle-by core (Ok v) tree goes it go = go it
settle-by core (Err ends.BusOver) tree goes it go = subst (λ t. All (Settles core) t) (sym it) refl
settle-by core (Err (ends.Stop s)) tree goes it go = subst (λ t. All (Settles core) t) (sym it.1) refl

settle-at : (c : DataCall) (core : Core) (a : AnswerTo c) (tree : Asked) (goes : Type 0) → FollowsAt c core a tree goes → (goes → All (Settles core) tree) → All (Settles core) tree
settle-at (Read at) core a tree goes it go = settle-by core a tree goes it go
settle-at (Write at v) core a tree goes it go = settle-by core a tree goes it go
settle-at (WriteBit io bit set) core a tree goes it go = settle-by core a tree goes it go

pub shaped-settles : (formed : Type 0) (rests : Bool) (core : Core) (later : Bool) (tree : Asked) → Shaped formed rests core later tree → All (Settles core) tree
shaped-settles formed rests core later (Give s) shaped = shaped.0
shaped-settles formed rests core later (Call c next) shaped = λ a.
    settle-at c core a (next a) (Shaped formed rests core true (next a)) (shaped.1 a) (λ it. shaped-settles formed rests core true (next a) it)

pub meaning-settles : (flash : List ℕ) (core : Core) → All (Settles core) (meaning flash core)
meaning-settles flash core = shaped-settles _ _ core false (meaning flash core) (meaning-shaped flash core)

pub interrupted-settles : (vector : ℕ) (core : Core) → All (Settles core) (interrupted vector core)
interrupted-settles vector core = shaped-settles _ _ core false (interrupted vector core) (interrupted-shaped vector core)

-- The bus is over exactly behind an answer that says so.
free-uncut : (rests later : Bool) (went : Went) → IsFree rests later went → went_over went ≡ false
free-uncut rests later (wents.Ran cycles) free = refl
free-uncut rests later wents.Break free = refl
free-uncut rests later wents.Sleep free = refl
free-uncut rests later wents.BusOver free = absurd free
free-uncut rests later (wents.Stop stop) free = refl

cut-by : {T : Type 0} (core : Core) (a : Result T DataEnd) (tree : Asked) (goes : Type 0) → Follows core a tree goes → (goes → OverOnlyAsSaid tree)
    → by_cut (is_data_over a) (EndsCut step_over tree) (OverOnlyAsSaid tree)
cut-by core (Ok v) tree goes it go = go it
cut-by core (Err ends.BusOver) tree goes it go = subst (λ t. EndsCut step_over t) (sym it) refl
cut-by core (Err (ends.Stop s)) tree goes it go = subst OverOnlyAsSaid (sym it.1) refl

cut-at : (c : DataCall) (core : Core) (a : AnswerTo c) (tree : Asked) (goes : Type 0) → FollowsAt c core a tree goes → (goes → OverOnlyAsSaid tree)
    → by_cut (data_over c a) (EndsCut step_over tree) (OverOnlyAsSaid tree)
cut-at (Read at) core a tree goes it go = cut-by core a tree goes it go
cut-at (Write at v) core a tree goes it go = cut-by core a tree goes it go
cut-at (WriteBit io bit set) core a tree goes it go = cut-by core a tree goes it go

pub shaped-cuts : (formed : Type 0) (rests : Bool) (core : Core) (later : Bool) (tree : Asked) → Shaped formed rests core later tree → OverOnlyAsSaid tree
shaped-cuts formed rests core later (Give s) shaped = free-uncut rests later s.went shaped.1
shaped-cuts formed rests core later (Call c next) shaped = λ a.
    cut-at c core a (next a) (Shaped formed rests core true (next a)) (shaped.1 a) (λ it. shaped-cuts formed rests core true (next a) it)

pub meaning-cuts : (flash : List ℕ) (core : Core) → OverOnlyAsSaid (meaning flash core)
meaning-cuts flash core = shaped-cuts _ _ core false (meaning flash core) (meaning-shaped flash core)

pub interrupted-cuts : (vector : ℕ) (core : Core) → OverOnlyAsSaid (interrupted vector core)
interrupted-cuts vector core = shaped-cuts _ _ core false (interrupted vector core) (interrupted-shaped vector core)

-- What is asked is within bounds.
safe-within : (formed : Type 0) (later : Bool) (c : DataCall) → formed → IsSafe formed later c → IsWithin c
safe-within formed true (Read at) is safe = sram-asked at safe
safe-within formed false (Read at) is safe = safe is
safe-within formed true (Write at v) is safe = sram-asked at safe
safe-within formed false (Write at v) is safe = safe
safe-within formed later (WriteBit io bit set) is safe = safe.1 is

within-by : {T : Type 0} (core : Core) (a : Result T DataEnd) (tree : Asked) (goes : Type 0) → Follows core a tree goes → (goes → AllWithin tree) → AllWithin tree
within-by core (Ok v) tree goes it go = go it
within-by core (Err ends.BusOver) tree goes it go = subst AllWithin (sym it) tt
within-by core (Err (ends.Stop s)) tree goes it go = subst AllWithin (sym it.1) tt

within-at : (c : DataCall) (core : Core) (a : AnswerTo c) (tree : Asked) (goes : Type 0) → FollowsAt c core a tree goes → (goes → AllWithin tree) → AllWithin tree
within-at (Read at) core a tree goes it go = within-by core a tree goes it go
within-at (Write at v) core a tree goes it go = within-by core a tree goes it go
within-at (WriteBit io bit set) core a tree goes it go = within-by core a tree goes it go

pub shaped-within : (formed : Type 0) (rests : Bool) (core : Core) (later : Bool) (tree : Asked) → formed → Shaped formed rests core later tree → AllWithin tree
shaped-within formed rests core later (Give s) is shaped = tt
shaped-within formed rests core later (Call c next) is shaped = (
  safe-within formed later c is shaped.0,
  λ a.
      within-at c core a (next a) (Shaped formed rests core true (next a)) (shaped.1 a) (λ it. shaped-within formed rests core true (next a) is it),
)

pub meaning-within : (flash : List ℕ) (core : Core) → IfOk (said_at flash (in_flash core.pc)) IsWellFormed → AllWithin (meaning flash core)
meaning-within flash core is = shaped-within _ _ core false (meaning flash core) is (meaning-shaped flash core)

pub interrupted-within : (vector : ℕ) (core : Core) → AllWithin (interrupted vector core)
interrupted-within vector core = shaped-within _ _ core false (interrupted vector core) tt (interrupted-shaped vector core)
