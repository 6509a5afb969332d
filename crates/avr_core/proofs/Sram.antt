-- A load and a store of SRAM are asked of the bus.
use Rattle.std.proofs.Common.{◌≡◌, ◌==◌, nat_lt, nat_le, ℕ, Bool, true, false, Result, if◌then◌else◌, sym, subst, ◌∙◌, arith}
use Rattle.std.proofs.lemmas.Bool.{cond-false, and_parts}
use Rattle.std.proofs.lemmas.Bool.Decides.{nat_tests}
use Rattle.avr_core.specs.Access.{load, store, stored}
use Rattle.avr_core.specs.Ask.{Call, Plays}
use Rattle.avr_core.specs.Calls.{DataCall, Read, Write, AnswerTo}
use Rattle.avr_core.specs.Stack.{is_sram}
use Rattle.avr_core.specs.Steps.{Asked, Stepped, went_of}
use Rattle.avr_core.specs.declared.bus.DataEnd.{DataEnd}
use Rattle.avr_core.specs.declared.cpu.Core.{Core}
use Rattle.avr_core.specs.declared.went.Went.{Went}

-- Of six places the last, where no test before it holds.
last-of-six : {X : Type 0} (a b c d e : Bool) (u v w x y z : X) → a ≡ false → b ≡ false → c ≡ false → d ≡ false → e ≡ false
    → (if a then u else if b then v else if c then w else if d then x else if e then y else z) ≡ z
last-of-six a b c d e u v w x y z na nb nc nd ne =
    cond-false a u _ na ∙ (cond-false b v _ nb ∙ (cond-false c w _ nc ∙ (cond-false d x _ nd ∙ cond-false e y z ne)))

record InSram (at : ℕ) : Type 0 where
  pub register : nat_lt at 32 ≡ false
  pub low : (at == 93) ≡ false
  pub high : (at == 94) ≡ false
  pub sreg : (at == 95) ≡ false
  pub past : nat_lt 2303 at ≡ false

in_sram : (at : ℕ) → is_sram at ≡ true → InSram at
in_sram at is =
    let both : (nat_le 256 at ≡ true) × (nat_le at 2303 ≡ true) = and_parts _ _ is in
    let from : nat_le 256 at ≡ true = both.0 in
    let to : nat_le at 2303 ≡ true = both.1 in
    record {
      register = grind (arith, nat_tests);
      low = grind (arith, nat_tests);
      high = grind (arith, nat_tests);
      sreg = grind (arith, nat_tests);
      past = grind (arith, nat_tests);
    }

load-is : (core : Core) (at : ℕ) (next : Result ℕ Went → Asked) → is_sram at ≡ true → load core at next ≡ Call (Read at) (λ answer. next (went_of core answer))
unfolding load
load-is core at next sram =
    let is : InSram at = in_sram at sram in
    last-of-six (nat_lt at 32) (at == 93) (at == 94) (at == 95) (nat_lt 2303 at) _ _ _ _ _ _ is.register is.low is.high is.sreg is.past

store-is : (core : Core) (at v : ℕ) (next : Result Core Went → Asked) → is_sram at ≡ true → store core at v next ≡ Call (Write at v) (λ answer. next (stored core (went_of core answer)))
unfolding store
store-is core at v next sram =
    let is : InSram at = in_sram at sram in
    last-of-six (nat_lt at 32) (at == 93) (at == 94) (at == 95) (nat_lt 2303 at) _ _ _ _ _ _ is.register is.low is.high is.sreg is.past

-- A play of what follows the answer is a play of the load, and of the store.
pub load-plays : {D : Type 0} (did : D → (c : DataCall) → AnswerTo c → D → Type 0) (core : Core) (at : ℕ) (next : Result ℕ Went → Asked) (before between after : D)
    (answer said : Result ℕ DataEnd) (end : Stepped) → is_sram at ≡ true → did before (Read at) answer between → answer ≡ said
    → Plays did between (next (went_of core said)) end after → Plays did before (load core at next) end after
load-plays did core at next before between after answer said end sram done is play =
    subst (λ t. Plays did before t end after) (sym (load-is core at next sram))
    (answer, between, done, subst (λ a. Plays did between (next (went_of core a)) end after) (sym is) play)

pub store-plays : {D : Type 0} (did : D → (c : DataCall) → AnswerTo c → D → Type 0) (core : Core) (at v : ℕ) (next : Result Core Went → Asked) (before between after : D)
    (answer said : Result (Unit {0}) DataEnd) (end : Stepped) → is_sram at ≡ true → did before (Write at v) answer between → answer ≡ said
    → Plays did between (next (stored core (went_of core said))) end after → Plays did before (store core at v next) end after
store-plays did core at v next before between after answer said end sram done is play =
    subst (λ t. Plays did before t end after) (sym (store-is core at v next sram))
    (answer, between, done, subst (λ a. Plays did between (next (stored core (went_of core a))) end after) (sym is) play)
