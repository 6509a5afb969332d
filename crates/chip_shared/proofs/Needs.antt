-- What the shared state is at its start, after a turn in which nothing happened, and where nothing is in flight.
use Rattle.std.proofs.Common.{◌≡◌, ◌+◌, ℕ, zero, suc, ◌-◌, Bool, true, false, eqb, cond, List, [], ◌∷◌, ◌++◌, length, length-append, drop, refl, sym, ap, ◌∙◌, subst, arith}
use Rattle.chip_sheet.specs.Past.{Past}
use Rattle.chip_sheet.specs.Streams.{Starts, is_open, sent, taken}
use Rattle.chip_sheet.specs.Life.{status, lives}
use Rattle.chip_sheet.specs.Windows.{flight, in_flight}
use Rattle.chip_sheet.specs.declared.event.Addr.{Addr}
use Rattle.chip_core.specs.declared.chip.Chip.{Chip}
use Rattle.chip_core.specs.Chip.{Stands, starts_of}
use Rattle.chip_hist.specs.Log.{Log}
use Rattle.link_trait.specs.Shown.{Shown, IsFresh}
use Rattle.chip_shared.specs.State.{State}
use Rattle.chip_shared.specs.Tied.{Tied, Ready}
use Rattle.chip_shared.specs.Sound.{Sound, state_of}

no_life : (b : Bool) → false ≡ true → b ≡ true
no_life b h = cc

-- Fresh links agree with an empty history.
pub sound_fresh : {L : Type 0} (shown : L → Shown) (chip : Chip) (log : Log) (links : L) (starts : Starts) → Stands starts chip [] → starts_of chip ≡ starts → log.past ≡ [] → IsFresh (shown links) → Sound shown chip log links 0
sound_fresh shown chip log links starts stands same past fresh =
    let tied : Tied starts [] (shown links) = record {
      given = λ c few told. (fresh c told).given;
      fed = λ c few told. (fresh c told).fed;
      dests = λ c few told. ([], sym ((ap (λ (d : List Addr). d ++ []) ((fresh c told).dests))));
      one_each = λ c few told made. ap length (fresh c told).dests;
    } in
    let ready : Ready [] (shown links) = record { made = λ c few made dropped. no_life ((shown links).made c) made; quiet = λ c few still. refl } in
    record { stands = rw (same, past) stands; tied = rw (same, past) tied; ready = rw past ready; counted = omega arith }

-- The bytes in flight are as many as are in flight.
pub flight_long : (starts : Starts) (past : Past) (n : ℕ) → length (in_flight starts past n) ≡ flight starts past n
flight_long starts past n = by (is_open (status past n)) (sent starts past n (lives past n)) (taken past n (lives past n))
  where
    dropped : (t : ℕ) (s : List ℕ) → length (drop t s) ≡ length s - t
    dropped zero s = omega arith
    dropped (suc t) [] = omega arith
    dropped (suc t) (x ∷ s) = let more = dropped t s in omega (arith, more)

    by : (b : Bool) (s : List ℕ) (t : ℕ) → length (cond b (drop t s) []) ≡ cond b (length s - t) 0
    by true s t = dropped t s
    by false s t = refl

-- A socket is clear where both pieces that are lent are empty.
pub clear_told : {L : Type 0} (before : State L) (chip : Chip) (log : Log) (links : L) (calls n : ℕ) (head tail : List ℕ) → state_of chip log links calls ≡ before → head ++ tail ≡ in_flight (starts_of chip) log.past n
    → eqb (length head + length tail) 0 ≡ eqb (flight before.starts before.log.past n) 0
clear_told before chip log links calls n head tail view all =
    subst (λ (s : State _). eqb (length head + length tail) 0 ≡ eqb (flight s.starts s.log.past n) 0) view
    (ap (λ (k : ℕ). eqb k 0) (sym (length-append head tail) ∙ ap length all ∙ flight_long (starts_of chip) log.past n))
