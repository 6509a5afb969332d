-- What holds of the table between any two steps.
-- The history exists in the rule alone: each entry with a mark, which says whether the first seat made it, the newest first.
use Rattle.std.specs.Prelude.{◌≡◌, ℕ, ◌+◌, ◌<◌, ◌≤◌, ◌^◌, ◌⊎◌, List, [], ◌∷◌, length, Option, Some, None, Bool, true, false, not}
use mathlib.Core.Option.{none, some}
use mathlib.Core.Option as core
use lib.ListN.{get_elem?}
use Rattle.atomic_table.specs.Table.{State}
use Rattle.chip_sheet.specs.declared.event.Entry.{Entry}
use Rattle.chip_sheet.specs.Past.{GoesOn}
use Rattle.chip_lock.specs.declared.over.Over.{Over}
use Rattle.chip_lock.specs.declared.table.Stage.{Stage}
use Rattle.chip_lock.specs.declared.table.Stage.TheVariants.{Idle, Waiting, Inside}
use Rattle.chip_lock.specs.declared.table.Terms.{Terms}
use Rattle.chip_lock.specs.declared.table.View.{View}
use Rattle.chip_lock.specs.Causes.{FoundIn, Names, Owns}
use Rattle.chip_lock.specs.Lists.{total, below, picks, bare, is_first}
use Rattle.chip_lock.specs.Standing.{KeptState, past_of}
use Rattle.chip_lock.specs.Views.{starts_in, terms_of}

abbrev pub Marked : Type 0
Marked = List (Bool × Entry)

-- f of the ticket that a seat holds.
abbrev pub weighs : (ℕ → ℕ) → Stage → ℕ
weighs f Idle = 0
weighs f (Waiting t) = f t
weighs f (Inside t) = f t

abbrev pub ticket_of : (ℕ → ℕ) → View → ℕ
ticket_of f v = weighs f v.stage

-- A seat in its turn is the one that is served, and knows the whole history.
abbrev pub StandsAt : Marked → View → Stage → Type 0
StandsAt log v Idle = Unit {0}
StandsAt log v (Waiting t) = Unit {0}
StandsAt log v (Inside t) = (t ≡ length log) × (v.seen ≡ bare log)

-- What holds of a seat that took in the other one, beside what holds of each.
pub record HasJoined (log : Marked) (cause : Option Over) (terms : Terms) (p : ℕ) (v : View) : Type 0 where
  pub two : v.parts ≡ 2
  pub theirs : v.theirs ≡ picks (not (is_first p)) log
  pub told : GoesOn v.told (bare log)
  pub their_end : Names cause v.their_end
  pub their_found : FoundIn (starts_in terms) terms.limit (bare log) cause v.their_found

-- A seat with no part has done nothing.
pub record IsGone (v : View) : Type 0 where
  pub idle : v.stage ≡ Idle
  pub asked : v.asked ≡ 0
  pub found : v.found ≡ None
  pub gave : v.gave ≡ None

-- What holds of the seat at place p.
pub record Fits (log : Marked) (cause : Option Over) (terms : Terms) (p : ℕ) (v : View) : Type 0 where
  pub terms_same : 0 < v.parts → v.terms ≡ terms
  pub seen : GoesOn v.seen (bare log)
  pub mine : 0 < v.parts → v.mine ≡ picks (is_first p) log
  pub joins : v.is_joined ≡ true → HasJoined log cause terms p v
  pub gone : v.parts ≡ 0 → IsGone v
  pub stands : StandsAt log v v.stage
  pub ended : Names cause v.ended
  pub found : FoundIn (starts_in terms) terms.limit (bare log) cause v.found

-- A seat from which the cause comes, or to which it was handed on.
abbrev pub IsOrigin : Over → View → Type 0
IsOrigin c v = Owns c v.found v.gave ⊎ ((v.parts ≡ 2) × Owns c v.their_found v.their_gave)

pub record Origin (c : Over) (views : List View) : Type 0 where
  pub by : ℕ
  pub v : View
  pub at : get_elem? views by ≡ some v
  pub owns : IsOrigin c v

-- The state is home, with the whole history, and no seat is in a turn.
pub record Home {L : Type 0} (log : Marked) (cause : Option Over) (terms : Terms) (views : List View) (homes : List (core.Option (Option (KeptState L)))) : Type 0 where
  pub kept : KeptState L
  pub is : homes ≡ some (Some kept) ∷ []
  pub past : past_of kept ≡ bare log
  pub live : kept.live ≡ total (λ v. v.runs) views
  pub calls : kept.state.calls ≡ total (λ v. v.asked) views
  pub causes : kept.cause ≡ cause
  pub terms_same : terms_of kept.state ≡ terms
  pub empty : (p : ℕ) (v : View) (t : ℕ) → get_elem? views p ≡ some v → v.stage ≡ Inside t → ⊥

-- The state is out, with the seat in its turn.
pub record Out {L : Type 0} (log : Marked) (cause : Option Over) (views : List View) (homes : List (core.Option (Option (KeptState L)))) : Type 0 where
  pub by : ℕ
  pub v : View
  pub is : homes ≡ none ∷ []
  pub at : get_elem? views by ≡ some v
  pub stage : v.stage ≡ Inside (length log)
  pub live : v.live ≡ total (λ u. u.runs) views
  pub calls : v.calls ≡ total (λ u. u.asked) views
  pub causes : v.cause ≡ cause

-- A seat with both parts that was not joined is the only one, before the first turn.
pub record IsAlone (log : Marked) (cause : Option Over) (v : View) (views : List View) : Type 0 where
  pub only : views ≡ v ∷ []
  pub fresh : log ≡ []
  pub uncaused : cause ≡ None

pub record Orderly {L : Type 0} (s : State (Option (KeptState L)) View) : Type 0 where
  pub log : Marked
  pub ticket : ℕ
  pub cause : Option Over
  pub terms : Terms
  pub words : s.words ≡ ticket ∷ length log ∷ []
  pub short : length log < 2 ^ 60
  pub few : length s.views ≤ 2
  pub parts : total (λ v. v.parts) s.views ≡ 2
  -- each number from the served one on, below the next ticket, is held by one seat
  pub tickets : (f : ℕ → ℕ) → total (ticket_of f) s.views + below f (length log) ≡ below f ticket
  pub each : (p : ℕ) (v : View) → get_elem? s.views p ≡ some v → Fits log cause terms p v
  pub alone : (p : ℕ) (v : View) → get_elem? s.views p ≡ some v → v.parts ≡ 2 → v.is_joined ≡ false → IsAlone log cause v s.views
  pub origin : (c : Over) → cause ≡ Some c → Origin c s.views
  pub slot : Home log cause terms s.views s.homes ⊎ Out log cause s.views s.homes
