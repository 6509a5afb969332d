-- The first place at which a call is due, place by place; and a state in which nothing that matters has changed.
use Rattle.std.proofs.Common.{◌≡◌, ◌<◌, ◌+◌, ℕ, suc, Bool, true, false, cond, ◌∷◌, drop, Some, refl, sym, ap, ◌∙◌, arith}
use Rattle.std.proofs.Math.Seq.{drop-cons}
use Rattle.std.proofs.Math.ListN.{get_or}
use Rattle.chip_sheet.specs.Past.{Past}
use Rattle.chip_sheet.specs.Streams.{Starts}
use Rattle.chip_sheet.specs.LinkCalls.{due_at}
use Rattle.chip_sheet.specs.LinkAnswers.{LinkAnswer}
use Rattle.chip_sheet.proofs.Tables.{same_at}
use Rattle.link_trait.specs.Calls.{Call}
use Rattle.chip_shared.specs.State.{State, Keeps}
use Rattle.chip_shared.specs.Calling.{Called, first_of, first_due, is_due, places}
use Rattle.chip_shared.specs.declared.shared.LinkDid.{LinkDid}

each_place : (place : ℕ) → place < 16 → get_or places place 0 ≡ place
each_place place few = same_at (λ (k : ℕ). get_or places k 0) (λ (k : ℕ). k) 0 16 refl place (omega arith) (omega (arith, few))

from_place : (place : ℕ) → place < 16 → drop place places ≡ place ∷ drop (suc place) places
from_place place few = drop-cons places place 0 few ∙ ap (λ (p : ℕ). p ∷ drop (suc place) places) (each_place place few)

-- Nothing is due at a place, so the first is one behind it.
pub seeks_on : (starts : Starts) (past : Past) (place : ℕ) → place < 16 → is_due (due_at starts past place) ≡ false → first_due starts past place ≡ first_due starts past (place + 1)
seeks_on starts past place few none =
    ap (first_of starts past) (from_place place few) ∙ ap (λ (b : Bool). cond b (Some place) (first_due starts past (suc place))) none
    ∙ ap (first_due starts past) (let e : suc place ≡ place + 1 = omega arith in e)

-- A call is due at a place, so it is the first from there on.
pub finds : (starts : Starts) (past : Past) (place : ℕ) → place < 16 → is_due (due_at starts past place) ≡ true → first_due starts past place ≡ Some place
finds starts past place few some =
    ap (first_of starts past) (from_place place few) ∙ ap (λ (b : Bool). cond b (Some place) (first_due starts past (suc place))) some

pub called_keeps : {L : Type 0} (does : L → Call → LinkAnswer → L → Type 0) (old mid new : State L) (place : ℕ) (did : LinkDid) → Keeps old mid → Called does mid place did new → Called does old place did new
called_keeps does old mid new place did keeps it =
    let more = keeps.events in
    let room = it.events in
    record {
      answer = it.answer;
      effect = rw (sym keeps.links, sym keeps.starts, sym keeps.past) it.effect;
      may = rw (sym keeps.starts, sym keeps.past) it.may;
      past = rw (sym keeps.starts, sym keeps.past) it.past;
      did = it.did;
      calls = it.calls ∙ ap (λ (k : ℕ). k + 1) keeps.calls;
      limit = it.limit ∙ keeps.limit;
      stopped = it.stopped;
      starts = it.starts ∙ keeps.starts;
      events = omega (arith, more, room);
    }

-- The first call that is due, after room was made.
pub first_keeps : {L : Type 0} (old mid : State L) (from place : ℕ) → Keeps old mid → first_due mid.starts mid.log.past from ≡ Some place → first_due old.starts old.log.past from ≡ Some place
first_keeps old mid from place keeps is = rw (sym keeps.starts, sym keeps.past) is
