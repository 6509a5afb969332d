-- What the chip says of an entry.
use Rattle.std.proofs.Common.{arith, ◌≡◌, ◌<◌, ◌^◌, ◌&&◌, ◌⊎◌, inl, inr, ℕ, Bool, true, false, ◌∷◌, cond, length, Option, None, Some, refl, sym, ap, subst, ◌∙◌}
use Rattle.std.proofs.lemmas.Bool.{lt-ltb}
use Rattle.board_bus.specs.declared.event.BusEvent.{BusEvent}
use Rattle.board_bus.specs.declared.event.BusAnswer.{BusAnswer}
use Rattle.chip_sheet.specs.declared.stop.ChipStop.{ChipStop}
use Rattle.chip_sheet.specs.declared.event.LinkEntry.{LinkEntry}
use Rattle.chip_sheet.specs.declared.event.Entry.{Entry}
use Rattle.chip_sheet.specs.declared.event.Entry.TheVariants.{Bus, Link}
use Rattle.chip_sheet.specs.Past.{Past}
use Rattle.chip_sheet.specs.Streams.{Starts}
use Rattle.chip_sheet.specs.Answers.{answer}
use Rattle.chip_sheet.specs.Stops.{stop}
use Rattle.chip_sheet.specs.LinkCalls.{fits}
use Rattle.chip_core.specs.declared.chip.Chip.{Chip}
use Rattle.chip_core.specs.Chip.{Answered, Stands, stop_kept}
use Rattle.chip_hist.specs.Log.{Log}
use Rattle.board_gen.specs.declared.session.TheConstants.{WEIGHT_LIMIT}
use Rattle.board_judge.specs.declared.end.JudgeFault.{JudgeFault}
use Rattle.board_judge.specs.declared.end.JudgeFault.TheVariants.{Differs, Unfit, Stops}
use Rattle.board_judge.specs.Judged.{answer_byte, answered, breach, compared, same_answer}
use Rattle.board_gen.specs.SessionState.{HasTextRoom}
use Rattle.board_judge.specs.Run.{Together}
use Rattle.board_judge.proofs.Wrongs.{same_true}

-- an event that was answered
pub answered_is : (starts : Starts) (old new : Chip) (past : Past) (place : ℕ) (e : BusEvent) (expected found : BusAnswer) (entry : Entry) (result : Option JudgeFault) → Answered starts old past e expected new → entry ≡ Bus e found
    → length past ≡ place → result ≡ compared place expected found → result ≡ breach starts past entry
answered_is starts old new past place e expected found entry result step same len is =
    is
    ∙ sym (ap (breach starts past) same
    ∙ ap (λ (o : Option ChipStop). answered o (length past) (answer starts past e) found) step.allowed
    ∙ (λ i. compared (len i) (sym step.is i) found))

compared_none : (place : ℕ) (expected found : BusAnswer) (b : Bool) → same_answer expected found ≡ b → cond b None (Some (Differs place (answer_byte expected) (answer_byte found))) ≡ None → found ≡ expected
compared_none place expected found true same is = same_true expected found same
compared_none place expected found false same is = absurd (cc is)

pub answered_stands : (starts : Starts) (old new : Chip) (past : Past) (place : ℕ) (e : BusEvent) (expected found : BusAnswer) (entry : Entry) (result : Option JudgeFault) → Answered starts old past e expected new → entry ≡ Bus e found
    → result ≡ compared place expected found → result ≡ None → Stands starts new (entry ∷ past) × (stop_kept new ≡ None)
answered_stands starts old new past place e expected found entry result step same is none =
    let found_is : found ≡ expected = compared_none place expected found (same_answer expected found) refl (sym is ∙ none) in
    (subst (λ (x : Entry). Stands starts new (x ∷ past)) (sym (same ∙ ap (Bus e) found_is)) step.stands, step.goes_on)

not_none : (s : ChipStop) → None ≡ Some s → ⊥
not_none s h = cc

-- one that has a stop
pub stops_is : (starts : Starts) (past : Past) (place : ℕ) (e : BusEvent) (found : BusAnswer) (entry : Entry) (s : ChipStop) (kept : Option ChipStop) → kept ≡ None
    → (kept ≡ Some s) ⊎ ((kept ≡ None) × (stop starts past e ≡ Some s)) → entry ≡ Bus e found → length past ≡ place → Some (Stops place s) ≡ breach starts past entry
stops_is starts past place e found entry s kept running (inl before) same len = absurd (not_none s (sym running ∙ before))
stops_is starts past place e found entry s kept running (inr (none, is)) same len =
    sym (ap (breach starts past) same
    ∙ ap (λ (o : Option ChipStop). answered o (length past) (answer starts past e) found) is
    ∙ ap (λ n. Some (Stops n s)) len)

-- a link event
pub link_is : (starts : Starts) (past : Past) (place n : ℕ) (what : LinkEntry) (entry : Entry) (b : Bool) → entry ≡ Link n what → n < 8 → fits starts past n what ≡ b → length past ≡ place
    → cond b None (Some (Unfit place)) ≡ breach starts past entry
link_is starts past place n what entry b same few due len =
    sym (ap (breach starts past) same ∙ (λ i. cond (lt-ltb n 8 few i && due i) None (Some (Unfit (len i)))))

-- a history that has room is short
pub short : (past : Past) → HasTextRoom past 0 → length past < 2 ^ 60
short past room = omega (arith, room.few)

-- the chip and the history after an entry
pub together_next : (starts : Starts) (chip : Chip) (history : Log) (past : Past) (entry : Entry) → Stands starts chip (entry ∷ past) → stop_kept chip ≡ None → history.past ≡ entry ∷ past → history.limit ≡ WEIGHT_LIMIT
    → Together starts chip history
together_next starts chip history past entry stands running is limited = record {
  stands = subst (λ (p : Past). Stands starts chip p) (sym is) stands;
  running = running;
  limited = limited;
}
