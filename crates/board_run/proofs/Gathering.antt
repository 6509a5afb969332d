-- What both passes leave: the events of the bus, and why the turns ended.
use Rattle.std.proofs.Common.{◌≡◌, inl, inr, ℕ, suc, List, [], ◌∷◌, ◌++◌, map, Option, None, Some, refl, sym, ap, ◌∙◌, subst}
use Rattle.std.proofs.lemmas.List.{map-append}
use Rattle.board_bus.specs.declared.event.BusAnswer.{BusAnswer}
use Rattle.board_bus.specs.declared.event.BusEvent.{BusEvent}
use Rattle.chip_sheet.specs.declared.event.Entry.TheVariants.{Bus, Link, Rest}
use Rattle.chip_sheet.specs.declared.stop.ChipStop.{ChipStop}
use Rattle.chip_sheet.specs.Past.{Past, exchanges}
use Rattle.chip_sheet.specs.Stops.{stop}
use Rattle.chip_sheet.specs.Streams.{Starts}
use Rattle.chip_shared.specs.State.{State}
use Rattle.chip_lock.specs.declared.over.Found.{Found}
use Rattle.chip_lock.specs.declared.over.Over.{Over}
use Rattle.chip_lock.specs.declared.over.Over.TheVariants.{Stopped, TraceFull, NoMemory, PollFault, Finished}
use Rattle.chip_lock.specs.Causes.{Owns, WereFound}
use Rattle.chip_lock.specs.Passes.{PassView, Closes, IsOfOne}
use Rattle.board_sim.specs.Exchanges.{asked_of, answers_of}
use Rattle.board_run.specs.declared.wire.Unanswered.{Unanswered}
use Rattle.board_run.specs.Wires.{entries_of, told_by}
use Rattle.board_run.specs.Sides.{EndsBy, IsQuietOther, OnlyFault}
use Rattle.board_run.specs.Lives.{StopsThere}
use Rattle.board_run.specs.Closing.{CauseOf, CausedBy, HasBus}

-- Events and answers are those of the exchanges.
asked_exchanges : (past : Past) → asked_of past ≡ map (λ (x : BusEvent × BusAnswer). x.0) (exchanges past)
asked_exchanges [] = refl
asked_exchanges (Bus e a ∷ past) =
    ap (λ (l : List BusEvent). l ++ e ∷ []) (asked_exchanges past) ∙ sym (map-append (λ (x : BusEvent × BusAnswer). x.0) (exchanges past) ((e, a) ∷ []))
asked_exchanges (Link n what ∷ past) = asked_exchanges past
asked_exchanges (Rest ∷ past) = asked_exchanges past

answers_exchanges : (past : Past) → answers_of past ≡ map (λ (x : BusEvent × BusAnswer). x.1) (exchanges past)
answers_exchanges [] = refl
answers_exchanges (Bus e a ∷ past) =
    ap (λ (l : List BusAnswer). l ++ a ∷ []) (answers_exchanges past) ∙ sym (map-append (λ (x : BusEvent × BusAnswer). x.1) (exchanges past) ((e, a) ∷ []))
answers_exchanges (Link n what ∷ past) = answers_exchanges past
answers_exchanges (Rest ∷ past) = answers_exchanges past

same_bus : {L : Type 0} (now : State L) (past : Past) → exchanges now.log.past ≡ exchanges past → HasBus (asked_of past) (answers_of past) now
same_bus now past same = record {
  events_are = asked_exchanges now.log.past ∙ ap (map (λ (x : BusEvent × BusAnswer). x.0)) same ∙ sym (asked_exchanges past);
  answers_are = answers_exchanges now.log.past ∙ ap (map (λ (x : BusEvent × BusAnswer). x.1)) same ∙ sym (answers_exchanges past);
}

pub gathered_bus : {L : Type 0} (a b : PassView) (refused : Option Unanswered) (now : State L) → IsQuietOther b → Closes a b now
    → HasBus (told_by a.mine refused).asked (told_by a.mine refused).answers now
gathered_bus a b refused now quiet closes = same_bus now (entries_of a.mine) (closes.bus quiet.no_bus)

-- A stop is owned by whoever found it.
found_none : {X : Type 0} (s : ChipStop) (found : Option Found) (gave : Option Over) → found ≡ None → Owns (Stopped s) found gave → X
found_none s found gave none owns = let h : Some owns.0 ≡ None = sym owns.1 ∙ none in absurd (cc)

gave_none : {X : Type 0} (c : Over) (gave : Option Over) → gave ≡ None → gave ≡ Some c → X
gave_none c gave none is = let h : Some c ≡ None = sym is ∙ none in absurd (cc)

-- Where neither found one, the chip has not stopped.
stops_never : {L : Type 0} (a b : PassView) (now : State L) (stopped : Option ChipStop) → a.found ≡ None → b.found ≡ None → ((s : ChipStop) → stopped ≡ Some s → IsOfOne a b (Stopped s))
    → stopped ≡ None
stops_never a b now None none none' owned = refl
stops_never a b now (Some s) none none' owned = by (owned s refl)
  where
    by : IsOfOne a b (Stopped s) → Some s ≡ None
    by (inl it) = found_none s a.found a.gave none it
    by (inr it) = found_none s b.found b.gave none' it

-- A stop that the first pass found, at this event.
found_there : (starts : Starts) (limit : ℕ) (past : Past) (found : Option Found) (f : Found) (c : BusEvent) (s : ChipStop) → WereFound starts limit past found → found ≡ Some f → f.stop ≡ s → f.event ≡ c
    → StopsThere starts limit past c s
found_there starts limit past found f c s were is stop_is event_is =
    let it = were f is in
    record {
      before = it.before;
      rests = suc it.more;
      since = it.since;
      room = it.here.room;
      stops = subst (λ (e : BusEvent). stop starts it.before e ≡ Some s) event_is (it.here.stops ∙ ap Some stop_is);
    }

-- Where the first pass ended with this cause at this event, the cause has its reason.
caused_by : {L : Type 0} (why : Over) (c : BusEvent) (a b : PassView) (now : State L) (before after : ℕ) → a.ended ≡ Some why → ((f : Found) → a.found ≡ Some f → f.event ≡ c) → a.gave ≡ None
    → IsQuietOther b → Closes a b now → OnlyFault before after b.gave → IsOfOne a b why → CausedBy why now c before after
caused_by (Stopped s) c a b now before after ended found gave quiet closes only (inl it) = found_there now.starts now.log.limit now.log.past a.found it.0 c s closes.found it.1 it.2 (found it.0 it.1)
caused_by (Stopped s) c a b now before after ended found gave quiet closes only (inr it) = found_none s b.found b.gave quiet.unfound it
caused_by TraceFull c a b now before after ended found gave quiet closes only owned = closes.full (inl ended)
caused_by NoMemory c a b now before after ended found gave quiet closes only owned = tt
caused_by PollFault c a b now before after ended found gave quiet closes only (inl it) = gave_none PollFault a.gave gave it
caused_by PollFault c a b now before after ended found gave quiet closes (inl none) (inr it) = gave_none PollFault b.gave none it
caused_by PollFault c a b now before after ended found gave quiet closes (inr fault) (inr it) = fault.1
caused_by Finished c a b now before after ended found gave quiet closes only (inl it) = gave_none Finished a.gave gave it
caused_by Finished c a b now before after ended found gave quiet closes (inl none) (inr it) = gave_none Finished b.gave none it
caused_by Finished c a b now before after ended found gave quiet closes (inr fault) (inr it) = let h : Some PollFault ≡ Some Finished = sym fault.0 ∙ it in absurd (cc)

pub gathered_cause : {L : Type 0} (a b : PassView) (refused : Option Unanswered) (now : State L) (before after : ℕ) → EndsBy a refused → IsQuietOther b → Closes a b now → OnlyFault before after b.gave
    → CauseOf refused now before after
gathered_cause a b None now before after ends quiet closes only = stops_never a b now now.stopped ends.found quiet.unfound closes.stopped
gathered_cause a b (Some u) now before after ends quiet closes only =
    caused_by u.why u.event a b now before after ends.ended ends.found ends.gave quiet closes only (closes.origin u.why (inl ends.ended))
