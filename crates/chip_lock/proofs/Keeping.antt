-- A step that is made in a turn: the entry that it adds, and what always holds behind it.
use Rattle.std.proofs.Common.{◌≡◌, ◌≤◌, ◌<◌, ◌+◌, ◌*◌, ◌/◌, ℕ, suc, ◌∷◌, length, Option, None, Some, Ok, refl, sym, ap, ◌∙◌, subst, arith}
use Rattle.std.specs.Prelude.{MatchOption}
use Rattle.board_bus.specs.declared.event.BusEvent.{BusEvent}
use Rattle.board_bus.specs.declared.event.BusAnswer.{BusAnswer}
use Rattle.chip_sheet.specs.declared.event.Entry.{Entry}
use Rattle.chip_sheet.specs.declared.event.Entry.TheVariants.{Bus, Rest}
use Rattle.chip_sheet.specs.declared.stop.ChipStop.{ChipStop}
use Rattle.chip_sheet.specs.LinkAnswers.{LinkAnswer, NotYet, Failed, entry_by}
use Rattle.chip_sheet.specs.LinkCalls.{due_at}
use Rattle.chip_sheet.specs.Windows.{flight, most_read}
use Rattle.chip_hist.specs.Log.{begun, entry_data, most_weight}
use Rattle.chip_hist.proofs.Weight.{light_after, open_short}
use Rattle.link_trait.specs.Calls.{Call}
use Rattle.chip_shared.specs.State.{State, Keeps}
use Rattle.chip_shared.specs.Asking.{Answered, IsOpen}
use Rattle.chip_shared.specs.Calling.{Called, Idles, Steps, did_at, first_due}
use Rattle.chip_shared.specs.declared.shared.LinkDid.{LinkDid}
use Rattle.chip_shared.proofs.OneCall.{call_room}
use Rattle.chip_lock.specs.declared.over.Over.{Over}
use Rattle.chip_lock.specs.declared.over.Over.TheVariants.{Stopped, TraceFull, NoMemory}
use Rattle.chip_lock.specs.Standing.{IsKept, KeptState}
use Rattle.chip_lock.specs.Turns.{AnswersAt, IdlesAt, LinkMade, LinksAt, Takes, called}

-- A step was made that added this entry and made so many link calls. The entry adds to the weight at most what one call can bring, and
-- takes the room of one event at most.
pub record Added {L : Type 0} (old : State L) (count : ℕ) (entry : Entry) (new : State L) : Type 0 where
  pub before : IsOpen old
  pub light : most_weight entry ≤ begun most_read + 1
  pub past : new.log.past ≡ entry ∷ old.log.past
  pub limit : new.log.limit ≡ old.log.limit
  pub starts : new.starts ≡ old.starts
  pub stopped : new.stopped ≡ None
  pub calls : new.calls ≡ old.calls + count
  pub events : old.log.spare_events ≤ new.log.spare_events + 1

-- More room behind the step changes nothing.
added_keeps : {L : Type 0} (old mid new : State L) (count : ℕ) (entry : Entry) → Added old count entry mid → Keeps mid new → new.stopped ≡ mid.stopped → Added old count entry new
added_keeps old mid new count entry it keeps same =
    let some = it.events in
    let more = keeps.events in
    record {
      before = it.before;
      light = it.light;
      past = keeps.past ∙ it.past;
      limit = keeps.limit ∙ it.limit;
      starts = keeps.starts ∙ it.starts;
      stopped = same ∙ it.stopped;
      calls = keeps.calls ∙ it.calls;
      events = omega (arith, some, more);
    }

-- An event of the bus, with more room made behind it.
pub bus_added : {L : Type 0} (old mid new : State L) (e : BusEvent) (a : BusAnswer) → Answered old e a mid → Keeps mid new → new.stopped ≡ mid.stopped → Added old 0 (Bus e a) new
bus_added old mid new e a it keeps same =
    let calls = it.calls in
    added_keeps old mid new 0 (Bus e a) (record {
      before = it.before;
      light = omega arith;
      past = it.past;
      limit = it.limit;
      starts = it.starts;
      stopped = it.stopped;
      calls = omega (arith, calls);
      events = it.events;
    }) keeps same

weighs : (e : Entry) → length (entry_data e) ≤ most_read → most_weight e ≤ begun most_read + 1
weighs e few = omega (arith, few)

called_once : (place : ℕ) (answer : LinkAnswer) → called (did_at place answer) ≡ 1
called_once place NotYet = refl
called_once place Failed = refl
called_once place answer = refl

-- A link step: by the first place at which a call was due.
pub record LinkAdded {L : Type 0} (old : State L) (first : Option ℕ) (did : LinkDid) (new : State L) : Type 0 where
  pub entry : Entry
  pub adds : Added old (called did) entry new
  pub is : MatchOption first (IdlesAt did entry) (λ place. AnswersAt old.starts old.log.past place did entry)

call_added : {L : Type 0} (effect : L → Call → LinkAnswer → L → Type 0) (old new : State L) (place : ℕ) (did : LinkDid) → IsOpen old → Called effect old place did new → LinkAdded old (Some place) did new
call_added effect old new place did open_ it =
    let n = place / 2 in
    let call = due_at old.starts old.log.past place in
    let e = entry_by n (flight old.starts old.log.past n) call it.answer in
    let once : called did ≡ 1 = ap called it.did ∙ called_once place it.answer in
    let calls = it.calls in
    record {
      entry = e;
      adds = record {
        before = open_;
        light = weighs e (call_room old.starts old.log.past place 1472 call it.answer e it.may refl (omega arith));
        past = it.past;
        limit = it.limit;
        starts = it.starts;
        stopped = it.stopped;
        calls = omega (arith, calls, once);
        events = it.events;
      };
      is = record { answer = it.answer; may = it.may; is = refl; does = it.did };
    }

idle_added : {L : Type 0} (old new : State L) (did : LinkDid) → IsOpen old → Idles old did new → LinkAdded old None did new
idle_added old new did open_ it =
    let nothing : called did ≡ 0 = ap called it.did in
    let calls = it.calls in
    record {
      entry = Rest;
      adds = record {
        before = open_;
        light = omega arith;
        past = it.past;
        limit = it.limit;
        starts = it.starts;
        stopped = it.stopped;
        calls = omega (arith, calls, nothing);
        events = it.events;
      };
      is = record { is = refl; does = it.did };
    }

step_added : {L : Type 0} (effect : L → Call → LinkAnswer → L → Type 0) (old new : State L) (did : LinkDid) (first : Option ℕ) → IsOpen old
    → MatchOption first (Idles old did new) (λ place. Called effect old place did new) → LinkAdded old first did new
step_added effect old new did None open_ it = idle_added old new did open_ it
step_added effect old new did (Some place) open_ it = call_added effect old new place did open_ it

-- A link step, with more room made behind it.
pub link_added : {L : Type 0} (effect : L → Call → LinkAnswer → L → Type 0) (old mid new : State L) (from : ℕ) (did : LinkDid) → Steps effect old from (Ok did) mid → Keeps mid new → new.stopped ≡ mid.stopped
    → LinkAdded old (first_due old.starts old.log.past from) did new
link_added effect old mid new from did it keeps same =
    let made = step_added effect old mid did (first_due old.starts old.log.past from) it.0 it.1 in
    record { entry = made.entry; adds = added_keeps old mid new (called did) made.entry made.adds keeps same; is = made.is }

-- Want of memory alone may be the cause behind a step that was made.
abbrev pub IsDry : Option Over → Type 0
IsDry cause = (c : Over) → cause ≡ Some c → c ≡ NoMemory

not_full : (cause : Option Over) → IsDry cause → cause ≡ Some TraceFull → ⊥
not_full cause dry is = let no = dry TraceFull is in cc

no_stop : (cause : Option Over) (s : ChipStop) → IsDry cause → cause ≡ Some (Stopped s) → ⊥
no_stop cause s dry is = let no = dry (Stopped s) is in cc

-- What always holds, behind a step that was made.
pub kept_added : {L : Type 0} (old new : State L) (before after : Option Over) (live count : ℕ) (entry : Entry) → before ≡ None → IsKept old before live → 0 < live → Added old count entry new
    → IsDry after → (after ≡ None → 2 * live ≤ new.log.spare_events) → (after ≡ None → live * most_read ≤ new.log.spare_bytes) → IsKept new after live
kept_added old new before after live count entry none kept some it dry turn_room data_room =
    let long : length new.log.past ≡ suc (length old.log.past) = ap length it.past in
    let short = open_short old.log it.before.room in
    let most = kept.few in
    let room = kept.turn_room none in
    let events = it.events in
    record {
      leaves = record {
        stopped = λ s is. let both : None ≡ Some s = sym it.stopped ∙ is in cc;
        full = λ is. absurd (not_full after dry is);
      };
      light = light_after old.log new.log entry (begun most_read) it.before.room it.light it.past it.limit;
      short = omega (arith, long, short, most);
      few = most;
      room = omega (arith, room, events, some);
      turn_room = turn_room;
      data_room = data_room;
    }

-- One turn took one entry, by the fields.
pub takes_added : {L : Type 0} (old new : State L) (before after : Option Over) (live count : ℕ) (asked last : BusEvent) (entry : Entry) (k : KeptState L)
    → record { state = old; cause = before; live = live; last = asked } ≡ k → before ≡ None → Added old count entry new → IsDry after
    → Takes k entry (record { state = new; cause = after; live = live; last = last })
takes_added old new before after live count asked last entry k view none it dry =
    let long : length new.log.past ≡ suc (length old.log.past) = ap length it.past in
    let short = open_short old.log it.before.room in
    subst (λ (x : KeptState _). Takes x entry (record { state = new; cause = after; live = live; last = last })) view (record {
      adds = it.past;
      starts = it.starts;
      limit = it.limit;
      keeps = λ c is. let both : None ≡ Some c = sym none ∙ is in cc;
      rests = λ c is. let both : None ≡ Some c = sym none ∙ is in cc;
      stops = λ s is now. absurd (no_stop after s dry now);
      short = omega (arith, long, short);
    })

-- A link step was made, by the fields.
pub link_made : {L : Type 0} (old new : State L) (before after : Option Over) (live from : ℕ) (last : BusEvent) (did : LinkDid) (entry : Entry) (k : KeptState L)
    → record { state = old; cause = before; live = live; last = last } ≡ k → before ≡ None → Added old (called did) entry new → LinksAt old.starts old.log.past from did entry
    → LinkMade k from did (record { state = new; cause = after; live = live; last = last })
link_made old new before after live from last did entry k view none it is =
    subst (λ (x : KeptState _). LinkMade x from did (record { state = new; cause = after; live = live; last = last })) view (record {
      before = none;
      room = it.before.room;
      entry = entry;
      is = is;
      adds = it.past;
      live = refl;
      calls = it.calls;
    })
