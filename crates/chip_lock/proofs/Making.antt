-- What a pass learns of a turn of its own.
use Rattle.std.proofs.Common.{◌≡◌, ◌⊎◌, ℕ, ◌+◌, ◌≤◌, [], ◌∷◌, length, Option, Some, None, Result, Ok, Err, refl, sym, ap, ◌∙◌, subst, inl, inr, arith, le-ltb, lt-ltb}
use Rattle.std.specs.Prelude.{if◌then◌else◌}
use Rattle.std.specs.Option.{unwrap_or}
use Rattle.atomic_table.specs.Table.{Me}
use Rattle.atomic_table.specs.Seated.{TableId}
use Rattle.board_bus.specs.declared.event.BusEvent.{BusEvent}
use Rattle.board_bus.specs.declared.event.BusAnswer.{BusAnswer}
use Rattle.chip_sheet.specs.declared.event.Entry.{Entry}
use Rattle.chip_sheet.specs.declared.event.Entry.TheVariants.{Bus, Rest}
use Rattle.chip_sheet.specs.declared.stop.ChipStop.{ChipStop}
use Rattle.chip_sheet.specs.Answers.{answer}
use Rattle.chip_sheet.specs.Past.{Past, GoesOn}
use Rattle.chip_sheet.specs.Stops.{stop}
use Rattle.chip_sheet.specs.Streams.{Starts}
use Rattle.chip_shared.specs.declared.shared.LinkDid.{LinkDid}
use Rattle.chip_lock.specs.declared.over.Found.{Found}
use Rattle.chip_lock.specs.declared.over.Over.{Over}
use Rattle.chip_lock.specs.declared.over.Over.TheVariants.{Stopped, TraceFull, NoMemory, PollFault, Finished}
use Rattle.chip_lock.specs.declared.table.Terms.{Terms}
use Rattle.chip_lock.specs.declared.table.View.{View}
use Rattle.chip_lock.specs.Causes.{StopsHere}
use Rattle.chip_lock.specs.Overs.{IsGiven}
use Rattle.chip_lock.specs.Passes.{Adds, BusEnds, BusTaken, EndsAt, FindsStop, GivesBy, LinkTaken, PassView, StaysOf, pass_view}
use Rattle.chip_lock.specs.Plays.{Slot}
use Rattle.chip_lock.specs.Seats.{IsInside, MayLeave}
use Rattle.chip_lock.specs.Standing.{KeptState, is_full_at, past_of}
use Rattle.chip_lock.specs.Turns.{BusMade, BusTurn, EndTurn, Ends, FindsNone, FindsWith, GivesNone, LinkMade, LinkTurn, LinksAt, TakesOne, called}
use Rattle.chip_lock.specs.Views.{found_after, gave_after, inside, left_with, starts_in, with_newest}

gave_same : (vc kc gave : Option Over) → GivesNone vc kc → gave_after vc kc gave ≡ gave
gave_same (Some c) kc gave none = refl
gave_same None None gave none = refl
gave_same None (Some (Stopped s)) gave none = refl
gave_same None (Some TraceFull) gave none = refl
gave_same None (Some NoMemory) gave none = refl
gave_same None (Some PollFault) gave none = absurd (none PollFault refl refl tt)
gave_same None (Some Finished) gave none = absurd (none Finished refl refl tt)

gave_by : (vc kc gave : Option Over) (why kept : Over) → IsGiven why → kept ≡ unwrap_or vc why → kc ≡ Some kept → (gave_after vc kc gave ≡ gave) ⊎ ((gave_after vc kc gave ≡ Some why) × (kept ≡ why))
gave_by (Some c) kc gave why kept it first now = inl refl
gave_by None kc gave PollFault kept it first now = inr (ap (λ (o : Option Over). gave_after None o gave) (now ∙ ap Some first), first)
gave_by None kc gave Finished kept it first now = inr (ap (λ (o : Option Over). gave_after None o gave) (now ∙ ap Some first), first)
gave_by None kc gave (Stopped s) kept it first now = elim it [ ]
gave_by None kc gave TraceFull kept it first now = elim it [ ]
gave_by None kc gave NoMemory kept it first now = elim it [ ]

found_same : (vc kc : Option Over) (place : ℕ) (event : BusEvent) (found : Option Found) → FindsNone vc kc → found_after vc kc place event found ≡ found
found_same (Some c) kc place event found none = refl
found_same None None place event found none = refl
found_same None (Some (Stopped s)) place event found none = absurd (none s refl refl)
found_same None (Some TraceFull) place event found none = refl
found_same None (Some NoMemory) place event found none = refl
found_same None (Some PollFault) place event found none = refl
found_same None (Some Finished) place event found none = refl

-- What an event of the bus needs to have found a stop.
pub record FoundBy (starts : Starts) (limit : ℕ) (past : Past) (e last : BusEvent) (s : ChipStop) : Type 0 where
  pub here : StopsHere starts limit past last s
  pub last_is : last ≡ e

found_refused : (vc : Option Over) (starts : Starts) (limit : ℕ) (past : Past) (e last : BusEvent) (why : Over) (found : Option Found) → ((s : ChipStop) → vc ≡ None → why ≡ Stopped s → FoundBy starts limit past e last s)
    → (found_after vc (Some why) (length past) last found ≡ found) ⊎ FindsStop starts limit past e why (found_after vc (Some why) (length past) last found)
found_refused (Some c) starts limit past e last why found by = inl refl
found_refused None starts limit past e last (Stopped s) found by =
    let b = by s refl refl in
    inr (record {
      room = b.here.room;
      stop_is = s;
      why_is = refl;
      stops = ap (λ (x : BusEvent). stop starts past x) (sym b.last_is) ∙ b.here.stops;
      is = ap (λ (x : BusEvent). Some (record { place = length past; event = x; stop = s })) b.last_is;
    })
found_refused None starts limit past e last TraceFull found by = inl refl
found_refused None starts limit past e last NoMemory found by = inl refl
found_refused None starts limit past e last PollFault found by = inl refl
found_refused None starts limit past e last Finished found by = inl refl

rest_no_bus : (e : BusEvent) (a : BusAnswer) (past : Past) → Rest ∷ past ≡ Bus e a ∷ past → ⊥
rest_no_bus e a past same = cc

-- The seat behind its turn.
abbrev after : {L : Type 0} → View → KeptState L → KeptState L → View
after v k k' = left_with (inside v (length (past_of k)) k) k'

module _ {L : Type 0} (v : View) (k k' : KeptState L) where
  ends_not : k'.live ≡ k.live → (after v k k').ended ≡ v.ended
  ends_not live = ap (λ b. if b then k'.cause else v.ended) (le-ltb k'.live k.live (omega (arith, live)))

  ends_now : k'.live + 1 ≡ k.live → (after v k k').ended ≡ k'.cause
  ends_now live = ap (λ b. if b then k'.cause else v.ended) (lt-ltb k'.live k.live (omega (arith, live)))

  adds : (t t' : TableId) (e : Entry) (calls : ℕ) → GoesOn v.seen (past_of k) → past_of k' ≡ e ∷ past_of k → k'.state.calls ≡ k.state.calls + calls → Adds (pass_view t v) (past_of k) e calls (pass_view t' (after v k k'))
  adds t t' e calls later more counts = record {
    later = later;
    seen = more;
    mine = ap (λ (l : Past). with_newest l v.mine) more;
    asked = omega (arith, counts);
  }

-- A turn ends one pass at most, and makes no call undone.
record Moves {L : Type 0} (k k' : KeptState L) : Type 0 where
  pub live : k.live ≤ k'.live + 1
  pub calls : k.state.calls ≤ k'.state.calls

ends_move : {L : Type 0} (k k' : KeptState L) (why : Over) → Ends k why k' → Moves k k'
ends_move k k' why ends = record { live = omega (arith, ends.live); calls = omega (arith, ends.calls) }

bus_moves : {L : Type 0} (k k' : KeptState L) (e : BusEvent) (result : Result BusAnswer Over) → BusTurn k e result k' → Moves k k'
bus_moves k k' e (Ok a) made = record { live = omega (arith, made.live); calls = omega (arith, made.calls) }
bus_moves k k' e (Err why) ends = ends_move k k' why ends

link_moves : {L : Type 0} (k k' : KeptState L) (from : ℕ) (result : Result LinkDid Over) → LinkTurn k from result k' → Moves k k'
link_moves k k' from (Ok did) made = record { live = omega (arith, made.live); calls = omega (arith, made.calls) }
link_moves k k' from (Err why) ends = ends_move k k' why ends

-- The seat m is in its turn as m'.
module _ {L : Type 0} (m m' : Me (Slot L) View) (k k' : KeptState L) (i : IsInside m k m') where
  may_leave : m.0.runs ≡ 1 → Moves k k' → TakesOne k k' → MayLeave m'.0 k'
  may_leave runs moves one = subst (λ (u : View). MayLeave u k') (sym i.view) (record {
    entry = one.0;
    adds = one.1.adds;
    terms = (λ j. record { tx_start = (one.1.starts j).tx; rx_start = (one.1.starts j).rx; limit = one.1.limit j }) ∙ i.terms;
    keeps = λ c x. one.1.keeps c x;
    rests = one.1.rests;
    stops = λ s none now. let p = one.1.stops s none now in (p.0, subst (λ (x : Terms). StopsHere (starts_in x) x.limit (past_of k) k'.last s) i.terms p.1);
    short = one.1.short;
    live = omega (arith, runs, moves.live);
    calls = moves.calls;
  })

  pub bus_leaves : (e : BusEvent) (result : Result BusAnswer Over) → m.0.runs ≡ 1 → BusTurn k e result k' → TakesOne k k' → MayLeave m'.0 k'
  bus_leaves e result runs turn one = may_leave runs (bus_moves k k' e result turn) one

  pub link_leaves : (from : ℕ) (result : Result LinkDid Over) → m.0.runs ≡ 1 → LinkTurn k from result k' → TakesOne k k' → MayLeave m'.0 k'
  link_leaves from result runs turn one = may_leave runs (link_moves k k' from result turn) one

  pub end_leaves : (why kept : Over) → m.0.runs ≡ 1 → EndTurn k why kept k' → TakesOne k k' → MayLeave m'.0 k'
  end_leaves why kept runs turn one = may_leave runs (ends_move k k' kept turn.ends) one

-- A turn of a pass that is known as old before it: the seat m was in its turn as m', and is m'' behind it.
module _ {L : Type 0} (t t' : TableId) (m m' m'' : Me (Slot L) View) (k k' : KeptState L) (old : PassView) (is : pass_view t m.0 ≡ old) (i : IsInside m k m') where
  starts_are : k.state.starts ≡ old.starts
  starts_are = ap starts_in i.terms ∙ ap (λ (p : PassView). p.starts) is

  limit_is : k.state.log.limit ≡ old.limit
  limit_is = ap (λ (x : Terms). x.limit) i.terms ∙ ap (λ (p : PassView). p.limit) is

  module _ (out : m'' ≡ (left_with m'.0 k', [])) where
    after_is : m''.0 ≡ after m.0 k k'
    after_is = ap (λ (x : Me (Slot L) View). x.0) out ∙ ap (λ (u : View). left_with u k') i.view

    pub stays : t' ≡ t → StaysOf old (pass_view t' m''.0)
    stays same = record {
      turn = same ∙ ap (λ (p : PassView). p.turn) is;
      starts = ap (λ (u : View). starts_in u.terms) after_is ∙ ap (λ (p : PassView). p.starts) is;
      limit = ap (λ (u : View). u.terms.limit) after_is ∙ ap (λ (p : PassView). p.limit) is;
    }

    adds_as : (e : Entry) (calls : ℕ) → past_of k' ≡ e ∷ past_of k → k'.state.calls ≡ k.state.calls + calls → Adds old (past_of k) e calls (pass_view t' m''.0)
    adds_as e calls more counts = subst (λ (x : PassView × View). Adds x.0 (past_of k) e calls (pass_view t' x.1)) (λ j. (is j, sym after_is j)) (adds m.0 k k' t t' e calls i.later more counts)

    ended_as : (o : Option Over) → (after m.0 k k').ended ≡ o → m''.0.ended ≡ o
    ended_as o e = ap (λ (u : View). u.ended) after_is ∙ e

    pub gives_none : GivesNone k.cause k'.cause → m''.0.gave ≡ old.gave
    gives_none none = ap (λ (u : View). u.gave) after_is ∙ gave_same k.cause k'.cause m.0.gave none ∙ ap (λ (p : PassView). p.gave) is

    pub finds_none : FindsNone k.cause k'.cause → m''.0.found ≡ old.found
    finds_none none = ap (λ (u : View). u.found) after_is ∙ found_same k.cause k'.cause (length (past_of k)) k'.last m.0.found none ∙ ap (λ (p : PassView). p.found) is

    pub gives_by : (why kept : Over) → IsGiven why → EndTurn k why kept k' → GivesBy why old kept (pass_view t' m''.0)
    gives_by why kept it turn =
        subst (λ (x : PassView × View). GivesBy why x.0 kept (pass_view t' x.1)) (λ j. (is j, sym after_is j)) (gave_by k.cause k'.cause m.0.gave why kept it turn.first turn.ends.cause)

    pub ends_as : (why : Over) → old.ended ≡ None → Ends k why k' → EndsAt old (past_of k) why (pass_view t' m''.0)
    ends_as why before ends = record {
      before = before;
      ended = ended_as (Some why) (ends_now m.0 k k' ends.live ∙ ends.cause);
      adds = adds_as Rest 0 ends.adds (omega (arith, ends.calls));
    }

    pub bus_ends : (e : BusEvent) (why : Over) → old.ended ≡ None → Ends k why k' → TakesOne k k' → FindsWith e k k' → BusEnds old e why (pass_view t' m''.0)
    bus_ends e why before ends takes finds = record {
      past = past_of k;
      ends = ends_as why before ends;
      found = subst (λ (x : PassView × View). (x.1.found ≡ x.0.found) ⊎ FindsStop x.0.starts x.0.limit (past_of k) e why x.1.found) (λ j. (is j, sym after_is j))
          (subst (λ (o : Option Over). ((found_after k.cause o (length (past_of k)) k'.last m.0.found ≡ m.0.found) ⊎ FindsStop (starts_in m.0.terms) m.0.terms.limit (past_of k) e why (found_after k.cause o (length (past_of k)) k'.last m.0.found))) (sym ends.cause)
          (found_refused k.cause (starts_in m.0.terms) m.0.terms.limit (past_of k) e k'.last why m.0.found (λ s none stops_it. by s none (ends.cause ∙ ap Some stops_it))));
    }
      where
        by : (s : ChipStop) → k.cause ≡ None → k'.cause ≡ Some (Stopped s) → FoundBy (starts_in m.0.terms) m.0.terms.limit (past_of k) e k'.last s
        by s none now = record {
          here = subst (λ (x : Terms). StopsHere (starts_in x) x.limit (past_of k) k'.last s) i.terms (takes.1.stops s none now).1;
          last_is = finds s none now;
        }

    pub bus_taken : (e : BusEvent) (a : BusAnswer) → old.ended ≡ None → BusMade k e a k' → TakesOne k k' → BusTaken old e a (pass_view t' m''.0)
    bus_taken e a before made takes = record {
      before = before;
      past = past_of k;
      room = ap (λ (n : ℕ). is_full_at n (past_of k)) (sym limit_is) ∙ made.room;
      allowed = ap (λ (x : Starts). stop x (past_of k) e) (sym starts_are) ∙ made.allowed;
      is = made.is ∙ ap (λ (x : Starts). answer x (past_of k) e) starts_are;
      adds = adds_as (Bus e a) 0 made.adds (omega (arith, made.calls));
      ended = ended_as None (ends_not m.0 k k' made.live ∙ ap (λ (p : PassView). p.ended) is ∙ before);
      found = finds_none (λ s none now. rest_no_bus e a (past_of k) (ap (λ (d : Entry). d ∷ past_of k) (sym (takes.1.stops s none now).0) ∙ sym takes.1.adds ∙ made.adds));
    }

    pub link_taken : (from : ℕ) (did : LinkDid) → old.ended ≡ None → LinkMade k from did k' → LinkTaken old from did (pass_view t' m''.0)
    link_taken from did before made = record {
      before = before;
      past = past_of k;
      entry = made.entry;
      room = ap (λ (n : ℕ). is_full_at n (past_of k)) (sym limit_is) ∙ made.room;
      is = subst (λ (x : Starts). LinksAt x (past_of k) from did made.entry) starts_are made.is;
      adds = adds_as made.entry (called did) made.adds made.calls;
      ended = ended_as None (ends_not m.0 k k' made.live ∙ ap (λ (p : PassView). p.ended) is ∙ before);
    }
