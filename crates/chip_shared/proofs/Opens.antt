-- What an open state has room for, by its fields; and what a stop makes of the shared state.
use Rattle.std.proofs.Common.{◌≡◌, ◌<◌, ◌^◌, ℕ, ◌∷◌, length, None, Some, inl, inr, sym, ap, ◌∙◌, subst, arith, Err}
use Rattle.board_bus.specs.declared.event.BusEvent.{BusEvent}
use Rattle.chip_sheet.specs.declared.event.Entry.TheVariants.{Rest}
use Rattle.chip_sheet.specs.declared.stop.ChipStop.{ChipStop}
use Rattle.chip_core.specs.declared.chip.Chip.{Chip}
use Rattle.chip_core.specs.Chip.{Stands, stop_kept, starts_of}
use Rattle.chip_core.specs.Chip as core
use Rattle.chip_hist.specs.Log.{Log, IsLight}
use Rattle.chip_hist.proofs.Weight.{open_light}
use Rattle.link_trait.specs.Shown.{Shown}
use Rattle.chip_shared.specs.State.{State, Keeps}
use Rattle.chip_shared.specs.Sound.{Sound, state_of}
use Rattle.chip_shared.specs.Tied.{Tied, Ready}
use Rattle.chip_shared.specs.Asking.{Asks, IsOpen}
use Rattle.chip_shared.specs.declared.shared.StepEnd.TheVariants.{Stopped}

-- Few entries, by the fields.
pub short_of : {L : Type 0} (mid : State L) (chip : Chip) (log : Log) (links : L) (calls : ℕ) → state_of chip log links calls ≡ mid → length mid.log.past < 576460752303423488 → length log.past < 2 ^ 60
short_of mid chip log links calls view few = subst (λ (s : State _). length s.log.past < 2 ^ 60) (sym view) (omega (arith, few))

-- A history that is not full weighs less than it may.
pub light_of : {L : Type 0} (old mid : State L) (chip : Chip) (log : Log) (links : L) (calls : ℕ) → state_of chip log links calls ≡ mid → Keeps old mid → IsOpen old → IsLight log
light_of old mid chip log links calls view keeps open_ =
    let below = open_light old.log open_.room in
    let light : IsLight old.log = omega (arith, below) in
    subst (λ (s : State _). IsLight s.log) (sym view) (rw (keeps.past, keeps.limit) light)

-- A stop leaves the shared state sound.
pub sound_stop : {L : Type 0} (shown : L → Shown) (chip new : Chip) (log : Log) (links : L) (calls : ℕ) → Sound shown chip log links calls → Stands (starts_of chip) new log.past → starts_of new ≡ starts_of chip
    → Sound shown new log links calls
sound_stop shown chip new log links calls held stands same = record {
  stands = rw same stands;
  tied = rw same held.tied;
  ready = held.ready;
  counted = held.counted;
}

-- A turn in which nothing happened leaves it sound.
pub sound_rest : {L : Type 0} (shown : L → Shown) (chip : Chip) (log after : Log) (links : L) (calls : ℕ) → Sound shown chip log links calls → Stands (starts_of chip) chip (Rest ∷ log.past) → after.past ≡ Rest ∷ log.past
    → Sound shown chip after links calls
sound_rest shown chip log after links calls held stands past =
    let counted = held.counted in
    let longer = ap length past in
    let tied : Tied (starts_of chip) (Rest ∷ log.past) (shown links) = record { given = held.tied.given; fed = held.tied.fed; dests = held.tied.dests; one_each = held.tied.one_each } in
    let ready : Ready (Rest ∷ log.past) (shown links) = record { made = held.ready.made; quiet = held.ready.quiet } in
    record { stands = rw past stands; tied = rw past tied; ready = rw past ready; counted = omega (arith, counted, longer) }

-- What a stop makes of the state, as a step says it.
pub stops_bus : {L : Type 0} (old mid : State L) (chip new : Chip) (log : Log) (links : L) (calls : ℕ) (e : BusEvent) (s : ChipStop) → state_of chip log links calls ≡ mid → Keeps old mid → mid.stopped ≡ old.stopped
    → IsOpen old → core.Stopped (starts_of chip) chip log.past e s new → starts_of new ≡ starts_of chip → Asks old e (Err (Stopped s)) (state_of new log links calls)
stops_bus old mid chip new log links calls e s view keeps same open_ stopped starts =
    let starts_is = ap (λ (t : State _). t.starts) view in
    let past_is = ap (λ (t : State _). t.log.past) view in
    let limit_is = ap (λ (t : State _). t.log.limit) view in
    let links_is = ap (λ (t : State _). t.links) view in
    let calls_is = ap (λ (t : State _). t.calls) view in
    let events_is = ap (λ (t : State _). t.log.spare_events) view in
    let bytes_is = ap (λ (t : State _). t.log.spare_bytes) view in
    let stop_is = ap (λ (t : State _). t.stopped) view in
    let more = keeps.events in
    let room = keeps.bytes in (
      record {
        starts = starts ∙ starts_is ∙ keeps.starts;
        past = past_is ∙ keeps.past;
        limit = limit_is ∙ keeps.limit;
        links = links_is ∙ keeps.links;
        calls = calls_is ∙ keeps.calls;
        events = omega (arith, more, events_is);
        bytes = omega (arith, room, bytes_is);
      },
      elim stopped.cause [
        | inl before ↦ absurd (none_some s (sym (stop_is ∙ same ∙ open_.unstopped) ∙ before))
        | inr (none, is) ↦ inr (open_, (rw (sym keeps.starts ∙ sym starts_is, sym keeps.past ∙ sym past_is) is, stopped.kept))
      ],
    )
  where
    none_some : (s : ChipStop) → None ≡ Some s → ⊥
    none_some s h = cc
