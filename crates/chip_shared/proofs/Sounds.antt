-- The shared state stays sound, on plain values.
use Rattle.std.proofs.Common.{◌≡◌, ◌≤◌, ◌+◌, ℕ, ◌∷◌, length, arith, sym, ap, ◌∙◌}
use Rattle.board_bus.specs.declared.event.BusEvent.{BusEvent}
use Rattle.board_bus.specs.declared.event.BusAnswer.{BusAnswer}
use Rattle.chip_sheet.specs.declared.event.Entry.TheVariants.{Bus}
use Rattle.chip_sheet.specs.Past.{Past}
use Rattle.chip_core.specs.declared.chip.Chip.{Chip}
use Rattle.chip_core.specs.Chip.{Stands, stop_kept, starts_of}
use Rattle.chip_core.specs.Chip as core
use Rattle.chip_hist.specs.Log.{Log}
use Rattle.link_trait.specs.Shown.{Shown}
use Rattle.chip_shared.specs.State.{State, Keeps}
use Rattle.chip_shared.specs.Sound.{Sound, state_of}
use Rattle.chip_shared.specs.Asking.{IsOpen, Answered}
use Rattle.chip_shared.proofs.Tying.{tied_bus, ready_bus}

pub sound_bus : {L : Type 0} (shown : L → Shown) (chip new : Chip) (log after : Log) (links : L) (calls : ℕ) (e : BusEvent) (a : BusAnswer) → Sound shown chip log links calls
    → core.Answered (starts_of chip) chip log.past e a new → starts_of new ≡ starts_of chip → after.past ≡ Bus e a ∷ log.past → Sound shown new after links calls
sound_bus shown chip new log after links calls e a held step same is =
    let starts = starts_of chip in
    let counted = held.counted in
    let longer = ap length is in
    record {
      stands = rw (same, is) step.stands;
      tied = rw (same, is) (tied_bus starts log.past e a (shown links) held.stands.legal held.tied);
      ready = rw is (ready_bus log.past e a (shown links) held.ready);
      counted = omega (arith, counted, longer);
    }

pub answered_bus : {L : Type 0} (old mid : State L) (chip new : Chip) (log after : Log) (links : L) (calls : ℕ) (e : BusEvent) (a : BusAnswer) → mid ≡ state_of chip log links calls
    → IsOpen old → Keeps old mid → core.Answered (starts_of chip) chip log.past e a new → starts_of new ≡ starts_of chip → after.past ≡ Bus e a ∷ log.past → after.limit ≡ log.limit
    → log.spare_events ≤ after.spare_events + 1 → log.spare_bytes ≤ after.spare_bytes → Answered old e a (state_of new after links calls)
answered_bus old mid chip new log after links calls e a is open_ keeps step same past limit events bytes =
    let starts_is = ap (λ (s : State _). s.starts) is in
    let past_is = ap (λ (s : State _). s.log.past) is in
    let limit_is = ap (λ (s : State _). s.log.limit) is in
    let links_is = ap (λ (s : State _). s.links) is in
    let calls_is = ap (λ (s : State _). s.calls) is in
    let events_is = ap (λ (s : State _). s.log.spare_events) is in
    let bytes_is = ap (λ (s : State _). s.log.spare_bytes) is in
    let starts = sym keeps.starts ∙ starts_is in
    let before = sym keeps.past ∙ past_is in
    let more = keeps.events in
    let room = keeps.bytes in
    record {
      before = open_;
      allowed = rw (starts, before) step.allowed;
      is = rw (starts, before) step.is;
      past = past ∙ ap (λ (p : Past). Bus e a ∷ p) (sym before);
      limit = limit ∙ sym limit_is ∙ keeps.limit;
      stopped = step.goes_on;
      starts = same ∙ sym starts;
      links = sym links_is ∙ keeps.links;
      calls = sym calls_is ∙ keeps.calls;
      events = omega (arith, more, events_is, events);
      bytes = omega (arith, room, bytes_is, bytes);
    }
