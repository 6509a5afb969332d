-- A session after an event.
use Rattle.std.proofs.Common.{◌≡◌, ℕ, ◌<◌, ◌^◌, Bool, ◌∷◌, length, Option, None, Some, inl, inr, sym, ap, ◌∙◌, subst, arith, ◌⊎◌}
use Rattle.board_bus.specs.declared.event.BusEvent.{BusEvent}
use Rattle.board_bus.specs.declared.event.BusAnswer.{BusAnswer}
use Rattle.chip_sheet.specs.declared.event.Entry.TheVariants.{Bus}
use Rattle.chip_sheet.specs.declared.event.LinkEntry.{LinkEntry}
use Rattle.chip_sheet.specs.declared.stop.ChipStop.{ChipStop}
use Rattle.chip_sheet.specs.Answers.{answer}
use Rattle.chip_sheet.specs.Stops.{stop}
use Rattle.chip_sheet.specs.LinkCalls.{fits}
use Rattle.chip_sheet.specs.Replay.{Asks}
use Rattle.chip_sheet.specs.declared.event.Entry.{Entry}
use Rattle.chip_sheet.specs.Past.{Past}
use Rattle.chip_sheet.specs.Streams.{Starts}
use Rattle.chip_core.specs.declared.chip.Chip.{Chip}
use Rattle.chip_core.specs.Chip.{Stands, starts_of, fits_here}
use Rattle.board_gen.specs.Session.{Takes}
use Rattle.chip_hist.specs.Log.{Log}
use Rattle.board_gen.specs.SessionState.{HasTextRoom, Together}
use Rattle.board_gen.specs.declared.session.TheConstants.{WEIGHT_LIMIT}

-- a history that has room for a text is short, and light
pub short : (past past' : Past) → past ≡ past' → HasTextRoom past' 0 → length past < 2 ^ 60
short past past' same light = let len = ap length same in omega (arith, light.few, len)

-- the chip and the history after an entry
pub together_after : (starts : Starts) (chip : Chip) (past : Past) (entry : Entry) (history : Log) → starts_of chip ≡ starts → Stands starts chip (entry ∷ past)
    → history.past ≡ entry ∷ past → history.limit ≡ WEIGHT_LIMIT → Together chip history
together_after starts chip past entry history same stands is limited = record {
  stands = subst (λ (p : Past). Stands (starts_of chip) chip p) (sym is) (subst (λ (s : Starts). Stands s chip (entry ∷ past)) (sym same) stands);
  limited = limited;
}

-- the chip and the history after a stop
pub together_stopped : (starts : Starts) (chip : Chip) (history after : Log) → starts_of chip ≡ starts → Stands starts chip history.past → after.past ≡ history.past → after.limit ≡ history.limit
    → history.limit ≡ WEIGHT_LIMIT → Together chip after
together_stopped starts chip history after same stands is limit limited = record {
  stands = subst (λ (p : Past). Stands (starts_of chip) chip p) (sym is) (subst (λ (s : Starts). Stands s chip history.past) (sym same) stands);
  limited = limit ∙ limited;
}

-- an event of the bus that was answered is a step that is taken
pub takes_asked : (starts starts' : Starts) (past past' new : Past) (e : BusEvent) (a : BusAnswer) → starts ≡ starts' → past ≡ past' → stop starts past e ≡ None → a ≡ answer starts past e → new ≡ Bus e a ∷ past
    → Takes starts' past' (Asks e) (Some a) new
takes_asked starts starts' past past' new e a s p allowed is new_is =
    let taken : Takes starts past (Asks e) (Some a) new = (allowed, is, new_is ∙ ap (λ (x : BusAnswer). Bus e x ∷ past) is) in
    subst (λ (q : Past). Takes starts' q (Asks e) (Some a) new) p (subst (λ (t : Starts). Takes t past (Asks e) (Some a) new) s taken)

some_not_none : (s : ChipStop) → None ≡ Some s → ⊥
some_not_none s h = cc

-- a stop that was not kept is that of the event
pub stop_found : (starts starts' : Starts) (past past' : Past) (e : BusEvent) (s : ChipStop) (kept : Option ChipStop) → starts ≡ starts' → past ≡ past' → kept ≡ None
    → (kept ≡ Some s) ⊎ ((kept ≡ None) × (stop starts past e ≡ Some s)) → stop starts' past' e ≡ Some s
stop_found starts starts' past past' e s kept t p running (inl before) = absurd (some_not_none s (sym running ∙ before))
stop_found starts starts' past past' e s kept t p running (inr (none, is)) =
    subst (λ (q : Past). stop starts' q e ≡ Some s) p (subst (λ (u : Starts). stop u past e ≡ Some s) t is)

-- what the chip says of a link event is what fits
pub fits_told : (starts starts' : Starts) (past past' : Past) (chip : Chip) (n : ℕ) (what what' : LinkEntry) (result b : Bool) → starts ≡ starts' → past ≡ past' → what ≡ what'
    → fits_here chip n what ≡ fits starts past n what → result ≡ fits_here chip n what → result ≡ b → fits starts' past' n what' ≡ b
fits_told starts starts' past past' chip n what what' result b s p w agrees told is =
    subst (λ (x : LinkEntry). fits starts' past' n x ≡ b) w
    (subst (λ (q : Past). fits starts' q n what ≡ b) p (subst (λ (t : Starts). fits t past n what ≡ b) s (sym agrees ∙ sym told ∙ is)))
