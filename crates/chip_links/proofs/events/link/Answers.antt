use Rattle.std.proofs.Common.{◌≡◌, ◌<◌, ◌⊎◌, inl, inr, ◌∷◌, ℕ, true, length, refl, sym, ap, ◌∙◌, subst}
use Rattle.chip_sheet.specs.declared.event.Entry.TheVariants.{Link}
use Rattle.chip_sheet.specs.declared.event.Addr.{Addr}
use Rattle.chip_sheet.specs.declared.event.LinkWhat.{LinkWhat}
use Rattle.chip_sheet.specs.declared.event.LinkWhat.TheVariants as what
use Rattle.chip_sheet.specs.declared.event.LinkEntry.{LinkEntry}
use Rattle.chip_sheet.specs.Past.{Past, link_entry}
use Rattle.chip_sheet.specs.Life.{status}
use Rattle.chip_sheet.specs.Streams.{Starts, makes}
use Rattle.chip_sheet.specs.Windows.{rx_free}
use Rattle.chip_sheet.specs.LinkCalls.{fits}
use Rattle.chip_parts.specs.declared.parts.Parts.{Parts}
use Rattle.chip_parts.specs.Holding.{Holds}
use Rattle.chip_links.specs.Fitting.{fits_here}
use Rattle.chip_links.specs.Noting.{is_told}
use Rattle.chip_links.specs.Coming.{came}
use Rattle.chip_links.proofs.Fitting.{got_within, agrees}
use Rattle.chip_links.proofs.Directions.{put_told, put_made, put_took}
use Rattle.chip_links.proofs.events.link.Goals as goal

-- The event, which fits by the fields of the parts, as the kind that it was found to be.
may : (starts : Starts) (past : Past) (parts : Parts) (sn : ℕ) (entry kind : LinkEntry) → sn < 8 → Holds starts parts past → fits_here parts sn entry ≡ true → entry ≡ kind → fits starts past sn kind ≡ true
may starts past parts sn entry kind below held fit is = subst (λ (w : LinkEntry). fits starts past sn w ≡ true) is (sym (agrees starts past parts sn entry below held) ∙ fit)

back : (starts : Starts) (past : Past) (parts : Parts) (sn : ℕ) (entry kind : LinkEntry) → entry ≡ kind → Holds starts parts (Link sn kind ∷ past) → Holds starts parts (Link sn entry ∷ past)
back starts past parts sn entry kind is held = subst (λ (w : LinkEntry). Holds starts parts (Link sn w ∷ past)) (sym is) held

told_of : (w : LinkWhat) → (w ≡ what.Refused) ⊎ ((w ≡ what.TimedOut) ⊎ ((w ≡ what.Ended) ⊎ ((w ≡ what.Shut) ⊎ ((w ≡ what.Failed) ⊎ (w ≡ what.Dropped))))) → is_told (link_entry w) ≡ true
told_of w (inl is) = ap (λ (x : LinkWhat). is_told (link_entry x)) is
told_of w (inr (inl is)) = ap (λ (x : LinkWhat). is_told (link_entry x)) is
told_of w (inr (inr (inl is))) = ap (λ (x : LinkWhat). is_told (link_entry x)) is
told_of w (inr (inr (inr (inl is)))) = ap (λ (x : LinkWhat). is_told (link_entry x)) is
told_of w (inr (inr (inr (inr (inl is))))) = ap (λ (x : LinkWhat). is_told (link_entry x)) is
told_of w (inr (inr (inr (inr (inr is))))) = ap (λ (x : LinkWhat). is_told (link_entry x)) is

made_of : (w : LinkWhat) → (w ≡ what.Linked) ⊎ ((from : Addr) × (w ≡ what.Accepted from)) → makes (link_entry w) ≡ true
made_of w (inl is) = ap (λ (x : LinkWhat). makes (link_entry x)) is
made_of w (inr (from, is)) = ap (λ (x : LinkWhat). makes (link_entry x)) is

pub got-requires-clause-few : goal.got-requires-clause-few
got-requires-clause-few c = λ on.
    got_within c.args.parts.now c.args.sn c.in-Got.bytes.now (subst (λ (w : LinkEntry). fits_here c.args.parts.now c.args.sn w ≡ true) (ap link_entry c.in-Got.is) c.requires.fits) on

pub returns-in-Took-clause-holds : goal.returns-in-Took-clause-holds
returns-in-Took-clause-holds c = λ starts past legal held.
    let is = ap link_entry c.in-Took.is in
    back starts past c.took.new.parts c.args.sn (link_entry c.args.e.now) _ is
    (c.took.ensures starts past legal held (may starts past c.args.parts.now c.args.sn (link_entry c.args.e.now) _ c.requires.sn held c.requires.fits is))

pub returns-in-Took-clause-came : goal.returns-in-Took-clause-came
returns-in-Took-clause-came c = λ starts past legal held.
    sym (ap (came starts past c.args.sn) (ap link_entry c.in-Took.is) ∙ ap length (put_took (status past c.args.sn) (rx_free starts past c.args.sn) c.in-Took.count))

pub returns-in-Got-clause-holds : goal.returns-in-Got-clause-holds
returns-in-Got-clause-holds c = λ starts past legal held.
    let is = ap link_entry c.in-Got.is in
    back starts past c.got.new.parts c.args.sn (link_entry c.args.e.now) _ is
    (c.got.ensures.holds starts past legal held (may starts past c.args.parts.now c.args.sn (link_entry c.args.e.now) _ c.requires.sn held c.requires.fits is))

pub returns-in-Got-clause-came : goal.returns-in-Got-clause-came
returns-in-Got-clause-came c = λ starts past legal held. c.got.ensures.came starts past held ∙ sym (ap (came starts past c.args.sn) (ap link_entry c.in-Got.is))

pub returns-in-Datagram-clause-holds : goal.returns-in-Datagram-clause-holds
returns-in-Datagram-clause-holds c = λ starts past legal held.
    let is = ap link_entry c.in-Datagram.is in
    back starts past c.datagram.new.parts c.args.sn (link_entry c.args.e.now) _ is
    (c.datagram.ensures.holds starts past legal held (may starts past c.args.parts.now c.args.sn (link_entry c.args.e.now) _ c.requires.sn held c.requires.fits is))

pub returns-in-Datagram-clause-came : goal.returns-in-Datagram-clause-came
returns-in-Datagram-clause-came c = λ starts past legal held. c.datagram.ensures.came starts past held ∙ sym (ap (came starts past c.args.sn) (ap link_entry c.in-Datagram.is))

pub returns-in-Refused-clause-holds : goal.returns-in-Refused-clause-holds
returns-in-Refused-clause-holds c = λ starts past legal held. c.told.ensures starts past held

pub returns-in-Refused-clause-came : goal.returns-in-Refused-clause-came
returns-in-Refused-clause-came c = λ starts past legal held. let told : is_told (link_entry c.args.e.now) ≡ true = told_of c.args.e.now c.in-Refused.is in sym (ap length (put_told (status past c.args.sn) (rx_free starts past c.args.sn) (link_entry c.args.e.now) told))

pub returns-in-Linked-clause-holds : goal.returns-in-Linked-clause-holds
returns-in-Linked-clause-holds c = λ starts past legal held.
    c.made.ensures starts past legal held (may starts past c.args.parts.now c.args.sn (link_entry c.args.e.now) _ c.requires.sn held c.requires.fits refl)

pub returns-in-Linked-clause-came : goal.returns-in-Linked-clause-came
returns-in-Linked-clause-came c = λ starts past legal held. let made : makes (link_entry c.args.e.now) ≡ true = made_of c.args.e.now c.in-Linked.is in sym (ap length (put_made (status past c.args.sn) (rx_free starts past c.args.sn) (link_entry c.args.e.now) made))
