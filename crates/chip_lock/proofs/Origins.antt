-- What is found stays found, and a cause has an origin.
use Rattle.std.proofs.Common.{◌≡◌, ◌≢◌, ◌⊎◌, ℕ, suc, List, ◌∷◌, length, set, Option, Some, None, refl, sym, ap, ◌∙◌, subst, inl, inr, ⊎_elim, arith}
use mathlib.Core.Option.{some, some-injective}
use mathlib.Core.Logic.{dite}
use native.Mathlib.Decide.{ℕ_discrete}
use lib.ListN.{get_elem?}
use Rattle.atomic_table.proofs.Lists.{set_else}
use Rattle.board_bus.specs.declared.event.BusEvent.{BusEvent}
use Rattle.chip_sheet.specs.declared.event.Entry.{Entry}
use Rattle.chip_sheet.specs.declared.event.Entry.TheVariants.{Rest}
use Rattle.chip_sheet.specs.declared.stop.ChipStop.{ChipStop}
use Rattle.chip_sheet.specs.Past.{Past}
use Rattle.chip_sheet.specs.Streams.{Starts}
use Rattle.chip_lock.specs.declared.over.Found.{Found}
use Rattle.chip_lock.specs.declared.over.Over.{Over}
use Rattle.chip_lock.specs.declared.over.Over.TheVariants.{Stopped, TraceFull, NoMemory, PollFault, Finished}
use Rattle.chip_lock.specs.declared.table.View.{View}
use Rattle.chip_lock.specs.Causes.{IsFound, FoundIn, Names, Owns, StopsHere}
use Rattle.chip_lock.specs.Rule.{IsOrigin, Origin}
use Rattle.chip_lock.specs.Views.{found_after, gave_after}
use Rattle.chip_lock.proofs.Sums.{set-at}

pub none_some : {A : Type 0} (x : A) → None ≡ Some x → ⊥
none_some x e = cc

pub some_same : {A : Type 0} (x y : A) → Some x ≡ Some y → x ≡ y
some_same x y e = cc

found_rested : (starts : Starts) (limit : ℕ) (past : Past) (f : Found) → IsFound starts limit past f → IsFound starts limit (Rest ∷ past) f
found_rested starts limit past f i = record { before = i.before; more = suc i.more; place = i.place; here = i.here; since = ap (λ (l : Past). Rest ∷ l) i.since }

-- One entry more, in which nothing happens where a cause was kept.
pub found_later : (starts : Starts) (limit : ℕ) (past : Past) (e : Entry) (vc cause kc : Option Over) (found : Option Found) → vc ≡ cause → Names kc vc → ((c : Over) → vc ≡ Some c → e ≡ Rest) → FoundIn starts limit past cause found
    → FoundIn starts limit (e ∷ past) kc found
found_later starts limit past e vc cause kc found same keeps rests named f at =
    let t = named f at in
    let known = same ∙ t.1 in
    (subst (λ (d : Entry). IsFound starts limit (d ∷ past) f) (sym (rests (Stopped f.stop) known)) (found_rested starts limit past f t.0), keeps (Stopped f.stop) known)

new_found : (starts : Starts) (limit : ℕ) (seen past : Past) (e : Entry) (event : BusEvent) (s : ChipStop) → seen ≡ past → (e ≡ Rest) × StopsHere starts limit seen event s → IsFound starts limit (e ∷ past) (record { place = length seen; event = event; stop = s })
new_found starts limit seen past e event s same t = record { before = seen; more = 0; place = refl; here = t.1; since = ap (λ (d : Entry). d ∷ past) t.0 ∙ ap (λ (l : Past). Rest ∷ l) (sym same) }

-- The seat that leaves has found the stop that it sets.
pub left_found : (starts : Starts) (limit : ℕ) (vc kc cause : Option Over) (seen past : Past) (e : Entry) (event : BusEvent) (found : Option Found) → seen ≡ past → vc ≡ cause → Names kc vc → ((c : Over) → vc ≡ Some c → e ≡ Rest)
    → ((s : ChipStop) → vc ≡ None → kc ≡ Some (Stopped s) → (e ≡ Rest) × StopsHere starts limit seen event s) → FoundIn starts limit past cause found → FoundIn starts limit (e ∷ past) kc (found_after vc kc (length seen) event found)
left_found starts limit (Some c) kc cause seen past e event found same known keeps rests stops f = found_later starts limit past e (Some c) cause kc found known keeps rests f
left_found starts limit None None cause seen past e event found same known keeps rests stops f = found_later starts limit past e None cause None found known keeps rests f
left_found starts limit None (Some (Stopped s)) cause seen past e event found same known keeps rests stops f =
    λ x at. subst (λ (y : Found). IsFound starts limit (e ∷ past) y × (Some (Stopped s) ≡ Some (Stopped y.stop))) (some_same _ x at) (new_found starts limit seen past e event s same (stops s refl refl), refl)
left_found starts limit None (Some TraceFull) cause seen past e event found same known keeps rests stops f = found_later starts limit past e None cause (Some TraceFull) found known keeps rests f
left_found starts limit None (Some NoMemory) cause seen past e event found same known keeps rests stops f = found_later starts limit past e None cause (Some NoMemory) found known keeps rests f
left_found starts limit None (Some PollFault) cause seen past e event found same known keeps rests stops f = found_later starts limit past e None cause (Some PollFault) found known keeps rests f
left_found starts limit None (Some Finished) cause seen past e event found same known keeps rests stops f = found_later starts limit past e None cause (Some Finished) found known keeps rests f

-- Another view of a seat.
pub origin_set : (c : Over) (views : List View) (id : ℕ) (v w : View) → get_elem? views id ≡ some v → (IsOrigin c v → IsOrigin c w) → Origin c views → Origin c (set views id w)
origin_set c views id v w at keeps o =
    dite (ℕ_discrete o.by id)
    (λ e. record { by = id; v = w; at = set-at views id v w at; owns = keeps (subst (IsOrigin c) (some-injective o.v v (sym o.at ∙ ap (get_elem? views) e ∙ at)) o.owns) })
    (λ ne. record { by = o.by; v = o.v; at = set_else views id o.by w ne ∙ o.at; owns = o.owns })

owns_new : (c : Over) (place : ℕ) (event : BusEvent) (found : Option Found) (gave : Option Over) → Owns c (found_after None (Some c) place event found) (gave_after None (Some c) gave)
owns_new (Stopped s) place event found gave = (record { place = place; event = event; stop = s }, refl, refl)
owns_new TraceFull place event found gave = tt
owns_new NoMemory place event found gave = tt
owns_new PollFault place event found gave = refl
owns_new Finished place event found gave = refl

-- The seat that leaves is the origin of the cause that it sets.
pub left_origin : (vc kc : Option Over) (c : Over) (views : List View) (id : ℕ) (v w : View) (place : ℕ) (event : BusEvent) → w.found ≡ found_after vc kc place event v.found → w.gave ≡ gave_after vc kc v.gave → get_elem? views id ≡ some v → v.parts ≡ 1
    → Names kc vc → kc ≡ Some c → ((c' : Over) → vc ≡ Some c' → Origin c' views) → Origin c (set views id w)
left_origin None kc c views id v w place event ef eg at one keeps is origin =
    record {
      by = id;
      v = w;
      at = set-at views id v w at;
      owns = inl (subst (λ (x : Option Found × Option Over). Owns c x.0 x.1) (λ i. (sym (ef ∙ ap (λ k. found_after None k place event v.found) is) i, sym (eg ∙ ap (λ k. gave_after None k v.gave) is) i)) (owns_new c place event v.found v.gave));
    }
left_origin (Some d) kc c views id v w place event ef eg at one keeps is origin =
    let same : d ≡ c = some_same d c (sym (keeps d refl) ∙ is) in
    let keep : IsOrigin d v → IsOrigin d w =
    ⊎_elim
    (λ (t : Owns d v.found v.gave). inl (subst (λ (x : Option Found × Option Over). Owns d x.0 x.1) (λ i. (sym ef i, sym eg i)) t))
    (λ (t : (v.parts ≡ 2) × Owns d v.their_found v.their_gave). absurd (omega (arith, one, t.0))) in
    subst (λ x. Origin x (set views id w)) same (origin_set d views id v w at keep (origin d refl))

owns_none : (c : Over) (found : Option Found) (gave : Option Over) → Owns c None None → Owns c found gave
owns_none (Stopped s) found gave t = absurd (none_some t.0 t.1)
owns_none TraceFull found gave t = tt
owns_none NoMemory found gave t = tt
owns_none PollFault found gave t = absurd (none_some PollFault t)
owns_none Finished found gave t = absurd (none_some Finished t)

-- Where every other seat has no part, the origin is this one.
pub closed_origin : (c : Over) (views : List View) (id : ℕ) (v : View) → get_elem? views id ≡ some v → ((j : ℕ) (u : View) → j ≢ id → get_elem? views j ≡ some u → (u.parts ≡ 0) × (u.found ≡ None) × (u.gave ≡ None)) → Origin c views
    → Owns c v.found v.gave ⊎ Owns c v.their_found v.their_gave
closed_origin c views id v at others o =
    dite (ℕ_discrete o.by id)
    (λ e. ⊎_elim (λ (t : Owns c v.found v.gave). inl t) (λ (t : (v.parts ≡ 2) × Owns c v.their_found v.their_gave). inr t.1) (subst (IsOrigin c) (some-injective o.v v (sym o.at ∙ ap (get_elem? views) e ∙ at)) o.owns))
    (λ ne. let g = others o.by o.v ne o.at in ⊎_elim
    (λ (t : Owns c o.v.found o.v.gave). inl (owns_none c v.found v.gave (subst (λ (x : Option Found × Option Over). Owns c x.0 x.1) (λ i. (g.1 i, g.2 i)) t)))
    (λ (t : (o.v.parts ≡ 2) × Owns c o.v.their_found o.v.their_gave). absurd (omega (arith, g.0, t.0)))
    o.owns)

-- Of two seats of one part that are joined.
pub joined_origin : (c : Over) (views : List View) (id other : ℕ) (v w both gone : View) → get_elem? views id ≡ some v → get_elem? views other ≡ some w → other ≢ id → v.parts ≡ 1 → w.parts ≡ 1
    → (Owns c v.found v.gave → IsOrigin c both) → (Owns c w.found w.gave → IsOrigin c both) → Origin c views → Origin c (set (set views id both) other gone)
joined_origin c views id other v w both gone at there apart one one' mine theirs o =
    let first = set views id both in
    let here : get_elem? (set first other gone) id ≡ some both = set_else first other id gone (λ e. apart (sym e)) ∙ set-at views id v both at in
    let made : IsOrigin c both → Origin c (set first other gone) = λ t. record { by = id; v = both; at = here; owns = t } in
    dite (ℕ_discrete o.by id)
    (λ e. made (⊎_elim mine (λ (t : (v.parts ≡ 2) × Owns c v.their_found v.their_gave). absurd (omega (arith, one, t.0))) (subst (IsOrigin c) (some-injective o.v v (sym o.at ∙ ap (get_elem? views) e ∙ at)) o.owns)))
    (λ ne. dite (ℕ_discrete o.by other)
    (λ e. made (⊎_elim theirs (λ (t : (w.parts ≡ 2) × Owns c w.their_found w.their_gave). absurd (omega (arith, one', t.0))) (subst (IsOrigin c) (some-injective o.v w (sym o.at ∙ ap (get_elem? views) e ∙ there)) o.owns)))
    (λ ne'. record { by = o.by; v = o.v; at = set_else first other o.by gone ne' ∙ set_else views id o.by both ne ∙ o.at; owns = o.owns }))
