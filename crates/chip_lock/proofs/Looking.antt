-- A look at the ticket that is served: the seat whose ticket it is takes the slot.
use Rattle.std.proofs.Common.{◌≡◌, ◌≢◌, ℕ, [], ◌∷◌, length, set, Option, Some, refl, sym, ap, ◌∙◌, subst, inr, ⊎_elim, arith}
use Rattle.std.specs.Prelude.{slice_set}
use mathlib.Core.Option.{none, some, some-injective}
use mathlib.Core.Logic.{dite}
use native.Mathlib.Decide.{ℕ_discrete}
use lib.ListN.{get_elem?}
use Rattle.atomic_table.specs.Table.{State, Me, step, keeps, takes, Allows}
use Rattle.atomic_table.proofs.Lists.{set_again}
use Rattle.chip_sheet.specs.Past.{Past, GoesOn}
use Rattle.chip_lock.specs.declared.over.Over.{Over}
use Rattle.chip_lock.specs.declared.table.Stage.TheVariants.{Waiting}
use Rattle.chip_lock.specs.declared.table.Terms.{Terms}
use Rattle.chip_lock.specs.declared.table.View.{View}
use Rattle.chip_lock.specs.Lists.{bare}
use Rattle.chip_lock.specs.Plays.{Slot, looked}
use Rattle.chip_lock.specs.Rule.{Marked, weighs, Fits, Home, Out, Orderly}
use Rattle.chip_lock.specs.Standing.{KeptState, past_of}
use Rattle.chip_lock.specs.Views.{inside}
use Rattle.chip_lock.proofs.Moving.{IsOutside, Owes, asked_of, distinct, moved, runs_of, table}
use Rattle.chip_lock.proofs.Origins.{origin_set}
use Rattle.chip_lock.proofs.Sums.{length-bare, set-at, total-at, total-set}

fits_inside : {L : Type 0} (log : Marked) (cause : Option Over) (terms : Terms) (p : ℕ) (v : View) (k : KeptState L) → v.parts ≡ 1 → past_of k ≡ bare log → Fits log cause terms p v → Fits log cause terms p (inside v (length log) k)
fits_inside log cause terms p v k one is f = record {
  terms_same = f.terms_same;
  seen = ([], sym is);
  mine = f.mine;
  joins = λ j. let h = f.joins j in record { two = h.two; theirs = h.theirs; told = h.told; their_end = h.their_end; their_found = h.their_found };
  gone = λ none_left. absurd (omega (arith, one, none_left));
  stands = (refl, is);
  ended = f.ended;
  found = f.found;
}

waits_outside : (v : View) (t : ℕ) → v.stage ≡ Waiting t → IsOutside v
waits_outside v t waits u e = cc

same_ticket : (t t' : ℕ) → Waiting t ≡ Waiting t' → t ≡ t'
same_ticket t t' e = cc

module _ {L : Type 0} where
  -- The seat goes in where its ticket is served.
  enters : (slots id : ℕ) (m : Me (Slot L) View) (t : ℕ) → m.0.stage ≡ Waiting t → m.0.parts ≡ 1 → (s : State (Slot L) View) (o : Orderly s) → get_elem? s.views id ≡ some m.0 → length o.log ≡ t
      → Home o.log o.cause o.terms s.views s.homes → Owes s id 1 (λ n. n) m (looked (step slots 1 0 0 none) m) (o.ticket ∷ length o.log ∷ [])
  enters slots id m t waits one s o at served h =
      let v = m.0 in
      let w = inside v (length o.log) h.kept in
      let f = o.each id v at in
      let runs = total-set runs_of s.views id v w at in (
        w,
        takes 0 (Some h.kept),
        ap (λ l. get_elem? l 0) h.is,
        subst (λ hs. Orderly (table (o.ticket ∷ length o.log ∷ []) hs (set s.views id w))) (ap (λ l. slice_set l 0 none) (sym h.is))
            (moved s o id v w o.log o.cause o.ticket (none ∷ []) at one one o.short
            (λ g. omega (arith, ap (weighs g) waits, ap g served))
            (λ j u _ e. o.each j u e) (fits_inside o.log o.cause o.terms id v h.kept one h.past f)
            (λ c e. origin_set c s.views id v w at (λ x. x) (o.origin c e))
            (inr (record { by = id; v = w; is = refl; at = set-at s.views id v w at; stage = refl; live = omega (arith, runs, h.live); calls = omega (arith, total-set asked_of s.views id v w at, h.calls); causes = h.causes }))),
        (λ t' waits'. (
          (λ e. record {
            kept = h.kept;
            is = ap (λ k. (inside v k h.kept, (0, Some h.kept) ∷ m.1)) e;
            later = subst (λ (l : Past). GoesOn v.seen l) (sym h.past) f.seen;
            served = ap length h.past ∙ length-bare o.log ∙ e;
            live = omega (arith, h.live, total-at runs_of s.views id v at);
            terms = h.terms_same ∙ sym (f.terms_same (omega (arith, one)));
          }),
          (λ ne. absurd (ne (served ∙ same_ticket t t' (sym waits ∙ waits')))),
        )),
      )

  -- Elsewhere the seat stays where it is.
  stays : (slots id : ℕ) (m : Me (Slot L) View) (t : ℕ) → m.0.stage ≡ Waiting t → (s : State (Slot L) View) (o : Orderly s) → get_elem? s.views id ≡ some m.0 → length o.log ≢ t
      → Owes s id 1 (λ n. n) m (looked (step slots 1 0 0 none) m) (o.ticket ∷ length o.log ∷ [])
  stays slots id m t waits s o at ne =
      let same_views : s.views ≡ set s.views id m.0 = sym (set_again s.views id m.0 at) in (
        m.0,
        keeps,
        tt,
        subst (λ vs. Orderly (table (o.ticket ∷ length o.log ∷ []) s.homes vs)) same_views (subst (λ ws. Orderly (table ws s.homes s.views)) o.words o),
        (λ t' waits'. ((λ e. absurd (ne (e ∙ same_ticket t' t (sym waits' ∙ waits)))), (λ _. refl))),
      )

  pub looks : (slots id : ℕ) (m : Me (Slot L) View) (t : ℕ) → m.0.stage ≡ Waiting t → m.0.parts ≡ 1 → Allows Orderly slots id m 1 (λ n. n) (looked (step slots 1 0 0 none) m)
  looks slots id m t waits one s o wide at _ =
      subst (Owes s id 1 (λ n. n) m (looked (step slots 1 0 0 none) m)) (sym o.words)
      (dite (ℕ_discrete (length o.log) t)
      (λ served. ⊎_elim
      (λ h. enters slots id m t waits one s o at served h)
      (λ (h : Out o.log o.cause s.views s.homes). absurd (distinct s o id h.by m.0 h.v t
      (λ e. waits_outside m.0 t waits (length o.log) (ap (λ (y : View). y.stage) (some-injective m.0 h.v (sym at ∙ ap (get_elem? s.views) (sym e) ∙ h.at)) ∙ h.stage))
      at h.at (λ f. ap (weighs f) waits) (λ f. ap (weighs f) h.stage ∙ ap f served)))
      o.slot)
      (λ ne. stays slots id m t waits s o at ne))
