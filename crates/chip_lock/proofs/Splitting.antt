-- The table as it begins, and its only seat cut in two.
use Rattle.std.proofs.Common.{◌≡◌, ℕ, zero, suc, List, [], ◌∷◌, ◌++◌, length, Option, Some, None, false, refl, sym, ap, ◌∙◌, subst, inl, ⊎_elim, arith}
use Rattle.std.specs.Prelude.{slice_set}
use mathlib.Core.Option.{some, some-ne-none, some-injective}
use lib.ListN.{get_elem?}
use Rattle.atomic_table.specs.Table.{opening, Splits}
use Rattle.chip_shared.specs.State.{State, Keeps}
use Rattle.chip_lock.specs.declared.over.Over.{Over}
use Rattle.chip_lock.specs.declared.table.Stage.TheVariants.{Idle}
use Rattle.chip_lock.specs.declared.table.Terms.{Terms}
use Rattle.chip_lock.specs.declared.table.View.{View}
use Rattle.chip_lock.specs.Lists.{total, picks}
use Rattle.chip_lock.specs.Plays.{Slot}
use Rattle.chip_lock.specs.Rule.{Marked, weighs, ticket_of, Fits, Home, Out, Orderly}
use Rattle.chip_lock.specs.Standing.{KeptState, past_of}
use Rattle.chip_lock.specs.Views.{first_half, newcomer, second_half, terms_of}
use Rattle.chip_lock.proofs.Moving.{IsOutside, asked_of, idle_not_inside, parts_of, runs_of}
use Rattle.chip_lock.proofs.Origins.{none_some}

-- The place of the only one.
only_place : {A : Type 0} (x y : A) (i : ℕ) → get_elem? (x ∷ []) i ≡ some y → i ≡ 0
only_place x y zero at = refl
only_place x y (suc i) at = absurd (some-ne-none y (sym at))

only_one : {A : Type 0} (x y : A) (i : ℕ) → get_elem? (x ∷ []) i ≡ some y → x ≡ y
only_one x y zero at = some-injective x y at
only_one x y (suc i) at = absurd (some-ne-none y (sym at))

module _ {L : Type 0} where
  begins : (k : KeptState L) (terms : Terms) → past_of k ≡ [] → k.live ≡ 2 → k.state.calls ≡ 0 → k.cause ≡ None → terms_of k.state ≡ terms → Orderly (opening (0 ∷ 0 ∷ []) (Some k ∷ []) (newcomer terms))
  begins k terms fresh two uncalled uncaused same_terms = record {
    log = [];
    cause = None;
    ticket = 0;
    terms = terms;
    words = refl;
    short = omega arith;
    few = omega arith;
    parts = refl;
    tickets = λ f. refl;
    each = λ p v at. subst (λ (y : ℕ × View). Fits [] None terms y.0 y.1) (λ i. (sym (only_place (newcomer terms) v p at) i, only_one (newcomer terms) v p at i))
        (record { terms_same = λ has. refl; seen = ([], refl); mine = λ has. refl; joins = λ e. cc; gone = λ none_left. absurd (omega (arith, none_left)); stands = tt; ended = λ c x. cc; found = λ g x. absurd (cc) });
    alone = λ p v at two_parts unjoined. record { only = ap (λ u. u ∷ []) (only_one (newcomer terms) v p at); fresh = refl; uncaused = refl };
    origin = λ c x. absurd (cc);
    slot = inl (record { kept = k; is = refl; past = fresh; live = two; calls = uncalled; causes = uncaused; terms_same = same_terms; empty = λ p v t at i. idle_not_inside t (ap (λ (y : View). y.stage) (only_one (newcomer terms) v p at) ∙ i) });
  }

  -- The seat of both parts, cut in two.
  splits : (id : ℕ) (v : View) → v.stage ≡ Idle → v.parts ≡ 2 → v.is_joined ≡ false → v.runs ≡ 2 → Splits (Orderly {L = L}) id v (first_half v) (second_half v)
  splits id v idle two unjoined runs s o at =
      let only = o.alone id v at two unjoined in
      let zero_id : id ≡ 0 = only_place v v id (subst (λ l. get_elem? l id ≡ some v) only.only at) in
      let f : Fits o.log o.cause o.terms 0 v = subst (λ i. Fits o.log o.cause o.terms i v) zero_id (o.each id v at) in
      subst (λ (y : ℕ × List View). Orderly (record { words = s.words; homes = s.homes; views = slice_set y.1 y.0 (first_half v) ++ second_half v ∷ [] })) (λ i. (sym zero_id i, sym only.only i))
      (record {
        log = o.log;
        ticket = o.ticket;
        cause = o.cause;
        terms = o.terms;
        words = o.words;
        short = o.short;
        few = omega arith;
        parts = refl;
        tickets = λ g. omega (arith, o.tickets g, ap (total (ticket_of g)) only.only, ap (weighs g) idle);
        each = each2 o.log o.cause o.terms f only.fresh;
        alone = λ p u there two' _. absurd (halves p u there two');
        origin = λ c x. absurd (none_some c (sym only.uncaused ∙ x));
        slot = ⊎_elim
            (λ (h : Home o.log o.cause o.terms s.views s.homes). inl (record { kept = h.kept; is = h.is; past = h.past; live = omega (arith, h.live, ap (total runs_of) only.only, runs); calls = omega (arith, h.calls, ap (total asked_of) only.only); causes = h.causes; terms_same = h.terms_same; empty = λ p u t there i. outside p u there t i }))
            (λ (h : Out o.log o.cause s.views s.homes). absurd (idle_only h.by h.v (subst (λ l. get_elem? l h.by ≡ some h.v) only.only h.at) (length o.log) h.stage))
            o.slot;
      })
    where
      each2 : (log : Marked) (cause : Option Over) (terms : Terms) → Fits log cause terms 0 v → log ≡ [] → (p : ℕ) (u : View) → get_elem? (first_half v ∷ second_half v ∷ []) p ≡ some u → Fits log cause terms p u
      each2 log cause terms f empty zero u there = subst (Fits log cause terms 0) (some-injective _ u there)
          (record { terms_same = λ _. f.terms_same (omega (arith, two)); seen = f.seen; mine = λ _. f.mine (omega (arith, two)); joins = λ e. cc; gone = λ none_left. absurd (omega (arith, none_left)); stands = tt; ended = λ c x. cc; found = f.found })
      each2 log cause terms f empty (suc zero) u there = subst (Fits log cause terms 1) (some-injective _ u there)
          (record { terms_same = λ _. f.terms_same (omega (arith, two)); seen = f.seen; mine = λ _. ap (picks false) (sym empty); joins = λ e. cc; gone = λ none_left. absurd (omega (arith, none_left)); stands = tt; ended = λ c x. cc; found = λ g x. absurd (cc) })
      each2 log cause terms f empty (suc (suc p)) u there = absurd (some-ne-none u (sym there))

      halves : (p : ℕ) (u : View) → get_elem? (first_half v ∷ second_half v ∷ []) p ≡ some u → u.parts ≡ 2 → ⊥
      halves zero u there two' = omega (arith, two', ap parts_of (some-injective _ u there))
      halves (suc zero) u there two' = omega (arith, two', ap parts_of (some-injective _ u there))
      halves (suc (suc p)) u there two' = some-ne-none u (sym there)

      outside : (p : ℕ) (u : View) → get_elem? (first_half v ∷ second_half v ∷ []) p ≡ some u → IsOutside u
      outside zero u there t i = idle_not_inside t (ap (λ (y : View). y.stage) (some-injective (first_half v) u there) ∙ i)
      outside (suc zero) u there t i = idle_not_inside t (ap (λ (y : View). y.stage) (some-injective (second_half v) u there) ∙ i)
      outside (suc (suc p)) u there t i = some-ne-none u (sym there)

      idle_only : (p : ℕ) (u : View) → get_elem? (v ∷ []) p ≡ some u → IsOutside u
      idle_only zero u there t i = idle_not_inside t (sym idle ∙ ap (λ (y : View). y.stage) (some-injective v u there) ∙ i)
      idle_only (suc p) u there t i = some-ne-none u (sym there)

-- More room changes no terms.
pub same_terms : {L : Type 0} (old new about : State L) → Keeps old new → about ≡ old → terms_of new ≡ terms_of about
same_terms old new about keeps is = (λ j. record { tx_start = (keeps.starts j).tx; rx_start = (keeps.starts j).rx; limit = keeps.limit j }) ∙ ap terms_of (sym is)

-- The same, at what is known of a call.
pub begins_at : {L : Type 0} (k : KeptState L) (terms : Terms) (xs : List (Slot L)) → past_of k ≡ [] → k.live ≡ 2 → k.state.calls ≡ 0 → k.cause ≡ None → terms_of k.state ≡ terms → xs ≡ Some k ∷ [] → Orderly (opening (0 ∷ 0 ∷ []) xs (newcomer terms))
begins_at {L} k terms xs fresh two uncalled uncaused same_terms is = subst (λ (l : List (Slot L)). Orderly (opening (0 ∷ 0 ∷ []) l (newcomer terms))) (sym is) (begins k terms fresh two uncalled uncaused same_terms)

pub splits_as : {L : Type 0} (id : ℕ) (v : View) (terms : Terms) → v ≡ newcomer terms → Splits (Orderly {L = L}) id v (first_half v) (second_half v)
splits_as id v terms is = splits id v (ap (λ (u : View). u.stage) is) (ap parts_of is) (ap (λ (u : View). u.is_joined) is) (ap runs_of is)
