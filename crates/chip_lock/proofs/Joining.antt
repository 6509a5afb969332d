-- Two seats of one part are made one.
use Rattle.std.proofs.Common.{◌≡◌, ◌≢◌, ℕ, zero, suc, ◌<◌, length, set, Option, false, not, refl, sym, ap, ◌∙◌, subst, inl, inr, ⊎_elim, arith, length-set, append-nil}
use mathlib.Core.Option.{some, some-injective}
use lib.ListN.{get_elem?}
use Rattle.atomic_table.specs.Table.{State, Joins}
use Rattle.atomic_table.proofs.Lists.{at_set, set_else}
use Rattle.chip_lock.specs.declared.over.Over.{Over}
use Rattle.chip_lock.specs.declared.table.Stage.TheVariants.{Idle, Inside}
use Rattle.chip_lock.specs.declared.table.Terms.{Terms}
use Rattle.chip_lock.specs.declared.table.View.{View}
use Rattle.chip_lock.specs.Lists.{total, picks, bare, is_first}
use Rattle.chip_lock.specs.Plays.{Slot}
use Rattle.chip_lock.specs.Rule.{Marked, weighs, ticket_of, Fits, Home, Out, Orderly}
use Rattle.chip_lock.specs.Views.{joined, spent}
use Rattle.chip_lock.proofs.Moving.{asked_of, idle_not_inside, parts_of, runs_of}
use Rattle.chip_lock.proofs.Origins.{joined_origin}
use Rattle.chip_lock.proofs.Sums.{at-below, total-set, total-two}

other_is : (i j : ℕ) → j ≢ i → i < 2 → j < 2 → is_first j ≡ not (is_first i)
other_is zero zero apart a b = absurd (apart refl)
other_is zero (suc j) apart a b = refl
other_is (suc i) zero apart a b = refl
other_is (suc i) (suc j) apart a b = absurd (apart (omega arith))

fits_spent : (log : Marked) (cause : Option Over) (terms : Terms) (p : ℕ) → Fits log cause terms p spent
fits_spent log cause terms p = record {
  terms_same = λ has. absurd (omega (arith, has));
  seen = (bare log, sym (append-nil (bare log)));
  mine = λ has. absurd (omega (arith, has));
  joins = λ e. cc;
  gone = λ _. record { idle = refl; asked = refl; found = refl; gave = refl };
  stands = tt;
  ended = λ c x. cc;
  found = λ g x. absurd (cc);
}

module _ {L : Type 0} (id other : ℕ) (v w : View) (idle : v.stage ≡ Idle) (idle' : w.stage ≡ Idle) (one : v.parts ≡ 1) (one' : w.parts ≡ 1) where
  fits_joined : (s : State (Slot L) View) (o : Orderly s) → get_elem? s.views id ≡ some v → other ≢ id → get_elem? s.views other ≡ some w → Fits o.log o.cause o.terms id (joined v w)
  fits_joined s o at apart there =
      let f = o.each id v at in
      let g = o.each other w there in
      record {
        terms_same = λ _. f.terms_same (omega (arith, one));
        seen = f.seen;
        mine = λ _. f.mine (omega (arith, one));
        joins = λ _. record {
          two = omega (arith, one, one');
          theirs = g.mine (omega (arith, one')) ∙ ap (λ b. picks b o.log) (other_is id other apart (omega (arith, o.few, at-below s.views id v at)) (omega (arith, o.few, at-below s.views other w there)));
          told = g.seen;
          their_end = g.ended;
          their_found = g.found;
        };
        gone = λ none_left. absurd (omega (arith, one, one', none_left));
        stands = tt;
        ended = f.ended;
        found = f.found;
      }

  pub joins : Joins (Orderly {L = L}) id v other w (joined v w) spent
  joins s o at apart there_after =
      let both = joined v w in
      let first = set s.views id both in
      let there : get_elem? s.views other ≡ some w = sym (set_else s.views id other both apart) ∙ there_after in
      let one_of : (P : ℕ → View → Type 0) → P other spent → P id both → ((j : ℕ) (u : View) → j ≢ id → j ≢ other → get_elem? s.views j ≡ some u → P j u) → (j : ℕ) (u : View) → get_elem? (set first other spent) j ≡ some u → P j u =
      λ P at_other at_id elsewhere j u e. ⊎_elim
      (λ (t : (j ≡ other) × (spent ≡ u)). subst (λ (y : ℕ × View). P y.0 y.1) (λ i. (sym t.0 i, t.1 i)) at_other)
      (λ (t : (j ≢ other) × (get_elem? first j ≡ some u)). ⊎_elim
      (λ (x : (j ≡ id) × (both ≡ u)). subst (λ (y : ℕ × View). P y.0 y.1) (λ i. (sym x.0 i, x.1 i)) at_id)
      (λ (x : (j ≢ id) × (get_elem? s.views j ≡ some u)). elsewhere j u x.0 t.0 x.1)
      (at_set s.views id j both u t.1))
      (at_set first other j spent u e) in
      let runs : total runs_of (set first other spent) ≡ total runs_of s.views = omega (arith, total-set runs_of s.views id v both at, total-set runs_of first other w spent there_after) in
      let asked : total asked_of (set first other spent) ≡ total asked_of s.views = omega (arith, total-set asked_of s.views id v both at, total-set asked_of first other w spent there_after) in
      let outside : (p : ℕ) (u : View) → (t : ℕ) → u.stage ≡ Inside t → get_elem? s.views p ≡ some u → (p ≢ id) × (p ≢ other) =
      λ p u t i e. (
        (λ same_place. idle_not_inside t (sym idle ∙ ap (λ (y : View). y.stage) (some-injective v u (sym at ∙ ap (get_elem? s.views) (sym same_place) ∙ e)) ∙ i)),
        (λ same_place. idle_not_inside t (sym idle' ∙ ap (λ (y : View). y.stage) (some-injective w u (sym there ∙ ap (get_elem? s.views) (sym same_place) ∙ e)) ∙ i)),
      ) in
      record {
        log = o.log;
        ticket = o.ticket;
        cause = o.cause;
        terms = o.terms;
        words = o.words;
        short = o.short;
        few = omega (arith, o.few, length-set s.views id both, length-set first other spent);
        parts = omega (arith, o.parts, total-set parts_of s.views id v both at, total-set parts_of first other w spent there_after, one, one');
        tickets = λ f. omega (arith, o.tickets f, total-set (ticket_of f) s.views id v both at, total-set (ticket_of f) first other w spent there_after, ap (weighs f) idle, ap (weighs f) idle');
        each = one_of (Fits o.log o.cause o.terms) (fits_spent o.log o.cause o.terms other) (fits_joined s o at apart there) (λ j u _ _ e. o.each j u e);
        alone = λ j u e two unjoined. absurd (one_of (λ _ y. y.parts ≡ 2 → y.is_joined ≡ false → ⊥) (λ x _. omega arith) (λ _ x. cc) (λ i y apart' _ e' x _. omega (arith, x, one, o.parts, total-two parts_of s.views id i v y apart' at e')) j u e two unjoined);
        origin = λ c x. joined_origin c s.views id other v w both spent at there apart one one' (λ t. inl t) (λ t. inr (omega (arith, one, one'), t)) (o.origin c x);
        slot = ⊎_elim
            (λ (h : Home o.log o.cause o.terms s.views s.homes). inl (record {
              kept = h.kept;
              is = h.is;
              past = h.past;
              live = h.live ∙ sym runs;
              calls = h.calls ∙ sym asked;
              causes = h.causes;
              terms_same = h.terms_same;
              empty = λ p u t e i. one_of (λ _ y. y.stage ≡ Inside t → ⊥) (idle_not_inside t) (idle_not_inside t) (λ j y _ _ e' i'. h.empty j y t e' i') p u e i;
            }))
            (λ (h : Out o.log o.cause s.views s.homes). let far = outside h.by h.v (length o.log) h.stage h.at in inr (record {
              by = h.by;
              v = h.v;
              is = h.is;
              at = set_else first other h.by spent far.1 ∙ set_else s.views id h.by both far.0 ∙ h.at;
              stage = h.stage;
              live = h.live ∙ sym runs;
              calls = h.calls ∙ sym asked;
              causes = h.causes;
            }))
            o.slot;
      }
