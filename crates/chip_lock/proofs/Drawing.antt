-- A ticket is drawn.
use Rattle.std.proofs.Common.{◌≡◌, ℕ, ◌+◌, ◌<◌, ◌%◌, ◌^◌, [], ◌∷◌, length, set, Option, sym, refl, ap, subst, arith}
use mathlib.Core.Option.{none}
use Rattle.atomic_table.specs.Table.{Me, step, keeps, Allows}
use Rattle.chip_lock.specs.declared.over.Over.{Over}
use Rattle.chip_lock.specs.declared.table.Stage.TheVariants.{Idle, Waiting}
use Rattle.chip_lock.specs.declared.table.Terms.{Terms}
use Rattle.chip_lock.specs.declared.table.View.{View}
use Rattle.chip_lock.specs.Plays.{Slot, drawn}
use Rattle.chip_lock.specs.Rule.{Marked, weighs, Fits, Orderly}
use Rattle.chip_lock.specs.Views.{at_stage}
use Rattle.chip_lock.proofs.Moving.{IsOutside, Owes, moved, slot_kept, table, ticket_bound}
use Rattle.chip_lock.proofs.Origins.{origin_set}
use Rattle.chip_lock.proofs.Sums.{below-more}

-- The seat's other facts do not speak of its stage.
fits_at : (log : Marked) (cause : Option Over) (terms : Terms) (p : ℕ) (v : View) (t : ℕ) → v.parts ≡ 1 → Fits log cause terms p v → Fits log cause terms p (at_stage v (Waiting t))
fits_at log cause terms p v t one f = record {
  terms_same = f.terms_same;
  seen = f.seen;
  mine = f.mine;
  joins = λ j. let h = f.joins j in record { two = h.two; theirs = h.theirs; told = h.told; their_end = h.their_end; their_found = h.their_found };
  gone = λ none_left. absurd (omega (arith, one, none_left));
  stands = tt;
  ended = f.ended;
  found = f.found;
}

next_ticket : (n : ℕ) → n < 2 ^ 60 + 2 → (n + 1) % 2 ^ 64 ≡ n + 1
next_ticket n h = omega arith

module _ {L : Type 0} where
  pub draws : (slots id : ℕ) (m : Me (Slot L) View) → m.0.stage ≡ Idle → m.0.parts ≡ 1 → Allows Orderly slots id m 0 (λ n. (n + 1) % 2 ^ 64) (drawn (step slots 0 1 0 none) m)
  draws slots id m idle one s o wide at _ =
      let v = m.0 in
      let n = o.ticket in
      let w = at_stage v (Waiting n) in
      let b = ticket_bound s o in
      let more : (n + 1) % 2 ^ 64 ≡ n + 1 = next_ticket n (omega (arith, b, o.short)) in
      let outside : IsOutside v = λ t e. cc in
      let after : Orderly (table ((n + 1) ∷ length o.log ∷ []) s.homes (set s.views id w)) =
      moved s o id v w o.log o.cause (n + 1) s.homes at one one o.short
      (λ f. omega (arith, ap (weighs f) idle, below-more f n))
      (λ j u _ e. o.each j u e) (fits_at o.log o.cause o.terms id v n one (o.each id v at))
      (λ c e. origin_set c s.views id v w at (λ x. x) (o.origin c e))
      (slot_kept o.log o.cause o.terms s.views s.homes id v w at outside (λ t e. cc) refl refl o.slot) in
      subst (Owes s id 0 (λ x. (x + 1) % 2 ^ 64) m (drawn (step slots 0 1 0 none) m)) (sym o.words)
      (w, keeps, tt, subst (λ k. Orderly (table (k ∷ length o.log ∷ []) s.homes (set s.views id w))) (sym more) after, refl)
