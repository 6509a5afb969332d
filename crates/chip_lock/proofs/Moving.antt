-- What a step does that changes one seat of one part.
use Rattle.std.proofs.Common.{◌≡◌, ◌≢◌, ◌⊎◌, ℕ, zero, suc, ◌+◌, ◌<◌, ◌≤◌, ◌^◌, List, [], ◌∷◌, length, set, Option, Some, refl, sym, ap, ◌∙◌, subst, inl, inr, ⊎_elim, arith, length-set}
use Rattle.std.specs.Prelude.{slice_index, slice_set}
use mathlib.Core.Option.{none, some, some-ne-none, some-injective}
use mathlib.Core.Option as core
use lib.ListN.{get_elem?}
use Rattle.atomic_table.specs.Table.{State, Me, Act, Valid, homes_after, carried_after}
use Rattle.atomic_table.proofs.Lists.{at_set, set_else}
use Rattle.chip_lock.specs.declared.over.Over.{Over}
use Rattle.chip_lock.specs.declared.table.Stage.{Stage}
use Rattle.chip_lock.specs.declared.table.Stage.TheVariants.{Idle, Waiting, Inside}
use Rattle.chip_lock.specs.declared.table.Terms.{Terms}
use Rattle.chip_lock.specs.declared.table.View.{View}
use Rattle.chip_lock.specs.Lists.{below}
use Rattle.chip_lock.specs.Plays.{Slot}
use Rattle.chip_lock.specs.Rule.{Origin, Marked, weighs, ticket_of, Fits, Home, Out, Orderly}
use Rattle.chip_lock.proofs.Sums.{total-set, total_le, total-two, below-one, only, only-same, below-only}

abbrev pub runs_of : View → ℕ
runs_of v = v.runs

abbrev pub asked_of : View → ℕ
asked_of v = v.asked

abbrev pub parts_of : View → ℕ
parts_of v = v.parts

abbrev pub table : {L : Type 0} → List ℕ → List (core.Option (Slot L)) → List View → State (Slot L) View
table ws hs vs = record { words = ws; homes = hs; views = vs }

-- A seat holds a ticket only while it has a part.
active_le : (parts : ℕ) (stage : Stage) → (parts ≡ 0 → stage ≡ Idle) → weighs (λ _. 1) stage ≤ parts
active_le parts Idle h = omega arith
active_le zero (Waiting t) h = absurd (cc (h refl))
active_le zero (Inside t) h = absurd (cc (h refl))
active_le (suc n) (Waiting t) h = omega arith
active_le (suc n) (Inside t) h = omega arith

pub ticket_bound : {L : Type 0} (s : State (Slot L) View) (o : Orderly s) → o.ticket ≤ length o.log + 2
ticket_bound s o =
    let few = total_le (ticket_of (λ _. 1)) parts_of s.views (λ i v at. active_le v.parts v.stage (λ z. ((o.each i v at).gone z).idle)) in
    omega (arith, few, o.parts, o.tickets (λ _. 1), below-one (length o.log), below-one o.ticket)

-- No two seats hold one ticket.
pub distinct : {L : Type 0} (s : State (Slot L) View) (o : Orderly s) (i j : ℕ) (v w : View) (t : ℕ) → j ≢ i → get_elem? s.views i ≡ some v → get_elem? s.views j ≡ some w → ((f : ℕ → ℕ) → ticket_of f v ≡ f t) → ((f : ℕ → ℕ) → ticket_of f w ≡ f t) → ⊥
distinct s o i j v w t apart at there mine theirs =
    let two = total-two (ticket_of (only t)) s.views i j v w apart at there in
    omega (arith, two, mine (only t), theirs (only t), only-same t, o.tickets (only t), below-only t o.ticket)

-- A seat of one part is not beside a seat that is alone.
not_alone : (p : ℕ) (v u : View) → v.parts ≡ 1 → u.parts ≡ 2 → get_elem? (u ∷ []) p ≡ some v → ⊥
not_alone zero v u one two at = omega (arith, one, two, ap parts_of (some-injective u v at))
not_alone (suc p) v u one two at = some-ne-none v (sym at)

module _ {L : Type 0} (s : State (Slot L) View) (o : Orderly s) (id : ℕ) (v w : View) (log : Marked) (cause : Option Over) (ticket : ℕ) (homes : List (core.Option (Slot L))) where
  pub moved : get_elem? s.views id ≡ some v → v.parts ≡ 1 → w.parts ≡ 1 → length log < 2 ^ 60
      → ((f : ℕ → ℕ) → ticket_of f w + below f (length log) + below f o.ticket ≡ ticket_of f v + below f (length o.log) + below f ticket)
      → ((j : ℕ) (u : View) → j ≢ id → get_elem? s.views j ≡ some u → Fits log cause o.terms j u) → Fits log cause o.terms id w
      → ((c : Over) → cause ≡ Some c → Origin c (set s.views id w))
      → Home log cause o.terms (set s.views id w) homes ⊎ Out log cause (set s.views id w) homes
      → Orderly (table (ticket ∷ length log ∷ []) homes (set s.views id w))
  moved at one still short balance others mine origin slot = record {
    log = log;
    ticket = ticket;
    cause = cause;
    terms = o.terms;
    words = refl;
    short = short;
    few = omega (arith, o.few, length-set s.views id w);
    parts = omega (arith, o.parts, total-set parts_of s.views id v w at, one, still);
    tickets = λ f. omega (arith, total-set (ticket_of f) s.views id v w at, o.tickets f, balance f);
    each = λ j u e. ⊎_elim
        (λ (t : (j ≡ id) × (w ≡ u)). subst (λ (y : ℕ × View). Fits log cause o.terms y.0 y.1) (λ i. (sym t.0 i, t.1 i)) mine)
        (λ (t : (j ≢ id) × (get_elem? s.views j ≡ some u)). others j u t.0 t.1)
        (at_set s.views id j w u e);
    alone = λ j u e two unjoined. ⊎_elim
        (λ (t : (j ≡ id) × (w ≡ u)). absurd (omega (arith, still, two, ap parts_of t.1)))
        (λ (t : (j ≢ id) × (get_elem? s.views j ≡ some u)). absurd (not_alone id v u one two (subst (λ l. get_elem? l id ≡ some v) ((o.alone j u t.1 two unjoined).only) at)))
        (at_set s.views id j w u e);
    origin = origin;
    slot = slot;
  }

pub idle_not_inside : (t : ℕ) → Idle ≡ Inside t → ⊥
idle_not_inside t e = cc

abbrev pub IsOutside : View → Type 0
IsOutside v = (t : ℕ) → v.stage ≡ Inside t → ⊥

-- A seat that is outside before and after leaves the slot as it is.
pub slot_kept : {L : Type 0} (log : Marked) (cause : Option Over) (terms : Terms) (views : List View) (homes : List (core.Option (Slot L))) (id : ℕ) (v w : View) → get_elem? views id ≡ some v → IsOutside v → IsOutside w → w.runs ≡ v.runs → w.asked ≡ v.asked
    → Home log cause terms views homes ⊎ Out log cause views homes → Home log cause terms (set views id w) homes ⊎ Out log cause (set views id w) homes
slot_kept log cause terms views homes id v w at was now runs asked (inl h) = inl (record {
  kept = h.kept;
  is = h.is;
  past = h.past;
  live = omega (arith, h.live, total-set runs_of views id v w at, runs);
  calls = omega (arith, h.calls, total-set asked_of views id v w at, asked);
  causes = h.causes;
  terms_same = h.terms_same;
  empty = λ j u t e in_turn. ⊎_elim
      (λ (x : (j ≡ id) × (w ≡ u)). now t (ap (λ (y : View). y.stage) x.1 ∙ in_turn))
      (λ (x : (j ≢ id) × (get_elem? views j ≡ some u)). h.empty j u t x.1 in_turn)
      (at_set views id j w u e);
})
slot_kept log cause terms views homes id v w at was now runs asked (inr h) = inr (record {
  by = h.by;
  v = h.v;
  is = h.is;
  at = set_else views id h.by w (λ e. was (length log) (ap (λ (y : View). y.stage) (some-injective v h.v (sym at ∙ ap (get_elem? views) (sym e) ∙ h.at)) ∙ h.stage)) ∙ h.at;
  stage = h.stage;
  live = omega (arith, h.live, total-set runs_of views id v w at, runs);
  calls = omega (arith, h.calls, total-set asked_of views id v w at, asked);
  causes = h.causes;
})

-- What a step of a seat owes, at a table with these words.
module _ {L : Type 0} where
  abbrev pub Owes : State (Slot L) View → ℕ → ℕ → (ℕ → ℕ) → Me (Slot L) View → (ℕ → Me (Slot L) View → Type 0) → List ℕ → Type 0
  Owes s id i f m told ws = (w : View) × (a : Act (Slot L)) × Valid s.homes m.1 a
      × Orderly (table (slice_set ws i (f (slice_index ws i))) (homes_after s.homes m.1 a) (slice_set s.views id w))
      × told (slice_index ws i) (w, carried_after m.1 a)
