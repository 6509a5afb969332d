-- The table at its end, where the seat that took in the other one is seen.
use Rattle.std.proofs.Common.{◌≡◌, ◌≢◌, ℕ, List, length, Option, Some, refl, sym, ap, ◌∙◌, subst, ⊎_elim, arith}
use mathlib.Core.Option.{some, some-injective}
use mathlib.Core.Logic.{dite}
use native.Mathlib.Decide.{ℕ_discrete}
use lib.ListN.{get_elem?}
use Rattle.atomic_table.specs.Seated.{TableId}
use Rattle.atomic_table.specs.Table.{Final, Seen}
use Rattle.atomic_table.specs.Table as table
use Rattle.chip_sheet.specs.Past.{Past, GoesOn}
use Rattle.chip_shared.specs.State.{State}
use Rattle.chip_lock.specs.declared.over.Found.{Found}
use Rattle.chip_lock.specs.declared.over.Over.{Over}
use Rattle.chip_lock.specs.declared.over.Over.TheVariants.{Stopped, TraceFull}
use Rattle.chip_lock.specs.declared.table.Terms.{Terms}
use Rattle.chip_lock.specs.declared.table.View.{View}
use Rattle.chip_lock.specs.Causes.{FoundIn, IsFound, WereFound}
use Rattle.chip_lock.specs.Lists.{bare, is_first}
use Rattle.chip_lock.specs.Passes.{Closes, HaveEnded, PassView, pass_view}
use Rattle.chip_lock.specs.Plays.{Slot}
use Rattle.chip_lock.specs.Rule.{Home, IsGone, Marked, Orderly, Out}
use Rattle.chip_lock.specs.Seats.{Gathered}
use Rattle.chip_lock.specs.Standing.{KeptState, Leaves, past_of}
use Rattle.chip_lock.specs.Views.{joined, starts_in, terms_of}
use Rattle.chip_lock.proofs.Moving.{IsOutside, asked_of, idle_not_inside, parts_of}
use Rattle.chip_lock.proofs.Origins.{closed_origin, some_same}
use Rattle.chip_lock.proofs.Sums.{total-only, total-two}
use Rattle.chip_lock.proofs.Weaving.{woven_exchanges}

-- Beside a seat of both parts the others have none.
two_not : {L : Type 0} (s : table.State (Slot L) View) (o : Orderly s) (id : ℕ) (v : View) → get_elem? s.views id ≡ some v → v.parts ≡ 2 → (j : ℕ) (u : View) → j ≢ id → get_elem? s.views j ≡ some u → u.parts ≡ 0
two_not s o id v at two j u apart there = omega (arith, o.parts, two, total-two parts_of s.views id j v u apart at there)

gone_of : {L : Type 0} (s : table.State (Slot L) View) (o : Orderly s) (id : ℕ) (v : View) → get_elem? s.views id ≡ some v → v.parts ≡ 2 → (j : ℕ) (u : View) → j ≢ id → get_elem? s.views j ≡ some u → IsGone u
gone_of s o id v at two j u apart there = (o.each j u there).gone (two_not s o id v at two j u apart there)

were_found : {L : Type 0} (log : Marked) (cause : Option Over) (terms : Terms) (k : KeptState L) (found : Option Found) → past_of k ≡ bare log → terms_of k.state ≡ terms → FoundIn (starts_in terms) terms.limit (bare log) cause found → WereFound k.state.starts k.state.log.limit (past_of k) found
were_found log cause terms k found is same named f at = subst (λ (x : Terms × Past). IsFound (starts_in x.0) x.0.limit x.1 f) (λ i. (sym same i, sym is i)) (named f at).0

has_part : (u : View) (n : ℕ) → (n ≡ 0 → IsGone u) → n ≡ 0 → IsOutside u
has_part u n gone is t i = idle_not_inside t (sym (gone is).idle ∙ i)

closes : {L : Type 0} (id : ℕ) (v w : View) → v.parts ≡ 1 → w.parts ≡ 1 → (ws : List ℕ) (xs : List (Slot L)) → Final (Seen (Orderly {L = L}) id (joined v w)) ws xs → (k : KeptState L) × (get_elem? xs 0 ≡ some (Some k)) × Gathered v w k
closes {L} id v w one one' ws xs end =
    let u = joined v w in
    let two : u.parts ≡ 2 = omega (arith, one, one') in
    let s = end.0 in
    let o = end.1.0 in
    let at = end.1.1 in
    let f = o.each id u at in
    let j = f.joins refl in
    ⊎_elim
    (λ (h : Home o.log o.cause o.terms s.views s.homes). (
      h.kept,
      end.4 0 (Some h.kept) (ap (λ l. get_elem? l 0) h.is),
      record {
        terms = h.terms_same ∙ sym (f.terms_same (omega (arith, two)));
        first = subst (λ (l : Past). GoesOn v.seen l) (sym h.past) f.seen;
        second = subst (λ (l : Past). GoesOn w.seen l) (sym h.past) j.told;
        woven = record { who = is_first id; log = o.log; all = sym h.past; mine = f.mine (omega (arith, two)); theirs = j.theirs };
        calls = h.calls ∙ total-only asked_of s.views id u at (λ p x apart there. (gone_of s o id u at two p x apart there).asked);
        cause = λ c x. h.causes ∙ f.ended c x;
        other_cause = λ c x. h.causes ∙ j.their_end c x;
        found = were_found o.log o.cause o.terms h.kept v.found h.past h.terms_same f.found;
        other_found = were_found o.log o.cause o.terms h.kept w.found h.past h.terms_same j.their_found;
        origin = λ c x. closed_origin c s.views id u at (λ p y apart there. let g = gone_of s o id u at two p y apart there in (two_not s o id u at two p y apart there, g.found, g.gave)) (o.origin c (sym h.causes ∙ x));
      },
    ))
    (λ (h : Out o.log o.cause s.views s.homes). absurd (dite (ℕ_discrete h.by id)
    (λ e. idle_not_inside (length o.log) (ap (λ (y : View). y.stage) (some-injective u h.v (sym at ∙ ap (get_elem? s.views) (sym e) ∙ h.at)) ∙ h.stage))
    (λ ne. has_part h.v h.v.parts (λ z. (o.each h.by h.v h.at).gone z) (two_not s o id u at two h.by h.v ne h.at) (length o.log) h.stage)))
    o.slot

-- The same, where the slot's last value is known.
pub closes_as : {L : Type 0} (id : ℕ) (u v w : View) → u ≡ joined v w → v.parts ≡ 1 → w.parts ≡ 1 → (ws : List ℕ) (xs : List (Slot L)) → Final (Seen (Orderly {L = L}) id u) ws xs → (x : Slot L) → get_elem? xs 0 ≡ some x
    → (k : KeptState L) × (x ≡ Some k) × Gathered v w k
closes_as {L} id u v w is one one' ws xs end x at =
    let c = closes id v w one one' ws xs (subst (λ (y : View). Final (Seen (Orderly {L = L}) id y) ws xs) is end) in
    (c.0, some-injective x (Some c.0) (sym at ∙ c.1), c.2)

pub closes_at : {L : Type 0} (v w : View) (x : Slot L) (k : KeptState L) → x ≡ Some k → ((k' : KeptState L) × (x ≡ Some k') × Gathered v w k') → Gathered v w k
closes_at v w x k is c = subst (Gathered v w) (some_same c.0 k (sym c.1 ∙ is)) c.2

-- A cause with which one of the two ended is the one that is kept.
named : {L : Type 0} (ta tb : TableId) (v w : View) (k : KeptState L) → Gathered v w k → (c : Over) → HaveEnded (pass_view ta v) (pass_view tb w) c → k.cause ≡ Some c
named ta tb v w k g c ended = ⊎_elim (λ (t : v.ended ≡ Some c). g.cause c t) (λ (t : w.ended ≡ Some c). g.other_cause c t) ended

closes_views : {L : Type 0} (ta tb : TableId) (v w : View) (k : KeptState L) → Gathered v w k → Leaves k.state k.cause → Closes (pass_view ta v) (pass_view tb w) k.state
closes_views ta tb v w k g leaves = record {
  starts = ap starts_in g.terms;
  limit = ap (λ (x : Terms). x.limit) g.terms;
  woven = g.woven;
  bus = woven_exchanges v.mine w.mine (past_of k) g.woven;
  first = g.first;
  second = g.second;
  calls = g.calls;
  cause = λ c d one other. some_same c d (sym (named ta tb v w k g c one) ∙ named ta tb v w k g d other);
  origin = λ c ended. g.origin c (named ta tb v w k g c ended);
  found = g.found;
  other_found = g.other_found;
  full = λ ended. leaves.full (named ta tb v w k g TraceFull ended);
  stopped = λ s is. g.origin (Stopped s) (leaves.stopped s is);
  stop_is = λ s c is ended. some_same c (Stopped s) (sym (named ta tb v w k g c ended) ∙ leaves.stopped s is);
}

-- The same, at passes and a state that are known.
pub closes_passes : {L : Type 0} (ta tb : TableId) (v w : View) (k : KeptState L) (a b : PassView) (now : State L) → pass_view ta v ≡ a → pass_view tb w ≡ b → now ≡ k.state → Gathered v w k → Leaves k.state k.cause → Closes a b now
closes_passes {L} ta tb v w k a b now first second is g leaves =
    subst (λ (x : PassView × PassView × State L). Closes x.0 x.1 x.2) (λ j. (first j, second j, sym is j)) (closes_views ta tb v w k g leaves)
