-- A turn ends: its seat puts the state back with one entry more, and the next ticket is served.
use Rattle.std.proofs.Common.{◌≡◌, ◌≢◌, ℕ, zero, suc, ◌+◌, ◌<◌, ◌%◌, ◌^◌, List, [], ◌∷◌, length, set, Option, Some, Bool, true, false, refl, sym, ap, ◌∙◌, subst, inl, ⊎_elim, arith}
use Rattle.std.specs.Prelude.{slice_set, nat_lt, if◌then◌else◌}
use mathlib.Core.Option.{none, some, some-injective}
use mathlib.Core.Option as core
use mathlib.Core.Logic.{dite}
use native.Mathlib.Decide.{ℕ_discrete}
use lib.ListN.{get_elem?}
use Rattle.atomic_table.specs.Table.{State, Me, step, gives, Allows}
use Rattle.atomic_table.proofs.Lists.{at_set}
use Rattle.chip_sheet.specs.declared.event.Entry.{Entry}
use Rattle.chip_sheet.specs.declared.event.Entry.TheVariants.{Rest}
use Rattle.chip_sheet.specs.Past.{Past}
use Rattle.chip_lock.specs.declared.over.Over.{Over}
use Rattle.chip_lock.specs.declared.table.Stage.{Stage}
use Rattle.chip_lock.specs.declared.table.Stage.TheVariants.{Idle, Waiting, Inside}
use Rattle.chip_lock.specs.declared.table.Terms.{Terms}
use Rattle.chip_lock.specs.declared.table.View.{View}
use Rattle.chip_lock.specs.Causes.{Names, StopsHere}
use Rattle.chip_lock.specs.Lists.{total, below, picks, bare, is_first, same}
use Rattle.chip_lock.specs.Plays.{Slot, left}
use Rattle.chip_lock.specs.Rule.{Marked, StandsAt, Fits, Home, Out, Orderly, weighs}
use Rattle.chip_lock.specs.Seats.{MayLeave}
use Rattle.chip_lock.specs.Standing.{KeptState, past_of}
use Rattle.chip_lock.specs.Views.{Placed, end_of, left_with, starts_in, with_newest}
use Rattle.chip_lock.proofs.Moving.{Owes, asked_of, distinct, idle_not_inside, moved, parts_of, runs_of, table}
use Rattle.chip_lock.proofs.Origins.{found_later, left_found, left_origin}
use Rattle.chip_lock.proofs.Sums.{at-below, below-more, goes_further, length-bare, same-self, total-set, total-two}

-- One entry more, of this seat.
abbrev pub with_entry : Marked → ℕ → Entry → Marked
with_entry log id e = (is_first id, e) ∷ log

picks_own : (log : Marked) (id : ℕ) (e : Entry) → picks (is_first id) (with_entry log id e) ≡ (length log, e) ∷ picks (is_first id) log
picks_own log id e = ap (λ (b : Bool). if b then (length log, e) ∷ picks (is_first id) log else picks (is_first id) log) (same-self (is_first id))

-- Of two seats one is the first.
two_seats : (i j : ℕ) → j ≢ i → i < 2 → j < 2 → same (is_first j) (is_first i) ≡ false
two_seats zero zero apart a b = absurd (apart refl)
two_seats zero (suc j) apart a b = refl
two_seats (suc i) zero apart a b = refl
two_seats (suc i) (suc j) apart a b = absurd (apart (omega arith))

picks_other : (log : Marked) (id j : ℕ) (e : Entry) → j ≢ id → id < 2 → j < 2 → picks (is_first j) (with_entry log id e) ≡ picks (is_first j) log
picks_other log id j e apart a b = ap (λ (c : Bool). if c then (length log, e) ∷ picks (is_first j) log else picks (is_first j) log) (two_seats id j apart a b)

stands_outside : (log : Marked) (u : View) (stage : Stage) → ((t : ℕ) → stage ≡ Inside t → ⊥) → StandsAt log u stage
stands_outside log u Idle h = tt
stands_outside log u (Waiting t) h = tt
stands_outside log u (Inside t) h = absurd (h t refl)

module _ {L : Type 0} (id : ℕ) (v : View) (t : ℕ) (k : KeptState L) (in_turn : v.stage ≡ Inside t) (one : v.parts ≡ 1) (may : MayLeave v k) where
  -- The seat that leaves.
  fits_left : (log : Marked) (cause : Option Over) (terms : Terms) → v.seen ≡ bare log → v.cause ≡ cause → Fits log cause terms id v → Fits (with_entry log id may.entry) k.cause terms id (left_with v k)
  fits_left log cause terms whole known f = record {
    terms_same = f.terms_same;
    seen = ([], ap (λ (l : Past). may.entry ∷ l) (sym whole) ∙ sym may.adds);
    mine = λ some_part. ap (λ (l : Past). with_newest l v.mine) may.adds ∙ ap (λ (n : ℕ). (n, may.entry) ∷ v.mine) size ∙ ap (λ (l : List Placed). (length log, may.entry) ∷ l) (f.mine (omega (arith, one))) ∙ sym (picks_own log id may.entry);
    joins = λ j. absurd (omega (arith, one, (f.joins j).two));
    gone = λ none_left. absurd (omega (arith, one, none_left));
    stands = tt;
    ended = end_named;
    found = left_found (starts_in terms) terms.limit v.cause k.cause cause v.seen (bare log) may.entry k.last v.found whole known may.keeps may.rests
        (λ s none_before now. subst (λ (x : Terms). (may.entry ≡ Rest) × StopsHere (starts_in x) x.limit v.seen k.last s) (f.terms_same (omega (arith, one))) (may.stops s none_before now)) f.found;
  }
    where
      end_named : Names k.cause (end_of v k)
      end_named = elim (nat_lt k.live v.live) as (λ b. Names k.cause (if b then k.cause else v.ended)) [ true ↦ (λ c x. x) | false ↦ (λ c x. may.keeps c (known ∙ f.ended c x)) ]

      size : length v.seen ≡ length log
      size = ap length whole ∙ length-bare log

  -- Another seat.
  fits_beside : (s : State (Slot L) View) (o : Orderly s) (j : ℕ) (u : View) → j ≢ id → get_elem? s.views id ≡ some v → get_elem? s.views j ≡ some u → t ≡ length o.log → v.cause ≡ o.cause → Fits (with_entry o.log id may.entry) k.cause o.terms j u
  fits_beside s o j u apart at there served known =
      let f = o.each j u there in
      record {
        terms_same = f.terms_same;
        seen = goes_further u.seen (bare o.log) may.entry f.seen;
        mine = λ has. f.mine has ∙ sym (picks_other o.log id j may.entry apart (omega (arith, o.few, at-below s.views id v at)) (omega (arith, o.few, at-below s.views j u there)));
        joins = λ joined. absurd (omega (arith, one, (f.joins joined).two, total-two parts_of s.views id j v u apart at there, o.parts));
        gone = f.gone;
        stands = stands_outside (with_entry o.log id may.entry) u u.stage (λ t' i. distinct s o id j v u t apart at there (λ g. ap (weighs g) in_turn) (λ g. ap (weighs g) i ∙ ap g ((subst (StandsAt o.log u) i f.stands).0 ∙ sym served)));
        ended = λ c x. may.keeps c (known ∙ f.ended c x);
        found = found_later (starts_in o.terms) o.terms.limit (bare o.log) may.entry v.cause o.cause k.cause u.found known may.keeps may.rests f.found;
      }

  -- A seat in its turn is served, and the state is out with it.
  live_inside : (s : State (Slot L) View) (o : Orderly s) → get_elem? s.views id ≡ some v → t ≡ length o.log → (s.homes ≡ none ∷ []) × (v.live ≡ total runs_of s.views) × (v.calls ≡ total asked_of s.views) × (v.cause ≡ o.cause)
  live_inside s o at served =
      ⊎_elim
      (λ (h : Home o.log o.cause o.terms s.views s.homes). absurd (h.empty id v t at in_turn))
      (λ (h : Out o.log o.cause s.views s.homes).
      dite (ℕ_discrete h.by id)
      (λ e. let same_seat = some-injective v h.v (sym at ∙ ap (get_elem? s.views) (sym e) ∙ h.at) in (h.is, ap (λ (u : View). u.live) same_seat ∙ h.live, ap (λ (u : View). u.calls) same_seat ∙ h.calls, ap (λ (u : View). u.cause) same_seat ∙ h.causes))
      (λ ne. absurd (distinct s o id h.by v h.v t ne at h.at (λ g. ap (weighs g) in_turn) (λ g. ap (weighs g) h.stage ∙ ap g (sym served)))))
      o.slot

  leaves : (slots : ℕ) → Allows Orderly slots id (v, (0, Some k) ∷ []) 1 (λ n. (n + 1) % 2 ^ 64) (left (step slots 1 1 0 none) (v, (0, Some k) ∷ []))
  leaves slots s o wide at _ =
      let f = o.each id v at in
      let stands : (t ≡ length o.log) × (v.seen ≡ bare o.log) = subst (StandsAt o.log v) in_turn f.stands in
      let served = stands.0 in
      let out = live_inside s o at served in
      let w = left_with v k in
      let log = with_entry o.log id may.entry in
      let size : length log ≡ length o.log + 1 = omega arith in
      let room : length o.log + 1 < 2 ^ 60 = omega (arith, may.short, ap length may.adds, ap length stands.1, length-bare o.log) in
      let more : (length o.log + 1) % 2 ^ 64 ≡ length log = omega (arith, room) in
      let whole : past_of k ≡ bare log = may.adds ∙ ap (λ (l : Past). may.entry ∷ l) stands.1 in
      let after : Orderly (table (o.ticket ∷ length log ∷ []) (some (Some k) ∷ []) (set s.views id w)) =
      moved s o id v w log k.cause o.ticket (some (Some k) ∷ []) at one one (omega (arith, room))
      (λ g. omega (arith, ap (weighs g) in_turn, ap g served, ap (below g) size, below-more g (length o.log)))
      (λ j u apart there. fits_beside s o j u apart at there served out.3)
      (fits_left o.log o.cause o.terms stands.1 out.3 f)
      (λ c x. left_origin v.cause k.cause c s.views id v w (length v.seen) k.last refl refl at one may.keeps x (λ c' y. o.origin c' (sym out.3 ∙ y)))
      (inl (record {
        kept = k;
        is = refl;
        past = whole;
        live = omega (arith, total-set runs_of s.views id v w at, out.1, may.live);
        calls = omega (arith, total-set asked_of s.views id v w at, out.2, may.calls);
        causes = refl;
        terms_same = may.terms ∙ f.terms_same (omega (arith, one));
        empty = λ j u t' there i. ⊎_elim
            (λ (x : (j ≡ id) × (w ≡ u)). idle_not_inside t' (ap (λ (y : View). y.stage) x.1 ∙ i))
            (λ (x : (j ≢ id) × (get_elem? s.views j ≡ some u)). distinct s o id j v u t x.0 at x.1 (λ g. ap (weighs g) in_turn) (λ g. ap (weighs g) i ∙ ap g ((subst (StandsAt o.log u) i (o.each j u x.1).stands).0 ∙ sym served)))
            (at_set s.views id j w u there);
      })) in
      subst (Owes s id 1 (λ n. (n + 1) % 2 ^ 64) (v, (0, Some k) ∷ []) (left (step slots 1 1 0 none) (v, (0, Some k) ∷ []))) (sym o.words) (
        w,
        gives,
        tt,
        subst (λ (y : ℕ × List (core.Option (Slot L))). Orderly (table (o.ticket ∷ y.0 ∷ []) (slice_set y.1 0 (some (Some k))) (set s.views id w))) (λ i. (sym more i, sym out.0 i)) after,
        refl,
      )

-- The same, at a seat that is known.
pub leaves_as : {L : Type 0} (slots id : ℕ) (m : Me (Slot L) View) (v : View) (t : ℕ) (k : KeptState L) → m ≡ (v, (0, Some k) ∷ []) → v.stage ≡ Inside t → v.parts ≡ 1 → MayLeave v k → Allows Orderly slots id m 1 (λ n. (n + 1) % 2 ^ 64) (left (step slots 1 1 0 none) m)
leaves_as {L} slots id m v t k is i one may = subst (λ (x : Me (Slot L) View). Allows Orderly slots id x 1 (λ n. (n + 1) % 2 ^ 64) (left (step slots 1 1 0 none) x)) (sym is) (leaves id v t k i one may slots)
