-- A turn makes a run one step longer, or ends it, and so does a stretch.
use Rattle.std.proofs.Common.{◌≡◌, ℕ, ◌<◌, Bool, true, false, if◌then◌else◌, nat_le, List, [], ◌++◌, Option, Some, None, refl, sym, ap, subst, ◌∙◌, append_assoc, append-nil}
use Rattle.avr_mcu.specs.Answers.{Led, led}
use Rattle.avr_mcu.specs.Hurry.{hurried}
use Rattle.avr_mcu.specs.Run.{Outcome, at_limit, end_by, end_of, byte_of, ended, after, run}
use Rattle.avr_mcu.specs.State.{McuState, printed, taken}
use Rattle.avr_mcu.specs.Step.{Gone, gone, stepped}
use Rattle.avr_mcu.specs.Stretch.{GoesOn}
use Rattle.avr_space.specs.Peer.{OfBus}
use Rattle.board_bus.specs.declared.event.BusAnswer.{BusAnswer}
use Rattle.board_bus.specs.declared.event.BusEvent.{BusEvent}
use Rattle.avr_mcu.specs.declared.run.RunEnd.{RunEnd}
use Rattle.avr_mcu.specs.declared.run.RunEnd.TheVariants as ends
use Rattle.avr_mcu.specs.declared.went.McuWent.{McuWent}
use Rattle.avr_mcu.specs.declared.went.McuWent.TheVariants.{Ran, Asleep, Served, Break, Sleep, BusOver, Stop}
use Rattle.avr_mcu.proofs.Fuel.{by_end, run-by-end}
use Rattle.avr_mcu.proofs.Hurries.{any-hurried}
use Rattle.avr_mcu.proofs.Turns.{not-wanted, after-after}
use Rattle.avr_run.proofs.Told.{Came, CameBy, and_all}
use Rattle.avr_run.specs.Told.{Told, SoFar, Ended, EndWants, RunBegins}

at-limit : (b : Bool) (e : RunEnd) → (if b then Some ends.CycleLimit else None) ≡ Some e → EndWants e None
at-limit true e is = let eq : ends.CycleLimit ≡ e = cc in subst (λ x. EndWants x None) eq refl
at-limit false e is = absurd (cc)

end-by : (went : McuWent) (limit cycles : ℕ) (e : RunEnd) → end_by went limit cycles ≡ Some e → EndWants e None
end-by Break limit cycles e is = let eq : ends.Break ≡ e = cc in subst (λ x. EndWants x None) eq refl
end-by Sleep limit cycles e is = let eq : ends.Sleep ≡ e = cc in subst (λ x. EndWants x None) eq refl
end-by BusOver limit cycles e is = let eq : ends.CycleLimit ≡ e = cc in subst (λ x. EndWants x None) eq refl
end-by (Stop stop) limit cycles e is = let eq : ends.Stop stop ≡ e = cc in subst (λ x. EndWants x None) eq refl
end-by Ran limit cycles e is = at-limit (nat_le limit cycles) e is
end-by Asleep limit cycles e is = at-limit (nat_le limit cycles) e is
end-by Served limit cycles e is = at-limit (nat_le limit cycles) e is

end-wants : (wants : Option BusEvent) (went : McuWent) (limit cycles : ℕ) (e : RunEnd) → end_of wants went limit cycles ≡ Some e → EndWants e wants
end-wants None went limit cycles e is = end-by went limit cycles e is
end-wants (Some c) went limit cycles e is = let eq : ends.Wants c ≡ e = cc in subst (λ x. EndWants x (Some c)) eq refl

-- A run whose first step leads so.
run-led : (limit : ℕ) (s : McuState) (ys : List BusAnswer) (l : Led Gone) → led (stepped s) ys ≡ l
    → run limit s ys ≡ by_end (end_of l.wants l.result.went limit l.result.state.devices.cycles) l (run limit (taken l.result.state) l.left)
run-led limit s ys l e =
    run-by-end limit s ys
    ∙ ap (λ (k : Led Gone). by_end (end_of k.wants k.result.went limit k.result.state.devices.cycles) k (run limit (taken k.result.state) k.left)) e

leads-now : {R : Type 0} (w : Option BusEvent) (tree : OfBus R) (cs : List BusEvent) (xs : List BusAnswer) (r : R)
    → CameBy w tree cs xs r → led tree xs ≡ record { result = r; left = []; asked = cs; wants = w }
leads-now None tree cs xs r it = ap (λ ys. led tree ys) (sym (append-nil xs)) ∙ it []
leads-now (Some c) tree cs xs r it = it

pub turn-goes : (limit : ℕ) (s : McuState) (p q : Told) (went : McuWent) (left now : McuState) (end : Option RunEnd) (byte : Option ℕ)
    → (p.wanted ≡ None → Came (stepped s) p (gone went left) q)
    → end ≡ end_of q.wanted went limit left.devices.cycles → byte ≡ printed left → now ≡ taken left
    → end ≡ None → (start : McuState) (serial : List ℕ) → SoFar limit start serial s p
    → SoFar limit start (serial ++ byte_of byte) now q
turn-goes limit s p q went left now end byte comes end_is byte_is now_is on start serial far =
    let came = comes far.none_wanted in
    let goes_on : end_of q.wanted went limit left.devices.cycles ≡ None = sym end_is ∙ on in
    let none = not-wanted q.wanted went limit left.devices.cycles goes_on in
    let goes_none : end_of None went limit left.devices.cycles ≡ None = subst (λ w. end_of w went limit left.devices.cycles ≡ None) none goes_on in
    let leads = subst (λ w. CameBy w (stepped s) came.asked came.answered (gone went left)) none came.leads in
    let all : (more : List BusAnswer) → run limit start ((p.answers ++ came.answered) ++ more)
    ≡ after (p.asked ++ came.asked) (serial ++ byte_of (printed left)) (run limit (taken left) more) = λ more.
    ap (λ ys. run limit start ys) (append_assoc p.answers came.answered more)
    ∙ far.goes (came.answered ++ more)
    ∙ ap (after p.asked serial) (run-led limit s (came.answered ++ more) (record { result = gone went left; left = more; asked = came.asked; wants = None }) (leads more)
    ∙ ap (λ e. by_end e (record { result = gone went left; left = more; asked = came.asked; wants = None }) (run limit (taken left) more)) goes_none)
    ∙ after-after p.asked came.asked serial (byte_of (printed left)) (run limit (taken left) more) in
    let whole : SoFar limit start (serial ++ byte_of (printed left)) (taken left) (and_all p came.asked came.answered None) = record { none_wanted = refl; none_waits = refl; goes = all } in
    subst (λ t. SoFar limit start (serial ++ byte_of byte) now t) (sym (came.adds ∙ ap (λ w. and_all p came.asked came.answered w) none))
    (subst (λ n. SoFar limit start (serial ++ byte_of byte) n (and_all p came.asked came.answered None)) (sym now_is)
    (subst (λ b. SoFar limit start (serial ++ byte_of b) (taken left) (and_all p came.asked came.answered None)) (sym byte_is) whole))

pub turn-ends : (limit : ℕ) (s : McuState) (p q : Told) (went : McuWent) (left now : McuState) (end : Option RunEnd) (byte : Option ℕ)
    → (p.wanted ≡ None → Came (stepped s) p (gone went left) q)
    → end ≡ end_of q.wanted went limit left.devices.cycles → byte ≡ printed left → now ≡ taken left
    → (e : RunEnd) → end ≡ Some e → (start : McuState) (serial : List ℕ) → SoFar limit start serial s p
    → Ended limit start (serial ++ byte_of byte) now q e
turn-ends limit s p q went left now end byte comes end_is byte_is now_is e on start serial far =
    let came = comes far.none_wanted in
    let stops : end_of q.wanted went limit left.devices.cycles ≡ Some e = sym end_is ∙ on in
    let l : Led Gone = record { result = gone went left; left = []; asked = came.asked; wants = q.wanted } in
    let step : run limit s came.answered ≡ ended l e =
    run-led limit s came.answered l (leads-now q.wanted (stepped s) came.asked came.answered (gone went left) came.leads)
    ∙ ap (λ x. by_end x l (run limit (taken left) [])) stops in
    let all : run limit start (p.answers ++ came.answered) ≡ after p.asked serial (ended l e) =
    far.goes came.answered ∙ ap (after p.asked serial) step in
    let whole : Ended limit start (serial ++ byte_of (printed left)) (taken left) (and_all p came.asked came.answered q.wanted) e = record { is = all; wants = end-wants q.wanted went limit left.devices.cycles e stops } in
    subst (λ t. Ended limit start (serial ++ byte_of byte) now t e) (sym came.adds)
    (subst (λ n. Ended limit start (serial ++ byte_of byte) n (and_all p came.asked came.answered q.wanted) e) (sym now_is)
    (subst (λ b. Ended limit start (serial ++ byte_of b) (taken left) (and_all p came.asked came.answered q.wanted) e) (sym byte_is) whole))

-- Steps at once that leave a run going on.
pub stretch-goes : (limit k : ℕ) (s left now : McuState) (byte : Option ℕ) (end : Option RunEnd)
    → s.devices.cycles < limit → GoesOn limit k s left → end ≡ at_limit limit left.devices.cycles → byte ≡ printed left → now ≡ taken left
    → end ≡ None → (start : McuState) (serial : List ℕ) (told : Told) → SoFar limit start serial s told
    → SoFar limit start (serial ++ byte_of byte) now told
stretch-goes limit k s left now byte end below goes end_is byte_is now_is on start serial told far =
    let none : at_limit limit left.devices.cycles ≡ None = sym end_is ∙ on in
    let all : (more : List BusAnswer) → run limit start (told.answers ++ more) ≡ after told.asked (serial ++ byte_of (printed left)) (run limit (taken left) more) = λ more.
    far.goes more
    ∙ ap (after told.asked serial) (any-hurried limit k s left more far.none_waits below goes ∙ ap (λ e. hurried e limit left more) none)
    ∙ after-after told.asked [] serial (byte_of (printed left)) (run limit (taken left) more)
    ∙ ap (λ asked. after asked (serial ++ byte_of (printed left)) (run limit (taken left) more)) (append-nil told.asked) in
    let whole : SoFar limit start (serial ++ byte_of (printed left)) (taken left) told = record { none_wanted = far.none_wanted; none_waits = refl; goes = all } in
    subst (λ n. SoFar limit start (serial ++ byte_of byte) n told) (sym now_is)
    (subst (λ b. SoFar limit start (serial ++ byte_of b) (taken left) told) (sym byte_is) whole)

-- Steps at once that come to the limit.
pub stretch-ends : (limit k : ℕ) (s left now : McuState) (byte : Option ℕ) (end : Option RunEnd)
    → s.devices.cycles < limit → GoesOn limit k s left → end ≡ at_limit limit left.devices.cycles → byte ≡ printed left → now ≡ taken left
    → (e : RunEnd) → end ≡ Some e → (start : McuState) (serial : List ℕ) (told : Told) → SoFar limit start serial s told
    → Ended limit start (serial ++ byte_of byte) now told e
stretch-ends limit k s left now byte end below goes end_is byte_is now_is e on start serial told far =
    let stops : at_limit limit left.devices.cycles ≡ Some e = sym end_is ∙ on in
    let all : run limit start told.answers ≡ record { asked = told.asked; serial = serial ++ byte_of (printed left); cycles = left.devices.cycles; trail = left.trail; end = e } =
    ap (run limit start) (sym (append-nil told.answers))
    ∙ far.goes []
    ∙ ap (after told.asked serial) (any-hurried limit k s left [] far.none_waits below goes ∙ ap (λ x. hurried x limit left []) stops)
    ∙ ap (λ asked. record { asked = asked; serial = serial ++ byte_of (printed left); cycles = left.devices.cycles; trail = left.trail; end = e }) (append-nil told.asked) in
    let whole : Ended limit start (serial ++ byte_of (printed left)) (taken left) told e = record { is = all; wants = subst (λ w. EndWants e w) (sym far.none_wanted) (at-limit (nat_le limit left.devices.cycles) e stops) } in
    subst (λ n. Ended limit start (serial ++ byte_of byte) n told e) (sym now_is)
    (subst (λ b. Ended limit start (serial ++ byte_of b) (taken left) told e) (sym byte_is) whole)

pub run-begins : RunBegins
run-begins limit start none = record { none_wanted = refl; none_waits = none; goes = λ more. refl }
