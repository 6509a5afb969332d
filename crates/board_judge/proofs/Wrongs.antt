-- What is wrong at the first place that is not allowed.
use Rattle.std.proofs.Common.{◌≡◌, ◌≢◌, ◌&&◌, ℕ, ◌+◌, Bool, true, false, List, [], ◌∷◌, ◌++◌, append_assoc, append-nil, cond, length, reverse, Option, None, Some, refl, sym, ap, ◌∙◌, subst, arith}
use Rattle.std.specs.Prelude.{nat_lt}
use Rattle.std.proofs.lemmas.Bool.{eqb-true, eq-eqb, lt-ltb, ltb-false, ltb-true}
use Rattle.std.proofs.lemmas.List.{reverse-append, reverse-reverse}
use Rattle.board_bus.specs.declared.event.BusAnswer.{BusAnswer}
use Rattle.board_bus.specs.declared.event.BusEvent.{BusEvent}
use Rattle.chip_sheet.specs.declared.event.LinkEntry.{LinkEntry}
use Rattle.board_bus.specs.declared.event.BusAnswer.TheVariants.{Done, Out, Level}
use Rattle.chip_sheet.specs.declared.stop.ChipStop.{ChipStop}
use Rattle.chip_sheet.specs.declared.event.Entry.{Entry}
use Rattle.chip_sheet.specs.declared.event.Entry.TheVariants.{Bus, Link, Rest}
use Rattle.chip_sheet.specs.Past.{Past}
use Rattle.chip_sheet.specs.Streams.{Starts}
use Rattle.chip_sheet.specs.Answers.{answer}
use Rattle.chip_sheet.specs.Stops.{stop}
use Rattle.chip_sheet.specs.LinkCalls.{fits}
use Rattle.chip_sheet.specs.Legal.{Legal, FitsAfter}
use Rattle.board_judge.specs.declared.end.JudgeFault.{JudgeFault}
use Rattle.board_judge.specs.declared.end.JudgeFault.TheVariants.{Differs, Unfit}
use Rattle.board_judge.specs.Judged.{Judged, answer_byte, answered, breach, compared, judged, same_answer, verdict}
use Rattle.board_judge.specs.Laws.{Holds, IsWrong, LegalsAreDone, VerdictsHold, place_of}

pub same_true : (a b : BusAnswer) → same_answer a b ≡ true → b ≡ a
same_true Done Done is = refl
same_true Done (Out w) is = absurd (cc is)
same_true Done (Level other) is = absurd (cc is)
same_true (Out v) Done is = absurd (cc is)
same_true (Out v) (Out w) is = ap Out (sym (eqb-true v w is))
same_true (Out v) (Level other) is = absurd (cc is)
same_true (Level high) Done is = absurd (cc is)
same_true (Level high) (Out w) is = absurd (cc is)
same_true (Level true) (Level true) is = refl
same_true (Level true) (Level false) is = absurd (cc is)
same_true (Level false) (Level true) is = absurd (cc is)
same_true (Level false) (Level false) is = refl

same_self : (a : BusAnswer) → same_answer a a ≡ true
same_self Done = refl
same_self (Out v) = eq-eqb v v refl
same_self (Level true) = refl
same_self (Level false) = refl

not_same : (a b : BusAnswer) → same_answer a b ≡ false → b ≢ a
not_same a b is same = let here : same_answer a a ≡ true = same_self a in let there : same_answer a a ≡ false = rw same at is in cc

-- what the definition of a breach says of an entry
abbrev Tells : Starts → Past → Entry → Option JudgeFault → Type 0
Tells starts past entry None = FitsAfter starts past entry
Tells starts past entry (Some fault) = IsWrong starts past entry fault × (place_of fault ≡ length past)

compared_tells : (starts : Starts) (past : Past) (e : BusEvent) (a : BusAnswer) (b : Bool) → stop starts past e ≡ None → same_answer (answer starts past e) a ≡ b
    → Tells starts past (Bus e a) (cond b None (Some (Differs (length past) (answer_byte (answer starts past e)) (answer_byte a))))
compared_tells starts past e a true clear is = (clear, same_true (answer starts past e) a is)
compared_tells starts past e a false clear is = ((clear, not_same (answer starts past e) a is, refl, refl), refl)

bus_tells : (starts : Starts) (past : Past) (e : BusEvent) (a : BusAnswer) (o : Option ChipStop) → stop starts past e ≡ o → Tells starts past (Bus e a) (answered o (length past) (answer starts past e) a)
bus_tells starts past e a (Some s) is = (is, refl)
bus_tells starts past e a None is = compared_tells starts past e a (same_answer (answer starts past e) a) is refl

link_tells : (starts : Starts) (past : Past) (n : ℕ) (what : LinkEntry) (b c : Bool) → nat_lt n 8 ≡ b → fits starts past n what ≡ c → Tells starts past (Link n what) (cond (b && c) None (Some (Unfit (length past))))
link_tells starts past n what true true small fit = (ltb-true n 8 small, fit)
link_tells starts past n what true false small unfit = ((λ h. absurd (cc (h.1))), refl)
link_tells starts past n what false c large fit = ((λ h. omega (arith, h.0, ltb-false n 8 large)), refl)

tells : (starts : Starts) (past : Past) (entry : Entry) → Tells starts past entry (breach starts past entry)
tells starts past (Bus e a) = bus_tells starts past e a (stop starts past e) refl
tells starts past (Link n what) = link_tells starts past n what (nat_lt n 8) (fits starts past n what) refl refl
tells starts past Rest = tt

rev_on : (entry : Entry) (more : List Entry) (past : Past) → reverse more ++ (entry ∷ past) ≡ reverse (entry ∷ more) ++ past
rev_on entry more past =
    sym (ap (λ (p : Past). p ++ past) (reverse-append (entry ∷ []) more) ∙ append_assoc (reverse more) (entry ∷ []) past)

-- the fault is at the first place that is not allowed, where this had happened before
record FirstFrom (starts : Starts) (before_all : Past) (entries : List Entry) (past : Past) (fault : JudgeFault) : Type 0 where
  before : List Entry
  wrong : Entry
  behind : List Entry
  parts : entries ≡ before ++ wrong ∷ behind
  place : place_of fault ≡ length before + length before_all
  happened : past ≡ reverse before ++ before_all
  legal : Legal starts (reverse before ++ before_all)
  is : IsWrong starts (reverse before ++ before_all) wrong fault

abbrev HoldsFrom : Starts → Past → List Entry → Past → Option JudgeFault → Type 0
HoldsFrom starts before_all entries past None = (past ≡ reverse entries ++ before_all) × Legal starts (reverse entries ++ before_all)
HoldsFrom starts before_all entries past (Some fault) = FirstFrom starts before_all entries past fault

-- one entry more stands before the others
shifted : (starts : Starts) (before_all : Past) (entry : Entry) (more : List Entry) (past : Past) (fault : Option JudgeFault) → HoldsFrom starts (entry ∷ before_all) more past fault → HoldsFrom starts before_all (entry ∷ more) past fault
shifted starts before_all entry more past None (happened, legal) =
    (happened ∙ rev_on entry more before_all, subst (λ (p : Past). Legal starts p) (rev_on entry more before_all) legal)
shifted starts before_all entry more past (Some fault) first =
    let on = rev_on entry first.before before_all in record {
      before = entry ∷ first.before;
      wrong = first.wrong;
      behind = first.behind;
      parts = ap (λ (es : List Entry). entry ∷ es) first.parts;
      place = omega (arith, first.place);
      happened = first.happened ∙ on;
      legal = subst (λ (p : Past). Legal starts p) on first.legal;
      is = subst (λ (p : Past). IsWrong starts p first.wrong fault) on first.is;
    }

step : (starts : Starts) (before_all : Past) (entry : Entry) (more : List Entry) (others : Judged) (o : Option JudgeFault) → Tells starts before_all entry o → Legal starts before_all
    → (Legal starts (entry ∷ before_all) → HoldsFrom starts (entry ∷ before_all) more others.past others.fault) → HoldsFrom starts before_all (entry ∷ more) (verdict o before_all others).past (verdict o before_all others).fault
step starts before_all entry more others (Some fault) (wrong, place) legal later = record {
  before = [];
  wrong = entry;
  behind = more;
  parts = refl;
  place = omega (arith, place);
  happened = refl;
  legal = legal;
  is = wrong;
}
step starts before_all entry more others None fits legal later = shifted starts before_all entry more others.past others.fault (later (fits, legal))

holds_from : (starts : Starts) (before_all : Past) (entries : List Entry) → Legal starts before_all → HoldsFrom starts before_all entries (judged starts before_all entries).past (judged starts before_all entries).fault
holds_from starts before_all [] legal = (refl, legal)
holds_from starts before_all (entry ∷ more) legal =
    step starts before_all entry more (judged starts (entry ∷ before_all) more) (breach starts before_all entry) (tells starts before_all entry) legal (holds_from starts (entry ∷ before_all) more)

from_start : (starts : Starts) (entries : List Entry) (past : Past) (fault : Option JudgeFault) → HoldsFrom starts [] entries past fault → Holds starts entries past fault
from_start starts entries past None (happened, legal) =
    (happened ∙ append-nil (reverse entries), subst (λ (p : Past). Legal starts p) (append-nil (reverse entries)) legal)
from_start starts entries past (Some fault) first =
    let on = append-nil (reverse first.before) in record {
      before = first.before;
      wrong = first.wrong;
      behind = first.behind;
      parts = first.parts;
      place = omega (arith, first.place);
      happened = first.happened ∙ on;
      legal = subst (λ (p : Past). Legal starts p) on first.legal;
      is = subst (λ (p : Past). IsWrong starts p first.wrong fault) on first.is;
    }

pub verdicts_hold : VerdictsHold
verdicts_hold starts entries = from_start starts entries (judged starts [] entries).past (judged starts [] entries).fault (holds_from starts [] entries tt)

-- nothing is wrong with an entry that is allowed
clear_answered : (place : ℕ) (expected found : BusAnswer) (o : Option ChipStop) → o ≡ None → found ≡ expected → answered o place expected found ≡ None
clear_answered place expected found o none is =
    ap (λ (s : Option ChipStop). answered s place expected found) none
    ∙ ap (compared place expected) is
    ∙ ap (λ b. cond b None (Some (Differs place (answer_byte expected) (answer_byte expected)))) (same_self expected)

clear_link : (place : ℕ) (few fit : Bool) → few ≡ true → fit ≡ true → cond (few && fit) None (Some (Unfit place)) ≡ None
clear_link place few fit is due = λ i. cond (is i && due i) None (Some (Unfit place))

allowed_clear : (starts : Starts) (past : Past) (entry : Entry) → FitsAfter starts past entry → breach starts past entry ≡ None
allowed_clear starts past (Bus e a) (allowed, is) = clear_answered (length past) (answer starts past e) a (stop starts past e) allowed is
allowed_clear starts past (Link n what) (few, due) = clear_link (length past) (nat_lt n 8) (fits starts past n what) (lt-ltb n 8 few) due
allowed_clear starts past Rest allowed = refl

-- entries that are allowed stand before the others
pub legal_judged : (starts : Starts) (past : Past) (more : List Entry) → Legal starts past → judged starts [] (reverse past ++ more) ≡ judged starts past more
legal_judged starts [] more legal = refl
legal_judged starts (entry ∷ past) more (allowed, legal) =
    ap (judged starts []) (sym (rev_on entry past more))
    ∙ legal_judged starts past (entry ∷ more) legal
    ∙ ap (λ (o : Option JudgeFault). verdict o past (judged starts (entry ∷ past) more)) (allowed_clear starts past entry allowed)

pub legals_are_done : LegalsAreDone
legals_are_done starts entries legal =
    ap (judged starts []) (sym (append-nil (reverse (reverse entries)) ∙ reverse-reverse entries)) ∙ legal_judged starts (reverse entries) [] legal
