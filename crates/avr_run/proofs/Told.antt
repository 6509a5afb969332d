-- A play over a peer that keeps its exchanges is what the tree comes to on the answers that were added.
use Rattle.std.proofs.Common.{◌≡◌, refl, sym, ap, subst, ◌∙◌, List, [], ◌∷◌, ◌++◌, Option, Some, None, append_assoc, append-nil}
use Rattle.avr_core.specs.Ask.{Give, Call, Plays}
use Rattle.avr_mcu.specs.Answers.{Led, reads, over, led, led_on, first_wanted}
use Rattle.avr_space.specs.Peer.{AnswerTo, OfBus}
use Rattle.board_bus.specs.declared.event.BusAnswer.{BusAnswer}
use Rattle.board_bus.specs.declared.event.BusEvent.{BusEvent}
use Rattle.avr_run.specs.Told.{Told, Tells, TellsBy, and_event, and_refused}

abbrev pub and_all : Told → List BusEvent → List BusAnswer → Option BusEvent → Told
and_all p cs xs w = record { asked = p.asked ++ cs; answers = p.answers ++ xs; wanted = w }

-- What a tree came to on these answers: in full, whatever answers come later, or up to a call that got none.
abbrev pub CameBy : {R : Type 0} → Option BusEvent → OfBus R → List BusEvent → List BusAnswer → R → Type 0
CameBy None tree cs xs r = (more : List BusAnswer) → led tree (xs ++ more) ≡ record { result = r; left = more; asked = cs; wants = None }
CameBy (Some c) tree cs xs r = led tree xs ≡ record { result = r; left = []; asked = cs; wants = Some c }

pub record Came {R : Type 0} (tree : OfBus R) (p : Told) (r : R) (q : Told) : Type 0 where
  pub asked : List BusEvent
  pub answered : List BusAnswer
  pub adds : q ≡ and_all p asked answered q.wanted
  pub leads : CameBy q.wanted tree asked answered r

-- Once a call got no answer, none gets one, and nothing is added.
plays-over : {R B : Type 0} (told : B → Told) (did : B → (c : BusEvent) → AnswerTo c → B → Type 0)
    → ((p : B) (c : BusEvent) (a : AnswerTo c) (q : B) → did p c a q → Tells c (told p) a (told q))
    → (tree : OfBus R) (before after : B) (r : R) (first : BusEvent) → (told before).wanted ≡ Some first → Plays did before tree r after
    → (led tree [] ≡ record { result = r; left = []; asked = []; wants = (led tree []).wants }) × (told after ≡ told before)
plays-over {R = R} told did tells (Give x) before after r first at play =
    (ap (λ (y : R). record { result = y; left = []; asked = []; wants = None }) (sym play.0), ap told play.1)
plays-over {R = R} told did tells (Call c go) before after r first at play =
    let one = subst (λ w. TellsBy w (told play.1).wanted c (told before) play.0 (told play.1)) at (tells before c play.0 play.1 play.2) in
    let rest = plays-over told did tells (go (over c)) play.1 after r first (ap (λ t. t.wanted) one.1 ∙ at)
    (subst (λ a. Plays did play.1 (go a) r after) one.0 play.3) in
    (ap (λ (l : Led R). record l { wants = Some c }) rest.0, rest.1 ∙ one.1)

no-more : (p t : Told) (w : Option BusEvent) → t ≡ record { asked = p.asked; answers = p.answers; wanted = w } → t ≡ and_all p [] [] t.wanted
no-more p t w e =
    e ∙ ap (λ (cs : List BusEvent). record { asked = cs; answers = p.answers; wanted = w }) (sym (append-nil p.asked))
    ∙ ap (λ (xs : List BusAnswer). record { asked = p.asked ++ []; answers = xs; wanted = w }) (sym (append-nil p.answers))
    ∙ ap (λ v. and_all p [] [] v) (sym (ap (λ (x : Told). x.wanted) e))

one-more : (p : Told) (c : BusEvent) (x : BusAnswer) (cs : List BusEvent) (xs : List BusAnswer) (w : Option BusEvent) (t b : Told)
    → b ≡ and_event p c x → t ≡ and_all b cs xs w → t ≡ and_all p (c ∷ cs) (x ∷ xs) w
one-more p c x cs xs w t b b_is e =
    e ∙ ap (λ (k : Told). and_all k cs xs w) b_is
    ∙ ap (λ (ds : List BusEvent). record { asked = ds; answers = (p.answers ++ x ∷ []) ++ xs; wanted = w }) (append_assoc p.asked (c ∷ []) cs)
    ∙ ap (λ (ys : List BusAnswer). record { asked = p.asked ++ c ∷ cs; answers = ys; wanted = w }) (append_assoc p.answers (x ∷ []) xs)

came-on : {R : Type 0} (w : Option BusEvent) (c : BusEvent) (go : AnswerTo c → OfBus R) (x : BusAnswer) (cs : List BusEvent) (xs : List BusAnswer) (r : R)
    → CameBy w (go (reads c x)) cs xs r → CameBy w (Call c go) (c ∷ cs) (x ∷ xs) r
came-on None c go x cs xs r it = λ more. ap (led_on c) (it more)
came-on (Some first) c go x cs xs r it = ap (led_on c) it

-- The first call of a play.
told-by : {R B : Type 0} (told : B → Told) (did : B → (c : BusEvent) → AnswerTo c → B → Type 0)
    → ((p : B) (c : BusEvent) (a : AnswerTo c) (q : B) → did p c a q → Tells c (told p) a (told q))
    → (c : BusEvent) (go : AnswerTo c → OfBus R) (before between after : B) (a : AnswerTo c) (r : R) (now : Option BusEvent)
    → (told between).wanted ≡ now → TellsBy None now c (told before) a (told between) → Plays did between (go a) r after
    → ((told between).wanted ≡ None → Came (go a) (told between) r (told after))
    → Came (Call c go) (told before) r (told after)
told-by {R = R} told did tells c go before between after a r (Some first) at one play rest =
    let end = plays-over told did tells (go (over c)) between after r first at (subst (λ a. Plays did between (go a) r after) one.0 play) in
    let is : told after ≡ record { asked = (told before).asked; answers = (told before).answers; wanted = Some c } = end.1 ∙ one.1 in
    record {
      asked = [];
      answered = [];
      adds = no-more (told before) (told after) (Some c) is;
      leads = subst (λ w. CameBy w (Call c go) [] [] r) (sym (ap (λ (t : Told). t.wanted) is)) (ap (λ (l : Led R). record l { wants = Some c }) end.0);
    }
told-by told did tells c go before between after a r None at one play rest =
    let tail = rest at in
    record {
      asked = c ∷ tail.asked;
      answered = one.0 ∷ tail.answered;
      adds = one-more (told before) c one.0 tail.asked tail.answered (told after).wanted (told after) (told between) one.2 tail.adds;
      leads = came-on (told after).wanted c go one.0 tail.asked tail.answered r
          (subst (λ x. CameBy (told after).wanted (go x) tail.asked tail.answered r) one.1 tail.leads);
    }

pub plays-told : {R B : Type 0} (told : B → Told) (did : B → (c : BusEvent) → AnswerTo c → B → Type 0)
    → ((p : B) (c : BusEvent) (a : AnswerTo c) (q : B) → did p c a q → Tells c (told p) a (told q))
    → (tree : OfBus R) (before after : B) (r : R) → (told before).wanted ≡ None → Plays did before tree r after
    → Came tree (told before) r (told after)
plays-told {R = R} told did tells (Give x) before after r at play = record {
  asked = [];
  answered = [];
  adds = ap told play.1 ∙ no-more (told before) (told before) (told before).wanted refl ∙ ap (λ w. and_all (told before) [] [] w) (sym (ap (λ b. (told b).wanted) play.1));
  leads = subst (λ w. CameBy w (Give x) [] [] r) (sym (ap (λ b. (told b).wanted) play.1 ∙ at)) (λ more. ap (λ (y : R). record { result = y; left = more; asked = []; wants = None }) (sym play.0));
}
plays-told told did tells (Call c go) before after r at play =
    told-by told did tells c go before play.1 after play.0 r (told play.1).wanted refl
    (subst (λ w. TellsBy w (told play.1).wanted c (told before) play.0 (told play.1)) at (tells before c play.0 play.1 play.2)) play.3
    (λ e. plays-told told did tells (go play.0) play.1 after r e play.3)

-- For a peer's own call: it gave an answer, or none.
pub tells-answer : (c : BusEvent) (p q : Told) (x : BusAnswer) (a : AnswerTo c) → p.wanted ≡ None → q ≡ and_event p c x → a ≡ reads c x → Tells c p a q
tells-answer c p q x a none is answer =
    subst (λ (t : Told). TellsBy p.wanted t.wanted c p a t) (sym is) (subst (λ w. TellsBy w None c p a (and_event p c x)) (sym none) (x, answer, refl))

refusal-by : (c : BusEvent) (asked : List BusEvent) (answers : List BusAnswer) (w : Option BusEvent)
    → TellsBy w (first_wanted c w) c (record { asked = asked; answers = answers; wanted = w }) (over c) (record { asked = asked; answers = answers; wanted = first_wanted c w })
refusal-by c asked answers None = (refl, refl)
refusal-by c asked answers (Some first) = (refl, refl)

pub tells-refusal : (c : BusEvent) (p q : Told) (a : AnswerTo c) → q ≡ and_refused p c → a ≡ over c → Tells c p a q
tells-refusal c p q a is none =
    subst (λ (t : Told). TellsBy p.wanted t.wanted c p a t) (sym is)
    (subst (λ b. TellsBy p.wanted (first_wanted c p.wanted) c p b (and_refused p c)) (sym none) (refusal-by c p.asked p.answers p.wanted))
