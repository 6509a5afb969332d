-- A socket goes on with each entry of a history.
use Rattle.std.proofs.Common.{◌≡◌, ℕ, ◌/◌, ◌%◌, ◌<◌, Bool, true, false, not, ◌&&◌, ◌||◌, ◌==◌, cond, List, [], ◌∷◌, length, get_or, Option, Some, None, slice_get, set, get_or-set_same, get_or-set_other, inl, inr, refl, sym, ap, subst, ◌∙◌, arith}
use Rattle.std.proofs.lemmas.Bool.{false≢true, cases_eq}
use Rattle.std.proofs.lemmas.List.{length-set}
use Rattle.std.proofs.lemmas.Option.{slice_get_within, slice_get-get_or, get_or_from_slice_get}
use Rattle.chip_sheet.specs.declared.event.Addr.{Addr}
use Rattle.chip_sheet.specs.declared.socket.Status.{Status}
use Rattle.chip_sheet.specs.declared.socket.Status.TheVariants.{Closed, Init}
use Rattle.chip_sheet.specs.declared.socket.Cause.{Cause}
use Rattle.chip_sheet.specs.declared.socket.Cause.TheVariants as because
use Rattle.chip_sheet.specs.declared.event.Entry.{Entry}
use Rattle.chip_sheet.specs.Past.{Past}
use Rattle.chip_sheet.specs.Life as sheet
use Rattle.chip_sheet.specs.Life.{cause, asks_link, is_closed, lives_on, life_after, closing, old_after, Facts}
use Rattle.chip_sheet.specs.Peers.{destination, source_port}
use Rattle.chip_sheet.specs.Streams.{Starts}
use Rattle.chip_sheet.specs.Windows.{flight, rx_free}
use Rattle.chip_sheet.specs.LinkCalls.{keeps_address, keeps_port, kept_address, kept_port, outgoing, outgoing_of, incoming, incoming_of, due_at}
use Rattle.chip_sheet.proofs.LifeSteps.{life_cases}
use Rattle.sock_cmd.specs.declared.life.Life.{Life}
use Rattle.sock_cmd.specs.Lives.{life_of, address_of, port_of, Happened, IsAfter, AllAfter, due_of}

-- What is kept: the newer where it is, else what was kept before.
kept_along : {A : Type 0} (keeps : Status → Bool) (s t : Status) (newer before earlier : A) → s ≡ t → before ≡ earlier
    → cond (keeps s) newer before ≡ cond (keeps t) newer earlier
kept_along keeps s t newer before earlier same was =
    ap (λ (at : Status). cond (keeps at) newer before) same ∙ ap (λ x. cond (keeps t) newer x) was

-- Where an entry happened to the socket, it is the socket after that entry.
pub goes_on : (before after : Life) (past : Past) (entry : Entry) (n : ℕ) → IsAfter before past n
    → Happened before (cause past n entry) (destination past n) (source_port past n) after → IsAfter after (entry ∷ past) n
goes_on before after past entry n is happened =
    let why = cause past n entry in
    let same : (life_of before).status ≡ sheet.status past n = ap (λ (l : sheet.Life). l.status) is.life in
    record {
      life = happened.life ∙ ap (λ (l : sheet.Life). life_after l why) is.life;
      address = happened.address
          ∙ kept_along (keeps_address why) _ _ (destination past n) (address_of before) (kept_address past n) same is.address;
      port = happened.port
          ∙ kept_along (keeps_port why) _ _ (source_port past n) (port_of before) (kept_port past n) same is.port;
    }

or_true : (b c : Bool) → c ≡ true → (b || c) ≡ true
or_true true c h = refl
or_true false c h = h

-- In a status in which the link is asked, it was asked in the present life.
asked_after : (at : sheet.Life) (why : Cause) → asks_link (life_after at why).status ≡ true → (life_after at why).asked ≡ true
asked_after at why =
    life_cases (λ (l : sheet.Life). asks_link l.status ≡ true → l.asked ≡ true) at why
    (λ h. h)
    (λ h. or_true at.asked _ h)

asked_in : (past : Past) (n : ℕ) → asks_link (sheet.status past n) ≡ true → (sheet.life past n).asked ≡ true
asked_in [] n h = absurd (false≢true h)
asked_in (entry ∷ past) n h = asked_after (sheet.life past n) (cause past n entry) h

-- A life to which nothing happens stays as it is, where the link was asked in it if its status asks the link.
nothing_next : (s : Status) (facts : Facts) → sheet.next s because.Nothing facts ≡ s
nothing_next Closed facts = refl
nothing_next Init facts = refl
nothing_next s facts = refl

or_false : (b : Bool) → (b || false) ≡ b
or_false true = refl
or_false false = refl

asked_stays : (b c : Bool) → (c ≡ true → b ≡ true) → (b || c) ≡ b
asked_stays true c h = refl
asked_stays false true h = sym (h refl)
asked_stays false false h = refl

none_closes : (s : Status) (asked : Bool) (lives : ℕ) → cond (not (is_closed s) && is_closed s && asked) (Some lives) None ≡ None
none_closes Closed asked lives = refl
none_closes Init asked lives = refl
none_closes s asked lives = refl

old_stays : (new old : Option ℕ) → new ≡ None → old_after because.Nothing new old ≡ old
old_stays new (Some life) h = refl
old_stays new None h = h

same_life : (a b : sheet.Life) → a.status ≡ b.status → a.lives ≡ b.lives → a.ended ≡ b.ended → a.shut ≡ b.shut → a.asked ≡ b.asked → a.old ≡ b.old → a ≡ b
same_life a b status lives ended shut asked old = λ i. record {
  status = status i;
  lives = lives i;
  ended = ended i;
  shut = shut i;
  asked = asked i;
  old = old i;
}

on_stays : (at : sheet.Life) → (asks_link at.status ≡ true → at.asked ≡ true) → lives_on at because.Nothing at.status ≡ at
on_stays at asked =
    same_life (lives_on at because.Nothing at.status) at
    refl refl (or_false at.ended) (or_false at.shut)
    (asked_stays at.asked (asks_link at.status) asked)
    (old_stays (closing at at.status) at.old (none_closes at.status at.asked at.lives))

pub nothing_happens : (past : Past) (entry : Entry) (n : ℕ) → cause past n entry ≡ because.Nothing → sheet.life (entry ∷ past) n ≡ sheet.life past n
nothing_happens past entry n h =
    let at = sheet.life past n in
    ap (λ (why : Cause). life_after at why) h
    ∙ ap (λ (s : Status). lives_on at because.Nothing s) (nothing_next at.status (sheet.facts_of because.Nothing at))
    ∙ on_stays at (asked_in past n)

-- A socket to which nothing happens stays as it is.
pub stays : (socket : Life) (past : Past) (entry : Entry) (n : ℕ) → IsAfter socket past n → cause past n entry ≡ because.Nothing → IsAfter socket (entry ∷ past) n
stays socket past entry n is h = record {
  life = is.life ∙ sym (nothing_happens past entry n h);
  address = is.address ∙ sym (ap (λ (why : Cause). cond (keeps_address why (sheet.status past n)) (destination past n) (kept_address past n)) h);
  port = is.port ∙ sym (ap (λ (why : Cause). cond (keeps_port why (sheet.status past n)) (source_port past n) (kept_port past n)) h);
}

cond_along : {A : Type 0} (b : Bool) (x x' y y' : A) → x ≡ x' → y ≡ y' → cond b x y ≡ cond b x' y'
cond_along b x x' y y' first second = ap (λ v. cond b v y) first ∙ ap (λ v. cond b x' v) second

-- What is due by the socket is what is due after the past.
pub due_is : (starts : Starts) (past : Past) (place : ℕ) (socket : Life) → IsAfter socket past (place / 2)
    → due_of place socket (flight starts past (place / 2)) (rx_free starts past (place / 2)) ≡ due_at starts past place
due_is starts past place socket is =
    let n = place / 2 in
    let f = flight starts past n in
    let out : outgoing_of n (life_of socket) (address_of socket) (port_of socket) f ≡ outgoing starts past n =
    ap (λ (l : sheet.Life). outgoing_of n l (address_of socket) (port_of socket) f) is.life
    ∙ ap (λ (to : Addr). outgoing_of n (sheet.life past n) to (port_of socket) f) is.address
    ∙ ap (λ (port : ℕ). outgoing_of n (sheet.life past n) (kept_address past n) port f) is.port in
    let in_ : incoming_of n (life_of socket) (port_of socket) (rx_free starts past n) ≡ incoming starts past n =
    ap (λ (l : sheet.Life). incoming_of n l (port_of socket) (rx_free starts past n)) is.life
    ∙ ap (λ (port : ℕ). incoming_of n (sheet.life past n) port (rx_free starts past n)) is.port in
    cond_along (place % 2 == 0) _ _ _ _ out in_

-- The same of a list of sockets.
pub all_stay : (sockets : List Life) (past : Past) (entry : Entry) → AllAfter sockets past → ((n : ℕ) → cause past n entry ≡ because.Nothing)
    → AllAfter sockets (entry ∷ past)
all_stay sockets past entry all nothing n socket there = stays socket past entry n (all n socket there) (nothing n)

-- A list of sockets of which one goes on, while nothing happens to the others.
pub one_goes_on : (sockets : List Life) (past : Past) (entry : Entry) (n : ℕ) (after : Life) → AllAfter sockets past → n < length sockets
    → IsAfter after (entry ∷ past) n → ((m : ℕ) → (m ≡ n → ⊥) → cause past m entry ≡ because.Nothing) → AllAfter (set sockets n after) (entry ∷ past)
one_goes_on sockets past entry n after all within is nothing m socket there =
    let now = set sockets n after in
    let read : get_or now m socket ≡ socket = get_or_from_slice_get now m socket socket there in
    elim (cases_eq m n) [
      | inl same ↦
          let found : after ≡ socket = sym (get_or-set_same sockets n after socket within) ∙ ap (λ (k : ℕ). get_or now k socket) (sym same) ∙ read in
          let P : Life → Type 0 = λ (l : Life). IsAfter l (entry ∷ past) m in
          let Q : ℕ → Type 0 = λ (k : ℕ). IsAfter after (entry ∷ past) k in
          subst P found (subst Q (sym same) is)
      | inr other ↦
          let in_list : m < length sockets = omega (arith, slice_get_within now m socket there, length-set sockets n after) in
          let before : slice_get sockets m ≡ Some socket =
          slice_get-get_or sockets m socket in_list
          ∙ ap (λ (l : Life). Some l) (sym (get_or-set_other sockets n m after socket other) ∙ read) in
          stays socket past entry m (all m socket before) (nothing m other)
    ]
