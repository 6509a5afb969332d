-- How a life goes on through an entry, and how one begins.
use Rattle.std.proofs.Common.{◌≡◌, ℕ, ◌+◌, Bool, true, false, not, ◌&&◌, ◌||◌, cond, eqb, List, [], ◌∷◌, Option, inl, inr, refl, sym, ap, ◌∙◌, subst, arith}
use Rattle.std.specs.Option.{unwrap_or}
use Rattle.std.proofs.lemmas.Bool.{cond-true, cond-false, and_left, and_right, and_from, or_left, eq-eqb, cases_Bool}
use Rattle.chip_sheet.specs.declared.socket.Status.{Status}
use Rattle.chip_sheet.specs.declared.socket.Status.TheVariants.{Closed}
use Rattle.chip_sheet.specs.declared.socket.Cause.{Cause}
use Rattle.chip_sheet.specs.declared.socket.Cause.TheVariants as because
use Rattle.chip_sheet.specs.declared.event.Entry.{Entry}
use Rattle.chip_sheet.specs.declared.event.Entry.TheVariants.{Bus, Link, Rest}
use Rattle.chip_sheet.specs.declared.event.LinkEntry.{LinkEntry}
use Rattle.chip_sheet.specs.declared.event.LinkEntry.TheVariants.{Linked, Accepted}
use Rattle.chip_sheet.specs.Past.{Past}
use Rattle.chip_sheet.specs.Life.{Life, Facts, facts_of, life, life_after, lives_on, new_life, next, begins, cause, happening, status, lives, is_closed}
use Rattle.chip_sheet.specs.Streams.{Starts, is_open, is_of, makes, is_made, tx_base, rx_base, pointer_after}
use Rattle.chip_sheet.specs.Windows.{is_opened, opened_after}
use Rattle.chip_sheet.specs.LinkCalls.{fits}
use Rattle.chip_sheet.specs.Legal.{Legal}
use Rattle.chip_sheet.proofs.LifeSteps.{life_cases, is_fresh}
use Rattle.chip_sheet.proofs.MadeLaws.{made_other, unborn_made, made_fresh}
use Rattle.chip_steps.specs.Steps.{leaves_sent, leaves_got}

-- What happens is no reset, and makes no connection.
abbrev pub is_plain : Cause → Bool
is_plain because.Reset = false
is_plain because.Linked = false
is_plain because.Accepted = false
is_plain why = true

-- The life goes on.
pub record GoesOn (why : Cause) (at : Status) : Type 0 where
  pub plain : is_plain why ≡ true
  pub old : begins why at ≡ false

pub goes_by : (why other : Cause) (at : Status) → why ≡ other → GoesOn other at → GoesOn why at
goes_by why other at is on = subst (λ (w : Cause). GoesOn w at) (sym is) on

pub not_true : (b : Bool) → not b ≡ true → b ≡ false
not_true true h = sym h
not_true false h = refl

pub sent_goes : (why : Cause) (at : Status) → leaves_sent why at ≡ true → GoesOn why at
sent_goes because.Reset at h = cc
sent_goes because.Linked at h = cc
sent_goes because.Accepted at h = cc
sent_goes (because.Took count) at h = cc
sent_goes because.Send at h = record { plain = refl; old = refl }
sent_goes why at h = record { plain = refl; old = not_true (begins why at) h }

pub got_goes : (why : Cause) (at : Status) → leaves_got why at ≡ true → GoesOn why at
got_goes because.Reset at h = cc
got_goes because.Linked at h = cc
got_goes because.Accepted at h = cc
got_goes because.Got at h = record { plain = refl; old = refl }
got_goes (because.Datagram count) at h = cc
got_goes because.Receive at h = record { plain = refl; old = refl }
got_goes why at h = record { plain = refl; old = not_true (begins why at) h }

opened_on : (why : Cause) (at : Status) (before : Bool) → GoesOn why at → opened_after why at before ≡ before
opened_on because.Reset at before h = let p = h.plain in cc
opened_on why at before h = ap (λ (b : Bool). b || before) h.old

pub opened_same : (past : Past) (entry : Entry) (n : ℕ) → GoesOn (cause past n entry) (status past n) → is_opened (entry ∷ past) n ≡ is_opened past n
opened_same past entry n h = opened_on (cause past n entry) (status past n) (is_opened past n) h

pub status_next : (at : Life) (why : Cause) → (life_after at why).status ≡ next at.status why (facts_of why at)
status_next at why = life_cases (λ (now : Life). now.status ≡ next at.status why (facts_of why at)) at why refl refl

pub lives_same : (past : Past) (entry : Entry) (n : ℕ) → begins (cause past n entry) (status past n) ≡ false → lives (entry ∷ past) n ≡ lives past n
lives_same past entry n old =
    let at = life past n in
    let why = cause past n entry in
    let after = next at.status why (facts_of why at) in
    ap (λ (now : Life). now.lives) (cond-false (begins why at.status) (new_life at after) (lives_on at why after) old)

pub lives_more : (past : Past) (entry : Entry) (n : ℕ) → begins (cause past n entry) (status past n) ≡ true → lives (entry ∷ past) n ≡ lives past n + 1
lives_more past entry n new =
    let at = life past n in
    let why = cause past n entry in
    let after = next at.status why (facts_of why at) in
    ap (λ (now : Life). now.lives) (cond-true (begins why at.status) (new_life at after) (lives_on at why after) new)

plain_makes : (what : LinkEntry) → is_plain (happening what) ≡ true → makes what ≡ false
plain_makes Linked h = cc
plain_makes (Accepted from) h = cc
plain_makes what h = refl

made_link : (b same : Bool) (what : LinkEntry) → is_plain (cond b (happening what) because.Nothing) ≡ true → (makes what && (b && same)) ≡ false
made_link true same what h = and_left (makes what) same (plain_makes what h)
made_link false same what h = and_right (makes what) false refl

pub made_same : (past : Past) (entry : Entry) (n l : ℕ) → is_plain (cause past n entry) ≡ true → is_made (entry ∷ past) n l ≡ is_made past n l
made_same past (Bus e a) n l h = refl
made_same past Rest n l h = refl
made_same past (Link m what) n l h = ap (λ (b : Bool). b || is_made past n l) (made_link (eqb m n) (eqb (lives past n) l) what h)

pub tx_base_same : (starts : Starts) (past : Past) (entry : Entry) (n : ℕ) → GoesOn (cause past n entry) (status past n)
    → tx_base starts (entry ∷ past) n (lives (entry ∷ past) n) ≡ tx_base starts past n (lives past n)
tx_base_same starts past entry n h =
    ap (λ (l : ℕ). cond (is_made (entry ∷ past) n l) starts.tx 0) (lives_same past entry n h.old)
    ∙ ap (λ (b : Bool). cond b starts.tx 0) (made_same past entry n (lives past n) h.plain)

pub rx_base_same : (starts : Starts) (past : Past) (entry : Entry) (n : ℕ) → GoesOn (cause past n entry) (status past n)
    → rx_base starts (entry ∷ past) n (lives (entry ∷ past) n) ≡ rx_base starts past n (lives past n)
rx_base_same starts past entry n h =
    ap (λ (l : ℕ). cond (is_made (entry ∷ past) n l) starts.rx 0) (lives_same past entry n h.old)
    ∙ ap (λ (b : Bool). cond b starts.rx 0) (made_same past entry n (lives past n) h.plain)

-- A pointer, where the life goes on, is written or stays.
pub pointer_goes : (why : Cause) (at : Status) (start : ℕ) (byte : Option ℕ) (before : ℕ) → GoesOn why at → pointer_after why at start byte before ≡ unwrap_or byte before
pointer_goes because.Reset at start byte before h = let p = h.plain in cc
pointer_goes because.Linked at start byte before h = let p = h.plain in cc
pointer_goes because.Accepted at start byte before h = let p = h.plain in cc
pointer_goes why at start byte before h = cond-false (begins why at) 0 (unwrap_or byte before) h.old

-- Where a life begins.
pub pointer_begins : (why : Cause) (at : Status) (start : ℕ) (byte : Option ℕ) (before : ℕ) → begins why at ≡ true → pointer_after why at start byte before ≡ 0
pointer_begins because.OpenTcp at start byte before h = cond-true (begins because.OpenTcp at) 0 (unwrap_or byte before) h
pointer_begins because.OpenUdp at start byte before h = cond-true (begins because.OpenUdp at) 0 (unwrap_or byte before) h
pointer_begins why at start byte before h = cc

pub opened_begins : (why : Cause) (at : Status) (before : Bool) → begins why at ≡ true → opened_after why at before ≡ true
opened_begins because.OpenTcp at before h = ap (λ (b : Bool). b || before) h
opened_begins because.OpenUdp at before h = ap (λ (b : Bool). b || before) h
opened_begins why at before h = cc

pub not_made : (past : Past) (entry : Entry) (n : ℕ) → begins (cause past n entry) (status past n) ≡ true → is_made (entry ∷ past) n (lives (entry ∷ past) n) ≡ false
not_made past entry n new =
    ap (is_made (entry ∷ past) n) (lives_more past entry n new)
    ∙ made_other past entry n (lives past n + 1) (λ e. omega (arith, e))
    ∙ unborn_made past n (lives past n + 1) (omega arith)

-- A socket that is not closed was opened since the last reset.
opened_step : (at : Status) (why : Cause) (facts : Facts) (before : Bool) → is_closed (next at why facts) ≡ false → (is_closed at ≡ false → before ≡ true) → opened_after why at before ≡ true
opened_step Closed because.OpenTcp facts before h was = refl
opened_step Closed because.OpenUdp facts before h was = refl
opened_step Closed because.Reset facts before h was = cc
opened_step Closed why facts before h was = cc
opened_step at because.Reset facts before h was = cc
opened_step at why facts before h was = was refl

pub opened_open : (past : Past) (n : ℕ) → is_closed (status past n) ≡ false → is_opened past n ≡ true
opened_open [] n h = cc
opened_open (entry ∷ past) n h =
    let at = life past n in
    let why = cause past n entry in
    opened_step at.status why (facts_of why at) (is_opened past n) (sym (ap is_closed (status_next at why)) ∙ h) (opened_open past n)

pub open_not_closed : (at : Status) → is_open at ≡ true → is_closed at ≡ false
open_not_closed Closed h = cc
open_not_closed at h = refl

pub fresh_not_closed : (at : Status) → is_fresh at ≡ true → is_closed at ≡ false
fresh_not_closed Closed h = cc
fresh_not_closed at h = refl

-- What a link event is for its own socket, in its present life.
pub own_cause : (past : Past) (n : ℕ) (what : LinkEntry) → cause past n (Link n what) ≡ happening what
own_cause past n what = cond-true (eqb n n) (happening what) because.Nothing (eq-eqb n n refl)

pub own_life : (past : Past) (n : ℕ) → is_of past n n (lives past n) ≡ true
own_life past n = and_from (eqb n n) (eqb (lives past n) (lives past n)) (eq-eqb n n refl) (eq-eqb (lives past n) (lives past n) refl)

-- A connection is made of a socket that was not connected yet.
pub record Making (starts : Starts) (past : Past) (n : ℕ) (what : LinkEntry) : Type 0 where
  pub fresh : is_fresh (status past n) ≡ true
  pub same : lives (Link n what ∷ past) n ≡ lives past n
  pub opened : is_opened (Link n what ∷ past) n ≡ true
  pub made : is_made (Link n what ∷ past) n (lives (Link n what ∷ past) n) ≡ true
  pub pointer : (start : ℕ) (byte : Option ℕ) (before : ℕ) → pointer_after (cause past n (Link n what)) (status past n) start byte before ≡ start

-- What makes a connection.
abbrev links : Cause → Bool
links because.Linked = true
links because.Accepted = true
links why = false

makes_links : (what : LinkEntry) → makes what ≡ true → links (happening what) ≡ true
makes_links Linked h = refl
makes_links (Accepted from) h = refl
makes_links what h = cc

links_begin : (why : Cause) (at : Status) → links why ≡ true → begins why at ≡ false
links_begin because.Linked at h = refl
links_begin because.Accepted at h = refl
links_begin why at h = cc

links_opened : (why : Cause) (at : Status) (before : Bool) → links why ≡ true → opened_after why at before ≡ before
links_opened because.Linked at before h = refl
links_opened because.Accepted at before h = refl
links_opened why at before h = cc

links_pointer : (why : Cause) (at : Status) (start : ℕ) (byte : Option ℕ) (before : ℕ) → links why ≡ true → pointer_after why at start byte before ≡ start
links_pointer because.Linked at start byte before h = refl
links_pointer because.Accepted at start byte before h = refl
links_pointer why at start byte before h = cc

is_young : (starts : Starts) (past : Past) (n : ℕ) (what : LinkEntry) → fits starts past n what ≡ true → makes what ≡ true → is_fresh (status past n) ≡ true
is_young starts past n what may makes_it =
    elim (cases_Bool (is_fresh (status past n))) [
      | inl young ↦ young
      | inr old ↦ absurd (made_fresh starts past n what makes_it may old)
    ]

pub making : (starts : Starts) (past : Past) (n : ℕ) (what : LinkEntry) → Legal starts (Link n what ∷ past) → makes what ≡ true → Making starts past n what
making starts past n what legal makes_it =
    let young = is_young starts past n what legal.0.1 makes_it in
    let why = ap links (own_cause past n what) ∙ makes_links what makes_it in
    let same = lives_same past (Link n what) n (links_begin (cause past n (Link n what)) (status past n) why) in
    record {
      fresh = young;
      same = same;
      opened = links_opened (cause past n (Link n what)) (status past n) (is_opened past n) why ∙ opened_open past n (fresh_not_closed (status past n) young);
      made = ap (is_made (Link n what ∷ past) n) same
          ∙ or_left (makes what && is_of past n n (lives past n)) (is_made past n (lives past n)) (and_from (makes what) (is_of past n n (lives past n)) makes_it (own_life past n));
      pointer = λ start byte before. links_pointer (cause past n (Link n what)) (status past n) start byte before why;
    }

-- What is shown of a socket only where it is open.
pub opened_list : (b c : Bool) (x y : List ℕ) → b ≡ c → x ≡ y → cond b x [] ≡ cond c y []
opened_list b c x y e f = λ i. cond (e i) (f i) []

pub no_number : (b : Bool) (x : ℕ) → x ≡ 0 → cond b x 0 ≡ 0
no_number true x h = h
no_number false x h = refl

pub no_list : (b : Bool) (x : List ℕ) → x ≡ [] → cond b x [] ≡ []
no_list true x h = h
no_list false x h = refl
