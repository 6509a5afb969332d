-- The counts after an event of the bus, and after a link event.
use Rattle.std.proofs.Common.{◌≡◌, ◌≢◌, ℕ, ◌+◌, ◌*◌, ◌/◌, ◌%◌, Bool, true, false, cond, eqb, List, ◌∷◌, length, inl, inr, refl, sym, ap, ◌∙◌, arith, get_or}
use Rattle.std.proofs.lemmas.Bool.{cases_eq, cond-true, cond-false, eq-eqb, ne_eqb}
use Rattle.board_bus.specs.declared.event.BusEvent.{BusEvent}
use Rattle.board_bus.specs.declared.event.BusAnswer.{BusAnswer}
use Rattle.chip_sheet.specs.declared.event.Entry.{Entry}
use Rattle.chip_sheet.specs.declared.event.Entry.TheVariants.{Bus, Link}
use Rattle.chip_sheet.specs.declared.event.LinkEntry.{LinkEntry}
use Rattle.chip_sheet.specs.declared.socket.Cause.{Cause}
use Rattle.chip_sheet.specs.declared.socket.Cause.TheVariants as because
use Rattle.chip_sheet.specs.Past.{Past}
use Rattle.chip_sheet.specs.Blocks.{registers_of}
use Rattle.chip_sheet.specs.Life.{cause, status, lives}
use Rattle.chip_sheet.specs.Streams.{Starts, sent, sends, range_length, taken_by, put_by}
use Rattle.chip_sheet.specs.Windows.{rx_free}
use Rattle.chip_sheet.specs.LinkCalls.{fits}
use Rattle.chip_sheet.specs.Connections.{sent_in_all, taken_in_all, got_in_all}
use Rattle.chip_sheet.specs.Legal.{Legal}
use Rattle.chip_steps.proofs.OverLives.{no_send}
use Rattle.chip_steps.proofs.Growing.{by_send, sent_stays, taken_by_link, taken_other_link, taken_bus, got_by_link, got_other_link, got_bus}
use Rattle.chip_parts.specs.Passing.{passed}
use Rattle.chip_core.specs.declared.counts.Counts.{Counts}
use Rattle.chip_core.specs.Counting.{IsCounted, AllCounted, with_sent, with_link}

-- What an entry passes to SEND is what it adds to all that was sent.
by_cause : (starts : Starts) (past : Past) (entry : Entry) (n : ℕ) (why : Cause) → cause past n entry ≡ why → sent_in_all starts (entry ∷ past) n ≡ sent_in_all starts past n + passed starts past n why
by_cause starts past entry n because.Send why = by (sends (status past n)) refl
  where
    by : (b : Bool) → sends (status past n) ≡ b → sent_in_all starts (entry ∷ past) n ≡ sent_in_all starts past n + cond b (range_length starts past n (length (sent starts past n (lives past n)))) 0
    by true takes = by_send starts past entry n why takes
    by false takes = let same = sent_stays starts past entry n (λ send. takes) in omega (arith, same)
by_cause starts past entry n other why = let same = sent_stays starts past entry n (λ send. cc) in omega (arith, same)

sent_passed : (starts : Starts) (past : Past) (e : BusEvent) (a : BusAnswer) (n k : ℕ) → passed starts past n (cause past n (Bus e a)) ≡ k → sent_in_all starts (Bus e a ∷ past) n ≡ sent_in_all starts past n + k
sent_passed starts past e a n k is = by_cause starts past (Bus e a) n (cause past n (Bus e a)) refl ∙ ap (λ (x : ℕ). sent_in_all starts past n + x) is

counted_bus : (starts : Starts) (past : Past) (e : BusEvent) (a : BusAnswer) (n k : ℕ) (old new : Counts) → Legal starts past → passed starts past n (cause past n (Bus e a)) ≡ k → new ≡ with_sent old k → IsCounted starts old past n
    → IsCounted starts new (Bus e a ∷ past) n
counted_bus starts past e a n k old new legal is now h = record {
  sent = ap (λ (c : Counts). c.sent) now ∙ ap (λ (x : ℕ). x + k) h.sent ∙ sym (sent_passed starts past e a n k is);
  taken = ap (λ (c : Counts). c.taken) now ∙ h.taken ∙ sym (taken_bus starts past e a n legal);
  got = ap (λ (c : Counts). c.got) now ∙ h.got ∙ sym (got_bus starts past e a n);
}

nothing_more : (c : Counts) → c ≡ with_sent c 0
nothing_more c = let zero : c.sent ≡ c.sent + 0 = omega arith in λ i. record { sent = zero i; taken = c.taken; got = c.got }

-- An event that passes nothing to SEND leaves all counts.
pub counted_quiet : (starts : Starts) (past : Past) (e : BusEvent) (a : BusAnswer) (counts : List Counts) → Legal starts past → ((n : ℕ) → passed starts past n (cause past n (Bus e a)) ≡ 0) → AllCounted starts counts past
    → AllCounted starts counts (Bus e a ∷ past)
counted_quiet starts past e a counts legal none h = λ n other below.
    counted_bus starts past e a n 0 (get_or counts n other) (get_or counts n other) legal (none n) (nothing_more (get_or counts n other)) (h n other below)

-- The select bits of a socket's register block.
own_block : (bits n : ℕ) → bits % 4 ≡ 1 → n ≡ bits / 4 → eqb bits (registers_of n) ≡ true
own_block bits n one is = eq-eqb bits (4 * n + 1) (omega (arith, one, is))

other_block : (bits n : ℕ) → (n ≡ bits / 4 → ⊥) → eqb bits (registers_of n) ≡ false
other_block bits n away = ne_eqb bits (4 * n + 1) (λ (e : bits ≡ 4 * n + 1). away (omega (arith, e)))

no_registers : (bits n : ℕ) → (bits % 4 ≡ 1 → ⊥) → eqb bits (registers_of n) ≡ false
no_registers bits n no_ = ne_eqb bits (4 * n + 1) (λ (e : bits ≡ 4 * n + 1). no_ (omega (arith, e)))

-- A write to the registers of a socket passes so many bytes to its SEND.
pub counted_write : (starts : Starts) (past : Past) (e : BusEvent) (a : BusAnswer) (bits k : ℕ) (old new : List Counts) → Legal starts past
    → ((n : ℕ) → passed starts past n (cause past n (Bus e a)) ≡ cond (eqb bits (registers_of n)) k 0) → bits % 4 ≡ 1
    → ((other : Counts) → get_or new (bits / 4) other ≡ with_sent (get_or old (bits / 4) other) k) → ((n : ℕ) (other : Counts) → n ≢ bits / 4 → get_or new n other ≡ get_or old n other)
    → AllCounted starts old past → AllCounted starts new (Bus e a ∷ past)
counted_write starts past e a bits k old new legal passes one own others h = λ n other below.
    elim (cases_eq n (bits / 4)) [
      | inl here ↦
          counted_bus starts past e a n k (get_or old n other) (get_or new n other) legal (passes n ∙ cond-true (eqb bits (registers_of n)) k 0 (own_block bits n one here))
          (ap (λ (m : ℕ). get_or new m other) here ∙ own other ∙ ap (λ (m : ℕ). with_sent (get_or old m other) k) (sym here)) (h n other below)
      | inr away ↦
          counted_bus starts past e a n 0 (get_or old n other) (get_or new n other) legal (passes n ∙ cond-false (eqb bits (registers_of n)) k 0 (other_block bits n away))
          (others n other away ∙ nothing_more (get_or old n other)) (h n other below)
    ]

-- A write to another block passes none.
pub counted_elsewhere : (starts : Starts) (past : Past) (e : BusEvent) (a : BusAnswer) (bits k : ℕ) (counts : List Counts) → Legal starts past
    → ((n : ℕ) → passed starts past n (cause past n (Bus e a)) ≡ cond (eqb bits (registers_of n)) k 0) → (bits % 4 ≡ 1 → ⊥)
    → AllCounted starts counts past → AllCounted starts counts (Bus e a ∷ past)
counted_elsewhere starts past e a bits k counts legal passes no_ h =
    counted_quiet starts past e a counts legal (λ n. passes n ∙ cond-false (eqb bits (registers_of n)) k 0 (no_registers bits n no_)) h

-- A link event.
sent_link : (starts : Starts) (past : Past) (m n : ℕ) (what : LinkEntry) → sent_in_all starts (Link m what ∷ past) n ≡ sent_in_all starts past n
sent_link starts past m n what = sent_stays starts past (Link m what) n (λ send. absurd (no_send (eqb m n) what send))

pub counted_link : (starts : Starts) (past : Past) (sn took came : ℕ) (what : LinkEntry) (old new : List Counts) → Legal starts past → fits starts past sn what ≡ true
    → took ≡ taken_by what → came ≡ length (put_by (status past sn) (rx_free starts past sn) what)
    → ((other : Counts) → get_or new sn other ≡ with_link (get_or old sn other) took came) → ((n : ℕ) (other : Counts) → n ≢ sn → get_or new n other ≡ get_or old n other)
    → AllCounted starts old past → AllCounted starts new (Link sn what ∷ past)
counted_link starts past sn took came what old new legal fit took_is came_is own others h = λ n other below.
    elim (cases_eq n sn) [
      | inl here ↦
          let was = h n other below in
          let now : get_or new n other ≡ with_link (get_or old n other) took came =
          ap (λ (m : ℕ). get_or new m other) here ∙ own other ∙ ap (λ (m : ℕ). with_link (get_or old m other) took came) (sym here) in
          let taken = ap (λ (m : ℕ). taken_in_all (Link m what ∷ past) n) (sym here) ∙ taken_by_link starts past n what legal (ap (λ (m : ℕ). fits starts past m what) here ∙ fit) in
          let got = ap (λ (m : ℕ). got_in_all starts (Link m what ∷ past) n) (sym here) ∙ got_by_link starts past n what in
          let came_here = came_is ∙ ap (λ (m : ℕ). length (put_by (status past m) (rx_free starts past m) what)) (sym here) in
          record {
            sent = ap (λ (c : Counts). c.sent) now ∙ was.sent ∙ sym (sent_link starts past sn n what);
            taken = ap (λ (c : Counts). c.taken) now ∙ (λ i. was.taken i + took_is i) ∙ sym taken;
            got = ap (λ (c : Counts). c.got) now ∙ (λ i. was.got i + came_here i) ∙ sym got;
          }
      | inr away ↦
          let was = h n other below in
          let now = others n other away in
          record {
            sent = ap (λ (c : Counts). c.sent) now ∙ was.sent ∙ sym (sent_link starts past sn n what);
            taken = ap (λ (c : Counts). c.taken) now ∙ was.taken ∙ sym (taken_other_link starts past sn n what legal (λ e. away (sym e)));
            got = ap (λ (c : Counts). c.got) now ∙ was.got ∙ sym (got_other_link starts past sn n what (λ e. away (sym e)));
          }
    ]
