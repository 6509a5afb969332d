-- What an entry makes of what a socket sends.
use Rattle.std.proofs.Common.{◌≡◌, ◌≤◌, ℕ, ◌+◌, ◌-◌, Bool, true, false, cond, eqb, List, [], ◌∷◌, ◌++◌, length, length-append, None, refl, sym, ap, ◌∙◌, subst, arith}
use Rattle.std.proofs.lemmas.Bool.{cond-true, cond-false, and_from, eq-eqb}
use Rattle.chip_sheet.specs.declared.socket.Status.{Status}
use Rattle.chip_sheet.specs.declared.socket.Status.TheVariants.{Closed, Init, Established, CloseWait, Udp}
use Rattle.chip_sheet.specs.declared.socket.Cause.{Cause}
use Rattle.chip_sheet.specs.declared.socket.Cause.TheVariants as because
use Rattle.chip_sheet.specs.declared.event.Entry.{Entry}
use Rattle.chip_sheet.specs.declared.event.Entry.TheVariants.{Link}
use Rattle.chip_sheet.specs.declared.event.LinkEntry.{LinkEntry}
use Rattle.chip_sheet.specs.declared.event.LinkEntry.TheVariants.{Took}
use Rattle.chip_sheet.specs.declared.phase.Access.TheVariants.{Write}
use Rattle.chip_sheet.specs.Past.{Past}
use Rattle.chip_sheet.specs.Frames.{access_of}
use Rattle.chip_sheet.specs.Blocks.{registers_of, tx_buffer_of}
use Rattle.chip_sheet.specs.Registers.{written_by}
use Rattle.chip_sheet.specs.Positions.{byte_of}
use Rattle.chip_sheet.specs.Sizes.{tx_sizes, tx_size, resizes}
use Rattle.chip_sheet.specs.Life.{Facts, facts_of, life, next, begins, cause, status, lives}
use Rattle.chip_sheet.specs.Sending.{Sending, after_write, after_commit, after_taken, after_empty, after_begin, after_pointer, after_resize}
use Rattle.chip_sheet.specs.Streams.{Starts, sent, sent_by, ends, ends_by, sends, takes_send, range, range_length, taken, is_open, is_of, makes, tx_base, tx_byte, pointer_byte}
use Rattle.chip_sheet.specs.Windows.{flight, is_opened}
use Rattle.chip_sheet.specs.Buffers.{sending}
use Rattle.chip_sheet.specs.Legal.{Legal}
use Rattle.chip_sheet.specs.Quiet.{writes_to}
use Rattle.chip_sheet.proofs.LifeSteps.{fresh_sent, sent_by_fresh}
use Rattle.chip_sheet.proofs.FitLaws.{begun_sent}
use Rattle.chip_sheet.proofs.Within.{taken_within}
use Rattle.chip_sheet.proofs.SizeLaws.{size_kept}
use Rattle.chip_sheet.proofs.Quiet.{no_reset, leaves_life}
use Rattle.chip_steps.specs.Steps.{writes_command_alone, leaves_sent}
use Rattle.chip_steps.proofs.Going.{GoesOn, sent_goes, goes_by, opened_same, lives_same, lives_more, status_next, tx_base_same, pointer_begins, not_made, opened_open, open_not_closed, own_cause, own_life, making, opened_list, no_number, no_list}
use Rattle.chip_sheet.proofs.Quiet.{not_written}
use Rattle.chip_steps.proofs.Writing.{alone, tx_kept, tx_cleared, pointer_kept, pointer_written, registers_alone, resizing_tx, filling}
use Rattle.chip_steps.proofs.Lists.{sent_same, ends_same, taken_same, taken_stays, begun_ends, fresh_ends, ends_by_fresh, bytes_length}

opened_number : (b c : Bool) (x y : ℕ) → b ≡ c → x ≡ y → cond b x 0 ≡ cond c y 0
opened_number b c x y e f = λ i. cond (e i) (f i) 0

-- What is sent by a life that goes on, where these are its new parts.
record Parts (starts : Starts) (past : Past) (entry : Entry) (n : ℕ) (now : Sending) (sent_now ends_now : List ℕ) : Type 0 where
  size : tx_size (entry ∷ past) n ≡ now.size
  tx : (at : ℕ) → tx_byte (entry ∷ past) n at ≡ now.tx at
  sent : sent starts (entry ∷ past) n (lives past n) ≡ sent_now
  flight : flight starts (entry ∷ past) n ≡ now.flight
  ends : ends starts (entry ∷ past) n (lives past n) ≡ ends_now
  wr_high : pointer_byte (entry ∷ past) n 0x24 (byte_of 0 starts.tx) ≡ now.wr_high
  wr_low : pointer_byte (entry ∷ past) n 0x25 (byte_of 1 starts.tx) ≡ now.wr_low

sending_on : (starts : Starts) (past : Past) (entry : Entry) (n : ℕ) (now : Sending) (sent_now ends_now : List ℕ) → GoesOn (cause past n entry) (status past n)
    → Parts starts past entry n now sent_now ends_now
    → sending starts (entry ∷ past) n ≡ record now { base = (sending starts past n).base; sent = cond (is_opened past n) sent_now []; ends = cond (is_opened past n) ends_now [] }
sending_on starts past entry n now sent_now ends_now on parts =
    let opened = opened_same past entry n on in
    let same = lives_same past entry n on.old in
    λ i. record {
      size = parts.size i;
      tx = λ at. parts.tx at i;
      base = opened_number (is_opened (entry ∷ past) n) (is_opened past n) (tx_base starts (entry ∷ past) n (lives (entry ∷ past) n)) (tx_base starts past n (lives past n)) opened (tx_base_same starts past entry n on) i;
      sent = opened_list (is_opened (entry ∷ past) n) (is_opened past n) (sent starts (entry ∷ past) n (lives (entry ∷ past) n)) sent_now opened (ap (sent starts (entry ∷ past) n) same ∙ parts.sent) i;
      flight = parts.flight i;
      ends = opened_list (is_opened (entry ∷ past) n) (is_opened past n) (ends starts (entry ∷ past) n (lives (entry ∷ past) n)) ends_now opened (ap (ends starts (entry ∷ past) n) same ∙ parts.ends) i;
      wr_high = parts.wr_high i;
      wr_low = parts.wr_low i;
    }

-- What is in flight of a life that goes on.
flight_by : (starts : Starts) (past : Past) (entry : Entry) (n s t : ℕ) → lives (entry ∷ past) n ≡ lives past n → length (sent starts (entry ∷ past) n (lives past n)) ≡ s
    → taken (entry ∷ past) n (lives past n) ≡ t → flight starts (entry ∷ past) n ≡ cond (is_open (status (entry ∷ past) n)) (s - t) 0
flight_by starts past entry n s t same sent_is taken_is =
    ap (λ (l : ℕ). cond (is_open (status (entry ∷ past) n)) (length (sent starts (entry ∷ past) n l) - taken (entry ∷ past) n l) 0) same
    ∙ (λ i. cond (is_open (status (entry ∷ past) n)) (sent_is i - taken_is i) 0)

flight_left : (starts : Starts) (past : Past) (entry : Entry) (n : ℕ) → leaves_sent (cause past n entry) (status past n) ≡ true
    → flight starts (entry ∷ past) n ≡ cond (is_open (status (entry ∷ past) n)) (length (sent starts past n (lives past n)) - taken past n (lives past n)) 0
flight_left starts past entry n left =
    flight_by starts past entry n (length (sent starts past n (lives past n))) (taken past n (lives past n)) (lives_same past entry n (sent_goes (cause past n entry) (status past n) left).old)
    (ap length (sent_same starts past entry n (lives past n) left)) (taken_same starts past entry n (lives past n) left)

-- An entry that leaves what was sent, where these are the new parts.
sending_left : (starts : Starts) (past : Past) (entry : Entry) (n : ℕ) (now : Sending) → leaves_sent (cause past n entry) (status past n) ≡ true
    → Parts starts past entry n now (sent starts past n (lives past n)) (ends starts past n (lives past n))
    → sending starts (entry ∷ past) n ≡ record now { base = (sending starts past n).base; sent = (sending starts past n).sent; ends = (sending starts past n).ends }
sending_left starts past entry n now left parts =
    sending_on starts past entry n now (sent starts past n (lives past n)) (ends starts past n (lives past n)) (sent_goes (cause past n entry) (status past n) left) parts

-- A command or a link event that leaves what was sent.
sending_command : (starts : Starts) (past : Past) (entry : Entry) (n out : ℕ) → writes_command_alone (access_of past entry) n ≡ true → leaves_sent (cause past n entry) (status past n) ≡ true
    → flight starts (entry ∷ past) n ≡ out → sending starts (entry ∷ past) n ≡ record (sending starts past n) { flight = out }
sending_command starts past entry n out writes left is =
    let only = alone past entry n writes in
    let on = sent_goes (cause past n entry) (status past n) left in
    sending_left starts past entry n (record (sending starts past n) { flight = out }) left
    (record {
      size = size_kept past entry tx_sizes n only.reset only.tx;
      tx = λ at. tx_kept past entry n at only.reset only.tx only.buffer;
      sent = sent_same starts past entry n (lives past n) left;
      flight = is;
      ends = ends_same starts past entry n (lives past n) left;
      wr_high = pointer_kept past entry n 0x24 (byte_of 0 starts.tx) on only.tx_high;
      wr_low = pointer_kept past entry n 0x25 (byte_of 1 starts.tx) on only.tx_low;
    })

pub stays : (starts : Starts) (past : Past) (entry : Entry) (n : ℕ) → writes_command_alone (access_of past entry) n ≡ true → leaves_sent (cause past n entry) (status past n) ≡ true
    → is_open (status (entry ∷ past) n) ≡ is_open (status past n) → sending starts (entry ∷ past) n ≡ sending starts past n
stays starts past entry n writes left same =
    sending_command starts past entry n (flight starts past n) writes left
    (flight_left starts past entry n left ∙ ap (λ (b : Bool). cond b (length (sent starts past n (lives past n)) - taken past n (lives past n)) 0) same)

pub empties : (starts : Starts) (past : Past) (entry : Entry) (n : ℕ) → writes_command_alone (access_of past entry) n ≡ true → leaves_sent (cause past n entry) (status past n) ≡ true
    → is_open (status (entry ∷ past) n) ≡ false → sending starts (entry ∷ past) n ≡ after_empty (sending starts past n)
empties starts past entry n writes left shut =
    sending_command starts past entry n 0 writes left
    (flight_left starts past entry n left ∙ cond-false (is_open (status (entry ∷ past) n)) (length (sent starts past n (lives past n)) - taken past n (lives past n)) 0 shut)

-- What is nothing for a socket leaves what was sent.
nothing_left : (why : Cause) (at : Status) → why ≡ because.Nothing → leaves_sent why at ≡ true
nothing_left why at h = ap (λ (w : Cause). leaves_sent w at) h

pub unwritten : (starts : Starts) (past : Past) (entry : Entry) (n : ℕ) → cause past n entry ≡ because.Nothing → writes_to (access_of past entry) (registers_of n) ≡ false
    → writes_to (access_of past entry) (tx_buffer_of n) ≡ false → resizes past tx_sizes (access_of past entry) ≡ false → sending starts (entry ∷ past) n ≡ sending starts past n
unwritten starts past entry n nothing registers buffer sizes =
    let left = nothing_left (cause past n entry) (status past n) nothing in
    let on = sent_goes (cause past n entry) (status past n) left in
    let reset = no_reset past entry n nothing in
    sending_left starts past entry n (sending starts past n) left
    (record {
      size = size_kept past entry tx_sizes n reset sizes;
      tx = λ at. tx_kept past entry n at reset sizes buffer;
      sent = sent_same starts past entry n (lives past n) left;
      flight = (leaves_life starts past entry n nothing).flight;
      ends = ends_same starts past entry n (lives past n) left;
      wr_high = pointer_kept past entry n 0x24 (byte_of 0 starts.tx) on (not_written (access_of past entry) (registers_of n) 0x24 registers);
      wr_low = pointer_kept past entry n 0x25 (byte_of 1 starts.tx) on (not_written (access_of past entry) (registers_of n) 0x25 registers);
    })

pub pointer : (starts : Starts) (past : Past) (entry : Entry) (n addr v : ℕ) → cause past n entry ≡ because.Nothing → access_of past entry ≡ Write (registers_of n) addr v
    → resizes past tx_sizes (access_of past entry) ≡ false → sending starts (entry ∷ past) n ≡ after_pointer (sending starts past n) addr v
pointer starts past entry n addr v nothing is sizes =
    let left = nothing_left (cause past n entry) (status past n) nothing in
    let on = sent_goes (cause past n entry) (status past n) left in
    let reset = no_reset past entry n nothing in
    sending_left starts past entry n (after_pointer (sending starts past n) addr v) left
    (record {
      size = size_kept past entry tx_sizes n reset sizes;
      tx = λ at. tx_kept past entry n at reset sizes (registers_alone (access_of past entry) n addr v is);
      sent = sent_same starts past entry n (lives past n) left;
      flight = (leaves_life starts past entry n nothing).flight;
      ends = ends_same starts past entry n (lives past n) left;
      wr_high = pointer_written past entry n addr v 0x24 (byte_of 0 starts.tx) on is;
      wr_low = pointer_written past entry n addr v 0x25 (byte_of 1 starts.tx) on is;
    })

pub resize : (starts : Starts) (past : Past) (entry : Entry) (n : ℕ) → resizes past tx_sizes (access_of past entry) ≡ true
    → sending starts (entry ∷ past) n ≡ after_resize (sending starts past n) (tx_size (entry ∷ past) n)
resize starts past entry n h =
    let it = resizing_tx past entry n h in
    let left = nothing_left (cause past n entry) (status past n) it.nothing in
    let on = sent_goes (cause past n entry) (status past n) left in
    sending_left starts past entry n (after_resize (sending starts past n) (tx_size (entry ∷ past) n)) left
    (record {
      size = refl;
      tx = λ at. tx_cleared past entry n at h;
      sent = sent_same starts past entry n (lives past n) left;
      flight = (leaves_life starts past entry n it.nothing).flight;
      ends = ends_same starts past entry n (lives past n) left;
      wr_high = pointer_kept past entry n 0x24 (byte_of 0 starts.tx) on (it.place 0x24 refl refl);
      wr_low = pointer_kept past entry n 0x25 (byte_of 1 starts.tx) on (it.place 0x25 refl refl);
    })

pub written : (starts : Starts) (past : Past) (entry : Entry) (n addr v : ℕ) → access_of past entry ≡ Write (tx_buffer_of n) addr v
    → sending starts (entry ∷ past) n ≡ after_write (sending starts past n) addr v
written starts past entry n addr v is =
    let it = filling past entry n addr v is in
    let left = nothing_left (cause past n entry) (status past n) it.nothing in
    let on = sent_goes (cause past n entry) (status past n) left in
    let reset = no_reset past entry n it.nothing in
    sending_left starts past entry n (after_write (sending starts past n) addr v) left
    (record {
      size = size_kept past entry tx_sizes n reset it.tx_same;
      tx = it.tx;
      sent = sent_same starts past entry n (lives past n) left;
      flight = (leaves_life starts past entry n it.nothing).flight;
      ends = ends_same starts past entry n (lives past n) left;
      wr_high = pointer_kept past entry n 0x24 (byte_of 0 starts.tx) on (not_written (access_of past entry) (registers_of n) 0x24 it.registers);
      wr_low = pointer_kept past entry n 0x25 (byte_of 1 starts.tx) on (not_written (access_of past entry) (registers_of n) 0x25 it.registers);
    })

-- A SEND.
send_next : (at : Status) (facts : Facts) → sends at ≡ true → is_open (next at because.Send facts) ≡ true
send_next Established facts h = refl
send_next CloseWait facts h = refl
send_next Udp facts h = refl
send_next at facts h = cc

pub sends_open : (at : Status) → sends at ≡ true → is_open at ≡ true
sends_open Established h = refl
sends_open CloseWait h = refl
sends_open Udp h = refl
sends_open at h = cc

more_flying : (fl s t k : ℕ) → t ≤ s → fl ≡ s - t → s + k - t ≡ fl + k
more_flying fl s t k h is = omega (arith, h, is)

pub commits : (starts : Starts) (past : Past) (entry : Entry) (n : ℕ) → Legal starts past → writes_command_alone (access_of past entry) n ≡ true → cause past n entry ≡ because.Send
    → sends (status past n) ≡ true → sending starts (entry ∷ past) n ≡ after_commit (sending starts past n)
commits starts past entry n legal writes why takes =
    let l = lives past n in
    let before = sent starts past n l in
    let count = length before in
    let more = range starts past n count in
    let long = range_length starts past n count in
    let marks = ends starts past n l in
    let only = alone past entry n writes in
    let on = goes_by (cause past n entry) because.Send (status past n) why (record { plain = refl; old = refl }) in
    let here = and_from (sends (status past n)) (eqb l l) takes (eq-eqb l l refl) in
    let sent_is : sent starts (entry ∷ past) n l ≡ before ++ more =
    ap (λ (w : Cause). sent_by starts past n l w before) why ∙ cond-true (takes_send past n l) (before ++ more) before here in
    let ends_is : ends starts (entry ∷ past) n l ≡ marks ++ (count + long) ∷ [] =
    ap (λ (w : Cause). ends_by starts past n l w marks) why ∙ cond-true (takes_send past n l) (marks ++ (count + long) ∷ []) marks here in
    let t = taken past n l in
    let at = life past n in
    let open_now : is_open (status (entry ∷ past) n) ≡ true =
    ap is_open (status_next at (cause past n entry)) ∙ ap (λ (w : Cause). is_open (next at.status w (facts_of w at))) why ∙ send_next at.status (facts_of because.Send at) takes in
    let flying : flight starts past n ≡ count - t = cond-true (is_open (status past n)) (count - t) 0 (sends_open (status past n) takes) in
    let length_is : length (sent starts (entry ∷ past) n l) ≡ count + long =
    ap length sent_is ∙ length-append before more ∙ ap (λ (k : ℕ). count + k) (bytes_length (tx_byte past n) (tx_base starts past n l + count) long) in
    let flight_is : flight starts (entry ∷ past) n ≡ flight starts past n + long =
    flight_by starts past entry n (count + long) t (lives_same past entry n on.old) length_is (taken_stays past entry n l why)
    ∙ cond-true (is_open (status (entry ∷ past) n)) (count + long - t) 0 open_now
    ∙ more_flying (flight starts past n) count t long (taken_within starts past n l legal) flying in
    let now = record (sending starts past n) { flight = flight starts past n + long } in
    let step = sending_on starts past entry n now (before ++ more) (marks ++ (count + long) ∷ []) on
    (record {
      size = size_kept past entry tx_sizes n only.reset only.tx;
      tx = λ addr. tx_kept past entry n addr only.reset only.tx only.buffer;
      sent = sent_is;
      flight = flight_is;
      ends = ends_is;
      wr_high = pointer_kept past entry n 0x24 (byte_of 0 starts.tx) on only.tx_high;
      wr_low = pointer_kept past entry n 0x25 (byte_of 1 starts.tx) on only.tx_low;
    }) in
    let opened = opened_open past n (open_not_closed (status past n) (sends_open (status past n) takes)) in
    let whole : Bool → Sending = λ (b : Bool). record now { base = cond b (tx_base starts past n l) 0; sent = cond b before []; flight = flight starts past n; ends = cond b marks [] } in
    let grown : Bool → Sending = λ (b : Bool). record now { base = cond b (tx_base starts past n l) 0; sent = cond b (before ++ more) []; ends = cond b (marks ++ (count + long) ∷ []) [] } in
    step ∙ subst (λ (b : Bool). grown b ≡ after_commit (whole b)) (sym opened) refl

-- The link took bytes.
took_next : (at : Status) (count : ℕ) (facts : Facts) → next at (because.Took count) facts ≡ at
took_next Closed count facts = refl
took_next Init count facts = refl
took_next at count facts = refl

fewer : (b : Bool) (s t k : ℕ) → cond b (s - (t + k)) 0 ≡ cond b (s - t) 0 - k
fewer true s t k = omega arith
fewer false s t k = omega arith

pub took : (starts : Starts) (past : Past) (n count : ℕ) → sending starts (Link n (Took count) ∷ past) n ≡ after_taken (sending starts past n) count
took starts past n count =
    let entry = Link n (Took count) in
    let why = own_cause past n (Took count) in
    let l = lives past n in
    let t = taken past n l in
    let s = length (sent starts past n l) in
    let at = life past n in
    let on = goes_by (cause past n entry) (because.Took count) (status past n) why (record { plain = refl; old = refl }) in
    let sent_is : sent starts (entry ∷ past) n l ≡ sent starts past n l = ap (λ (w : Cause). sent_by starts past n l w (sent starts past n l)) why in
    let ends_is : ends starts (entry ∷ past) n l ≡ ends starts past n l = ap (λ (w : Cause). ends_by starts past n l w (ends starts past n l)) why in
    let taken_is : taken (entry ∷ past) n l ≡ t + count = cond-true (is_of past n n l) (t + count) t (own_life past n) in
    let same : is_open (status (entry ∷ past) n) ≡ is_open (status past n) =
    ap is_open (status_next at (cause past n entry) ∙ ap (λ (w : Cause). next at.status w (facts_of w at)) why ∙ took_next at.status count (facts_of (because.Took count) at)) in
    let flight_is : flight starts (entry ∷ past) n ≡ flight starts past n - count =
    flight_by starts past entry n s (t + count) (lives_same past entry n on.old) (ap length sent_is) taken_is
    ∙ ap (λ (b : Bool). cond b (s - (t + count)) 0) same
    ∙ fewer (is_open (status past n)) s t count in
    sending_on starts past entry n (after_taken (sending starts past n) count) (sent starts past n l) (ends starts past n l) on
    (record {
      size = refl;
      tx = λ addr. tx_kept past entry n addr refl refl refl;
      sent = sent_is;
      flight = flight_is;
      ends = ends_is;
      wr_high = pointer_kept past entry n 0x24 (byte_of 0 starts.tx) on refl;
      wr_low = pointer_kept past entry n 0x25 (byte_of 1 starts.tx) on refl;
    })

-- A life begins.
none_flies : (x : List ℕ) (t : ℕ) → x ≡ [] → length x - t ≡ 0
none_flies x t h = let e = ap length h in omega (arith, e)

pub opens : (starts : Starts) (past : Past) (entry : Entry) (n : ℕ) → writes_command_alone (access_of past entry) n ≡ true → begins (cause past n entry) (status past n) ≡ true
    → sending starts (entry ∷ past) n ≡ after_begin (sending starts past n) 0
opens starts past entry n writes new =
    let only = alone past entry n writes in
    let l = lives (entry ∷ past) n in
    let opened = is_opened (entry ∷ past) n in
    let is = lives_more past entry n new in
    let nothing : sent starts (entry ∷ past) n l ≡ [] = ap (sent starts (entry ∷ past) n) is ∙ begun_sent starts past entry n in
    let nowhere : ends starts (entry ∷ past) n l ≡ [] = ap (ends starts (entry ∷ past) n) is ∙ begun_ends starts past entry n in
    λ i. record {
      size = size_kept past entry tx_sizes n only.reset only.tx i;
      tx = λ at. tx_kept past entry n at only.reset only.tx only.buffer i;
      base = no_number opened (tx_base starts (entry ∷ past) n l) (ap (λ (b : Bool). cond b starts.tx 0) (not_made past entry n new)) i;
      sent = no_list opened (sent starts (entry ∷ past) n l) nothing i;
      flight = no_number (is_open (status (entry ∷ past) n)) (length (sent starts (entry ∷ past) n l) - taken (entry ∷ past) n l) (none_flies (sent starts (entry ∷ past) n l) (taken (entry ∷ past) n l) nothing) i;
      ends = no_list opened (ends starts (entry ∷ past) n l) nowhere i;
      wr_high = pointer_begins (cause past n entry) (status past n) (byte_of 0 starts.tx) (written_by (access_of past entry) (registers_of n) 0x24) (pointer_byte past n 0x24 (byte_of 0 starts.tx)) new i;
      wr_low = pointer_begins (cause past n entry) (status past n) (byte_of 1 starts.tx) (written_by (access_of past entry) (registers_of n) 0x25) (pointer_byte past n 0x25 (byte_of 1 starts.tx)) new i;
    }

-- A connection is made.
pub connects : (starts : Starts) (past : Past) (n : ℕ) (what : LinkEntry) → Legal starts (Link n what ∷ past) → makes what ≡ true
    → sending starts (Link n what ∷ past) n ≡ after_begin (sending starts past n) starts.tx
connects starts past n what legal made =
    let entry = Link n what in
    let it = making starts past n what legal made in
    let l = lives (entry ∷ past) n in
    let opened = is_opened (entry ∷ past) n in
    let nothing : sent starts (entry ∷ past) n l ≡ [] =
    ap (sent starts (entry ∷ past) n) it.same ∙ sent_by_fresh starts past n (lives past n) (cause past n entry) (sent starts past n (lives past n)) it.fresh ∙ fresh_sent starts past n it.fresh in
    let nowhere : ends starts (entry ∷ past) n l ≡ [] =
    ap (ends starts (entry ∷ past) n) it.same ∙ ends_by_fresh starts past n (lives past n) (cause past n entry) (ends starts past n (lives past n)) it.fresh ∙ fresh_ends starts past n it.fresh in
    λ i. record {
      size = tx_size past n;
      tx = λ at. tx_kept past entry n at refl refl refl i;
      base = (ap (λ (b : Bool). cond b (tx_base starts (entry ∷ past) n l) 0) it.opened ∙ ap (λ (b : Bool). cond b starts.tx 0) it.made) i;
      sent = no_list opened (sent starts (entry ∷ past) n l) nothing i;
      flight = no_number (is_open (status (entry ∷ past) n)) (length (sent starts (entry ∷ past) n l) - taken (entry ∷ past) n l) (none_flies (sent starts (entry ∷ past) n l) (taken (entry ∷ past) n l) nothing) i;
      ends = no_list opened (ends starts (entry ∷ past) n l) nowhere i;
      wr_high = it.pointer (byte_of 0 starts.tx) None (pointer_byte past n 0x24 (byte_of 0 starts.tx)) i;
      wr_low = it.pointer (byte_of 1 starts.tx) None (pointer_byte past n 0x25 (byte_of 1 starts.tx)) i;
    }
