-- What an entry makes of what a socket receives.
use Rattle.std.proofs.Common.{◌≡◌, ◌≤◌, ℕ, ◌+◌, ◌-◌, Bool, true, false, ◌&&◌, cond, eqb, List, [], ◌∷◌, ◌++◌, length, length-append, None, refl, sym, ap, ◌∙◌, subst, arith}
use Rattle.std.proofs.lemmas.Bool.{cond-true, cond-false, and_from, eq-eqb}
use Rattle.chip_sheet.specs.declared.event.Addr.{Addr}
use Rattle.chip_sheet.specs.declared.socket.Status.{Status}
use Rattle.chip_sheet.specs.declared.socket.Status.TheVariants.{Closed, Init}
use Rattle.chip_sheet.specs.declared.socket.Cause.{Cause}
use Rattle.chip_sheet.specs.declared.socket.Cause.TheVariants as because
use Rattle.chip_sheet.specs.declared.event.Entry.{Entry}
use Rattle.chip_sheet.specs.declared.event.Entry.TheVariants.{Link}
use Rattle.chip_sheet.specs.declared.event.LinkEntry.{LinkEntry}
use Rattle.chip_sheet.specs.declared.event.LinkEntry.TheVariants.{Got, Datagram}
use Rattle.chip_sheet.specs.declared.phase.Access.TheVariants.{Write}
use Rattle.chip_sheet.specs.Past.{Past}
use Rattle.chip_sheet.specs.Frames.{access_of}
use Rattle.chip_sheet.specs.Blocks.{registers_of}
use Rattle.chip_sheet.specs.Registers.{written_by}
use Rattle.chip_sheet.specs.Positions.{byte_of, pair, ahead}
use Rattle.chip_sheet.specs.Sizes.{rx_sizes, rx_size, resizes}
use Rattle.chip_sheet.specs.Life.{Facts, facts_of, life, next, begins, cause, status, lives}
use Rattle.chip_sheet.specs.Receiving.{Receiving, after_got, after_release, after_empty, after_begin, after_pointer, after_resize}
use Rattle.chip_sheet.specs.Streams.{Starts, got, released, released_by, release_length, put_by, free_behind, is_open, is_of, makes, rx_base, pointer_byte}
use Rattle.chip_sheet.specs.Windows.{unread, rx_free, is_opened}
use Rattle.chip_sheet.specs.Buffers.{receiving}
use Rattle.chip_sheet.specs.Legal.{Legal}
use Rattle.chip_sheet.specs.Quiet.{writes_to}
use Rattle.chip_sheet.proofs.LifeSteps.{fresh_got, got_fresh}
use Rattle.chip_sheet.proofs.FitLaws.{begun_got, free_open}
use Rattle.chip_sheet.proofs.Within.{released_within}
use Rattle.chip_sheet.proofs.SizeLaws.{size_kept}
use Rattle.chip_sheet.proofs.Quiet.{no_reset, leaves_life}
use Rattle.chip_steps.specs.Steps.{writes_command_alone, leaves_got}
use Rattle.chip_steps.proofs.Going.{GoesOn, got_goes, goes_by, opened_same, lives_same, lives_more, status_next, rx_base_same, pointer_begins, not_made, opened_open, open_not_closed, own_cause, own_life, making, opened_list, no_number, no_list}
use Rattle.chip_sheet.proofs.Quiet.{not_written}
use Rattle.chip_steps.proofs.Writing.{alone, pointer_kept, pointer_written, resizing_rx}
use Rattle.chip_steps.proofs.Lists.{got_same, released_same, got_stays}

opened_number : (b c : Bool) (x y : ℕ) → b ≡ c → x ≡ y → cond b x 0 ≡ cond c y 0
opened_number b c x y e f = λ i. cond (e i) (f i) 0

-- What is received by a life that goes on, where these are its new parts.
record Parts (starts : Starts) (past : Past) (entry : Entry) (n : ℕ) (now : Receiving) (got_now : List ℕ) : Type 0 where
  size : rx_size (entry ∷ past) n ≡ now.size
  got : got starts (entry ∷ past) n (lives past n) ≡ got_now
  unread : unread starts (entry ∷ past) n ≡ now.unread
  rd_high : pointer_byte (entry ∷ past) n 0x28 (byte_of 0 starts.rx) ≡ now.rd_high
  rd_low : pointer_byte (entry ∷ past) n 0x29 (byte_of 1 starts.rx) ≡ now.rd_low

receiving_on : (starts : Starts) (past : Past) (entry : Entry) (n : ℕ) (now : Receiving) (got_now : List ℕ) → GoesOn (cause past n entry) (status past n)
    → Parts starts past entry n now got_now
    → receiving starts (entry ∷ past) n ≡ record now { base = (receiving starts past n).base; got = cond (is_opened past n) got_now [] }
receiving_on starts past entry n now got_now on parts =
    let opened = opened_same past entry n on in
    let same = lives_same past entry n on.old in
    λ i. record {
      size = parts.size i;
      base = opened_number (is_opened (entry ∷ past) n) (is_opened past n) (rx_base starts (entry ∷ past) n (lives (entry ∷ past) n)) (rx_base starts past n (lives past n)) opened (rx_base_same starts past entry n on) i;
      got = opened_list (is_opened (entry ∷ past) n) (is_opened past n) (got starts (entry ∷ past) n (lives (entry ∷ past) n)) got_now opened (ap (got starts (entry ∷ past) n) same ∙ parts.got) i;
      unread = parts.unread i;
      rd_high = parts.rd_high i;
      rd_low = parts.rd_low i;
    }

-- What is unread of a life that goes on.
unread_by : (starts : Starts) (past : Past) (entry : Entry) (n g r : ℕ) → lives (entry ∷ past) n ≡ lives past n → length (got starts (entry ∷ past) n (lives past n)) ≡ g
    → released starts (entry ∷ past) n (lives past n) ≡ r → unread starts (entry ∷ past) n ≡ cond (is_open (status (entry ∷ past) n)) (g - r) 0
unread_by starts past entry n g r same got_is released_is =
    ap (λ (l : ℕ). cond (is_open (status (entry ∷ past) n)) (length (got starts (entry ∷ past) n l) - released starts (entry ∷ past) n l) 0) same
    ∙ (λ i. cond (is_open (status (entry ∷ past) n)) (got_is i - released_is i) 0)

unread_left : (starts : Starts) (past : Past) (entry : Entry) (n : ℕ) → leaves_got (cause past n entry) (status past n) ≡ true
    → unread starts (entry ∷ past) n ≡ cond (is_open (status (entry ∷ past) n)) (length (got starts past n (lives past n)) - released starts past n (lives past n)) 0
unread_left starts past entry n left =
    unread_by starts past entry n (length (got starts past n (lives past n))) (released starts past n (lives past n)) (lives_same past entry n (got_goes (cause past n entry) (status past n) left).old)
    (ap length (got_same starts past entry n (lives past n) left)) (released_same starts past entry n (lives past n) left)

-- An entry that leaves what was received, where these are the new parts.
receiving_left : (starts : Starts) (past : Past) (entry : Entry) (n : ℕ) (now : Receiving) → leaves_got (cause past n entry) (status past n) ≡ true
    → Parts starts past entry n now (got starts past n (lives past n)) → receiving starts (entry ∷ past) n ≡ record now { base = (receiving starts past n).base; got = (receiving starts past n).got }
receiving_left starts past entry n now left parts =
    receiving_on starts past entry n now (got starts past n (lives past n)) (got_goes (cause past n entry) (status past n) left) parts

-- A command or a link event that leaves what was received.
receiving_command : (starts : Starts) (past : Past) (entry : Entry) (n there : ℕ) → writes_command_alone (access_of past entry) n ≡ true → leaves_got (cause past n entry) (status past n) ≡ true
    → unread starts (entry ∷ past) n ≡ there → receiving starts (entry ∷ past) n ≡ record (receiving starts past n) { unread = there }
receiving_command starts past entry n there writes left is =
    let only = alone past entry n writes in
    let on = got_goes (cause past n entry) (status past n) left in
    receiving_left starts past entry n (record (receiving starts past n) { unread = there }) left
    (record {
      size = size_kept past entry rx_sizes n only.reset only.rx;
      got = got_same starts past entry n (lives past n) left;
      unread = is;
      rd_high = pointer_kept past entry n 0x28 (byte_of 0 starts.rx) on only.rx_high;
      rd_low = pointer_kept past entry n 0x29 (byte_of 1 starts.rx) on only.rx_low;
    })

pub stays : (starts : Starts) (past : Past) (entry : Entry) (n : ℕ) → writes_command_alone (access_of past entry) n ≡ true → leaves_got (cause past n entry) (status past n) ≡ true
    → is_open (status (entry ∷ past) n) ≡ is_open (status past n) → receiving starts (entry ∷ past) n ≡ receiving starts past n
stays starts past entry n writes left same =
    receiving_command starts past entry n (unread starts past n) writes left
    (unread_left starts past entry n left ∙ ap (λ (b : Bool). cond b (length (got starts past n (lives past n)) - released starts past n (lives past n)) 0) same)

pub empties : (starts : Starts) (past : Past) (entry : Entry) (n : ℕ) → writes_command_alone (access_of past entry) n ≡ true → leaves_got (cause past n entry) (status past n) ≡ true
    → is_open (status (entry ∷ past) n) ≡ false → receiving starts (entry ∷ past) n ≡ after_empty (receiving starts past n)
empties starts past entry n writes left shut =
    receiving_command starts past entry n 0 writes left
    (unread_left starts past entry n left ∙ cond-false (is_open (status (entry ∷ past) n)) (length (got starts past n (lives past n)) - released starts past n (lives past n)) 0 shut)

-- What is nothing for a socket leaves what was received.
nothing_left : (why : Cause) (at : Status) → why ≡ because.Nothing → leaves_got why at ≡ true
nothing_left why at h = ap (λ (w : Cause). leaves_got w at) h

pub unwritten : (starts : Starts) (past : Past) (entry : Entry) (n : ℕ) → cause past n entry ≡ because.Nothing → writes_to (access_of past entry) (registers_of n) ≡ false
    → resizes past rx_sizes (access_of past entry) ≡ false → receiving starts (entry ∷ past) n ≡ receiving starts past n
unwritten starts past entry n nothing registers sizes =
    let left = nothing_left (cause past n entry) (status past n) nothing in
    let on = got_goes (cause past n entry) (status past n) left in
    receiving_left starts past entry n (receiving starts past n) left
    (record {
      size = size_kept past entry rx_sizes n (no_reset past entry n nothing) sizes;
      got = got_same starts past entry n (lives past n) left;
      unread = (leaves_life starts past entry n nothing).unread;
      rd_high = pointer_kept past entry n 0x28 (byte_of 0 starts.rx) on (not_written (access_of past entry) (registers_of n) 0x28 registers);
      rd_low = pointer_kept past entry n 0x29 (byte_of 1 starts.rx) on (not_written (access_of past entry) (registers_of n) 0x29 registers);
    })

pub pointer : (starts : Starts) (past : Past) (entry : Entry) (n addr v : ℕ) → cause past n entry ≡ because.Nothing → access_of past entry ≡ Write (registers_of n) addr v
    → resizes past rx_sizes (access_of past entry) ≡ false → receiving starts (entry ∷ past) n ≡ after_pointer (receiving starts past n) addr v
pointer starts past entry n addr v nothing is sizes =
    let left = nothing_left (cause past n entry) (status past n) nothing in
    let on = got_goes (cause past n entry) (status past n) left in
    receiving_left starts past entry n (after_pointer (receiving starts past n) addr v) left
    (record {
      size = size_kept past entry rx_sizes n (no_reset past entry n nothing) sizes;
      got = got_same starts past entry n (lives past n) left;
      unread = (leaves_life starts past entry n nothing).unread;
      rd_high = pointer_written past entry n addr v 0x28 (byte_of 0 starts.rx) on is;
      rd_low = pointer_written past entry n addr v 0x29 (byte_of 1 starts.rx) on is;
    })

pub resize : (starts : Starts) (past : Past) (entry : Entry) (n : ℕ) → resizes past rx_sizes (access_of past entry) ≡ true
    → receiving starts (entry ∷ past) n ≡ after_resize (receiving starts past n) (rx_size (entry ∷ past) n)
resize starts past entry n h =
    let it = resizing_rx past entry n h in
    let left = nothing_left (cause past n entry) (status past n) it.nothing in
    let on = got_goes (cause past n entry) (status past n) left in
    receiving_left starts past entry n (after_resize (receiving starts past n) (rx_size (entry ∷ past) n)) left
    (record {
      size = refl;
      got = got_same starts past entry n (lives past n) left;
      unread = (leaves_life starts past entry n it.nothing).unread;
      rd_high = pointer_kept past entry n 0x28 (byte_of 0 starts.rx) on (it.place 0x28 refl refl);
      rd_low = pointer_kept past entry n 0x29 (byte_of 1 starts.rx) on (it.place 0x29 refl refl);
    })

-- A RECV.
pub receive_next : (at : Status) (facts : Facts) → next at because.Receive facts ≡ at
receive_next Closed facts = refl
receive_next Init facts = refl
receive_next at facts = refl

open_number : (b : Bool) (x : ℕ) → b ≡ true → cond b x 0 ≡ x
open_number b x h = cond-true b x 0 h

less_there : (g r k u : ℕ) → u ≡ g - r → g - (r + k) ≡ u - k
less_there g r k u is = omega (arith, is)

back_to : (g r u : ℕ) → r ≤ g → u ≡ g - r → g - u ≡ r
back_to g r u h is = omega (arith, h, is)

pub releases : (starts : Starts) (past : Past) (entry : Entry) (n : ℕ) → Legal starts past → writes_command_alone (access_of past entry) n ≡ true → cause past n entry ≡ because.Receive
    → is_open (status past n) ≡ true → receiving starts (entry ∷ past) n ≡ after_release (receiving starts past n)
releases starts past entry n legal writes why live =
    let l = lives past n in
    let all = got starts past n l in
    let r = released starts past n l in
    let len = release_length starts past n r in
    let only = alone past entry n writes in
    let on = goes_by (cause past n entry) because.Receive (status past n) why (record { plain = refl; old = refl }) in
    let here = and_from (is_open (status past n)) (eqb l l) live (eq-eqb l l refl) in
    let released_is : released starts (entry ∷ past) n l ≡ r + len =
    ap (λ (w : Cause). released_by starts past n l w r) why ∙ cond-true (is_open (status past n) && eqb l l) (r + len) r here in
    let at = life past n in
    let open_now : is_open (status (entry ∷ past) n) ≡ true =
    ap is_open (status_next at (cause past n entry) ∙ ap (λ (w : Cause). next at.status w (facts_of w at)) why ∙ receive_next at.status (facts_of because.Receive at)) ∙ live in
    let there : unread starts past n ≡ length all - r = cond-true (is_open (status past n)) (length all - r) 0 live in
    let got_is = got_stays starts past entry n l why in
    let unread_is : unread starts (entry ∷ past) n ≡ unread starts past n - len =
    unread_by starts past entry n (length all) (r + len) (lives_same past entry n on.old) (ap length got_is) released_is
    ∙ cond-true (is_open (status (entry ∷ past) n)) (length all - (r + len)) 0 open_now
    ∙ less_there (length all) r len (unread starts past n) there in
    let now = record (receiving starts past n) { unread = unread starts past n - len } in
    let step = receiving_on starts past entry n now all on
    (record {
      size = size_kept past entry rx_sizes n only.reset only.rx;
      got = got_is;
      unread = unread_is;
      rd_high = pointer_kept past entry n 0x28 (byte_of 0 starts.rx) on only.rx_high;
      rd_low = pointer_kept past entry n 0x29 (byte_of 1 starts.rx) on only.rx_low;
    }) in
    let opened = opened_open past n (open_not_closed (status past n) live) in
    let u = unread starts past n in
    let base = rx_base starts past n l in
    let pointer_is = pair (receiving starts past n).rd_high (receiving starts past n).rd_low in
    let whole : Bool → Receiving = λ (b : Bool). record now { base = cond b base 0; got = cond b all []; unread = u } in
    let less : Bool → ℕ → Receiving = λ (b : Bool) (k : ℕ). record now { base = cond b base 0; got = cond b all []; unread = u - ahead (base + k) pointer_is } in
    let first : less true r ≡ less true (length all - u) = ap (less true) (sym (back_to (length all) r u (released_within starts past n l legal) there)) in
    step ∙ subst (λ (b : Bool). less b r ≡ after_release (whole b)) (sym opened) first

-- Bytes or a datagram came in.
got_next : (at : Status) (facts : Facts) → next at because.Got facts ≡ at
got_next Closed facts = refl
got_next Init facts = refl
got_next at facts = refl

datagram_next : (at : Status) (count : ℕ) (facts : Facts) → next at (because.Datagram count) facts ≡ at
datagram_next Closed count facts = refl
datagram_next Init count facts = refl
datagram_next at count facts = refl

more_there : (g r k u : ℕ) → r ≤ g → u ≡ g - r → g + k - r ≡ u + k
more_there g r k u h is = omega (arith, h, is)

comes : (starts : Starts) (past : Past) (n : ℕ) (what : LinkEntry) → Legal starts past → is_open (status past n) ≡ true → GoesOn (cause past n (Link n what)) (status past n)
    → released starts (Link n what ∷ past) n (lives past n) ≡ released starts past n (lives past n) → is_open (status (Link n what ∷ past) n) ≡ true
    → receiving starts (Link n what ∷ past) n ≡ after_got (receiving starts past n) (put_by (status past n) (rx_free starts past n) what)
comes starts past n what legal live on released_is open_now =
    let entry = Link n what in
    let l = lives past n in
    let all = got starts past n l in
    let r = released starts past n l in
    let more = put_by (status past n) (rx_free starts past n) what in
    let got_is : got starts (entry ∷ past) n l ≡ all ++ more =
    cond-true (is_of past n n l) (all ++ put_by (status past n) (free_behind starts past n l (length all)) what) all (own_life past n)
    ∙ ap (λ (free : ℕ). all ++ put_by (status past n) free what) (free_open starts past n live) in
    let there : unread starts past n ≡ length all - r = cond-true (is_open (status past n)) (length all - r) 0 live in
    let unread_is : unread starts (entry ∷ past) n ≡ unread starts past n + length more =
    unread_by starts past entry n (length all + length more) r (lives_same past entry n on.old) (ap length got_is ∙ length-append all more) released_is
    ∙ cond-true (is_open (status (entry ∷ past) n)) (length all + length more - r) 0 open_now
    ∙ more_there (length all) r (length more) (unread starts past n) (released_within starts past n l legal) there in
    let now = record (receiving starts past n) { unread = unread starts past n + length more } in
    let step = receiving_on starts past entry n now (all ++ more) on
    (record {
      size = refl;
      got = got_is;
      unread = unread_is;
      rd_high = pointer_kept past entry n 0x28 (byte_of 0 starts.rx) on refl;
      rd_low = pointer_kept past entry n 0x29 (byte_of 1 starts.rx) on refl;
    }) in
    let opened = opened_open past n (open_not_closed (status past n) live) in
    let u = unread starts past n in
    let whole : Bool → Receiving = λ (b : Bool). record now { got = cond b all []; unread = u } in
    let longer : Bool → Receiving = λ (b : Bool). record now { got = cond b (all ++ more) []; unread = u + length more } in
    step ∙ subst (λ (b : Bool). longer b ≡ after_got (whole b) more) (sym opened) refl

pub gets : (starts : Starts) (past : Past) (n : ℕ) (bytes : List ℕ) → Legal starts past → is_open (status past n) ≡ true
    → receiving starts (Link n (Got bytes) ∷ past) n ≡ after_got (receiving starts past n) (put_by (status past n) (rx_free starts past n) (Got bytes))
gets starts past n bytes legal live =
    let why = own_cause past n (Got bytes) in
    let at = life past n in
    comes starts past n (Got bytes) legal live
    (goes_by (cause past n (Link n (Got bytes))) because.Got (status past n) why (record { plain = refl; old = refl }))
    (ap (λ (w : Cause). released_by starts past n (lives past n) w (released starts past n (lives past n))) why)
    (ap is_open (status_next at (cause past n (Link n (Got bytes))) ∙ ap (λ (w : Cause). next at.status w (facts_of w at)) why ∙ got_next at.status (facts_of because.Got at)) ∙ live)

pub gets_datagram : (starts : Starts) (past : Past) (n : ℕ) (from : Addr) (body : List ℕ) → Legal starts past → is_open (status past n) ≡ true
    → receiving starts (Link n (Datagram from body) ∷ past) n ≡ after_got (receiving starts past n) (put_by (status past n) (rx_free starts past n) (Datagram from body))
gets_datagram starts past n from body legal live =
    let what = Datagram from body in
    let why = own_cause past n what in
    let at = life past n in
    let count = length body in
    comes starts past n what legal live
    (goes_by (cause past n (Link n what)) (because.Datagram count) (status past n) why (record { plain = refl; old = refl }))
    (ap (λ (w : Cause). released_by starts past n (lives past n) w (released starts past n (lives past n))) why)
    (ap is_open (status_next at (cause past n (Link n what)) ∙ ap (λ (w : Cause). next at.status w (facts_of w at)) why ∙ datagram_next at.status count (facts_of (because.Datagram count) at)) ∙ live)

-- A life begins.
none_there : (x : List ℕ) (r : ℕ) → x ≡ [] → length x - r ≡ 0
none_there x r h = let e = ap length h in omega (arith, e)

pub opens : (starts : Starts) (past : Past) (entry : Entry) (n : ℕ) → writes_command_alone (access_of past entry) n ≡ true → begins (cause past n entry) (status past n) ≡ true
    → receiving starts (entry ∷ past) n ≡ after_begin (receiving starts past n) 0
opens starts past entry n writes new =
    let only = alone past entry n writes in
    let l = lives (entry ∷ past) n in
    let opened = is_opened (entry ∷ past) n in
    let nothing : got starts (entry ∷ past) n l ≡ [] = ap (got starts (entry ∷ past) n) (lives_more past entry n new) ∙ begun_got starts past entry n in
    λ i. record {
      size = size_kept past entry rx_sizes n only.reset only.rx i;
      base = no_number opened (rx_base starts (entry ∷ past) n l) (ap (λ (b : Bool). cond b starts.rx 0) (not_made past entry n new)) i;
      got = no_list opened (got starts (entry ∷ past) n l) nothing i;
      unread = no_number (is_open (status (entry ∷ past) n)) (length (got starts (entry ∷ past) n l) - released starts (entry ∷ past) n l) (none_there (got starts (entry ∷ past) n l) (released starts (entry ∷ past) n l) nothing) i;
      rd_high = pointer_begins (cause past n entry) (status past n) (byte_of 0 starts.rx) (written_by (access_of past entry) (registers_of n) 0x28) (pointer_byte past n 0x28 (byte_of 0 starts.rx)) new i;
      rd_low = pointer_begins (cause past n entry) (status past n) (byte_of 1 starts.rx) (written_by (access_of past entry) (registers_of n) 0x29) (pointer_byte past n 0x29 (byte_of 1 starts.rx)) new i;
    }

-- A connection is made.
pub connects : (starts : Starts) (past : Past) (n : ℕ) (what : LinkEntry) → Legal starts (Link n what ∷ past) → makes what ≡ true
    → receiving starts (Link n what ∷ past) n ≡ after_begin (receiving starts past n) starts.rx
connects starts past n what legal made =
    let entry = Link n what in
    let it = making starts past n what legal made in
    let l = lives (entry ∷ past) n in
    let opened = is_opened (entry ∷ past) n in
    let nothing : got starts (entry ∷ past) n l ≡ [] =
    ap (got starts (entry ∷ past) n) it.same ∙ got_fresh starts past entry n (lives past n) it.fresh ∙ fresh_got starts past n it.fresh in
    λ i. record {
      size = rx_size past n;
      base = (ap (λ (b : Bool). cond b (rx_base starts (entry ∷ past) n l) 0) it.opened ∙ ap (λ (b : Bool). cond b starts.rx 0) it.made) i;
      got = no_list opened (got starts (entry ∷ past) n l) nothing i;
      unread = no_number (is_open (status (entry ∷ past) n)) (length (got starts (entry ∷ past) n l) - released starts (entry ∷ past) n l) (none_there (got starts (entry ∷ past) n l) (released starts (entry ∷ past) n l) nothing) i;
      rd_high = it.pointer (byte_of 0 starts.rx) None (pointer_byte past n 0x28 (byte_of 0 starts.rx)) i;
      rd_low = it.pointer (byte_of 1 starts.rx) None (pointer_byte past n 0x29 (byte_of 1 starts.rx)) i;
    }
