-- The two directions of a socket after a link event of it.
use Rattle.std.proofs.Common.{◌≡◌, ℕ, ◌+◌, Bool, true, false, cond, List, [], ◌∷◌, ◌++◌, length, append-nil, inl, inr, refl, sym, ap, ◌∙◌, arith}
use Rattle.std.proofs.lemmas.Bool.{cases_Bool, cond-true, cond-false}
use Rattle.chip_sheet.specs.declared.event.Addr.{Addr}
use Rattle.chip_sheet.specs.declared.event.Entry.TheVariants.{Link}
use Rattle.chip_sheet.specs.declared.event.LinkEntry.{LinkEntry}
use Rattle.chip_sheet.specs.declared.event.LinkEntry.TheVariants.{Refused, TimedOut, Took, Got, Datagram, Ended, Shut, Failed, Dropped}
use Rattle.chip_sheet.specs.declared.socket.Status.{Status}
use Rattle.chip_sheet.specs.declared.socket.Status.TheVariants.{Closed, Init, Established, FinWait, CloseWait, LastAck, Udp}
use Rattle.chip_sheet.specs.declared.socket.Cause.{Cause}
use Rattle.chip_sheet.specs.Past.{Past}
use Rattle.chip_sheet.specs.Life.{Facts, facts_of, life, next, cause, happening, status, lives, is_udp}
use Rattle.chip_sheet.specs.Positions.{has_between}
use Rattle.chip_sheet.specs.Connections.{carries}
use Rattle.chip_sheet.specs.Sending.{passes_end}
use Rattle.chip_sheet.specs.Receiving.{Receiving, after_got}
use Rattle.chip_sheet.specs.Streams.{Starts, makes, ends, taken, put_by, header, has_place, is_open, is_established}
use Rattle.chip_sheet.specs.Windows.{rx_free, is_opened}
use Rattle.chip_sheet.specs.Buffers.{sending, receiving}
use Rattle.chip_sheet.specs.Legal.{Legal}
use Rattle.chip_steps.specs.Steps.{leaves_sent, leaves_got}
use Rattle.chip_steps.proofs.Going.{status_next, own_cause, opened_open, open_not_closed}
use Rattle.chip_steps.proofs.SendingSteps as sends
use Rattle.chip_steps.proofs.ReceivingSteps as receives
use Rattle.chip_steps.proofs.WindowSteps.{taken_is}
use Rattle.chip_links.specs.Noting.{is_told, sent_kept, got_kept}

-- The status after a link event of the socket.
after_link : (past : Past) (n : ℕ) (what : LinkEntry) → status (Link n what ∷ past) n ≡ next (status past n) (happening what) (facts_of (happening what) (life past n))
after_link past n what =
    let at = life past n in
    status_next at (cause past n (Link n what)) ∙ ap (λ (why : Cause). next at.status why (facts_of why at)) (own_cause past n what)

-- What moves no bytes and makes no connection.
told_sent : (what : LinkEntry) (at : Status) → is_told what ≡ true → leaves_sent (happening what) at ≡ true
told_sent Refused at h = refl
told_sent TimedOut at h = refl
told_sent Ended at h = refl
told_sent Shut at h = refl
told_sent Failed at h = refl
told_sent Dropped at h = refl
told_sent what at h = cc

told_got : (what : LinkEntry) (at : Status) → is_told what ≡ true → leaves_got (happening what) at ≡ true
told_got Refused at h = refl
told_got TimedOut at h = refl
told_got Ended at h = refl
told_got Shut at h = refl
told_got Failed at h = refl
told_got Dropped at h = refl
told_got what at h = cc

-- It opens no socket.
told_opens : (what : LinkEntry) (at : Status) (facts : Facts) → is_told what ≡ true → is_open (next at (happening what) facts) ≡ true → is_open at ≡ true
told_opens what Established facts t h = refl
told_opens what FinWait facts t h = refl
told_opens what CloseWait facts t h = refl
told_opens what LastAck facts t h = refl
told_opens what Udp facts t h = refl
told_opens Refused at facts t h = h
told_opens TimedOut at facts t h = h
told_opens Ended at facts t h = h
told_opens Shut at facts t h = h
told_opens Failed at facts t h = h
told_opens Dropped at facts t h = h
told_opens what at facts t h = cc

still_open : (past : Past) (n : ℕ) (what : LinkEntry) → is_told what ≡ true → is_open (status (Link n what ∷ past) n) ≡ true → is_open (status (Link n what ∷ past) n) ≡ is_open (status past n)
still_open past n what t live =
    let was = told_opens what (status past n) (facts_of (happening what) (life past n)) t (sym (ap is_open (after_link past n what)) ∙ live) in
    live ∙ sym was

pub told_sends : (starts : Starts) (past : Past) (n : ℕ) (what : LinkEntry) → is_told what ≡ true
    → sending starts (Link n what ∷ past) n ≡ sent_kept (is_open (status (Link n what ∷ past) n)) (sending starts past n)
told_sends starts past n what t =
    let live = is_open (status (Link n what ∷ past) n) in
    let left = ap (λ (why : Cause). leaves_sent why (status past n)) (own_cause past n what) ∙ told_sent what (status past n) t in
    let s = sending starts past n in
    elim (cases_Bool live) [
      | inl so ↦ sends.stays starts past (Link n what) n refl left (still_open past n what t so) ∙ sym (ap (λ (b : Bool). sent_kept b s) so)
      | inr not_so ↦ sends.empties starts past (Link n what) n refl left not_so ∙ sym (ap (λ (b : Bool). sent_kept b s) not_so)
    ]

pub told_receives : (starts : Starts) (past : Past) (n : ℕ) (what : LinkEntry) → is_told what ≡ true
    → receiving starts (Link n what ∷ past) n ≡ got_kept (is_open (status (Link n what ∷ past) n)) (receiving starts past n)
told_receives starts past n what t =
    let live = is_open (status (Link n what ∷ past) n) in
    let left = ap (λ (why : Cause). leaves_got why (status past n)) (own_cause past n what) ∙ told_got what (status past n) t in
    let g = receiving starts past n in
    elim (cases_Bool live) [
      | inl so ↦ receives.stays starts past (Link n what) n refl left (still_open past n what t so) ∙ sym (ap (λ (b : Bool). got_kept b g) so)
      | inr not_so ↦ receives.empties starts past (Link n what) n refl left not_so ∙ sym (ap (λ (b : Bool). got_kept b g) not_so)
    ]

-- What moves bytes changes no status.
carried_next : (what : LinkEntry) (at : Status) (facts : Facts) → carries what ≡ true → next at (happening what) facts ≡ at
carried_next (Took count) Closed facts h = refl
carried_next (Took count) Init facts h = refl
carried_next (Took count) at facts h = refl
carried_next (Got bytes) Closed facts h = refl
carried_next (Got bytes) Init facts h = refl
carried_next (Got bytes) at facts h = refl
carried_next (Datagram from body) Closed facts h = refl
carried_next (Datagram from body) Init facts h = refl
carried_next (Datagram from body) at facts h = refl
carried_next what at facts h = cc

same_open : (past : Past) (n : ℕ) (what : LinkEntry) → carries what ≡ true → is_open (status (Link n what ∷ past) n) ≡ is_open (status past n)
same_open past n what h = ap is_open (after_link past n what ∙ carried_next what (status past n) (facts_of (happening what) (life past n)) h)

pub took_receives : (starts : Starts) (past : Past) (n count : ℕ) → receiving starts (Link n (Took count) ∷ past) n ≡ receiving starts past n
took_receives starts past n count =
    receives.stays starts past (Link n (Took count)) n refl (ap (λ (why : Cause). leaves_got why (status past n)) (own_cause past n (Took count))) (same_open past n (Took count) refl)

pub got_sends : (starts : Starts) (past : Past) (n : ℕ) (bytes : List ℕ) → sending starts (Link n (Got bytes) ∷ past) n ≡ sending starts past n
got_sends starts past n bytes =
    sends.stays starts past (Link n (Got bytes)) n refl (ap (λ (why : Cause). leaves_sent why (status past n)) (own_cause past n (Got bytes))) (same_open past n (Got bytes) refl)

pub datagram_sends : (starts : Starts) (past : Past) (n : ℕ) (from : Addr) (body : List ℕ) → sending starts (Link n (Datagram from body) ∷ past) n ≡ sending starts past n
datagram_sends starts past n from body =
    sends.stays starts past (Link n (Datagram from body)) n refl (ap (λ (why : Cause). leaves_sent why (status past n)) (own_cause past n (Datagram from body)))
    (same_open past n (Datagram from body) refl)

-- The end of a SEND is passed.
pub passes_is : (starts : Starts) (past : Past) (n count : ℕ) → Legal starts past → is_open (status past n) ≡ true
    → let before = taken past n (lives past n) in passes_end (sending starts past n) count ≡ has_between before (before + count) (ends starts past n (lives past n))
passes_is starts past n count legal live =
    let is = (taken_is starts past n legal live).1 in
    let opened = opened_open past n (open_not_closed (status past n) live) in
    λ i. has_between (is i) (is i + count) (cond-true (is_opened past n) (ends starts past n (lives past n)) [] opened i)

-- The bytes that are put.
pub put_established : (at : Status) (free : ℕ) (bytes : List ℕ) → is_established at ≡ true → put_by at free (Got bytes) ≡ bytes
put_established Established free bytes h = refl
put_established at free bytes h = cc

pub put_nothing : (at : Status) (free : ℕ) (bytes : List ℕ) → is_established at ≡ false → put_by at free (Got bytes) ≡ []
put_nothing Established free bytes h = cc
put_nothing at free bytes h = refl

pub put_udp : (at : Status) (free : ℕ) (from : Addr) (body : List ℕ) → is_udp at ≡ true → has_place (length body) free ≡ true → put_by at free (Datagram from body) ≡ header from (length body) ++ body
put_udp Udp free from body h place = cond-true (has_place (length body) free) (header from (length body) ++ body) [] place
put_udp at free from body h place = cc

pub put_full : (at : Status) (free : ℕ) (from : Addr) (body : List ℕ) → has_place (length body) free ≡ false → put_by at free (Datagram from body) ≡ []
put_full Udp free from body place = cond-false (has_place (length body) free) (header from (length body) ++ body) [] place
put_full at free from body place = refl

pub put_elsewhere : (at : Status) (free : ℕ) (from : Addr) (body : List ℕ) → is_udp at ≡ false → put_by at free (Datagram from body) ≡ []
put_elsewhere Udp free from body h = cc
put_elsewhere at free from body h = refl

pub got_nothing : (g : Receiving) → after_got g [] ≡ g
got_nothing g =
    let all = append-nil g.got in
    let same : g.unread + 0 ≡ g.unread = omega arith in
    λ i. record g { got = all i; unread = same i }

same_zero : (b : Bool) (x : ℕ) → cond b x x ≡ x
same_zero true x = refl
same_zero false x = refl

abbrev raised_by : Bool → Bool → ℕ
raised_by udp place = cond udp (cond place 4 0) 0

-- A datagram that is not put, for either of the two causes.
pub record Lost (starts : Starts) (past : Past) (n : ℕ) (from : Addr) (body : List ℕ) : Type 0 where
  pub put : put_by (status past n) (rx_free starts past n) (Datagram from body) ≡ []
  pub raised : raised_by (is_udp (status past n)) (has_place (length body) (rx_free starts past n)) ≡ raised_by false false

pub lost_full : (starts : Starts) (past : Past) (n : ℕ) (from : Addr) (body : List ℕ) → has_place (length body) (rx_free starts past n) ≡ false → Lost starts past n from body
lost_full starts past n from body full = record {
  put = put_full (status past n) (rx_free starts past n) from body full;
  raised = ap (λ (b : Bool). cond (is_udp (status past n)) (cond b 4 0) 0) full ∙ same_zero (is_udp (status past n)) 0;
}

pub lost_elsewhere : (starts : Starts) (past : Past) (n : ℕ) (from : Addr) (body : List ℕ) → is_udp (status past n) ≡ false → Lost starts past n from body
lost_elsewhere starts past n from body off = record {
  put = put_elsewhere (status past n) (rx_free starts past n) from body off;
  raised = cond-false (is_udp (status past n)) (cond (has_place (length body) (rx_free starts past n)) 4 0) 0 off;
}

-- What brings no bytes puts none.
pub put_told : (at : Status) (free : ℕ) (what : LinkEntry) → is_told what ≡ true → put_by at free what ≡ []
put_told Established free (Got bytes) h = cc
put_told Udp free (Datagram from body) h = cc
put_told at free what h = refl

pub put_made : (at : Status) (free : ℕ) (what : LinkEntry) → makes what ≡ true → put_by at free what ≡ []
put_made Established free (Got bytes) h = cc
put_made Udp free (Datagram from body) h = cc
put_made at free what h = refl

pub put_took : (at : Status) (free count : ℕ) → put_by at free (Took count) ≡ []
put_took Established free count = refl
put_took Udp free count = refl
put_took at free count = refl
