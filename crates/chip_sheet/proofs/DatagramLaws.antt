-- A datagram in flight is taken whole.
use Rattle.std.proofs.Common.{◌≡◌, ℕ, Bool, true, false, cond, ltb, Option, None, Some, inl, inr, ap}
use Rattle.std.proofs.lemmas.Bool.{eqb-true, or_cases}
use Rattle.chip_sheet.specs.declared.event.Addr.{Addr}
use Rattle.chip_sheet.specs.declared.event.ConnId.{ConnId}
use Rattle.chip_sheet.specs.declared.event.LinkEntry.TheVariants.{Took}
use Rattle.chip_sheet.specs.declared.socket.Status.{Status}
use Rattle.chip_sheet.specs.declared.socket.Status.TheVariants.{Udp}
use Rattle.chip_sheet.specs.declared.socket.Due.{Due}
use Rattle.chip_sheet.specs.declared.socket.Due.TheVariants as due
use Rattle.chip_sheet.specs.Past.{Past}
use Rattle.chip_sheet.specs.Life.{life, lives, status, is_udp}
use Rattle.chip_sheet.specs.Streams.{Starts}
use Rattle.chip_sheet.specs.Windows.{flight, rx_free}
use Rattle.chip_sheet.specs.LinkCalls.{outgoing, incoming, outgoing_in, incoming_in, connection, kept_address, kept_port, answers_call, fits}

-- A datagram is taken whole.
out_whole : (at : Status) (c : ConnId) (to : Addr) (port fl : ℕ) (shut : Bool) (flight free k : ℕ) → is_udp at ≡ true → answers_call (outgoing_in at c to port fl shut) flight free (Took k) ≡ true → k ≡ flight
out_whole Udp c to port fl shut flight free k udp h = by (ltb 0 fl) h
  where
    by : (b : Bool) → answers_call (cond b (due.SendTo c port to) due.Nothing) flight free (Took k) ≡ true → k ≡ flight
    by true h = eqb-true k flight h
    by false h = cc
out_whole at c to port fl shut flight free k udp h = cc

in_whole : (at : Status) (c : ConnId) (port free0 : ℕ) (ended : Bool) (flight free k : ℕ) → is_udp at ≡ true → answers_call (incoming_in at c port free0 ended) flight free (Took k) ≡ true → k ≡ flight
in_whole Udp c port free0 ended flight free k udp h = cc
in_whole at c port free0 ended flight free k udp h = cc

old_out_whole : (old : Option ℕ) (n : ℕ) (call : Due) (flight free k : ℕ) → (answers_call call flight free (Took k) ≡ true → k ≡ flight)
    → answers_call (elim old as (λ o. Due) [ None ↦ call | Some life ↦ due.Drop (connection n life) ]) flight free (Took k) ≡ true → k ≡ flight
old_out_whole None n call flight free k few h = few h
old_out_whole (Some life) n call flight free k few h = cc

old_in_whole : (old : Option ℕ) (call : Due) (flight free k : ℕ) → (answers_call call flight free (Took k) ≡ true → k ≡ flight)
    → answers_call (elim old as (λ o. Due) [ None ↦ call | Some life ↦ due.Nothing ]) flight free (Took k) ≡ true → k ≡ flight
old_in_whole None call flight free k few h = few h
old_in_whole (Some life) call flight free k few h = cc

pub taken_whole : (starts : Starts) (past : Past) (n k : ℕ) → status past n ≡ Udp → fits starts past n (Took k) ≡ true → k ≡ flight starts past n
taken_whole starts past n k udp h =
    let at = life past n in
    let fl = flight starts past n in
    let fr = rx_free starts past n in
    let c = connection n at.lives in
    let is = ap is_udp udp in
    elim (or_cases (answers_call (outgoing starts past n) fl fr (Took k)) (answers_call (incoming starts past n) fl fr (Took k)) h) [
      | inl out ↦ old_out_whole at.old n (outgoing_in at.status c (kept_address past n) (kept_port past n) fl at.shut) fl fr k (out_whole at.status c (kept_address past n) (kept_port past n) fl at.shut fl fr k is) out
      | inr in_ ↦ old_in_whole at.old (incoming_in at.status c (kept_port past n) fr at.ended) fl fr k (in_whole at.status c (kept_port past n) fr at.ended fl fr k is) in_
    ]
