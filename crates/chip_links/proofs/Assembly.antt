-- The parts after a link event of a socket.
use Rattle.std.proofs.Common.{◌≡◌, ◌<◌, ℕ, Bool, true, List, [], ◌∷◌, refl, sym, subst, ap, ◌∙◌}
use Rattle.chip_sheet.specs.declared.event.Entry.TheVariants.{Link}
use Rattle.chip_sheet.specs.declared.event.LinkEntry.{LinkEntry}
use Rattle.chip_sheet.specs.Past.{Past}
use Rattle.chip_sheet.specs.Life.{status}
use Rattle.chip_sheet.specs.Streams.{Starts, makes, is_open}
use Rattle.chip_sheet.specs.LinkCalls.{fits}
use Rattle.chip_sheet.specs.Legal.{Legal}
use Rattle.chip_sheet.specs.Sending as sends
use Rattle.chip_sheet.specs.Receiving as receives
use Rattle.chip_sheet.specs.Sending.{Sending}
use Rattle.chip_sheet.specs.Receiving.{Receiving}
use Rattle.chip_sheet.specs.Buffers.{sending, receiving}
use Rattle.chip_steps.proofs.Elsewhere.{other_link}
use Rattle.chip_steps.proofs.SendingSteps as sending_steps
use Rattle.chip_steps.proofs.ReceivingSteps as receiving_steps
use Rattle.ring_mem.specs.declared.rings.Rings.{Rings}
use Rattle.ring_mem.specs.declared.sends.Sends.{Sends}
use Rattle.ring_mem.specs.declared.receives.Receives.{Receives}
use Rattle.ring_mem.specs.TxHolds as tx_of
use Rattle.ring_mem.specs.RxHolds as rx_of
use Rattle.ring_mem.specs.Buffers.{TxHolds, RxHolds, OthersSend, OthersReceive, SameTx, SameRx, tx_kilobytes, rx_kilobytes}
use Rattle.chip_parts.specs.declared.parts.Parts.{Parts}
use Rattle.chip_parts.specs.Holding.{Holds}
use Rattle.chip_parts.proofs.Assembly.{one_steps}
use Rattle.chip_links.specs.Noting.{is_told, sent_kept, got_kept, Noted}
use Rattle.chip_links.proofs.Directions.{told_sends, told_receives, got_nothing}

-- The buffers of the socket go from these to those, which leaves the other seven.
pub record Carried (starts : Starts) (past : Past) (what : LinkEntry) (sn : ℕ) (old new : Rings) : Type 0 where
  pub tx : TxHolds old sn (sending starts past sn) → TxHolds new sn (sending starts (Link sn what ∷ past) sn)
  pub rx : RxHolds old sn (receiving starts past sn) → RxHolds new sn (receiving starts (Link sn what ∷ past) sn)
  pub other_tx : OthersSend old new sn
  pub other_rx : OthersReceive old new sn
  pub tx_sizes : tx_kilobytes new ≡ tx_kilobytes old
  pub rx_sizes : rx_kilobytes new ≡ rx_kilobytes old

-- The rest stays.
pub record Same (old new : Parts) : Type 0 where
  pub tx_start : new.tx_start ≡ old.tx_start
  pub rx_start : new.rx_start ≡ old.rx_start
  pub common : new.common ≡ old.common

pub link_holds : (starts : Starts) (past : Past) (what : LinkEntry) (sn : ℕ) (old new : Parts) → sn < 8 → Holds starts old past → Noted starts past what sn old new
    → Carried starts past what sn old.rings new.rings → Same old new → Holds starts new (Link sn what ∷ past)
link_holds starts past what sn old new below held noted carried same =
    one_steps starts past (Link sn what) sn old new held
    (record {
      on = refl;
      elsewhere = refl;
      no_tx_size = refl;
      no_rx_size = refl;
      others = λ m away. other_link past sn m what away;
      tx_start = same.tx_start;
      rx_start = same.rx_start;
      common = same.common;
      shows = noted.shows;
      life = noted.life;
      other_lives = noted.other_lives;
      tx = carried.tx (held.tx sn below);
      rx = carried.rx (held.rx sn below);
      other_tx = carried.other_tx;
      other_rx = carried.other_rx;
      tx_sizes = carried.tx_sizes;
      rx_sizes = carried.rx_sizes;
    })

-- The buffers moved first, and then the event was noted.
pub moved : (starts : Starts) (past : Past) (what : LinkEntry) (sn : ℕ) (old new : Parts) (rings : Rings) → sn < 8 → Holds starts old past → Carried starts past what sn old.rings rings
    → Noted starts past what sn (record old { rings = rings }) new → new ≡ record old { registers = new.registers; lives = new.lives; rings = rings; sir = new.sir }
    → Holds starts new (Link sn what ∷ past)
moved starts past what sn old new rings below held carried noted same =
    link_holds starts past what sn old new below held
    (record { shows = noted.shows; life = noted.life; other_lives = noted.other_lives })
    (subst (λ (r : Rings). Carried starts past what sn old.rings r) (sym (ap (λ (p : Parts). p.rings) same)) carried)
    (record {
      tx_start = ap (λ (p : Parts). p.tx_start) same;
      rx_start = ap (λ (p : Parts). p.rx_start) same;
      common = ap (λ (p : Parts). p.common) same;
    })

-- A direction that does not change.
pub same_tx : (starts : Starts) (past : Past) (what : LinkEntry) (sn : ℕ) (old new : Rings) → SameTx old new → sending starts (Link sn what ∷ past) sn ≡ sending starts past sn
    → TxHolds old sn (sending starts past sn) → TxHolds new sn (sending starts (Link sn what ∷ past) sn)
same_tx starts past what sn old new same is held =
    subst (λ (r : Sends). tx_of.Holds r sn (sending starts (Link sn what ∷ past) sn)) (sym same)
    (subst (λ (s : Sending). TxHolds old sn s) (sym is) held)

pub same_rx : (starts : Starts) (past : Past) (what : LinkEntry) (sn : ℕ) (old new : Rings) → SameRx old new → receiving starts (Link sn what ∷ past) sn ≡ receiving starts past sn
    → RxHolds old sn (receiving starts past sn) → RxHolds new sn (receiving starts (Link sn what ∷ past) sn)
same_rx starts past what sn old new same is held =
    subst (λ (r : Receives). rx_of.RxHolds r sn (receiving starts (Link sn what ∷ past) sn)) (sym same)
    (subst (λ (g : Receiving). RxHolds old sn g) (sym is) held)

pub others_tx : (sn : ℕ) (old new : Rings) → SameTx old new → OthersSend old new sn
others_tx sn old new same = λ n s below away held. subst (λ (r : Sends). tx_of.Holds r n s) (sym same) held

pub others_rx : (sn : ℕ) (old new : Rings) → SameRx old new → OthersReceive old new sn
others_rx sn old new same = λ n g below away held. subst (λ (r : Receives). rx_of.RxHolds r n g) (sym same) held

pub same_tx_sizes : (old new : Rings) → SameTx old new → tx_kilobytes new ≡ tx_kilobytes old
same_tx_sizes old new same = ap (λ (r : Sends). r.layout.kilobytes) same

pub same_rx_sizes : (old new : Rings) → SameRx old new → rx_kilobytes new ≡ rx_kilobytes old
same_rx_sizes old new same = ap (λ (r : Receives). r.layout.kilobytes) same

-- The event was noted first, and then the windows were kept or emptied.
pub kept : (starts : Starts) (past : Past) (what : LinkEntry) (sn : ℕ) (old mid : Parts) (rings : Rings) (live : Bool) → sn < 8 → Holds starts old past → is_told what ≡ true
    → Noted starts past what sn old mid → mid ≡ record old { registers = mid.registers; lives = mid.lives; sir = mid.sir } → live ≡ is_open (status (Link sn what ∷ past) sn)
    → ((s : Sending) → TxHolds mid.rings sn s → TxHolds rings sn (sent_kept live s)) → ((g : Receiving) → RxHolds mid.rings sn g → RxHolds rings sn (got_kept live g))
    → OthersSend mid.rings rings sn → OthersReceive mid.rings rings sn → tx_kilobytes rings ≡ tx_kilobytes mid.rings → rx_kilobytes rings ≡ rx_kilobytes mid.rings
    → Holds starts (record mid { rings = rings }) (Link sn what ∷ past)
kept starts past what sn old mid rings live below held told noted same is tx rx other_tx other_rx tx_sizes rx_sizes =
    let there : mid.rings ≡ old.rings = ap (λ (p : Parts). p.rings) same in
    let sends : sending starts (Link sn what ∷ past) sn ≡ sent_kept live (sending starts past sn) =
    told_sends starts past sn what told ∙ sym (ap (λ (b : Bool). sent_kept b (sending starts past sn)) is) in
    let receives : receiving starts (Link sn what ∷ past) sn ≡ got_kept live (receiving starts past sn) =
    told_receives starts past sn what told ∙ sym (ap (λ (b : Bool). got_kept b (receiving starts past sn)) is) in
    link_holds starts past what sn old (record mid { rings = rings }) below held
    (record { shows = record { registers = noted.shows.registers; sir = noted.shows.sir }; life = noted.life; other_lives = noted.other_lives })
    (record {
      tx = λ h. subst (λ (s : Sending). TxHolds rings sn s) (sym sends) (tx (sending starts past sn) (subst (λ (r : Rings). TxHolds r sn (sending starts past sn)) (sym there) h));
      rx = λ h. subst (λ (g : Receiving). RxHolds rings sn g) (sym receives) (rx (receiving starts past sn) (subst (λ (r : Rings). RxHolds r sn (receiving starts past sn)) (sym there) h));
      other_tx = subst (λ (r : Rings). OthersSend r rings sn) there other_tx;
      other_rx = subst (λ (r : Rings). OthersReceive r rings sn) there other_rx;
      tx_sizes = tx_sizes ∙ ap tx_kilobytes there;
      rx_sizes = rx_sizes ∙ ap rx_kilobytes there;
    })
    (record {
      tx_start = ap (λ (p : Parts). p.tx_start) same;
      rx_start = ap (λ (p : Parts). p.rx_start) same;
      common = ap (λ (p : Parts). p.common) same;
    })

-- A connection was made.
pub begun : (starts : Starts) (past : Past) (what : LinkEntry) (sn tx rx : ℕ) (old new : Rings) → sn < 8 → Legal starts past → fits starts past sn what ≡ true → makes what ≡ true
    → tx ≡ starts.tx → rx ≡ starts.rx
    → ((s : Sending) → TxHolds old sn s → TxHolds new sn (sends.after_begin s tx)) → ((g : Receiving) → RxHolds old sn g → RxHolds new sn (receives.after_begin g rx))
    → OthersSend old new sn → OthersReceive old new sn → tx_kilobytes new ≡ tx_kilobytes old → rx_kilobytes new ≡ rx_kilobytes old → Carried starts past what sn old new
begun starts past what sn tx rx old new below legal may made tx_is rx_is tx_step rx_step other_tx other_rx tx_sizes rx_sizes =
    let s = sending starts past sn in
    let g = receiving starts past sn in
    let sent : sending starts (Link sn what ∷ past) sn ≡ sends.after_begin s tx = sending_steps.connects starts past sn what ((below, may), legal) made ∙ sym (ap (sends.after_begin s) tx_is) in
    let got : receiving starts (Link sn what ∷ past) sn ≡ receives.after_begin g rx = receiving_steps.connects starts past sn what ((below, may), legal) made ∙ sym (ap (receives.after_begin g) rx_is) in
    record {
      tx = λ h. subst (λ (t : Sending). TxHolds new sn t) (sym sent) (tx_step s h);
      rx = λ h. subst (λ (t : Receiving). RxHolds new sn t) (sym got) (rx_step g h);
      other_tx = other_tx;
      other_rx = other_rx;
      tx_sizes = tx_sizes;
      rx_sizes = rx_sizes;
    }

-- One direction moved alone.
pub sent_alone : (starts : Starts) (past : Past) (what : LinkEntry) (sn : ℕ) (old new : Rings) → TxHolds new sn (sending starts (Link sn what ∷ past) sn)
    → OthersSend old new sn → tx_kilobytes new ≡ tx_kilobytes old → SameRx old new → receiving starts (Link sn what ∷ past) sn ≡ receiving starts past sn → Carried starts past what sn old new
sent_alone starts past what sn old new tx other_tx tx_sizes same is = record {
  tx = λ h. tx;
  rx = same_rx starts past what sn old new same is;
  other_tx = other_tx;
  other_rx = others_rx sn old new same;
  tx_sizes = tx_sizes;
  rx_sizes = same_rx_sizes old new same;
}

pub got_alone : (starts : Starts) (past : Past) (what : LinkEntry) (sn : ℕ) (old new : Rings) → RxHolds new sn (receiving starts (Link sn what ∷ past) sn)
    → OthersReceive old new sn → rx_kilobytes new ≡ rx_kilobytes old → SameTx old new → sending starts (Link sn what ∷ past) sn ≡ sending starts past sn → Carried starts past what sn old new
got_alone starts past what sn old new rx other_rx rx_sizes same is = record {
  tx = same_tx starts past what sn old new same is;
  rx = λ h. rx;
  other_tx = others_tx sn old new same;
  other_rx = other_rx;
  tx_sizes = same_tx_sizes old new same;
  rx_sizes = rx_sizes;
}

-- Neither did.
pub neither : (starts : Starts) (past : Past) (what : LinkEntry) (sn : ℕ) (rings : Rings) → sending starts (Link sn what ∷ past) sn ≡ sending starts past sn
    → receiving starts (Link sn what ∷ past) sn ≡ receiving starts past sn → Carried starts past what sn rings rings
neither starts past what sn rings sent got = record {
  tx = same_tx starts past what sn rings rings refl sent;
  rx = same_rx starts past what sn rings rings refl got;
  other_tx = λ n s below away h. h;
  other_rx = λ n g below away h. h;
  tx_sizes = refl;
  rx_sizes = refl;
}

-- Bytes were put into the RX buffer.
pub came_in : (starts : Starts) (past : Past) (what : LinkEntry) (sn : ℕ) (bytes : List ℕ) (old new : Parts) (rings : Rings) → sn < 8 → Holds starts old past
    → receiving starts (Link sn what ∷ past) sn ≡ receives.after_got (receiving starts past sn) bytes → sending starts (Link sn what ∷ past) sn ≡ sending starts past sn
    → ((g : Receiving) → RxHolds old.rings sn g → RxHolds rings sn (receives.after_got g bytes)) → OthersReceive old.rings rings sn → rx_kilobytes rings ≡ rx_kilobytes old.rings → SameTx old.rings rings
    → Noted starts past what sn (record old { rings = rings }) new → new ≡ record old { registers = new.registers; lives = new.lives; rings = rings; sir = new.sir }
    → Holds starts new (Link sn what ∷ past)
came_in starts past what sn bytes old new rings below held received sent step other_rx sizes same noted rest =
    let g = receiving starts past sn in
    moved starts past what sn old new rings below held
    (got_alone starts past what sn old.rings rings (subst (λ (t : Receiving). RxHolds rings sn t) (sym received) (step g (held.rx sn below))) other_rx sizes same sent)
    noted rest

-- They were thrown away.
pub lost : (starts : Starts) (past : Past) (what : LinkEntry) (sn : ℕ) (bytes : List ℕ) (old new : Parts) → sn < 8 → Holds starts old past
    → receiving starts (Link sn what ∷ past) sn ≡ receives.after_got (receiving starts past sn) bytes → bytes ≡ [] → sending starts (Link sn what ∷ past) sn ≡ sending starts past sn
    → Noted starts past what sn old new → new ≡ record old { registers = new.registers; lives = new.lives; sir = new.sir } → Holds starts new (Link sn what ∷ past)
lost starts past what sn bytes old new below held received none sent noted rest =
    let g = receiving starts past sn in
    moved starts past what sn old new old.rings below held
    (neither starts past what sn old.rings sent (received ∙ ap (receives.after_got g) none ∙ got_nothing g))
    (record { shows = noted.shows; life = noted.life; other_lives = noted.other_lives }) rest
