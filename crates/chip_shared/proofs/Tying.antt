-- What ties links to a history holds with one more entry that asks the links for nothing.
use Rattle.std.proofs.Common.{◌≡◌, ℕ, Bool, true, false, cond, List, [], ◌∷◌, ◌++◌, append-nil, append_assoc, take, refl, sym, ap, ◌∙◌}
use Rattle.std.proofs.lemmas.List.{take-append-le}
use Rattle.board_bus.specs.declared.event.BusEvent.{BusEvent}
use Rattle.board_bus.specs.declared.event.BusAnswer.{BusAnswer}
use Rattle.chip_sheet.specs.declared.event.Addr.{Addr}
use Rattle.chip_sheet.specs.declared.event.Entry.{Entry}
use Rattle.chip_sheet.specs.declared.event.Entry.TheVariants.{Bus}
use Rattle.chip_sheet.specs.declared.socket.Cause.{Cause}
use Rattle.chip_sheet.specs.declared.socket.Cause.TheVariants as because
use Rattle.chip_sheet.specs.Past.{Past}
use Rattle.chip_sheet.specs.Life.{cause}
use Rattle.chip_sheet.specs.Streams.{Starts, sent, taken, destinations, destinations_by}
use Rattle.chip_sheet.specs.Legal.{Legal}
use Rattle.chip_sheet.proofs.SentLaws.{sent_longer}
use Rattle.chip_sheet.proofs.Within.{taken_within}
use Rattle.link_trait.specs.Shown.{Shown}
use Rattle.chip_shared.specs.Tied.{Tied, Ready}

-- The second list is the first and more.
abbrev pub IsMore : List Addr → List Addr → Type 0
IsMore before after = (more : List Addr) × (after ≡ before ++ more)

cond_more : (b : Bool) (before more : List Addr) → IsMore before (cond b (before ++ more) before)
cond_more true before more = (more, refl)
cond_more false before more = ([], sym (append-nil before))

by_more : (starts : Starts) (past : Past) (n life : ℕ) (why : Cause) (before : List Addr) → IsMore before (destinations_by starts past n life why before)
by_more starts past n life because.Send before = cond_more _ before _
by_more starts past n life why before = ([], sym (append-nil before))

pub destinations_more : (starts : Starts) (past : Past) (entry : Entry) (n life : ℕ) → IsMore (destinations starts past n life) (destinations starts (entry ∷ past) n life)
destinations_more starts past entry n life = by_more starts past n life (cause past n entry) (destinations starts past n life)

pub more_still : (front a b : List Addr) → IsMore front a → IsMore a b → IsMore front b
more_still front a b (more, e) (again, f) = (more ++ again, f ∙ ap (λ (xs : List Addr). xs ++ again) e ∙ append_assoc front more again)

-- The front of what was sent up to the taken count stays, whatever more is sent.
pub given_stays : (starts : Starts) (past : Past) (entry : Entry) (n life : ℕ) → Legal starts past
    → take (taken past n life) (sent starts (entry ∷ past) n life) ≡ take (taken past n life) (sent starts past n life)
given_stays starts past entry n life legal =
    let longer = sent_longer starts past entry n life in
    ap (take (taken past n life)) longer.1 ∙ take-append-le (taken past n life) (sent starts past n life) longer.0 (taken_within starts past n life legal)

pub tied_bus : (starts : Starts) (past : Past) (e : BusEvent) (a : BusAnswer) (shown : Shown) → Legal starts past → Tied starts past shown → Tied starts (Bus e a ∷ past) shown
tied_bus starts past e a shown legal it = record {
  given = λ c few told. it.given c few told ∙ sym (given_stays starts past (Bus e a) c.sn c.life legal);
  fed = it.fed;
  dests = λ c few told. more_still (shown.dests c) (destinations starts past c.sn c.life) (destinations starts (Bus e a ∷ past) c.sn c.life)
      (it.dests c few told) (destinations_more starts past (Bus e a) c.sn c.life);
  one_each = it.one_each;
}

pub ready_bus : (past : Past) (e : BusEvent) (a : BusAnswer) (shown : Shown) → Ready past shown → Ready (Bus e a ∷ past) shown
ready_bus past e a shown it = record { made = it.made; quiet = it.quiet }
