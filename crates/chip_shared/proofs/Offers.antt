-- What is offered to a write, and what a datagram is, by the pieces that the chip lends.
use Rattle.std.proofs.Common.{◌≡◌, ℕ, Bool, true, false, ◌&&◌, leb, List, ◌++◌, length, take, refl, sym, ap, ◌∙◌, arith}
use Rattle.std.proofs.lemmas.Bool.{le-leb}
use Rattle.std.proofs.Math.Seq.{take-append_seam}
use Rattle.chip_sheet.specs.declared.event.ConnId.{ConnId}
use Rattle.chip_sheet.specs.declared.event.Addr.{Addr}
use Rattle.chip_sheet.specs.declared.socket.Due.TheVariants as due
use Rattle.chip_sheet.specs.Past.{Past}
use Rattle.chip_sheet.specs.Streams.{Starts}
use Rattle.chip_sheet.specs.Windows.{in_flight, offered, offered_length}
use Rattle.chip_sheet.specs.LinkAnswers.{may_answer}
use Rattle.link_trait.specs.declared.links.Writing.{Writing}
use Rattle.link_trait.specs.declared.links.Writing.TheVariants as wrote
use Rattle.link_trait.specs.declared.links.Sending.{Sending}
use Rattle.link_trait.specs.declared.links.Sending.TheVariants as has_sent
use Rattle.link_trait.specs.Calls.{writing, sending, WriteFits}

both : (a b : Bool) → a ≡ true → b ≡ true → (a && b) ≡ true
both true true h k = refl
both true false h k = cc
both false b h k = cc

-- What a write may answer where it takes no more than the piece.
pub write_may : (c : ConnId) (answer : Writing) (piece : List ℕ) (many room : ℕ) → WriteFits answer piece → length piece ≡ many → may_answer (due.Write c) many room (writing answer) ≡ true
write_may c (wrote.Done k) piece many room fits long = both (leb 1 k) (leb k many) (le-leb 1 k fits.0) (le-leb k many (let most = fits.1 in omega (arith, most, long)))
write_may c wrote.NotYet piece many room fits long = refl
write_may c wrote.Failed piece many room fits long = refl

pub send_may : (c : ConnId) (port : ℕ) (to : Addr) (answer : Sending) (many room : ℕ) → may_answer (due.SendTo c port to) many room (sending answer) ≡ true
send_may c port to has_sent.Done many room = refl
send_may c port to has_sent.NotYet many room = refl
send_may c port to has_sent.Failed many room = refl

-- The first piece is what is offered.
pub first_offered : (starts : Starts) (past : Past) (n : ℕ) (head tail : List ℕ) → head ++ tail ≡ in_flight starts past n → length head ≡ offered_length starts past n → head ≡ offered starts past n
first_offered starts past n head tail all long =
    sym (take-append_seam head tail) ∙ ap (λ (k : ℕ). take k (head ++ tail)) long ∙ ap (take (offered_length starts past n)) all
