-- Turns of a pass that serves the links make no event of the bus.
use Rattle.std.proofs.Common.{◌≡◌, ◌⊎◌, inl, inr, ℕ, ◌<◌, ◌≤◌, ◌∷◌, map, Option, None, Some, MatchOption, refl, sym, ap, ◌∙◌, subst, arith}
use Rattle.chip_sheet.specs.declared.event.Entry.{Entry}
use Rattle.chip_sheet.specs.declared.event.Entry.TheVariants.{Rest}
use Rattle.chip_sheet.specs.declared.socket.Due.{Due}
use Rattle.chip_sheet.specs.declared.socket.Due.TheVariants as due
use Rattle.chip_sheet.specs.LinkAnswers.{LinkAnswer, Done, DoneFrom, DoneWith, DoneBytes, DoneDatagram, Refused, TimedOut, End, Failed, NotYet, entry_by}
use Rattle.chip_sheet.specs.Past.{Past, exchanges}
use Rattle.chip_sheet.specs.Streams.{Starts}
use Rattle.chip_shared.specs.Calling.{did_at, first_due}
use Rattle.chip_shared.specs.Sweeping.{goes_on_from}
use Rattle.chip_shared.specs.declared.shared.LinkDid.{LinkDid}
use Rattle.chip_shared.proofs.Sweeps.{Behind, From, behind_goes, did_behind, due_from}
use Rattle.chip_lock.specs.declared.over.Over.{Over}
use Rattle.chip_lock.specs.Passes.{Adds, EndsAt, EndsPass, LinkTaken, PassView, StaysOf, exchanges_of}
use Rattle.chip_lock.specs.Turns.{AnswersAt, IdlesAt, LinksAt, called}
use Rattle.ready_loop.specs.Serving.{Serves}

-- An entry that a link's answer brings is no event of the bus.
quiet_by : (n flight : ℕ) (call : Due) (answer : LinkAnswer) (past : Past) → exchanges (entry_by n flight call answer ∷ past) ≡ exchanges past
quiet_by n flight (due.Connect c to) Done past = refl
quiet_by n flight (due.Accept c port) (DoneFrom from) past = refl
quiet_by n flight (due.Write c) (DoneWith count) past = refl
quiet_by n flight (due.SendTo c port to) Done past = refl
quiet_by n flight (due.Shut c) Done past = refl
quiet_by n flight (due.Read c) (DoneBytes bytes) past = refl
quiet_by n flight (due.ReadAway c) (DoneBytes bytes) past = refl
quiet_by n flight (due.RecvFrom c port) (DoneDatagram from body) past = refl
quiet_by n flight (due.Drop c) Done past = refl
quiet_by n flight due.Nothing answer past = refl
quiet_by n flight call Refused past = refl
quiet_by n flight call TimedOut past = refl
quiet_by n flight call End past = refl
quiet_by n flight call Failed past = refl
quiet_by n flight call answer past = refl

-- The entry of a link step, before these.
quiet_met : (starts : Starts) (past before : Past) (did : LinkDid) (entry : Entry) (met : Option ℕ) → MatchOption met (IdlesAt did entry) (λ place. AnswersAt starts past place did entry)
    → exchanges (entry ∷ before) ≡ exchanges before
quiet_met starts past before did entry None it = ap (λ (e : Entry). exchanges (e ∷ before)) it.is
quiet_met starts past before did entry (Some place) it = ap (λ (e : Entry). exchanges (e ∷ before)) it.is ∙ quiet_by _ _ _ it.answer before

-- A turn with a link step.
pub link_quiet : (old new : PassView) (from : ℕ) (did : LinkDid) → LinkTaken old from did new → exchanges_of new.mine ≡ exchanges_of old.mine
link_quiet old new from did it =
    ap exchanges_of it.adds.mine ∙ quiet_met old.starts it.past (map (λ x. x.1) old.mine) did it.entry (first_due old.starts it.past from) it.is

-- A turn with which the pass ends, or none where it had ended.
pub end_quiet : (old new : PassView) (why : Over) → EndsPass old why new → exchanges_of new.mine ≡ exchanges_of old.mine
end_quiet old new why (inl it) = ap (λ (p : PassView). exchanges_of p.mine) it.1
end_quiet old new why (inr it) = ap exchanges_of it.1.adds.mine

-- The next place, where there is one, is behind the one that was asked from.
met_behind : (starts : Starts) (past : Past) (from : ℕ) (did : LinkDid) (entry : Entry) (met : Option ℕ) → from < 16 → From from met
    → MatchOption met (IdlesAt did entry) (λ place. AnswersAt starts past place did entry) → Behind from (goes_on_from did)
met_behind starts past from did entry None few on it = rw it.does (tt, omega (arith, few))
met_behind starts past from did entry (Some place) few on it =
    let same = ap goes_on_from it.does ∙ did_behind place it.answer in
    subst (Behind from) (sym same) (behind_goes from place few on)

pub link_behind : (old new : PassView) (from : ℕ) (did : LinkDid) → from < 16 → LinkTaken old from did new → Behind from (goes_on_from did)
link_behind old new from did few it =
    met_behind old.starts it.past from did it.entry (first_due old.starts it.past from) few (due_from old.starts it.past from) it.is

-- Serving goes on.
pub serves_same : (p : PassView) → Serves p p
serves_same p = record { stays = record { turn = refl; starts = refl; limit = refl }; quiet = refl; found = refl }

pub serves_on : (old mid new : PassView) → Serves old mid → StaysOf mid new → exchanges_of new.mine ≡ exchanges_of mid.mine → new.found ≡ mid.found → Serves old new
serves_on old mid new first stays quiet found = record {
  stays = record { turn = stays.turn ∙ first.stays.turn; starts = stays.starts ∙ first.stays.starts; limit = stays.limit ∙ first.stays.limit };
  quiet = quiet ∙ first.quiet;
  found = found ∙ first.found;
}

pub serves_then : (old mid new : PassView) → Serves old mid → Serves mid new → Serves old new
serves_then old mid new first second = serves_on old mid new first second.stays second.quiet second.found

-- A pass that has not ended has no cause.
pub none_some : {A : Type 0} {X : Type 0} {a : A} → None ≡ Some a → X
none_some e = absurd (cc)
