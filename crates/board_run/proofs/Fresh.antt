-- Links on which no call was made.
use Rattle.std.proofs.Common.{◌≡◌, ◌⊎◌, inl, inr, true, List, [], ◌++◌, length, sym, ap, ◌∙◌, append-nil}
use Rattle.chip_sheet.specs.declared.event.Addr.{Addr}
use Rattle.chip_sheet.specs.declared.event.ConnId.{ConnId}
use Rattle.chip_sheet.specs.LinkAnswers.{Done}
use Rattle.chip_sheet.specs.Streams.{Starts}
use Rattle.chip_shared.specs.Tied.{Tied}
use Rattle.link_trait.specs.Calls.{SetRoutes}
use Rattle.link_trait.specs.Shown.{Shown, IsBlank, IsFresh, Lists}
use Rattle.link_trait.specs.Routes.{RouteLists}

-- Routes change nothing of them.
was_blank : (old : Shown) (c : ConnId) → IsFresh old → (old.told c ≡ true) ⊎ ((old.quiet c ≡ true) × IsBlank old c) → IsBlank old c
was_blank old c fresh (inl told) = fresh c told
was_blank old c fresh (inr quiet) = quiet.1

pub routes_fresh : (old new : Shown) (routes : RouteLists) → IsFresh old → Lists old (SetRoutes routes) Done new → IsFresh new
routes_fresh old new routes fresh it = λ c told.
    let blank = was_blank old c fresh (it.newly c told) in
    record {
      given = it.given c told ∙ append-nil (old.given c) ∙ blank.given;
      dests = it.dests c told ∙ append-nil (old.dests c) ∙ blank.dests;
      fed = it.fed c told ∙ append-nil (old.fed c) ∙ blank.fed;
    }

-- They agree with an empty history.
pub fresh_tied : (starts : Starts) (shown : Shown) → IsFresh shown → Tied starts [] shown
fresh_tied starts shown fresh = record {
  given = λ c few told. (fresh c told).given;
  fed = λ c few told. (fresh c told).fed;
  dests = λ c few told. ([], sym (ap (λ (d : List Addr). d ++ []) (fresh c told).dests));
  one_each = λ c few told made. ap length (fresh c told).dests;
}
