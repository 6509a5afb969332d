use Rattle.std.proofs.Common.{◌≡◌, ◌+◌, ◌-◌, ◌^◌, ◌∙◌, subst, sym, min, length, Some}
use Rattle.link_script.specs.Acting.{Acting, front, moved, fed, part}
use Rattle.link_script.specs.Kept.{acting_of}
use Rattle.link_script.proofs.Hearing.{kept_heard}
use Rattle.link_script.proofs.actor.Actor.place.Goals as goal

pub returns-clause-heard : goal.returns-clause-heard
returns-clause-heard c =
    let passed = c.args.passed in
    let count = c.args.count in
    let p = acting_of c.self.inside in
    let P : Acting → Type 0 = λ p. min (c.self.inside.heard + count) (2 ^ 64 - 1) ≡ min (length (fed (moved p passed count))) (2 ^ 64 - 1) in
    let F : Acting → Type 0 = λ p. front p ≡ Some passed in
    let G : Acting → Type 0 = λ p. count ≡ length (part p passed count) in
    c.saturating_add.ensures ∙ subst P c.self.view_is (kept_heard p passed count c.self.inside.heard (subst F (sym c.self.view_is) c.requires.front)
    (subst G (sym c.self.view_is) c.requires.there) c.self.invariant.heard)
