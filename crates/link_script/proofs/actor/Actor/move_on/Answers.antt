use Rattle.std.proofs.Common.{◌≡◌, ◌-◌, ◌^◌, subst, sym, min, length, Some}
use Rattle.link_script.specs.Acting.{Acting, front, moved, fed, part}
use Rattle.link_script.specs.Kept.{acting_of}
use Rattle.link_script.proofs.Hearing.{kept_at, kept_next}
use Rattle.link_script.proofs.actor.Actor.move_on.Goals as goal

pub invariant_of-self : goal.invariant_of-self
invariant_of-self c =
    let passed = c.args.passed in
    let count = c.args.count in
    let place = c.place-place.result in
    let p = acting_of c.self.inside in
    let back = sym c.self.view_is in
    let N : Acting → Type 0 = λ p. place.next ≡ (moved p passed count).next in
    let A : Acting → Type 0 = λ p. place.at ≡ (moved p passed count).at in
    let H : Acting → Type 0 = λ p. place.heard ≡ min (length (fed (moved p passed count))) (2 ^ 64 - 1) in
    let F : Acting → Type 0 = λ p. front p ≡ Some passed in
    let G : Acting → Type 0 = λ p. count ≡ length (part p passed count) in
    let next = subst N back c.place-place.ensures.next in
    let at = subst A back c.place-place.ensures.at in
    let first = subst F back c.requires.front in
    let there = subst G back c.requires.there in
    record {
      few = c.self.invariant.few;
      room = c.self.invariant.room;
      datagrams = c.self.invariant.datagrams;
      places = c.self.invariant.places;
      used = c.self.invariant.used;
      next = rw next (kept_next p passed count first);
      at = rw (next, at) (kept_at p passed count first there c.self.invariant.at);
      heard = rw (next, at) (subst H back c.place-place.ensures.heard);
    }
