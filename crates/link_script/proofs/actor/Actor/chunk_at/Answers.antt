use Rattle.std.proofs.Common.{◌≡◌, ◌<◌, false, length, subst, sym, Some}
use Rattle.link_script.specs.Acting.{Acting, front, is_udp, read_of, chunk_at}
use Rattle.link_script.specs.Kept.{acting_of}
use Rattle.link_script.proofs.Hearing.{chunk_some}
use Rattle.link_script.proofs.actor.Actor.chunk_at.Goals as goal

pub returns-clause-some : goal.returns-clause-some
returns-clause-some c =
    let P : Acting → Type 0 = λ p. is_udp p.script.kind ≡ false → read_of p c.args.passed < length (chunk_at p c.args.passed).bytes in
    let F : Acting → Type 0 = λ p. front p ≡ Some c.args.passed in
    subst P c.self.view_is (chunk_some (acting_of c.self.inside) c.args.passed (subst F (sym c.self.view_is) c.requires) c.self.invariant.at)
