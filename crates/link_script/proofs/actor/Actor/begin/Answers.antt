use Rattle.std.proofs.Common.{rules}
use Rattle.link_script.proofs.Hearing.{heard_none}
use Rattle.link_script.proofs.actor.Actor.begin.Goals as goal

pub invariant_of-self : goal.invariant_of-self
invariant_of-self c = record {
  few = search rules;
  room = search rules;
  datagrams = search rules;
  places = search rules;
  used = search rules;
  next = search rules;
  at = search rules;
  heard = heard_none c.self.inside.peer.kind c.self.inside.peer.say;
}
