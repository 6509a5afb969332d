use Rattle.std.proofs.Common.{rules}
use Rattle.link_script.proofs.Hearing.{heard_none}
use Rattle.link_script.proofs.actor.Actor.new.Goals as goal

pub invariant_of-result : goal.invariant_of-result
invariant_of-result c = record {
  few = search rules;
  room = search rules;
  datagrams = search rules;
  places = search rules;
  used = search rules;
  next = search rules;
  at = search rules;
  heard = heard_none c.peer.inside.kind c.peer.inside.say.items;
}
