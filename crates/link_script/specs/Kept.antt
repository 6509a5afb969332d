-- What an actor keeps, and what it stands for.
use Rattle.std.specs.Prelude.{◌≡◌, ◌≤◌, ◌-◌, ◌^◌, min, length, drop, get_or, vec_len, vec_capacity}
use Rattle.link_script.specs.declared.actor.Actor.TheInside.{Inside}
use Rattle.link_script.specs.Acting.{Acting, no_chunk, most_datagrams, fed}

abbrev pub acting_of : Inside → Acting
acting_of a = record {
  script = a.peer;
  conn = a.conn;
  tells = a.tells;
  made = a.made;
  calls = a.calls;
  used = a.used;
  given = a.given.items;
  dests = a.dests.items;
  next = a.next;
  at = a.at;
  owes = a.owes;
}

-- All room is reserved, and the place of reading stands within the script.
pub record IsSound (a : Inside) : Type 0 where
  pub few : vec_len a.given ≤ a.peer.room
  pub room : a.peer.room ≤ vec_capacity a.given
  pub datagrams : vec_len a.dests ≤ most_datagrams
  pub places : most_datagrams ≤ vec_capacity a.dests
  pub used : a.used ≤ length a.peer.takes
  pub next : a.next ≤ length a.peer.say
  pub at : a.at ≤ length (get_or (drop a.next a.peer.say) 0 no_chunk).bytes - 1
  pub heard : a.heard ≡ min (length (fed (acting_of a))) (2 ^ 64 - 1)
