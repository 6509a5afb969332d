-- A peer before any call.
use Rattle.std.specs.Prelude.{false, List, [], map, replicate, None}
use Rattle.link_script.specs.Scripts.{Script}
use Rattle.link_script.specs.Acting.{Acting}
use Rattle.link_script.specs.Play.{Played}

abbrev pub start_of : Script → Acting
start_of script = record {
  script = script;
  conn = None;
  tells = false;
  made = false;
  calls = 0;
  used = 0;
  given = [];
  dests = [];
  next = 0;
  at = 0;
  owes = script.lag;
}

-- All peers before any call.
abbrev pub first_state : List Script → Played
first_state scripts = record {
  peers = map start_of scripts;
  lost = replicate 8 None;
  stalled = replicate 8 0;
  faults = 0;
  waits = 0;
  stalls = 0;
}
