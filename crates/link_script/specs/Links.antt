-- What scripted links stand for.
use Rattle.std.specs.Prelude.{◌≡◌, length}
use Rattle.link_script.specs.declared.script_links.ScriptLinks.{ScriptLinks}
use Rattle.link_script.specs.Play.{Played}

abbrev pub played_of : ScriptLinks → Played
played_of l = record {
  peers = l.actors.items;
  lost = l.lost;
  stalled = l.stalled;
  faults = l.faults;
  waits = l.waits;
  stalls = l.stalls;
}

-- What is kept of each socket is kept of the sockets 0 to 7.
abbrev pub IsEight : Played → Type 0
IsEight s = (length s.lost ≡ 8) × (length s.stalled ≡ 8)
