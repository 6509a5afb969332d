-- What contracts see of links to sockets of the system, and of their poller.
use Rattle.std.specs.Prelude.{ℕ}
use Rattle.link_trait.specs.Shown.{Shown}
use Rattle.host_links.specs.declared.pair.HostLinks.{HostLinks}
use Rattle.host_links.specs.declared.pair.MioPoller.{MioPoller}
use Rattle.host_links.specs.Tallies.{shown_of}

abbrev pub shown : {R : Type 0} → HostLinks R → Shown
shown links = shown_of links.tally

-- how many waits failed
abbrev pub failed_waits : MioPoller → ℕ
failed_waits poller = poller.faults
