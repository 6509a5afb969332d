-- What contracts see of a poller in memory.
use Rattle.wz_base.specs.declared.calls.Calls.{Calls}
use Rattle.live_trait.specs.declared.listed.ListPoller.{ListPoller}

-- the waits so far, and which fail
abbrev pub waits_of : ListPoller → Calls
waits_of p = p.calls
