-- What the counts of real links show.
use Rattle.std.specs.Prelude.{get_or}
use Rattle.link_trait.specs.Calls.{Call}
use Rattle.link_trait.specs.Shown.{Shown, Counts, Makes, Lists, untold}
use Rattle.chip_sheet.specs.LinkAnswers.{LinkAnswer}
use Rattle.host_links.specs.Connections.{is_made}
use Rattle.host_links.specs.declared.counting.Tally.{Tally}

abbrev pub shown_of : Tally → Shown
shown_of t = untold t.faults t.waits t.stalls (λ n. get_or t.stalled n 0) (is_made t.made)

-- What a call with its answer makes of what the links show: all three rules of the trait.
pub record Goes (old : Shown) (call : Call) (answer : LinkAnswer) (new : Shown) : Type 0 where
  pub counts : Counts old call answer new
  pub makes : Makes old call answer new
  pub lists : Lists old call answer new
