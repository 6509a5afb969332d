use Rattle.std.proofs.Common.{◌++◌}
use Rattle.host_links.proofs.pair.HostLinksLinks.send_to.Goals as goal

pub returns-clause-counts : goal.returns-clause-counts
returns-clause-counts g c = (c.sent.ensures c.args.port c.args.to (c.args.head.now ++ c.args.tail.now)).counts
