use Rattle.std.proofs.Common.{length}
use Rattle.host_links.proofs.pair.HostLinksLinks.read.Goals as goal

pub returns-clause-counts : goal.returns-clause-counts
returns-clause-counts g c = (c.has_read.ensures (length c.args.buf.now) c.read-answer.new.buf).counts
