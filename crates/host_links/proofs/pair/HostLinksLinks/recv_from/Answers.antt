use Rattle.std.proofs.Common.{length}
use Rattle.host_links.proofs.pair.HostLinksLinks.recv_from.Goals as goal

pub returns-clause-counts : goal.returns-clause-counts
returns-clause-counts g c = (c.received.ensures c.args.port (length c.args.buf.now) c.recv_from-answer.new.buf).counts
