use Rattle.host_links.proofs.pair.HostLinksLinks.accept.Goals as goal

pub returns-clause-counts : goal.returns-clause-counts
returns-clause-counts g c = (c.accepted.ensures c.args.port).counts
