use Rattle.host_links.proofs.pair.HostLinksLinks.connect.Goals as goal

pub returns-clause-counts : goal.returns-clause-counts
returns-clause-counts g c = (c.linked.ensures c.args.to).counts
