use Rattle.host_links.proofs.pair.HostLinksLinks.write.Goals as goal

pub returns-clause-counts : goal.returns-clause-counts
returns-clause-counts g c = (c.wrote.ensures c.args.piece.now).counts
