use Rattle.chip_shared.proofs.calls.settle.Goals as goal

pub returns-in-None-clause-stands : goal.returns-in-None-clause-stands
returns-in-None-clause-stands c = λ starts past stands. rw c.in-None.is (c.rest_stands.ensures starts c.args.chip.now past stands)

pub returns-in-Some-clause-stands : goal.returns-in-Some-clause-stands
returns-in-Some-clause-stands c = λ starts past stands. rw c.in-Some.is (c.link.ensures.stands starts past stands)
