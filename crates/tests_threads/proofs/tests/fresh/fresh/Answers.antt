use Rattle.tests_threads.proofs.tests.fresh.fresh.Goals as goal

pub returns : goal.returns
returns c = (c.in_ok-core.ensures.opened.quiet, c.in_ok-core.ensures.opened.history, c.in_ok-core.ensures.opened.layout)
