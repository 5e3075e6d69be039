use Rattle.tree_update.proofs.RunLaw.{set_changed}
use Rattle.tree_update.proofs.alone.set_alone.Goals as goal

pub returns-clause-set : goal.returns-clause-set
returns-clause-set g c = set_changed c.args.memory.now.layout c.layout.result c.args.key c.args.node c.new-set.result c.args.memory.now.words c.run_alone.new.memory.words c.new-set.ensures.start c.run_alone.ensures.changed
