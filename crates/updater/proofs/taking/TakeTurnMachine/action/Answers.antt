use Rattle.updater.proofs.taking.TakeTurnMachine.action.Goals as goal

pub returns : goal.returns
returns c = c.take_turn.ensures c.args.self.now.layout
