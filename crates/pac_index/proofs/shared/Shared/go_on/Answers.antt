use Rattle.pac_index.proofs.Stepping.{step_allowed, steps_on}
use Rattle.pac_index.proofs.shared.Shared.go_on.Goals as goal

pub act-got-requires-clause-allowed : goal.act-got-requires-clause-allowed
act-got-requires-clause-allowed g c =
    let seat = c.args.seat.now in
    step_allowed c.args.self.now seat.id seat.me c.args.machine.now c.action.result c.requires.lone c.requires.flies c.requires.ready c.action.ensures

pub returns : goal.returns
returns g c =
    let on = steps_on c.args.seat.now.me c.act-got.new.seat.me c.args.machine.now c.advance.new.self c.action.result c.act-got.result c.advance.result
    c.requires.flies c.action.ensures c.act-got.ensures.told c.advance.ensures.turned c.advance.ensures.fewer in
    record { seat = c.act-got.ensures.seat; lone = on.0; steps = on.1 }
