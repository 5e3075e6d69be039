use Rattle.pac_index.proofs.Repeating.{not_done_cut}
use Rattle.pac_index.proofs.Writing.{turned_within}
use Rattle.pac_index.proofs.shared.Shared.turned.Goals as goal

pub returns-in_default-clause-turned : goal.returns-in_default-clause-turned
returns-in_default-clause-turned g c =
    turned_within c.args.self.now.epochs.parties c.args.caller.now c.turn_at_pace.new.caller (not_done_cut c.turn_at_pace.result _ _ c.turn_at_pace.ensures.done c.in_default.not-Done)
