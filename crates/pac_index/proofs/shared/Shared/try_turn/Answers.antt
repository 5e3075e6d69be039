use Rattle.std.proofs.Common.{refl}
use Rattle.pac_index.specs.declared.caller.Caller.{Caller}
use Rattle.pac_index.proofs.Remaining.{has_step, seated_by}
use Rattle.pac_index.proofs.Turning.{turned_rests, turned_stays}
use Rattle.pac_index.proofs.shared.Shared.try_turn.Goals as goal

pub returns-clause-stays : goal.returns-clause-stays
returns-clause-stays g c =
    let s = c.args.self.now in
    let old = c.args.caller.now in
    let on = c.run_turn.ensures in
    let new : Caller = record old { seat = c.run_turn.new.seat; pins = c.run_turn.new.pins; left = c.run_turn.new.left } in
    turned_stays s old new c.requires.caller (has_step s old c.requires.caller c.if-is_spent.ensures) (seated_by s old new c.requires.caller on.seat.0 on.lone refl on.pins) refl refl c.run_turn.result on.told

pub returns-clause-rests : goal.returns-clause-rests
returns-clause-rests g c =
    let s = c.args.self.now in
    let old = c.args.caller.now in
    let on = c.run_turn.ensures in
    let new : Caller = record old { seat = c.run_turn.new.seat; pins = c.run_turn.new.pins; left = c.run_turn.new.left } in
    turned_rests s old new c.requires.caller (has_step s old c.requires.caller c.if-is_spent.ensures) (seated_by s old new c.requires.caller on.seat.0 on.lone refl on.pins) refl refl c.run_turn.result on.told
