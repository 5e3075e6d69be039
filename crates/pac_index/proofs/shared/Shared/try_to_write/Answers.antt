use Rattle.std.proofs.Common.{◌∙◌}
use Rattle.pac_index.specs.Callers.{seen_by}
use Rattle.pac_index.proofs.Budgeting.{pays_then}
use Rattle.pac_index.proofs.Writing.{ended_so, line_back, line_cut, node_cut, node_room}
use Rattle.pac_index.proofs.shared.Shared.try_to_write.Goals as goal

pub returns-in-End-clause-tried : goal.returns-in-End-clause-tried
returns-in-End-clause-tried g c =
    ended_so c.args.self.now.epochs.parties c.args.call.now c.args.caller.now c.try_next.new.caller c.in-End.ended c.in-End.ensures.next

pub returns-in-Some : goal.returns-in-Some
returns-in-Some g c =
    let old = c.args.caller.now in
    let tried = c.try_next.new.caller in
    let new = c.turned.new.caller in
    let on = c.turned.ensures in
    record {
      stays = (on.stays.0, on.stays.1 ∙ c.try_next.ensures.stays.1);
      tried = line_back c.args.self.now.epochs.parties c.args.call.now old tried new on.same c.in-Some.field-0 c.in-TurnForLine.ensures.next c.in-Some.ensures.turned;
      paid = pays_then old.left tried.left new.left (seen_by old).taken (seen_by tried).taken (seen_by new).taken c.try_next.ensures.paid on.paid;
    }

pub returns-in-None : goal.returns-in-None
returns-in-None g c =
    let old = c.args.caller.now in
    let tried = c.try_next.new.caller in
    let new = c.turned.new.caller in
    let on = c.turned.ensures in
    record {
      stays = (on.stays.0, on.stays.1 ∙ c.try_next.ensures.stays.1);
      tried = line_cut c.args.self.now.epochs.parties c.args.call.now old tried new on.same c.in-TurnForLine.ensures.next c.in-None.ensures.turned;
      paid = pays_then old.left tried.left new.left (seen_by old).taken (seen_by tried).taken (seen_by new).taken c.try_next.ensures.paid on.paid;
    }

pub returns-in-Some-turned : goal.returns-in-Some-turned
returns-in-Some-turned g c =
    let old = c.args.caller.now in
    let tried = c.try_next.new.caller in
    let new = c.turned-in-TurnForNode.new.caller in
    let on = c.turned-in-TurnForNode.ensures in
    record {
      stays = (on.stays.0, on.stays.1 ∙ c.try_next.ensures.stays.1);
      tried = node_room c.args.self.now.epochs.parties c.args.call.now old tried new on.same c.in-Some-turned.turned c.in-TurnForNode.ensures.next c.in-Some-turned.ensures.turned;
      paid = pays_then old.left tried.left new.left (seen_by old).taken (seen_by tried).taken (seen_by new).taken c.try_next.ensures.paid on.paid;
    }

pub returns-in-None-turned : goal.returns-in-None-turned
returns-in-None-turned g c =
    let old = c.args.caller.now in
    let tried = c.try_next.new.caller in
    let new = c.turned-in-TurnForNode.new.caller in
    let on = c.turned-in-TurnForNode.ensures in
    record {
      stays = (on.stays.0, on.stays.1 ∙ c.try_next.ensures.stays.1);
      tried = node_cut c.args.self.now.epochs.parties c.args.call.now old tried new on.same c.in-TurnForNode.ensures.next c.in-None-turned.ensures.turned;
      paid = pays_then old.left tried.left new.left (seen_by old).taken (seen_by tried).taken (seen_by new).taken c.try_next.ensures.paid on.paid;
    }
