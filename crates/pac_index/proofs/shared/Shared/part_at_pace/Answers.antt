use Rattle.std.proofs.Common.{sym, ◌∙◌}
use Rattle.node_ops.specs.declared.part.PartWords.{PartWords}
use Rattle.index_core.specs.declared.party.CoreCall.TheVariants as call
use Rattle.pac_index.specs.Budgets.{TriedBack}
use Rattle.pac_index.specs.Calls.{PartAnswers}
use Rattle.pac_index.proofs.Repeating.{none_else, part_back_by, tries_end, tries_on, tries_start}
use Rattle.pac_index.proofs.shared.Shared.part_at_pace.Goals as goal

pub loop-init : goal.loop-init
loop-init g c = tries_start c.args.self.now (TriedBack (PartAnswers c.args.low c.args.count) c.args.caller.now.index) c.args.caller.now c.requires.may.0

pub loop-preserved : goal.loop-preserved
loop-preserved g c =
    let old = c.args.caller.now in
    let on = c.try_part.ensures in
    tries_on PartWords c.args.self.now (PartAnswers c.args.low c.args.count) (call.Part c.args.low c.args.count) old c.loop.caller c.try_part.new.caller c.try_part.result (part_back_by c.args.low c.args.count old.index) c.loop.invariant
    (sym c.ended.ensures ∙ none_else c.ended.result c.in_default.not-Some) on.stays on.tried on.paid on.spare

pub returns-in-Some-ended-clause-done : goal.returns-in-Some-ended-clause-done
returns-in-Some-ended-clause-done g c =
    tries_end PartWords c.args.self.now (PartAnswers c.args.low c.args.count) (call.Part c.args.low c.args.count) c.args.caller.now c.loop.caller c.try_part.new.caller c.try_part.result c.in-Some-ended.ended
    (λ n clock v w spent. spent.looks.says.reached) c.loop.invariant (sym c.ended.ensures ∙ c.in-Some-ended.is) c.try_part.ensures.tried
