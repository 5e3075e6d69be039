use Rattle.std.proofs.Common.{◌↔◌, ◌∙◌, List, ℕ, All, refl, sym, subst}
use Rattle.std.specs.Prelude.{IsTrue}
use Rattle.std.proofs.lemmas.Bool.{false≢true}
use Rattle.std.proofs.lemmas.Result.{IfOk-weaker}
use Rattle.cat_history.specs.CrashRounds.{StopsOnce, KeepsBudget, ReplySays}
use Rattle.cat_history.specs.Maps.{Map}
use Rattle.cat_history.specs.declared.record.Record.{Record}
use Rattle.transcript.specs.Ends.{end_told}
use Rattle.transcript.specs.Rules.{EndsAsSaid}
use Rattle.transcript.proofs.RuleLaws.{is_left, left_is}
use Rattle.transcript.proofs.ends.ends_as_said.Goals as goal
use Rattle.transcript.proofs.ends.ends_as_said.Goals.{then-not-all_keep_budgets-via-then-not-all_keep_budgets, then-not-all_keep_budgets-via-else-not-all_keep_budgets+then-not-all_say}

pub returns-then-not-all_keep_budgets : goal.returns-then-not-all_keep_budgets
returns-then-not-all_keep_budgets c = λ base writes is. (
  λ no. absurd (false≢true no),
  λ ends.
      let told = c.args.told.now in
      let stops = ends.crashed c.if-not-end.false in
      elim c.then-not-all_keep_budgets.branch [
        | then-not-all_keep_budgets-via-then-not-all_keep_budgets w ↦
            absurd (false≢true (sym w.if-not-all_keep_budgets.true ∙ c.all_keep_budgets.ensures.1 (subst (λ (budgets : List ℕ). All (KeepsBudget budgets) told) (sym c.as_slice.ensures) stops.budget)))
        | then-not-all_keep_budgets-via-else-not-all_keep_budgets+then-not-all_say w ↦
            let says : All (λ (r : Record). ReplySays (end_told base told writes) r.op r.reply) told =
            subst (λ (m : Map). All (λ (r : Record). ReplySays m r.op r.reply) told) (left_is base told writes stops.left.0 stops.left.1) stops.left.1.says in
            absurd (false≢true (sym w.if-not-all_say.true ∙ (w.all_say.ensures (end_told base told writes) is).1 says))
      ],
)

pub returns : goal.returns
returns c = λ base writes is.
    let told = c.args.told.now in
    let end = c.args.end.now in
    IfOk-weaker c.stop_once.result (λ yes. IsTrue yes ↔ StopsOnce told) (λ yes. IsTrue yes ↔ EndsAsSaid base told end writes)
    (λ yes once. (
      λ is_once. record {
        forms = c.all_have_form.ensures.0 c.if-not-all_have_form.false;
        joined = λ joined. absurd (false≢true (sym joined ∙ c.if-not-end.false));
        crashed = λ _. record {
          once = once.0 is_once;
          budget = subst (λ (budgets : List ℕ). All (KeepsBudget budgets) told) c.as_slice.ensures (c.all_keep_budgets.ensures.0 c.if-not-all_keep_budgets.false);
          left = (end_told base told writes, is_left base told writes (end_told base told writes) refl ((c.all_say.ensures (end_told base told writes) is).0 c.if-not-all_say.false));
        };
      },
      λ ends. once.1 (ends.crashed c.if-not-end.false).once,
    ))
    c.stop_once.ensures
