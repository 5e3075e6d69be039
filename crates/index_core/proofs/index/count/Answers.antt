use Rattle.std.proofs.Common.{◌≡◌, ℕ, refl, sym, ap, ◌∙◌}
use Rattle.std.specs.Prelude.{◌++◌, Option, Some, None, IfSome}
use Rattle.std.proofs.lemmas.List.{append-nil}
use Rattle.cat_history.specs.declared.op.Change.{Change}
use Rattle.pm_words.specs.declared.action.Action.{Action}
use Rattle.pm_words.specs.declared.action.Action.TheVariants.{Load, Store, Exchange, Add, Drain}
use Rattle.call_stages.specs.Stages.{counted}
use Rattle.node_ops.specs.CallStages.{stage_of}
use Rattle.index_law.specs.Worlds.{written}
use Rattle.index_core.specs.Cores.{IsAdd}
use Rattle.index_core.proofs.index.count.Goals as goal

-- what counts nothing but where it adds counts nothing elsewhere
none_elsewhere : (a : Action) (change : Option Change) → IfSome change (λ _. IsAdd a) → ((address : ℕ) → a ≡ Add address → ⊥) → None ≡ change
none_elsewhere a None adds other = refl
none_elsewhere (Add address) (Some change) adds other = absurd (other address refl)
none_elsewhere (Load address) (Some change) adds other = absurd adds
none_elsewhere (Store address word) (Some change) adds other = absurd adds
none_elsewhere (Exchange address old new) (Some change) adds other = absurd adds
none_elsewhere (Drain address word) (Some change) adds other = absurd adds

pub returns-in_default-clause-items : goal.returns-in_default-clause-items
returns-in_default-clause-items c =
    let none = none_elsewhere c.args.action (counted (stage_of c.args.machine.now)) c.requires.adds c.in_default.not-Add in
    sym (ap (λ (change : Option Change). c.args.history.now.items ++ written c.args.caller c.args.index change) (sym none) ∙ append-nil c.args.history.now.items)
