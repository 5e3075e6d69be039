-- The last of some rounds, and what is EMPTY behind its turn.
use Rattle.std.proofs.Common.{◌≡◌, ℕ, ◌+◌, ◌<◌, List, [], ◌∷◌, ◌++◌, length, take, get_or, sym, subst}
use Rattle.std.proofs.lemmas.List.{take_more}
use Rattle.cat_history.specs.declared.plan.RoundPlan.{RoundPlan}
use Rattle.core_rounds.specs.Rounds.{EndsWithTurn, RoundsEndWithTurn}

-- of rounds with one behind them that one is the last
ends-behind : (plans : List RoundPlan) (plan : RoundPlan) → RoundsEndWithTurn (plans ++ plan ∷ []) → EndsWithTurn plan
ends-behind [] plan ends = ends
ends-behind (first ∷ []) plan ends = ends
ends-behind (first ∷ next ∷ plans) plan ends = ends-behind (next ∷ plans) plan ends

pub last-ends : (plans : List RoundPlan) (index : ℕ) (plan : RoundPlan) → index < length plans → plan ≡ get_or plans index plan → RoundsEndWithTurn (take (index + 1) plans) → EndsWithTurn plan
last-ends plans index plan within is ends =
    ends-behind (take index plans) plan (subst (λ (p : RoundPlan). RoundsEndWithTurn (take index plans ++ p ∷ [])) (sym is) (subst RoundsEndWithTurn (take_more plans index plan within) ends))
