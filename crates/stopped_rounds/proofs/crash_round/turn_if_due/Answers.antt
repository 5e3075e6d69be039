use Rattle.std.proofs.Common.{◌≡◌, ◌≢◌, ◌%◌, ⊎_elim, arith}
use Rattle.stopped_rounds.proofs.crash_round.turn_if_due.Goals as goal

pub returns-then-calls-turns-eq0-clause-none : goal.returns-then-calls-turns-eq0-clause-none
returns-then-calls-turns-eq0-clause-none g c = λ none. absurd (⊎_elim
    (λ (never : c.args.turns ≡ 0). omega (arith, never, c.if-turns-ne0.true))
    (λ (other : c.args.calls % c.args.turns ≢ 0). other c.if-calls-turns-eq0.true)
    none)

pub returns-then-calls-turns-eq0-clause-due : goal.returns-then-calls-turns-eq0-clause-due
returns-then-calls-turns-eq0-clause-due g c = λ more left_so some zero often behind empty room paid. c.turn.ensures.in_time c.args.turns more often behind empty room paid
