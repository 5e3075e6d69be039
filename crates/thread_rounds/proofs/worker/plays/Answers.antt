use Rattle.std.proofs.Common.{◌≡◌, ℕ, ◌<◌, List, [], sym, ap, subst, ◌∙◌, arith}
use Rattle.std.specs.Prelude.{All, None}
use Rattle.cat_history.specs.declared.op.CallerOp.{CallerOp}
use Rattle.cat_history.specs.declared.op.Op.{Op}
use Rattle.cat_history.specs.declared.record.Record.{Record}
use Rattle.pac_index.specs.Kept.{placed_by}
use Rattle.pac_index.specs.Callers.{IsAtRest, seen_by}
use Rattle.thread_rounds.specs.Played.{HasPlayed, budget_of}
use Rattle.thread_rounds.proofs.Playing.{nothing-played, asked-none, unbounded-joined}
use Rattle.thread_rounds.proofs.worker.plays.Goals as goal

pub returns-else-number-callers : goal.returns-else-number-callers
returns-else-number-callers g c =
    let number = c.args.caller.number in
    let plan = c.args.plan.now in
    let turned = c.makes_turns-caller.result in
    let read = c.makes_turns-caller.ensures.read in
    let last : number ≡ c.args.shared.now.about.layout.callers =
    let below = c.if-number-callers.false in let within = c.requires.caller.within in omega (arith, below, within, c.number.ensures, ap (λ l. l.callers) c.layout.ensures.layout, c.callers.ensures) in
    let few : All (λ (a : CallerOp). a.caller < number) plan.ops = subst (λ (n : ℕ). All (λ (a : CallerOp). a.caller < n) plan.ops) (sym last) c.requires.callers in
    let none : placed_by number (seen_by turned).seen ≡ [] =
    subst (λ (k : ℕ). placed_by k (seen_by turned).seen ≡ placed_by k (seen_by c.args.caller).seen) c.requires.caller.number read.own ∙ ap (placed_by number) c.requires.new.seen in
    let rests : budget_of plan.crash number ≡ None → IsAtRest turned = λ is. c.makes_turns-caller.ensures.rests (unbounded-joined plan.crash number is) in
    record {
      of = c.makes_turns-caller.ensures.stays.0;
      number = c.makes_turns-caller.ensures.stays.1;
      has = subst (λ (l : List Op). HasPlayed plan.limit number (budget_of plan.crash number) l turned c.new.result.items) (sym (asked-none number plan.ops few))
          (subst (λ (l : List Record). HasPlayed plan.limit number (budget_of plan.crash number) [] turned l) (sym c.new.ensures.items)
          (nothing-played plan.limit number (budget_of plan.crash number) turned none (read.added ∙ c.requires.new.added) c.makes_turns-caller.ensures.uncut rests));
    }

pub makes_calls-requires-clause-may : goal.makes_calls-requires-clause-may
makes_calls-requires-clause-may g c κs lives =
    let below = c.if-number-callers.true in
    (c.requires.caller, omega (arith, below, c.number.ensures, ap (λ l. l.callers) c.layout.ensures.layout, c.callers.ensures))

pub returns-then-number-callers : goal.returns-then-number-callers
returns-then-number-callers g c = c.makes_calls.ensures
