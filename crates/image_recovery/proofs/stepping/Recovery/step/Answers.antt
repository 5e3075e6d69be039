use Rattle.std.proofs.Common.{◌≡◌, ◌+◌, ◌<◌, ◌⊎◌, suc, inl, inr, arith, Option, ◌∙◌, sym, subst, ap}
use Rattle.pm_words.specs.declared.machine.Turn.TheVariants.{Go, Done}
use Rattle.pm_words.specs.Images.{Row}
use Rattle.image_recovery.specs.declared.making.Making.{Making}
use Rattle.image_recovery.specs.Recoveries.{IsRecoveringAt, moves_left, actions_left}
use Rattle.image_recovery.specs.Makings.{making_left}
use Rattle.image_recovery.proofs.RecoveringLemmas.{move_acts, move_goes}
use Rattle.image_recovery.proofs.stepping.Recovery.step.Goals as goal
use Rattle.image_recovery.proofs.stepping.Recovery.step.Goals.{in-Go, in-Done}

pub act-got-requires : goal.act-got-requires
act-got-requires g c =
    let one = c.in-Some.ensures.at c.requires.image c.requires.recoverable c.requires.recovering in
    move_acts c.requires.image c.requires.recoverable c.args.memory.now c.in-Some.making (moves_left c.current.new.self) c.action.result one.layout c.action.ensures one.here

pub returns-clause-goes : goal.returns-clause-goes
returns-clause-goes g c = λ image recoverable recovering.
    let rest = moves_left c.current.new.self in
    let one = c.in-Some.ensures.at image recoverable recovering in
    let layout = ap (λ (r : Row). r.layout) c.act-got.ensures.row ∙ one.layout in
    elim c.match-resume.branch as (λ _. IsRecoveringAt image c.act-got.new.self rest c.match-resume.self) [
      | in-Go w ↦ subst (λ (m : Option Making). IsRecoveringAt image c.act-got.new.self rest m) (sym w.self-is) (record {
        layout = layout;
        here = move_goes image recoverable c.args.memory.now c.act-got.new.self c.in-Some.making rest c.action.result c.act-got.result (Go w.in-Go.next) one.layout c.action.ensures one.here
            c.act-got.ensures.row c.act-got.ensures.got (sym c.resume.ensures.turned ∙ w.in-Go.is);
      })
      | in-Done w ↦ subst (λ (m : Option Making). IsRecoveringAt image c.act-got.new.self rest m) (sym w.self-is) (record {
        layout = layout;
        between = move_goes image recoverable c.args.memory.now c.act-got.new.self c.in-Some.making rest c.action.result c.act-got.result (Done w.in-Done.field-0) one.layout c.action.ensures one.here
            c.act-got.ensures.row c.act-got.ensures.got (sym c.resume.ensures.turned ∙ w.in-Done.is);
      })
    ]

pub returns-clause-nearer : goal.returns-clause-nearer
returns-clause-nearer g c = λ _.
    let old = c.args.self.now in
    let taken = c.in-Some.ensures.taken in
    let fewer : actions_left c.match-resume.self < suc (making_left c.in-Some.making) = elim c.match-resume.branch as (λ _. actions_left c.match-resume.self < suc (making_left c.in-Some.making)) [
      | in-Go w ↦ let less : making_left w.in-Go.next < making_left c.in-Some.making = w.in-Go.ensures.fewer in subst (λ (m : Option Making). actions_left m < suc (making_left c.in-Some.making)) (sym w.self-is) (omega arith)
      | in-Done w ↦ subst (λ (m : Option Making). actions_left m < suc (making_left c.in-Some.making)) (sym w.self-is) (omega arith)
    ] in
    record {
      moves = taken.moves;
      nearer = elim taken.which as (λ _. (old.begun < c.current.new.self.begun) ⊎ ((c.current.new.self.begun ≡ old.begun) × (actions_left c.match-resume.self < actions_left old.making))) [
        | inl same ↦ inr (same.0, subst (λ (m : Option Making). actions_left c.match-resume.self < actions_left m) (sym same.1) fewer)
        | inr more ↦ inl (let up : c.current.new.self.begun ≡ old.begun + 1 = more.0 in omega arith)
      ];
    }
