use Rattle.std.proofs.Common.{◌∙◌, refl, sym, ap}
use Rattle.pm_words.specs.declared.machine.Turn.TheVariants.{Go, Done}
use Rattle.pm_words.specs.Images.{Row}
use Rattle.image_recovery.proofs.RecoveringLemmas.{move_acts, move_goes}
use Rattle.image_recovery.proofs.recovering.finish.Goals as goal

pub turns-init : goal.turns-init
turns-init g c = record { layout = refl; at = λ image rest recoverable one. one.here }

pub action-requires : goal.action-requires
action-requires g c = (c.turns.invariant.at c.requires.image c.requires.rest c.requires.recoverable c.requires.one).fits

pub act-got-requires : goal.act-got-requires
act-got-requires g c =
    move_acts c.requires.image c.requires.recoverable c.turns.memory c.turns.making c.requires.rest c.action.result (c.turns.invariant.layout ∙ c.requires.one.layout) c.action.ensures
    (c.turns.invariant.at c.requires.image c.requires.rest c.requires.recoverable c.requires.one)

pub resume-requires : goal.resume-requires
resume-requires g c = ((c.turns.invariant.at c.requires.image c.requires.rest c.requires.recoverable c.requires.one).fits, c.act-got.type_inv)

pub turns-preserved : goal.turns-preserved
turns-preserved g c = record {
  layout = ap (λ (r : Row). r.layout) c.act-got.ensures.row ∙ c.turns.invariant.layout;
  at = λ image rest recoverable one.
      move_goes image recoverable c.turns.memory c.act-got.new.self c.turns.making rest c.action.result c.act-got.result (Go c.in-Go.later) (c.turns.invariant.layout ∙ one.layout) c.action.ensures
      (c.turns.invariant.at image rest recoverable one) c.act-got.ensures.row c.act-got.ensures.got (sym c.resume.ensures.turned ∙ c.in-Go.is);
}

pub returns-in-Done : goal.returns-in-Done
returns-in-Done g c = λ image rest recoverable one. record {
  layout = ap (λ (r : Row). r.layout) c.act-got.ensures.row ∙ c.turns.invariant.layout ∙ one.layout;
  between =
      move_goes image recoverable c.turns.memory c.act-got.new.self c.turns.making rest c.action.result c.act-got.result (Done c.in-Done.field-0) (c.turns.invariant.layout ∙ one.layout) c.action.ensures
      (c.turns.invariant.at image rest recoverable one) c.act-got.ensures.row c.act-got.ensures.got (sym c.resume.ensures.turned ∙ c.in-Done.is);
}
