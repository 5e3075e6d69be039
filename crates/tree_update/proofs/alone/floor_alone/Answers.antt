use Rattle.std.proofs.Common.{◌≡◌, ◌<◌, ◌≤◌, ◌+◌, ℕ, List, refl, sym, ap, ◌∙◌, subst, arith}
use Rattle.pm_words.specs.declared.layout.Layout.{Layout}
use Rattle.pm_words.specs.declared.action.Action.{Action}
use Rattle.pm_words.specs.declared.machine.Turn.{Turn}
use Rattle.pm_words.specs.declared.machine.Turn.TheVariants.{Go, Done}
use Rattle.pm_words.specs.Images.{Row}
use Rattle.pm_words.specs.Rows.{CanAct, got, acted}
use Rattle.tree_floor.specs.declared.floor.Floor.{Floor}
use Rattle.tree_floor.specs.Floors.{floor_starts, floor_asks, floor_turned, floor_left, floor_most}
use Rattle.tree_update.proofs.LoneFloor.{lone_starts, starts_left, lone_can, lone_turns, keeps_words}
use Rattle.tree_update.proofs.alone.floor_alone.Goals as goal

-- its turn, by the words of the row that it began on
turn_is : (start row : Row) (floor : Floor) (done : Action) (number : ℕ) (turn : Turn Floor ℕ) → row ≡ start → done ≡ floor_asks floor → number ≡ got row.layout row.words done → turn ≡ floor_turned floor number → floor_turned floor (got start.layout start.words (floor_asks floor)) ≡ turn
turn_is start row floor done number turn is asked told turned = ap (λ (n : ℕ). floor_turned floor n) (sym told_same) ∙ sym turned
  where
    told_same : number ≡ got start.layout start.words (floor_asks floor)
    told_same = told ∙ ap (λ (a : Action). got row.layout row.words a) asked ∙ ap (λ (m : Row). got m.layout m.words (floor_asks floor)) is

pub turns-init : goal.turns-init
turns-init g c =
    let start = c.args.memory.now in
    let starts = c.new-floor.ensures.start ∙ ap (λ (l : Layout). floor_starts l c.args.key) c.layout.ensures.layout in
    record {
      memory = refl;
      row = c.layout.ensures.row;
      lone = lone_starts start.layout c.args.key start.words c.new-floor.result c.layout.ensures.row starts c.new-floor.ensures.sound c.requires;
      steps = omega (arith, starts_left start.layout c.args.key c.new-floor.result starts);
    }

pub act-got-requires : goal.act-got-requires
act-got-requires g c =
    let start = c.args.memory.now in
    let floor = c.turns.floor in
    subst (CanAct c.turns.memory.layout c.turns.memory.words) (sym c.action.ensures)
    (subst (λ (m : Row). CanAct m.layout m.words (floor_asks floor)) (sym c.turns.invariant.memory) (lone_can start.layout c.args.key start.words floor c.turns.invariant.lone))

pub turns-preserved : goal.turns-preserved
turns-preserved g c =
    let start = c.args.memory.now in
    let floor = c.turns.floor in
    let is : floor_turned floor (got start.layout start.words (floor_asks floor)) ≡ Go c.in-Go.next =
    turn_is start c.turns.memory floor c.action.result c.act-got.result c.resume.result c.turns.invariant.memory c.action.ensures c.act-got.ensures.got c.resume.ensures.turned ∙ c.in-Go.is in
    let fewer : floor_left c.in-Go.next < floor_left floor = c.in-Go.ensures.fewer in
    let before : c.turns.steps + floor_left floor ≤ c.args.steps.now + floor_most = c.turns.invariant.steps in
    record {
      memory = c.act-got.ensures.row
          ∙ ap (λ (ws : List ℕ). record { layout = c.turns.memory.layout; words = ws })
          (ap (λ (a : Action). acted c.turns.memory.layout c.turns.memory.words a) c.action.ensures ∙ keeps_words c.turns.memory.layout c.turns.memory.words floor)
          ∙ c.turns.invariant.memory;
      row = c.turns.invariant.row;
      lone = lone_turns start.layout c.args.key start.words floor (Go c.in-Go.next) c.turns.invariant.row c.turns.invariant.lone is;
      steps = omega (arith, c.act-got.ensures.tick);
    }

pub returns-in-Done-clause-floor : goal.returns-in-Done-clause-floor
returns-in-Done-clause-floor g c =
    let start = c.args.memory.now in
    let floor = c.turns.floor in
    let is : floor_turned floor (got start.layout start.words (floor_asks floor)) ≡ Done c.in-Done.node =
    turn_is start c.turns.memory floor c.action.result c.act-got.result c.resume.result c.turns.invariant.memory c.action.ensures c.act-got.ensures.got c.resume.ensures.turned ∙ c.in-Done.is in
    lone_turns start.layout c.args.key start.words floor (Done c.in-Done.node) c.turns.invariant.row c.turns.invariant.lone is
