use Rattle.std.proofs.Common.{◌≡◌, ◌<◌, ◌≤◌, ◌+◌, ℕ, List, refl, sym, subst, ◌∙◌, arith}
use Rattle.pm_words.specs.declared.layout.Layout.{Layout}
use Rattle.pm_words.specs.declared.machine.Turn.TheVariants.{Go, Done}
use Rattle.pm_words.specs.Rows.{CanAct, got, acted}
use Rattle.layer_map.specs.Layers.{Layer, node_of}
use Rattle.tree_update.proofs.Doing.{turned_by, words_by, layout_by}
use Rattle.layer_map.specs.Keys.{key_number}
use Rattle.tree_update.specs.Changes.{change_asks, change_turned, change_left, change_most}
use Rattle.tree_update.specs.Kinds.{KeepsOthers}
use Rattle.tree_update.specs.declared.change.Change.{Change}
use Rattle.tree_update.specs.Stages.{Aim, aim_of}
use Rattle.tree_update.specs.Runs.{layer_in}
use Rattle.tree_update.specs.Alone.{IsChanged}
use Rattle.tree_update.proofs.RunLaw.{OnRun, starts_on, starts_left, can_on, goes_on, others_on, ends_on}
use Rattle.tree_update.proofs.alone.run_alone.Goals as goal

-- what stays along the run
others : (l : Layout) (before : Layer) (aim : Aim) (change : Change) (words now : List ℕ) → OnRun l before aim change now → KeepsOthers l words now → KeepsOthers l words (acted l now (change_asks change))
others l before aim change words now on so_far p has other = others_on l before aim change now on p has other ∙ so_far p has other

pub turns-init : goal.turns-init
turns-init g c =
    let l = c.args.memory.now.layout in
    let words = c.args.memory.now.words in
    let first = c.args.change in
    let left = starts_left l first c.requires.start in
    record {
      layout = refl;
      on = starts_on l words first (record { row = c.layout-row.ensures.row; rest = c.requires.rest; start = c.requires.start; sound = c.requires.sound; rooted = c.requires.rooted });
      others = λ p has other. refl;
      steps = omega arith;
    }

pub act-got-requires : goal.act-got-requires
act-got-requires g c =
    let l = c.args.memory.now.layout in
    let row = c.turns.memory in
    subst (CanAct row.layout row.words) (sym c.action.ensures) (subst (λ (k : Layout). CanAct k row.words (change_asks c.turns.change)) (sym c.turns.invariant.layout)
    (can_on l (layer_in l c.args.memory.now.words) (aim_of c.args.change) c.requires.rooted c.turns.change row.words c.turns.invariant.on))

pub turns-preserved : goal.turns-preserved
turns-preserved g c =
    let l = c.args.memory.now.layout in
    let words = c.args.memory.now.words in
    let before = layer_in l words in
    let change = c.turns.change in
    let row = c.turns.memory in
    let is : change_turned change (got l row.words (change_asks change)) ≡ Go c.in-Go.next =
    turned_by (change_turned change) l row (change_asks change) c.action.result c.act-got.result c.turns.invariant.layout c.action.ensures c.act-got.ensures.got c.resume.ensures.turned c.in-Go.is in
    let next = goes_on l before (aim_of c.args.change) c.requires.rooted change c.in-Go.next row.words c.turns.invariant.on is in
    let after = words_by l row c.act-got.new.self (change_asks change) c.action.result c.turns.invariant.layout c.action.ensures c.act-got.ensures.row in
    let fewer : change_left c.in-Go.next < change_left change = c.in-Go.ensures.fewer in
    let steps : c.turns.steps + change_left change ≤ c.args.steps.now + change_most l = c.turns.invariant.steps in
    record {
      layout = layout_by l row c.act-got.new.self c.action.result c.turns.invariant.layout c.act-got.ensures.row;
      on = subst (λ (ws : List ℕ). OnRun l before (aim_of c.args.change) c.in-Go.next ws) (sym after) next;
      others = subst (λ (ws : List ℕ). KeepsOthers l words ws) (sym after)
          (others l before (aim_of c.args.change) change words row.words c.turns.invariant.on c.turns.invariant.others);
      steps = omega (arith, c.act-got.ensures.tick);
    }

pub returns-in-Done-clause-changed : goal.returns-in-Done-clause-changed
returns-in-Done-clause-changed g c =
    let l = c.args.memory.now.layout in
    let words = c.args.memory.now.words in
    let before = layer_in l words in
    let change = c.turns.change in
    let row = c.turns.memory in
    let is : change_turned change (got l row.words (change_asks change)) ≡ Done c.in-Done.field-0 =
    turned_by (change_turned change) l row (change_asks change) c.action.result c.act-got.result c.turns.invariant.layout c.action.ensures c.act-got.ensures.got c.resume.ensures.turned c.in-Done.is in
    let end = ends_on l before (aim_of c.args.change) c.requires.rooted c.requires.few change row.words c.in-Done.field-0 c.turns.invariant.on is in
    let after = words_by l row c.act-got.new.self (change_asks change) c.action.result c.turns.invariant.layout c.action.ensures c.act-got.ensures.row in
    subst (λ (ws : List ℕ). IsChanged l (key_number c.args.change.key) (node_of c.args.change.word) words ws) (sym after)
    (record {
      layer = end.1;
      rest = end.2;
      others = others l before (aim_of c.args.change) change words row.words c.turns.invariant.on c.turns.invariant.others;
    })
