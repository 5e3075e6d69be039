use Rattle.std.proofs.Common.{◌≡◌, ℕ, ◌-◌, ◌^◌, sym, subst, ap, ◌∙◌}
use Rattle.pm_words.specs.declared.layout.Layout.{Layout}
use Rattle.pm_words.specs.declared.action.Action.{Action}
use Rattle.pm_words.specs.declared.machine.Turn.{Turn}
use Rattle.pm_words.specs.declared.machine.Turn.TheVariants.{Go, Done}
use Rattle.call_stages.specs.Kinds.{Told}
use Rattle.data_list.specs.declared.target.Walked.{Walked}
use Rattle.data_list.specs.declared.walk.Walk.{Walk}
use Rattle.data_list.specs.Walks.{IsWalk, walk_asks, walk_turned}
use Rattle.data_list.specs.WalkStages.{walk_stage}
use Rattle.data_list.specs.Laws.{Walks}
use Rattle.data_list.proofs.WalkLaw.{walks_are_looks}
use Rattle.tests_words.proofs.tests.nodes.walks.target_of.Invariants.{IsOn}
use Rattle.tests_words.proofs.tests.nodes.walks.target_of.Goals as goal

pub turns-init : goal.turns-init
turns-init c =
    let new = c.new-walk.ensures.new in
    record { sound = c.new-walk.ensures.sound; layout = ap (λ (w : Walk). w.layout) new; last = ap (λ (w : Walk). w.generation) new }

pub action-action-requires : goal.action-action-requires
action-action-requires c = c.turns.invariant.sound

-- what may be told on this layout and in the last generation may be told to a walk there
may_take : (l : Layout) (walk : Walk) (action : Action) (got : ℕ) → IsOn l walk → action ≡ walk_asks walk → Told l (2 ^ 24 - 1) action got → Told walk.layout walk.generation (walk_asks walk) got
may_take l walk action got is asks told =
    let asked : Told l (2 ^ 24 - 1) (walk_asks walk) got = subst (λ (a : Action). Told l (2 ^ 24 - 1) a got) asks told in
    let last : Told l walk.generation (walk_asks walk) got = subst (λ (n : ℕ). Told l n (walk_asks walk) got) (sym is.last) asked in
    subst (λ (m : Layout). Told m walk.generation (walk_asks walk) got) (sym is.layout) last

pub resume-requires : goal.resume-requires
resume-requires c =
    (c.turns.invariant.sound, may_take c.args.layout c.turns.walk c.action-action.result c.in-Some.got c.turns.invariant c.action-action.ensures c.in-Some.ensures)

goes_on : (l : Layout) (walk next : Walk) (x : ℕ) → IsOn l walk → Told walk.layout walk.generation (walk_asks walk) x → walk_turned walk x ≡ Go next → IsOn l next
goes_on l walk next x is told turned =
    let goes : Walks walk.layout walk.generation walk.key (walk_stage walk) (walk_asks walk) x (Go next) = subst (λ (t : Turn Walk Walked). Walks walk.layout walk.generation walk.key (walk_stage walk) (walk_asks walk) x t) turned (walks_are_looks walk x is.sound told) in
    record { sound = goes.1; layout = goes.2 ∙ is.layout; last = goes.3 ∙ is.last }

pub turns-preserved : goal.turns-preserved
turns-preserved c =
    let told = may_take c.args.layout c.turns.walk c.action-action.result c.in-Some.got c.turns.invariant c.action-action.ensures c.in-Some.ensures in
    goes_on c.args.layout c.turns.walk c.in-Go.next c.in-Some.got c.turns.invariant told (sym c.resume.ensures.turned ∙ c.in-Go.is)
