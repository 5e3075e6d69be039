-- A look-up that is alone until it is at its node: its floor, its walk, and what it does there first.
use Rattle.std.proofs.Common.{◌≡◌, ℕ, ◌<◌, Some, refl, ap, sym, subst, ◌∙◌}
use Rattle.pm_words.specs.declared.machine.Turn.TheVariants.{Go, Done}
use Rattle.pm_words.specs.Images.{Row}
use Rattle.pm_words.specs.Layouts.{IsLayout}
use Rattle.pm_words.specs.Rows.{got}
use Rattle.data_list.specs.declared.walk.Walk.{Walk}
use Rattle.data_list.specs.declared.target.Target.{Target}
use Rattle.data_list.specs.declared.target.Walked.{Walked}
use Rattle.data_list.specs.declared.target.Walked.TheVariants as walked
use Rattle.data_list.specs.Arrivals.{Arrives}
use Rattle.data_list.specs.Laws.{Walks}
use Rattle.data_list.specs.WalkStages.{walk_stage}
use Rattle.data_list.specs.Walks.{WasFree, walk_asks, walk_left, walk_takes, walk_turned}
use Rattle.data_list.proofs.WalkLaw.{walks_are_looks}
use Rattle.tree_floor.specs.declared.floor.Floor.{Floor}
use Rattle.tree_floor.specs.Floors.{floor_asks, floor_left, floor_takes, floor_turned}
use Rattle.call_stages.specs.Views.{IsView}
use Rattle.machine_runs.specs.Runs.{Bursts, MayGo}
use Rattle.machine_runs.proofs.Inside.{burst_inside, may_inside, told_inside}
use Rattle.machine_runs.proofs.Running.{burst_may}
use Rattle.node_ops.specs.declared.call.Call.{Call}
use Rattle.node_ops.specs.declared.lookup.Lookup.{Lookup}
use Rattle.node_ops.specs.declared.lookup.LookupAt.{LookupAt}
use Rattle.node_ops.specs.declared.lookup.LookupAt.TheVariants as at
use Rattle.node_ops.specs.declared.lookup.Looked.{Looked}
use Rattle.node_ops.specs.LookupSteps.{IsWalking, floored, goes_to, walked_on}
use Rattle.node_ops.specs.LookupSteps.{lookup_takes}
use Rattle.node_ops.specs.Bursts.{LookupBursts}
use Rattle.node_ops.specs.Looking.{IsTargetAt, LooksFrom, MayLookFrom, MayWork, Works}
use Rattle.node_ops.proofs.Bursting.{holds_floor, holds_walk, walk_told}
use Rattle.node_ops.proofs.Leading.{burst_looks}
use Rattle.node_ops.proofs.Measures.{floor_ends_within}

-- what is known of a look-up in this state
pub look_at : {old : Row} (l : Lookup) {a : LookupAt} → l.at ≡ a → MayLookFrom old (Go l)
    → MayLookFrom old (goes_to l.call a)
look_at {old} l is = subst (λ (a : LookupAt). MayLookFrom old (goes_to l.call a)) is

pub looked_at : {old new : Row} (l last : Lookup) {a : LookupAt} → l.at ≡ a → {answer : Looked} {begun ended : ℕ}
    → LooksFrom old new l.call (goes_to l.call a) last.call answer begun ended
    → LookupBursts old new l last (Some answer) begun ended
looked_at {old} {new} l last is {answer} {begun} {ended} looks =
    subst (λ (a : LookupAt).
    LookupBursts old new (record { call = l.call; at = a }) last (Some answer) begun ended) (sym is)
    (record { burst = looks.0; call = looks.1 })

-- its floor ends at a node of the layout, from where it walks
module _ (call : Call) (floor : Floor) {old : Row} (may : MayLookFrom old (goes_to call (at.Floor floor))) where
  pub floor_may : MayGo floor_asks floor_turned floor_left floor_takes old.layout old.words floor
  floor_may = may_inside (holds_floor call) old.layout old.words floor may

  module _ {now : Row} {node begun steps : ℕ}
      (b : Bursts floor_asks floor_turned floor_left old now floor (Done node) begun steps) where
    floor_told : lookup_takes (record { call = call; at = at.Floor b.last }) (got old.layout b.now (floor_asks b.last))
    floor_told = told_inside (holds_floor call) old.layout old.words floor may b.before

    floor_ends : floored call (floor_turned b.last (got old.layout b.now (floor_asks b.last)))
        ≡ floored call (Done node)
    floor_ends = ap (floored call) (sym b.ends)

    pub floor_layout : IsLayout call.view.layout
    floor_layout = floor_told.0.call.view.layout

    pub floor_node : node < call.view.layout.nodes
    floor_node =
        floor_ends_within call (at.Floor b.last) b.last _ node refl floor_told.0.here floor_told.1.fits (sym b.ends)

    pub floor_then : MayLookFrom now (floored call (Done node))
    floor_then =
        burst_may lookup_takes (floored call (Done node)) may (burst_inside (holds_floor call) may b floor_ends)

    pub floor_looks : {new : Row} {last : Call} {answer : Looked} {ended : ℕ}
        → LooksFrom now new call (floored call (Done node)) last answer steps ended
        → LooksFrom old new call (goes_to call (at.Floor floor)) last answer begun ended
    unfolding burst_inside
    floor_looks rest =
        burst_looks (floored call (Done node)) (burst_inside (holds_floor call) may b floor_ends) refl rest

-- its walk ends at a target whose version word was free, or without one
module _ (call : Call) {walk start : Walk} (is : walk ≡ start) {old : Row}
    (may : MayLookFrom old (goes_to call (at.Walk start))) where
  walk_here : MayLookFrom old (goes_to call (at.Walk walk))
  walk_here = subst (λ (w : Walk). MayLookFrom old (goes_to call (at.Walk w))) (sym is) may

  pub walk_may : MayGo walk_asks walk_turned walk_left walk_takes old.layout old.words walk
  walk_may = may_inside (holds_walk call) old.layout old.words walk walk_here

  module _ {now : Row} {ran end : Walked} {begun steps : ℕ} (to : ran ≡ end)
      (b : Bursts walk_asks walk_turned walk_left old now walk (Done ran) begun steps) where
    walk_takes_there : lookup_takes (record { call = call; at = at.Walk b.last })
        (got old.layout b.now (walk_asks b.last))
    walk_takes_there = told_inside (holds_walk call) old.layout old.words walk walk_here b.before

    walk_ends : walk_turned b.last (got old.layout b.now (walk_asks b.last)) ≡ Done end
    walk_ends = sym b.ends ∙ ap (λ (w : Walked). Done w) to

    pub walk_view : IsView call.view
    walk_view = walk_takes_there.0.call.view

    pub walk_then : MayLookFrom now (walked_on call (Done end))
    walk_then =
        burst_may lookup_takes (walked_on call (Done end)) walk_here
        (burst_inside (holds_walk call) walk_here b (ap (walked_on call) walk_ends))

    pub walk_looks : {new : Row} {last : Call} {answer : Looked} {ended : ℕ}
        → LooksFrom now new call (walked_on call (Done end)) last answer steps ended
        → LooksFrom old new call (goes_to call (at.Walk start)) last answer begun ended
    unfolding burst_inside
    walk_looks {new} {last} {answer} {ended} rest =
        subst (λ (w : Walk). LooksFrom old new call (goes_to call (at.Walk w)) last answer begun ended) is
        (burst_looks (walked_on call (Done end))
        (burst_inside (holds_walk call) walk_here b (ap (walked_on call) walk_ends)) refl rest)

  pub walk_free : {now : Row} {ran : Walked} {target : Target} {begun steps : ℕ} → ran ≡ walked.Target target
      → Bursts walk_asks walk_turned walk_left old now walk (Done ran) begun steps
      → WasFree call.view.generation target.version
  walk_free {target = target} to b =
      let told = walk_takes_there to b in
      let number = got old.layout b.now (walk_asks b.last) in
      let sound : IsWalking call b.last = told.0.here in
      subst (λ (g : ℕ). WasFree g target.version) sound.generation
      (subst (Walks b.last.layout b.last.generation b.last.key (walk_stage b.last) (walk_asks b.last) number)
      (walk_ends to b)
      (walks_are_looks b.last number sound.sound (walk_told call b.last number sound told.1))).1.seen.free

-- it has come to its target
module _ (call : Call) {walk start : Walk} (is : walk ≡ start) {old : Row}
    (may : MayLookFrom old (goes_to call (at.Walk start))) {now : Row} {last : Walk} {version begun steps : ℕ}
    (b : Arrives old now walk last version begun steps) where
  pub arrives_view : IsView call.view
  arrives_view = walk_view call is may refl b.burst

  pub arrives_free : WasFree call.view.generation version
  arrives_free =
      subst (WasFree call.view.generation) b.here.version_is (walk_free call is may refl b.burst)

  module _ {node hops : ℕ} (node_is : node ≡ last.node) (hops_are : hops ≡ last.hops) where
    arrives_at : IsTargetAt node hops version b.target
    arrives_at = record {
      node_is = b.here.node ∙ sym node_is;
      hops_are = b.here.hops ∙ sym hops_are;
      version_is = b.here.version_is;
    }

    pub arrives_then : MayWork now call node hops version
    arrives_then = (b.target, arrives_at, walk_then call is may refl b.burst)

    pub arrives_looks : {new : Row} {end : Call} {answer : Looked} {ended : ℕ}
        → Works now new call node hops version end answer steps ended
        → LooksFrom old new call (goes_to call (at.Walk start)) end answer begun ended
    arrives_looks works =
        walk_looks call is may refl b.burst
        (works b.target arrives_at (walk_then call is may refl b.burst))
