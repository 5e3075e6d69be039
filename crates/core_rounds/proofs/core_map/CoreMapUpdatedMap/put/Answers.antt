use Rattle.std.specs.FinMap.{insert}
use Rattle.shapes.specs.Anchors.{put_anchors}
use Rattle.cat_history.specs.Maps.{at}
use Rattle.std.proofs.Common.{◌+◌, ◌≤◌, refl, subst, arith, ◌≡◌, ◌<◌, sym}
use Rattle.std.specs.Prelude.{is_none}
use Rattle.shapes.specs.Anchors.{splits}
use Rattle.index_law.specs.Anchors.{anchors_in}
use Rattle.recovery.specs.index_core.specs.Indexes.{Index, map_of_index, world}
use Rattle.recovery.specs.index_core.specs.Weights.{weight_of}
use Rattle.core_rounds.specs.CoreMaps.{Waits, calls_left_of, writes_left_of}
use Rattle.core_rounds.specs.Updated.{WaitBehind}
use Rattle.core_rounds.specs.Waiting.{one_if}
use Rattle.core_rounds.proofs.CoreMaps.{few_names, on-err, put_adds, put_counted, same_counted, same_of}
use Rattle.core_rounds.proofs.CoreMaps.{stays_run, uses_of}
use Rattle.core_rounds.proofs.core_map.CoreMapUpdatedMap.put.Goals as goal

pub overflow_add-self : goal.overflow_add-self
overflow_add-self g c = let few = few_names c.self.inside.core c.self.inside.names c.self.invariant.0 in omega (arith, few)

pub invariant_of-self-then-is_none : goal.invariant_of-self-then-is_none
invariant_of-self-then-is_none g c = (
  put_counted c.self.inside.core c.call_alone.new.core c.args.name.now c.args.value c.self.inside.names _ c.in_ok-old.old _ c.self.invariant.0 c.call_alone.ensures.quiet
      c.in_ok-old.ensures.old c.in_ok-old.ensures.ok c.if-is_none.ensures refl,
  stays_run c.self.inside.core c.call_alone.new.core c.self.invariant.1 c.call_alone.ensures.quiet,
)

pub invariant_of-self-else-is_none : goal.invariant_of-self-else-is_none
invariant_of-self-else-is_none g c = (
  put_counted c.self.inside.core c.call_alone.new.core c.args.name.now c.args.value c.self.inside.names _ c.in_ok-old.old _ c.self.invariant.0 c.call_alone.ensures.quiet
      c.in_ok-old.ensures.old c.in_ok-old.ensures.ok c.if-is_none.ensures refl,
  stays_run c.self.inside.core c.call_alone.new.core c.self.invariant.1 c.call_alone.ensures.quiet,
)

-- a put that found no room leaves the map
pub invariant_of-self : goal.invariant_of-self
invariant_of-self g c = (
  same_counted c.self.inside.core c.call_alone.new.core c.self.inside.names c.self.invariant.0 c.call_alone.ensures.quiet c.in_err-old.ensures.err,
  stays_run c.self.inside.core c.call_alone.new.core c.self.invariant.1 c.call_alone.ensures.quiet,
)

pub returns-in_err-old-clause-err : goal.returns-in_err-old-clause-err
returns-in_err-old-clause-err g c = on-err c.from_residual.result _ (same_of c.self.inside.core _ c.call_alone.new.core c.self.view_is c.in_err-old.ensures.err)

pub returns-in_err-old-clause-uses : goal.returns-in_err-old-clause-uses
returns-in_err-old-clause-uses g c = uses_of c.self.inside.core _ c.call_alone.new.core c.self.view_is c.call_alone.ensures.quiet

pub returns-then-is_none-clause-uses : goal.returns-then-is_none-clause-uses
returns-then-is_none-clause-uses g c = uses_of c.self.inside.core _ c.call_alone.new.core c.self.view_is c.call_alone.ensures.quiet

pub returns-else-is_none-clause-uses : goal.returns-else-is_none-clause-uses
returns-else-is_none-clause-uses g c = uses_of c.self.inside.core _ c.call_alone.new.core c.self.view_is c.call_alone.ensures.quiet

pub returns-in_err-old-clause-err_waits : goal.returns-in_err-old-clause-err_waits
returns-in_err-old-clause-err_waits g c =
    on-err c.from_residual.result _ (subst (λ (s : Index). WaitBehind (Waits s) (Waits c.call_alone.new.core) 0 1 1) c.self.view_is c.in_err-old.ensures.err_waits)

pub returns-then-is_none-clause-waits : goal.returns-then-is_none-clause-waits
returns-then-is_none-clause-waits g c =
    subst (λ (s : Index). WaitBehind (Waits s) (Waits c.call_alone.new.core) (one_if (splits s.layout.slots (map_of_index s) (anchors_in (world s)) c.args.name.now)) 1 1) c.self.view_is c.in_ok-old.ensures.waits

pub returns-else-is_none-clause-waits : goal.returns-else-is_none-clause-waits
returns-else-is_none-clause-waits g c =
    subst (λ (s : Index). WaitBehind (Waits s) (Waits c.call_alone.new.core) (one_if (splits s.layout.slots (map_of_index s) (anchors_in (world s)) c.args.name.now)) 1 1) c.self.view_is c.in_ok-old.ensures.waits

pub returns-then-is_none-clause-weighs : goal.returns-then-is_none-clause-weighs
returns-then-is_none-clause-weighs g c =
    subst (λ (s : Index). weight_of c.call_alone.new.core ≤ weight_of s + one_if (is_none c.in_ok-old.old)) c.self.view_is
    (let adds = put_adds c.in_ok-old.old c.args.name.now c.args.value in omega (arith, adds, c.in_ok-old.ensures.weighs))

pub returns-else-is_none-clause-weighs : goal.returns-else-is_none-clause-weighs
returns-else-is_none-clause-weighs g c =
    subst (λ (s : Index). weight_of c.call_alone.new.core ≤ weight_of s + one_if (is_none c.in_ok-old.old)) c.self.view_is
    (let adds = put_adds c.in_ok-old.old c.args.name.now c.args.value in omega (arith, adds, c.in_ok-old.ensures.weighs))

pub call_alone-requires-clause-index : goal.call_alone-requires-clause-index
call_alone-requires-clause-index g c = c.self.invariant.0.index

pub call_alone-requires-clause-quiet : goal.call_alone-requires-clause-quiet
call_alone-requires-clause-quiet g c = c.self.invariant.0.quiet

pub call_alone-requires-clause-stamps : goal.call_alone-requires-clause-stamps
call_alone-requires-clause-stamps g c = c.self.invariant.0.stamps

pub call_alone-requires-clause-caller : goal.call_alone-requires-clause-caller
call_alone-requires-clause-caller g c = subst (λ (s : Index). c.args.caller < s.layout.callers) (sym c.self.view_is) c.requires.caller

pub call_alone-requires-clause-calls_left : goal.call_alone-requires-clause-calls_left
call_alone-requires-clause-calls_left g c = subst (λ (s : Index). 0 < calls_left_of s) (sym c.self.view_is) c.requires.calls

pub call_alone-requires-clause-writes_left : goal.call_alone-requires-clause-writes_left
call_alone-requires-clause-writes_left g c = subst (λ (s : Index). 0 < writes_left_of s) (sym c.self.view_is) c.requires.writes

pub returns-then-is_none-clause-old : goal.returns-then-is_none-clause-old
returns-then-is_none-clause-old g c = subst (λ (s : Index). c.in_ok-old.old ≡ at (map_of_index s) c.args.name.now) c.self.view_is c.in_ok-old.ensures.old

pub returns-then-is_none-clause-ok : goal.returns-then-is_none-clause-ok
returns-then-is_none-clause-ok g c = subst (λ (s : Index). map_of_index c.call_alone.new.core ≡ insert (map_of_index s) c.args.name.now c.args.value) c.self.view_is c.in_ok-old.ensures.ok

pub returns-then-is_none-clause-splits : goal.returns-then-is_none-clause-splits
returns-then-is_none-clause-splits g c =
    subst (λ (s : Index). anchors_in (world c.call_alone.new.core) ≡ put_anchors s.layout.slots (map_of_index s) (anchors_in (world s)) c.args.name.now)
    c.self.view_is c.in_ok-old.ensures.anchors

pub returns-else-is_none-clause-old : goal.returns-else-is_none-clause-old
returns-else-is_none-clause-old g c = subst (λ (s : Index). c.in_ok-old.old ≡ at (map_of_index s) c.args.name.now) c.self.view_is c.in_ok-old.ensures.old

pub returns-else-is_none-clause-ok : goal.returns-else-is_none-clause-ok
returns-else-is_none-clause-ok g c = subst (λ (s : Index). map_of_index c.call_alone.new.core ≡ insert (map_of_index s) c.args.name.now c.args.value) c.self.view_is c.in_ok-old.ensures.ok

pub returns-else-is_none-clause-splits : goal.returns-else-is_none-clause-splits
returns-else-is_none-clause-splits g c =
    subst (λ (s : Index). anchors_in (world c.call_alone.new.core) ≡ put_anchors s.layout.slots (map_of_index s) (anchors_in (world s)) c.args.name.now)
    c.self.view_is c.in_ok-old.ensures.anchors
