use Rattle.std.specs.FinMap.{remove}
use Rattle.shapes.specs.Anchors.{del_anchors}
use Rattle.cat_history.specs.Maps.{at}
use Rattle.std.proofs.Common.{◌≤◌, refl, sym, subst, arith, ◌≡◌, ◌<◌}
use Rattle.shapes.specs.Anchors.{merges}
use Rattle.index_law.specs.Anchors.{anchors_in}
use Rattle.recovery.specs.index_core.specs.Indexes.{Index, map_of_index, world}
use Rattle.core_rounds.specs.CoreMaps.{Waits, calls_left_of, writes_left_of}
use Rattle.core_rounds.specs.Updated.{WaitBehind}
use Rattle.core_rounds.specs.Waiting.{one_if}
use Rattle.core_rounds.proofs.CoreMaps.{told_name, removal_counted, stays_run, uses_of}
use Rattle.recovery.specs.index_core.specs.Weights.{weight_of}
use Rattle.core_rounds.proofs.CoreMaps.{no_put_adds}
use Rattle.cat_history.specs.declared.op.NameOp.TheVariants as op
use Rattle.core_rounds.proofs.core_map.CoreMapUpdatedMap.del.Goals as goal

pub overflow_sub-self : goal.overflow_sub-self
overflow_sub-self g c = told_name c.self.inside.core c.args.name.now c.self.inside.names c.in-Ok.old c.self.invariant.0 c.in-Ok.ensures.old (sym c.if-is_some.ensures)

pub invariant_of-self : goal.invariant_of-self
invariant_of-self g c = (
  removal_counted c.self.inside.core c.call_alone.new.core c.args.name.now c.self.inside.names _ c.in-Ok.old _ c.self.invariant.0 c.call_alone.ensures.quiet
      c.in-Ok.ensures.old c.in-Ok.ensures.ok (sym c.if-is_some.ensures) refl,
  stays_run c.self.inside.core c.call_alone.new.core c.self.invariant.1 c.call_alone.ensures.quiet,
)

pub invariant_of-self-else-is_some : goal.invariant_of-self-else-is_some
invariant_of-self-else-is_some g c = (
  removal_counted c.self.inside.core c.call_alone.new.core c.args.name.now c.self.inside.names _ c.in-Ok.old _ c.self.invariant.0 c.call_alone.ensures.quiet
      c.in-Ok.ensures.old c.in-Ok.ensures.ok (sym c.if-is_some.ensures) refl,
  stays_run c.self.inside.core c.call_alone.new.core c.self.invariant.1 c.call_alone.ensures.quiet,
)

pub returns-then-is_some-clause-uses : goal.returns-then-is_some-clause-uses
returns-then-is_some-clause-uses g c = uses_of c.self.inside.core _ c.call_alone.new.core c.self.view_is c.call_alone.ensures.quiet

pub returns-then-is_some-clause-waits : goal.returns-then-is_some-clause-waits
returns-then-is_some-clause-waits g c =
    subst (λ (s : Index). WaitBehind (Waits s) (Waits c.call_alone.new.core) (one_if (merges s.layout.slots (map_of_index s) (anchors_in (world s)) c.args.name.now)) 1 0) c.self.view_is c.in-Ok.ensures.waits

pub returns-else-is_some-clause-uses : goal.returns-else-is_some-clause-uses
returns-else-is_some-clause-uses g c = uses_of c.self.inside.core _ c.call_alone.new.core c.self.view_is c.call_alone.ensures.quiet

pub returns-else-is_some-clause-waits : goal.returns-else-is_some-clause-waits
returns-else-is_some-clause-waits g c =
    subst (λ (s : Index). WaitBehind (Waits s) (Waits c.call_alone.new.core) (one_if (merges s.layout.slots (map_of_index s) (anchors_in (world s)) c.args.name.now)) 1 0) c.self.view_is c.in-Ok.ensures.waits

pub returns-then-is_some-clause-weighs : goal.returns-then-is_some-clause-weighs
returns-then-is_some-clause-weighs g c =
    subst (λ (s : Index). weight_of c.call_alone.new.core ≤ weight_of s) c.self.view_is
    (let none = no_put_adds c.in-Ok.old (op.Del c.args.name.now) refl in omega (arith, none, c.in-Ok.ensures.weighs))

pub returns-else-is_some-clause-weighs : goal.returns-else-is_some-clause-weighs
returns-else-is_some-clause-weighs g c =
    subst (λ (s : Index). weight_of c.call_alone.new.core ≤ weight_of s) c.self.view_is
    (let none = no_put_adds c.in-Ok.old (op.Del c.args.name.now) refl in omega (arith, none, c.in-Ok.ensures.weighs))

pub call_alone-requires-clause-index : goal.call_alone-requires-clause-index
call_alone-requires-clause-index g c = c.self.invariant.0.index

pub call_alone-requires-clause-quiet : goal.call_alone-requires-clause-quiet
call_alone-requires-clause-quiet g c = c.self.invariant.0.quiet

pub call_alone-requires-clause-stamps : goal.call_alone-requires-clause-stamps
call_alone-requires-clause-stamps g c = c.self.invariant.0.stamps

pub call_alone-requires-clause-caller : goal.call_alone-requires-clause-caller
call_alone-requires-clause-caller g c = subst (λ (s : Index). c.args.caller < s.layout.callers) (sym c.self.view_is) c.requires.caller

pub call_alone-requires-clause-calls_left : goal.call_alone-requires-clause-calls_left
call_alone-requires-clause-calls_left g c = subst (λ (s : Index). 0 < calls_left_of s) (sym c.self.view_is) c.requires.calls

pub call_alone-requires-clause-writes_left : goal.call_alone-requires-clause-writes_left
call_alone-requires-clause-writes_left g c = subst (λ (s : Index). 0 < writes_left_of s) (sym c.self.view_is) c.requires.writes

pub returns-then-is_some-clause-old : goal.returns-then-is_some-clause-old
returns-then-is_some-clause-old g c = subst (λ (s : Index). c.in-Ok.old ≡ at (map_of_index s) c.args.name.now) c.self.view_is c.in-Ok.ensures.old

pub returns-then-is_some-clause-after : goal.returns-then-is_some-clause-after
returns-then-is_some-clause-after g c = subst (λ (s : Index). map_of_index c.call_alone.new.core ≡ remove (map_of_index s) c.args.name.now) c.self.view_is c.in-Ok.ensures.ok

pub returns-then-is_some-clause-anchors : goal.returns-then-is_some-clause-anchors
returns-then-is_some-clause-anchors g c =
    subst (λ (s : Index). anchors_in (world c.call_alone.new.core) ≡ del_anchors s.layout.slots (map_of_index s) (anchors_in (world s)) c.args.name.now)
    c.self.view_is c.in-Ok.ensures.anchors

pub returns-else-is_some-clause-old : goal.returns-else-is_some-clause-old
returns-else-is_some-clause-old g c = subst (λ (s : Index). c.in-Ok.old ≡ at (map_of_index s) c.args.name.now) c.self.view_is c.in-Ok.ensures.old

pub returns-else-is_some-clause-after : goal.returns-else-is_some-clause-after
returns-else-is_some-clause-after g c = subst (λ (s : Index). map_of_index c.call_alone.new.core ≡ remove (map_of_index s) c.args.name.now) c.self.view_is c.in-Ok.ensures.ok

pub returns-else-is_some-clause-anchors : goal.returns-else-is_some-clause-anchors
returns-else-is_some-clause-anchors g c =
    subst (λ (s : Index). anchors_in (world c.call_alone.new.core) ≡ del_anchors s.layout.slots (map_of_index s) (anchors_in (world s)) c.args.name.now)
    c.self.view_is c.in-Ok.ensures.anchors
