use Rattle.cat_history.specs.Maps.{at}
use Rattle.std.proofs.Common.{refl, sym, subst, arith, ◌≡◌, ◌<◌}
use Rattle.recovery.specs.index_core.specs.Indexes.{Index, map_of_index}
use Rattle.core_rounds.specs.CoreMaps.{Waits, calls_left_of}
use Rattle.core_rounds.proofs.Waiting.{no_more, none_changed}
use Rattle.core_rounds.proofs.CoreMaps.{no_put_adds, same_of, uses_of}
use Rattle.cat_history.specs.declared.op.NameOp.TheVariants as op
use Rattle.core_rounds.proofs.core_map.CoreMapUpdatedMap.get.Goals as goal

pub returns-clause-same : goal.returns-clause-same
returns-clause-same g c =
    let none = no_put_adds c.in-Ok.old (op.Get c.args.name.now) refl in
    same_of c.self.inside.core _ c.call_alone.new.core c.self.view_is
    (record { contents = c.in-Ok.ensures.ok; anchors = c.in-Ok.ensures.anchors; weighs = omega (arith, none, c.in-Ok.ensures.weighs) })

pub returns-clause-uses : goal.returns-clause-uses
returns-clause-uses g c = uses_of c.self.inside.core _ c.call_alone.new.core c.self.view_is c.call_alone.ensures.quiet

pub returns-clause-waits : goal.returns-clause-waits
returns-clause-waits g c changes writes puts waits =
    let here = subst (λ (s : Index). Waits s changes writes puts) (sym c.self.view_is) waits in
    none_changed c.call_alone.new.core (c.in-Ok.ensures.waits changes writes puts (no_more c.self.inside.core here))

pub call_alone-requires-clause-index : goal.call_alone-requires-clause-index
call_alone-requires-clause-index g c = c.self.invariant.0.index

pub call_alone-requires-clause-quiet : goal.call_alone-requires-clause-quiet
call_alone-requires-clause-quiet g c = c.self.invariant.0.quiet

pub call_alone-requires-clause-stamps : goal.call_alone-requires-clause-stamps
call_alone-requires-clause-stamps g c = c.self.invariant.0.stamps

pub call_alone-requires-clause-caller : goal.call_alone-requires-clause-caller
call_alone-requires-clause-caller g c = subst (λ (s : Index). c.args.caller < s.layout.callers) (sym c.self.view_is) c.requires.caller

pub call_alone-requires-clause-calls_left : goal.call_alone-requires-clause-calls_left
call_alone-requires-clause-calls_left g c = subst (λ (s : Index). 0 < calls_left_of s) (sym c.self.view_is) c.requires.calls

pub returns-clause-number : goal.returns-clause-number
returns-clause-number g c = subst (λ (s : Index). c.in-Ok.old ≡ at (map_of_index s) c.args.name.now) c.self.view_is c.in-Ok.ensures.old
