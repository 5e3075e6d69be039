use Rattle.std.proofs.Common.{◌≡◌, ◌<◌, ◌≤◌, ◌+◌, sym, subst, arith}
use Rattle.data_node.proofs.Bitmaps.{Marks, marks_next, marks_past}
use Rattle.data_node.proofs.slots.candidates_from.Goals as goal
use Rattle.data_node.proofs.slots.candidates_from.Goals.{then-has_print, else-has_print}

pub loop-slot-preserved : goal.loop-slot-preserved
loop-slot-preserved c =
    let within : c.loop-slot.slot < 64 = omega arith in
    let bound : c.loop-slot.slot + 1 ≤ c.args.end = omega arith in
    elim c.if-has_print.branch [
      | then-has_print w ↦
          let here = c.has_print.ensures.0 w.if-has_print.true in (
            subst (Marks c.args.bitmap c.args.prints.now c.args.print (c.loop-slot.slot + 1)) (sym w.found-is)
                (marks_next c.args.bitmap c.args.prints.now c.args.print c.loop-slot.found c.loop-slot.slot within c.loop-slot.invariant.0 here.0 here.1),
            bound,
          )
      | else-has_print w ↦ (
        subst (Marks c.args.bitmap c.args.prints.now c.args.print (c.loop-slot.slot + 1)) (sym w.found-is)
            (marks_past c.args.bitmap c.args.prints.now c.args.print c.loop-slot.found c.loop-slot.slot c.loop-slot.invariant.0 (λ live same. let yes = c.has_print.ensures.1 (live, same) in cc)),
        bound,
      )
    ]

pub returns : goal.returns
returns c =
    let all : c.loop-slot.slot ≡ c.args.end = omega arith in
    subst (λ n. Marks c.args.bitmap c.args.prints.now c.args.print n c.loop-slot.found) all c.loop-slot.invariant.0
