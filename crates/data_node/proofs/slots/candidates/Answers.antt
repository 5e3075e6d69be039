use Rattle.std.proofs.Common.{◌≡◌, ◌+◌, ◌*◌, ◌/◌, ◌%◌, min, slice_index, sym, subst, arith}
use Rattle.data_node.specs.Bits.{candidate_bits}
use Rattle.data_node.specs.Slots.{prints_of}
use Rattle.data_node.proofs.Bitmaps.{Marks, marks_skip}
use Rattle.data_node.proofs.BitLemmas.{marks_same, candidate_bits-marks}
use Rattle.data_node.proofs.slots.candidates.Goals as goal
use Rattle.data_node.proofs.slots.candidates.Goals.{then-has_print_among, else-has_print_among}

pub loop-place-preserved : goal.loop-place-preserved
loop-place-preserved c =
    let start = min c.args.slots (c.loop-place.place * 8) in
    let end = min c.args.slots ((c.loop-place.place + 1) * 8) in
    elim c.if-has_print_among.branch [
      | then-has_print_among w ↦
          let until : w.min-end.result ≡ end = omega arith in
          subst (Marks c.args.bitmap c.args.prints.now c.args.print end) (sym w.found-is)
          (subst (λ n. Marks c.args.bitmap c.args.prints.now c.args.print n w.candidates_from-found.result) until w.candidates_from-found.ensures)
      | else-has_print_among w ↦
          subst (Marks c.args.bitmap c.args.prints.now c.args.print end) (sym w.found-is)
          (marks_skip c.args.bitmap c.args.prints.now c.args.print c.loop-place.found start end (omega arith) c.loop-place.invariant (λ slot above below same.
          let here : slot / 8 ≡ c.loop-place.place = omega arith in
          c.has_print_among.ensures w.if-has_print_among.false slot (subst (λ k. slice_index (prints_of (slice_index c.args.prints.now k)) (slot % 8) ≡ c.args.print) here same)))
    ]

pub returns-clause-value : goal.returns-clause-value
returns-clause-value c =
    marks_same c.args.bitmap c.args.prints.now c.args.print c.args.slots c.loop-place.found (candidate_bits c.args.bitmap c.args.prints.now c.args.print c.args.slots)
    (let all : min c.args.slots (c.loop-place.place * 8) ≡ c.args.slots = omega arith in subst (λ n. Marks c.args.bitmap c.args.prints.now c.args.print n c.loop-place.found) all c.loop-place.invariant)
    (candidate_bits-marks c.args.bitmap c.args.prints.now c.args.print c.args.slots c.requires)
