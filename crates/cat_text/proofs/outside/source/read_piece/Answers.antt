use Rattle.std.proofs.Common.{[], ap, arith, take, drop, length-append, ◌∙◌, ◌++◌}
use Rattle.std.proofs.lemmas.List.{length-drop, length-take, length-take-le, take-append-le}
use Rattle.std.proofs.KnownBytes.{Consumes-nil, Consumes-kept}
use Rattle.cat_text.proofs.outside.source.read_piece.Goals as goal

pub returns-in-Ok-extend_from_slice-clause-moves : goal.returns-in-Ok-extend_from_slice-clause-moves
returns-in-Ok-extend_from_slice-clause-moves g c =
    let taken = c.in-Ok.taken in
    let into = c.read.new.into in
    let rest = drop c.min-asked.result c.args.piece.now in
    let front = take-append-le taken into rest c.in-Ok.ensures.within in (
      take taken into,
      c.in-Ok.ensures.takes,
      c.in-Ok-extend_from_slice.ensures.items ∙ ap (λ l. c.args.text.now.items ++ l) front,
      length-take-le taken into c.in-Ok.ensures.within,
    )

pub returns-in-Ok-extend_from_slice-clause-ends : goal.returns-in-Ok-extend_from_slice-clause-ends
returns-in-Ok-extend_from_slice-clause-ends g c = λ none some more.
    let asked = c.min-asked.result in
    let piece = c.args.piece.now in
    c.in-Ok.ensures.ends none
    (omega (
      arith,
      some,
      more,
      c.read.auto.into,
      c.min-asked.ensures,
      length-append c.read.new.into (drop asked piece),
      length-drop asked piece,
      length-take asked piece,
    ))

pub returns-in-Err-clause-err : goal.returns-in-Err-clause-err
returns-in-Err-clause-err g c =
    let taken = c.in-Ok.taken in
    let into = c.read.new.into in
    let asked = c.min-asked.result in
    let within = c.in-Ok.ensures.within in (
      take taken into,
      c.in-Ok.ensures.takes,
      omega (arith, length-take-le taken into within, within, c.read.auto.into, c.min-asked.ensures, length-take asked c.args.piece.now),
    )

pub returns-in_default-clause-err : goal.returns-in_default-clause-err
returns-in_default-clause-err g c = ([], Consumes-kept _ _ _ _ (Consumes-nil _) c.in_default.ensures.keeps, omega arith)
