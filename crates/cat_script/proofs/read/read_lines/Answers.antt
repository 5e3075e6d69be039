use Rattle.std.proofs.Common.{◌∷◌, ◌++◌, [], sym, ap, ◌∙◌, arith, append_assoc}
use Rattle.std.proofs.lemmas.List.{length_push}
use Rattle.std.proofs.lemmas.Result.{err_from_is_err_and}
use Rattle.cat_script.specs.Lines.{lines_of}
use Rattle.cat_script.proofs.ReadLemmas.{counted, first_wrong}
use Rattle.cat_script.proofs.read.read_lines.Goals as goal

pub returns-in_err-add-clause-err : goal.returns-in_err-add-clause-err
returns-in_err-add-clause-err c =
    let inv = c.loop-rest.invariant in
    let p = err_from_is_err_and c.from_residual.result c.from_residual.ensures.1 in
    rw (p.1, p.2) (first_wrong c.args.bytes.now inv.0 c.split_line.result.0.now (lines_of c.split_line.result.1.now) c.in_err-add.field-0.0 c.requires
    (inv.1 ∙ ap (λ ls. inv.0 ++ ls) c.split_line.ensures.lines) (c.in_err-add.ensures.err inv.0 inv.2))

pub loop-rest-preserved : goal.loop-rest-preserved
loop-rest-preserved c =
    let inv = c.loop-rest.invariant in
    let line = c.split_line.result.0.now in
    let read = c.in_ok-add.ensures.ok inv.0 inv.2 in
    let was = counted inv.0 c.loop-rest.reading inv.2 in
    let now = counted (inv.0 ++ line ∷ []) c.add.new.self read in (
      inv.0 ++ line ∷ [],
      inv.1 ∙ ap (λ ls. inv.0 ++ ls) c.split_line.ensures.lines ∙ sym (append_assoc inv.0 (line ∷ []) (lines_of c.split_line.result.1.now)),
      read,
      omega (arith, was, now, length_push inv.0 line, c.split_line.ensures.shorter, inv.3),
    )
