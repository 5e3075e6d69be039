use Rattle.std.proofs.Common.{◌≡◌, ◌∙◌, ◌≤◌, ℕ, take, ap, sym, arith}
use Rattle.std.specs.FinMap.{entries}
use Rattle.std.proofs.lemmas.List.{take_all}
use Rattle.cat_history.specs.Writes.{after}
use Rattle.transcript.proofs.TreeLemmas.{after_more, joined}
use Rattle.transcript.proofs.names.grow.Goals as goal
use Rattle.transcript.proofs.names.grow.Goals.{then-place-writes, else-place-writes}

pub returns-clause-made : goal.returns-clause-made
returns-clause-made c = λ m was.
    let writes = c.args.writes.now in
    let until = c.if-place-writes.until in
    let later : c.args.done ≤ until = elim c.if-place-writes.branch [
      | then-place-writes w ↦ omega (arith, w.until-is, c.requires.earlier)
      | else-place-writes w ↦ omega (arith, w.until-is, c.requires.within)
    ] in
    let same : take until writes ≡ take c.args.place writes = elim c.if-place-writes.branch [
      | then-place-writes w ↦ ap (λ (k : ℕ). take k writes) w.until-is
      | else-place-writes w ↦ take_all until writes (omega (arith, w.until-is)) ∙ sym (take_all c.args.place writes (omega (arith, w.if-place-writes.false)))
    ] in
    c.in_ok-change_all.ensures.ok (after m writes c.args.done) was
    ∙ ap entries (after_more m writes c.args.done _ c.args.place (joined c.args.done until writes later ∙ same))
