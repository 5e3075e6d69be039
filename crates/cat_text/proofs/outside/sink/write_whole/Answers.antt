use Rattle.std.proofs.Common.{◌≡◌, ℕ, ◌-◌, List, ◌++◌, rules, arith, length, take, drop, sym, ap, ◌∙◌, append_assoc, take-append-drop}
use Rattle.std.proofs.lemmas.List.{take_rest}
use Rattle.std.proofs.KnownBytes.{Appends-trans}
use Rattle.cat_text.proofs.OutsideLemmas.{AppendsPart-kept, OnErr-holds, steady-on}
use Rattle.cat_text.proofs.outside.sink.write_whole.Goals as goal

-- n more bytes are done, and the rest begins after them
moves_front : (text done rest : List ℕ) (n : ℕ)
    → text ≡ done ++ rest → text ≡ (done ++ take n rest) ++ take (length rest - n) (drop n rest)
moves_front text done rest n split =
    split ∙ ap (λ l. done ++ l) (sym (take-append-drop n rest)) ∙ sym (append_assoc done (take n rest) (drop n rest))
    ∙ ap (λ l. (done ++ take n rest) ++ l) (sym (take_rest rest n))

pub loop-rest-preserved : goal.loop-rest-preserved
loop-rest-preserved g c =
    let (done, split, appended) = c.loop-rest.invariant.0 in
    let rest = c.loop-rest.rest.now in
    let n = c.in_ok-taken.taken in
    let written = c.in_ok-taken.ensures in (
      (done ++ take n rest, moves_front _ done rest n split, Appends-trans _ _ _ _ _ appended written.appends),
      omega (arith, written.never_falls, c.loop-rest.invariant.1),
      steady-on _ _ _ _ _ _ c.loop-rest.invariant.2 written.stays_steady,
    )

pub returns-in_err-taken-clause-part : goal.returns-in_err-taken-clause-part
returns-in_err-taken-clause-part g c =
    let (done, split, appended) = c.loop-rest.invariant.0 in
    let rest = c.loop-rest.rest.now in
    OnErr-holds c.from_residual.result _ (AppendsPart-kept _ _ _ _ done rest split appended c.in_err-taken.ensures.keeps (search rules))
