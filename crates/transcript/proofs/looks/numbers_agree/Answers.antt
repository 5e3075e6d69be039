use Rattle.std.proofs.Common.{◌↔◌, List, All, subst}
use Rattle.std.specs.Prelude.{IsTrue}
use Rattle.std.specs.List.Sorted.{IsPermutation}
use Rattle.std.proofs.lemmas.Result.{IfOk-weaker}
use Rattle.cat_history.specs.Maps.{map_of}
use Rattle.cat_history.specs.Writes.{after}
use Rattle.transcript.specs.Looks.{IsRight}
use Rattle.transcript.specs.declared.looks.Look.{Look}
use Rattle.transcript.proofs.LookLemmas.{looks_are}
use Rattle.transcript.proofs.looks.numbers_agree.Goals as goal

pub returns : goal.returns
returns c =
    let map_at = after (map_of c.args.base.now) c.args.writes.now in
    let looks = c.by_place-looks.result.items in
    let agree = looks_are map_at c.args.told.now looks (subst (λ (from : List Look). IsPermutation from looks) c.in_ok-looks_told.ensures c.by_place-looks.ensures.same) in
    IfOk-weaker c.are_right.result (λ yes. IsTrue yes ↔ All (IsRight map_at) c.deref.result.now) _
    (λ yes told.
    let at_looks = subst (λ (ls : List Look). IsTrue yes ↔ All (IsRight map_at) ls) c.deref.ensures.value told in
    (λ is. agree.0 (at_looks.0 is), λ tells. at_looks.1 (agree.1 tells)))
    c.are_right.ensures
