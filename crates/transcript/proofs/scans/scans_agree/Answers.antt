use Rattle.std.proofs.Common.{◌↔◌, ℕ, List, All, map, sym, subst, ◌∙◌}
use Rattle.std.specs.Prelude.{IsTrue}
use Rattle.std.specs.List.Sorted.{IsPermutation}
use Rattle.std.proofs.lemmas.Bool.{false≢true}
use Rattle.std.proofs.lemmas.Result.{IfOk-weaker}
use Rattle.std.proofs.lemmas.List.Sorted.{All-permutation, IsPermutation-sym, IsPermutation-map}
use Rattle.cat_history.specs.Maps.{map_of}
use Rattle.cat_history.specs.Writes.{after}
use Rattle.cat_history.specs.declared.record.ScanPart.{ScanPart}
use Rattle.transcript.specs.Chains.{ListsFirst, parts_told, seen}
use Rattle.transcript.specs.declared.parts.PartLook.{PartLook}
use Rattle.transcript.proofs.ScanHalves.{scans_are}
use Rattle.transcript.proofs.scans.scans_agree.Goals as goal

pub returns-then-not-all_chained : goal.returns-then-not-all_chained
returns-then-not-all_chained c =
    let halves = scans_are (after (map_of c.args.base.now) c.args.writes.now) c.args.told.now in (
      λ no. absurd (false≢true no),
      λ tells. absurd (false≢true (sym c.if-not-all_chained.true ∙ c.all_chained.ensures.1 (halves.1 tells).0)),
    )

pub returns : goal.returns
returns c =
    let map_at = after (map_of c.args.base.now) c.args.writes.now in
    let halves = scans_are map_at c.args.told.now in
    let Lists = ListsFirst map_at in
    let parts : List (ℕ × ScanPart) = parts_told c.args.told.now in
    let looks : List PartLook = c.by_place-looks.result.items in
    let moved : IsPermutation parts (map seen looks) =
    subst (λ (from : List (ℕ × ScanPart)). IsPermutation from (map seen looks)) c.in_ok-looks_told.ensures (IsPermutation-map seen c.in_ok-looks_told.field-0.items looks c.by_place-looks.ensures.same) in
    IfOk-weaker c.list_first.result (λ yes. IsTrue yes ↔ All Lists (map seen c.deref.result.now)) _
    (λ yes told.
    let at_looks = subst (λ (ls : List PartLook). IsTrue yes ↔ All Lists (map seen ls)) c.deref.ensures.value told in (
      λ is. halves.0 (c.all_chained.ensures.0 c.if-not-all_chained.false, All-permutation Lists (map seen looks) parts (IsPermutation-sym parts (map seen looks) moved) (at_looks.0 is)),
      λ tells. at_looks.1 (All-permutation Lists parts (map seen looks) moved (halves.1 tells).1),
    ))
    c.list_first.ensures
