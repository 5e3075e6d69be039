use Rattle.std.proofs.Common.{◌≡◌, ◌∙◌, ℕ, List, length, map, subst, sym, ap, arith}
use Rattle.std.specs.List.Sorted.{IsPermutation}
use Rattle.std.proofs.lemmas.Bool.{false≢true}
use Rattle.cat_history.specs.Records.{placed_writes}
use Rattle.cat_history.specs.declared.op.Write.{Write}
use Rattle.transcript.specs.Rules.{AreCounted}
use Rattle.transcript.proofs.PlaceLemmas.{StandInPlace, counted_so, counted_stand, counted_many}
use Rattle.transcript.proofs.places.writes_by_place.Goals as goal
use Rattle.transcript.proofs.places.writes_by_place.Goals.{then-len-count-via-then-len-count, then-len-count-via-else-len-count+then-not-stand_in_place}

pub returns-then-len-count : goal.returns-then-len-count
returns-then-len-count c = λ writes counted.
    let told = c.args.told.now in
    let sorted : List (ℕ × Write) = c.by_place-placed.result.items in
    let moved : IsPermutation (placed_writes told) sorted = subst (λ (from : List (ℕ × Write)). IsPermutation from sorted) c.in_ok-placed_writes.ensures c.by_place-placed.ensures.same in
    elim c.then-len-count.branch [
      | then-len-count-via-then-len-count w ↦
          let many : length sorted ≡ c.args.count = counted_many told sorted moved c.by_place-placed.ensures.rising c.args.count writes counted in
          absurd (omega (arith, many, w.if-len-count.true, c.len.ensures, c.by_place-placed.result.ok.0))
      | then-len-count-via-else-len-count+then-not-stand_in_place w ↦
          let stand : StandInPlace sorted = counted_stand told sorted moved c.by_place-placed.ensures.rising c.args.count writes counted in
          absurd (false≢true (sym w.if-not-stand_in_place.true ∙ w.stand_in_place.ensures.1 (subst StandInPlace (sym w.deref.ensures.value) stand)))
    ]

pub returns : goal.returns
returns c =
    let told = c.args.told.now in
    let sorted : List (ℕ × Write) = c.by_place-placed.result.items in
    let moved : IsPermutation (placed_writes told) sorted = subst (λ (from : List (ℕ × Write)). IsPermutation from sorted) c.in_ok-placed_writes.ensures c.by_place-placed.ensures.same in
    let stand : StandInPlace sorted = subst StandInPlace c.deref.ensures.value (c.stand_in_place.ensures.0 c.if-not-stand_in_place.false) in
    let many : length sorted ≡ c.args.count = omega (arith, c.if-len-count.false, c.len.ensures, c.by_place-placed.result.ok.0) in
    subst (AreCounted told c.args.count) (sym (c.in_ok-writes_in.ensures ∙ ap (map (λ (e : ℕ × Write). e.1)) c.deref-2.ensures.value)) (counted_so told sorted moved c.args.count many stand)
