use Rattle.std.proofs.Common.{◌≡◌, ◌∙◌, ◌<◌, ◌-◌, Bool, true, false, not, List, ◌∷◌, length, map, take, drop, get_or, refl, sym, ap, arith}
use Rattle.std.specs.Cmp.Lexicographic.{bytes_decides}
use Rattle.std.proofs.lemmas.Bool.{false≢true}
use Rattle.std.proofs.lemmas.List.{get_or_default}
use Rattle.cat_key.specs.declared.Pair.{Pair}
use Rattle.transcript.specs.Chains.{pair_of}
use Rattle.transcript.proofs.FirstPairs.{goes_past, all_here, is_next, has_next}
use Rattle.transcript.proofs.parts.are_first.Goals as goal
use Rattle.transcript.proofs.parts.are_first.Goals.{then-at-pairs-via-then-at-pairs, then-at-pairs-via-else-at-pairs+then-ne, then-at-pairs-via-else-at-pairs+else-ne+then-pairs-at}

pub loop-name-preserved : goal.loop-name-preserved
loop-name-preserved c =
    let pairs = c.args.pairs.now in
    let at = c.loop-name.at in
    let few = c.loop-name.invariant.few in
    let some = c.loop-name.invariant.some in
    let within : at < length pairs = omega arith in
    let x : Pair = pair_of (c.in-Some.name.now, c.in-Some.value.now) in
    let d : Pair = c.index-pairs-at-else-ne.result in
    let value : (get_or pairs at d).value ≡ c.in-Some.value.now = c.if-pairs-at.false in
    let name : (get_or pairs at d).name ≡ c.in-Some.name.now =
    ap (λ (p : Pair). p.name) (get_or_default pairs at d c.index-pairs-at.result within)
    ∙ (bytes_decides (get_or pairs at c.index-pairs-at.result).name c.in-Some.name.now).0 (flip _ (sym c.ne.ensures ∙ c.if-ne.false)) in
    goes_past pairs at c.args.left x (map pair_of c.next.new.self) _ _ (ap (map pair_of) c.in-Some.ensures.steps) c.loop-name.invariant d within (omega arith)
    (λ i. record { name = name i; value = value i })
  where
    flip : (b : Bool) → not b ≡ false → b ≡ true
    flip true is = refl
    flip false is = absurd (false≢true (sym is))

pub returns-then-at-pairs : goal.returns-then-at-pairs
returns-then-at-pairs c =
    let pairs = c.args.pairs.now in
    let left = c.args.left in
    let at = c.loop-name.at in
    let x : Pair = pair_of (c.in-Some.name.now, c.in-Some.value.now) in
    let xs : List Pair = map pair_of c.next.new.self in
    let few = c.loop-name.invariant.few in
    let some = c.loop-name.invariant.some in
    let less : at < left = omega arith in (
      λ no. absurd (false≢true no),
      λ all.
          let here : drop at pairs ≡ take (left - at) (x ∷ xs) = all_here pairs at left x xs _ _ (ap (map pair_of) c.in-Some.ensures.steps) c.loop-name.invariant all in
          elim c.then-at-pairs.branch [
            | then-at-pairs-via-then-at-pairs w ↦ absurd (has_next pairs at left x xs (let past = w.if-at-pairs.true in omega arith) less here)
            | then-at-pairs-via-else-at-pairs+then-ne w ↦
                let other = w.if-at-pairs.false in
                let within : at < length pairs = omega arith in
                let d = w.index-pairs-at.result in
                let same : (get_or pairs at d).name ≡ c.in-Some.name.now = ap (λ (p : Pair). p.name) (is_next pairs at left x xs d within less here) in
                absurd (false≢true (sym (ap not ((bytes_decides (get_or pairs at d).name c.in-Some.name.now).1 same)) ∙ sym w.ne.ensures ∙ w.if-ne.true))
            | then-at-pairs-via-else-at-pairs+else-ne+then-pairs-at w ↦
                let other = w.if-at-pairs.false in
                let within : at < length pairs = omega arith in
                let d = w.index-pairs-at-else-ne.result in
                let same : (get_or pairs at d).value ≡ c.in-Some.value.now = ap (λ (p : Pair). p.value) (is_next pairs at left x xs d within less here) in
                absurd (w.if-pairs-at.true same)
          ],
    )
