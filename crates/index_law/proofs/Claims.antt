-- What a party has that claimed a node, and one that has a log line.
use Rattle.std.proofs.Common.{◌≡◌, ◌≢◌, ℕ, ⊎_elim, true, false, List, refl, sym, ◌∙◌, subst}
use Rattle.std.proofs.lemmas.Bool.{cases_eq}
use Rattle.pm_words.specs.Offsets.{state_offset}
use Rattle.data_node.specs.Spots.{Spot, updated}
use Rattle.data_node.proofs.SpotLemmas.{updated-same, updated-other}
use Rattle.call_stages.specs.Stages.{IsAmong, Tells}
use Rattle.index_law.specs.Lawful.{Sure}
use Rattle.index_law.specs.Lines.{line_in, safe_line}
use Rattle.index_law.specs.Claims.{ClaimedAreOutside, CleanLinesAreDurable}
use Rattle.index_law.specs.Worlds.{facts}

pub claimed_are_outside : ClaimedAreOutside
claimed_are_outside w i p left fresh lit lawful there is =
    let sure = subst (λ s. Sure w.layout w.generation (facts w) p.caller p.index p.since s) is (lawful.sure i p there) in
    record { unlisted = sure.at.unlisted; nonzero = sure.nonzero; stands = sure.new.stands; locked = sure.new.lock.locked }

pub clean_lines_are_durable : CleanLinesAreDurable
clean_lines_are_durable l words e sure clean =
    let spared : (o : ℕ) → IsAmong e.dirty o → ⊥ = λ o among. subst (λ (dirty : List (ℕ × ℕ)). IsAmong dirty o) clean among in (
      sure.seen,
      elim e.ready as (λ b. e.ready ≡ b → Tells e.seen safe) [
        | false ↦ λ unready. subst (Tells e.seen) (λ k o. sym (sure.clean o (spared o) (λ given. absurd (let no : true ≡ false = sym given.ready ∙ unready in cc))) k) sure.seen
        | true ↦ λ ready.
            let waits = sure.waits ready in
            let same : (o : ℕ) → updated now state_offset (safe 0) o ≡ safe o = λ o. ⊎_elim
            (λ (zero : o ≡ 0). subst (λ k. updated now state_offset (safe 0) k ≡ safe k) (sym zero) (updated-same now state_offset (safe 0)))
            (λ (other : o ≢ 0). updated-other now state_offset (safe 0) o other ∙ sym (waits.durable o other))
            (cases_eq o 0) in
            subst (Tells e.seen) (λ k o. same o k) (waits.blind now (safe 0) sure.seen)
      ] refl,
    )
  where
    now : Spot
    now = line_in l words e.caller e.number

    safe : Spot
    safe = safe_line l words e.caller e.number
