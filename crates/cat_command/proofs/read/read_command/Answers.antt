use Rattle.std.proofs.Common.{◌≡◌, ℕ, List, [], ◌∷◌, sym, subst, ◌∙◌}
use Rattle.std.specs.Prelude.{IfSome, map}
use Rattle.std.specs.String.{string_bytes}
use Rattle.cat_command.specs.Commands.{IsCommand}
use Rattle.cat_command.proofs.WordLemmas.{four_mapped, five_mapped}
use Rattle.cat_command.proofs.read.read_command.Goals as goal

pub returns-in-len4-clause-some : goal.returns-in-len4-clause-some
returns-in-len4-clause-some c =
    let words = four_mapped string_bytes c.args.words.now c.command-item-then-words-lt5.result c.first-item.result c.second-item.result c.third-item.result c.in-len4.len_at_least
    c.in-len4.len_below c.command-item-then-words-lt5.is c.first-item.is c.second-item.is c.third-item.is in
    let same : map string_bytes c.args.words.now ≡ c.as_bytes-in-len4.result.now ∷ c.as_bytes-in-len4-2.result.now ∷ c.as_bytes-in-len4-3.result.now ∷ c.as_bytes-in-len4-4.result.now ∷ [] =
    words ∙ sym (λ i. c.as_bytes-in-len4.ensures.value i ∷ c.as_bytes-in-len4-2.ensures.value i ∷ c.as_bytes-in-len4-3.ensures.value i ∷ c.as_bytes-in-len4-4.ensures.value i ∷ []) in
    subst (λ (ws : List (List ℕ)). IfSome c.read_four.result (IsCommand ws)) (sym same) c.read_four.ensures.some

pub returns-in-len5-clause-some : goal.returns-in-len5-clause-some
returns-in-len5-clause-some c =
    let words = five_mapped string_bytes c.args.words.now c.command-item-then-words-lt6.result c.file-item-then-words-lt6.result c.nodes-item.result c.slots-item.result c.callers-item.result
    c.in-len5.len_at_least c.in-len5.len_below c.command-item-then-words-lt6.is c.file-item-then-words-lt6.is c.nodes-item.is c.slots-item.is c.callers-item.is in
    let same : map string_bytes c.args.words.now ≡ c.as_bytes-in-len5.result.now ∷ c.as_bytes-in-len5-2.result.now ∷ c.as_bytes-in-len5-3.result.now ∷ c.as_bytes-in-len5-4.result.now ∷ c.as_bytes-in-len5-5.result.now ∷ [] =
    words ∙ sym (λ i. c.as_bytes-in-len5.ensures.value i ∷ c.as_bytes-in-len5-2.ensures.value i ∷ c.as_bytes-in-len5-3.ensures.value i ∷ c.as_bytes-in-len5-4.ensures.value i ∷ c.as_bytes-in-len5-5.ensures.value i ∷ []) in
    subst (λ (ws : List (List ℕ)). IfSome c.read_five.result (IsCommand ws)) (sym same) c.read_five.ensures.some
