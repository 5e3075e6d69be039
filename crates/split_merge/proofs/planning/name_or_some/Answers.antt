use Rattle.std.proofs.Common.{ℕ, List, [], ◌∷◌, sym, ap, ◌∙◌}
use Rattle.data_list.proofs.KeyLemmas.{one_name}
use Rattle.split_merge.specs.Plans.{anchor_of, some_words}
use Rattle.split_merge.proofs.planning.name_or_some.Goals as goal

pub returns-in-Some : goal.returns-in-Some
unfolding anchor_of
returns-in-Some c =
    let words : List ℕ = c.args.first ∷ c.args.second ∷ c.args.third ∷ [] in
    ap (λ found. some_words found words) (sym c.in-Some.is ∙ one_name words c.of_words.result (record { some = c.of_words.ensures.some; named = c.of_words.ensures.name; whole = c.of_words.ensures.words }))

pub returns-in-None : goal.returns-in-None
unfolding anchor_of
returns-in-None c =
    let words : List ℕ = c.args.first ∷ c.args.second ∷ c.args.third ∷ [] in
    ap (λ found. some_words found words) (sym c.in-None.is ∙ one_name words c.of_words.result (record { some = c.of_words.ensures.some; named = c.of_words.ensures.name; whole = c.of_words.ensures.words }))
