-- A word that becomes durable is none that a party relies on.
use Rattle.std.proofs.Common.{◌≡◌, ◌≢◌, ℕ, List, slice_index, arith}
use Rattle.std.proofs.lemmas.List.{get_or-set_other}
use Rattle.pm_words.specs.declared.layout.Layout.{Layout}
use Rattle.pm_words.specs.Locations.{Node, cached_address, durable_address}
use Rattle.pm_words.proofs.Apart.{words_within}
use Rattle.pm_words.proofs.Kept.{evicted_row}
use Rattle.call_stages.specs.Kinds.{HasWordAt, clock_address, word_address}
use Rattle.index_law.specs.Worlds.{World, facts, evicted_world}
use Rattle.index_law.specs.Laws.{EvictKeeps}
use Rattle.index_law.proofs.Rows.{facts-apart}
use Rattle.index_law.proofs.Twins.{nearer, evict_closer, evict_cached}
use Rattle.index_law.proofs.Noting.{beside_law}

-- the words of the nodes stand in front of the durable twins
before_durable : (l : Layout) (word n offset : ℕ) → HasWordAt l n offset → word_address l n offset ≢ durable_address l word
before_durable l word n offset has same = let within = words_within l (Node n offset) has in absurd (omega arith)

-- so the facts are the same
pub evict_facts : (w : World) (word : ℕ) → facts (evicted_world w word) ≡ facts w
evict_facts w word =
    facts-apart w.layout w.words w.base w.history (durable_address w.layout word) (slice_index w.words (cached_address w.layout word)) (before_durable w.layout word) (λ n here e. absurd (omega (arith, e)))

pub evict_law : EvictKeeps
evict_law w word lawful within =
    let l = w.layout in
    let words : List ℕ = (evicted_world w word).words in
    beside_law w words lawful
    (evicted_row l w.words word lawful.row within)
    (evict_facts w word)
    (nearer l w.words words (evict_closer l w.words word lawful.row.whole within))
    (get_or-set_other w.words (durable_address l word) (clock_address l) (slice_index w.words (cached_address l word)) 0 (λ e. absurd (omega (arith, e))))
    (λ v has other. evict_cached l w.words word v has)
