use Rattle.std.proofs.Common.{◌≡◌, ℕ, List, slice_index, ap, sym, ◌∙◌, subst, arith}
use Rattle.cat_key.specs.declared.Pair.{Pair}
use Rattle.cat_history.specs.declared.op.Write.{Write}
use Rattle.pm_words.specs.declared.layout.Layout.{Layout}
use Rattle.pm_words.specs.Images.{Row}
use Rattle.pm_words.specs.Locations.{Header, Cached, address_of}
use Rattle.pm_words.specs.Offsets.{generation_offset}
use Rattle.index_core.specs.declared.party.PartyState.{PartyState}
use Rattle.index_core.specs.Indexes.{Index, IsIndex, parties_of}
use Rattle.index_core.specs.Opened.{opened_index}
use Rattle.index_core.specs.PartyStates.{idle_states, owed}
use Rattle.index_core.proofs.Lists.{idle-owed}
use Rattle.index_core.proofs.Stepping.{respare}
use Rattle.index_core.proofs.index.Core.opened.Goals as goal

-- the generation is the header's, and the parties are idle
is_opened : (row : Row) (base : List Pair) (history : List Write) (address : ℕ) (words : List ℕ) (states : List PartyState) → words ≡ row.words → address ≡ address_of row.layout (Cached (Header generation_offset)) → states ≡ idle_states (parties_of row.layout)
    → Path Index (record { layout = row.layout; generation = slice_index words address; words = row.words; states = states; base = base; history = history; spare = 0 }) (opened_index row base history)
is_opened row base history address words states read there idle =
    λ k. record { layout = row.layout; generation = slice_index (read k) (there k); words = row.words; states = idle k; base = base; history = history; spare = 0 }

pub invariant_of-result : goal.invariant_of-result
invariant_of-result c =
    let same = is_opened c.args.memory c.args.base c.args.history.items _ _ _ c.words.ensures.words (c.cached.ensures.address ∙ ap (λ (l : Layout). address_of l (Cached (Header generation_offset))) c.layout-layout.ensures.layout) c.requires.idle in
    let owing = ap owed c.requires.idle ∙ idle-owed (parties_of c.args.memory.layout) in
    (subst IsIndex (sym same) c.requires.index, omega (arith, c.args.history.ok.1))

pub returns-clause-index : goal.returns-clause-index
returns-clause-index c =
    let same = is_opened c.args.memory c.args.base c.args.history.items _ _ _ c.words.ensures.words (c.cached.ensures.address ∙ ap (λ (l : Layout). address_of l (Cached (Header generation_offset))) c.layout-layout.ensures.layout) c.requires.idle in
    respare _ _ (subst IsIndex (sym same) c.requires.index)
