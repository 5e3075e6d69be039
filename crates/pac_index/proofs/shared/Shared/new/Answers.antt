use Rattle.std.proofs.Common.{◌≡◌, ℕ, List, [], sym, subst}
use Rattle.pm_words.specs.declared.layout.Layout.{Layout}
use Rattle.index_core.specs.Indexes.{Index, IsIndex}
use Rattle.index_core.specs.Lone.{IsQuiet}
use Rattle.index_core.specs.PartsOf.{index_in}
use Rattle.atomic_table.specs.Table.{opening}
use Rattle.pac_index.specs.Kept.{Kept, first_view}
use Rattle.pac_index.proofs.Seats.{opens}
use Rattle.pac_index.proofs.shared.Shared.new.Goals as goal

pub of_words-requires : goal.of_words-requires
of_words-requires c =
    let parts = c.parts-memory.result in
    let same = c.parts-memory.ensures.same in
    let s : Index = index_in parts c.args.core.spare in
    let begun = opens s (subst IsIndex same c.parts-memory.ensures.index) (subst IsQuiet same c.requires.quiet) (subst (λ (i : Index). i.history ≡ []) same c.requires.start) in
    subst
    (λ (q : Layout × List ℕ). Kept (record { layout = q.0; generation = parts.generation; base = parts.base; opened = parts.memory }) (opening q.1 [] (first_view (record { layout = q.0; generation = parts.generation; base = parts.base; opened = parts.memory }))))
    (λ k. (sym c.layout-layout.ensures.layout k, sym c.words.ensures.words k)) begun
