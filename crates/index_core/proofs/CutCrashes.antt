-- What a crash may find of a call that was cut off.
use Rattle.std.proofs.Common.{◌≡◌, ℕ, zero, suc, List, [], ◌∷◌, ◌++◌, slice_set, refl, sym, ap, ◌∙◌}
use Rattle.std.proofs.lemmas.List.{append-nil}
use Rattle.std.specs.Prelude.{Option, Some, None}
use mathlib.Core.Option.{some, some-ne-none}
use lib.ListN.{get_elem?}
use Rattle.cat_history.specs.declared.op.Change.{Change}
use Rattle.node_ops.specs.declared.running.Running.{Running}
use Rattle.index_core.specs.declared.party.PartyState.{PartyState}
use Rattle.index_core.specs.Crashes.{cut_change, cut_changes}
use Rattle.index_core.specs.Withins.{CutLeavesOne, CutTurnLeavesNone}

abbrev AreStill : List PartyState → Type 0
AreStill l = (i : ℕ) (e : PartyState) → get_elem? l i ≡ some e → e.machine ≡ None

none_cut : (l : List PartyState) → AreStill l → cut_changes l ≡ []
none_cut [] still = refl
none_cut (e ∷ es) still = ap (λ (m : Option Running). cut_change m ++ cut_changes es) (still 0 e refl) ∙ none_cut es (λ i x at. still (suc i) x at)

one_cut : (l : List PartyState) (i : ℕ) (state cut : PartyState) → get_elem? l i ≡ some state → AreStill l → cut_changes (slice_set l i cut) ≡ cut_change cut.machine
one_cut [] i state cut there still = absurd (some-ne-none state (sym there))
one_cut (e ∷ es) zero state cut there still =
    ap (λ (l : List Change). cut_change cut.machine ++ l) (none_cut es (λ i x at. still (suc i) x at)) ∙ append-nil (cut_change cut.machine)
one_cut (e ∷ es) (suc i) state cut there still =
    ap (λ (m : Option Running). cut_change m ++ cut_changes (slice_set es i cut)) (still 0 e refl) ∙ one_cut es i state cut there (λ j x at. still (suc j) x at)

pub cut_leaves_one : CutLeavesOne
cut_leaves_one old new i c quiet t = ap cut_changes t.states ∙ one_cut old.states i t.state t.cut t.there quiet.calls

pub cut_turn_leaves_none : CutTurnLeavesNone
cut_turn_leaves_none old new i quiet t =
    let turned : PartyState = record t.state { turn = Some t.making } in
    ap cut_changes t.states ∙ one_cut old.states i t.state turned t.there quiet.calls ∙ ap cut_change (quiet.calls i t.state t.there)
