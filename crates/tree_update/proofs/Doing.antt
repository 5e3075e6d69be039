-- What the runs of machines alone know of one action: the number that they are told, and the words afterwards.
use Rattle.std.proofs.Common.{◌≡◌, ℕ, ap, sym, ◌∙◌}
use Rattle.pm_words.specs.declared.layout.Layout.{Layout}
use Rattle.pm_words.specs.declared.action.Action.{Action}
use Rattle.pm_words.specs.Images.{Row}
use Rattle.pm_words.specs.Rows.{got, acted}

pub told_by : (l : Layout) (row : Row) (asked done : Action) (number : ℕ) → row.layout ≡ l → done ≡ asked → number ≡ got row.layout row.words done → number ≡ got l row.words asked
told_by l row asked done number layout same told = told ∙ ap (λ (a : Action). got row.layout row.words a) same ∙ ap (λ (m : Layout). got m row.words asked) layout

-- so its turn is that of the number
pub turned_by : {T : Type 0} (turned : ℕ → T) (l : Layout) (row : Row) (asked done : Action) (number : ℕ) {turn end : T} → row.layout ≡ l → done ≡ asked → number ≡ got row.layout row.words done → turn ≡ turned number → turn ≡ end
    → turned (got l row.words asked) ≡ end
turned_by turned l row asked done number layout same told turns is = ap turned (sym (told_by l row asked done number layout same told)) ∙ sym turns ∙ is

pub words_by : (l : Layout) (row after : Row) (asked done : Action) → row.layout ≡ l → done ≡ asked → after ≡ record row { words = acted row.layout row.words done } → after.words ≡ acted l row.words asked
words_by l row after asked done layout same is =
    ap (λ (m : Row). m.words) is ∙ ap (λ (a : Action). acted row.layout row.words a) same ∙ ap (λ (m : Layout). acted m row.words asked) layout

pub layout_by : (l : Layout) (row after : Row) (done : Action) → row.layout ≡ l → after ≡ record row { words = acted row.layout row.words done } → after.layout ≡ l
layout_by l row after done layout is = ap (λ (m : Row). m.layout) is ∙ layout
