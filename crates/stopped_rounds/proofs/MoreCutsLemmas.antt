-- A map that a crash may leave of some changes is one that it may leave of more.
use Rattle.std.proofs.Common.{inl, inr, ◌≡◌, ℕ, suc, cond, List, [], ◌∷◌, refl, sym, ap, ◌∙◌, arith}
use Rattle.std.specs.Prelude.{◌⊎◌}
use Rattle.cat_history.specs.Maps.{Map, at}
use Rattle.cat_history.specs.Writes.{changed, name_of}
use Rattle.cat_history.specs.CrashEnds.{found_in, after_changes, IsFoundCut, HasOldOrCut}
use Rattle.cat_history.specs.declared.op.Change.{Change}
use Rattle.cat_history.proofs.ChangeLemmas.{at-changed_other}
use Rattle.cat_history.proofs.CrashEndLemmas.{by_found, old_or_cut_is_crash_end}
use Rattle.cat_history.proofs.NameLemmas.{by_names}
use Rattle.stopped_rounds.specs.MoreCuts.{AreAmong, MoreCutsAreCrashEnds}

-- one change more in front
later_cut : (first : Change) (cuts : List Change) (end : Map) (name : List ℕ) → IsFoundCut cuts end name → IsFoundCut (first ∷ cuts) end name
later_cut first cuts end name is =
    let has = is.cut in
    record { change = is.change; cut = (suc has.0, omega (arith, has.1), has.2); about = is.about; found = is.found }

-- after the changes that are found there stands under each name what stood there, or what a found one leaves
pub old_or_cut : (m : Map) (cuts : List Change) (end : Map) (name : List ℕ) → (at (after_changes m (found_in end cuts)) name ≡ at m name) ⊎ IsFoundCut cuts end name
old_or_cut m [] end name = inl refl
old_or_cut m (first ∷ later) end name =
    by_found end first (λ b. (at (after_changes m (cond b (first ∷ found_in end later) (found_in end later))) name ≡ at m name) ⊎ IsFoundCut (first ∷ later) end name)
    (λ found. elim (old_or_cut (changed m first) later end name) [
      | inl old ↦ by_names name (name_of first) (λ _. (at (after_changes (changed m first) (found_in end later)) name ≡ at m name) ⊎ IsFoundCut (first ∷ later) end name)
          (λ here. inr (record { change = first; cut = (0, omega arith, refl); about = sym here; found = found }))
          (λ other. inl (old ∙ at-changed_other m first name other))
      | inr cut ↦ inr (later_cut first later end name cut)
    ])
    (λ lost. elim (old_or_cut m later end name) [
      | inl old ↦ inl old
      | inr cut ↦ inr (later_cut first later end name cut)
    ])

among : (cuts more : List Change) (end : Map) (name : List ℕ) → AreAmong cuts more → IsFoundCut cuts end name → IsFoundCut more end name
among cuts more end name all is = record { change = is.change; cut = all is.change is.cut; about = is.about; found = is.found }

pub more_cuts_are_crash_ends : MoreCutsAreCrashEnds
more_cuts_are_crash_ends m cuts more end all ends = old_or_cut_is_crash_end m more end has
  where
    has : HasOldOrCut m more end
    has name = elim (old_or_cut m cuts end name) [
      | inl old ↦ inl (ap (λ (n : Map). at n name) ends ∙ old)
      | inr cut ↦ inr (among cuts more end name all cut)
    ]
