-- A call merges once at most, as long as it holds its node.
use Rattle.std.proofs.Common.{◌≡◌, ℕ, ◌⊎◌, inl, inr, true, false, refl, sym, ap, ◌∙◌}
use Rattle.std.specs.Prelude.{Option, None}
use Rattle.pm_words.specs.declared.layout.Layout.{Layout}
use Rattle.pm_words.specs.declared.action.Action.{Action}
use Rattle.call_stages.specs.declared.once.Once.{Once}
use Rattle.call_stages.specs.declared.once.Placed.{Placed}
use Rattle.call_stages.specs.Stages.{Stage}
use Rattle.call_stages.specs.Kinds.{Step, Look, Split, Merge}
use Rattle.call_stages.specs.Kinds as kinds
use Rattle.index_law.specs.Facts.{Facts}
use Rattle.index_law.specs.Worlds.{facts}
use Rattle.index_law.specs.Lawful.{Sure}
use Rattle.call_stages.specs.Prevs.{IsJoin}
use Rattle.index_law.specs.LoneShapes.{has_merged, IsOut, StepMergesOnce}
use Rattle.index_law.proofs.Moves.{read_after}
use Rattle.index_law.proofs.Loose.{loose_out}

abbrev Once_at : Stage → Stage → Type 0
Once_at s t = IsOut t ⊎ (((IsJoin s t → ⊥) × (has_merged t ≡ has_merged s)) ⊎ (IsJoin s t × (has_merged s ≡ false) × (has_merged t ≡ true)))

-- a merge's switch changes the flag
stay : (s t : Stage) → has_merged t ≡ has_merged s → Once_at s t
stay s t e = inr (inl ((λ join. absurd (let no : true ≡ false = sym (ap has_merged join.is) ∙ e ∙ ap has_merged join.was in cc)), e))

module _ {l : Layout} {g : ℕ} (f : Facts) (caller index since : ℕ) where
  look_once : {s : Stage} {a : Action} {x : ℕ} {t : Stage} {r : Option (Once Placed)} → Look l g s a x t r → Once_at s t
  look_once (kinds.turns_back loose here busy) = inl tt
  look_once (kinds.wears loose here free worn) = inl tt
  look_once (kinds.roams has) = inl tt
  look_once (kinds.roams_status here) = inl tt
  look_once (kinds.is_worn has) = inl tt
  look_once (kinds.sees loose here free unworn lock') = inl tt
  look_once (kinds.finds_live here is) = inl tt
  look_once (kinds.watches has positive live next learnt) = inl tt
  look_once (kinds.watches_next has low high ne live live' next leads learnt) = inl tt
  look_once (kinds.turns_away loose here up) = inl tt
  look_once (kinds.steps_back loose here up) = inl tt
  look_once (kinds.wanders loose here up) = inl tt
  look_once (kinds.peeks here unready) = stay _ _ refl
  look_once (kinds.peeks_status here unready) = stay _ _ refl
  look_once (kinds.eyes clean durable here nonzero free unworn lock') = stay _ _ refl
  look_once (kinds.eyes_free here is) = stay _ _ refl
  look_once (kinds.passes here) = stay _ _ refl
  look_once (kinds.loses here other) = stay _ _ refl
  look_once (kinds.misses other) = inl tt
  look_once (kinds.misses_read other small) = inl tt
  look_once (kinds.times clean below) = stay _ _ refl
  look_once (kinds.learns has positive unready learnt) = stay _ _ refl
  look_once (kinds.decides has positive clean durable about learnt decided) = stay _ _ refl
  look_once (kinds.reads_on {t = t} k) = inl (loose_out t (read_after k))
  look_once (kinds.glances has unready) = stay _ _ refl

  merge_once : {s : Stage} {a : Action} {x : ℕ} {t : Stage} → Merge l g s a x t → Sure l g f caller index since s → Once_at s t
  merge_once (kinds.meets here same untimed leads) knows = stay _ _ refl
  merge_once (kinds.knows_own has positive learnt) knows = stay _ _ refl
  merge_once (kinds.knows_right has positive told) knows = stay _ _ refl
  merge_once (kinds.copies has content small soils learnt means) knows = stay _ _ refl
  merge_once (kinds.takes_up has) knows = stay _ _ refl
  merge_once (kinds.puts_down has small hand cleans) knows = stay _ _ refl
  merge_once (kinds.parts next) knows = stay _ _ refl
  merge_once (kinds.gathers small durable soiled told gathered) knows = stay _ _ (sym knows.1.unmerged)
  merge_once (kinds.joins {h = h} {left = left} {right = right} {seen = seen} {dirty = dirty} small durable soiled next told) knows =
      inr (inr (record { held = h; left = left; right = right; after = record left { seen = seen; dirty = dirty; hand = None }; was = refl; is = refl }, refl, refl))
  merge_once (kinds.glances_joined has learnt) knows = stay _ _ refl
  merge_once (kinds.drains_joined has small hand cleans) knows = stay _ _ refl
  merge_once (kinds.retires durable) knows = stay _ _ refl
  merge_once (kinds.yields next durable) knows = stay _ _ refl

  split_once : {s : Stage} {a : Action} {x : ℕ} {t : Stage} → Split l g s a x t → Once_at s t
  split_once (kinds.fills has positive small within soils told) = inl tt
  split_once (kinds.lights here leads) = inl tt
  split_once (kinds.switches here small durable soiled cut told means) = inl tt
  split_once (kinds.glances_left has learnt) = inl tt
  split_once (kinds.glances_fresh has) = inl tt
  split_once (kinds.drains_left has small hand cleans) = inl tt
  split_once (kinds.drains_fresh has small hand cleans) = inl tt
  split_once (kinds.trims here small durable soiled anchor told means) = inl tt

  once : {s : Stage} {a : Action} {x : ℕ} {t : Stage} {r : Option (Once Placed)} → Step l g s a x t r → Sure l g f caller index since s → Once_at s t
  once (kinds.looks look) knows = look_once look
  once (kinds.locks same named live between) knows = stay _ _ refl
  once (kinds.locks_read same named live between unworn taken small) knows = stay _ _ refl
  once (kinds.stores has content small clean soils learnt means) knows = stay _ _ refl
  once (kinds.commits has content small clean durable soiled old about learnt means) knows = stay _ _ refl
  once (kinds.drains has small unready hand cleans) knows = stay _ _ refl
  once (kinds.counts durable ready pending unplaced) knows = stay _ _ refl
  once (kinds.unlocks next pending durable unready answers) knows = inl tt
  once (kinds.claims unplaced here same) knows = inl tt
  once (kinds.publishes next left fresh) knows = inl tt
  once (kinds.leaves next) knows = inl tt
  once (kinds.splits k) knows = split_once k
  once (kinds.merges k) knows = merge_once k knows

pub step_merges_once : StepMergesOnce
step_merges_once w i p a x t r lawful there k = once (facts w) p.caller p.index p.since k (lawful.sure i p there)
