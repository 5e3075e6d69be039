-- A crash of an index, and the index that is opened behind it.
use Rattle.std.proofs.Common.{◌≡◌, ℕ, suc, List, sym, ap, subst, ◌∙◌, refl, arith}
use Rattle.version_lock.specs.Versions.{IsGeneration}
use Rattle.pm_words.specs.Images.{Row}
use Rattle.pm_words.specs.Rows.{durable_row}
use Rattle.cat_history.specs.Maps.{Map, map_of}
use Rattle.cat_history.specs.Writes.{after_all}
use Rattle.cat_history.specs.CrashEnds.{IsCrashEnd}
use Rattle.image_rules.specs.Rules.{header_generation}
use Rattle.image_rules.proofs.MapLemmas.{has_one_map}
use Rattle.core_rounds.specs.image_layer_rules.specs.Sound.{IsSoundByAll}
use Rattle.core_rounds.specs.index_core.specs.declared.party.PartyState.{PartyState}
use Rattle.core_rounds.specs.index_core.specs.Crashes.{IsCrash, cut_changes}
use Rattle.core_rounds.specs.index_core.specs.CrashLaws.{chosen_index, crash_image}
use Rattle.index_law.specs.Weights.{weight_sum}
use Rattle.core_rounds.specs.index_core.specs.Indexes.{Index, IsIndex, map_of_index, world}
use Rattle.core_rounds.specs.index_core.proofs.CrashLaws.{chosen_weighs, crash_keeps_generation}
use Rattle.core_rounds.proofs.CoreMaps.{opened_is_map}
use Rattle.core_rounds.specs.recovery.specs.Opened.{IsOpenedFrom}
use Rattle.core_crashes.specs.Power.{IsBehindCrash}

module _ (s there : Index) (seed : ℕ) (is : there ≡ chosen_index s seed) (index : IsIndex there) (image : Row) (cuts : List PartyState) (crash : IsCrash there image cuts) where
  run_is : there.generation ≡ s.generation
  run_is = ap (λ (v : Index). v.generation) is

  pub opened_behind : (new : Index) → IsOpenedFrom image new → IsBehindCrash seed s new
  opened_behind new opened =
      let at : IsOpenedFrom (crash_image there) new = subst (λ (i : Row). IsOpenedFrom i new) crash.leaves opened in
      let map_is : map_of_index new ≡ crash.end =
      (λ k. after_all (map_of new.base) (opened.history k)) ∙ has_one_map there.layout (durable_row there.layout there.words) (map_of new.base) crash.end at.keeps crash.keeps in
      record {
        opened = subst (λ (v : Index). IsOpenedFrom (crash_image v) new) is at;
        layout = at.layout ∙ ap (λ (v : Index). v.layout) is;
        generation = at.generation ∙ ap suc (crash_keeps_generation there index ∙ run_is);
        ends = subst (λ (e : Map). IsCrashEnd (map_of_index s) (cut_changes s.states) e) (sym map_is)
            (subst (λ (v : Index). IsCrashEnd (map_of_index v) (cut_changes v.states) crash.end) is crash.ends);
        weighs =
            let opens = (opened_is_map (crash_image there) new at).weighs in
            let light = crash.weighs in
            let chosen = ap (λ (v : Index). weight_sum (world v)) is ∙ chosen_weighs s seed in
            omega (arith, opens, light, chosen);
      }

  -- the image may be opened
  pub is_sound : IsSoundByAll image.layout image.words
  is_sound = subst (λ (i : Row). IsSoundByAll i.layout i.words) (sym crash.leaves) crash.sound

  pub is_early : IsGeneration (suc s.generation) → IsGeneration (suc (header_generation image.layout image.words))
  is_early next =
      subst (λ (i : Row). IsGeneration (suc (header_generation i.layout i.words))) (sym crash.leaves)
      (subst (λ (n : ℕ). IsGeneration (suc n)) (sym (crash_keeps_generation there index ∙ run_is)) next)
