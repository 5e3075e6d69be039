-- The stages of a filling.
use Rattle.std.proofs.Common.{◌≡◌, ◌≢◌, ℕ, ◌+◌, ◌*◌, ◌<◌, ◌≤◌, inl, inr, Option, Some, None, refl, sym, subst, subst₂, ap, ◌∙◌, arith}
use Rattle.std.proofs.lemmas.Bool.{cases_eq, cases_lt}
use Rattle.layer_map.specs.Layers.{Layer}
use Rattle.tree_law.specs.Words.{LayerWords, word_in, Stored, IsMix, Part, LeafPart, CellPart, part_word}
use Rattle.tree_law.specs.Stages.{FillLaw}
use Rattle.tree_law.proofs.StageLaw.{fills_keep}
use Rattle.tree_change.specs.Takes.{IsUnreached}
use Rattle.tree_change.specs.Endings.{Effect, Happens, SureCan}
use Rattle.tree_change.specs.Fillings.{FillStage, Fills, Filled, FillStep, stores_word, glances_word, drains_word, drains_last, SureParts, SureFilled, SureFilling, FillBegins, FillStepKeeps, FillingDrains, FillingMixes}
use Rattle.tree_change.proofs.EndingLaw.{drained_mix, can_mix, can_keeps}

offset_apart : (part : Part) (o u : ℕ) → o ≢ u → part_word part o ≢ part_word part u
offset_apart (LeafPart i) o u apart e = apart (let is : o ≡ u = cc in is)
offset_apart (CellPart x) o u apart e = apart (let is : o ≡ u = cc in is)

module _ (count nodes : ℕ) (before : Layer) (begun : LayerWords) (part : Part) (lines : ℕ) (words : ℕ → ℕ) where
  abbrev law : FillLaw count nodes before part
  law = fills_keep count nodes before part

  abbrev Sure : ℕ → ℕ → Option ℕ → LayerWords → LayerWords → Type 0
  Sure o d hand w s = SureParts count nodes before begun part lines words o d hand w s

  pub begins : (w s : LayerWords) → SureCan count nodes before w s → w ≡ begun → IsUnreached w part → Sure 0 0 None w s
  begins w s can same unreached = record {
    sure = law.begins w s can.keeps unreached can.even;
    outside = λ p outside. ap (λ v. word_in v p) same;
    stored = λ k lt. absurd (omega arith);
    drained = λ k lt. absurd (omega arith);
    beyond = λ k past. can.even (part_word part k);
    hand = tt;
  }

  stored_on : (o : ℕ) (hand : Option ℕ) (d : ℕ) (w s w' : LayerWords) → o < 8 * lines → Sure o d hand w s → Stored w w' (part_word part o) (words o) → Sure (o + 1) 0 None w' s
  stored_on o hand d w s w' within sure stored = record {
    sure = law.stores w w' s o (words o) sure.sure stored;
    outside = λ p outside. stored.others p (outside o) ∙ sure.outside p outside;
    stored = λ k lt. elim (cases_eq k o) [
      | inl same ↦ ap (λ n. word_in w' (part_word part n)) same ∙ stored.here ∙ ap words (sym same)
      | inr apart ↦ stored.others (part_word part k) (offset_apart part k o apart) ∙ sure.stored k (omega (arith, apart))
    ];
    drained = λ k lt. absurd (omega arith);
    beyond = λ k past. sure.beyond k past ∙ sym (stored.others (part_word part k) (offset_apart part k o (λ e. omega arith)));
    hand = tt;
  }

  mixed : (o d : ℕ) (hand : Option ℕ) (w s mix : LayerWords) → Sure o d hand w s → IsMix w s mix → Sure o d hand w mix
  mixed o d hand w s mix sure is = record {
    sure = law.drains w s mix sure.sure is;
    outside = sure.outside;
    stored = sure.stored;
    drained = λ k lt. elim (is (part_word part k)) [ inl cached ↦ cached | inr durable ↦ durable ∙ sure.drained k lt ];
    beyond = λ k past. elim (is (part_word part k)) [ inl cached ↦ cached | inr durable ↦ durable ∙ sure.beyond k past ];
    hand = sure.hand;
  }

  glanced : (o d x : ℕ) (hand : Option ℕ) (w s : LayerWords) → Sure o d hand w s → word_in w (part_word part d) ≡ x → Sure o d (Some x) w s
  glanced o d x hand w s sure held = record { sure = sure.sure; outside = sure.outside; stored = sure.stored; drained = sure.drained; beyond = sure.beyond; hand = held }

  drained_on : (o d x : ℕ) (w s s' : LayerWords) → Sure o d (Some x) w s → Stored s s' (part_word part d) x → Sure o (d + 1) None w s'
  drained_on o d x w s s' sure stored =
      let mix = drained_mix w s s' (part_word part d) x sure.hand stored in
      let m = mixed o d (Some x) w s s' sure mix in
      record {
        sure = m.sure;
        outside = m.outside;
        stored = m.stored;
        drained = λ k lt. elim (cases_eq k d) [
          | inl same ↦ subst (λ n. word_in s' (part_word part n) ≡ word_in w (part_word part n)) (sym same) (stored.here ∙ sym sure.hand)
          | inr apart ↦ m.drained k (omega (arith, apart))
        ];
        beyond = m.beyond;
        hand = tt;
      }

  ended : (d : ℕ) (hand : Option ℕ) (w s : LayerWords) → 8 * lines ≤ d → Sure (8 * lines) d hand w s → SureFilled count nodes before begun part lines words w s
  ended d hand w s past sure = record {
    can = record { keeps = sure.sure.keeps; even = law.ends w s sure.sure (λ k. elim (cases_lt k (8 * lines)) [ inl less ↦ sure.drained k (omega arith) | inr more ↦ sure.beyond k more ]) };
    unreached = sure.sure.unreached;
    outside = sure.outside;
    stored = sure.stored;
  }

  abbrev SureAt : FillStage → LayerWords → LayerWords → Type 0
  SureAt f w s = SureFilling count nodes before begun part lines words f w s

  abbrev past : ℕ → Option ℕ → FillStage
  past d hand = Fills (8 * lines) d hand

  pub step : (f : FillStage) (effect : Effect) (f' : FillStage) (w s w' s' : LayerWords) → FillStep part lines words f effect f' → Happens effect w s w' s' → SureAt f w s → SureAt f' w' s'
  step f effect f' w s w' s' (stores_word {o = o} within) happens sure =
      subst (λ b. SureAt (Fills (o + 1) 0 None) w' b) (sym happens.1) (stored_on o None 0 w s w' within sure happens.0)
  step f effect f' w s w' s' (glances_word {d = d} {x = x} {hand = hand}) happens sure =
      subst₂ (λ a b. SureAt (past d (Some x)) a b) (sym happens.1) (sym happens.2) (glanced (8 * lines) d x hand w s sure happens.0)
  step f effect f' w s w' s' (drains_word {d = d} {x = x}) happens sure =
      subst (λ a. SureAt (past (d + 1) None) a s') (sym happens.0) (drained_on (8 * lines) d x w s s' sure happens.1)
  step f effect f' w s w' s' (drains_last {d = d} {x = x} end) happens sure =
      subst (λ a. SureAt Filled a s') (sym happens.0) (ended (d + 1) None w s' end (drained_on (8 * lines) d x w s s' sure happens.1))

  pub mix_sure : (f : FillStage) (w s mix : LayerWords) → SureAt f w s → IsMix w s mix → SureAt f w mix
  mix_sure (Fills o d hand) w s mix sure is = mixed o d hand w s mix sure is
  mix_sure Filled w s mix sure is = record { can = can_mix count nodes before before before w s mix sure.can is; unreached = sure.unreached; outside = sure.outside; stored = sure.stored }

pub fill_begins : FillBegins
fill_begins count nodes before part lines words w s can unreached = begins count nodes before w part lines words w s can refl unreached

pub fill_step_keeps : FillStepKeeps
fill_step_keeps count nodes before begun part lines words f effect f' w s w' s' is happens sure = step count nodes before begun part lines words f effect f' w s w' s' is happens sure

pub filling_drains : FillingDrains
filling_drains count nodes before begun part lines words f w s mix sure is = mix_sure count nodes before begun part lines words f w s mix sure is

pub filling_mixes : FillingMixes
filling_mixes count nodes before begun part lines words (Fills o d hand) w s mix sure is = (sure.sure.keeps, (fills_keep count nodes before part).mixes w s mix sure.sure is)
filling_mixes count nodes before begun part lines words Filled w s mix sure is = (sure.can.keeps, can_keeps count nodes before before before w s mix sure.can is)
