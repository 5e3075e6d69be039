-- The stages of the end of a change.
use Rattle.std.proofs.Common.{◌≡◌, ◌≢◌, ℕ, ◌+◌, ◌*◌, ◌/◌, ◌%◌, ◌<◌, ◌≤◌, ◌==◌, cond, inl, inr, Option, Some, None, refl, sym, subst, subst₂, ap, ◌∙◌, arith}
use Rattle.std.proofs.lemmas.Bool.{cases_eq}
use Rattle.layer_map.specs.Layers.{Layer}
use Rattle.tree_law.specs.Words.{LayerWord, CellWord, LayerWords, word_in, kind_of, number_of, Stored, AreEven, IsMix, Keeps}
use Rattle.tree_law.specs.Stages.{SwitchLaw}
use Rattle.tree_law.proofs.StageLaw.{same_words, switches_keep}
use Rattle.tree_change.specs.declared.finish.Target.{Target}
use Rattle.tree_change.specs.declared.finish.Target.TheVariants as target
use Rattle.tree_change.specs.Endings.{target_word, line_word, own, Effect, Happens, loads, drains, Ending, CanQuiet, Quieted, CanSwitch, Switched, Unmarks, EndStep, quiets, glances_quiet, drains_quiet, drains_quiet_last, switches, glances, drains_switch, drains_switch_last, unmarks, holds, SureDrains, SureCan, SureEnding, EndStepKeeps, EndingDrains, EndingMixes, SwitchBegins}

-- a drain of a word that was loaded makes a mix
pub drained_mix : (w s s' : LayerWords) (p : LayerWord) (y : ℕ) → word_in w p ≡ y → Stored s s' p y → IsMix w s s'
drained_mix w s s' p y held stored q = elim (cases_eq (word_in s' q) (word_in w q)) [
  | inl cached ↦ inl cached
  | inr apart ↦ inr (stored.others q (λ same. apart (subst (λ r. word_in s' r ≡ word_in w r) (sym same) (stored.here ∙ sym held))))
]

own_line : (p : Target) → line_word p (own p) ≡ Some (target_word p)
own_line target.Root = refl
own_line (target.Leaf leaf offset) = refl
own_line (target.Cell cell offset) = ap (λ o. Some (CellWord (kind_of cell) (number_of cell) o)) (let is : offset / 8 * 8 + offset % 8 ≡ offset = omega arith in is)

module _ (count nodes : ℕ) (before made : Layer) (p : Target) where
  abbrev law : SwitchLaw count nodes before made (target_word p)
  law = switches_keep count nodes before made (target_word p)

  abbrev Sure : ℕ → Option ℕ → LayerWords → LayerWords → Type 0
  Sure d hand w s = SureDrains count nodes before made p d hand w s

  mixed : (d : ℕ) (hand : Option ℕ) (w s mix : LayerWords) → Sure d hand w s → IsMix w s mix → Sure d hand w mix
  mixed d hand w s mix sure is = record {
    small = sure.small;
    sure = law.drains w s mix sure.sure is;
    drained = λ past. elim (is (target_word p)) [ inl cached ↦ cached | inr durable ↦ durable ∙ sure.drained past ];
    hand = sure.hand;
  }

  glanced : (d x : ℕ) (hand : Option ℕ) (w s : LayerWords) → Sure d hand w s → holds w (line_word p d) x → Sure d (Some x) w s
  glanced d x hand w s sure held = record { small = sure.small; sure = sure.sure; drained = sure.drained; hand = held }

  -- the word at hand is given to the durable twin
  drained_on : (d x : ℕ) (w s w' s' : LayerWords) → Sure d (Some x) w s → Happens (drains (line_word p d) x) w s w' s' → (w' ≡ w) × Sure (d + 1) None w s'
  drained_on d x w s w' s' sure happens = go (line_word p d) refl sure.hand happens
    where
      past_line : (own p ≢ d) → own p < d + 1 → word_in s (target_word p) ≡ word_in w (target_word p)
      past_line apart less = sure.drained (omega (arith, apart))

      go : (line : Option LayerWord) → line_word p d ≡ line → holds w line x → Happens (drains line x) w s w' s' → (w' ≡ w) × Sure (d + 1) None w s'
      go None is held both =
          let apart : own p ≢ d = λ e. let wrong : Some (target_word p) ≡ None = sym (own_line p) ∙ ap (line_word p) e ∙ is in cc in
          (both.0, subst (λ v. Sure (d + 1) None w v) (sym both.1) (record { small = sure.small; sure = sure.sure; drained = past_line apart; hand = tt }))
      go (Some r) is held both =
          let mix = drained_mix w s s' r x held both.1 in (
            both.0,
            record {
              small = sure.small;
              sure = law.drains w s s' sure.sure mix;
              drained = λ less. elim (cases_eq (own p) d) [
                | inl here ↦
                    let same_word : Some (target_word p) ≡ Some r = sym (own_line p) ∙ ap (line_word p) here ∙ is in
                    let same : target_word p ≡ r = cc in
                    subst (λ q. word_in s' q ≡ word_in w q) (sym same) (both.1.here ∙ sym held)
                | inr apart ↦ elim (mix (target_word p)) [ inl cached ↦ cached | inr durable ↦ durable ∙ past_line apart less ]
              ];
              hand = tt;
            },
          )

  ended : (d : ℕ) (hand : Option ℕ) (w s : LayerWords) → 8 ≤ d → Sure d hand w s → SureCan count nodes made w s
  ended d hand w s past sure = let small : own p < 8 = sure.small in record { keeps = sure.sure.new; even = law.ends w s sure.sure (sure.drained (omega arith)) }

  stored_on : (y : ℕ) (w s w' : LayerWords) → own p < 8 → SureCan count nodes before w s → Stored w w' (target_word p) y → Keeps count nodes made w' → Sure 0 None w' s
  stored_on y w s w' small can stored keeps = record {
    small = small;
    sure = law.stores w w' s y can.keeps can.even stored keeps;
    drained = λ less. absurd (omega arith);
    hand = tt;
  }

-- a load of a word of the line
loaded : (w s w' s' : LayerWords) (line : Option LayerWord) (x : ℕ) → Happens (loads line x) w s w' s' → (holds w line x) × (w' ≡ w) × (s' ≡ s)
loaded w s w' s' None x happens = (tt, happens.0, happens.1)
loaded w s w' s' (Some p) x happens = happens

module _ (count nodes : ℕ) (before made : Layer) where
  abbrev SureAt : Ending → LayerWords → LayerWords → Type 0
  SureAt e w s = SureEnding count nodes before made e w s

  back : (e : Ending) (w s w' s' : LayerWords) → w' ≡ w → s' ≡ s → SureAt e w s → SureAt e w' s'
  back e w s w' s' same same' sure = subst₂ (λ a b. SureAt e a b) (sym same) (sym same') sure

  step : (e : Ending) (effect : Effect) (e' : Ending) (w s w' s' : LayerWords) → EndStep e effect e' → Happens effect w s w' s' → SureAt e w s → SureAt e' w' s'
  step e effect e' w s w' s' (quiets {p = p} {q = q} {y = y} {z = z} small) happens sure =
      let then = sure.1 w' happens.0 in
      subst (λ b. SureAt (Quieted p 0 None q z) w' b) (sym happens.1) (stored_on count nodes before before p y w s w' small sure.0 happens.0 then.0, then.1)
  step e effect e' w s w' s' (glances_quiet {p = p} {q = q} {d = d} {x = x} {z = z} {hand = hand}) happens sure =
      let l = loaded w s w' s' (line_word p d) x happens in
      back (Quieted p d (Some x) q z) w s w' s' l.1 l.2 (glanced count nodes before before p d x hand w s sure.0 l.0, sure.1)
  step e effect e' w s w' s' (drains_quiet {p = p} {q = q} {d = d} {x = x} {z = z}) happens sure =
      let on = drained_on count nodes before before p d x w s w' s' sure.0 happens in
      subst (λ a. SureAt (Quieted p (d + 1) None q z) a s') (sym on.0) (on.1, sure.1)
  step e effect e' w s w' s' (drains_quiet_last {p = p} {q = q} {d = d} {x = x} {z = z} past) happens sure =
      let on = drained_on count nodes before before p d x w s w' s' sure.0 happens in
      subst (λ a. SureAt (CanSwitch q z) a s') (sym on.0) (ended count nodes before before p (d + 1) None w s' past on.1, sure.1)
  step e effect e' w s w' s' (switches {q = q} {z = z} small) happens sure =
      subst (λ b. SureAt (Switched q 0 None) w' b) (sym happens.1) (stored_on count nodes before made q z w s w' small sure.0 happens.0 (sure.1 w' happens.0))
  step e effect e' w s w' s' (glances {q = q} {d = d} {x = x} {hand = hand}) happens sure =
      let l = loaded w s w' s' (line_word q d) x happens in
      back (Switched q d (Some x)) w s w' s' l.1 l.2 (glanced count nodes before made q d x hand w s sure l.0)
  step e effect e' w s w' s' (drains_switch {q = q} {d = d} {x = x}) happens sure =
      let on = drained_on count nodes before made q d x w s w' s' sure happens in
      subst (λ a. SureAt (Switched q (d + 1) None) a s') (sym on.0) on.1
  step e effect e' w s w' s' (drains_switch_last {q = q} {d = d} {x = x} past) happens sure =
      let on = drained_on count nodes before made q d x w s w' s' sure happens in
      subst (λ a. SureAt Unmarks a s') (sym on.0) (ended count nodes before made q (d + 1) None w s' past on.1)
  step e effect e' w s w' s' unmarks happens sure = back Unmarks w s w' s' happens.0 happens.1 sure

  -- where all is durable a mix is the row
  pub even_mix : (w s mix : LayerWords) → AreEven w s → IsMix w s mix → AreEven w mix
  even_mix w s mix even is p = elim (is p) [ inl cached ↦ cached | inr durable ↦ durable ∙ even p ]

  pub can_mix : (layer : Layer) (w s mix : LayerWords) → SureCan count nodes layer w s → IsMix w s mix → SureCan count nodes layer w mix
  can_mix layer w s mix can is = record { keeps = can.keeps; even = even_mix w s mix can.even is }

  pub can_keeps : (layer : Layer) (w s mix : LayerWords) → SureCan count nodes layer w s → IsMix w s mix → Keeps count nodes layer mix
  can_keeps layer w s mix can is = subst (Keeps count nodes layer) (sym (same_words w mix (even_mix w s mix can.even is))) can.keeps

  mix_sure : (e : Ending) (w s mix : LayerWords) → SureAt e w s → IsMix w s mix → SureAt e w mix
  mix_sure (CanQuiet p y q z) w s mix sure is = (can_mix before w s mix sure.0 is, sure.1)
  mix_sure (Quieted p d hand q z) w s mix sure is = (mixed count nodes before before p d hand w s mix sure.0 is, sure.1)
  mix_sure (CanSwitch q z) w s mix sure is = (can_mix before w s mix sure.0 is, sure.1)
  mix_sure (Switched q d hand) w s mix sure is = mixed count nodes before made q d hand w s mix sure is
  mix_sure Unmarks w s mix sure is = can_mix made w s mix sure is

pub end_step_keeps : EndStepKeeps
end_step_keeps count nodes before made e effect e' w s w' s' is happens sure = step count nodes before made e effect e' w s w' s' is happens sure

pub ending_drains : EndingDrains
ending_drains count nodes before made e w s mix sure is = mix_sure count nodes before made e w s mix sure is

pub ending_mixes : EndingMixes
ending_mixes count nodes before made (CanQuiet p y q z) w s mix sure is = (sure.0.keeps, can_keeps count nodes before made before w s mix sure.0 is)
ending_mixes count nodes before made (Quieted p d hand q z) w s mix sure is =
    (sure.0.sure.new, elim ((switches_keep count nodes before before (target_word p)).mixes w s mix sure.0.sure is) [ inl old ↦ old | inr new ↦ new ])
ending_mixes count nodes before made (CanSwitch q z) w s mix sure is = (sure.0.keeps, can_keeps count nodes before made before w s mix sure.0 is)
ending_mixes count nodes before made (Switched q d hand) w s mix sure is = (sure.sure.new, (switches_keep count nodes before made (target_word q)).mixes w s mix sure.sure is)
ending_mixes count nodes before made Unmarks w s mix sure is = (sure.keeps, can_keeps count nodes before made made w s mix sure is)

pub switch_begins : SwitchBegins
switch_begins count nodes before w q z key node same changes w' stored =
    let keeps = changes w' stored in
    record { lawful = keeps.lawful; same = λ k. keeps.same k ∙ ap (λ (n : Option ℕ). cond (k == key) node n) (same k) }
