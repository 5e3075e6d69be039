-- Whichever words are durable: columns that the recovery may have come to; and words that become durable.
use Rattle.std.proofs.Common.{◌≡◌, ◌≢◌, ℕ, suc, ◌⊎◌, List, inl, inr, refl, sym, subst, ◌∙◌}
use Rattle.std.proofs.lemmas.Bool.{cases_eq}
use Rattle.pm_words.specs.declared.layout.Layout.{Layout}
use Rattle.pm_words.specs.Offsets.{bitmap_offset, state_offset}
use Rattle.data_node.specs.Lists.{ListNode}
use Rattle.layer_map.specs.Layers.{Layer, AreSame}
use Rattle.updater_row_law.specs.search_layer.specs.Rows.{LayerWords, AreEven, IsLayerMix}
use Rattle.updater_row_law.specs.tree_update.specs.Stages.{Aim, made_of}
use Rattle.updater_row_law.specs.search_layer.specs.ChangeStages.{Changing}
use Rattle.updater_row_law.specs.search_layer.proofs.StageLemmas.{layer_is_either, mix_is_either}
use Rattle.updater_row_law.specs.search_layer.specs.Kept.{kept}
use Rattle.image_recovery_law.specs.Columns.{Columns, MendsLayer, Mends, IsMix}
use Rattle.image_recovery_law.specs.Stages.{with_layer, aim_at, Begins, Raised, Trims, Trimmed, Unsets, Unsetting}
use Rattle.image_recovery_law.specs.Stages.{Sets, Setting, Empties, Emptied, Wakes, Part, Nothing, Generation, Bits}
use Rattle.image_recovery_law.specs.Stages.{State, IsEvenBut, IsStill, ChangesTo, IsChanging}
use Rattle.image_recovery_law.specs.Laws.{CrashMends, EvictionsKeep}
use Rattle.updater_row_law.specs.search_layer.proofs.RowLemmas.{even_are_same, mixes_are_even}

-- columns with the same words are the same
pub columns_path : (i i' : Columns) → i'.generation ≡ i.generation → ((k : ℕ) → i'.spare k ≡ i.spare k) → ((k : ℕ) → i'.version k ≡ i.version k) → ((n k : ℕ) → i'.spot n k ≡ i.spot n k)
    → ((n k : ℕ) → i'.line n k ≡ i.line n k) → i'.layer ≡ i.layer → i' ≡ i
columns_path i i' generation spare version spot line layer = λ k. record {
  generation = generation k;
  spare = λ a. spare a k;
  version = λ a. version a k;
  spot = λ a b. spot a b k;
  line = λ a b. line a b k;
  layer = layer k;
}

-- a word of a mix, where both rows have one word
first_of : (x a b : ℕ) → (x ≡ a) ⊎ (x ≡ b) → b ≡ a → x ≡ a
first_of x a b (inl e) same = e
first_of x a b (inr e) same = e ∙ same

second_of : (x a b : ℕ) → (x ≡ a) ⊎ (x ≡ b) → b ≡ a → x ≡ b
second_of x a b (inl e) same = e ∙ sym same
second_of x a b (inr e) same = e

-- words of which one alone may differ between the rows
module _ (w s mix : ℕ → ℕ → ℕ) (m o : ℕ) (is : (n k : ℕ) → (mix n k ≡ w n k) ⊎ (mix n k ≡ s n k)) (even : (n k : ℕ) → (n ≡ m → k ≢ o) → s n k ≡ w n k) where
  here_or_even : (n k : ℕ) → ((n ≡ m) × (k ≡ o)) ⊎ (s n k ≡ w n k)
  here_or_even n k = elim (cases_eq n m) [
    | inr apart ↦ inr (even n k (λ e. absurd (apart e)))
    | inl same ↦ elim (cases_eq k o) [ inl here ↦ inl (same, here) | inr apart ↦ inr (even n k (λ e. apart)) ]
  ]

  all_first : mix m o ≡ w m o → (n k : ℕ) → mix n k ≡ w n k
  all_first here n k = elim (here_or_even n k) [
    | inl at ↦ subst (λ x. mix x k ≡ w x k) (sym at.0) (subst (λ x. mix m x ≡ w m x) (sym at.1) here)
    | inr same ↦ first_of (mix n k) (w n k) (s n k) (is n k) same
  ]

  all_second : mix m o ≡ s m o → (n k : ℕ) → mix n k ≡ s n k
  all_second here n k = elim (here_or_even n k) [
    | inl at ↦ subst (λ x. mix x k ≡ s x k) (sym at.0) (subst (λ x. mix m x ≡ s m x) (sym at.1) here)
    | inr same ↦ second_of (mix n k) (w n k) (s n k) (is n k) same
  ]

module _ (now safe mix : Columns) (is : IsMix now safe mix) where
  mixed_layer : AreEven now.layer safe.layer → mix.layer ≡ now.layer
  mixed_layer even = even_are_same now.layer mix.layer (mixes_are_even now.layer safe.layer mix.layer even is.layer)

  -- the mix is the one row, or the other, where these words are
  mix_now : (part : Part) → IsEvenBut part now safe → AreEven now.layer safe.layer → mix.generation ≡ now.generation → ((n k : ℕ) → mix.spot n k ≡ now.spot n k) → ((j k : ℕ) → mix.line j k ≡ now.line j k) → mix ≡ now
  mix_now part even layer generation spot line = columns_path now mix generation
      (λ k. first_of (mix.spare k) (now.spare k) (safe.spare k) (is.spare k) (even.spare k))
      (λ n. first_of (mix.version n) (now.version n) (safe.version n) (is.version n) (even.version n))
      spot line
      (mixed_layer layer)

  mix_safe : (part : Part) → IsEvenBut part now safe → AreEven now.layer safe.layer → mix.generation ≡ safe.generation → ((n k : ℕ) → mix.spot n k ≡ safe.spot n k) → ((j k : ℕ) → mix.line j k ≡ safe.line j k) → mix ≡ safe
  mix_safe part even layer generation spot line = columns_path safe mix generation
      (λ k. second_of (mix.spare k) (now.spare k) (safe.spare k) (is.spare k) (even.spare k))
      (λ n. second_of (mix.version n) (now.version n) (safe.version n) (is.version n) (even.version n))
      spot line
      (mixed_layer layer ∙ sym (even_are_same now.layer safe.layer layer))

  -- the words of a part that is durable
  module _ (part : Part) (even : IsEvenBut part now safe) where
    generation_first : part ≢ Generation → mix.generation ≡ now.generation
    generation_first ne = first_of mix.generation now.generation safe.generation is.generation (even.generation ne)

    generation_second : part ≢ Generation → mix.generation ≡ safe.generation
    generation_second ne = second_of mix.generation now.generation safe.generation is.generation (even.generation ne)

    spot_first : ((n : ℕ) → part ≢ Bits n) → (n k : ℕ) → mix.spot n k ≡ now.spot n k
    spot_first ne n k = first_of (mix.spot n k) (now.spot n k) (safe.spot n k) (is.spot n k) (even.spot n k (λ e. absurd (ne n e)))

    spot_second : ((n : ℕ) → part ≢ Bits n) → (n k : ℕ) → mix.spot n k ≡ safe.spot n k
    spot_second ne n k = second_of (mix.spot n k) (now.spot n k) (safe.spot n k) (is.spot n k) (even.spot n k (λ e. absurd (ne n e)))

    line_first : ((j : ℕ) → part ≢ State j) → (j k : ℕ) → mix.line j k ≡ now.line j k
    line_first ne j k = first_of (mix.line j k) (now.line j k) (safe.line j k) (is.line j k) (even.line j k (λ e. absurd (ne j e)))

    line_second : ((j : ℕ) → part ≢ State j) → (j k : ℕ) → mix.line j k ≡ safe.line j k
    line_second ne j k = second_of (mix.line j k) (now.line j k) (safe.line j k) (is.line j k) (even.line j k (λ e. absurd (ne j e)))

  -- at rest but for one word it is the one or the other
  mix_is : (part : Part) → IsEvenBut part now safe → AreEven now.layer safe.layer → (mix ≡ now) ⊎ (mix ≡ safe)
  mix_is Nothing even layer = inl (mix_now Nothing even layer (generation_first Nothing even (λ e. cc)) (spot_first Nothing even (λ n e. cc)) (line_first Nothing even (λ j e. cc)))
  mix_is Generation even layer = elim is.generation [
    | inl g ↦ inl (mix_now Generation even layer g (spot_first Generation even (λ n e. cc)) (line_first Generation even (λ j e. cc)))
    | inr g ↦ inr (mix_safe Generation even layer g (spot_second Generation even (λ n e. cc)) (line_second Generation even (λ j e. cc)))
  ]
  mix_is (Bits m) even layer =
      let others : (n k : ℕ) → (n ≡ m → k ≢ bitmap_offset) → safe.spot n k ≡ now.spot n k = λ n k apart. even.spot n k (λ e. apart (let same : m ≡ n = cc in sym same)) in
      elim (is.spot m bitmap_offset) [
        | inl g ↦ inl (mix_now (Bits m) even layer (generation_first (Bits m) even (λ e. cc)) (all_first now.spot safe.spot mix.spot m bitmap_offset is.spot others g) (line_first (Bits m) even (λ j e. cc)))
        | inr g ↦ inr (mix_safe (Bits m) even layer (generation_second (Bits m) even (λ e. cc)) (all_second now.spot safe.spot mix.spot m bitmap_offset is.spot others g) (line_second (Bits m) even (λ j e. cc)))
      ]
  mix_is (State m) even layer =
      let others : (n k : ℕ) → (n ≡ m → k ≢ 0) → safe.line n k ≡ now.line n k = λ n k apart. even.line n k (λ e. apart (let same : m ≡ n = cc in sym same)) in
      elim (is.line m state_offset) [
        | inl g ↦ inl (mix_now (State m) even layer (generation_first (State m) even (λ e. cc)) (spot_first (State m) even (λ n e. cc)) (all_first now.line safe.line mix.line m state_offset is.line others g))
        | inr g ↦ inr (mix_safe (State m) even layer (generation_second (State m) even (λ e. cc)) (spot_second (State m) even (λ n e. cc)) (all_second now.line safe.line mix.line m state_offset is.line others g))
      ]

  pub still_mends : (l : Layout) (list : List ListNode) (o : Columns) (part : Part) → IsStill l list o part now safe → Mends l list o mix
  still_mends l list o part still = elim (mix_is part still.even still.layer) [
    | inl same ↦ subst (Mends l list o) (sym same) still.cached
    | inr same ↦ subst (Mends l list o) (sym same) still.durable
  ]

  pub even_mix : (part : Part) → IsEvenBut part now safe → IsEvenBut part now mix
  even_mix part even = record {
    generation = λ ne. generation_first part even ne;
    spare = λ k. first_of (mix.spare k) (now.spare k) (safe.spare k) (is.spare k) (even.spare k);
    version = λ n. first_of (mix.version n) (now.version n) (safe.version n) (is.version n) (even.version n);
    spot = λ n k ne. first_of (mix.spot n k) (now.spot n k) (safe.spot n k) (is.spot n k) (even.spot n k ne);
    line = λ j k ne. first_of (mix.line j k) (now.line j k) (safe.line j k) (is.line j k) (even.line j k ne);
  }

  pub still_evicts : (l : Layout) (list : List ListNode) (o : Columns) (part : Part) → IsStill l list o part now safe → IsStill l list o part now mix
  still_evicts l list o part still = record {
    cached = still.cached;
    durable = still_mends l list o part still;
    even = even_mix part still.even;
    layer = mixes_are_even now.layer safe.layer mix.layer still.layer is.layer;
  }

-- a mix of the cached words and of such a mix is one of the cached and the durable words
mix_again : (w s mix more : LayerWords) → IsLayerMix w s mix → IsLayerMix w mix more → IsLayerMix w s more
mix_again w s mix more one two p = elim (two p) [
  | inl cached ↦ inl cached
  | inr mixed ↦ elim (one p) [ inl cached ↦ inl (mixed ∙ cached) | inr durable ↦ inr (mixed ∙ durable) ]
]

changes_evict : (l : Layout) (aim : Aim) (before : Layer) (c : Changing) (w s mix : LayerWords) → IsLayerMix w s mix → ChangesTo l aim before c w s → ChangesTo l aim before c w mix
changes_evict l aim before c w s mix is ch = record {
  backs = record {
    order = ch.backs.order;
    cached = ch.backs.cached;
    row = λ more more_is. ch.backs.row more (mix_again w s mix more is more_is);
    layer = λ more more_is. ch.backs.layer more (mix_again w s mix more is more_is);
  };
  even = λ done. mixes_are_even w s mix (ch.even done) is;
}

module _ (l : Layout) (list : List ListNode) (o : Columns) (aim : Aim) (before : Layer) (c : Changing) (now safe mix : Columns) (is : IsMix now safe mix) (ch : IsChanging l list o aim before c now safe) where
  layer_mends : MendsLayer l o (kept l mix.layer)
  layer_mends =
      let backs = ch.layer.backs in
      elim (mix_is_either aim before c (kept l now.layer) (kept l mix.layer) backs.cached (backs.layer mix.layer is.layer)) [
        | inl now_same ↦ elim (layer_is_either aim before c (kept l now.layer) backs.cached) [
          | inl same ↦ as_before (λ k. now_same k ∙ same k)
          | inr same ↦ let path : kept l mix.layer ≡ made_of aim before = λ x k. (now_same k ∙ same k) x in subst (MendsLayer l o) (sym path) ch.last
        ]
        | inr same ↦ as_before same
      ]
    where
      as_before : AreSame (kept l mix.layer) before → MendsLayer l o (kept l mix.layer)
      as_before same = let path : kept l mix.layer ≡ before = λ x k. same k x in subst (MendsLayer l o) (sym path) ch.first

  mended_layer : Mends l list o (with_layer now mix.layer)
  mended_layer = record {
    nodes = record { generation = ch.nodes.generation; spare = ch.nodes.spare; version = ch.nodes.version; words = ch.nodes.words; bits = ch.nodes.bits; fields = ch.nodes.fields };
    states = λ j. inl (ch.states j);
    row = ch.layer.backs.row mix.layer is.layer;
    layer = layer_mends;
  }

  pub changing_mends : Mends l list o mix
  changing_mends =
      let same : mix ≡ with_layer now mix.layer = columns_path (with_layer now mix.layer) mix
      (generation_first now safe mix is Nothing ch.even (λ e. cc))
      (λ k. first_of (mix.spare k) (now.spare k) (safe.spare k) (is.spare k) (ch.even.spare k))
      (λ n. first_of (mix.version n) (now.version n) (safe.version n) (is.version n) (ch.even.version n))
      (spot_first now safe mix is Nothing ch.even (λ n e. cc))
      (line_first now safe mix is Nothing ch.even (λ j e. cc))
      refl in
      subst (Mends l list o) (sym same) mended_layer

  pub changing_evicts : IsChanging l list o aim before c now mix
  changing_evicts = record {
    nodes = ch.nodes;
    states = ch.states;
    even = even_mix now safe mix is Nothing ch.even;
    layer = changes_evict l aim before c now.layer safe.layer mix.layer is.layer ch.layer;
    first = ch.first;
    last = ch.last;
  }

pub crash_mends : CrashMends
crash_mends l list o now safe mix Begins sound sure is = still_mends now safe mix is l list o Nothing sure.0
crash_mends l list o now safe mix Raised sound sure is = still_mends now safe mix is l list o Generation sure.0
crash_mends l list o now safe mix (Trims left) sound sure is = still_mends now safe mix is l list o Nothing sure.0
crash_mends l list o now safe mix (Trimmed n left) sound sure is = still_mends now safe mix is l list o (Bits n) sure.0
crash_mends l list o now safe mix (Unsets j) sound sure is = still_mends now safe mix is l list o Nothing sure.0
crash_mends l list o now safe mix (Unsetting j before c) sound sure is = changing_mends l list o (aim_at now j 0) before c now safe mix is sure.0
crash_mends l list o now safe mix (Sets j) sound sure is = still_mends now safe mix is l list o Nothing sure.0
crash_mends l list o now safe mix (Setting j n before c) sound sure is = changing_mends l list o (aim_at now j (suc n)) before c now safe mix is sure.0
crash_mends l list o now safe mix (Empties j) sound sure is = still_mends now safe mix is l list o Nothing sure.0
crash_mends l list o now safe mix (Emptied j) sound sure is = still_mends now safe mix is l list o (State j) sure.0
crash_mends l list o now safe mix Wakes sound sure is = still_mends now safe mix is l list o Nothing sure.0

pub evictions_keep : EvictionsKeep
unfolding changing_evicts
evictions_keep l list o now safe mix Begins sound sure is = (still_evicts now safe mix is l list o Nothing sure.0, sure.1, sure.2)
evictions_keep l list o now safe mix Raised sound sure is = (still_evicts now safe mix is l list o Generation sure.0, sure.1, sure.2)
evictions_keep l list o now safe mix (Trims left) sound sure is = (still_evicts now safe mix is l list o Nothing sure.0, sure.1, sure.2, sure.3)
evictions_keep l list o now safe mix (Trimmed n left) sound sure is = (still_evicts now safe mix is l list o (Bits n) sure.0, sure.1, sure.2, sure.3)
evictions_keep l list o now safe mix (Unsets j) sound sure is = (still_evicts now safe mix is l list o Nothing sure.0, sure.1, sure.2, sure.3, sure.4)
evictions_keep l list o now safe mix (Unsetting j before c) sound sure is = (changing_evicts l list o (aim_at now j 0) before c now safe mix is sure.0, sure.1, sure.2, sure.3, sure.4)
evictions_keep l list o now safe mix (Sets j) sound sure is = (still_evicts now safe mix is l list o Nothing sure.0, sure.1, sure.2, sure.3, sure.4, sure.5)
evictions_keep l list o now safe mix (Setting j n before c) sound sure is = (changing_evicts l list o (aim_at now j (suc n)) before c now safe mix is sure.0, sure.1, sure.2, sure.3, sure.4, sure.5, sure.6, sure.7)
evictions_keep l list o now safe mix (Empties j) sound sure is = (still_evicts now safe mix is l list o Nothing sure.0, sure.1, sure.2, sure.3, sure.4)
evictions_keep l list o now safe mix (Emptied j) sound sure is = (still_evicts now safe mix is l list o (State j) sure.0, sure.1, sure.2, sure.3, sure.4)
evictions_keep l list o now safe mix Wakes sound sure is = (still_evicts now safe mix is l list o Nothing sure.0, sure.1, sure.2, sure.3, sure.4)
