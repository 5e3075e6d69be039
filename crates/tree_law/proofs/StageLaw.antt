-- Mixes of the words of one stage.
use Rattle.std.proofs.Common.{◌≡◌, ◌≢◌, ℕ, ◌+◌, ◌*◌, ◌/◌, ◌%◌, ◌<◌, ◌⊎◌, inl, inr, refl, sym, subst, ap, ap₂, ◌∙◌}
use Rattle.std.proofs.Common.{arith, ◌^◌}
use Rattle.std.proofs.lemmas.Bool.{cases_eq}
use Rattle.layer_map.specs.Layers.{Layer, AreSame}
use Rattle.layer_map.specs.cat_key.specs.declared.TheConstants.{WORDS}
use Rattle.tree_law.specs.Trees.{Reference, Nothing, Leaf, Cell, IsReached}
use Rattle.radix_nodes.specs.Cells.{IsForm}
use Rattle.tree_law.specs.Switches.{AreSameWhereReached, IsSameAt}
use Rattle.tree_law.specs.Words.{LayerWord, RootWord, LeafWord, CellWord, LayerWords, word_in, kind_of, number_of}
use Rattle.tree_law.specs.Words.{reference_of, cell_in, tree_of, layer_of, room_of, Keeps, Part, LeafPart, CellPart}
use Rattle.tree_law.specs.Words.{part_reference, part_word}
use Rattle.tree_law.specs.Stages.{FillsKeep, SwitchesKeep, QuietKeeps, SomeIsFree}
use Rattle.tree_law.proofs.OtherLaw.{others_may_differ}
use Rattle.tree_law.proofs.RoomLaw.{leaves_are_few, cells_are_few}
use Rattle.tree_law.proofs.WordLaw.{part_may_differ, part_reached, cell_apart, depth_kept, prefix_kept, child_kept}
use Rattle.tree_law.proofs.WordLaw.{form_kept, head_kept, leaf_key}

-- the same words, one by one
pub same_words : (w w' : LayerWords) → ((p : LayerWord) → word_in w' p ≡ word_in w p) → w' ≡ w
same_words w w' same = λ k. record {
  root = same RootWord k;
  leaf = λ i o. same (LeafWord i o) k;
  cell = λ kind n o. same (CellWord kind n o) k;
}

keeps_through : (count nodes : ℕ) (layer middle : Layer) (w : LayerWords) → Keeps count nodes middle w → AreSame middle layer → Keeps count nodes layer w
keeps_through count nodes layer middle w keeps same = record { lawful = keeps.lawful; same = λ k. keeps.same k ∙ same k }

-- a part that differs keeps the layer, and stays unreached
module _ (count nodes : ℕ) (before : Layer) (part : Part) where
  fill_keeps : (w w' : LayerWords) → Keeps count nodes before w → (IsReached (tree_of w) (part_reference part) → ⊥) → ((p : LayerWord) → ((o : ℕ) → p ≢ part_word part o) → word_in w' p ≡ word_in w p)
      → Keeps count nodes before w'
  fill_keeps w w' keeps unreached same = keeps_through count nodes before (layer_of w) w' (part_may_differ count nodes w w' part keeps.lawful unreached same) keeps.same

pub fills_keep : FillsKeep
fills_keep count nodes before part = record {
  begins = λ w s keeps unreached even. record { keeps = keeps; unreached = unreached; even = λ p outside. even p };
  stores = λ w w' s o word sure stored.
      let same : (p : LayerWord) → ((o : ℕ) → p ≢ part_word part o) → word_in w' p ≡ word_in w p = λ p outside. stored.others p (outside o) in
      record {
        keeps = fill_keeps count nodes before part w w' sure.keeps sure.unreached same;
        unreached = unreached_then w w' sure.keeps sure.unreached same;
        even = λ p outside. sure.even p outside ∙ sym (same p outside);
      };
  drains = λ w s mix sure is. record {
    keeps = sure.keeps;
    unreached = sure.unreached;
    even = λ p outside. elim (is p) [ inl cached ↦ cached | inr durable ↦ durable ∙ sure.even p outside ];
  };
  mixes = λ w s mix sure is.
      fill_keeps count nodes before part w mix sure.keeps sure.unreached (λ p outside. elim (is p) [ inl cached ↦ cached | inr durable ↦ durable ∙ sure.even p outside ]);
  ends = λ w s sure part_even p. elim (is_of_part part p) [ inl inside ↦ subst (λ q. word_in s q ≡ word_in w q) (sym inside.1) (part_even inside.0) | inr outside ↦ sure.even p outside ];
}
  where
    unreached_then : (w w' : LayerWords) → Keeps count nodes before w → (IsReached (tree_of w) (part_reference part) → ⊥) → ((p : LayerWord) → ((o : ℕ) → p ≢ part_word part o) → word_in w' p ≡ word_in w p)
        → IsReached (tree_of w') (part_reference part) → ⊥
    unreached_then w w' keeps unreached same reached = unreached (part_reached count nodes w w' part keeps.lawful unreached same (part_reference part) reached)

    is_of_part : (part : Part) (p : LayerWord) → ((o : ℕ) × (p ≡ part_word part o)) ⊎ ((o : ℕ) → p ≢ part_word part o)
    is_of_part (LeafPart i) RootWord = inr (λ o e. cc)
    is_of_part (LeafPart i) (LeafWord j o) = elim (cases_eq j i) [ inl same ↦ inl (o, ap (λ k. LeafWord k o) same) | inr apart ↦ inr (λ o' e. apart (let same : j ≡ i = cc in same)) ]
    is_of_part (LeafPart i) (CellWord kind n o) = inr (λ o' e. cc)
    is_of_part (CellPart x) RootWord = inr (λ o e. cc)
    is_of_part (CellPart x) (LeafWord j o) = inr (λ o' e. cc)
    is_of_part (CellPart x) (CellWord kind n o) = elim (cases_eq kind (kind_of x)) [
      | inl same_kind ↦ elim (cases_eq n (number_of x)) [
        | inl same ↦ inl (o, ap₂ (λ k m. CellWord k m o) same_kind same)
        | inr apart ↦ inr (λ o' e. apart (let same : n ≡ number_of x = cc in same))
      ]
      | inr apart ↦ inr (λ o' e. apart (let same : kind ≡ kind_of x = cc in same))
    ]

pub switches_keep : SwitchesKeep
switches_keep count nodes before made p = record {
  stores = λ w w' s word keeps even stored made'. record {
    was = w;
    old = keeps;
    new = made';
    others = λ q apart. sym (stored.others q apart);
    even = λ q apart. even q ∙ sym (stored.others q apart);
    twin = inr (even p);
  };
  drains = λ w s mix sure is. record {
    was = sure.was;
    old = sure.old;
    new = sure.new;
    others = sure.others;
    even = λ q apart. elim (is q) [ inl cached ↦ cached | inr durable ↦ durable ∙ sure.even q apart ];
    twin = elim (is p) [ inl cached ↦ inl cached | inr durable ↦ elim sure.twin [ inl now ↦ inl (durable ∙ now) | inr then_ ↦ inr (durable ∙ then_) ] ];
  };
  mixes = λ w s mix sure is.
      let other : (q : LayerWord) → q ≢ p → word_in mix q ≡ word_in w q = λ q apart. elim (is q) [ inl cached ↦ cached | inr durable ↦ durable ∙ sure.even q apart ] in
      let now : word_in mix p ≡ word_in w p → Keeps count nodes made mix = λ same. subst (Keeps count nodes made) (sym (same_words w mix (every w mix other same))) sure.new in
      let then_ : word_in mix p ≡ word_in sure.was p → Keeps count nodes before mix = λ same.
      subst (Keeps count nodes before) (sym (same_words sure.was mix (every sure.was mix (λ q apart. other q apart ∙ sym (sure.others q apart)) same))) sure.old in
      elim (is p) [
        | inl cached ↦ inr (now cached)
        | inr durable ↦ elim sure.twin [ inl same ↦ inr (now (durable ∙ same)) | inr same ↦ inl (then_ (durable ∙ same)) ]
      ];
  ends = λ w s sure same. every w s sure.even same;
}
  where
    is_word : (q p : LayerWord) → (q ≡ p) ⊎ (q ≢ p)
    is_word RootWord RootWord = inl refl
    is_word RootWord (LeafWord i o) = inr (λ e. cc)
    is_word RootWord (CellWord k n o) = inr (λ e. cc)
    is_word (LeafWord i o) RootWord = inr (λ e. cc)
    is_word (LeafWord i o) (LeafWord j u) = elim (cases_eq i j) [
      | inl same ↦ elim (cases_eq o u) [ inl offset ↦ inl (ap₂ LeafWord same offset) | inr apart ↦ inr (λ e. apart (let is : o ≡ u = cc in is)) ]
      | inr apart ↦ inr (λ e. apart (let is : i ≡ j = cc in is))
    ]
    is_word (LeafWord i o) (CellWord k n u) = inr (λ e. cc)
    is_word (CellWord k n o) RootWord = inr (λ e. cc)
    is_word (CellWord k n o) (LeafWord i u) = inr (λ e. cc)
    is_word (CellWord k n o) (CellWord l m u) = elim (cases_eq k l) [
      | inl kind ↦ elim (cases_eq n m) [
        | inl number ↦ elim (cases_eq o u) [ inl offset ↦ inl (ap₂ (λ a b. CellWord a b o) kind number ∙ ap (CellWord l m) offset) | inr apart ↦ inr (λ e. apart (let is : o ≡ u = cc in is)) ]
        | inr apart ↦ inr (λ e. apart (let is : n ≡ m = cc in is))
      ]
      | inr apart ↦ inr (λ e. apart (let is : k ≡ l = cc in is))
    ]

    every : (w w' : LayerWords) → ((q : LayerWord) → q ≢ p → word_in w' q ≡ word_in w q) → word_in w' p ≡ word_in w p → (q : LayerWord) → word_in w' q ≡ word_in w q
    every w w' others same q = elim (is_word q p) [ inl is ↦ subst (λ r. word_in w' r ≡ word_in w r) (sym is) same | inr apart ↦ others q apart ]

pub quiet_keeps : QuietKeeps
quiet_keeps count nodes before w w' x offset word keeps stored quiet =
    let t = tree_of w in
    let t' = tree_of w' in
    let cells : (y : ℕ) → x ≢ y → (o : ℕ) → cell_in w' y o ≡ cell_in w y o = λ y apart o. stored.others (CellWord (kind_of y) (number_of y) o) (cell_apart x y o offset apart) in
    let leaves : (i o : ℕ) → w'.leaf i o ≡ w.leaf i o = λ i o. stored.others (LeafWord i o) (λ e. cc) in
    let root_same : w'.root ≡ w.root = stored.others RootWord (λ e. cc) in
    let cell_alike : (y : ℕ) → IsSameAt t t' (Cell y) = λ y. elim (cases_eq x y) [
      | inl same ↦ subst (λ z. IsSameAt t t' (Cell z)) same (quiet.head 0 (omega arith), head_kept w w' x quiet.head, λ b. ap reference_of (quiet.same b))
      | inr apart ↦ (depth_kept w w' y (cells y apart), prefix_kept w w' y (cells y apart), λ b. child_kept w w' y (cells y apart) b)
    ] in
    let alike : AreSameWhereReached t t' = record { root = ap reference_of root_same; here = λ q reached. at q (λ i. (leaf_key w w' i (λ o lt. leaves i o), leaves i WORDS)) cell_alike } in
    let stays = others_may_differ (room_of count nodes) t t' keeps.lawful.tree alike in
    record {
      lawful = record {
        tree = stays.tree;
        forms = λ y reach.
            let form = keeps.lawful.forms y (stays.reached (Cell y) reach) in
            elim (cases_eq x y) [ inl same ↦ subst (λ z. IsForm (kind_of z) (cell_in w' z)) same quiet.form | inr apart ↦ form_kept w w' y (cells y apart) form ];
      };
      same = λ k. stays.layer k ∙ keeps.same k;
    }
  where
    at : (q : Reference) → ((i : ℕ) → IsSameAt (tree_of w) (tree_of w') (Leaf i)) → ((y : ℕ) → IsSameAt (tree_of w) (tree_of w') (Cell y)) → IsSameAt (tree_of w) (tree_of w') q
    at Nothing leaves cells = tt
    at (Leaf i) leaves cells = leaves i
    at (Cell y) leaves cells = cells y

pub some_is_free : SomeIsFree
some_is_free count nodes marks w kind lawful tell few more fits least most marked = elim (cases_eq kind 1) [
  | inl leaf ↦
      let used : (i : ℕ) → i < count → marks 1 i ≢ 0 = λ i lt. subst (λ k. marks k i ≢ 0) leaf (marked i lt) in
      let fewer = leaves_are_few (room_of count nodes) (tree_of w) nodes lawful.tree few count (λ i. i) (λ i lt. tell.leaf i lt (used i lt)) (λ i j lt lt' same. same) in
      omega arith
  | inr cell ↦
      let at : (i : ℕ) → i < count → (kind_of (kind * 2 ^ 16 + i) ≡ kind) × (number_of (kind * 2 ^ 16 + i) ≡ i) = λ i lt.
      (let k : (kind * 2 ^ 16 + i) / 2 ^ 16 ≡ kind = omega arith in k, let n : (kind * 2 ^ 16 + i) % 2 ^ 16 ≡ i = omega arith in n) in
      let fewer = cells_are_few (room_of count nodes) (tree_of w) nodes lawful.tree few count (λ i. kind * 2 ^ 16 + i)
      (λ i lt.
      let is_kind : kind_of (kind * 2 ^ 16 + i) ≡ kind = (at i lt).0 in
      let is_number : number_of (kind * 2 ^ 16 + i) ≡ i = (at i lt).1 in
      tell.cell (kind * 2 ^ 16 + i) (omega (arith, cell)) (omega arith) (omega arith) (λ e. marked i lt (sym (ap₂ marks is_kind is_number) ∙ e)))
      (λ i j lt lt' same. omega arith) in
      omega arith
]
