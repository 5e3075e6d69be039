-- Each step of a recovery keeps what it is sure of.
use Rattle.std.proofs.Common.{◌≡◌, ◌≢◌, ℕ, suc, ◌-◌, ◌<◌, ◌≤◌, ◌⊎◌, ◌↔◌, cond, List, [], ◌∷◌, Option, Some, None, inl}
use Rattle.std.proofs.Common.{◌+◌}
use Rattle.std.proofs.Common.{inr, refl, sym, subst, ap, ◌∙◌, arith}
use Rattle.std.proofs.lemmas.Bool.{cases_eq, cases_lt, eq-eqb, ne_eqb}
use Rattle.pm_words.specs.declared.layout.Layout.{Layout}
use Rattle.pm_words.specs.Codes.{empty_state}
use Rattle.pm_words.specs.Offsets.{bitmap_offset, anchor_offset, state_offset}
use Rattle.data_node.specs.Spots.{Spot, updated}
use Rattle.data_node.specs.Lists.{ListNode, anchor_in, range_in, IsMember, IsIn, IsChain, StaysIn}
use Rattle.data_node.proofs.SpotLemmas.{updated-same, updated-other}
use Rattle.layer_map.specs.Layers.{Layer, HasFew, changed_at, node_of}
use Rattle.updater_row_law.specs.search_layer.specs.Rows.{LayerWords, IsLayerMix}
use Rattle.updater_row_law.specs.tree_update.specs.declared.change.ChangeAt.{ChangeAt}
use Rattle.updater_row_law.specs.tree_update.specs.Stages.{Aim, made_of}
use Rattle.updater_row_law.specs.search_layer.specs.ChangeStages.{Changing, Making, Changed, start_stage}
use Rattle.updater_row_law.specs.search_layer.specs.Kept.{kept, IsKept}
use Rattle.updater_row_law.specs.search_layer.proofs.RowLemmas.{even_are_same, mixes_are_even}
use Rattle.layer_map.proofs.Pigeons.{different_fit}
use Rattle.updater_law.specs.Covers.{IsOpenFor}
use Rattle.updater_law.specs.Covered.{ListHas}
use Rattle.updater_law.proofs.Columns.{here, other}
use Rattle.updater_row_law.specs.Columns.{line_count}
use Rattle.image_recovery_law.specs.Columns.{Columns, anchor_of, line_anchor, lines_of, layer_kept, IsNameKey}
use Rattle.image_recovery_law.specs.Columns.{IsSound, IsTrim, MendsNodes, MendsLayer, Mends}
use Rattle.image_recovery_law.specs.Stages.{with_bits, with_empty, with_layer, nodes_behind, nodes_of, IsOneOf}
use Rattle.image_recovery_law.specs.Stages.{aim_at, Stage, ChangesTo, Step, raises, raised, passes_node, trims}
use Rattle.image_recovery_law.specs.Stages.{trimmed, all_trimmed, passes_unset, unsets, unsetting, unset, all_unset}
use Rattle.image_recovery_law.specs.Stages.{passes_set, sets, setting, set, all_set, passes_empty, empties, emptied}
use Rattle.image_recovery_law.specs.Stages.{all_empty, Nothing, Bits, State, IsEvenBut, IsStill, IsChanging, AreUntouched}
use Rattle.image_recovery_law.specs.Stages.{AreListed, Sure}
use Rattle.image_recovery_law.specs.Laws.{Starts, StepsKeep}
use Rattle.image_recovery_law.proofs.Alike.{anchor_same, anchor_kept, trim_twice}
use Rattle.image_recovery_law.proofs.Mended.{apart_anchors, in_image, is_open_or_not, used_line, line_named, mends_none}
use Rattle.image_recovery_law.proofs.Mixes.{columns_path}

-- words of nodes with a bitmap changed
bits_here : (i : Columns) (n bits : ℕ) → (with_bits i n bits).spot n ≡ updated (i.spot n) bitmap_offset bits
bits_here i n bits = here i.spot n n (updated (i.spot n) bitmap_offset bits) refl

pub bits_word : (i : Columns) (n bits : ℕ) → (with_bits i n bits).spot n bitmap_offset ≡ bits
bits_word i n bits = ap (λ (s : Spot). s bitmap_offset) (bits_here i n bits) ∙ updated-same (i.spot n) bitmap_offset bits

bits_apart : (i : Columns) (n bits m : ℕ) → m ≢ n → (with_bits i n bits).spot m ≡ i.spot m
bits_apart i n bits m ne = other i.spot n m (updated (i.spot n) bitmap_offset bits) ne

pub bits_other : (i : Columns) (n bits m offset : ℕ) → (m ≡ n → offset ≢ bitmap_offset) → (with_bits i n bits).spot m offset ≡ i.spot m offset
bits_other i n bits m offset apart = elim (cases_eq m n) [
  | inr ne ↦ ap (λ (s : Spot). s offset) (bits_apart i n bits m ne)
  | inl e ↦ subst (λ x. (with_bits i n bits).spot x offset ≡ i.spot x offset) (sym e) (ap (λ (s : Spot). s offset) (bits_here i n bits) ∙ updated-other (i.spot n) bitmap_offset bits offset (apart e))
]

-- words of lines with one emptied
pub empty_here : (i : Columns) (j : ℕ) → (with_empty i j).line j 0 ≡ 0
empty_here i j = ap (λ (s : Spot). s 0) (here i.line j j (updated (i.line j) state_offset empty_state) refl) ∙ updated-same (i.line j) state_offset empty_state

pub empty_other : (i : Columns) (j k offset : ℕ) → (k ≡ j → offset ≢ 0) → (with_empty i j).line k offset ≡ i.line k offset
empty_other i j k offset apart = elim (cases_eq k j) [
  | inr ne ↦ ap (λ (s : Spot). s offset) (other i.line j k (updated (i.line j) state_offset empty_state) ne)
  | inl e ↦ subst (λ x. (with_empty i j).line x offset ≡ i.line x offset) (sym e)
      (ap (λ (s : Spot). s offset) (here i.line j j (updated (i.line j) state_offset empty_state) refl) ∙ updated-other (i.line j) state_offset empty_state offset (apart e))
]

-- every listed node is to be trimmed
behind_all : (list : List ListNode) (n : ℕ) → IsMember list n → IsOneOf (nodes_behind list) n
behind_all [] n is = is
behind_all (m ∷ behind) n (inl e) = inl e
behind_all (m ∷ behind) n (inr later) = inr (behind_all behind n later)

nodes_all : (list : List ListNode) (n : ℕ) → IsIn list n → IsOneOf (nodes_of list) n
nodes_all list n (inl e) = inl e
nodes_all list n (inr is) = inr (behind_all list n is)

-- what is listed at a key, or that nothing is
member_at : (now : ℕ → Spot) (from : ℕ) (list : List ListNode) (key : ℕ) → IsChain now from list → ((n : ℕ) × IsMember list n × (anchor_in (now n) ≡ key)) ⊎ ((n : ℕ) → IsMember list n → anchor_in (now n) ≢ key)
member_at now from [] key chain = inr (λ n is. absurd is)
member_at now from (m ∷ behind) key chain = elim (cases_eq (anchor_in (now m.node)) key) [
  | inl same ↦ inl (m.node, inl refl, same)
  | inr ne ↦ elim (member_at now m.node behind key chain.3) [
    | inl found ↦ inl (found.0, inr found.1, found.2)
    | inr none ↦ inr (λ n is. elim is [ inl e ↦ subst (λ x. anchor_in (now x) ≢ key) (sym e) ne | inr later ↦ none n later ])
  ]
]

listed_at : (now : ℕ → Spot) (list : List ListNode) (key : ℕ) → IsChain now 0 list → ((n : ℕ) × IsIn list n × (anchor_in (now n) ≡ key)) ⊎ ((n : ℕ) → IsIn list n → anchor_in (now n) ≢ key)
listed_at now list key chain = elim (cases_eq (anchor_in (now 0)) key) [
  | inl same ↦ inl (0, inl refl, same)
  | inr ne ↦ elim (member_at now 0 list key chain) [
    | inl found ↦ inl (found.0, inr found.1, found.2)
    | inr none ↦ inr (λ n is. elim is [ inl e ↦ subst (λ x. anchor_in (now x) ≢ key) (sym e) ne | inr later ↦ none n later ])
  ]
]

-- fewer keys are few
few_less : (most : ℕ) (layer less : ℕ → Option ℕ) → ((key : ℕ) → layer key ≡ None → less key ≡ None) → HasFew most layer → HasFew most less
few_less most layer less none few m f some apart = few m f (λ i lt e. some i lt (none (f i) e)) apart

-- what a layer has at a key
some_or_none : (layer : ℕ → Option ℕ) (key : ℕ) → (layer key ≡ None) ⊎ ((node : ℕ) × (layer key ≡ Some node))
some_or_none layer key = elim (layer key) as (λ v. (v ≡ None) ⊎ ((node : ℕ) × (v ≡ Some node))) [ None ↦ inl refl | Some node ↦ inr (node, refl) ]

-- a layer with one key changed
here_changed : (layer : ℕ → Option ℕ) (key : ℕ) (v : Option ℕ) (k : ℕ) → k ≡ key → changed_at layer key v k ≡ v
here_changed layer key v k e = ap (λ b. cond b v (layer k)) (eq-eqb k key e)

else_changed : (layer : ℕ → Option ℕ) (key : ℕ) (v : Option ℕ) (k : ℕ) → k ≢ key → changed_at layer key v k ≡ layer k
else_changed layer key v k ne = ap (λ b. cond b v (layer k)) (ne_eqb k key ne)

-- a change that goes on isn't done
not_done : (part : ChangeAt) → Making part ≡ Changed → ⊥
not_done part e = cc

node_suc : (n : ℕ) → node_of (suc n) ≡ Some n
node_suc n = ap (λ b. cond b None (Some (suc n - 1))) (ne_eqb (suc n) 0 (λ e. omega arith)) ∙ ap Some (omega arith)

-- Of a recovery of o.
module _ (l : Layout) (list : List ListNode) (o : Columns) (sound : IsSound l list o) where
  -- different anchors of listed nodes are no more than the nodes
  pick : (m : ℕ) (f : ℕ → ℕ) → ((i : ℕ) → i < m → (n : ℕ) × IsIn list n × (anchor_of o n ≡ f i)) → (i : ℕ) → (i < m) ⊎ (m ≤ i) → ℕ
  pick m f all i (inl lt) = (all i lt).0
  pick m f all i (inr past) = 0

  pick_is : (m : ℕ) (f : ℕ → ℕ) (all : (i : ℕ) → i < m → (n : ℕ) × IsIn list n × (anchor_of o n ≡ f i)) (i : ℕ) (c : (i < m) ⊎ (m ≤ i)) → i < m → IsIn list (pick m f all i c) × (anchor_of o (pick m f all i c) ≡ f i)
  unfolding pick
  pick_is m f all i (inl lt) within = ((all i lt).1, (all i lt).2)
  pick_is m f all i (inr past) within = absurd (omega arith)

  few_listed : (layer : ℕ → Option ℕ) → ((key : ℕ) → layer key ≢ None → (n : ℕ) × IsIn list n × (anchor_of o n ≡ key)) → HasFew l.nodes layer
  few_listed layer listed m f some apart =
      let all : (i : ℕ) → i < m → (n : ℕ) × IsIn list n × (anchor_of o n ≡ f i) = λ i lt. listed (f i) (some i lt) in
      let g : ℕ → ℕ = λ i. pick m f all i (cases_lt i m) in
      let is : (i : ℕ) → i < m → IsIn list (g i) × (anchor_of o (g i) ≡ f i) = λ i lt. pick_is m f all i (cases_lt i m) lt in
      different_fit l.nodes m g (λ i lt. in_image l list o sound (g i) (is i lt).0) (λ i j lt lt' same. apart i j lt lt' (sym (is i lt).1 ∙ ap (anchor_of o) same ∙ (is j lt').1))

  few_are_listed : (layer : ℕ → Option ℕ) → AreListed list o layer → HasFew l.nodes layer
  few_are_listed layer listed = few_listed layer (λ key some. elim (some_or_none layer key) [ inl none ↦ absurd (some none) | inr found ↦ listed key found.0 found.1 ])

  -- the layer with an anchor taken out, and with one set
  unset_layer : (layer : ℕ → Option ℕ) (key : ℕ) → IsOpenFor (lines_of o) key → MendsLayer l o layer → MendsLayer l o (changed_at layer key None)
  unset_layer layer key opened first = record {
    keys = λ k node is. elim (cases_eq k key) [
      | inl e ↦ absurd (let no_way : None ≡ Some node = sym (here_changed layer key None k e) ∙ is in cc)
      | inr ne ↦ first.keys k node (sym (else_changed layer key None k ne) ∙ is)
    ];
    few = few_less l.nodes layer (changed_at layer key None)
        (λ k none. elim (cases_eq k key) [ inl e ↦ here_changed layer key None k e | inr ne ↦ else_changed layer key None k ne ∙ none ]) first.few;
    same = λ k closed. else_changed layer key None k (λ e. closed (subst (IsOpenFor (lines_of o)) (sym e) opened)) ∙ first.same k closed;
  }

  set_layer : (layer : ℕ → Option ℕ) (key n : ℕ) → IsOpenFor (lines_of o) key → IsIn list n → anchor_of o n ≡ key → IsNameKey key → AreListed list o layer → MendsLayer l o layer
      → MendsLayer l o (changed_at layer key (Some n)) × AreListed list o (changed_at layer key (Some n))
  set_layer layer key n opened is anchor named listed first =
      let after : AreListed list o (changed_at layer key (Some n)) =
      λ k node has. elim (cases_eq k key) [
        | inl e ↦ (n, is, anchor ∙ sym e)
        | inr ne ↦ listed k node (sym (else_changed layer key (Some n) k ne) ∙ has)
      ] in (
        record {
          keys = λ k node has. elim (cases_eq k key) [
            | inl e ↦ inr (subst IsNameKey (sym e) named)
            | inr ne ↦ first.keys k node (sym (else_changed layer key (Some n) k ne) ∙ has)
          ];
          few = few_are_listed (changed_at layer key (Some n)) after;
          same = λ k closed. else_changed layer key (Some n) k (λ e. closed (subst (IsOpenFor (lines_of o)) (sym e) opened)) ∙ first.same k closed;
        },
        after,
      )

  module _ (now safe : Columns) where
    pub anchors_now : MendsNodes l list o now → (n : ℕ) → anchor_of now n ≡ anchor_of o n
    anchors_now nodes n = anchor_kept (o.spot n) (now.spot n) (nodes.words n)

    pub lines_now : MendsNodes l list o now → (j : ℕ) → line_anchor now j ≡ line_anchor o j
    lines_now nodes j = anchor_same (o.line j) (now.line j) (nodes.fields j anchor_offset (λ e. cc)) (nodes.fields j (anchor_offset + 1) (λ e. cc)) (nodes.fields j (anchor_offset + 2) (λ e. cc))

    -- the beginning of a change, a step of it, and its end
    change_begins : (aim : Aim) → IsStill l list o Nothing now safe → AreUntouched o now → MendsLayer l o (made_of aim (layer_kept l now))
        → IsChanging l list o aim (layer_kept l now) (start_stage l aim) now safe
    change_begins aim still untouched last =
        let same : (mix : LayerWords) → IsLayerMix now.layer safe.layer mix → mix ≡ now.layer =
        λ mix is. even_are_same now.layer mix (mixes_are_even now.layer safe.layer mix still.layer is) in
        record {
          nodes = still.cached.nodes;
          states = untouched;
          even = still.even;
          layer = record {
            backs = record {
              order = still.cached.row;
              cached = λ k. refl;
              row = λ mix is. subst (IsKept l) (sym (same mix is)) still.cached.row;
              layer = λ mix is. inl (λ k. ap (λ (w : LayerWords). kept l w k) (same mix is));
            };
            even = λ e. absurd (not_done _ e);
          };
          first = still.cached.layer;
          last = last;
        }

    change_goes : (aim : Aim) (before : Layer) (c next : Changing) (w s : LayerWords) → ChangesTo l aim before next w s → IsChanging l list o aim before c now safe
        → IsChanging l list o aim before next (with_layer now w) (with_layer safe s)
    change_goes aim before c next w s goes ch = record {
      nodes = record { generation = ch.nodes.generation; spare = ch.nodes.spare; version = ch.nodes.version; words = ch.nodes.words; bits = ch.nodes.bits; fields = ch.nodes.fields };
      states = ch.states;
      even = record { generation = ch.even.generation; spare = ch.even.spare; version = ch.even.version; spot = ch.even.spot; line = ch.even.line };
      layer = goes;
      first = ch.first;
      last = ch.last;
    }

    change_ends : (aim : Aim) (before : Layer) → IsChanging l list o aim before Changed now safe → IsStill l list o Nothing now safe
    change_ends aim before ch =
        let even = ch.layer.even refl in
        let layer : layer_kept l now ≡ made_of aim before = λ x k. ch.layer.backs.cached k x in
        let cached : Mends l list o now = record { nodes = ch.nodes; states = λ j. inl (ch.states j); row = ch.layer.backs.order; layer = subst (MendsLayer l o) (sym layer) ch.last } in
        let same : safe ≡ now = columns_path now safe (ch.even.generation (λ e. cc)) ch.even.spare ch.even.version (λ n k. ch.even.spot n k (λ e. absurd cc)) (λ n k. ch.even.line n k (λ e. absurd cc)) (even_are_same now.layer safe.layer even) in
        record { cached = cached; durable = subst (Mends l list o) (sym same) cached; even = ch.even; layer = even }

    step : {s s' : Stage} {now' safe' : Columns} → Step l list now safe s s' now' safe' → Sure l list o s now safe → Sure l list o s' now' safe'
    unfolding change_begins change_goes anchor_in
    step raises (still, untouched, generation) = (
      record {
        cached = record {
          nodes = record {
            generation = inr (ap suc generation);
            spare = still.cached.nodes.spare;
            version = still.cached.nodes.version;
            words = still.cached.nodes.words;
            bits = still.cached.nodes.bits;
            fields = still.cached.nodes.fields;
          };
          states = still.cached.states;
          row = still.cached.row;
          layer = still.cached.layer;
        };
        durable = still.durable;
        even = record { generation = λ ne. absurd (ne refl); spare = still.even.spare; version = still.even.version; spot = λ n k ne. still.even.spot n k (λ e. absurd cc); line = λ n k ne. still.even.line n k (λ e. absurd cc) };
        layer = still.layer;
      },
      untouched,
      ap suc generation,
    )
    step (raised same) (still, untouched, generation) = (
      record {
        cached = still.cached;
        durable = still.durable;
        even = record { generation = λ ne. same; spare = still.even.spare; version = still.even.version; spot = λ n k ne. still.even.spot n k (λ e. absurd cc); line = λ n k ne. still.even.line n k (λ e. absurd cc) };
        layer = still.layer;
      },
      untouched,
      generation,
      λ n is. inl (nodes_all list n is),
    )
    step (passes_node n left stays) (still, untouched, generation, done) = (
      still,
      untouched,
      generation,
      λ m is. elim (done m is) [
        | inr has ↦ inr has
        | inl among ↦ elim among [ inl e ↦ inr (subst (λ x. StaysIn l.slots (range_in list x) (now.spot x)) (sym e) stays) | inr later ↦ inl later ]
      ],
    )
    step (trims n left bits trim stays) (still, untouched, generation, done) =
        let nodes : MendsNodes l list o (with_bits now n bits) = record {
          generation = still.cached.nodes.generation;
          spare = still.cached.nodes.spare;
          version = still.cached.nodes.version;
          words = λ m offset ne. bits_other now n bits m offset (λ e. ne) ∙ still.cached.nodes.words m offset ne;
          bits = λ m is. elim (cases_eq m n) [
            | inr ne ↦ subst (λ (x : Spot). IsTrim l.slots (range_in list m) (o.spot m) (x bitmap_offset)) (sym (bits_apart now n bits m ne)) (still.cached.nodes.bits m is)
            | inl e ↦ subst (λ x. IsTrim l.slots (range_in list x) (o.spot x) ((with_bits now n bits).spot x bitmap_offset)) (sym e)
                (subst (IsTrim l.slots (range_in list n) (o.spot n)) (sym (bits_word now n bits))
                (trim_twice l.slots (range_in list n) (o.spot n) (now.spot n) bits (still.cached.nodes.words n) (still.cached.nodes.bits n (subst (IsIn list) e is)) trim))
          ];
          fields = still.cached.nodes.fields;
        } in
        let even : IsEvenBut (Bits n) (with_bits now n bits) safe = record {
          generation = λ ne. still.even.generation (λ e. cc);
          spare = still.even.spare;
          version = still.even.version;
          spot = λ m k ne. still.even.spot m k (λ e. absurd cc) ∙ sym (bits_other now n bits m k (λ e. ne (ap Bits (sym e))));
          line = λ m k ne. still.even.line m k (λ e. absurd cc);
        } in (
          assumption (still, nodes, even),
          untouched,
          generation,
          λ m is. elim (cases_eq m n) [
            | inl e ↦ inr (subst (λ x. StaysIn l.slots (range_in list x) ((with_bits now n bits).spot x)) (sym e) (subst (StaysIn l.slots (range_in list n)) (sym (bits_here now n bits)) stays))
            | inr ne ↦ elim (done m is) [
              | inr has ↦ inr (subst (StaysIn l.slots (range_in list m)) (sym (bits_apart now n bits m ne)) has)
              | inl among ↦ elim among [ inl e ↦ absurd (ne e) | inr later ↦ inl later ]
            ]
          ],
        )
    step (trimmed n left same) (still, untouched, generation, done) =
        let even : IsEvenBut Nothing now safe = record {
          generation = λ ne. still.even.generation (λ e. cc);
          spare = still.even.spare;
          version = still.even.version;
          spot = λ m k ne. elim (cases_eq m n) [
            | inr apart ↦ still.even.spot m k (λ e. absurd (let one : n ≡ m = cc in apart (sym one)))
            | inl e ↦ elim (cases_eq k bitmap_offset) [
              | inl f ↦ subst (λ x. safe.spot x k ≡ now.spot x k) (sym e) (subst (λ x. safe.spot n x ≡ now.spot n x) (sym f) same)
              | inr apart ↦ still.even.spot m k (λ e. apart)
            ]
          ];
          line = λ m k ne. still.even.line m k (λ e. absurd cc);
        } in (
          assumption (still, even),
          untouched,
          generation,
          done,
        )
    step all_trimmed (still, untouched, generation, done) = (still, untouched, generation, done, λ i lt. absurd (omega arith))
    step (passes_unset j why) (still, untouched, generation, done, out) = (
      still,
      untouched,
      generation,
      done,
      λ i lt used none. elim (cases_eq i j) [
        | inr ne ↦ out i (omega arith) used none
        | inl e ↦ elim why [
          | inl empty ↦ absurd (used (ap (λ x. o.line x state_offset) e ∙ sym (untouched j) ∙ empty))
          | inr has ↦ absurd (none has.0 has.1 (sym (anchors_now still.cached.nodes has.0) ∙ has.2 ∙ lines_now still.cached.nodes j ∙ ap (line_anchor o) (sym e)))
        ]
      ],
    )
    step (unsets j used none) (still, untouched, generation, done, out) =
        let opened : IsOpenFor (lines_of o) (line_anchor now j) = record { line = j; state = λ e. used (untouched j ∙ e); anchor = sym (lines_now still.cached.nodes j) } in
        (change_begins (aim_at now j 0) still untouched (unset_layer (layer_kept l now) (line_anchor now j) opened still.cached.layer), generation, done, out, λ e. used (untouched j ∙ e))
    step (unsetting j before c next w x goes) (ch, generation, done, out, used) = (change_goes (aim_at now j 0) before c next w x goes ch, generation, done, out, used)
    step (unset j before) (ch, generation, done, out, used) =
        let key : ℕ = line_anchor now j in (
          change_ends (aim_at now j 0) before ch,
          ch.states,
          generation,
          done,
          λ i lt busy none. ch.layer.backs.cached (line_anchor o i) ∙ elim (cases_eq (line_anchor o i) key) [
            | inl e ↦ here_changed before key None (line_anchor o i) e
            | inr ne ↦ else_changed before key None (line_anchor o i) ne
                ∙ out i (let apart : i ≢ j = λ e. ne (ap (line_anchor o) e ∙ sym (lines_now ch.nodes j)) in omega (arith, apart)) busy none
          ],
        )
    step (all_unset j past) (still, untouched, generation, done, out) = (
      still,
      untouched,
      generation,
      done,
      λ key node leads. elim (is_open_or_not l list o sound key) [
        | inr closed ↦ let has = (sound.layer.covered key node closed).0 (sym (still.cached.layer.same key closed) ∙ leads) in (node, has.0, has.1)
        | inl opened ↦ elim (listed_at o.spot list key sound.nodes.makes.chain) [
          | inl found ↦ found
          | inr none ↦
              let within = used_line l list o sound opened.line opened.state in
              let nowhere : layer_kept l now (line_anchor o opened.line) ≡ None = out opened.line (omega arith) opened.state (λ n is e. none n is (e ∙ opened.anchor)) in
              absurd (let no_way : None ≡ Some node = sym nowhere ∙ ap (layer_kept l now) opened.anchor ∙ leads in cc)
        ]
      ],
      λ i n lt. absurd (omega arith),
    )
    step (passes_set j why) (still, untouched, generation, done, listed, stand) = (
      still,
      untouched,
      generation,
      done,
      listed,
      λ i n lt used is same. elim (cases_eq i j) [
        | inr ne ↦ stand i n (omega arith) used is same
        | inl e ↦ elim why [
          | inl empty ↦ absurd (used (ap (λ x. o.line x state_offset) e ∙ sym (untouched j) ∙ empty))
          | inr none ↦ absurd (none n is (anchors_now still.cached.nodes n ∙ same ∙ ap (line_anchor o) e ∙ sym (lines_now still.cached.nodes j)))
        ]
      ],
    )
    step (sets j n used is anchor) (still, untouched, generation, done, listed, stand) =
        let same : line_anchor now j ≡ line_anchor o j = lines_now still.cached.nodes j in
        let busy : o.line j state_offset ≢ empty_state = λ e. used (untouched j ∙ e) in
        let opened : IsOpenFor (lines_of o) (line_anchor now j) = record { line = j; state = busy; anchor = sym same } in
        let own : anchor_of o n ≡ line_anchor now j = sym (anchors_now still.cached.nodes n) ∙ anchor in
        let last = set_layer (layer_kept l now) (line_anchor now j) n opened is own (subst IsNameKey (sym same) (line_named l list o sound j busy)) listed still.cached.layer in (
          change_begins (aim_at now j (suc n)) still untouched (subst (λ v. MendsLayer l o (changed_at (layer_kept l now) (line_anchor now j) v)) (sym (node_suc n)) last.0),
          generation,
          done,
          listed,
          stand,
          busy,
          is,
          own ∙ same,
        )
    step (setting j n before c next w x goes) (ch, generation, done, listed, stand, busy, is, own) = (change_goes (aim_at now j (suc n)) before c next w x goes ch, generation, done, listed, stand, busy, is, own)
    step (set j n before) (ch, generation, done, listed, stand, busy, is, own) =
        let key : ℕ = line_anchor now j in
        let same : key ≡ line_anchor o j = lines_now ch.nodes j in
        let layer : (k : ℕ) → layer_kept l now k ≡ changed_at before key (Some n) k = λ k. ch.layer.backs.cached k ∙ ap (λ v. changed_at before key v k) (node_suc n) in (
          change_ends (aim_at now j (suc n)) before ch,
          ch.states,
          generation,
          done,
          λ k node leads. elim (cases_eq k key) [
            | inl e ↦ (n, is, own ∙ sym same ∙ sym e)
            | inr ne ↦ listed k node (sym (else_changed before key (Some n) k ne) ∙ sym (layer k) ∙ leads)
          ],
          λ i m lt used is' anchor. layer (line_anchor o i) ∙ elim (cases_eq (line_anchor o i) key) [
            | inl e ↦ here_changed before key (Some n) (line_anchor o i) e ∙ ap Some (apart_anchors l list o sound n m is is' (own ∙ sym same ∙ sym e ∙ sym anchor))
            | inr ne ↦ else_changed before key (Some n) (line_anchor o i) ne
                ∙ stand i m (let apart : i ≢ j = λ e. ne (ap (line_anchor o) e ∙ sym same) in omega (arith, apart)) used is' anchor
          ],
        )
    step (all_set j past) (still, untouched, generation, done, listed, stand) = (
      still,
      generation,
      done,
      λ key node. elim (is_open_or_not l list o sound key) [
        | inr closed ↦
            let before = sound.layer.covered key node closed in
            let same : layer_kept l now key ≡ layer_kept l o key = still.cached.layer.same key closed in (
              λ leads. before.0 (sym same ∙ leads),
              λ has. same ∙ before.1 has,
            )
        | inl opened ↦
            let within = used_line l list o sound opened.line opened.state in
            let leads_to : (n : ℕ) → IsIn list n → anchor_of o n ≡ key → layer_kept l now key ≡ Some n =
            λ n is e. ap (layer_kept l now) (sym opened.anchor) ∙ stand opened.line n (omega arith) opened.state is (e ∙ sym opened.anchor) in (
              λ leads.
                  let found = listed key node leads in
                  let one : found.0 ≡ node = (let e : Some found.0 ≡ Some node = sym (leads_to found.0 found.1 found.2) ∙ leads in cc) in
                  (subst (IsIn list) one found.1, ap (anchor_of o) (sym one) ∙ found.2),
              λ has. leads_to node has.0 has.1,
            )
      ],
      λ i lt. absurd (omega arith),
    )
    step (passes_empty j none) (still, generation, done, exact, empty) = (
      still,
      generation,
      done,
      exact,
      λ i lt. elim (cases_eq i j) [ inl e ↦ ap (λ x. now.line x state_offset) e ∙ none | inr ne ↦ empty i (omega arith) ],
    )
    step (empties j) (still, generation, done, exact, empty) = (
      record {
        cached = record {
          nodes = record {
            generation = still.cached.nodes.generation;
            spare = still.cached.nodes.spare;
            version = still.cached.nodes.version;
            words = still.cached.nodes.words;
            bits = still.cached.nodes.bits;
            fields = λ k offset ne. empty_other now j k offset (λ e. ne) ∙ still.cached.nodes.fields k offset ne;
          };
          states = λ k. elim (cases_eq k j) [
            | inl e ↦ inr (record { empty = ap (λ x. (with_empty now j).line x 0) e ∙ empty_here now j; leads = exact_has (layer_kept l now (line_anchor o k)) (line_anchor o k) (λ node. exact (line_anchor o k) node) })
            | inr ne ↦ elim (still.cached.states k) [
              | inl same ↦ inl (empty_other now j k state_offset (λ e. absurd (ne e)) ∙ same)
              | inr gone ↦ inr (record { empty = empty_other now j k state_offset (λ e. absurd (ne e)) ∙ gone.empty; leads = gone.leads })
            ]
          ];
          row = still.cached.row;
          layer = still.cached.layer;
        };
        durable = still.durable;
        even = record {
          generation = λ ne. still.even.generation (λ e. cc);
          spare = still.even.spare;
          version = still.even.version;
          spot = λ m k ne. still.even.spot m k (λ e. absurd cc);
          line = λ m k ne. still.even.line m k (λ e. absurd cc) ∙ sym (empty_other now j m k (λ e. ne (ap State (sym e))));
        };
        layer = still.layer;
      },
      generation,
      done,
      exact,
      λ i lt. elim (cases_eq i j) [ inl e ↦ ap (λ x. (with_empty now j).line x 0) e ∙ empty_here now j | inr ne ↦ empty_other now j i state_offset (λ e. absurd (ne e)) ∙ empty i (omega arith) ],
    )
      where
        exact_has : (found : Option ℕ) (key : ℕ) → ((node : ℕ) → (found ≡ Some node) ↔ (IsIn list node × (anchor_of o node ≡ key))) → ListHas (IsIn list) (anchor_of o) key found
        exact_has None key is = λ node has anchor. let no_way : None ≡ Some node = (is node).1 (has, anchor) in absurd cc
        exact_has (Some m) key is = (is m).0 refl
    step (emptied j same) (still, generation, done, exact, empty) =
        let even : IsEvenBut Nothing now safe = record {
          generation = λ ne. still.even.generation (λ e. cc);
          spare = still.even.spare;
          version = still.even.version;
          spot = λ m k ne. still.even.spot m k (λ e. absurd cc);
          line = λ m k ne. elim (cases_eq m j) [
            | inr apart ↦ still.even.line m k (λ e. absurd (let one : j ≡ m = cc in apart (sym one)))
            | inl e ↦ elim (cases_eq k 0) [
              | inl f ↦ subst (λ x. safe.line x k ≡ now.line x k) (sym e) (subst (λ x. safe.line j x ≡ now.line j x) (sym f) same)
              | inr apart ↦ still.even.line m k (λ e. apart)
            ]
          ];
        } in (
          assumption (still, even),
          generation,
          done,
          exact,
          empty,
        )
    step (all_empty j past) (still, generation, done, exact, empty) = (
      still,
      generation,
      done,
      exact,
      λ i. elim (cases_lt i (line_count l)) [
        | inl lt ↦ empty i (omega arith)
        | inr beyond ↦ elim (still.cached.states i) [ inl same ↦ same ∙ sound.nodes.beyond i beyond | inr gone ↦ gone.empty ]
      ],
    )

pub starts : Starts
starts l list o sound = (
  record {
    cached = mends_none l list o sound;
    durable = mends_none l list o sound;
    even = record { generation = λ ne. refl; spare = λ k. refl; version = λ n. refl; spot = λ n k ne. refl; line = λ n k ne. refl };
    layer = λ p. refl;
  },
  λ j. refl,
  refl,
)

pub steps_keep : StepsKeep
steps_keep l list o now safe now' safe' s s' sound sure taken = step l list o sound now safe taken sure
