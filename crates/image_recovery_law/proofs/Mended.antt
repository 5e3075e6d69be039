-- Columns that a recovery may have come to are sound, with the same map.
use Rattle.std.proofs.Common.{◌≡◌, ◌≢◌, ℕ, suc, ◌<◌, ◌≤◌, ◌⊎◌, ◌↔◌, List, inl, inr, refl, sym, subst, ap, ◌∙◌, arith}
use Rattle.std.proofs.Common.{◌+◌}
use Rattle.std.proofs.lemmas.Bool.{cases_eq, cases_lt}
use Rattle.pm_words.specs.declared.layout.Layout.{Layout}
use Rattle.pm_words.specs.Codes.{empty_state}
use Rattle.pm_words.specs.Offsets.{anchor_offset, state_offset}
use Rattle.cat_history.specs.Maps.{Map}
use Rattle.version_lock.specs.Versions.{generation_of, IsGeneration}
use Rattle.data_node.specs.Spots.{Means}
use Rattle.data_node.specs.Lines.{IsFitLine}
use Rattle.data_node.specs.Lists.{ListNode, range_in, IsIn}
use Rattle.data_node.proofs.ListLemmas.{all_member}
use Rattle.data_node.proofs.KeyLemmas.{anchor_named}
use Rattle.updater_law.specs.Covers.{IsOpenFor}
use Rattle.updater_law.specs.Covered.{IsCovered, ListHas, AreApart}
use Rattle.updater_row_law.specs.Columns.{line_count}
use Rattle.image_recovery_law.specs.Columns.{Columns, anchor_of, line_anchor, lines_of, layer_kept, IsNameKey, IsSound, IsMapOf, Mends}
use Rattle.image_recovery_law.specs.Laws.{MendedIsSound}
use Rattle.image_recovery_law.proofs.Alike.{AlikeBut, anchor_same, anchor_kept, chain_kept, tidy_trimmed, means_trimmed, trim_none, nodes_apart, open_or_not, has_exactly}

module _ (l : Layout) (list : List ListNode) (o : Columns) (sound : IsSound l list o) where
  pub apart_anchors : AreApart (IsIn list) (anchor_of o)
  apart_anchors = nodes_apart o.spot list sound.nodes.makes.lowest sound.nodes.makes.chain sound.nodes.makes.rise

  -- listed nodes are nodes of the image
  pub in_image : (n : ℕ) → IsIn list n → n < l.nodes
  in_image n (inl e) = subst (λ k. k < l.nodes) (sym e) sound.nodes.some
  in_image n (inr is) = all_member (λ n. n < l.nodes) list n sound.nodes.makes.within is

  pub is_open_or_not : (key : ℕ) → IsOpenFor (lines_of o) key ⊎ (IsOpenFor (lines_of o) key → ⊥)
  is_open_or_not key = open_or_not (lines_of o) key (line_count l) sound.nodes.beyond

  -- a line that isn't EMPTY is one of the log, and its anchor is a name
  pub used_line : (j : ℕ) → o.line j state_offset ≢ empty_state → j < line_count l
  used_line j used = elim (cases_lt j (line_count l)) [ inl lt ↦ lt | inr beyond ↦ absurd (used (sound.nodes.beyond j beyond)) ]

  pub line_named : (j : ℕ) → o.line j state_offset ≢ empty_state → IsNameKey (line_anchor o j)
  line_named j used = elim (sound.nodes.lines j (used_line j used)) [
    | inl empty ↦ absurd (used empty)
    | inr entry ↦ let named = anchor_named (o.line j) (entry.name, entry.is_name, sym entry.anchor) in record { name = named.0; is_name = named.1; same = named.2 }
  ]

  pub mends_none : Mends l list o o
  mends_none = record {
    nodes = record {
      generation = inl refl;
      spare = λ k. refl;
      version = λ n. refl;
      words = λ n offset ne. refl;
      bits = λ n is. trim_none l.slots (range_in list n) (o.spot n) (sound.nodes.tidy n is);
      fields = λ j offset ne. refl;
    };
    states = λ j. inl refl;
    row = sound.layer.row;
    layer = record { keys = sound.layer.keys; few = sound.layer.few; same = λ key none. refl };
  }

  module _ (i : Columns) (mends : Mends l list o i) where
    -- words of nodes but for bitmaps, anchors, and lines that aren't EMPTY are as before
    alike : (n : ℕ) → AlikeBut (o.spot n) (i.spot n)
    alike n = mends.nodes.words n

    pub anchors : (n : ℕ) → anchor_of i n ≡ anchor_of o n
    anchors n = anchor_kept (o.spot n) (i.spot n) (alike n)

    pub lines_anchor : (j : ℕ) → line_anchor i j ≡ line_anchor o j
    lines_anchor j = anchor_same (o.line j) (i.line j) (mends.nodes.fields j anchor_offset (λ e. cc)) (mends.nodes.fields j (anchor_offset + 1) (λ e. cc)) (mends.nodes.fields j (anchor_offset + 2) (λ e. cc))

    line_same : (j : ℕ) → i.line j state_offset ≢ empty_state → i.line j ≡ o.line j
    line_same j used =
        let state : i.line j state_offset ≡ o.line j state_offset = elim (mends.states j) [ inl same ↦ same | inr emptied ↦ absurd (used emptied.empty) ] in
        let same : (offset : ℕ) → i.line j offset ≡ o.line j offset =
        λ offset. elim (cases_eq offset 0) [ inl e ↦ ap (i.line j) e ∙ state ∙ ap (o.line j) (sym e) | inr ne ↦ mends.nodes.fields j offset ne ] in
        λ k offset. same offset k

    covered : IsCovered (IsIn list) (anchor_of i) (layer_kept l i) (IsOpenFor (lines_of i))
    covered key node bare = elim (is_open_or_not key) [
      | inr closed ↦
          let before = sound.layer.covered key node closed in
          let same : layer_kept l i key ≡ layer_kept l o key = mends.layer.same key closed in (
            λ leads. let has = before.0 (sym same ∙ leads) in (has.0, anchors node ∙ has.1),
            λ has. same ∙ before.1 (has.0, sym (anchors node) ∙ has.1),
          )
      | inl opened ↦ elim (mends.states opened.line) [
        | inl kept ↦ absurd (bare (record { line = opened.line; state = λ e. opened.state (sym kept ∙ e); anchor = lines_anchor opened.line ∙ opened.anchor }))
        | inr emptied ↦
            let has : ListHas (IsIn list) (anchor_of o) key (layer_kept l i key) = subst (λ x. ListHas (IsIn list) (anchor_of o) x (layer_kept l i x)) opened.anchor emptied.leads in
            let exactly = has_exactly (IsIn list) (anchor_of o) key (layer_kept l i key) apart_anchors has node in (
              λ leads. let is = exactly.0 leads in (is.0, anchors node ∙ is.1),
              λ is. exactly.1 (is.0, sym (anchors node) ∙ is.1),
            )
      ]
    ]

    old_or_next : IsGeneration (suc o.generation) → IsGeneration i.generation
    old_or_next room = elim mends.nodes.generation [
      | inl same ↦ subst IsGeneration (sym same) sound.nodes.generation
      | inr next ↦ subst IsGeneration (sym next) room
    ]

    versions : (n : ℕ) → n < l.nodes → generation_of (i.version n) ≤ i.generation
    versions n lt =
        let old : generation_of (o.version n) ≤ o.generation = sound.nodes.versions n lt in
        let same : generation_of (i.version n) ≡ generation_of (o.version n) = ap generation_of (mends.nodes.version n) in
        elim mends.nodes.generation [
          | inl e ↦ subst (λ g. generation_of (i.version n) ≤ g) (sym e) (subst (λ v. v ≤ o.generation) (sym same) old)
          | inr e ↦ subst (λ g. generation_of (i.version n) ≤ g) (sym e) (subst (λ v. v ≤ suc o.generation) (sym same) (omega arith))
        ]

    line_fits : (j : ℕ) → j < line_count l → IsFitLine l.nodes (i.line j)
    line_fits j lt = elim (cases_eq (i.line j state_offset) 0) [
      | inl empty ↦ inl empty
      | inr used ↦ subst (IsFitLine l.nodes) (sym (line_same j used)) (sound.nodes.lines j lt)
    ]

    pub mended : IsGeneration (suc o.generation) → IsSound l list i
    mended room = record {
      nodes = record {
        some = sound.nodes.some;
        generation = old_or_next room;
        spare = λ k. mends.nodes.spare k ∙ sound.nodes.spare k;
        versions = versions;
        makes = record {
          chain = chain_kept o.spot i.spot 0 list alike sound.nodes.makes.chain;
          lowest = anchors 0 ∙ sound.nodes.makes.lowest;
          rise = sound.nodes.makes.rise;
          within = sound.nodes.makes.within;
          named = sound.nodes.makes.named;
        };
        tidy = λ n is. tidy_trimmed l.slots (range_in list n) (o.spot n) (i.spot n) (alike n) (mends.nodes.bits n is) (sound.nodes.tidy n is);
        lines = line_fits;
        beyond = λ j past. elim (mends.states j) [ inl same ↦ same ∙ sound.nodes.beyond j past | inr emptied ↦ emptied.empty ];
      };
      layer = record { row = mends.row; keys = mends.layer.keys; few = mends.layer.few; covered = covered };
    }

    means_kept : (n : ℕ) → IsIn list n → (m : Map) → Means l.slots (range_in list n) (o.spot n) m ↔ Means l.slots (range_in list n) (i.spot n) m
    means_kept n is = means_trimmed l.slots (range_in list n) (o.spot n) (i.spot n) (alike n) (mends.nodes.bits n is) (sound.nodes.tidy n is)

    pub same_map : (m : Map) → IsMapOf l list o m ↔ IsMapOf l list i m
    same_map m = (
      λ is_map. record { means = λ n is. (means_kept n is m).0 (is_map.means n is); names = is_map.names },
      λ is_map. record { means = λ n is. (means_kept n is m).1 (is_map.means n is); names = is_map.names },
    )

pub mended_is_sound : MendedIsSound
mended_is_sound l list o i sound room mends = (mended l list o sound i mends room, same_map l list o sound i mends)
