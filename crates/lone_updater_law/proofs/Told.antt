-- What the actions of a turn give in an index: it may be told that, and of a READY line a node and an anchor.
use Rattle.std.proofs.Common.{◌≡◌, ◌≢◌, ℕ, ◌/◌, ◌%◌, ◌<◌, ◌≤◌, List, [], ◌∷◌, slice_index, inl, inr, refl, sym, subst}
use Rattle.std.proofs.Common.{◌+◌}
use Rattle.std.proofs.Common.{ap, ◌∙◌, arith, true, false}
use Rattle.std.proofs.lemmas.Bool.{cases_eq}
use Rattle.std.proofs.lemmas.List.Elements.{All-head}
use Rattle.pm_words.specs.declared.layout.Layout.{Layout}
use Rattle.pm_words.specs.declared.action.Action.{Action}
use Rattle.pm_words.specs.declared.action.Action.TheVariants.{Load, Store, Drain}
use Rattle.pm_words.specs.Locations.{Location, Line, Node, Volatile, Cached, HasLocation, address_of, at}
use Rattle.pm_words.specs.Rows.{got, action_address}
use Rattle.pm_words.proofs.Apart.{addresses_apart}
use Rattle.cat_key.specs.Names.{IsName, IsNameByte, words_of}
use Rattle.std.specs.Int.{w64, to_be_bytes}
use Rattle.cat_key.proofs.Digits.{to_be_bytes-word_of}
use Rattle.cat_key.proofs.Packing.{name_bytes}
use Rattle.version_lock.specs.Versions.{generation_of}
use Rattle.data_node.specs.Lists.{anchor_in}
use Rattle.data_node.proofs.KeyLemmas.{zero_anchor}
use Rattle.pm_words.specs.Offsets.{version_offset, next_offset, anchor_offset, state_offset, line_node_offset}
use Rattle.pm_words.specs.Offsets.{status_offset, stamp_offset}
use Rattle.pm_words.specs.Codes.{ready_state}
use Rattle.call_stages.specs.Kinds.{HasWordAt, Told}
use Rattle.call_stages.specs.Lines.{IsEntry}
use Rattle.data_list.specs.Walks.{walk_asks}
use Rattle.index_law.specs.Facts.{Facts}
use Rattle.index_law.specs.Lines.{line_in, AreFit}
use Rattle.index_law.specs.Worlds.{World, facts}
use Rattle.index_law.specs.Lawful.{Lawful}
use Rattle.index_law.proofs.Noting.{line-here}
use Rattle.index_law.proofs.Rows.{version_in-here, status_in-here, spot_in-here}
use Rattle.pm_alloc.specs.declared.gone.ReleaseAt.{ReleaseAt}
use Rattle.pm_alloc.specs.declared.gone.ReleaseAt.TheVariants as release_at
use Rattle.pm_alloc.specs.Gone.{release_at_asks}
use Rattle.tree_floor.specs.Floors.{floor_asks}
use Rattle.index_layer_law.specs.tree_update.specs.Changes.{change_asks}
use Rattle.index_layer_law.specs.search_layer.specs.Floors.{LoadsLayer}
use Rattle.index_layer_law.specs.search_layer.specs.Laws.{IsOnLayer}
use Rattle.index_layer_law.specs.search_layer.specs.Laws as on
use Rattle.index_layer_law.specs.search_layer.proofs.FloorLemmas.{only_loads as floor_only_loads}
use Rattle.index_layer_law.specs.search_layer.proofs.OnLayer.{changes_stay_on_layer}
use Rattle.smo_log.specs.declared.read.ReadLine.{ReadLine}
use Rattle.smo_log.specs.LogLines.{numbered_address, caller_of, index_of}
use Rattle.index_layer_law.specs.updater_row_law.specs.Columns.{line_count, line_word, line_field}
use Rattle.index_layer_law.specs.updater_row_law.proofs.RowColumns.{column-here}
use Rattle.updater.specs.declared.terms.Terms.{Terms}
use Rattle.updater.specs.declared.terms.Tally.{Tally}
use Rattle.updater.specs.declared.work.WorkAt.{WorkAt}
use Rattle.updater.specs.declared.work.WorkAt.TheVariants as at
use Rattle.updater.specs.Works.{work_at_asks, IsTerms, IsWorkAt, ToldOfLine}
use Rattle.updater.proofs.WalkLoads.{IsApart, LoadsApart, walk_place}
use Rattle.updater.proofs.WatchLaw.{none_of_line}
use Rattle.layer_map.specs.Places.{is_of_layer}
use Rattle.index_law.proofs.Places.{caller_at, number_at, offset_at}
use Rattle.index_law.proofs.Actions.{given_fits}

-- an action of any kind gives what may be told
pub told_any : (w : World) (a : Action) → Lawful w → Told w.layout w.generation a (got w.layout w.words a)
told_any w a lawful =
    let l : Layout = w.layout in
    let words : List ℕ = w.words in
    let f : Facts = facts w in
    let some : 0 < l.nodes = lawful.row.layout.nodes.0 in
    let lit = lawful.live.live 0 (inl refl) in
    record {
      fits = given_fits a (slice_index words (action_address l a)) (lawful.row.fits (action_address l a));
      known = λ n here is. subst (λ (b : Action). generation_of (got l words b) ≤ w.generation) (sym is) (subst (λ v. generation_of v ≤ w.generation) (version_in-here l words n here) (lawful.versions n here));
      first_live = λ is. subst (λ (b : Action). got l words b ≡ 1) (sym is) (sym (status_in-here l words 0 some) ∙ lit);
      first_anchor = λ offset least most is.
          let has : HasWordAt l 0 offset = (some, omega arith) in
          subst (λ (b : Action). got l words b ≡ 0) (sym is) (sym (spot_in-here l words 0 offset has (omega arith)) ∙ anchor_word f offset lawful.list.lowest least most);
      first_next = λ is leads.
          let has : HasWordAt l 0 next_offset = (some, omega arith) in
          subst (λ (b : Action). got l words b < l.nodes) (sym is) (subst (λ n. n < l.nodes) (spot_in-here l words 0 next_offset has (omega arith)) (lawful.live.leads 0 some lit));
    }
  where
    anchor_word : (f : Facts) (offset : ℕ) → anchor_in (f.now 0) ≡ 0 → 3 ≤ offset → offset ≤ 5 → f.now 0 offset ≡ 0
    anchor_word f offset lowest least most =
        let zeros = zero_anchor (f.now 0) lowest in
        elim (cases_eq offset anchor_offset) [
          | inl e ↦ ap (f.now 0) e ∙ ap (λ ws. slice_index ws 0) zeros
          | inr not_third ↦ elim (cases_eq offset 4) [
            | inl e ↦ ap (f.now 0) e ∙ ap (λ ws. slice_index ws 1) zeros
            | inr not_fourth ↦ let last : offset ≡ anchor_offset + 2 = omega (arith, not_third, not_fourth) in ap (f.now 0) last ∙ ap (λ ws. slice_index ws 2) zeros
          ]
        ]

-- the first word of a name isn't 0
name_first : (name : List ℕ) → IsName name → slice_index (words_of name) 0 ≢ 0
unfolding words_of
name_first [] is none = let some : 1 ≤ 0 = is.some in omega arith
name_first (byte ∷ text) is none =
    let first : 33 ≤ byte = (All-head IsNameByte byte text is.bytes).0 in
    let zero_byte : 0 ≡ byte = ap (λ bytes. slice_index bytes 0) (ap (to_be_bytes w64) (sym none) ∙ to_be_bytes-word_of (byte ∷ text) (name_bytes (byte ∷ text) is)) in
    omega arith

-- a word of a line, by the line's number
word_of_line : (l : Layout) (words : List ℕ) (line offset : ℕ) → line < line_count l → offset < 8 → at l words (Cached (line_word offset line)) ≡ line_in l words (line / 8) (line % 8) offset
word_of_line l words line offset within small = sym (line-here l words (line / 8) (line % 8) offset (omega arith, omega arith, small))

-- a READY line says a node of the layout and an anchor
ready_entry : (l : Layout) (words : List ℕ) (line : ℕ) → AreFit l words → line < line_count l → line_field l words Cached state_offset line ≡ ready_state → IsEntry l (line_in l words (line / 8) (line % 8))
ready_entry l words line fit within ready =
    let state : line_in l words (line / 8) (line % 8) state_offset ≡ ready_state =
    sym (word_of_line l words line state_offset within (omega arith)) ∙ sym (column-here l words (line_count l) (λ k. Cached (line_word state_offset k)) line within) ∙ ready in
    elim (fit (line / 8) (line % 8) (line_in l words (line / 8) (line % 8)) (λ offset. inr refl)) [
      | inl empty ↦ absurd (let no : 0 ≡ 2 = sym empty ∙ state in omega arith)
      | inr entry ↦ entry
    ]

abbrev place_of : Action → ℕ
place_of (Load place) = place
place_of _ = 0

module _ (l : Layout) (words : List ℕ) where
  -- a load of a line, which is READY if that isn't its state
  line_told : (line offset : ℕ) → AreFit l words → line < line_count l → offset < 8 → (0 < offset → line_field l words Cached state_offset line ≡ ready_state)
      → ToldOfLine l (Load (numbered_address l line offset)) (got l words (Load (numbered_address l line offset)))
  line_told line offset fit within small ready = record {
    node = λ other here is.
        let same = same_as other line_node_offset here (omega arith) is in
        let entry = ready_entry l words line fit within (ready (omega (arith, same.1))) in
        subst (λ x. x < l.nodes) (sym (loaded line_node_offset same.1 (omega arith))) entry.node.1;
    named = λ other here is none.
        let same = same_as other anchor_offset here (omega arith) is in
        let entry = ready_entry l words line fit within (ready (omega (arith, same.1))) in
        name_first entry.name entry.is_name (ap (λ ws. slice_index ws 0) (sym entry.anchor) ∙ sym (loaded anchor_offset same.1 (omega arith)) ∙ none);
  }
    where
      same_as : (other o : ℕ) → other < line_count l → o < 8 → Load (numbered_address l line offset) ≡ Load (numbered_address l other o) → (line ≡ other) × (offset ≡ o)
      same_as other o here small' is =
          let place : Cached (Line (caller_of line) (index_of line) offset) ≡ Cached (Line (caller_of other) (index_of other) o) =
          addresses_apart l (Cached (Line (caller_of line) (index_of line) offset)) (Cached (Line (caller_of other) (index_of other) o)) (omega arith, omega arith, small) (omega arith, omega arith, small') (ap place_of is) in
          let caller : line / 8 ≡ other / 8 = ap caller_at place in
          let index : line % 8 ≡ other % 8 = ap number_at place in
          (omega arith, ap offset_at place)

      loaded : (o : ℕ) → offset ≡ o → o < 8 → got l words (Load (numbered_address l line offset)) ≡ line_in l words (line / 8) (line % 8) o
      loaded o same small' = ap (λ k. got l words (Load (numbered_address l line k))) same ∙ word_of_line l words line o within small'

module _ (l : Layout) where
  apart : (p : Location) → HasLocation l p → IsApart p → (x : ℕ) → ToldOfLine l (Load (address_of l p)) x
  apart p has beside x = none_of_line l (Load (address_of l p)) x (record { location = p; has = has; apart = beside; loads = refl })

  -- an action that loads nothing
  no_load : (a : Action) (x : ℕ) → ((place : ℕ) → a ≡ Load place → ⊥) → ToldOfLine l a x
  no_load a x none = record { node = λ line here is. absurd (none _ is); named = λ line here is. absurd (none _ is) }

  layer_told : (a : Action) (x : ℕ) → IsOnLayer l a → ToldOfLine l a x
  layer_told a x (on.loads p has of_layer) = apart p has (λ c j o is. let no : true ≡ false = sym of_layer ∙ ap is_of_layer is in cc) x
  layer_told a x (on.stores p {y = y} has of_layer) = no_load (Store (address_of l p) y) x (λ place is. cc)
  layer_told a x (on.drains p {y = y} has of_layer) = no_load (Drain (address_of l p) y) x (λ place is. cc)

  place_told : (a : Action) (x : ℕ) → LoadsLayer l a → ToldOfLine l a x
  place_told a x asked = subst (λ (b : Action). ToldOfLine l b x) (sym asked.loads) (layer_told (Load (address_of l (Cached asked.word))) x (on.loads (Cached asked.word) asked.place.there asked.place.of_layer))

  release_told : (k : Layout) (node : ℕ) (at : ReleaseAt) (x : ℕ) → ToldOfLine l (release_at_asks k node at) x
  release_told k node release_at.Stamp x = no_load (release_at_asks k node release_at.Stamp) x (λ place is. cc)
  release_told k node release_at.Status x = no_load (release_at_asks k node release_at.Status) x (λ place is. cc)

-- the line that it reads is READY
abbrev pub ReadsReady : Layout → List ℕ → WorkAt → Type 0
ReadsReady l words state = (read : ReadLine) → state ≡ at.Reading read → line_field l words Cached state_offset read.line ≡ ready_state

pub told_of_line : (terms : Terms) (tally : Tally) (at : WorkAt) (words : List ℕ) → IsTerms terms → IsWorkAt terms tally at → AreFit terms.layout words → ReadsReady terms.layout words at
    → ToldOfLine terms.layout (work_at_asks terms at) (got terms.layout words (work_at_asks terms at))
told_of_line terms tally (at.State line) words is here fit ready = line_told terms.layout words line 0 fit here.within (omega arith) (λ no. absurd (omega arith))
told_of_line terms tally (at.Reading read) words is here fit ready =
    subst (λ (k : Layout). ToldOfLine terms.layout (Load (numbered_address k read.line read.offset)) (got terms.layout words (Load (numbered_address k read.line read.offset)))) (sym here.1.layout)
    (line_told terms.layout words read.line read.offset fit here.0.within (let small : read.offset < 7 = here.1.sound.offset in omega arith) (λ some. ready read refl))
told_of_line terms tally (at.Landing line entry floor) words is here fit ready =
    let asks : Action = floor_asks floor in
    place_told terms.layout asks (got terms.layout words asks) (subst (λ (k : Layout). LoadsLayer k asks) here.3 (floor_only_loads floor here.2))
told_of_line terms tally (at.Walking line entry walk) words is here fit ready =
    none_of_line terms.layout _ _ (subst (λ (k : Layout). LoadsApart k (walk_asks walk)) here.2.layout (walk_place walk here.2.sound))
told_of_line terms tally (at.Seeing line entry found) words is here fit ready = apart terms.layout (Cached (Node found.node version_offset)) (here.2, omega arith) (λ c j o is. cc) _
told_of_line terms tally (at.Setting line entry set) words is here fit ready =
    let asks : Action = change_asks set.change in
    layer_told terms.layout asks (got terms.layout words asks) (subst (λ (k : Layout). IsOnLayer k asks) here.3 (changes_stay_on_layer set.change here.2.change))
told_of_line terms tally (at.Unsetting line entry unset) words is here fit ready =
    let asks : Action = change_asks unset.change in
    layer_told terms.layout asks (got terms.layout words asks) (subst (λ (k : Layout). IsOnLayer k asks) here.3 (changes_stay_on_layer unset.change here.2.change))
told_of_line terms tally (at.Stamping line entry) words is here fit ready = no_load terms.layout _ _ (λ place is. cc)
told_of_line terms tally (at.Clearing clear) words is here fit ready = no_load terms.layout _ _ (λ place is. cc)
told_of_line terms tally (at.Status node) words is here fit ready = apart terms.layout (Volatile node status_offset) (here.within, omega arith) (λ c j o is. cc) _
told_of_line terms tally (at.Stamp node) words is here fit ready = apart terms.layout (Volatile node stamp_offset) (here.within, omega arith) (λ c j o is. cc) _
told_of_line terms tally (at.Version node) words is here fit ready = apart terms.layout (Cached (Node node version_offset)) (here.within, omega arith) (λ c j o is. cc) _
told_of_line terms tally (at.Releasing release) words is here fit ready = release_told terms.layout release.layout release.node release.at _
told_of_line terms tally (at.Counting node none) words is here fit ready = apart terms.layout (Volatile node status_offset) (here.0, omega arith) (λ c j o is. cc) _
told_of_line terms tally (at.Leaving none) words is here fit ready = no_load terms.layout _ _ (λ place is. cc)
