-- What a step makes of the durable twins and of the words in front of the nodes, read off the row.
use Rattle.std.proofs.Common.{◌≡◌, ℕ, inl, true, false, cond, List, length, slice_index, slice_set, refl, sym, ap, ◌∙◌, subst, arith}
use Rattle.std.specs.Prelude.{Option, Some, IfSome}
use Rattle.pm_words.specs.Codes.{live_status, gone_status}
use Rattle.pm_words.specs.declared.layout.Layout.{Layout}
use Rattle.pm_words.specs.declared.action.Action.{Action}
use Rattle.pm_words.specs.declared.action.Action.TheVariants.{Drain}
use Rattle.pm_words.specs.Locations.{Word, Header, Node, Volatile, Location, Clock, Cached, Durable, HasWord, at, word_number, row_words}
use Rattle.pm_words.specs.Rows.{IsRow, acted, got}
use Rattle.pm_words.proofs.Apart.{words_within, at-set_other, at-set_same}
use Rattle.pm_words.proofs.Kept.{action_address-drain}
use Rattle.cat_history.specs.Maps.{Map}
use Rattle.cat_history.specs.declared.op.Write.{Write}
use Rattle.call_stages.specs.declared.once.Once.{Once}
use Rattle.call_stages.specs.declared.once.Placed.{Placed}
use Rattle.call_stages.specs.Stages.{Stage}
use Rattle.call_stages.specs.Kinds.{HasWordAt, word_address, Split, fills, lights, switches, glances_left, glances_fresh, drains_left, drains_fresh, trims, splits, Merge, meets, knows_own, knows_right, copies, takes_up, puts_down, parts, gathers, joins, glances_joined, drains_joined, retires, yields, merges, claims, publishes, leaves, Step, looks, locks, locks_read, stores, commits, drains, counts, unlocks}
use Rattle.index_law.specs.Facts.{facts_of, cached_word, durable_spot, spot_in}
use Rattle.index_law.specs.Lawful.{Sure}
use Rattle.std.proofs.lemmas.List.{set-get_or}
use Rattle.pm_words.specs.Offsets.{version_offset, bitmap_offset, next_offset, status_offset}
use Rattle.index_law.proofs.Backing.{Drained, SplitDrained, MergeDrained}
use Rattle.index_law.proofs.Moves.{look_keeps}
use Rattle.index_law.proofs.Rows.{in_spot, cached_word-here}
use Rattle.index_law.proofs.Twins.{IsCloser, evict_closer, evict_cached, drain_evicts, store_closer}

-- the word of a cached place
abbrev cached_of : Location → Word
cached_of (Cached w) = w
cached_of _ = Header 0

word_of : {v w : Word} → Cached v ≡ Cached w → v ≡ w
word_of same = ap cached_of same

-- a word of a node has the durable twin that was drained
drained_spot : (l : Layout) (words : List ℕ) (n offset y : ℕ) → length words ≡ row_words l → HasWordAt l n offset → y ≡ slice_index words (word_address l n offset)
    → durable_spot l (acted l words (Drain (word_address l n offset) y)) n offset ≡ spot_in l words n offset
unfolding durable_spot spot_in
drained_spot l words n offset y whole has is =
    elim (in_spot l n offset) as (λ b. cond b (at l (acted l words (Drain (word_address l n offset) y)) (Durable (Node n offset))) 0 ≡ cond b (slice_index words (word_address l n offset)) 0) [
      | true ↦ ap (λ (place : ℕ). at l (slice_set words place y) (Durable (Node n offset))) (action_address-drain l (Node n offset) y)
          ∙ at-set_same l words (Durable (Node n offset)) y whole has ∙ is
      | false ↦ refl
    ]

-- the word in hand is the cached one
hand_is : (l : Layout) (words : List ℕ) (base : Map) (history : List Write) (n offset y : ℕ) (hand : Option (ℕ × ℕ)) → HasWordAt l n offset → hand ≡ Some (offset, y)
    → IfSome hand (λ h. cached_word (facts_of l words base history) n h.0 ≡ h.1) → y ≡ slice_index words (word_address l n offset)
hand_is l words base history n offset y hand has is known =
    sym (subst (λ (h : Option (ℕ × ℕ)). IfSome h (λ k. cached_word (facts_of l words base history) n k.0 ≡ k.1)) is known) ∙ cached_word-here l words base history n offset has

module _ {l : Layout} {g : ℕ} (words : List ℕ) (base : Map) (history : List Write) (caller index since : ℕ) (row : IsRow l words) where
  split_closer : {s : Stage} {a : Action} {x : ℕ} {t : Stage} → (k : Split l g s a x t) → Sure l g (facts_of l words base history) caller index since s → IsCloser l words (acted l words a)
  split_closer (fills {y = y} {offset = offset} {fresh = fresh} has positive small within soils told) knows = store_closer l words (Cached (Node fresh.node offset)) y has (λ w alike. cc)
  split_closer (lights {fresh = fresh} here leads) knows = store_closer l words (Volatile fresh.node status_offset) live_status (here, omega arith) (λ w alike. cc)
  split_closer (switches {left = left} {fresh = fresh} here small durable soiled cut told means) knows =
      store_closer l words (Cached (Node left.node next_offset)) fresh.node (here, omega arith) (λ w alike. cc)
  split_closer (glances_left {offset = offset} {left = left} has learnt) knows = λ w has'. inl (ap (λ (v : List ℕ). at l v (Durable w)) (set-get_or words (word_address l left.node offset) 0))
  split_closer (glances_fresh {offset = offset} {fresh = fresh} has) knows = λ w has'. inl (ap (λ (v : List ℕ). at l v (Durable w)) (set-get_or words (word_address l fresh.node offset) 0))
  split_closer (drains_left {y = y} {offset = offset} {left = left} has small hand cleans) knows =
      let is = hand_is l words base history left.node offset y left.hand has hand knows.full.hand in
      subst (IsCloser l words) (sym (drain_evicts l words left.node offset y is)) (evict_closer l words (word_number l (Node left.node offset)) row.whole (words_within l (Node left.node offset) has))
  split_closer (drains_fresh {y = y} {offset = offset} {fresh = fresh} has small hand cleans) knows =
      let is = hand_is l words base history fresh.node offset y fresh.hand has hand knows.new.hand in
      subst (IsCloser l words) (sym (drain_evicts l words fresh.node offset y is)) (evict_closer l words (word_number l (Node fresh.node offset)) row.whole (words_within l (Node fresh.node offset) has))
  split_closer (trims {y = y} {left = left} here small durable soiled anchor told means) knows =
      store_closer l words (Cached (Node left.node bitmap_offset)) y (here, omega arith) (λ w alike. cc)

  merge_closer : {s : Stage} {a : Action} {x : ℕ} {t : Stage} → (k : Merge l g s a x t) → Sure l g (facts_of l words base history) caller index since s → IsCloser l words (acted l words a)
  merge_closer (meets {m = m} here same untimed leads) knows = store_closer l words (Cached (Node m version_offset)) _ (here, omega arith) (λ w alike. cc)
  merge_closer (knows_own {n = n} {offset = offset} has positive learnt) knows = λ w has'. inl (ap (λ (v : List ℕ). at l v (Durable w)) (set-get_or words (word_address l n offset) 0))
  merge_closer (knows_right {offset = offset} {right = right} has positive told) knows = λ w has'. inl (ap (λ (v : List ℕ). at l v (Durable w)) (set-get_or words (word_address l right.node offset) 0))
  merge_closer (copies {n = n} {y = y} {offset = offset} has content small soils learnt means) knows = store_closer l words (Cached (Node n offset)) y has (λ w alike. cc)
  merge_closer (takes_up {n = n} {offset = offset} has) knows = λ w has'. inl (ap (λ (v : List ℕ). at l v (Durable w)) (set-get_or words (word_address l n offset) 0))
  merge_closer (puts_down {n = n} {y = y} {offset = offset} {h = h} has small hand cleans) knows =
      let is = hand_is l words base history n offset y h.hand has hand knows.0.hand in
      subst (IsCloser l words) (sym (drain_evicts l words n offset y is)) (evict_closer l words (word_number l (Node n offset)) row.whole (words_within l (Node n offset) has))
  merge_closer (parts {freed = freed} {right = right} next) knows = store_closer l words (Cached (Node right.node version_offset)) freed (knows.1.grip.here, omega arith) (λ w alike. cc)
  merge_closer (gathers {n = n} {y = y} small durable soiled told gathered) knows = store_closer l words (Cached (Node n bitmap_offset)) y (knows.0.here, omega arith) (λ w alike. cc)
  merge_closer (joins {y = y} {left = left} small durable soiled next told) knows = store_closer l words (Cached (Node left.node next_offset)) y (knows.one.here, omega arith) (λ w alike. cc)
  merge_closer (glances_joined {offset = offset} {left = left} has learnt) knows = λ w has'. inl (ap (λ (v : List ℕ). at l v (Durable w)) (set-get_or words (word_address l left.node offset) 0))
  merge_closer (drains_joined {y = y} {offset = offset} {left = left} has small hand cleans) knows =
      let is = hand_is l words base history left.node offset y left.hand has hand knows.one.hand in
      subst (IsCloser l words) (sym (drain_evicts l words left.node offset y is)) (evict_closer l words (word_number l (Node left.node offset)) row.whole (words_within l (Node left.node offset) has))
  merge_closer (retires {right = right} durable) knows = store_closer l words (Volatile right.node status_offset) gone_status (knows.other.here, omega arith) (λ w alike. cc)
  merge_closer (yields {freed = freed} {right = right} next durable) knows = store_closer l words (Cached (Node right.node version_offset)) freed (knows.other.here, omega arith) (λ w alike. cc)

  pub step_closer : {s : Stage} {a : Action} {x : ℕ} {t : Stage} {r : Option (Once Placed)} → (k : Step l g s a x t r) → x ≡ got l words a
      → Sure l g (facts_of l words base history) caller index since s → IsCloser l words (acted l words a)
  step_closer (looks look) e knows = λ w has. inl (ap (λ (v : List ℕ). at l v (Durable w)) (look_keeps look words e))
  step_closer (locks {n = n} same named live between) e knows = store_closer l words (Cached (Node n version_offset)) _ (knows.word.here, omega arith) (λ w alike. cc)
  step_closer (locks_read {n = n} same named live between unworn taken small) e knows = store_closer l words (Cached (Node n version_offset)) _ (knows.here, omega arith) (λ w alike. cc)
  step_closer (stores {n = n} {y = y} {offset = offset} has content small clean soils learnt means) e knows = store_closer l words (Cached (Node n offset)) y has (λ w alike. cc)
  step_closer (commits {n = n} {y = y} {offset = offset} has content small clean durable soiled old about learnt means) e knows =
      store_closer l words (Cached (Node n offset)) y has (λ w alike. cc)
  step_closer (drains {n = n} {y = y} {offset = offset} {h = h} has small unready hand cleans) e knows =
      let is = hand_is l words base history n offset y h.hand has hand knows.hand in
      subst (IsCloser l words) (sym (drain_evicts l words n offset y is)) (evict_closer l words (word_number l (Node n offset)) row.whole (words_within l (Node n offset) has))
  step_closer (counts durable ready pending unplaced) e knows = store_closer l words Clock _ tt (λ w alike. cc)
  step_closer (unlocks {n = n} {f = freed} next pending durable unready answers) e knows = store_closer l words (Cached (Node n version_offset)) freed (knows.here, omega arith) (λ w alike. cc)
  step_closer (claims {m = m} unplaced here same) e knows = store_closer l words (Cached (Node m version_offset)) _ (here, omega arith) (λ w alike. cc)
  step_closer (publishes {freed = freed} {fresh = fresh} next left fresh') e knows = store_closer l words (Cached (Node fresh.node version_offset)) freed (knows.new.here, omega arith) (λ w alike. cc)
  step_closer (leaves {freed = freed} {left = left} next) e knows = store_closer l words (Cached (Node left.node version_offset)) freed (knows.grip.here, omega arith) (λ w alike. cc)
  step_closer (splits k) e knows = split_closer k knows
  step_closer (merges k) e knows = merge_closer k knows

  split_cached : {s : Stage} {a : Action} {x : ℕ} {t : Stage} → (k : Split l g s a x t) → Sure l g (facts_of l words base history) caller index since s
      → (w : Word) → HasWord l w → ((n offset : ℕ) → w ≡ Node n offset → ⊥) → at l (acted l words a) (Cached w) ≡ at l words (Cached w)
  split_cached (fills {y = y} {offset = offset} {fresh = fresh} has_word positive small within soils told) knows w has other =
      at-set_other l words (Cached (Node fresh.node offset)) (Cached w) y has_word has (λ alike. other fresh.node offset (word_of alike))
  split_cached (lights {fresh = fresh} here leads) knows w has other = at-set_other l words (Volatile fresh.node status_offset) (Cached w) live_status (here, omega arith) has (λ alike. cc)
  split_cached (switches {left = left} {fresh = fresh} here small durable soiled cut told means) knows w has other =
      at-set_other l words (Cached (Node left.node next_offset)) (Cached w) fresh.node (here, omega arith) has (λ alike. other left.node next_offset (word_of alike))
  split_cached (glances_left {offset = offset} {left = left} has_word learnt) knows w has other = ap (λ (v : List ℕ). at l v (Cached w)) (set-get_or words (word_address l left.node offset) 0)
  split_cached (glances_fresh {offset = offset} {fresh = fresh} has_word) knows w has other = ap (λ (v : List ℕ). at l v (Cached w)) (set-get_or words (word_address l fresh.node offset) 0)
  split_cached (drains_left {y = y} {offset = offset} {left = left} has_word small hand cleans) knows w has other =
      let is = hand_is l words base history left.node offset y left.hand has_word hand knows.full.hand in
      ap (λ (v : List ℕ). at l v (Cached w)) (drain_evicts l words left.node offset y is) ∙ evict_cached l words (word_number l (Node left.node offset)) w has
  split_cached (drains_fresh {y = y} {offset = offset} {fresh = fresh} has_word small hand cleans) knows w has other =
      let is = hand_is l words base history fresh.node offset y fresh.hand has_word hand knows.new.hand in
      ap (λ (v : List ℕ). at l v (Cached w)) (drain_evicts l words fresh.node offset y is) ∙ evict_cached l words (word_number l (Node fresh.node offset)) w has
  split_cached (trims {y = y} {left = left} here small durable soiled anchor told means) knows w has other =
      at-set_other l words (Cached (Node left.node bitmap_offset)) (Cached w) y (here, omega arith) has (λ alike. other left.node bitmap_offset (word_of alike))

  merge_cached : {s : Stage} {a : Action} {x : ℕ} {t : Stage} → (k : Merge l g s a x t) → Sure l g (facts_of l words base history) caller index since s
      → (w : Word) → HasWord l w → ((n offset : ℕ) → w ≡ Node n offset → ⊥) → at l (acted l words a) (Cached w) ≡ at l words (Cached w)
  merge_cached (meets {m = m} here same untimed leads) knows w has other = at-set_other l words (Cached (Node m version_offset)) (Cached w) _ (here, omega arith) has (λ alike. other m 0 (word_of alike))
  merge_cached (knows_own {n = n} {offset = offset} has_word positive learnt) knows w has other = ap (λ (v : List ℕ). at l v (Cached w)) (set-get_or words (word_address l n offset) 0)
  merge_cached (knows_right {offset = offset} {right = right} has_word positive told) knows w has other = ap (λ (v : List ℕ). at l v (Cached w)) (set-get_or words (word_address l right.node offset) 0)
  merge_cached (copies {n = n} {y = y} {offset = offset} has_word content small soils learnt means) knows w has other =
      at-set_other l words (Cached (Node n offset)) (Cached w) y has_word has (λ alike. other n offset (word_of alike))
  merge_cached (takes_up {n = n} {offset = offset} has_word) knows w has other = ap (λ (v : List ℕ). at l v (Cached w)) (set-get_or words (word_address l n offset) 0)
  merge_cached (puts_down {n = n} {y = y} {offset = offset} {h = h} has_word small hand cleans) knows w has other =
      let is = hand_is l words base history n offset y h.hand has_word hand knows.0.hand in
      ap (λ (v : List ℕ). at l v (Cached w)) (drain_evicts l words n offset y is) ∙ evict_cached l words (word_number l (Node n offset)) w has
  merge_cached (parts {freed = freed} {right = right} next) knows w has other =
      at-set_other l words (Cached (Node right.node version_offset)) (Cached w) freed (knows.1.grip.here, omega arith) has (λ alike. other right.node 0 (word_of alike))
  merge_cached (gathers {n = n} {y = y} small durable soiled told gathered) knows w has other =
      at-set_other l words (Cached (Node n bitmap_offset)) (Cached w) y (knows.0.here, omega arith) has (λ alike. other n bitmap_offset (word_of alike))
  merge_cached (joins {y = y} {left = left} small durable soiled next told) knows w has other =
      at-set_other l words (Cached (Node left.node next_offset)) (Cached w) y (knows.one.here, omega arith) has (λ alike. other left.node next_offset (word_of alike))
  merge_cached (glances_joined {offset = offset} {left = left} has_word learnt) knows w has other = ap (λ (v : List ℕ). at l v (Cached w)) (set-get_or words (word_address l left.node offset) 0)
  merge_cached (drains_joined {y = y} {offset = offset} {left = left} has_word small hand cleans) knows w has other =
      let is = hand_is l words base history left.node offset y left.hand has_word hand knows.one.hand in
      ap (λ (v : List ℕ). at l v (Cached w)) (drain_evicts l words left.node offset y is) ∙ evict_cached l words (word_number l (Node left.node offset)) w has
  merge_cached (retires {right = right} durable) knows w has other = at-set_other l words (Volatile right.node status_offset) (Cached w) gone_status (knows.other.here, omega arith) has (λ alike. cc)
  merge_cached (yields {freed = freed} {right = right} next durable) knows w has other =
      at-set_other l words (Cached (Node right.node version_offset)) (Cached w) freed (knows.other.here, omega arith) has (λ alike. other right.node 0 (word_of alike))

  -- the cached words that are no node's stay
  pub step_cached : {s : Stage} {a : Action} {x : ℕ} {t : Stage} {r : Option (Once Placed)} → (k : Step l g s a x t r) → x ≡ got l words a
      → Sure l g (facts_of l words base history) caller index since s → (w : Word) → HasWord l w → ((n offset : ℕ) → w ≡ Node n offset → ⊥) → at l (acted l words a) (Cached w) ≡ at l words (Cached w)
  step_cached (looks look) e knows w has other = ap (λ (v : List ℕ). at l v (Cached w)) (look_keeps look words e)
  step_cached (locks {n = n} same named live between) e knows w has other = at-set_other l words (Cached (Node n version_offset)) (Cached w) _ (knows.word.here, omega arith) has (λ alike. other n 0 (word_of alike))
  step_cached (locks_read {n = n} same named live between unworn taken small) e knows w has other = at-set_other l words (Cached (Node n version_offset)) (Cached w) _ (knows.here, omega arith) has (λ alike. other n 0 (word_of alike))
  step_cached (stores {n = n} {y = y} {offset = offset} has_word content small clean soils learnt means) e knows w has other =
      at-set_other l words (Cached (Node n offset)) (Cached w) y has_word has (λ alike. other n offset (word_of alike))
  step_cached (commits {n = n} {y = y} {offset = offset} has_word content small clean durable soiled old about learnt means) e knows w has other =
      at-set_other l words (Cached (Node n offset)) (Cached w) y has_word has (λ alike. other n offset (word_of alike))
  step_cached (drains {n = n} {y = y} {offset = offset} {h = h} has_word small unready hand cleans) e knows w has other =
      let is = hand_is l words base history n offset y h.hand has_word hand knows.hand in
      ap (λ (v : List ℕ). at l v (Cached w)) (drain_evicts l words n offset y is) ∙ evict_cached l words (word_number l (Node n offset)) w has
  step_cached (counts durable ready pending unplaced) e knows w has other = at-set_other l words Clock (Cached w) _ tt has (λ alike. cc)
  step_cached (unlocks {n = n} {f = freed} next pending durable unready answers) e knows w has other =
      at-set_other l words (Cached (Node n version_offset)) (Cached w) freed (knows.here, omega arith) has (λ alike. other n 0 (word_of alike))
  step_cached (claims {m = m} unplaced here same) e knows w has other = at-set_other l words (Cached (Node m version_offset)) (Cached w) _ (here, omega arith) has (λ alike. other m 0 (word_of alike))
  step_cached (publishes {freed = freed} {fresh = fresh} next left fresh') e knows w has other =
      at-set_other l words (Cached (Node fresh.node version_offset)) (Cached w) freed (knows.new.here, omega arith) has (λ alike. other fresh.node 0 (word_of alike))
  step_cached (leaves {freed = freed} {left = left} next) e knows w has other =
      at-set_other l words (Cached (Node left.node version_offset)) (Cached w) freed (knows.grip.here, omega arith) has (λ alike. other left.node 0 (word_of alike))
  step_cached (splits k) e knows w has other = split_cached k knows w has other
  step_cached (merges k) e knows w has other = merge_cached k knows w has other

  split_drained : {s : Stage} {a : Action} {x : ℕ} {t : Stage} → (k : Split l g s a x t) → Sure l g (facts_of l words base history) caller index since s
      → SplitDrained k (facts_of l words base history) (acted l words a)
  split_drained (fills has positive small within soils told) knows = tt
  split_drained (lights here leads) knows = tt
  split_drained (switches here small durable soiled cut told means) knows = tt
  split_drained (glances_left has learnt) knows = tt
  split_drained (glances_fresh has) knows = tt
  split_drained (drains_left {y = y} {offset = offset} {left = left} has small hand cleans) knows =
      drained_spot l words left.node offset y row.whole has (hand_is l words base history left.node offset y left.hand has hand knows.full.hand)
  split_drained (drains_fresh {y = y} {offset = offset} {fresh = fresh} has small hand cleans) knows =
      drained_spot l words fresh.node offset y row.whole has (hand_is l words base history fresh.node offset y fresh.hand has hand knows.new.hand)
  split_drained (trims here small durable soiled anchor told means) knows = tt

  merge_drained : {s : Stage} {a : Action} {x : ℕ} {t : Stage} → (k : Merge l g s a x t) → Sure l g (facts_of l words base history) caller index since s
      → MergeDrained k (facts_of l words base history) (acted l words a)
  merge_drained (meets here same untimed leads) knows = tt
  merge_drained (knows_own has positive learnt) knows = tt
  merge_drained (knows_right has positive told) knows = tt
  merge_drained (copies has content small soils learnt means) knows = tt
  merge_drained (takes_up has) knows = tt
  merge_drained (puts_down {n = n} {y = y} {offset = offset} {h = h} has small hand cleans) knows =
      drained_spot l words n offset y row.whole has (hand_is l words base history n offset y h.hand has hand knows.0.hand)
  merge_drained (parts next) knows = tt
  merge_drained (gathers small durable soiled told gathered) knows = tt
  merge_drained (joins small durable soiled next told) knows = tt
  merge_drained (glances_joined has learnt) knows = tt
  merge_drained (drains_joined {y = y} {offset = offset} {left = left} has small hand cleans) knows =
      drained_spot l words left.node offset y row.whole has (hand_is l words base history left.node offset y left.hand has hand knows.one.hand)
  merge_drained (retires durable) knows = tt
  merge_drained (yields next durable) knows = tt

  -- a drained word is durable
  pub step_drained : {s : Stage} {a : Action} {x : ℕ} {t : Stage} {r : Option (Once Placed)} → (k : Step l g s a x t r)
      → Sure l g (facts_of l words base history) caller index since s → Drained k (facts_of l words base history) (acted l words a)
  step_drained (looks look) knows = tt
  step_drained (locks same named live between) knows = tt
  step_drained (locks_read same named live between unworn taken small) knows = tt
  step_drained (stores has content small clean soils learnt means) knows = tt
  step_drained (commits has content small clean durable soiled old about learnt means) knows = tt
  step_drained (drains {n = n} {y = y} {offset = offset} {h = h} has small unready hand cleans) knows =
      drained_spot l words n offset y row.whole has (hand_is l words base history n offset y h.hand has hand knows.hand)
  step_drained (counts durable ready pending unplaced) knows = tt
  step_drained (unlocks next pending durable unready answers) knows = tt
  step_drained (claims unplaced here same) knows = tt
  step_drained (publishes next left fresh) knows = tt
  step_drained (leaves next) knows = tt
  step_drained (splits k) knows = split_drained k knows
  step_drained (merges k) knows = merge_drained k knows
