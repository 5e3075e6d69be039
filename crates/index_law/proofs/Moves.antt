-- What a step of each kind makes of the facts, and what the number that it is told says of them.
use Rattle.std.proofs.Common.{◌≡◌, ◌≢◌, ℕ, ◌+◌, ◌<◌, inl, inr, ⊎_elim, subst, Bool, true, false, cond, List, [], ◌∷◌, ◌++◌, length, slice_index, slice_set, refl, sym, ap, ◌∙◌, arith}
use Rattle.std.specs.Prelude.{◌==◌, Option, Some, None}
use mathlib.Core.Option.{some}
use lib.ListN.{get_elem?}
use Rattle.std.proofs.lemmas.Bool.{eq-eqb, ne_eqb}
use Rattle.std.proofs.lemmas.List.{set-get_or, append-nil, length-append}
use Rattle.pm_words.specs.Codes.{live_status, gone_status}
use Rattle.pm_words.specs.declared.layout.Layout.{Layout}
use Rattle.pm_words.specs.declared.action.Action.{Action}
use Rattle.pm_words.specs.Locations.{Location, Volatile, Cached, Durable, Clock, Node, HasLocation, address_of}
use Rattle.pm_words.specs.Rows.{IsRow, acted, got}
use Rattle.pm_words.specs.declared.action.Action.TheVariants.{Load, Add}
use Rattle.pm_words.proofs.Apart.{at-set_other, at-set_same}
use Rattle.pm_words.proofs.Kept.{action_address-drain}
use Rattle.cat_history.specs.Maps.{Map}
use Rattle.cat_history.specs.declared.op.Change.{Change}
use Rattle.cat_history.specs.declared.op.Write.{Write}
use Rattle.data_node.specs.Spots.{Spot}
use Rattle.call_stages.specs.declared.once.Once.{Once}
use Rattle.call_stages.specs.declared.once.Placed.{Placed}
use Rattle.call_stages.specs.Stages.{Held, Grip, Sight, Stage, Saw, Holds, HoldsNode, Joins, Meets, Gathered, Joined, Gone, Tells, IsLoose, counted}
use Rattle.call_stages.specs.Kinds.{Read, views, views_live, views_word, views_next, dates, notes, finds, confirms, wavers, reads_on}
use Rattle.call_stages.specs.Kinds.{Look, turns_back, is_worn, wears, roams, roams_status, sees, misses, misses_read, times, learns, decides, glances, finds_live, watches, watches_next, turns_away, steps_back, wanders, Split, fills, lights, switches, glances_left, glances_fresh, drains_left, drains_fresh, trims, splits, Merge, meets, knows_own, knows_right, copies, takes_up, puts_down, parts, gathers, joins, glances_joined, drains_joined, retires, yields, merges, peeks, peeks_status, eyes, eyes_free, passes, loses, claims, publishes, leaves, Step, looks, locks, locks_read, stores, commits, drains, counts, unlocks, clock_address, word_address, version_address}
use Rattle.index_law.specs.Facts.{Facts, facts_of, cached_word, spot_in, map_now, range_of}
use Rattle.index_law.specs.Worlds.{World, Party, facts, stepped, written}
use Rattle.pm_words.specs.Offsets.{version_offset, bitmap_offset, next_offset, status_offset}
use Rattle.call_stages.specs.Kinds.{status_address, prev_address, IsContent}
use Rattle.index_law.specs.Facts.{IsListed}
use Rattle.index_law.specs.Lawful.{IsList, Lawful, Sure}
use Rattle.index_law.proofs.Rows.{with_version, with_status, with_word, with_next, with_past, with_writes, version_in-here, status_in-here, spot_in-here, cached_word-here, facts-elsewhere, facts-version, facts-status, facts-word, facts-next, facts-past, links_content, links_else}
use Rattle.index_law.proofs.Switch.{members_after}
use Rattle.index_law.proofs.Past.{members_past}
use Rattle.index_law.proofs.Loose.{loose_counted}

-- a word of content is not the version word
pub content_positive : (offset : ℕ) → IsContent offset → 0 < offset
content_positive offset content = ⊎_elim (λ bits. omega arith) (λ far. omega arith) content

-- a step that is not ready counts nothing
unready_adds : (n w : ℕ) (h : Held) (caller index : ℕ) → h.ready ≡ false → written caller index (counted (Holds n w h)) ≡ []
unready_adds n w h caller index unready = ap (λ (b : Bool). written caller index (elim b [ true ↦ h.pending | false ↦ None ])) unready

ready_adds : (n w : ℕ) (h : Held) (c : Change) (caller index : ℕ) → h.ready ≡ true → h.pending ≡ Some c → written caller index (counted (Holds n w h)) ≡ (record { caller = caller; index = index; change = c }) ∷ []
ready_adds n w h c caller index ready pending =
    ap (λ (b : Bool). written caller index (elim b [ true ↦ h.pending | false ↦ None ])) ready ∙ ap (written caller index) pending

-- the same words with nothing added
unadded : (l : Layout) (base : Map) (h : List Write) (ws : List ℕ) (more : List Write) → more ≡ [] → facts_of l ws base (h ++ more) ≡ facts_of l ws base h
unadded l base h ws more none = ap (λ (u : List Write). facts_of l ws base u) (ap (λ (u : List Write). h ++ u) none ∙ append-nil h)

lengths : (h more : List Write) → more ≡ [] → length h ≡ length (h ++ more)
lengths h more none = ap length (sym (append-nil h) ∙ ap (λ (u : List Write). h ++ u) (sym none))

-- the clock beside a store
beside : (l : Layout) (ws : List ℕ) (p : Location) (y : ℕ) → HasLocation l p → Clock ≢ p → slice_index (slice_set ws (address_of l p) y) (clock_address l) ≡ slice_index ws (clock_address l)
beside l ws p y has other = at-set_other l ws p Clock y has tt other

module _ {l : Layout} {g : ℕ} where
  -- the facts after a step of a split
  abbrev pub split_after : {s : Stage} {a : Action} {x : ℕ} {t : Stage} → Split l g s a x t → Facts → Facts
  split_after (fills {y = y} {offset = offset} {fresh = fresh} has positive small within soils told) f = with_word f fresh.node offset y
  split_after (lights {fresh = fresh} here leads) f = with_status f fresh.node live_status
  split_after (switches {left = left} {fresh = fresh} here small durable soiled cut told means) f = with_next f left.node fresh.node
  split_after (glances_left has learnt) f = f
  split_after (glances_fresh has) f = f
  split_after (drains_left has small hand cleans) f = f
  split_after (drains_fresh has small hand cleans) f = f
  split_after (trims {y = y} {left = left} here small durable soiled anchor told means) f = with_word f left.node bitmap_offset y

  -- the number that it gives
  abbrev pub SplitGave : {s : Stage} {a : Action} {x : ℕ} {t : Stage} → Split l g s a x t → Facts → Type 0
  SplitGave (glances_left {x = x} {offset = offset} {left = left} has learnt) f = x ≡ cached_word f left.node offset
  SplitGave (glances_fresh {x = x} {offset = offset} {fresh = fresh} has) f = x ≡ cached_word f fresh.node offset
  SplitGave _ f = Unit {0}

  -- the facts after a step of a merge
  abbrev pub merge_after : {s : Stage} {a : Action} {x : ℕ} {t : Stage} → Merge l g s a x t → Facts → Facts
  merge_after (meets {m = m} {u = u} here same untimed leads) f = with_version f m u
  merge_after (knows_own has positive learnt) f = f
  merge_after (knows_right has positive told) f = f
  merge_after (copies {n = n} {y = y} {offset = offset} has content small soils learnt means) f = with_word f n offset y
  merge_after (takes_up has) f = f
  merge_after (puts_down has small hand cleans) f = f
  merge_after (parts {freed = freed} {right = right} next) f = with_version f right.node freed
  merge_after (gathers {n = n} {y = y} small durable soiled told gathered) f = with_word f n bitmap_offset y
  merge_after (joins {y = y} {left = left} {right = right} small durable soiled next told) f = with_past f left.node y right.node
  merge_after (glances_joined has learnt) f = f
  merge_after (drains_joined has small hand cleans) f = f
  merge_after (retires {right = right} durable) f = with_status f right.node gone_status
  merge_after (yields {freed = freed} {right = right} next durable) f = with_version f right.node freed

  abbrev pub MergeGave : {s : Stage} {a : Action} {x : ℕ} {t : Stage} → Merge l g s a x t → Facts → Type 0
  MergeGave (meets {x = x} {m = m} here same untimed leads) f = x ≡ f.version m
  MergeGave (knows_own {n = n} {x = x} {offset = offset} has positive learnt) f = x ≡ f.now n offset
  MergeGave (knows_right {x = x} {offset = offset} {right = right} has positive told) f = x ≡ f.now right.node offset
  MergeGave (takes_up {n = n} {x = x} {offset = offset} has) f = x ≡ cached_word f n offset
  MergeGave (glances_joined {x = x} {offset = offset} {left = left} has learnt) f = x ≡ cached_word f left.node offset
  MergeGave _ f = Unit {0}

  -- the facts after a step of this call of this caller
  abbrev pub fact_after : {s : Stage} {a : Action} {x : ℕ} {t : Stage} {r : Option (Once Placed)} → Step l g s a x t r → Facts → ℕ → ℕ → Facts
  fact_after (looks look) f caller index = f
  fact_after (locks {n = n} {w = w} same named live between) f caller index = with_version f n w
  fact_after (locks_read {n = n} {w = w} same named live between unworn taken small) f caller index = with_version f n w
  fact_after (stores {n = n} {y = y} {offset = offset} has content small clean soils knows means) f caller index = with_word f n offset y
  fact_after (commits {n = n} {y = y} {offset = offset} has content small clean durable soiled old about knows means) f caller index = with_word f n offset y
  fact_after (drains has small unready hand cleans) f caller index = f
  fact_after (counts {c = c} durable ready pending unplaced) f caller index = with_writes f ((record { caller = caller; index = index; change = c }) ∷ [])
  fact_after (unlocks {n = n} {f = freed} next pending durable unready answers) f caller index = with_version f n freed
  fact_after (claims {m = m} {u = u} unplaced here same) f caller index = with_version f m u
  fact_after (publishes {freed = freed} {fresh = fresh} next left fresh') f caller index = with_version f fresh.node freed
  fact_after (leaves {freed = freed} {left = left} next) f caller index = with_version f left.node freed
  fact_after (splits k) f caller index = split_after k f
  fact_after (merges k) f caller index = merge_after k f

  -- what holds of all facts whose list and statuses are those of before, and after each step that splits or merges
  -- nodes, holds after each step
  pub each_after : (f : Facts) (caller index : ℕ) {s : Stage} {a : Action} {x : ℕ} {t : Stage} {r : Option (Once Placed)} (k : Step l g s a x t r) (P : Facts → Type 0)
      → ((φ : Facts) → φ.list ≡ f.list → φ.status ≡ f.status → P φ) → ((k : Split l g s a x t) → P (split_after k f)) → ((k : Merge l g s a x t) → P (merge_after k f)) → P (fact_after k f caller index)
  each_after f caller index (looks look) P same split merge = same f refl refl
  each_after f caller index (locks {n = n} {w = w} named_is named live between) P same split merge = same (with_version f n w) refl refl
  each_after f caller index (locks_read {n = n} {w = w} named_is named live between unworn taken small) P same split merge = same (with_version f n w) refl refl
  each_after f caller index (stores {n = n} {y = y} {offset = offset} has content small clean soils knows means) P same split merge = same (with_word f n offset y) refl refl
  each_after f caller index (commits {n = n} {y = y} {offset = offset} has content small clean durable soiled old about knows means) P same split merge = same (with_word f n offset y) refl refl
  each_after f caller index (drains has small unready hand cleans) P same split merge = same f refl refl
  each_after f caller index (counts {c = c} durable ready pending unplaced) P same split merge = same (with_writes f ((record { caller = caller; index = index; change = c }) ∷ [])) refl refl
  each_after f caller index (unlocks {n = n} {f = freed} next pending durable unready answers) P same split merge = same (with_version f n freed) refl refl
  each_after f caller index (claims {m = m} {u = u} unplaced here is) P same split merge = same (with_version f m u) refl refl
  each_after f caller index (publishes {freed = freed} {fresh = fresh} next left fresh') P same split merge = same (with_version f fresh.node freed) refl refl
  each_after f caller index (leaves {freed = freed} {left = left} next) P same split merge = same (with_version f left.node freed) refl refl
  each_after f caller index (splits k) P same split merge = split k
  each_after f caller index (merges k) P same split merge = merge k

  -- likewise of a merge: one store takes a node out of the list, and one makes its status GONE
  pub each_merged : (f : Facts) {s : Stage} {a : Action} {x : ℕ} {t : Stage} (k : Merge l g s a x t) (P : Stage → Stage → Facts → Type 0) → ((φ : Facts) → φ.list ≡ f.list → φ.status ≡ f.status → P s t φ)
      → ((h : Held) (left right now : Grip) (y : ℕ) → ((spot : Spot) → Tells right.seen spot → spot next_offset ≡ y) → P (Joins h left right Gathered) (Joins h now right Joined) (with_past f left.node y right.node))
      → ((h : Held) (left right : Grip) → P (Joins h left right Joined) (Joins h left right Gone) (with_status f right.node gone_status)) → P s t (merge_after k f)
  each_merged f (meets {m = m} {u = u} here is untimed leads) P same join retire = same (with_version f m u) refl refl
  each_merged f (knows_own has positive learnt) P same join retire = same f refl refl
  each_merged f (knows_right has positive told) P same join retire = same f refl refl
  each_merged f (copies {n = n} {y = y} {offset = offset} has content small soils learnt means) P same join retire = same (with_word f n offset y) refl refl
  each_merged f (takes_up has) P same join retire = same f refl refl
  each_merged f (puts_down has small hand cleans) P same join retire = same f refl refl
  each_merged f (parts {freed = freed} {right = right} next) P same join retire = same (with_version f right.node freed) refl refl
  each_merged f (gathers {n = n} {y = y} small durable soiled told gathered) P same join retire = same (with_word f n bitmap_offset y) refl refl
  each_merged f (joins {y = y} {h = h} {left = left} {right = right} {seen = seen} {dirty = dirty} small durable soiled next told) P same join retire =
      join h left right (record left { seen = seen; dirty = dirty; hand = None }) y next
  each_merged f (glances_joined has learnt) P same join retire = same f refl refl
  each_merged f (drains_joined has small hand cleans) P same join retire = same f refl refl
  each_merged f (retires {h = h} {left = left} {right = right} durable) P same join retire = retire h left right
  each_merged f (yields {freed = freed} {right = right} next durable) P same join retire = same (with_version f right.node freed) refl refl

  -- what holds where a merge gives the right node back, before it has gathered names and at its end, holds of each node
  -- that it gives back
  pub each_given : (f : Facts) {s : Stage} {a : Action} {x : ℕ} {t : Stage} (k : Merge l g s a x t) (m : ℕ) (P : Stage → Facts → Type 0)
      → ((n w freed : ℕ) (h : Held) (right : Grip) → freed ≡ right.lock + 1 → right.node ≡ m → P (Meets n w h right) (with_version f right.node freed))
      → ((freed : ℕ) (h : Held) (left right : Grip) → freed ≡ right.lock + 1 → right.node ≡ m → P (Joins h left right Gone) (with_version f right.node freed))
      → HoldsNode s m → (HoldsNode t m → ⊥) → P s (merge_after k f)
  each_given f (meets here is untimed leads) m P part yield held gone = absurd (gone (inl held))
  each_given f (knows_own has positive learnt) m P part yield held gone = absurd (gone held)
  each_given f (knows_right has positive told) m P part yield held gone = absurd (gone held)
  each_given f (copies has content small soils learnt means) m P part yield held gone = absurd (gone held)
  each_given f (takes_up has) m P part yield held gone = absurd (gone held)
  each_given f (puts_down has small hand cleans) m P part yield held gone = absurd (gone held)
  each_given f (parts next) m P part yield (inl held) gone = absurd (gone held)
  each_given f (parts {n = n} {w = w} {freed = freed} {h = h} {right = right} next) m P part yield (inr held) gone = part n w freed h right next held
  each_given f (gathers small durable soiled told gathered) m P part yield held gone = absurd (gone held)
  each_given f (joins small durable soiled next told) m P part yield held gone = absurd (gone held)
  each_given f (glances_joined has learnt) m P part yield held gone = absurd (gone held)
  each_given f (drains_joined has small hand cleans) m P part yield held gone = absurd (gone held)
  each_given f (retires durable) m P part yield held gone = absurd (gone held)
  each_given f (yields next durable) m P part yield (inl held) gone = absurd (gone held)
  each_given f (yields {freed = freed} {h = h} {left = left} {right = right} next durable) m P part yield (inr held) gone = yield freed h left right next held

  -- the number that a step of a reader gives
  abbrev pub ReadGave : {s : Stage} {a : Action} {x : ℕ} {t : Stage} {r : Option (Once Placed)} → Read l g s a x t r → Facts → Type 0
  ReadGave (views {n = n} {x = x} loose here free) f = x ≡ f.version n
  ReadGave (views_live {n = n} {x = x} here is) f = x ≡ f.status n
  ReadGave (views_word {n = n} {x = x} {offset = offset} has positive live next learnt) f = x ≡ f.now n offset
  ReadGave (views_next {m = m} {x = x} {offset = offset} has low high ne live live' next leads learnt) f = x ≡ f.now m offset
  ReadGave (dates {x = x} named live between kept) f = x ≡ length f.history
  ReadGave (notes {n = n} {x = x} {offset = offset} has positive learnt) f = x ≡ f.now n offset
  ReadGave (finds {n = n} {x = x} {offset = offset} has positive learnt decided) f = x ≡ f.now n offset
  ReadGave (confirms {n = n} {x = x} here same unplaced unlimited time old) f = x ≡ f.version n
  ReadGave (wavers {n = n} {x = x} here other) f = x ≡ f.version n

  -- it is loose before and after
  read_loose : {s : Stage} {a : Action} {x : ℕ} {t : Stage} {r : Option (Once Placed)} → Read l g s a x t r → IsLoose s × IsLoose t
  read_loose (views loose here free) = (loose, tt)
  read_loose (views_live here is) = (tt, tt)
  read_loose (views_word has positive live next learnt) = (tt, tt)
  read_loose (views_next has low high ne live live' next leads learnt) = (tt, tt)
  read_loose (dates named live between kept) = (tt, tt)
  read_loose (notes has positive learnt) = (tt, tt)
  read_loose (finds has positive learnt decided) = (tt, tt)
  read_loose (confirms here same unplaced unlimited time old) = (tt, tt)
  read_loose (wavers here other) = (tt, tt)

  pub read_before : {s : Stage} {a : Action} {x : ℕ} {t : Stage} {r : Option (Once Placed)} → Read l g s a x t r → IsLoose s
  read_before k = (read_loose k).0

  pub read_after : {s : Stage} {a : Action} {x : ℕ} {t : Stage} {r : Option (Once Placed)} → Read l g s a x t r → IsLoose t
  read_after k = (read_loose k).1

  -- its action is a load
  pub read_loads : {s : Stage} {a : Action} {x : ℕ} {t : Stage} {r : Option (Once Placed)} → Read l g s a x t r → (address : ℕ) × (a ≡ Load address)
  read_loads (views {n = n} loose here free) = (version_address l n, refl)
  read_loads (views_live {n = n} here is) = (status_address l n, refl)
  read_loads (views_word {n = n} {offset = offset} has positive live next learnt) = (word_address l n offset, refl)
  read_loads (views_next {m = m} {offset = offset} has low high ne live live' next leads learnt) = (word_address l m offset, refl)
  read_loads (dates named live between kept) = (clock_address l, refl)
  read_loads (notes {n = n} {offset = offset} has positive learnt) = (word_address l n offset, refl)
  read_loads (finds {n = n} {offset = offset} has positive learnt decided) = (word_address l n offset, refl)
  read_loads (confirms {n = n} here same unplaced unlimited time old) = (version_address l n, refl)
  read_loads (wavers {n = n} here other) = (version_address l n, refl)

  -- the number that a look gives
  abbrev pub Gave : {s : Stage} {a : Action} {x : ℕ} {t : Stage} {r : Option (Once Placed)} → Look l g s a x t r → Facts → Type 0
  Gave (turns_back {s = s} {n = n} {x = x} loose here busy) f = x ≡ f.version n
  Gave (wears {s = s} {n = n} {x = x} loose here free worn) f = x ≡ f.version n
  Gave (roams has) f = Unit {0}
  Gave (roams_status here) f = Unit {0}
  Gave (is_worn has) f = Unit {0}
  Gave (sees {s = s} {n = n} {x = x} loose here free unworn lock) f = x ≡ f.version n
  Gave (finds_live {n = n} {x = x} here is) f = x ≡ f.status n
  Gave (watches {n = n} {x = x} {offset = offset} has positive live next learnt) f = x ≡ f.now n offset
  Gave (watches_next {m = m} {x = x} {offset = offset} has low high ne live live' next leads learnt) f = x ≡ f.now m offset
  Gave (turns_away {s = s} loose here up) f = Unit {0}
  Gave (steps_back {s = s} loose here up) f = Unit {0}
  Gave (wanders {s = s} loose here up) f = Unit {0}
  Gave (peeks here unready) f = Unit {0}
  Gave (peeks_status here unready) f = Unit {0}
  Gave (eyes {x = x} {m = m} clean durable here nonzero free unworn lock) f = x ≡ f.version m
  Gave (eyes_free {x = x} {m = m} here is) f = x ≡ f.status m
  Gave (passes here) f = Unit {0}
  Gave (loses {x = x} {m = m} here other) f = Unit {0}
  Gave (misses {n = n} {x = x} other) f = x ≡ f.version n
  Gave (misses_read {n = n} {x = x} other small) f = x ≡ f.version n
  Gave (times {x = x} clean below) f = x ≡ length f.history
  Gave (learns {n = n} {x = x} {offset = offset} has positive unready knows) f = x ≡ f.now n offset
  Gave (decides {n = n} {x = x} {offset = offset} has positive clean durable about knows decided) f = x ≡ f.now n offset
  Gave (reads_on k) f = ReadGave k f
  Gave (glances {n = n} {x = x} {offset = offset} has unready) f = x ≡ cached_word f n offset

  -- the number that a step is told
  abbrev pub Gives : {s : Stage} {a : Action} {x : ℕ} {t : Stage} {r : Option (Once Placed)} → Step l g s a x t r → Facts → Type 0
  Gives (looks look) f = Gave look f
  Gives (locks {n = n} {x = x} same named live between) f = x ≡ f.version n
  Gives (locks_read {n = n} {x = x} same named live between unworn taken small) f = x ≡ f.version n
  Gives (stores has content small clean soils knows means) f = Unit {0}
  Gives (commits has content small clean durable soiled old about knows means) f = Unit {0}
  Gives (drains has small unready hand cleans) f = Unit {0}
  Gives (counts {x = x} durable ready pending unplaced) f = x ≡ length f.history
  Gives (unlocks next pending durable unready answers) f = Unit {0}
  Gives (claims {x = x} {m = m} unplaced here same) f = x ≡ f.version m
  Gives (publishes next left fresh) f = Unit {0}
  Gives (leaves next) f = Unit {0}
  Gives (splits k) f = SplitGave k f
  Gives (merges k) f = MergeGave k f

  look_adds : {s : Stage} {a : Action} {x : ℕ} {t : Stage} {r : Option (Once Placed)} → Look l g s a x t r → (caller index : ℕ) → written caller index (counted s) ≡ []
  look_adds (turns_back {s = s} loose here busy) caller index = ap (written caller index) (loose_counted s loose)
  look_adds (wears {s = s} loose here free worn) caller index = ap (written caller index) (loose_counted s loose)
  look_adds (roams has) caller index = refl
  look_adds (roams_status here) caller index = refl
  look_adds (is_worn has) caller index = refl
  look_adds (sees {s = s} loose here free unworn lock) caller index = ap (written caller index) (loose_counted s loose)
  look_adds (finds_live here is) caller index = refl
  look_adds (watches has positive live next learnt) caller index = refl
  look_adds (watches_next has low high ne live live' next leads learnt) caller index = refl
  look_adds (turns_away {s = s} loose here up) caller index = ap (written caller index) (loose_counted s loose)
  look_adds (steps_back {s = s} loose here up) caller index = ap (written caller index) (loose_counted s loose)
  look_adds (wanders {s = s} loose here up) caller index = ap (written caller index) (loose_counted s loose)
  look_adds (peeks {n = n} {w = w} {h = h} here unready) caller index = unready_adds n w h caller index unready
  look_adds (peeks_status {n = n} {w = w} {h = h} here unready) caller index = unready_adds n w h caller index unready
  look_adds (eyes {n = n} {w = w} {h = h} clean durable here nonzero free unworn lock) caller index = unready_adds n w h caller index clean.ready
  look_adds (eyes_free here is) caller index = refl
  look_adds (passes here) caller index = refl
  look_adds (loses here other) caller index = refl
  look_adds (misses other) caller index = refl
  look_adds (misses_read other small) caller index = refl
  look_adds (times {n = n} {w = w} {h = h} clean below) caller index = unready_adds n w h caller index clean.ready
  look_adds (learns {n = n} {w = w} {h = h} has positive unready knows) caller index = unready_adds n w h caller index unready
  look_adds (decides {n = n} {w = w} {h = h} has positive clean durable about knows decided) caller index = unready_adds n w h caller index clean.ready
  look_adds (reads_on {s = s} k) caller index = ap (written caller index) (loose_counted s (read_before k))
  look_adds (glances {n = n} {w = w} {h = h} has unready) caller index = unready_adds n w h caller index unready

  split_adds : {s : Stage} {a : Action} {x : ℕ} {t : Stage} → Split l g s a x t → (caller index : ℕ) → written caller index (counted s) ≡ []
  split_adds (fills has positive small within soils told) caller index = refl
  split_adds (lights here leads) caller index = refl
  split_adds (switches here small durable soiled cut told means) caller index = refl
  split_adds (glances_left has learnt) caller index = refl
  split_adds (glances_fresh has) caller index = refl
  split_adds (drains_left has small hand cleans) caller index = refl
  split_adds (drains_fresh has small hand cleans) caller index = refl
  split_adds (trims here small durable soiled anchor told means) caller index = refl

  merge_adds : {s : Stage} {a : Action} {x : ℕ} {t : Stage} → Merge l g s a x t → (caller index : ℕ) → written caller index (counted s) ≡ []
  merge_adds (meets here same untimed leads) caller index = refl
  merge_adds (knows_own has positive learnt) caller index = refl
  merge_adds (knows_right has positive told) caller index = refl
  merge_adds (copies has content small soils learnt means) caller index = refl
  merge_adds (takes_up has) caller index = refl
  merge_adds (puts_down has small hand cleans) caller index = refl
  merge_adds (parts next) caller index = refl
  merge_adds (gathers small durable soiled told gathered) caller index = refl
  merge_adds (joins small durable soiled next told) caller index = refl
  merge_adds (glances_joined has learnt) caller index = refl
  merge_adds (drains_joined has small hand cleans) caller index = refl
  merge_adds (retires durable) caller index = refl
  merge_adds (yields next durable) caller index = refl

  -- a look leaves the words
  pub look_keeps : {s : Stage} {a : Action} {x : ℕ} {t : Stage} {r : Option (Once Placed)} → Look l g s a x t r → (ws : List ℕ) → x ≡ got l ws a → acted l ws a ≡ ws
  look_keeps (turns_back {s = s} {n = n} loose here busy) ws e = set-get_or ws (version_address l n) 0
  look_keeps (wears {s = s} {n = n} loose here free worn) ws e = set-get_or ws (version_address l n) 0
  look_keeps (roams {m = m} {offset = offset} has) ws e = set-get_or ws (word_address l m offset) 0
  look_keeps (roams_status {m = m} here) ws e = set-get_or ws (status_address l m) 0
  look_keeps (is_worn {m = m} {offset = offset} has) ws e = set-get_or ws (word_address l m offset) 0
  look_keeps (sees {s = s} {n = n} loose here free unworn lock) ws e = set-get_or ws (version_address l n) 0
  look_keeps (finds_live {n = n} here is) ws e = set-get_or ws (status_address l n) 0
  look_keeps (watches {n = n} {offset = offset} has positive live next learnt) ws e = set-get_or ws (word_address l n offset) 0
  look_keeps (watches_next {m = m} {offset = offset} has low high ne live live' next leads learnt) ws e = set-get_or ws (word_address l m offset) 0
  look_keeps (turns_away {s = s} {m = m} loose here up) ws e = set-get_or ws (status_address l m) 0
  look_keeps (steps_back {s = s} {m = m} loose here up) ws e = set-get_or ws (prev_address l m) 0
  look_keeps (wanders {s = s} {m = m} {offset = offset} loose here up) ws e = set-get_or ws (word_address l m offset) 0
  look_keeps (peeks {m = m} here unready) ws e = set-get_or ws (version_address l m) 0
  look_keeps (peeks_status {m = m} here unready) ws e = set-get_or ws (status_address l m) 0
  look_keeps (eyes {m = m} clean durable here nonzero free unworn lock) ws e = set-get_or ws (version_address l m) 0
  look_keeps (eyes_free {m = m} here is) ws e = set-get_or ws (status_address l m) 0
  look_keeps (passes {m = m} here) ws e = set-get_or ws (status_address l m) 0
  look_keeps (loses {x = x} {m = m} {v = v} {u = u} here other) ws e =
      let word : ℕ = slice_index ws (version_address l m) in
      let ne : word ≢ v = (λ same. other (e ∙ same)) in
      ap (λ (b : Bool). slice_set ws (version_address l m) (cond b u word)) (ne_eqb word v ne) ∙ set-get_or ws (version_address l m) 0
  look_keeps (misses {n = n} {v = v} {w = w} {x = x} other) ws e =
      let word : ℕ = slice_index ws (version_address l n) in
      let ne : word ≢ v = (λ same. other (e ∙ same)) in
      ap (λ (b : Bool). slice_set ws (version_address l n) (cond b w word)) (ne_eqb word v ne) ∙ set-get_or ws (version_address l n) 0
  look_keeps (misses_read {n = n} {v = v} {w = w} {x = x} other small) ws e =
      let word : ℕ = slice_index ws (version_address l n) in
      let ne : word ≢ v = (λ same. other (e ∙ same)) in
      ap (λ (b : Bool). slice_set ws (version_address l n) (cond b w word)) (ne_eqb word v ne) ∙ set-get_or ws (version_address l n) 0
  look_keeps (times clean below) ws e = set-get_or ws (clock_address l) 0
  look_keeps (learns {n = n} {offset = offset} has positive unready knows) ws e = set-get_or ws (word_address l n offset) 0
  look_keeps (decides {n = n} {offset = offset} has positive clean durable about knows decided) ws e = set-get_or ws (word_address l n offset) 0
  look_keeps (reads_on k) ws e =
      let load = read_loads k in
      ap (acted l ws) load.1 ∙ set-get_or ws load.0 0
  look_keeps (glances {n = n} {offset = offset} has unready) ws e = set-get_or ws (word_address l n offset) 0

  module _ (ws : List ℕ) (base : Map) (h : List Write) (caller index since : ℕ) where
    here : {n v w : ℕ} {k : Sight} → Sure l g (facts_of l ws base h) caller index since (Saw n v w k) → n < l.nodes
    here knows = knows.word.here

    read_gave : {s : Stage} {a : Action} {x : ℕ} {t : Stage} {r : Option (Once Placed)} → (k : Read l g s a x t r) → slice_index ws (clock_address l) ≡ length h
        → x ≡ got l ws a → ReadGave k (facts_of l ws base h)
    read_gave (views {n = n} loose there free) clock e = e ∙ sym (version_in-here l ws n there)
    read_gave (views_live {n = n} there is) clock e = e ∙ sym (status_in-here l ws n there)
    read_gave (views_word {n = n} {offset = offset} has positive live next learnt) clock e = e ∙ sym (spot_in-here l ws n offset has positive)
    read_gave (views_next {m = m} {offset = offset} has low high ne live live' next leads learnt) clock e = e ∙ sym (spot_in-here l ws m offset has (omega arith))
    read_gave (dates named live between kept) clock e = e ∙ clock
    read_gave (notes {n = n} {offset = offset} has positive learnt) clock e = e ∙ sym (spot_in-here l ws n offset has positive)
    read_gave (finds {n = n} {offset = offset} has positive learnt decided) clock e = e ∙ sym (spot_in-here l ws n offset has positive)
    read_gave (confirms {n = n} there same unplaced unlimited time old) clock e = e ∙ sym (version_in-here l ws n there)
    read_gave (wavers {n = n} there other) clock e = e ∙ sym (version_in-here l ws n there)

    gave : {s : Stage} {a : Action} {x : ℕ} {t : Stage} {r : Option (Once Placed)} → (k : Look l g s a x t r) → slice_index ws (clock_address l) ≡ length h
        → x ≡ got l ws a → Sure l g (facts_of l ws base h) caller index since s → Gave k (facts_of l ws base h)
    gave (turns_back {s = s} {n = n} loose there busy) clock e knows = e ∙ sym (version_in-here l ws n there)
    gave (wears {s = s} {n = n} loose there free worn) clock e knows = e ∙ sym (version_in-here l ws n there)
    gave (roams has) clock e knows = tt
    gave (roams_status there) clock e knows = tt
    gave (is_worn has) clock e knows = tt
    gave (sees {s = s} {n = n} loose there free unworn lock) clock e knows = e ∙ sym (version_in-here l ws n there)
    gave (finds_live {n = n} there is) clock e knows = e ∙ sym (status_in-here l ws n there)
    gave (watches {n = n} {offset = offset} has positive live next learnt) clock e knows = e ∙ sym (spot_in-here l ws n offset has positive)
    gave (watches_next {m = m} {offset = offset} has low high ne live live' next leads learnt) clock e knows = e ∙ sym (spot_in-here l ws m offset has (omega arith))
    gave (turns_away {s = s} loose there up) clock e knows = tt
    gave (steps_back {s = s} loose there up) clock e knows = tt
    gave (wanders {s = s} loose there up) clock e knows = tt
    gave (peeks there unready) clock e knows = tt
    gave (peeks_status there unready) clock e knows = tt
    gave (eyes {m = m} clean durable there nonzero free unworn lock) clock e knows = e ∙ sym (version_in-here l ws m there)
    gave (eyes_free {m = m} there is) clock e knows = e ∙ sym (status_in-here l ws m there)
    gave (passes there) clock e knows = tt
    gave (loses there other) clock e knows = tt
    gave (misses {n = n} other) clock e knows = e ∙ sym (version_in-here l ws n (here knows))
    gave (misses_read {n = n} other small) clock e knows = e ∙ sym (version_in-here l ws n knows.here)
    gave (times clean below) clock e knows = e ∙ clock
    gave (learns {n = n} {offset = offset} has positive unready learnt) clock e knows = e ∙ sym (spot_in-here l ws n offset has positive)
    gave (decides {n = n} {offset = offset} has positive clean durable about learnt decided) clock e knows = e ∙ sym (spot_in-here l ws n offset has positive)
    gave (reads_on k) clock e knows = read_gave k clock e
    gave (glances {n = n} {offset = offset} has unready) clock e knows = e ∙ sym (cached_word-here l ws base h n offset has)

    split_gave : {s : Stage} {a : Action} {x : ℕ} {t : Stage} → (k : Split l g s a x t) → x ≡ got l ws a → SplitGave k (facts_of l ws base h)
    split_gave (fills has positive small within soils told) e = tt
    split_gave (lights here leads) e = tt
    split_gave (switches here small durable soiled cut told means) e = tt
    split_gave (glances_left {offset = offset} {left = left} has learnt) e = e ∙ sym (cached_word-here l ws base h left.node offset has)
    split_gave (glances_fresh {offset = offset} {fresh = fresh} has) e = e ∙ sym (cached_word-here l ws base h fresh.node offset has)
    split_gave (drains_left has small hand cleans) e = tt
    split_gave (drains_fresh has small hand cleans) e = tt
    split_gave (trims here small durable soiled anchor told means) e = tt

    merge_gave : {s : Stage} {a : Action} {x : ℕ} {t : Stage} → (k : Merge l g s a x t) → x ≡ got l ws a → MergeGave k (facts_of l ws base h)
    merge_gave (meets {m = m} there same untimed leads) e = e ∙ sym (version_in-here l ws m there)
    merge_gave (knows_own {n = n} {offset = offset} has positive learnt) e = e ∙ sym (spot_in-here l ws n offset has positive)
    merge_gave (knows_right {offset = offset} {right = right} has positive told) e = e ∙ sym (spot_in-here l ws right.node offset has positive)
    merge_gave (copies has content small soils learnt means) e = tt
    merge_gave (takes_up {n = n} {offset = offset} has) e = e ∙ sym (cached_word-here l ws base h n offset has)
    merge_gave (puts_down has small hand cleans) e = tt
    merge_gave (parts next) e = tt
    merge_gave (gathers small durable soiled told gathered) e = tt
    merge_gave (joins small durable soiled next told) e = tt
    merge_gave (glances_joined {offset = offset} {left = left} has learnt) e = e ∙ sym (cached_word-here l ws base h left.node offset has)
    merge_gave (drains_joined has small hand cleans) e = tt
    merge_gave (retires durable) e = tt
    merge_gave (yields next durable) e = tt

    pub gives : {s : Stage} {a : Action} {x : ℕ} {t : Stage} {r : Option (Once Placed)} → (k : Step l g s a x t r) → slice_index ws (clock_address l) ≡ length h
        → x ≡ got l ws a → Sure l g (facts_of l ws base h) caller index since s → Gives k (facts_of l ws base h)
    gives (looks look) clock e knows = gave look clock e knows
    gives (locks {n = n} same named live between) clock e knows = e ∙ sym (version_in-here l ws n (here knows))
    gives (locks_read {n = n} same named live between unworn taken small) clock e knows = e ∙ sym (version_in-here l ws n knows.here)
    gives (stores has content small clean soils learnt means) clock e knows = tt
    gives (commits has content small clean durable soiled old about learnt means) clock e knows = tt
    gives (drains has small unready hand cleans) clock e knows = tt
    gives (counts durable ready pending unplaced) clock e knows = e ∙ clock
    gives (unlocks next pending durable unready answers) clock e knows = tt
    gives (claims {m = m} unplaced there same) clock e knows = e ∙ sym (version_in-here l ws m there)
    gives (publishes next left fresh) clock e knows = tt
    gives (leaves next) clock e knows = tt
    gives (splits k) clock e knows = split_gave k e
    gives (merges k) clock e knows = merge_gave k e

    split_facts : {s : Stage} {a : Action} {x : ℕ} {t : Stage} → (k : Split l g s a x t) → IsRow l ws → IsList l (facts_of l ws base h) → x ≡ got l ws a
        → Sure l g (facts_of l ws base h) caller index since s → facts_of l (acted l ws a) base h ≡ split_after k (facts_of l ws base h)
    split_facts (fills {y = y} {offset = offset} {fresh = fresh} has positive small within soils told) row list e knows =
        facts-word l ws base h fresh.node offset y row.whole has positive
        (λ m listed. links_else (spot_in l ws) fresh.node offset y m (λ same. knows.at.unlisted (subst (IsListed (facts_of l ws base h)) same listed)))
    split_facts (lights {fresh = fresh} here leads) row list e knows = facts-status l ws base h fresh.node live_status row.whole here
    split_facts (switches {left = left} {fresh = fresh} here small durable soiled cut told means) row list e knows =
        let f = facts_of l ws base h in
        facts-next l ws base h left.node fresh.node row.whole (here, omega arith)
        (members_after l f list left.node fresh.node knows.at.listed knows.at.unlisted knows.new.here (map_now f)
        (cut (range_of l f left.node) (f.now left.node) (f.now fresh.node) (map_now f) knows.full.seen knows.new.seen knows.at.settled.means knows.at.settled.stays))
    split_facts (glances_left {offset = offset} {left = left} has learnt) row list e knows = ap (λ (v : List ℕ). facts_of l v base h) (set-get_or ws (word_address l left.node offset) 0)
    split_facts (glances_fresh {offset = offset} {fresh = fresh} has) row list e knows = ap (λ (v : List ℕ). facts_of l v base h) (set-get_or ws (word_address l fresh.node offset) 0)
    split_facts (drains_left {y = y} {offset = offset} {left = left} has small hand cleans) row list e knows =
        ap (λ (place : ℕ). facts_of l (slice_set ws place y) base h) (action_address-drain l (Node left.node offset) y)
        ∙ facts-elsewhere l ws base h (Durable (Node left.node offset)) y has (λ m o same. cc, λ m same. cc)
    split_facts (drains_fresh {y = y} {offset = offset} {fresh = fresh} has small hand cleans) row list e knows =
        ap (λ (place : ℕ). facts_of l (slice_set ws place y) base h) (action_address-drain l (Node fresh.node offset) y)
        ∙ facts-elsewhere l ws base h (Durable (Node fresh.node offset)) y has (λ m o same. cc, λ m same. cc)
    split_facts (trims {y = y} {left = left} here small durable soiled anchor told means) row list e knows =
        facts-word l ws base h left.node bitmap_offset y row.whole (here, omega arith) (omega arith)
        (λ m listed. links_content (spot_in l ws) left.node bitmap_offset y (inl refl) m)

    merge_facts : {s : Stage} {a : Action} {x : ℕ} {t : Stage} → (k : Merge l g s a x t) → IsRow l ws → IsList l (facts_of l ws base h) → x ≡ got l ws a
        → Sure l g (facts_of l ws base h) caller index since s → facts_of l (acted l ws a) base h ≡ merge_after k (facts_of l ws base h)
    merge_facts (meets {x = x} {m = m} {v = v} {u = u} there same untimed leads) row list e knows =
        let word : ℕ = slice_index ws (version_address l m) in
        let hit : cond (word == v) u word ≡ u = ap (λ (b : Bool). cond b u word) (eq-eqb word v (sym e ∙ same)) in
        ap (λ (y : ℕ). facts_of l (slice_set ws (version_address l m) y) base h) hit
        ∙ facts-version l ws base h m u row.whole there
    merge_facts (knows_own {n = n} {offset = offset} has positive learnt) row list e knows = ap (λ (v : List ℕ). facts_of l v base h) (set-get_or ws (word_address l n offset) 0)
    merge_facts (knows_right {offset = offset} {right = right} has positive told) row list e knows = ap (λ (v : List ℕ). facts_of l v base h) (set-get_or ws (word_address l right.node offset) 0)
    merge_facts (copies {n = n} {y = y} {offset = offset} has content small soils learnt means) row list e knows =
        facts-word l ws base h n offset y row.whole has (content_positive offset content) (λ m listed. links_content (spot_in l ws) n offset y content m)
    merge_facts (takes_up {n = n} {offset = offset} has) row list e knows = ap (λ (v : List ℕ). facts_of l v base h) (set-get_or ws (word_address l n offset) 0)
    merge_facts (puts_down {n = n} {y = y} {offset = offset} has small hand cleans) row list e knows =
        ap (λ (place : ℕ). facts_of l (slice_set ws place y) base h) (action_address-drain l (Node n offset) y)
        ∙ facts-elsewhere l ws base h (Durable (Node n offset)) y has (λ m o same. cc, λ m same. cc)
    merge_facts (parts {freed = freed} {right = right} next) row list e knows = facts-version l ws base h right.node freed row.whole knows.1.grip.here
    merge_facts (gathers {n = n} {y = y} small durable soiled told gathered) row list e knows =
        facts-word l ws base h n bitmap_offset y row.whole (knows.0.here, omega arith) (omega arith)
        (λ m listed. links_content (spot_in l ws) n bitmap_offset y (inl refl) m)
    merge_facts (joins {y = y} {left = left} {right = right} small durable soiled next told) row list e knows =
        let f = facts_of l ws base h in
        facts-past l ws base h left.node y right.node row.whole (knows.one.here, omega arith)
        (members_past l f list left.node y right.node knows.at.linked.listed knows.at.linked.leads knows.nonzero (next (f.now right.node) knows.other.seen))
    merge_facts (glances_joined {offset = offset} {left = left} has learnt) row list e knows = ap (λ (v : List ℕ). facts_of l v base h) (set-get_or ws (word_address l left.node offset) 0)
    merge_facts (drains_joined {y = y} {offset = offset} {left = left} has small hand cleans) row list e knows =
        ap (λ (place : ℕ). facts_of l (slice_set ws place y) base h) (action_address-drain l (Node left.node offset) y)
        ∙ facts-elsewhere l ws base h (Durable (Node left.node offset)) y has (λ m o same. cc, λ m same. cc)
    merge_facts (retires {right = right} durable) row list e knows = facts-status l ws base h right.node gone_status row.whole knows.other.here
    merge_facts (yields {freed = freed} {right = right} next durable) row list e knows = facts-version l ws base h right.node freed row.whole knows.other.here

    pub facts_step : {s : Stage} {a : Action} {x : ℕ} {t : Stage} {r : Option (Once Placed)} → (k : Step l g s a x t r) → IsRow l ws → IsList l (facts_of l ws base h)
        → x ≡ got l ws a → Sure l g (facts_of l ws base h) caller index since s
        → facts_of l (acted l ws a) base (h ++ written caller index (counted s)) ≡ fact_after k (facts_of l ws base h) caller index
    facts_step (looks look) row list e knows = unadded l base h _ _ (look_adds look caller index) ∙ ap (λ (v : List ℕ). facts_of l v base h) (look_keeps look ws e)
    facts_step (locks {n = n} {v = v} {w = w} {x = x} same named live between) row list e knows =
        let word : ℕ = slice_index ws (version_address l n) in
        let hit : cond (word == v) w word ≡ w = ap (λ (b : Bool). cond b w word) (eq-eqb word v (sym e ∙ same)) in
        unadded l base h (slice_set ws (version_address l n) (cond (word == v) w word)) [] refl
        ∙ ap (λ (y : ℕ). facts_of l (slice_set ws (version_address l n) y) base h) hit
        ∙ facts-version l ws base h n w row.whole (here knows)
    facts_step (locks_read {n = n} {v = v} {w = w} {x = x} same named live between unworn taken small) row list e knows =
        let word : ℕ = slice_index ws (version_address l n) in
        let hit : cond (word == v) w word ≡ w = ap (λ (b : Bool). cond b w word) (eq-eqb word v (sym e ∙ same)) in
        unadded l base h (slice_set ws (version_address l n) (cond (word == v) w word)) [] refl
        ∙ ap (λ (y : ℕ). facts_of l (slice_set ws (version_address l n) y) base h) hit
        ∙ facts-version l ws base h n w row.whole knows.here
    facts_step (stores {n = n} {w = w} {y = y} {offset = offset} {h = held} has content small clean soils learnt means) row list e knows =
        unadded l base h _ _ (unready_adds n w held caller index clean.ready) ∙ facts-word l ws base h n offset y row.whole has (content_positive offset content) (λ m listed. links_content (spot_in l ws) n offset y content m)
    facts_step (commits {n = n} {w = w} {y = y} {offset = offset} {h = held} has content small clean durable soiled old about learnt means) row list e knows =
        unadded l base h _ _ (unready_adds n w held caller index clean.ready) ∙ facts-word l ws base h n offset y row.whole has (content_positive offset content) (λ m listed. links_content (spot_in l ws) n offset y content m)
    facts_step (drains {n = n} {w = w} {y = y} {offset = offset} {h = held} has small unready hand cleans) row list e knows =
        unadded l base h _ _ (unready_adds n w held caller index unready)
        ∙ ap (λ (place : ℕ). facts_of l (slice_set ws place y) base h) (action_address-drain l (Node n offset) y)
        ∙ facts-elsewhere l ws base h (Durable (Node n offset)) y has (λ m o same. cc, λ m same. cc)
    facts_step (counts {n = n} {w = w} {h = held} {c = c} durable ready pending unplaced) row list e knows =
        ap (λ (u : List Write). facts_of l (acted l ws (Add (clock_address l))) base (h ++ u)) (ready_adds n w held c caller index ready pending)
        ∙ facts-elsewhere l ws base (h ++ (record { caller = caller; index = index; change = c }) ∷ []) Clock (slice_index ws (clock_address l) + 1) tt (λ m o same. cc, λ m same. cc)
    facts_step (unlocks {n = n} {w = w} {f = freed} {h = held} next pending durable unready answers) row list e knows =
        unadded l base h _ _ (unready_adds n w held caller index unready) ∙ facts-version l ws base h n freed row.whole knows.here
    facts_step (claims {x = x} {m = m} {v = v} {u = u} unplaced there same) row list e knows =
        let word : ℕ = slice_index ws (version_address l m) in
        let hit : cond (word == v) u word ≡ u = ap (λ (b : Bool). cond b u word) (eq-eqb word v (sym e ∙ same)) in
        unadded l base h (slice_set ws (version_address l m) (cond (word == v) u word)) [] refl
        ∙ ap (λ (y : ℕ). facts_of l (slice_set ws (version_address l m) y) base h) hit
        ∙ facts-version l ws base h m u row.whole there
    facts_step (publishes {freed = freed} {fresh = fresh} next left fresh') row list e knows =
        unadded l base h _ [] refl ∙ facts-version l ws base h fresh.node freed row.whole knows.new.here
    facts_step (leaves {freed = freed} {left = left} next) row list e knows =
        unadded l base h _ [] refl ∙ facts-version l ws base h left.node freed row.whole knows.grip.here
    facts_step (splits k) row list e knows = unadded l base h _ _ (split_adds k caller index) ∙ split_facts k row list e knows
    facts_step (merges k) row list e knows = unadded l base h _ _ (merge_adds k caller index) ∙ merge_facts k row list e knows

    split_clock : {s : Stage} {a : Action} {x : ℕ} {t : Stage} → (k : Split l g s a x t) → IsRow l ws → slice_index ws (clock_address l) ≡ length h → x ≡ got l ws a
        → slice_index (acted l ws a) (clock_address l) ≡ length h
    split_clock (fills {y = y} {offset = offset} {fresh = fresh} has positive small within soils told) row clock e = beside l ws (Cached (Node fresh.node offset)) y has (λ alike. cc) ∙ clock
    split_clock (lights {fresh = fresh} here leads) row clock e = beside l ws (Volatile fresh.node status_offset) live_status (here, omega arith) (λ alike. cc) ∙ clock
    split_clock (switches {left = left} {fresh = fresh} here small durable soiled cut told means) row clock e =
        beside l ws (Cached (Node left.node next_offset)) fresh.node (here, omega arith) (λ alike. cc) ∙ clock
    split_clock (glances_left {offset = offset} {left = left} has learnt) row clock e = ap (λ (v : List ℕ). slice_index v (clock_address l)) (set-get_or ws (word_address l left.node offset) 0) ∙ clock
    split_clock (glances_fresh {offset = offset} {fresh = fresh} has) row clock e = ap (λ (v : List ℕ). slice_index v (clock_address l)) (set-get_or ws (word_address l fresh.node offset) 0) ∙ clock
    split_clock (drains_left {y = y} {offset = offset} {left = left} has small hand cleans) row clock e =
        ap (λ (place : ℕ). slice_index (slice_set ws place y) (clock_address l)) (action_address-drain l (Node left.node offset) y)
        ∙ beside l ws (Durable (Node left.node offset)) y has (λ alike. cc) ∙ clock
    split_clock (drains_fresh {y = y} {offset = offset} {fresh = fresh} has small hand cleans) row clock e =
        ap (λ (place : ℕ). slice_index (slice_set ws place y) (clock_address l)) (action_address-drain l (Node fresh.node offset) y)
        ∙ beside l ws (Durable (Node fresh.node offset)) y has (λ alike. cc) ∙ clock
    split_clock (trims {y = y} {left = left} here small durable soiled anchor told means) row clock e =
        beside l ws (Cached (Node left.node bitmap_offset)) y (here, omega arith) (λ alike. cc) ∙ clock

    merge_clock : {s : Stage} {a : Action} {x : ℕ} {t : Stage} → (k : Merge l g s a x t) → IsRow l ws → slice_index ws (clock_address l) ≡ length h → x ≡ got l ws a
        → Sure l g (facts_of l ws base h) caller index since s → slice_index (acted l ws a) (clock_address l) ≡ length h
    merge_clock (meets {m = m} there same untimed leads) row clock e knows = beside l ws (Cached (Node m version_offset)) _ (there, omega arith) (λ alike. cc) ∙ clock
    merge_clock (knows_own {n = n} {offset = offset} has positive learnt) row clock e knows = ap (λ (v : List ℕ). slice_index v (clock_address l)) (set-get_or ws (word_address l n offset) 0) ∙ clock
    merge_clock (knows_right {offset = offset} {right = right} has positive told) row clock e knows =
        ap (λ (v : List ℕ). slice_index v (clock_address l)) (set-get_or ws (word_address l right.node offset) 0) ∙ clock
    merge_clock (copies {n = n} {y = y} {offset = offset} has content small soils learnt means) row clock e knows = beside l ws (Cached (Node n offset)) y has (λ alike. cc) ∙ clock
    merge_clock (takes_up {n = n} {offset = offset} has) row clock e knows = ap (λ (v : List ℕ). slice_index v (clock_address l)) (set-get_or ws (word_address l n offset) 0) ∙ clock
    merge_clock (puts_down {n = n} {y = y} {offset = offset} has small hand cleans) row clock e knows =
        ap (λ (place : ℕ). slice_index (slice_set ws place y) (clock_address l)) (action_address-drain l (Node n offset) y) ∙ beside l ws (Durable (Node n offset)) y has (λ alike. cc) ∙ clock
    merge_clock (parts {freed = freed} {right = right} next) row clock e knows = beside l ws (Cached (Node right.node version_offset)) freed (knows.1.grip.here, omega arith) (λ alike. cc) ∙ clock
    merge_clock (gathers {n = n} {y = y} small durable soiled told gathered) row clock e knows = beside l ws (Cached (Node n bitmap_offset)) y (knows.0.here, omega arith) (λ alike. cc) ∙ clock
    merge_clock (joins {y = y} {left = left} small durable soiled next told) row clock e knows =
        beside l ws (Cached (Node left.node next_offset)) y (knows.one.here, omega arith) (λ alike. cc) ∙ clock
    merge_clock (glances_joined {offset = offset} {left = left} has learnt) row clock e knows =
        ap (λ (v : List ℕ). slice_index v (clock_address l)) (set-get_or ws (word_address l left.node offset) 0) ∙ clock
    merge_clock (drains_joined {y = y} {offset = offset} {left = left} has small hand cleans) row clock e knows =
        ap (λ (place : ℕ). slice_index (slice_set ws place y) (clock_address l)) (action_address-drain l (Node left.node offset) y)
        ∙ beside l ws (Durable (Node left.node offset)) y has (λ alike. cc) ∙ clock
    merge_clock (retires {right = right} durable) row clock e knows = beside l ws (Volatile right.node status_offset) gone_status (knows.other.here, omega arith) (λ alike. cc) ∙ clock
    merge_clock (yields {freed = freed} {right = right} next durable) row clock e knows = beside l ws (Cached (Node right.node version_offset)) freed (knows.other.here, omega arith) (λ alike. cc) ∙ clock

    -- the clock counts the history
    pub clock_step : {s : Stage} {a : Action} {x : ℕ} {t : Stage} {r : Option (Once Placed)} → (k : Step l g s a x t r) → IsRow l ws
        → slice_index ws (clock_address l) ≡ length h → x ≡ got l ws a → Sure l g (facts_of l ws base h) caller index since s
        → slice_index (acted l ws a) (clock_address l) ≡ length (h ++ written caller index (counted s))
    clock_step (looks look) row clock e knows =
        ap (λ (v : List ℕ). slice_index v (clock_address l)) (look_keeps look ws e) ∙ clock ∙ lengths h _ (look_adds look caller index)
    clock_step (locks {n = n} same named live between) row clock e knows = beside l ws (Cached (Node n version_offset)) _ (here knows, omega arith) (λ alike. cc) ∙ clock ∙ lengths h [] refl
    clock_step (locks_read {n = n} same named live between unworn taken small) row clock e knows = beside l ws (Cached (Node n version_offset)) _ (knows.here, omega arith) (λ alike. cc) ∙ clock ∙ lengths h [] refl
    clock_step (stores {n = n} {w = w} {y = y} {offset = offset} {h = held} has content small clean soils learnt means) row clock e knows =
        beside l ws (Cached (Node n offset)) y has (λ alike. cc) ∙ clock ∙ lengths h _ (unready_adds n w held caller index clean.ready)
    clock_step (commits {n = n} {w = w} {y = y} {offset = offset} {h = held} has content small clean durable soiled old about learnt means) row clock e knows =
        beside l ws (Cached (Node n offset)) y has (λ alike. cc) ∙ clock ∙ lengths h _ (unready_adds n w held caller index clean.ready)
    clock_step (drains {n = n} {w = w} {y = y} {offset = offset} {h = held} has small unready hand cleans) row clock e knows =
        ap (λ (place : ℕ). slice_index (slice_set ws place y) (clock_address l)) (action_address-drain l (Node n offset) y)
        ∙ beside l ws (Durable (Node n offset)) y has (λ alike. cc) ∙ clock ∙ lengths h _ (unready_adds n w held caller index unready)
    clock_step (counts {n = n} {w = w} {h = held} {c = c} durable ready pending unplaced) row clock e knows =
        let write : Write = record { caller = caller; index = index; change = c } in
        at-set_same l ws Clock (slice_index ws (clock_address l) + 1) row.whole tt
        ∙ ap (λ (m : ℕ). m + 1) clock ∙ sym (length-append h (write ∷ []))
        ∙ ap (λ (u : List Write). length (h ++ u)) (sym (ready_adds n w held c caller index ready pending))
    clock_step (unlocks {n = n} {w = w} {f = freed} {h = held} next pending durable unready answers) row clock e knows =
        beside l ws (Cached (Node n version_offset)) freed (knows.here, omega arith) (λ alike. cc) ∙ clock ∙ lengths h _ (unready_adds n w held caller index unready)
    clock_step (claims {m = m} unplaced there same) row clock e knows = beside l ws (Cached (Node m version_offset)) _ (there, omega arith) (λ alike. cc) ∙ clock ∙ lengths h [] refl
    clock_step (publishes {freed = freed} {fresh = fresh} next left fresh') row clock e knows =
        beside l ws (Cached (Node fresh.node version_offset)) freed (knows.new.here, omega arith) (λ alike. cc) ∙ clock ∙ lengths h [] refl
    clock_step (leaves {freed = freed} {left = left} next) row clock e knows =
        beside l ws (Cached (Node left.node version_offset)) freed (knows.grip.here, omega arith) (λ alike. cc) ∙ clock ∙ lengths h [] refl
    clock_step (splits k) row clock e knows = split_clock k row clock e ∙ lengths h _ (split_adds k caller index)
    clock_step (merges k) row clock e knows = merge_clock k row clock e knows ∙ lengths h _ (merge_adds k caller index)

-- what holds of the facts that the kind of a step makes holds of those of the index behind it
pub of_step : (w : World) (i : ℕ) (p : Party) (a : Action) (x : ℕ) (t : Stage) {r : Option (Once Placed)} → Lawful w → get_elem? w.parties i ≡ some p → (k : Step w.layout w.generation p.stage a x t r)
    → x ≡ got w.layout w.words a → (P : Facts → Type 0) → (Sure w.layout w.generation (facts w) p.caller p.index p.since p.stage → P (fact_after k (facts w) p.caller p.index)) → P (facts (stepped w i p a t))
of_step w i p a x t lawful there k told P holds =
    let known = lawful.sure i p there in
    subst P (sym (facts_step w.words w.base w.history p.caller p.index p.since k lawful.row lawful.list told known)) (holds known)
