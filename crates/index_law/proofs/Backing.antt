-- What a step makes of the durable twins that back the calls: of its own call, of the others, and of the free nodes.
use Rattle.std.proofs.Common.{◌≡◌, ℕ, ◌+◌, ◌<◌, ◌≤◌, ◌⊎◌, ◌≢◌, inl, inr, ⊎_elim, Bool, false, List, [], ◌∷◌, refl, sym, ap, ◌∙◌, subst, arith}
use Rattle.std.specs.Prelude.{◌||◌, Option, Some, None}
use Rattle.std.specs.List.{AllByRecursion}
use Rattle.std.proofs.lemmas.Bool.{cases_eq, cases_lt}
use Rattle.pm_words.specs.declared.layout.Layout.{Layout}
use Rattle.pm_words.specs.declared.action.Action.{Action}
use Rattle.pm_words.specs.Offsets.{bitmap_offset, next_offset}
use Rattle.version_lock.specs.Versions.{IsFree}
use Rattle.cat_history.specs.Maps.{Map}
use Rattle.cat_history.specs.Writes.{changed}
use Rattle.cat_history.specs.declared.op.Change.{Change}
use Rattle.data_node.specs.Spots.{Spot, Means, updated}
use Rattle.data_node.proofs.SpotLemmas.{updated-same, updated-other}
use Rattle.call_stages.specs.declared.once.Once.{Once}
use Rattle.call_stages.specs.declared.once.Placed.{Placed}
use Rattle.call_stages.specs.Stages.{Knows, KnowsDurable, IsAmong, Held, Grip, Phase, Filling, Linked, Parted, Pace, Gathered, Joined, Gone, Stage, Idle, Saw, Wears, Reads, Holds, Eyes, Splits, Leaves, Meets, Joins, just_held, merged_held, pended}
use Rattle.call_stages.specs.Kinds.{IsContent, Cleans, finds_live, watches, watches_next, turns_away, steps_back, wanders, Split, fills, lights, switches, glances_left, glances_fresh, drains_left, drains_fresh, trims, splits, Merge, meets, knows_own, knows_right, copies, takes_up, puts_down, parts, gathers, joins, glances_joined, drains_joined, retires, yields, merges, peeks, peeks_status, eyes, eyes_free, passes, loses, claims, publishes, leaves}
use Rattle.call_stages.specs.Kinds.{Look, turns_back, is_worn, wears, roams, roams_status, sees, misses, misses_read, times, learns, decides, glances, Step, looks, locks, locks_read, stores, commits, drains, counts, unlocks}
use Rattle.index_law.specs.Facts.{Facts, map_now, range_of, durable_spot}
use Rattle.index_law.specs.Lawful.{IsList, Sure}
use Rattle.call_stages.specs.Stages.{HoldsNode}
use Rattle.index_law.specs.Twins.{IsMix, IsBacked, IsCleanBut, IsBackedLeft, IsBackedFresh, BacksSplit, IsBackedJoin, BacksStage, AreDurable}
use Rattle.index_law.proofs.Bystanders.{IsLater, IsSteady, pended_alike}
use Rattle.index_law.proofs.Locks.{cut_now, each_freed, steadies, steady_else, goes_on, own_of, holds_or}
use Rattle.index_law.proofs.Stays.{means_less}
use Rattle.index_law.proofs.Maps.{means_alike}
use Rattle.index_law.proofs.Moves.{fact_after, split_after, merge_after, each_given, MergeGave, Gives}
use Rattle.index_law.proofs.Own.{stored, clean_means}
use Rattle.index_law.proofs.Rows.{with_version, with_word, with_next, with_past, with_writes, set_here, set_else}
use Rattle.index_law.proofs.Versions.{unfree}
use Rattle.call_stages.specs.Kinds.{reads_on}
use Rattle.index_law.proofs.Loose.{loose_backs}
use Rattle.index_law.proofs.Moves.{read_after}

-- an offset that is not in the first stretch is in one of the others or in none
among_rest : (first count : ℕ) (stretches : List (ℕ × ℕ)) (offset : ℕ) → IsAmong stretches offset ⊎ (IsAmong stretches offset → ⊥)
    → (((first ≤ offset) × (offset < first + count)) → ⊥) → IsAmong ((first, count) ∷ stretches) offset ⊎ (IsAmong ((first, count) ∷ stretches) offset → ⊥)
among_rest first count stretches offset among_others not_first = ⊎_elim (λ among. inl (inr among)) (λ none. inr (λ is. ⊎_elim not_first none is)) among_others

-- an offset is in one of the stretches or in none
pub among_or : (stretches : List (ℕ × ℕ)) (offset : ℕ) → IsAmong stretches offset ⊎ (IsAmong stretches offset → ⊥)
among_or [] offset = inr (λ none. none)
among_or ((first, count) ∷ stretches) offset = ⊎_elim
    (λ (before : offset < first). among_rest first count stretches offset (among_or stretches offset) (λ is. absurd (let least = is.0 in omega arith)))
    (λ (least : first ≤ offset). ⊎_elim
    (λ (most : offset < first + count). inl (inl (least, most)))
    (λ (past : first + count ≤ offset). among_rest first count stretches offset (among_or stretches offset) (λ is. absurd (let most = is.1 in omega arith)))
    (cases_lt offset (first + count)))
    (cases_lt offset first)

-- words that are alike at each offset are the same
alike : (s t : Spot) → ((offset : ℕ) → s offset ≡ t offset) → s ≡ t
alike s t same = λ k offset. same offset k

-- a node whose words are all durable backs a call of which they mean what is pending
pub clean_backs : (l : Layout) (f : Facts) (durable : Spot) (n : ℕ) (h : Held) → ((offset : ℕ) → durable offset ≡ f.now n offset)
    → Means l.slots (range_of l f n) (f.now n) (pended h.pending (map_now f)) → IsBacked l f durable n h
clean_backs l f durable n h clean means = record {
  clean = λ offset spared. clean offset;
  fixed = λ offset low high. clean offset;
  mixes = λ mix is. inr (subst (λ (s : Spot). Means l.slots (range_of l f n) s (pended h.pending (map_now f)))
      (sym (alike mix (f.now n) (λ offset. ⊎_elim (λ durably. durably ∙ clean offset) (λ cached. cached) (is offset)))) means);
}

module _ (slots : ℕ) (range : List ℕ → Bool) (m : Map) (durable s : Spot) (h : Held) (offset y : ℕ) where
  -- what is known of the words and durable is known of each mix
  pub known_mix : ((other : ℕ) → (IsAmong h.dirty other → ⊥) → durable other ≡ s other) → (mix : Spot) → IsMix durable s mix → (seen : List (ℕ × ℕ))
      → AllByRecursion (λ (w : ℕ × ℕ). s w.0 ≡ w.1) seen → AllByRecursion (λ (w : ℕ × ℕ). IsAmong h.dirty w.0 ⊎ (mix w.0 ≡ w.1)) seen
  known_mix clean mix is [] all = tt
  known_mix clean mix is (w ∷ seen) all = (
    ⊎_elim
        (λ dirty. inl dirty)
        (λ spared. inr (⊎_elim (λ durably. durably ∙ clean w.0 spared ∙ all.0) (λ cached. cached ∙ all.0) (is w.0)))
        (among_or h.dirty w.0),
    known_mix clean mix is seen all.1,
  )

  -- beside the offset of a store a mix with the words after it is one with those before
  mix_beside : (mix : Spot) → IsMix durable (updated s offset y) mix → (other : ℕ) → (other ≡ offset → ⊥) → (mix other ≡ durable other) ⊎ (mix other ≡ s other)
  mix_beside mix is other apart = ⊎_elim (λ durably. inl durably) (λ cached. inr (cached ∙ updated-other s offset y other apart)) (is other)

  -- the mix without the store
  abbrev pub before_store : Spot → Spot
  before_store mix = updated mix offset (s offset)

  pub before_mix : (mix : Spot) → IsMix durable (updated s offset y) mix → IsMix durable s (before_store mix)
  before_mix mix is other = ⊎_elim
      (λ (same : other ≡ offset). inr (subst (λ (o : ℕ). before_store mix o ≡ s o) (sym same) (updated-same mix offset (s offset))))
      (λ (apart : other ≡ offset → ⊥). ⊎_elim
      (λ durably. inl (updated-other mix offset (s offset) other apart ∙ durably))
      (λ cached. inr (updated-other mix offset (s offset) other apart ∙ cached))
      (mix_beside mix is other apart))
      (cases_eq other offset)

  -- the mix with the store, if the word that it stored is durable
  pub after_mix : (mix : Spot) → mix offset ≡ updated s offset y offset → updated (before_store mix) offset y ≡ mix
  after_mix mix is = alike (updated (before_store mix) offset y) mix (λ other. ⊎_elim
      (λ (same : other ≡ offset). subst (λ (o : ℕ). updated (before_store mix) offset y o ≡ mix o) (sym same)
      (updated-same (before_store mix) offset y ∙ sym (is ∙ updated-same s offset y)))
      (λ (apart : other ≡ offset → ⊥). updated-other (before_store mix) offset y other apart ∙ updated-other mix offset (s offset) other apart)
      (cases_eq other offset))

  -- and if it isn't
  pub without_mix : (mix : Spot) → IsMix durable (updated s offset y) mix → mix offset ≡ durable offset → IsMix durable s mix
  without_mix mix is durably other = ⊎_elim
      (λ (same : other ≡ offset). inl (subst (λ (o : ℕ). mix o ≡ durable o) (sym same) durably))
      (λ (apart : other ≡ offset → ⊥). mix_beside mix is other apart)
      (cases_eq other offset)

  -- a store that changes nothing of what the node means, whichever of its words are durable
  store_mixes : ((other : ℕ) → (IsAmong h.dirty other → ⊥) → durable other ≡ s other) → ((mix : Spot) → IsMix durable s mix → Means slots range mix m) → Knows h.name h.known s
      → ((t : Spot) → KnowsDurable h t → Means slots range t m → Means slots range (updated t offset y) m)
      → (mix : Spot) → IsMix durable (updated s offset y) mix → Means slots range mix m
  store_mixes clean mixes knows keeps mix is = ⊎_elim
      (λ durably. mixes mix (without_mix mix is durably))
      (λ cached. subst (λ (t : Spot). Means slots range t m) (after_mix mix cached)
      (keeps (before_store mix) (known_mix clean (before_store mix) (before_mix mix is) h.known.seen knows.seen) (mixes (before_store mix) (before_mix mix is))))
      (is offset)

  -- a store before which all is durable: its word is durable, or it isn't
  commit_mix : ((other : ℕ) → durable other ≡ s other) → (mix : Spot) → IsMix durable (updated s offset y) mix → (mix ≡ s) ⊎ (mix ≡ updated s offset y)
  commit_mix clean mix is = ⊎_elim
      (λ durably. inl (alike mix s (λ other. ⊎_elim (λ d. d ∙ clean other) (λ c. c) (without_mix mix is durably other))))
      (λ cached. inr (alike mix (updated s offset y) (λ other. ⊎_elim
      (λ (same : other ≡ offset). subst (λ (o : ℕ). mix o ≡ updated s offset y o) (sym same) cached)
      (λ (apart : other ≡ offset → ⊥). ⊎_elim (λ d. d ∙ clean other) (λ c. c) (mix_beside mix is other apart) ∙ sym (updated-other s offset y other apart))
      (cases_eq other offset))))
      (is offset)

-- a word of content is none of those that say where the node stands
content_fixed : (offset other : ℕ) → IsContent offset → 2 ≤ other → other ≤ 5 → other ≡ offset → ⊥
content_fixed offset other content low high e = ⊎_elim (λ bits. absurd (omega arith)) (λ far. absurd (omega arith)) content

-- what no stretch has is all
none_dirty : (durable s : Spot) (dirty : List (ℕ × ℕ)) → dirty ≡ [] → ((offset : ℕ) → (IsAmong dirty offset → ⊥) → durable offset ≡ s offset) → (offset : ℕ) → durable offset ≡ s offset
none_dirty durable s dirty none clean offset = clean offset (λ among. subst (λ (stretches : List (ℕ × ℕ)). IsAmong stretches offset) none among)

-- what a node that is steady backs
steady_backs : (l : Layout) (g : ℕ) (f f' : Facts) → IsLater f f' → (durable : Spot) (n : ℕ) (h : Held) → IsSteady l f f' n → IsBacked l f durable n h → IsBacked l f' durable n h
steady_backs l g f f' later durable n h steady backed = record {
  clean = λ offset spared. backed.clean offset spared ∙ sym (ap (λ (s : Spot). s offset) steady.now);
  fixed = λ offset low high. backed.fixed offset low high ∙ sym (ap (λ (s : Spot). s offset) steady.now);
  mixes = λ mix is. ⊎_elim
      (λ was. inl (subst (λ (r : List ℕ → Bool). Means l.slots r mix (map_now f')) (sym steady.range)
      (means_alike l.slots (range_of l f n) mix (map_now f) (map_now f') steady.map was)))
      (λ shows. inr (subst (λ (r : List ℕ → Bool). Means l.slots r mix (pended h.pending (map_now f'))) (sym steady.range)
      (means_alike l.slots (range_of l f n) mix (pended h.pending (map_now f)) (pended h.pending (map_now f')) (pended_alike l g f f' later n steady h.pending) shows)))
      (backed.mixes mix (λ offset. ⊎_elim (λ durably. inl durably) (λ cached. inr (cached ∙ ap (λ (s : Spot). s offset) steady.now)) (is offset)));
}

-- what two nodes that are steady back
steady_left : (l : Layout) (g : ℕ) (f f' : Facts) → IsLater f f' → (durable : Spot) (left fresh : Grip) (phase : Phase) → IsSteady l f f' left.node → IsSteady l f f' fresh.node
    → IsBackedLeft l f durable left fresh phase → IsBackedLeft l f' durable left fresh phase
steady_left l g f f' later durable left fresh (Filling lit) one other backed = λ offset. backed offset ∙ sym (ap (λ (s : Spot). s offset) one.now)
steady_left l g f f' later durable left fresh Linked one other backed = (
  λ offset apart. backed.0 offset apart ∙ sym (ap (λ (s : Spot). s offset) one.now),
  ⊎_elim (λ is. inl (is ∙ sym (ap (λ (s : Spot). s next_offset) one.now))) (λ was. inr (was ∙ sym (ap (λ (s : Spot). s next_offset) other.now))) backed.1,
)
steady_left l g f f' later durable left fresh Parted one other backed = (
  λ offset apart. backed.0 offset apart ∙ sym (ap (λ (s : Spot). s offset) one.now),
  λ mix is. subst (λ (r : List ℕ → Bool). Means l.slots r mix (map_now f')) (sym one.range)
      (means_alike l.slots (range_of l f left.node) mix (map_now f) (map_now f') one.map
      (backed.1 mix (λ offset. ⊎_elim (λ durably. inl durably) (λ cached. inr (cached ∙ ap (λ (s : Spot). s offset) one.now)) (is offset)))),
)

steady_fresh : (l : Layout) (f f' : Facts) (durable : Spot) (fresh : Grip) (phase : Phase) → IsSteady l f f' fresh.node → IsBackedFresh f durable fresh phase → IsBackedFresh f' durable fresh phase
steady_fresh l f f' durable fresh (Filling lit) other backed = tt
steady_fresh l f f' durable fresh Linked other backed = λ offset. backed offset ∙ sym (ap (λ (s : Spot). s offset) other.now)
steady_fresh l f f' durable fresh Parted other backed = λ offset. backed offset ∙ sym (ap (λ (s : Spot). s offset) other.now)

steady_split : (l : Layout) (g : ℕ) (f f' : Facts) → IsLater f f' → (words : List ℕ) (left fresh : Grip) (phase : Phase) → IsSteady l f f' left.node → IsSteady l f f' fresh.node
    → BacksSplit l f words left fresh phase → BacksSplit l f' words left fresh phase
steady_split l g f f' later words left fresh phase one other backed = record {
  left_clean = λ offset spared. backed.left_clean offset spared ∙ sym (ap (λ (s : Spot). s offset) one.now);
  fresh_clean = λ offset spared. backed.fresh_clean offset spared ∙ sym (ap (λ (s : Spot). s offset) other.now);
  left_backed = steady_left l g f f' later (durable_spot l words left.node) left fresh phase one other backed.left_backed;
  fresh_backed = steady_fresh l f f' (durable_spot l words fresh.node) fresh phase other backed.fresh_backed;
}

steady_join : (l : Layout) (g : ℕ) (f f' : Facts) → (durable : Spot) (left right : Grip) (pace : Pace) → IsSteady l f f' left.node
    → IsBackedJoin l f durable left right pace → IsBackedJoin l f' durable left right pace
steady_join l g f f' durable left right Gathered one backed = (
  λ offset apart. backed.0 offset apart ∙ sym (ap (λ (s : Spot). s offset) one.now),
  λ mix is. subst (λ (r : List ℕ → Bool). Means l.slots r mix (map_now f')) (sym one.range)
      (means_alike l.slots (range_of l f left.node) mix (map_now f) (map_now f') one.map
      (backed.1 mix (λ offset. ⊎_elim (λ durably. inl durably) (λ cached. inr (cached ∙ ap (λ (s : Spot). s offset) one.now)) (is offset)))),
)
steady_join l g f f' durable left right Joined one backed = (
  λ offset apart. backed.0 offset apart ∙ sym (ap (λ (s : Spot). s offset) one.now),
  ⊎_elim (λ is. inl (is ∙ sym (ap (λ (s : Spot). s next_offset) one.now))) (λ was. inr was) backed.1,
)
steady_join l g f f' durable left right Gone one backed = λ offset. backed offset ∙ sym (ap (λ (s : Spot). s offset) one.now)

-- what a party whose nodes are steady backs
pub backs_steady : (l : Layout) (g : ℕ) (f f' : Facts) → IsLater f f' → (words : List ℕ) (u : Stage) → ((n : ℕ) → HoldsNode u n → IsSteady l f f' n) → BacksStage l f words u → BacksStage l f' words u
backs_steady l g f f' later words Idle steady backed = tt
backs_steady l g f f' later words (Saw n v w z) steady backed = tt
backs_steady l g f f' later words (Wears n v) steady backed = tt
backs_steady l g f f' later words (Reads n v sight told) steady backed = tt
backs_steady l g f f' later words (Holds n w h) steady backed = steady_backs l g f f' later (durable_spot l words n) n h (steady n refl) backed
backs_steady l g f f' later words (Eyes n w h m v u free) steady backed = steady_backs l g f f' later (durable_spot l words n) n h (steady n refl) backed
backs_steady l g f f' later words (Leaves left) steady backed = λ offset. backed offset ∙ sym (ap (λ (s : Spot). s offset) (steady left.node refl).now)
backs_steady l g f f' later words (Meets n w h right) steady backed = (
  steady_backs l g f f' later (durable_spot l words n) n h (steady n (inl refl)) backed.0,
  λ offset. backed.1 offset ∙ sym (ap (λ (s : Spot). s offset) (steady right.node (inr refl)).now),
)
backs_steady l g f f' later words (Joins h left right pace) steady backed =
    let one = steady left.node (inl refl) in
    let other = steady right.node (inr refl) in
    record {
      left_clean = λ offset spared. backed.left_clean offset spared ∙ sym (ap (λ (s : Spot). s offset) one.now);
      right_backed = λ offset. backed.right_backed offset ∙ sym (ap (λ (s : Spot). s offset) other.now);
      left_backed = steady_join l g f f' (durable_spot l words left.node) left right pace one backed.left_backed;
    }
backs_steady l g f f' later words (Splits left fresh phase) steady backed =
    steady_split l g f f' later words left fresh phase (steady left.node (inl refl)) (steady fresh.node (inr refl)) backed

join_again : (l : Layout) (f : Facts) (durable : Spot) (left right : Grip) (seen dirty : List (ℕ × ℕ)) (hand : Option (ℕ × ℕ)) (pace : Pace)
    → IsBackedJoin l f durable left right pace → IsBackedJoin l f durable (record left { seen = seen; dirty = dirty; hand = hand }) right pace
join_again l f durable left right seen dirty hand Gathered backed = backed
join_again l f durable left right seen dirty hand Joined backed = backed
join_again l f durable left right seen dirty hand Gone backed = backed

-- the grips with other words known and in hand
left_again : (l : Layout) (f : Facts) (durable : Spot) (left fresh : Grip) (seen dirty seen' dirty' : List (ℕ × ℕ)) (hand hand' : Option (ℕ × ℕ)) (phase : Phase)
    → IsBackedLeft l f durable left fresh phase
    → IsBackedLeft l f durable (record left { seen = seen; dirty = dirty; hand = hand }) (record fresh { seen = seen'; dirty = dirty'; hand = hand' }) phase
left_again l f durable left fresh seen dirty seen' dirty' hand hand' (Filling lit) backed = backed
left_again l f durable left fresh seen dirty seen' dirty' hand hand' Linked backed = backed
left_again l f durable left fresh seen dirty seen' dirty' hand hand' Parted backed = backed

fresh_again : (f : Facts) (durable : Spot) (fresh : Grip) (seen dirty : List (ℕ × ℕ)) (hand : Option (ℕ × ℕ)) (phase : Phase)
    → IsBackedFresh f durable fresh phase → IsBackedFresh f durable (record fresh { seen = seen; dirty = dirty; hand = hand }) phase
fresh_again f durable fresh seen dirty hand (Filling lit) backed = backed
fresh_again f durable fresh seen dirty hand Linked backed = backed
fresh_again f durable fresh seen dirty hand Parted backed = backed

-- a word that is drained is clean
cleaned : (dirty after : List (ℕ × ℕ)) (offset : ℕ) (durable s : Spot) → Cleans dirty offset after → durable offset ≡ s offset → IsCleanBut dirty durable s → IsCleanBut after durable s
cleaned dirty after offset durable s cleans drained clean other spared = ⊎_elim
    (λ (same : other ≡ offset). subst (λ (o : ℕ). durable o ≡ s o) (sym same) drained)
    (λ (apart : other ≡ offset → ⊥). clean other (λ among. ⊎_elim apart spared (cleans other among)))
    (cases_eq other offset)

-- the fact that a drain makes a word durable
abbrev pub SplitDrained : {l : Layout} {g : ℕ} {s : Stage} {a : Action} {x : ℕ} {t : Stage} → Split l g s a x t → Facts → List ℕ → Type 0
SplitDrained {l = l} (drains_left {offset = offset} {left = left} has small hand cleans) f words = durable_spot l words left.node offset ≡ f.now left.node offset
SplitDrained {l = l} (drains_fresh {offset = offset} {fresh = fresh} has small hand cleans) f words = durable_spot l words fresh.node offset ≡ f.now fresh.node offset
SplitDrained _ f words = Unit {0}

abbrev pub MergeDrained : {l : Layout} {g : ℕ} {s : Stage} {a : Action} {x : ℕ} {t : Stage} → Merge l g s a x t → Facts → List ℕ → Type 0
MergeDrained {l = l} (puts_down {n = n} {offset = offset} has small hand cleans) f words = durable_spot l words n offset ≡ f.now n offset
MergeDrained {l = l} (drains_joined {offset = offset} {left = left} has small hand cleans) f words = durable_spot l words left.node offset ≡ f.now left.node offset
MergeDrained _ f words = Unit {0}

abbrev pub Drained : {l : Layout} {g : ℕ} {s : Stage} {a : Action} {x : ℕ} {t : Stage} {r : Option (Once Placed)} → Step l g s a x t r → Facts → List ℕ → Type 0
Drained {l = l} (drains {n = n} {offset = offset} has small unready hand cleans) f words = durable_spot l words n offset ≡ f.now n offset
Drained (splits k) f words = SplitDrained k f words
Drained (merges k) f words = MergeDrained k f words
Drained _ f words = Unit {0}

module _ {l : Layout} {g : ℕ} (f : Facts) (words : List ℕ) (caller index since : ℕ) where
  -- a look that leaves what the node shows and which words are dirty
  look_backs : {s : Stage} {a : Action} {x : ℕ} {t : Stage} {r : Option (Once Placed)} → (k : Look l g s a x t r) → Sure l g f caller index since t → BacksStage l f words s → BacksStage l f words t
  look_backs (turns_back {s = s} loose here busy) after backed = tt
  look_backs (wears {s = s} loose here free worn) after backed = tt
  look_backs (roams has) after backed = tt
  look_backs (roams_status here) after backed = tt
  look_backs (is_worn has) after backed = tt
  look_backs (sees {s = s} loose here free unworn lock) after backed = tt
  look_backs (finds_live here is) after backed = tt
  look_backs (watches has positive live next learnt) after backed = tt
  look_backs (watches_next has low high ne live live' next leads learnt) after backed = tt
  look_backs (turns_away {s = s} loose here up) after backed = tt
  look_backs (steps_back {s = s} loose here up) after backed = tt
  look_backs (wanders {s = s} loose here up) after backed = tt
  look_backs (peeks here unready) after backed = backed
  look_backs (peeks_status here unready) after backed = backed
  look_backs (eyes clean durable here nonzero free unworn lock) after backed = backed
  look_backs (eyes_free here is) after backed = backed
  look_backs (passes here) after backed = backed
  look_backs (loses here other) after backed = backed
  look_backs (misses other) after backed = tt
  look_backs (misses_read other small) after backed = tt
  look_backs (times clean below) after backed = record { clean = backed.clean; fixed = backed.fixed; mixes = backed.mixes }
  look_backs (learns has positive unready learnt) after backed = record { clean = backed.clean; fixed = backed.fixed; mixes = backed.mixes }
  look_backs (decides {n = n} {h = h} {k = k} {old = old} {pending = pending} {ready = ready} has positive clean durable about learnt decided) after backed =
      clean_backs l f (durable_spot l words n) n (record h { known = k; old = Some old; pending = pending; ready = ready })
      (none_dirty (durable_spot l words n) (f.now n) h.dirty durable backed.clean) after.means
  look_backs (reads_on {t = t} k) after backed = loose_backs l f words t (read_after k)
  look_backs (glances has unready) after backed = record { clean = backed.clean; fixed = backed.fixed; mixes = backed.mixes }

  -- a step of a split
  split_backs : {s : Stage} {a : Action} {x : ℕ} {t : Stage} → (k : Split l g s a x t) → Sure l g f caller index since s → Sure l g (split_after k f) caller index since t
      → SplitDrained k f words → BacksStage l f words s → BacksStage l (split_after k f) words t
  split_backs (fills {y = y} {offset = offset} {left = left} {fresh = fresh} {seen = seen} {dirty = dirty} has positive small within soils told) mine after drained backed =
      let one : (with_word f fresh.node offset y).now left.node ≡ f.now left.node = set_else f.now fresh.node offset y left.node mine.apart in
      let own : (with_word f fresh.node offset y).now fresh.node ≡ updated (f.now fresh.node) offset y = set_here f.now fresh.node offset y fresh.node refl in
      record {
        left_clean = λ other spared. backed.left_clean other spared ∙ sym (ap (λ (s : Spot). s other) one);
        fresh_clean = λ other spared. backed.fresh_clean other (λ among. spared (soils.others other among))
            ∙ sym (updated-other (f.now fresh.node) offset y other (λ same. spared (subst (IsAmong dirty) (sym same) soils.stored))) ∙ sym (ap (λ (s : Spot). s other) own);
        left_backed = λ other. backed.left_backed other ∙ sym (ap (λ (s : Spot). s other) one);
        fresh_backed = tt;
      }
  split_backs (lights here leads) mine after drained backed =
      record { left_clean = backed.left_clean; fresh_clean = backed.fresh_clean; left_backed = backed.left_backed; fresh_backed = tt }
  split_backs (switches {left = left} {fresh = fresh} {seen = seen} {dirty = dirty} here small all_durable soiled cut told means) mine after drained backed =
      let own : (with_next f left.node fresh.node).now left.node ≡ updated (f.now left.node) next_offset fresh.node = set_here f.now left.node next_offset fresh.node left.node refl in
      let new : (with_next f left.node fresh.node).now fresh.node ≡ f.now fresh.node = set_else f.now left.node next_offset fresh.node fresh.node (λ same. mine.apart (sym same)) in
      let beside : (other : ℕ) → other ≢ next_offset → durable_spot l words left.node other ≡ (with_next f left.node fresh.node).now left.node other =
      λ other apart. backed.left_backed other ∙ sym (updated-other (f.now left.node) next_offset fresh.node other apart) ∙ sym (ap (λ (s : Spot). s other) own) in
      record {
        left_clean = λ other spared. beside other (λ same. spared (subst (IsAmong dirty) (sym same) soiled));
        fresh_clean = λ other spared. backed.fresh_clean other spared ∙ sym (ap (λ (s : Spot). s other) new);
        left_backed = (beside, inr (backed.left_backed next_offset ∙ sym (cut_now l g f left fresh mine cut).leads ∙ sym (ap (λ (s : Spot). s next_offset) new)));
        fresh_backed = λ other. none_dirty (durable_spot l words fresh.node) (f.now fresh.node) fresh.dirty all_durable backed.fresh_clean other ∙ sym (ap (λ (s : Spot). s other) new);
      }
  split_backs (glances_left {x = x} {offset = offset} {left = left} {fresh = fresh} {phase = phase} {seen = seen} has learnt) mine after drained backed = record {
    left_clean = backed.left_clean;
    fresh_clean = backed.fresh_clean;
    left_backed = left_again l f (durable_spot l words left.node) left fresh seen left.dirty fresh.seen fresh.dirty (Some (offset, x)) fresh.hand phase backed.left_backed;
    fresh_backed = backed.fresh_backed;
  }
  split_backs (glances_fresh {x = x} {offset = offset} {left = left} {fresh = fresh} {phase = phase} has) mine after drained backed = record {
    left_clean = backed.left_clean;
    fresh_clean = backed.fresh_clean;
    left_backed = left_again l f (durable_spot l words left.node) left fresh left.seen left.dirty fresh.seen fresh.dirty left.hand (Some (offset, x)) phase backed.left_backed;
    fresh_backed = fresh_again f (durable_spot l words fresh.node) fresh fresh.seen fresh.dirty (Some (offset, x)) phase backed.fresh_backed;
  }
  split_backs (drains_left {offset = offset} {left = left} {fresh = fresh} {phase = phase} {dirty = dirty} has small hand cleans) mine after drained backed = record {
    left_clean = cleaned left.dirty dirty offset (durable_spot l words left.node) (f.now left.node) cleans drained backed.left_clean;
    fresh_clean = backed.fresh_clean;
    left_backed = left_again l f (durable_spot l words left.node) left fresh left.seen dirty fresh.seen fresh.dirty None fresh.hand phase backed.left_backed;
    fresh_backed = backed.fresh_backed;
  }
  split_backs (drains_fresh {offset = offset} {left = left} {fresh = fresh} {phase = phase} {dirty = dirty} has small hand cleans) mine after drained backed = record {
    left_clean = backed.left_clean;
    fresh_clean = cleaned fresh.dirty dirty offset (durable_spot l words fresh.node) (f.now fresh.node) cleans drained backed.fresh_clean;
    left_backed = left_again l f (durable_spot l words left.node) left fresh left.seen left.dirty fresh.seen dirty left.hand None phase backed.left_backed;
    fresh_backed = fresh_again f (durable_spot l words fresh.node) fresh fresh.seen dirty None phase backed.fresh_backed;
  }
  split_backs (trims {y = y} {left = left} {fresh = fresh} {seen = seen} {dirty = dirty} here small all_durable soiled anchor told means) mine after drained backed =
      let n = left.node in
      let own : (with_word f n bitmap_offset y).now n ≡ updated (f.now n) bitmap_offset y = set_here f.now n bitmap_offset y n refl in
      let new : (with_word f n bitmap_offset y).now fresh.node ≡ f.now fresh.node = set_else f.now n bitmap_offset y fresh.node (λ same. mine.apart (sym same)) in
      let same = none_dirty (durable_spot l words n) (f.now n) left.dirty all_durable backed.left_clean in
      let beside : (other : ℕ) → other ≢ bitmap_offset → durable_spot l words n other ≡ (with_word f n bitmap_offset y).now n other =
      λ other apart. same other ∙ sym (updated-other (f.now n) bitmap_offset y other apart) ∙ sym (ap (λ (s : Spot). s other) own) in
      record {
        left_clean = λ other spared. beside other (λ e. spared (subst (IsAmong dirty) (sym e) soiled));
        fresh_clean = λ other spared. backed.fresh_clean other spared ∙ sym (ap (λ (s : Spot). s other) new);
        left_backed = (
          beside,
          λ mix is. ⊎_elim
              (λ before. subst (λ (s : Spot). Means l.slots (range_of l f n) s (map_now f)) (sym before)
              (means_less l.slots (λ name. range_of l f n name || range_of l f fresh.node name) (range_of l f n) (f.now n) (map_now f) (λ name inside. ap (λ b. b || range_of l f fresh.node name) inside) mine.at.means))
              (λ stored_there. subst (λ (s : Spot). Means l.slots (range_of l f n) s (map_now f)) (own ∙ sym stored_there) after.at.settled_left.means)
              (commit_mix l.slots (range_of l f n) (map_now f) (durable_spot l words n) (f.now n) (just_held []) bitmap_offset y same mix
              (λ other. ⊎_elim (λ durably. inl durably) (λ cached. inr (cached ∙ ap (λ (s : Spot). s other) own)) (is other))),
        );
        fresh_backed = λ other. backed.fresh_backed other ∙ sym (ap (λ (s : Spot). s other) new);
      }

  -- a step of a merge
  merge_backs : {s : Stage} {a : Action} {x : ℕ} {t : Stage} → (k : Merge l g s a x t) → MergeGave k f → Sure l g f caller index since s → Sure l g (merge_after k f) caller index since t
      → MergeDrained k f words → AreDurable l g f words → BacksStage l f words s → BacksStage l (merge_after k f) words t
  merge_backs (meets {n = n} {m = m} {v = v} {u = u} {h = h} here same untimed leads) e mine after drained durable backed = (
    record { clean = backed.clean; fixed = backed.fixed; mixes = backed.mixes },
    durable m here (subst (λ (z : ℕ). IsFree z g) (sym (sym e ∙ same)) mine.1.word.free),
  )
  merge_backs (knows_own has positive learnt) e mine after drained durable backed = (record { clean = backed.0.clean; fixed = backed.0.fixed; mixes = backed.0.mixes }, backed.1)
  merge_backs (knows_right has positive told) e mine after drained durable backed = (backed.0, backed.1)
  merge_backs (copies {n = n} {w = w} {y = y} {offset = offset} {h = h} {right = right} {dirty = dirty} has content small soils learnt means) e mine after drained durable backed =
      let pended_none : (mix : Spot) → IsMix (durable_spot l words n) (f.now n) mix → Means l.slots (range_of l f n) mix (map_now f) =
      λ mix is. ⊎_elim (λ was. was) (λ shows. subst (λ (p : Option Change). Means l.slots (range_of l f n) mix (pended p (map_now f))) mine.1.still.pending shows) (backed.0.mixes mix is) in (
        record {
          clean = λ other spared. backed.0.clean other (λ among. spared (soils.others other among))
              ∙ sym (updated-other (f.now n) offset y other (λ same. spared (subst (IsAmong dirty) (sym same) soils.stored))) ∙ sym (ap (λ (s : Spot). s other) (stored f n offset y));
          fixed = λ other low high. backed.0.fixed other low high
              ∙ sym (updated-other (f.now n) offset y other (content_fixed offset other content low high)) ∙ sym (ap (λ (s : Spot). s other) (stored f n offset y));
          mixes = λ mix is. inl (store_mixes l.slots (range_of l f n) (map_now f) (durable_spot l words n) (f.now n) h offset y backed.0.clean pended_none mine.0.knows
              (λ t knows was. means (range_of l f n) t (map_now f) knows was) mix
              (λ other. ⊎_elim (λ durably. inl durably) (λ cached. inr (cached ∙ ap (λ (s : Spot). s other) (stored f n offset y))) (is other)));
        },
        λ other. backed.1 other ∙ sym (ap (λ (s : Spot). s other) (set_else f.now n offset y right.node (λ d. mine.1.apart (sym d)))),
      )
  merge_backs (takes_up has) e mine after drained durable backed = (record { clean = backed.0.clean; fixed = backed.0.fixed; mixes = backed.0.mixes }, backed.1)
  merge_backs (puts_down {n = n} {offset = offset} {h = h} {dirty = dirty} has small hand cleans) e mine after drained durable backed = (
    record { clean = cleaned h.dirty dirty offset (durable_spot l words n) (f.now n) cleans drained backed.0.clean; fixed = backed.0.fixed; mixes = backed.0.mixes },
    backed.1,
  )
  merge_backs (parts {n = n} {h = h} next) e mine after drained durable backed = record { clean = backed.0.clean; fixed = backed.0.fixed; mixes = backed.0.mixes }
  merge_backs (gathers {n = n} {w = w} {y = y} {h = h} {right = right} {seen = seen} {dirty = dirty} small all_durable soiled told gathered) e mine after drained durable backed =
      let φ = with_word f n bitmap_offset y in
      let own : φ.now n ≡ updated (f.now n) bitmap_offset y = set_here f.now n bitmap_offset y n refl in
      let new : φ.now right.node ≡ f.now right.node = set_else f.now n bitmap_offset y right.node (λ d. mine.1.apart (sym d)) in
      let same = none_dirty (durable_spot l words n) (f.now n) h.dirty all_durable backed.0.clean in
      let beside : (other : ℕ) → other ≢ bitmap_offset → durable_spot l words n other ≡ φ.now n other =
      λ other apart. same other ∙ sym (updated-other (f.now n) bitmap_offset y other apart) ∙ sym (ap (λ (s : Spot). s other) own) in
      record {
        left_clean = λ other spared. beside other (λ d. spared (subst (IsAmong dirty) (sym d) soiled));
        right_backed = λ other. backed.1 other ∙ sym (ap (λ (s : Spot). s other) new);
        left_backed = (
          beside,
          λ mix is. ⊎_elim
              (λ before. subst (λ (s : Spot). Means l.slots (range_of l f n) s (map_now f)) (sym before) (clean_means f caller index since n w h mine.0 mine.1.still.pending))
              (λ stored_there. subst (λ (s : Spot). Means l.slots (range_of l f n) s (map_now f)) (own ∙ sym stored_there)
              (means_less l.slots (λ name. range_of l f n name || range_of l f right.node name) (range_of l f n) (φ.now n) (map_now f)
              (λ name inside. ap (λ b. b || range_of l f right.node name) inside) after.at.linked.means))
              (commit_mix l.slots (range_of l f n) (map_now f) (durable_spot l words n) (f.now n) (just_held []) bitmap_offset y same mix
              (λ other. ⊎_elim (λ durably. inl durably) (λ cached. inr (cached ∙ ap (λ (s : Spot). s other) own)) (is other))),
        );
      }
  merge_backs (joins {y = y} {left = left} {right = right} {seen = seen} {dirty = dirty} small all_durable soiled next told) e mine after drained durable backed =
      let n = left.node in
      let φ = with_past f n y right.node in
      let own : φ.now n ≡ updated (f.now n) next_offset y = set_here f.now n next_offset y n refl in
      let new : φ.now right.node ≡ f.now right.node = set_else f.now n next_offset y right.node (λ d. mine.apart (sym d)) in
      let same = none_dirty (durable_spot l words n) (f.now n) left.dirty all_durable backed.left_clean in
      let beside : (other : ℕ) → other ≢ next_offset → durable_spot l words n other ≡ φ.now n other =
      λ other apart. same other ∙ sym (updated-other (f.now n) next_offset y other apart) ∙ sym (ap (λ (s : Spot). s other) own) in
      record {
        left_clean = λ other spared. beside other (λ d. spared (subst (IsAmong dirty) (sym d) soiled));
        right_backed = λ other. backed.right_backed other ∙ sym (ap (λ (s : Spot). s other) new);
        left_backed = (beside, inr (same next_offset ∙ mine.at.linked.leads));
      }
  merge_backs (glances_joined {x = x} {offset = offset} {left = left} {right = right} {pace = pace} {seen = seen} has learnt) e mine after drained durable backed = record {
    left_clean = backed.left_clean;
    right_backed = backed.right_backed;
    left_backed = join_again l f (durable_spot l words left.node) left right seen left.dirty (Some (offset, x)) pace backed.left_backed;
  }
  merge_backs (drains_joined {offset = offset} {left = left} {right = right} {pace = pace} {dirty = dirty} has small hand cleans) e mine after drained durable backed = record {
    left_clean = cleaned left.dirty dirty offset (durable_spot l words left.node) (f.now left.node) cleans drained backed.left_clean;
    right_backed = backed.right_backed;
    left_backed = join_again l f (durable_spot l words left.node) left right left.seen dirty None pace backed.left_backed;
  }
  merge_backs (retires {left = left} all_durable) e mine after drained durable backed = record {
    left_clean = backed.left_clean;
    right_backed = backed.right_backed;
    left_backed = none_dirty (durable_spot l words left.node) (f.now left.node) left.dirty all_durable backed.left_clean;
  }
  merge_backs (yields {freed = freed} {h = h} {left = left} {right = right} next all_durable) e mine after drained durable backed =
      clean_backs l (with_version f right.node freed) (durable_spot l words left.node) left.node (merged_held h)
      (none_dirty (durable_spot l words left.node) (f.now left.node) left.dirty all_durable backed.left_clean) after.means

  -- a call's own step
  pub backs_mine : {s : Stage} {a : Action} {x : ℕ} {t : Stage} {r : Option (Once Placed)} → (k : Step l g s a x t r) → Gives k f → Sure l g f caller index since s
      → Sure l g (fact_after k f caller index) caller index since t → Drained k f words → AreDurable l g f words → BacksStage l f words s → BacksStage l (fact_after k f caller index) words t
  backs_mine (looks look) e mine after drained durable backed = look_backs look after backed
  backs_mine (locks {n = n} {v = v} {w = w} {name = name} same named live between) e mine after drained durable backed =
      clean_backs l (with_version f n w) (durable_spot l words n) n (just_held name) (durable n mine.word.here (subst (λ (u : ℕ). IsFree u g) (sym (sym e ∙ same)) mine.word.free)) after.means
  backs_mine (locks_read {n = n} {v = v} {w = w} {name = name} same named live between unworn taken small) e mine after drained durable backed =
      clean_backs l (with_version f n w) (durable_spot l words n) n (just_held name) (durable n mine.here (subst (λ (u : ℕ). IsFree u g) (sym (sym e ∙ same)) mine.free)) after.means
  backs_mine (stores {n = n} {w = w} {y = y} {offset = offset} {h = h} {dirty = dirty} has content small clean soils learnt means) e mine after drained durable backed =
      let pended_none : (mix : Spot) → IsMix (durable_spot l words n) (f.now n) mix → Means l.slots (range_of l f n) mix (map_now f) =
      λ mix is. ⊎_elim (λ was. was) (λ shows. subst (λ (p : Option Change). Means l.slots (range_of l f n) mix (pended p (map_now f))) clean.pending shows) (backed.mixes mix is) in
      record {
        clean = λ other spared. backed.clean other (λ among. spared (soils.others other among))
            ∙ sym (updated-other (f.now n) offset y other (λ same. spared (subst (IsAmong dirty) (sym same) soils.stored))) ∙ sym (ap (λ (s : Spot). s other) (stored f n offset y));
        fixed = λ other low high. backed.fixed other low high
            ∙ sym (updated-other (f.now n) offset y other (content_fixed offset other content low high)) ∙ sym (ap (λ (s : Spot). s other) (stored f n offset y));
        mixes = λ mix is. inl (store_mixes l.slots (range_of l f n) (map_now f) (durable_spot l words n) (f.now n) h offset y backed.clean pended_none mine.knows
            (λ t knows was. means (range_of l f n) t (map_now f) knows was) mix
            (λ other. ⊎_elim (λ durably. inl durably) (λ cached. inr (cached ∙ ap (λ (s : Spot). s other) (stored f n offset y))) (is other)));
      }
  backs_mine (commits {n = n} {w = w} {y = y} {offset = offset} {h = h} {dirty = dirty} {c = c} has content small clean all_durable soiled old about learnt means) e mine after drained durable backed =
      let same = none_dirty (durable_spot l words n) (f.now n) h.dirty all_durable backed.clean in
      record {
        clean = λ other spared. same other
            ∙ sym (updated-other (f.now n) offset y other (λ alike. spared (subst (IsAmong dirty) (sym alike) soiled))) ∙ sym (ap (λ (s : Spot). s other) (stored f n offset y));
        fixed = λ other low high. same other
            ∙ sym (updated-other (f.now n) offset y other (content_fixed offset other content low high)) ∙ sym (ap (λ (s : Spot). s other) (stored f n offset y));
        mixes = λ mix is. ⊎_elim
            (λ before. inl (subst (λ (s : Spot). Means l.slots (range_of l f n) s (map_now f)) (sym before) (clean_means f caller index since n w h mine clean.pending)))
            (λ stored_there. inr (subst (λ (s : Spot). Means l.slots (range_of l f n) s (changed (map_now f) c)) (stored f n offset y ∙ sym stored_there) after.means))
            (commit_mix l.slots (range_of l f n) (map_now f) (durable_spot l words n) (f.now n) h offset y same mix
            (λ other. ⊎_elim (λ durably. inl durably) (λ cached. inr (cached ∙ ap (λ (s : Spot). s other) (stored f n offset y))) (is other)));
      }
  backs_mine (drains {n = n} {offset = offset} {h = h} {dirty = dirty} has small unready hand cleans) e mine after drained durable backed = record {
    clean = λ other spared. ⊎_elim
        (λ (same : other ≡ offset). subst (λ (o : ℕ). durable_spot l words n o ≡ f.now n o) (sym same) drained)
        (λ (apart : other ≡ offset → ⊥). backed.clean other (λ among. ⊎_elim apart spared (cleans other among)))
        (cases_eq other offset);
    fixed = backed.fixed;
    mixes = backed.mixes;
  }
  backs_mine (counts {n = n} {x = x} {h = h} {c = c} all_durable ready pending unplaced) e mine after drained durable backed =
      clean_backs l (with_writes f ((record { caller = caller; index = index; change = c }) ∷ [])) (durable_spot l words n) n
      (record h { time = None; pending = None; ready = false; placed = Some x }) (none_dirty (durable_spot l words n) (f.now n) h.dirty all_durable backed.clean) after.means
  backs_mine (unlocks next pending all_durable unready answers) e mine after drained durable backed = tt
  backs_mine (claims {n = n} {m = m} {v = v} {u = u} {h = h} unplaced here same) e mine after drained durable backed =
      let free : IsFree (f.version m) g = subst (λ (z : ℕ). IsFree z g) (sym (sym e ∙ same)) mine.1.word.free in
      record {
        left_clean = λ offset spared. none_dirty (durable_spot l words n) (f.now n) h.dirty mine.1.durable backed.clean offset;
        fresh_clean = λ offset spared. durable m here free offset;
        left_backed = none_dirty (durable_spot l words n) (f.now n) h.dirty mine.1.durable backed.clean;
        fresh_backed = tt;
      }
  backs_mine (publishes {left = left} next left_durable all_durable) e mine after drained durable backed =
      none_dirty (durable_spot l words left.node) (f.now left.node) left.dirty left_durable backed.left_clean
  backs_mine (leaves next) e mine after drained durable backed = tt
  backs_mine (splits k) e mine after drained durable backed = split_backs k mine after drained backed
  backs_mine (merges k) e mine after drained durable backed = merge_backs k e mine after drained durable backed

  -- the other parties' calls
  pub backs_others : {s : Stage} {a : Action} {x : ℕ} {t : Stage} {r : Option (Once Placed)} → (k : Step l g s a x t r) → Gives k f → IsList l f → Sure l g f caller index since s
      → (caller' index' since' : ℕ) (u : Stage) → ((n : ℕ) → HoldsNode s n → HoldsNode u n → ⊥) → Sure l g f caller' index' since' u
      → BacksStage l f words u → BacksStage l (fact_after k f caller index) words u
  backs_others k e list mine caller' index' since' u apart knows =
      backs_steady l g f (fact_after k f caller index) (goes_on f caller index since k) words u (steadies f caller index since k e list mine caller' index' since' u apart knows)

  merge_given : {s : Stage} {a : Action} {x : ℕ} {t : Stage} → (k : Merge l g s a x t) → BacksStage l f words s
      → (m : ℕ) → HoldsNode s m → (HoldsNode t m → ⊥) → (offset : ℕ) → durable_spot l words m offset ≡ (merge_after k f).now m offset
  merge_given k backed m held gone offset = each_given f k m (λ s φ. BacksStage l f words s → durable_spot l words m offset ≡ φ.now m offset)
      (λ n w freed h right next is backed. subst (λ (k : ℕ). durable_spot l words k offset ≡ f.now k offset) is (backed.1 offset))
      (λ freed h left right next is backed. subst (λ (k : ℕ). durable_spot l words k offset ≡ f.now k offset) is (backed.right_backed offset))
      held gone backed

  -- a node that is given back is durable
  given_durable : {s : Stage} {a : Action} {x : ℕ} {t : Stage} {r : Option (Once Placed)} → (k : Step l g s a x t r) → BacksStage l f words s
      → (m : ℕ) → HoldsNode s m → (HoldsNode t m → ⊥) → (offset : ℕ) → durable_spot l words m offset ≡ (fact_after k f caller index).now m offset
  given_durable k backed m held gone offset = each_freed f caller index since k m (λ s φ. BacksStage l f words s → durable_spot l words m offset ≡ φ.now m offset)
      (λ n w freed h next pending all_durable is backed.
      subst (λ (k : ℕ). durable_spot l words k offset ≡ f.now k offset) is (none_dirty (durable_spot l words n) (f.now n) h.dirty all_durable backed.clean offset))
      (λ freed left fresh next is backed. subst (λ (k : ℕ). durable_spot l words k offset ≡ f.now k offset) is (backed.fresh_backed offset))
      (λ freed left next is backed. subst (λ (k : ℕ). durable_spot l words k offset ≡ f.now k offset) is (backed offset))
      (λ k backed. merge_given k backed m held gone offset)
      held gone backed

  -- the free nodes
  pub free_backs : {s : Stage} {a : Action} {x : ℕ} {t : Stage} {r : Option (Once Placed)} → (k : Step l g s a x t r) → IsList l f → Sure l g f caller index since s
      → Sure l g (fact_after k f caller index) caller index since t → AreDurable l g f words → BacksStage l f words s → AreDurable l g (fact_after k f caller index) words
  free_backs {s = s} {t = t} k list mine after durable backed m here free offset = ⊎_elim
      (λ (held : HoldsNode t m). absurd (unfree ((fact_after k f caller index).version m) g (own_of l g (fact_after k f caller index) caller index since t m held after) free))
      (λ (gone : HoldsNode t m → ⊥). ⊎_elim
      (λ (held : HoldsNode s m). given_durable k backed m held gone offset)
      (λ (never : HoldsNode s m → ⊥).
      let steady = steady_else f caller index since k list mine m never gone in
      durable m here (subst (λ (v : ℕ). IsFree v g) steady.version free) offset ∙ sym (ap (λ (s : Spot). s offset) steady.now))
      (holds_or s m))
      (holds_or t m)
