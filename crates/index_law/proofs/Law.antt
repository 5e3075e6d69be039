-- One step of a party keeps the index lawful.
use Rattle.std.proofs.Common.{◌≡◌, ◌≢◌, ℕ, ◌≤◌, ◌⊎◌, inl, inr, ⊎_elim, Bool, true, false, append-nil, List, ◌++◌, length, set, refl, sym, ap, ◌∙◌, subst, arith}
use Rattle.std.specs.Prelude.{Option, Some, None, IfSome}
use Rattle.std.proofs.lemmas.List.{length-append}
use mathlib.Core.Option.{some, some-injective}
use lib.ListN.{get_elem?}
use Rattle.pm_words.specs.declared.layout.Layout.{Layout}
use Rattle.pm_words.specs.declared.action.Action.{Action}
use Rattle.pm_words.specs.declared.action.Action.TheVariants.{Add}
use Rattle.pm_words.specs.Rows.{acted}
use Rattle.pm_words.proofs.Kept.{acted_row}
use Rattle.cat_key.specs.Names.{IsName}
use Rattle.cat_history.specs.Maps.{Map}
use Rattle.cat_history.specs.Writes.{after_all, name_of}
use Rattle.cat_history.specs.declared.op.Write.{Write}
use Rattle.cat_history.specs.declared.op.Change.{Change}
use Rattle.version_lock.specs.Versions.{IsFree}
use Rattle.call_stages.specs.declared.once.Once.{Once}
use Rattle.call_stages.specs.declared.once.Placed.{Placed}
use Rattle.call_stages.specs.Stages.{Held, Stage, Idle, Saw, Wears, Reads, Holds, Eyes, Splits, Leaves, Meets, Joins, counted}
use Rattle.call_stages.specs.Kinds.{clock_address, Look, turns_back, is_worn, wears, roams, roams_status, sees, misses, misses_read, times, learns, decides, glances, finds_live, watches, watches_next, turns_away, steps_back, wanders, fills, lights, switches, glances_left, glances_fresh, drains_left, drains_fresh, trims, splits, meets, knows_own, knows_right, copies, takes_up, puts_down, parts, gathers, joins, glances_joined, drains_joined, retires, yields, merges, peeks, peeks_status, eyes, eyes_free, passes, loses, claims, publishes, leaves, Step, looks, locks, locks_read, stores, commits, drains, counts, unlocks}
use Rattle.index_law.specs.Facts.{Facts}
use Rattle.index_law.specs.Worlds.{Party, World, facts, written, counted_write, moved_on}
use Rattle.index_law.specs.Lawful.{HasNames, IsList, AreLive, Sure, Each, AreAlone, IsHeld, AreKnown, AreSettled, AreFreeOrHeld, Lawful}
use Rattle.call_stages.specs.Stages.{HoldsNode}
use Rattle.index_law.specs.Twins.{BacksStage, AreDurable}
use Rattle.index_law.specs.Laws.{Counts, IsLegal, StepKeeps}
use Rattle.index_law.proofs.Maps.{after_all-push, changed_names}
use Rattle.index_law.proofs.Actions.{action_law}
use Rattle.index_law.proofs.Backing.{Drained, backs_mine, backs_others, free_backs}
use Rattle.index_law.proofs.Closer.{step_closer, step_cached, step_drained}
use Rattle.index_law.proofs.Twins.{IsNearer, nearer, closer_stage, closer_durable, closer_versions, closer_front, cached_front}
use Rattle.index_law.proofs.Locks.{own_of, others, stays_known, settles, lock_after, lock_before}
use Rattle.index_law.proofs.Moves.{fact_after, Gives, gives, facts_step, clock_step}
use Rattle.index_law.proofs.Own.{allow_law, sure_within, mine, legal}
use Rattle.index_law.proofs.Parties.{at_set, set_here, set_else, each_set}
use Rattle.index_law.proofs.Loose.{loose_counts}
use Rattle.index_law.proofs.Listing.{step_list, step_live}
use Rattle.index_law.proofs.Versions.{unfree}
use Rattle.call_stages.specs.Kinds.{reads_on}
use Rattle.index_law.proofs.Moves.{read_before, read_loads}

-- a step that is not ready adds nothing to the clock
unready_counts : (l : Layout) (n w x count : ℕ) (h : Held) (a : Action) → h.ready ≡ false → a ≢ Add (clock_address l) → Counts l count a x (counted (Holds n w h))
unready_counts l n w x count h a unready other = subst (λ b. Counts l count a x (elim b [ true ↦ h.pending | false ↦ None ])) (sym unready) other

module _ {l : Layout} {g : ℕ} where
  look_counts : {s : Stage} {a : Action} {x : ℕ} {t : Stage} {r : Option (Once Placed)} → Look l g s a x t r → (count : ℕ) → Counts l count a x (counted s)
  look_counts (turns_back {s = s} loose here busy) count = loose_counts l count _ _ s loose (λ e. cc)
  look_counts (wears {s = s} loose here free worn) count = loose_counts l count _ _ s loose (λ e. cc)
  look_counts (roams has) count = λ e. cc
  look_counts (roams_status here) count = λ e. cc
  look_counts (is_worn has) count = λ e. cc
  look_counts (sees {s = s} loose here free unworn lock) count = loose_counts l count _ _ s loose (λ e. cc)
  look_counts (finds_live here is) count = λ e. cc
  look_counts (watches has positive live next learnt) count = λ e. cc
  look_counts (watches_next has low high ne live live' next leads learnt) count = λ e. cc
  look_counts (turns_away {s = s} loose here up) count = loose_counts l count _ _ s loose (λ e. cc)
  look_counts (steps_back {s = s} loose here up) count = loose_counts l count _ _ s loose (λ e. cc)
  look_counts (wanders {s = s} loose here up) count = loose_counts l count _ _ s loose (λ e. cc)
  look_counts (peeks {n = n} {w = w} {x = x} {h = h} here unready) count = unready_counts l n w x count h _ unready (λ e. cc)
  look_counts (peeks_status {n = n} {w = w} {x = x} {h = h} here unready) count = unready_counts l n w x count h _ unready (λ e. cc)
  look_counts (eyes {n = n} {w = w} {x = x} {h = h} clean durable here nonzero free unworn lock) count = unready_counts l n w x count h _ clean.ready (λ e. cc)
  look_counts (eyes_free here is) count = λ e. cc
  look_counts (passes here) count = λ e. cc
  look_counts (loses here other) count = λ e. cc
  look_counts (misses other) count = λ e. cc
  look_counts (misses_read other small) count = λ e. cc
  look_counts (times {n = n} {w = w} {x = x} {h = h} clean below) count = unready_counts l n w x count h _ clean.ready (λ e. cc)
  look_counts (learns {n = n} {w = w} {x = x} {h = h} has positive unready learnt) count = unready_counts l n w x count h _ unready (λ e. cc)
  look_counts (decides {n = n} {w = w} {x = x} {h = h} has positive clean durable about learnt decided) count = unready_counts l n w x count h _ clean.ready (λ e. cc)
  look_counts (reads_on {s = s} k) count = loose_counts l count _ _ s (read_before k) (λ e. let load = read_loads k in let is = load.1 in cc)
  look_counts (glances {n = n} {w = w} {x = x} {h = h} has unready) count = unready_counts l n w x count h _ unready (λ e. cc)

  -- what is counted is counted at the length of the history
  step_counts : {s : Stage} {a : Action} {x : ℕ} {t : Stage} {r : Option (Once Placed)} → (k : Step l g s a x t r) → (f : Facts) → Gives k f → Counts l (length f.history) a x (counted s)
  step_counts (looks look) f e = look_counts look (length f.history)
  step_counts (locks same named live between) f e = λ e. cc
  step_counts (locks_read same named live between unworn taken small) f e = λ e. cc
  step_counts (stores {n = n} {w = w} {x = x} {h = h} has content small clean soils learnt means) f e = unready_counts l n w x (length f.history) h _ clean.ready (λ e. cc)
  step_counts (commits {n = n} {w = w} {x = x} {h = h} has content small clean durable soiled old about learnt means) f e = unready_counts l n w x (length f.history) h _ clean.ready (λ e. cc)
  step_counts (drains {n = n} {w = w} {x = x} {h = h} has small unready hand cleans) f e = unready_counts l n w x (length f.history) h _ unready (λ e. cc)
  step_counts (counts {x = x} {h = h} {c = c} durable ready pending unplaced) f e =
      subst (λ b. Counts l (length f.history) (Add (clock_address l)) x (elim b [ true ↦ h.pending | false ↦ None ])) (sym ready)
      (subst (Counts l (length f.history) (Add (clock_address l)) x) (sym pending) (refl, e))
  step_counts (unlocks {n = n} {w = w} {x = x} {h = h} next pending durable unready answers) f e = unready_counts l n w x (length f.history) h _ unready (λ e. cc)
  step_counts (claims unplaced here same) f e = λ e. cc
  step_counts (publishes next left fresh) f e = λ e. cc
  step_counts (leaves next) f e = λ e. cc
  step_counts (merges (meets here same untimed leads)) f e = λ e. cc
  step_counts (merges (knows_own has positive learnt)) f e = λ e. cc
  step_counts (merges (knows_right has positive told)) f e = λ e. cc
  step_counts (merges (copies has content small soils learnt means)) f e = λ e. cc
  step_counts (merges (takes_up has)) f e = λ e. cc
  step_counts (merges (puts_down has small hand cleans)) f e = λ e. cc
  step_counts (merges (parts next)) f e = λ e. cc
  step_counts (merges (gathers small durable soiled told gathered)) f e = λ e. cc
  step_counts (merges (joins small durable soiled next told)) f e = λ e. cc
  step_counts (merges (glances_joined has learnt)) f e = λ e. cc
  step_counts (merges (drains_joined has small hand cleans)) f e = λ e. cc
  step_counts (merges (retires durable)) f e = λ e. cc
  step_counts (merges (yields next durable)) f e = λ e. cc
  step_counts (splits (fills has positive small within soils told)) f e = λ e. cc
  step_counts (splits (lights here leads)) f e = λ e. cc
  step_counts (splits (switches here small durable soiled cut told means)) f e = λ e. cc
  step_counts (splits (glances_left has learnt)) f e = λ e. cc
  step_counts (splits (glances_fresh has)) f e = λ e. cc
  step_counts (splits (drains_left has small hand cleans)) f e = λ e. cc
  step_counts (splits (drains_fresh has small hand cleans)) f e = λ e. cc
  step_counts (splits (trims here small durable soiled anchor told means)) f e = λ e. cc

module _ (w : World) (i : ℕ) (p : Party) (lawful : Lawful w) (there : get_elem? w.parties i ≡ some p) where
  -- no other party holds a node that this one holds
  apart : (j : ℕ) (d : Party) → j ≢ i → get_elem? w.parties j ≡ some d → (n : ℕ) → HoldsNode p.stage n → HoldsNode d.stage n → ⊥
  apart j d other at n mine theirs = other (lawful.alone j i n d p at there theirs mine)

  module _ {a : Action} {x : ℕ} {t : Stage} {r : Option (Once Placed)} (k : Step w.layout w.generation p.stage a x t r) (given : Gives k (facts w)) where
    knows : Sure w.layout w.generation (facts w) p.caller p.index p.since p.stage
    knows = lawful.sure i p there

    mine_after : Sure w.layout w.generation (fact_after k (facts w) p.caller p.index) p.caller p.index p.since t
    mine_after = mine (facts w) p.caller p.index p.since (lawful.begun i p there) lawful.versions lawful.list lawful.live lawful.settled k given knows

    one_lock : (j : ℕ) (d : Party) (n : ℕ) → j ≢ i → get_elem? w.parties j ≡ some d → HoldsNode d.stage n → HoldsNode t n → ⊥
    one_lock j d n other at theirs mine =
        ⊎_elim
        (λ (was : HoldsNode p.stage n). apart j d other at n was theirs)
        (λ (free : IsFree ((facts w).version n) w.generation).
        unfree ((facts w).version n) w.generation (own_of w.layout w.generation (facts w) d.caller d.index d.since d.stage n theirs (lawful.sure j d at)) free)
        (lock_before (facts w) p.caller p.index p.since k given knows n mine)

    alone_after : AreAlone (set w.parties i (moved_on p t))
    alone_after u v n b d at_u at_v holds_u holds_v =
        ⊎_elim
        (λ (first : (u ≡ i) × (moved_on p t ≡ b)). ⊎_elim
        (λ (second : (v ≡ i) × (moved_on p t ≡ d)). first.0 ∙ sym second.0)
        (λ (second : (v ≢ i) × (get_elem? w.parties v ≡ some d)).
        absurd (one_lock v d n second.0 second.1 holds_v (subst (λ (q : Party). HoldsNode q.stage n) (sym first.1) holds_u)))
        (at_set w.parties i v (moved_on p t) d at_v))
        (λ (first : (u ≢ i) × (get_elem? w.parties u ≡ some b)). ⊎_elim
        (λ (second : (v ≡ i) × (moved_on p t ≡ d)).
        absurd (one_lock u b n first.0 first.1 holds_u (subst (λ (q : Party). HoldsNode q.stage n) (sym second.1) holds_v)))
        (λ (second : (v ≢ i) × (get_elem? w.parties v ≡ some d)). lawful.alone u v n b d first.1 second.1 holds_u holds_v)
        (at_set w.parties i v (moved_on p t) d at_v))
        (at_set w.parties i u (moved_on p t) b at_u)

    still_held : (n : ℕ) → (HoldsNode p.stage n → ⊥) → IsHeld w.parties n → IsHeld (set w.parties i (moved_on p t)) n
    still_held n free_of held =
        let other : held.number ≢ i =
        (λ same. free_of (subst (λ (q : Party). HoldsNode q.stage n) (some-injective _ _ (sym held.there ∙ ap (get_elem? w.parties) same ∙ there)) held.holds)) in
        record { number = held.number; party = held.party; there = set_else w.parties i held.number (moved_on p t) other ∙ held.there; holds = held.holds }

    held_after : AreFreeOrHeld w.layout w.generation (fact_after k (facts w) p.caller p.index) (set w.parties i (moved_on p t))
    held_after n here =
        let new = fact_after k (facts w) p.caller p.index in
        ⊎_elim
        (λ (free : IsFree (new.version n) w.generation). inl free)
        (λ (or : HoldsNode t n ⊎ ((HoldsNode p.stage n → ⊥) × (new.version n ≡ (facts w).version n))). ⊎_elim
        (λ (lock : HoldsNode t n). inr (record { number = i; party = moved_on p t; there = set_here w.parties i (moved_on p t) p there; holds = lock }))
        (λ (stays : (HoldsNode p.stage n → ⊥) × (new.version n ≡ (facts w).version n)). ⊎_elim
        (λ (free : IsFree ((facts w).version n) w.generation). inl (subst (λ (v : ℕ). IsFree v w.generation) (sym stays.1) free))
        (λ (held : IsHeld w.parties n). inr (still_held n stays.0 held))
        (lawful.held n here))
        or)
        (lock_after (facts w) p.caller p.index p.since k lawful.list knows n)

    sure_after : Each (λ d. Sure w.layout w.generation (fact_after k (facts w) p.caller p.index) d.caller d.index d.since d.stage) (set w.parties i (moved_on p t))
    sure_after = each_set (λ (d : Party). Sure w.layout w.generation (fact_after k (facts w) p.caller p.index) d.caller d.index d.since d.stage) w.parties i (moved_on p t)
        (λ j d other at. others (facts w) p.caller p.index p.since k given lawful.list knows mine_after d.caller d.index d.since d.stage (apart j d other at) (lawful.sure j d at))
        mine_after

    begun_after : Each (λ d. d.since ≤ length (w.history ++ counted_write p)) (set w.parties i (moved_on p t))
    begun_after =
        let longer = length-append w.history (counted_write p) in
        each_set (λ (d : Party). d.since ≤ length (w.history ++ counted_write p)) w.parties i (moved_on p t)
        (λ j d other at. let was = lawful.begun j d at in omega arith)
        (let was = lawful.begun i p there in omega arith)

    -- from the durable twins after the step, with the facts before it
    module _ (words : List ℕ) (drained : Drained k (facts w) words) (durable : AreDurable w.layout w.generation (facts w) words)
        (backed : Each (λ d. BacksStage w.layout (facts w) words d.stage) w.parties) where
      backed_after : Each (λ d. BacksStage w.layout (fact_after k (facts w) p.caller p.index) words d.stage) (set w.parties i (moved_on p t))
      backed_after = each_set (λ (d : Party). BacksStage w.layout (fact_after k (facts w) p.caller p.index) words d.stage) w.parties i (moved_on p t)
          (λ j d other at. backs_others (facts w) words p.caller p.index p.since k given lawful.list knows d.caller d.index d.since d.stage (apart j d other at) (lawful.sure j d at) (backed j d at))
          (backs_mine (facts w) words p.caller p.index p.since k given knows mine_after drained durable (backed i p there))

      durable_after : AreDurable w.layout w.generation (fact_after k (facts w) p.caller p.index) words
      durable_after = free_backs (facts w) words p.caller p.index p.since k lawful.list knows mine_after durable (backed i p there)

-- what is counted is about a name
counted_named : (l : Layout) (g : ℕ) (f : Facts) (caller index since : ℕ) (s : Stage) → Sure l g f caller index since s → IfSome (counted s) (λ c. IsName (name_of c))
counted_named l g f caller index since Idle has = tt
counted_named l g f caller index since (Saw n v w k) has = tt
counted_named l g f caller index since (Wears n v) has = tt
counted_named l g f caller index since (Reads n v sight told) has = tt
counted_named l g f caller index since (Holds n w h) has = held h.ready h.pending has.about where
  held : (b : Bool) (o : Option Change) → IfSome o (λ c. name_of c ≡ h.name) → IfSome (elim b [ true ↦ o | false ↦ None ]) (λ c. IsName (name_of c))
  held true None about = tt
  held true (Some c) about = subst IsName (sym about) has.named
  held false o about = tt
counted_named l g f caller index since (Eyes n w h m v u free) has = tt
counted_named l g f caller index since (Splits left fresh phase) has = tt
counted_named l g f caller index since (Leaves left) has = tt
counted_named l g f caller index since (Meets n w h right) has = tt
counted_named l g f caller index since (Joins h left right pace) has = tt

written_named : (m : Map) (history : List Write) (caller index : ℕ) (o : Option Change) → HasNames (after_all m history) → IfSome o (λ c. IsName (name_of c))
    → HasNames (after_all m (history ++ written caller index o))
written_named m history caller index None names is = subst (λ h. HasNames (after_all m h)) (sym (append-nil history)) names
written_named m history caller index (Some c) names is =
    subst HasNames (sym (after_all-push m history (record { caller = caller; index = index; change = c }))) (changed_names (after_all m history) c names is)

names_after : (l : Layout) (g : ℕ) (f : Facts) (caller index since : ℕ) (s : Stage) → Sure l g f caller index since s → (base : Map) (history : List Write) → HasNames (after_all base history)
    → HasNames (after_all base (history ++ written caller index (counted s)))
names_after l g f caller index since s has base history names = written_named base history caller index (counted s) names (counted_named l g f caller index since s has)

pub step_law : StepKeeps
step_law w i p a x t r lawful there k told room =
    let l = w.layout in
    let g = w.generation in
    let f = facts w in
    let known = lawful.sure i p there in
    let given = gives w.words w.base w.history p.caller p.index p.since k lawful.clock told known in
    let same = facts_step w.words w.base w.history p.caller p.index p.since k lawful.row lawful.list told known in
    let after = mine f p.caller p.index p.since (lawful.begun i p there) lawful.versions lawful.list lawful.live lawful.settled k given known in
    let words = acted l w.words a in
    let closer : IsNearer l w.words words = nearer l w.words words (step_closer w.words w.base w.history p.caller p.index p.since lawful.row k told known) in
    let drained = step_drained w.words w.base w.history p.caller p.index p.since lawful.row k known in
    let durable = closer_durable l w.words words w.base w.history closer g lawful.durable in
    let backed : Each (λ d. BacksStage l f words d.stage) w.parties =
    λ j d at. closer_stage l w.words words w.base w.history closer d.stage (lawful.backed j d at) in
    let can = (action_law w i p a lawful there (allow_law l g p.stage a x t r (sure_within l g f p.caller p.index p.since p.stage known) k) room).can in
    record {
      can = can;
      kept = record {
        named = names_after l g f p.caller p.index p.since p.stage known w.base w.history lawful.named;
        list = subst (IsList l) (sym same) (step_list f p.caller p.index p.since k lawful.list known);
        live = subst (AreLive l g) (sym same) (step_live f p.caller p.index p.since k lawful.list known after lawful.live);
        run = lawful.run;
        row = acted_row l w.words a lawful.row can;
        clock = clock_step w.words w.base w.history p.caller p.index p.since k lawful.row lawful.clock told known;
        versions = subst (AreKnown l g) (sym same) (stays_known f p.caller p.index p.since k known lawful.versions);
        sure = subst (λ (φ : Facts). Each (λ d. Sure l g φ d.caller d.index d.since d.stage) (set w.parties i (moved_on p t))) (sym same) (sure_after w i p lawful there k given);
        begun = begun_after w i p lawful there k given;
        alone = alone_after w i p lawful there k given;
        settled = subst (AreSettled l g) (sym same) (settles f p.caller p.index p.since k lawful.list known after lawful.settled);
        held = subst (λ (φ : Facts). AreFreeOrHeld l g φ (set w.parties i (moved_on p t))) (sym same) (held_after w i p lawful there k given);
        backed = subst (λ (φ : Facts). Each (λ d. BacksStage l φ words d.stage) (set w.parties i (moved_on p t))) (sym same)
            (backed_after w i p lawful there k given words drained durable backed);
        durable = subst (λ (φ : Facts). AreDurable l g φ words) (sym same) (durable_after w i p lawful there k given words drained durable backed);
        durable_versions = closer_versions l w.words words w.base w.history closer g lawful.versions lawful.durable_versions;
        front = cached_front l g w.words words (step_cached w.words w.base w.history p.caller p.index p.since lawful.row k told known) lawful.front;
        durable_front = closer_front l g w.words words closer lawful.front lawful.durable_front;
      };
      counts = step_counts k f given;
      legal = subst (λ (φ : Facts). IsLegal l g φ p.caller p.index p.since p.stage r) (sym same) (legal f p.caller p.index p.since k given known);
    }
