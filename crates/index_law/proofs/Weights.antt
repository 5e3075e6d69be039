-- The weight of a lawful index: what a step, a start and a crash make of it.
use Rattle.std.proofs.Common.{◌≡◌, ◌≢◌, ℕ, zero, suc, ◌+◌, ◌-◌, ◌/◌, ◌<◌, ◌≤◌, ◌⊎◌, inl, inr, ⊎_elim, Bool, true, false, cond, List, [], ◌∷◌, ◌++◌, length, set, refl, sym, ap, ◌∙◌, subst, arith}
use Rattle.std.specs.Prelude.{◌||◌, ◌==◌, Option, Some, None, IfSome, IsSome, nat_le}
use Rattle.std.proofs.lemmas.Bool.{leb-true, leb-false, eq-eqb, eqb-true, ne_eqb, cases_eq}
use mathlib.Core.Option.{some, some-injective, some-ne-none}
use lib.ListN.{get_elem?}
use Rattle.pm_words.specs.Codes.{gone_status, live_status}
use Rattle.pm_words.specs.declared.layout.Layout.{Layout}
use Rattle.pm_words.specs.declared.action.Action.{Action}
use Rattle.pm_words.specs.declared.action.Action.TheVariants.{Store}
use Rattle.pm_words.specs.Offsets.{bitmap_offset, next_offset}
use Rattle.version_lock.specs.Versions.{IsFree}
use Rattle.cat_key.specs.Names.{IsName}
use Rattle.cat_history.specs.Maps.{Map, at}
use Rattle.cat_history.specs.Writes.{changed, name_of}
use Rattle.cat_history.specs.declared.op.Change.{Change}
use Rattle.cat_history.specs.declared.op.Change.TheVariants.{Put, Del}
use Rattle.data_node.specs.Spots.{Spot, Means}
use Rattle.data_node.specs.Weights.{names_in, node_weight}
use Rattle.data_node.proofs.NameCounts.{same_names, names_by_bits, put_keeps_names, put_adds_one, put_over_keeps_names, del_takes_one, del_keeps_names}
use Rattle.call_stages.specs.declared.once.Once.{Once}
use Rattle.call_stages.specs.declared.once.Placed.{Placed}
use Rattle.data_node.specs.Lists.{ListNode, anchor_in, key_of}
use Rattle.call_stages.specs.Stages.{Held, Gathered, Joined, Gone, Stage, Idle, Saw, Wears, Reads, Holds, Eyes, Splits, Leaves, Meets, Joins, pended}
use Rattle.call_stages.specs.Kinds.{Look, turns_back, is_worn, wears, roams, roams_status, sees, misses, misses_read, times, learns, decides, glances, finds_live, watches, watches_next, turns_away, steps_back, wanders, from_key, below_key, Merge, meets, knows_own, knows_right, copies, takes_up, puts_down, parts, gathers, joins, glances_joined, drains_joined, retires, yields, merges, Split, fills, lights, switches, glances_left, glances_fresh, drains_left, drains_fresh, trims, splits, peeks, peeks_status, eyes, eyes_free, passes, loses, claims, publishes, leaves, Step, looks, locks, locks_read, stores, commits, drains, counts, unlocks, word_address}
use Rattle.index_law.specs.Facts.{Facts, map_now, range_of, durable_spot, IsListed}
use Rattle.index_law.specs.Worlds.{Party, World, facts, moved_on}
use Rattle.index_law.specs.Lawful.{Lawful, IsLinked, IsList, Each, IsHeld, SureHolds, Sure, map_before}
use Rattle.call_stages.specs.Stages.{HoldsNode}
use Rattle.index_law.specs.Twins.{IsBacked, BacksSplit, BacksStage}
use Rattle.data_node.specs.Weights.{total}
use Rattle.index_law.specs.Weights.{weight_at, listed_weight, gone_weight, index_weight, lowered_by, lowered_in, lowered_sum, weight_sum, AddsName, RisesBy, StepWeighs, StartWeighs, JoinWeighs, EvictWeighs, IdleWeighs, CrashWeighs}
use Rattle.index_law.proofs.Bystanders.{IsSteady}
use Rattle.index_law.proofs.Loose.{loose_lowers}
use Rattle.index_law.proofs.Locks.{cut_now, steadies}
use Rattle.index_law.proofs.Stays.{means_less, means_beside, both_true}
use Rattle.index_law.proofs.Switch.{leads_on, rise_from, inside_listed, range_left, range_fresh, range_other}
use Rattle.index_law.proofs.Totals.{total_alike, total_one, total_cut, total_past, names_parts, total_plus, total_zero, part_at, part-here, total_part, names_less, names_or}
use Rattle.index_law.proofs.Past.{range_past, list_past, listed_else, listed_not}
use Rattle.index_law.proofs.Durable.{IsSkip, IsBack, thinned, same_list, plain_within, skip_within, back_within, put_within}
use Rattle.index_law.proofs.Starts.{listed_within}
use Rattle.call_stages.specs.Stages.{Grip, Filling, Linked, Parted}
use Rattle.data_node.specs.Lists.{target_from}
use Rattle.index_law.proofs.Moves.{fact_after, split_after, merge_after, Gave, Gives, gives, facts_step}
use Rattle.index_law.proofs.Own.{clean_means, old_is, mine}
use Rattle.index_law.proofs.Rows.{with_word, with_next, with_past, new_member, set_else, set_other}
use Rattle.index_law.proofs.Evictions.{evict_facts}
use Rattle.call_stages.specs.Kinds.{reads_on}
use Rattle.index_law.proofs.Moves.{read_before, read_after}

-- a name taken away weighed where so many are left
taken : (slots left names : ℕ) → left + 1 ≡ names → slots / 2 + (left - slots / 2) + cond (nat_le (slots / 2) left) 1 0 ≡ slots / 2 + (names - slots / 2)
taken slots left names one =
    elim (nat_le (slots / 2) left) as (λ b. nat_le (slots / 2) left ≡ b → slots / 2 + (left - slots / 2) + cond b 1 0 ≡ slots / 2 + (names - slots / 2)) [
      | true ↦ λ is. let many = leb-true (slots / 2) left is in omega arith
      | false ↦ λ is. let few = leb-false (slots / 2) left is in omega arith
    ] refl

-- without a change pending nothing is lowered
unlowered : (slots names : ℕ) (pending : Option Change) (old : Option (Option ℕ)) → pending ≡ None → lowered_by slots names pending old ≡ 0
unlowered slots names pending old none = ap (λ (p : Option Change). lowered_by slots names p old) none

-- The change puts a name that wasn't there.
record IsNewPut (c : Change) (old : Option ℕ) : Type 0 where
  pub name : List ℕ
  pub value : ℕ
  pub put : c ≡ Put name value
  pub new : old ≡ None

module _ (slots : ℕ) (range : List ℕ → Bool) (s t : Spot) (m : Map) where
  -- what the change of a call makes of what its node weighs
  change_weighs : (c : Change) (old : Option ℕ) → IsName (name_of c) → range (name_of c) ≡ true → at m (name_of c) ≡ old → Means slots range s m → Means slots range t (changed m c)
      → RisesBy (IsNewPut c old) (node_weight slots range s) (node_weight slots range t + lowered_by slots (names_in slots range t) (Some c) (Some old))
  change_weighs (Put name value) None named inside had before after =
      let more = put_adds_one slots range s t m name named inside value before after in
      inr (record { name = name; value = value; put = refl; new = refl }, omega arith)
  change_weighs (Put name value) (Some old) named inside had before after =
      let same = put_over_keeps_names slots range s t m name named inside value before after old had in
      inl (omega arith)
  change_weighs (Del name) None named inside had before after =
      let same = del_keeps_names slots range s t m name named inside before after had in
      inl (omega arith)
  change_weighs (Del name) (Some old) named inside had before after =
      let less = taken slots (names_in slots range t) (names_in slots range s) (del_takes_one slots range s t m name named inside before after old had) in
      inl (omega arith)

-- a change that a node shows already, though it means the map as it is, lowers nothing
shown_before : (slots : ℕ) (range : List ℕ → Bool) (s : Spot) (m : Map) (name : List ℕ) (pending : Option Change) (old : Option ℕ) → IsName name → range name ≡ true
    → IfSome pending (λ c. name_of c ≡ name) → at m name ≡ old → Means slots range s m → Means slots range s (pended pending m)
    → lowered_by slots (names_in slots range s) pending (Some old) ≡ 0
shown_before slots range s m name None old named inside about had before after = refl
shown_before slots range s m name (Some (Put key value)) old named inside about had before after = refl
shown_before slots range s m name (Some (Del key)) None named inside about had before after = refl
shown_before slots range s m name (Some (Del key)) (Some value) named inside about had before after =
    let less = del_takes_one slots range s s m key (subst IsName (sym about) named) (subst (λ (k : List ℕ). range k ≡ true) (sym about) inside) before after value (ap (at m) about ∙ had) in
    absurd (omega arith)

-- the weight, with what one call has lowered it by
abbrev own_sum : Layout → Facts → Stage → ℕ
own_sum l f s = listed_weight l f + lowered_in l f s

-- a step that stores a word of content
content_weighs : (l : Layout) (f : Facts) → IsList l f → (n offset y : ℕ) → IsListed f n
    → listed_weight l (with_word f n offset y) + weight_at l f n ≡ listed_weight l f + weight_at l (with_word f n offset y) n
content_weighs l f list n offset y listed =
    total_one f.now (weight_at l f) (weight_at l (with_word f n offset y)) n 0 f.list list.chain (rise_from l f list) listed
    (λ k is other. ap (node_weight l.slots (range_of l f k)) (set_else f.now n offset y k other))

-- neither half is small
halves_weigh : (slots kept moved whole : ℕ) → kept + moved ≡ whole → slots / 2 ≤ kept → slots / 2 ≤ moved
    → (slots / 2 + (kept - slots / 2)) + (slots / 2 + (moved - slots / 2)) ≤ slots / 2 + (whole - slots / 2)
halves_weigh slots kept moved whole whole_is low high = omega arith

-- a merge takes the half of a node's slots that the right node weighs at least
merged_less : (half one other all after before : ℕ) → after + (half + (one - half)) + (half + (other - half)) ≡ before + (half + (all - half)) → all ≤ half → after + half ≤ before + 0
merged_less half one other all after before fewer few = omega arith

-- what one node weighs that may be GONE
one_gone : (half a b : ℕ) → (a ≡ gone_status → b ≡ gone_status) → cond (a == gone_status) half 0 ≤ cond (b == gone_status) half 0
one_gone half a b also = elim (a == gone_status) as (λ c. (a == gone_status) ≡ c → cond c half 0 ≤ cond (b == gone_status) half 0) [
  | true ↦ λ is. let same : cond (b == gone_status) half 0 ≡ half = ap (λ c. cond c half 0) (eq-eqb b gone_status (also (eqb-true a gone_status is))) in omega arith
  | false ↦ λ _. omega arith
] refl

most_gone : (half a : ℕ) → cond (a == gone_status) half 0 ≤ half
most_gone half a = elim (a == gone_status) as (λ c. cond c half 0 ≤ half) [
  | true ↦ omega arith
  | false ↦ omega arith
]

-- no more nodes are GONE,
pub gone_less : (half : ℕ) (status status' : ℕ → ℕ) (n : ℕ) → ((k : ℕ) → k < n → status' k ≡ gone_status → status k ≡ gone_status) → gone_weight half status' n ≤ gone_weight half status n
gone_less half status status' zero fewer = omega arith
gone_less half status status' (suc n) fewer =
    let one = one_gone half (status' n) (status n) (fewer n (omega arith)) in
    let rest = gone_less half status status' n (λ k within. fewer k (omega arith)) in
    omega arith

-- or one more
gone_more : (half : ℕ) (status status' : ℕ → ℕ) (r n : ℕ) → ((k : ℕ) → k < n → status' k ≡ gone_status → (status k ≡ gone_status) ⊎ (k ≡ r)) → gone_weight half status' n ≤ gone_weight half status n + half
gone_more half status status' r zero more = omega arith
gone_more half status status' r (suc n) more = ⊎_elim
    (λ (e : n ≡ r).
    let one = most_gone half (status' n) in
    let rest = gone_less half status status' n (λ k within is. ⊎_elim (λ was. was) (λ d. absurd (omega arith)) (more k (omega arith) is)) in
    omega arith)
    (λ (other : n ≢ r).
    let one = one_gone half (status' n) (status n) (λ is. ⊎_elim (λ was. was) (λ d. absurd (other d)) (more n (omega arith) is)) in
    let rest = gone_more half status status' r n (λ k within. more k (omega arith)) in
    omega arith)
    (cases_eq n r)

split_lowers : (l : Layout) (g : ℕ) (f : Facts) {s : Stage} {a : Action} {x : ℕ} {t : Stage} → Split l g s a x t → (lowered_in l f s ≡ 0) × (lowered_in l f t ≡ 0)
split_lowers l g f (fills has positive small within soils told) = (refl, refl)
split_lowers l g f (lights here leads) = (refl, refl)
split_lowers l g f (switches here small durable soiled cut told means) = (refl, refl)
split_lowers l g f (glances_left has learnt) = (refl, refl)
split_lowers l g f (glances_fresh has) = (refl, refl)
split_lowers l g f (drains_left has small hand cleans) = (refl, refl)
split_lowers l g f (drains_fresh has small hand cleans) = (refl, refl)
split_lowers l g f (trims here small durable soiled anchor told means) = (refl, refl)

module _ {l : Layout} {g : ℕ} (f : Facts) (caller index since : ℕ) where
  -- a look lowers nothing
  look_lowers : {s : Stage} {a : Action} {x : ℕ} {t : Stage} {r : Option (Once Placed)} → (k : Look l g s a x t r) → Gave k f → Sure l g f caller index since s
      → Sure l g f caller index since t → lowered_in l f t ≡ lowered_in l f s
  look_lowers (turns_back {s = s} loose here busy) e knows after = sym (loose_lowers l f s loose)
  look_lowers (wears {s = s} loose here free worn) e knows after = sym (loose_lowers l f s loose)
  look_lowers (roams has) e knows after = refl
  look_lowers (roams_status here) e knows after = refl
  look_lowers (is_worn has) e knows after = refl
  look_lowers (sees {s = s} loose here free unworn lock) e knows after = sym (loose_lowers l f s loose)
  look_lowers (finds_live here is) e knows after = refl
  look_lowers (watches has positive live next learnt) e knows after = refl
  look_lowers (watches_next has low high ne live live' next leads learnt) e knows after = refl
  look_lowers (turns_away {s = s} loose here up) e knows after = sym (loose_lowers l f s loose)
  look_lowers (steps_back {s = s} loose here up) e knows after = sym (loose_lowers l f s loose)
  look_lowers (wanders {s = s} loose here up) e knows after = sym (loose_lowers l f s loose)
  look_lowers (peeks here unready) e knows after = refl
  look_lowers (peeks_status here unready) e knows after = refl
  look_lowers (eyes {n = n} {h = h} clean durable here nonzero free unworn lock) e knows after = sym (unlowered l.slots (names_in l.slots (range_of l f n) (f.now n)) h.pending h.old clean.pending)
  look_lowers (eyes_free here is) e knows after = refl
  look_lowers (passes {n = n} {h = h} here) e knows after = unlowered l.slots (names_in l.slots (range_of l f n) (f.now n)) h.pending h.old knows.1.clean.pending
  look_lowers (loses {n = n} {h = h} here other) e knows after = unlowered l.slots (names_in l.slots (range_of l f n) (f.now n)) h.pending h.old knows.1.clean.pending
  look_lowers (misses other) e knows after = refl
  look_lowers (misses_read other small) e knows after = refl
  look_lowers (times clean below) e knows after = refl
  look_lowers (learns has positive unready learnt) e knows after = refl
  look_lowers (decides {n = n} {w = w} {h = h} {old = old} {pending = pending} has positive clean durable about learnt decided) e knows after =
      let means = clean_means f caller index since n w h knows clean.pending in
      shown_before l.slots (range_of l f n) (f.now n) (map_now f) h.name pending old knows.named knows.inside about
      (decided (range_of l f n) (f.now n) (map_now f) knows.inside knows.knows (sym e) means).0 means after.means
      ∙ sym (unlowered l.slots (names_in l.slots (range_of l f n) (f.now n)) h.pending h.old clean.pending)
  look_lowers (reads_on {s = s} {t = t} k) e knows after = loose_lowers l f t (read_after k) ∙ sym (loose_lowers l f s (read_before k))
  look_lowers (glances has unready) e knows after = refl

  -- a split weighs no more at any of its steps
  split_weighs : IsList l f → {s : Stage} {a : Action} {x : ℕ} {t : Stage} → (k : Split l g s a x t) → Sure l g f caller index since s → Sure l g (split_after k f) caller index since t
      → listed_weight l (split_after k f) ≤ listed_weight l f
  split_weighs list (fills {y = y} {offset = offset} {fresh = fresh} has positive small within soils told) knows after =
      let same = total_alike (weight_at l f) (weight_at l (with_word f fresh.node offset y)) 0 f.list
      (λ n is. ap (node_weight l.slots (range_of l f n)) (set_else f.now fresh.node offset y n (λ e. knows.at.unlisted (subst (IsListed f) e is)))) in
      omega arith
  split_weighs list (lights here leads) knows after = omega arith
  split_weighs list (switches {left = left} {fresh = fresh} here small durable soiled cut told means) knows after =
      let is = cut_now l g f left fresh knows cut in
      let n = left.node in
      let y = fresh.node in
      let φ = with_next f n y in
      let listed = knows.at.listed in
      let out = knows.at.unlisted in
      let a : ℕ = anchor_in (f.now y) in
      let m = map_now f in
      let range = range_of l f n in
      let low : range_of l φ n ≡ below_key range a = range_left l f list n y listed out knows.new.here m is in
      let high : range_of l φ y ≡ from_key range a = range_fresh l f list n y listed out knows.new.here m is in
      let new : φ.now y ≡ f.now y = set_else f.now n next_offset y y (λ same. knows.apart (sym same)) in
      let less = means_less l.slots range (below_key range a) (f.now n) m (λ name inside. both_true (range name) _ inside) knows.at.settled.means in
      let more = means_less l.slots range (from_key range a) (f.now n) m (λ name inside. both_true (range name) _ inside) knows.at.settled.means in
      let alone = means_less l.slots (λ name. range_of l φ n name || range_of l φ y name) (range_of l φ n) (φ.now n) m (λ name inside. ap (λ b. b || range_of l φ y name) inside) after.at.means in
      let kept : names_in l.slots (range_of l φ n) (φ.now n) ≡ names_in l.slots (below_key range a) (f.now n) =
      same_names l.slots (range_of l φ n) (φ.now n) (f.now n) m alone (subst (λ (r : List ℕ → Bool). Means l.slots r (f.now n) m) (sym low) less)
      ∙ ap (λ (r : List ℕ → Bool). names_in l.slots r (f.now n)) low in
      let taken : names_in l.slots (range_of l φ y) (φ.now y) ≡ names_in l.slots (from_key range a) (f.now y) = (λ i. names_in l.slots (high i) (new i)) in
      let moved : names_in l.slots (from_key range a) (f.now y) ≡ names_in l.slots (from_key range a) (f.now n) = same_names l.slots (from_key range a) (f.now y) (f.now n) m is.means more in
      let parts = names_parts l.slots range a (f.now n) in
      let full = is.full in
      let half = is.half in
      let longer = total_cut f.now (weight_at l φ) n (new_member f.now y) 0 f.list list.chain (rise_from l f list) listed in
      let one = total_one f.now (weight_at l f) (weight_at l φ) n 0 f.list list.chain (rise_from l f list) listed
      (λ k in_list other. λ i. node_weight l.slots (range_other l f list n y listed out knows.new.here m is k other (λ e. out (subst (IsListed f) e in_list)) i) (set_else f.now n next_offset y k other i)) in
      let less_weight : weight_at l φ n + weight_at l φ y ≤ weight_at l f n =
      let whole = halves_weigh l.slots (names_in l.slots (range_of l φ n) (φ.now n)) (names_in l.slots (range_of l φ y) (φ.now y)) (names_in l.slots range (f.now n)) (omega arith) (omega arith) (omega arith) in
      whole in
      omega arith
  split_weighs list (glances_left has learnt) knows after = omega arith
  split_weighs list (glances_fresh has) knows after = omega arith
  split_weighs list (drains_left has small hand cleans) knows after = omega arith
  split_weighs list (drains_fresh has small hand cleans) knows after = omega arith
  split_weighs list (trims {y = y} {left = left} {fresh = fresh} here small durable soiled anchor told means) knows after =
      let n = left.node in
      let φ = with_word f n bitmap_offset y in
      let m = map_now f in
      let before = means_less l.slots (λ name. range_of l f n name || range_of l f fresh.node name) (range_of l f n) (f.now n) m (λ name inside. ap (λ b. b || range_of l f fresh.node name) inside) knows.at.means in
      let same = same_names l.slots (range_of l f n) (f.now n) (φ.now n) m before after.at.settled_left.means in
      let one = content_weighs l f list n bitmap_offset y knows.at.listed in
      omega arith

  -- neither does a merge, with the node that it leaves out
  merge_weighs : IsList l f → {s : Stage} {a : Action} {x : ℕ} {t : Stage} → (k : Merge l g s a x t) → Sure l g f caller index since s → Sure l g (merge_after k f) caller index since t
      → own_sum l (merge_after k f) t ≤ own_sum l f s
  merge_weighs list (meets here same untimed leads) knows after = omega arith
  merge_weighs list (knows_own has positive learnt) knows after = omega arith
  merge_weighs list (knows_right has positive told) knows after = omega arith
  merge_weighs list (copies {n = n} {y = y} {offset = offset} {h = h} has content small soils learnt means) knows after =
      let φ = with_word f n offset y in
      let one = content_weighs l f list n offset y (inside_listed l f list n h.name knows.0.inside) in
      let names = same_names l.slots (range_of l f n) (f.now n) (φ.now n) (pended h.pending (map_now f)) knows.0.means after.0.means in
      omega arith
  merge_weighs list (takes_up has) knows after = omega arith
  merge_weighs list (puts_down has small hand cleans) knows after = omega arith
  merge_weighs list (parts {n = n} {freed = freed} {h = h} {right = right} next) knows after =
      let none = unlowered l.slots (names_in l.slots (range_of l f n) (f.now n)) h.pending h.old knows.1.still.pending in
      omega arith
  merge_weighs list (gathers {n = n} {w = w} {y = y} {h = h} {right = right} small durable soiled told gathered) knows after =
      let φ = with_word f n bitmap_offset y in
      let one = content_weighs l f list n bitmap_offset y (inside_listed l f list n h.name knows.0.inside) in
      let now = means_less l.slots (λ name. range_of l f n name || range_of l f right.node name) (range_of l f n) (φ.now n) (map_now f)
      (λ name inside. ap (λ b. b || range_of l f right.node name) inside) after.at.linked.means in
      let names = same_names l.slots (range_of l f n) (f.now n) (φ.now n) (map_now f) (clean_means f caller index since n w h knows.0 knows.1.still.pending) now in
      omega arith
  merge_weighs list (joins {y = y} {left = left} {right = right} small durable soiled next told) knows after =
      let n = left.node in
      let r = right.node in
      let φ = with_past f n y r in
      let was = knows.at.linked in
      let on : f.now r next_offset ≡ y = next (f.now r) knows.other.seen in
      let list' = list_past l f list n y r was.listed was.leads knows.nonzero on in
      let listed' = listed_else l f list n y r was.listed was.leads knows.nonzero on n knows.apart was.listed in
      let one = total_one φ.now (weight_at l f) (weight_at l φ) n 0 φ.list list'.chain (rise_from l φ list') listed'
      (λ k in_list other. λ i. node_weight l.slots
      (range_past l f list n y r was.listed was.leads knows.nonzero on k other (λ e. listed_not l f list n y r was.listed was.leads knows.nonzero on (subst (IsListed φ) e in_list)) i)
      (set_else f.now n next_offset y k other i)) in
      let fewer : listed_weight l φ + weight_at l f n + weight_at l f r ≡ listed_weight l f + weight_at l φ n = ⊎_elim
      (λ (z : r ≡ 0). absurd (knows.nonzero z))
      (λ among. let past = total_past (weight_at l f) r 0 f.list among in omega arith)
      was.listed_fresh in
      let few = after.at.few in
      merged_less (l.slots / 2) (names_in l.slots (range_of l f n) (f.now n)) (names_in l.slots (range_of l f r) (f.now r)) (names_in l.slots (range_of l φ n) (φ.now n)) (listed_weight l φ) (listed_weight l f) fewer few
  merge_weighs list (glances_joined has learnt) knows after = omega arith
  merge_weighs list (drains_joined has small hand cleans) knows after = omega arith
  merge_weighs list (retires durable) knows after = omega arith
  merge_weighs list (yields next durable) knows after = omega arith

  own_weighs : IsList l f → {s : Stage} {a : Action} {x : ℕ} {t : Stage} {r : Option (Once Placed)} → (k : Step l g s a x t r) → Gives k f → Sure l g f caller index since s
      → Sure l g (fact_after k f caller index) caller index since t → RisesBy (AddsName l s a t) (own_sum l f s) (own_sum l (fact_after k f caller index) t)
  own_weighs list (looks look) e knows after = let same = look_lowers look e knows after in inl (omega arith)
  own_weighs list (locks same named live between) e knows after = inl (omega arith)
  own_weighs list (locks_read same named live between unworn taken small) e knows after = inl (omega arith)
  own_weighs list (stores {n = n} {y = y} {offset = offset} {h = h} has content small clean soils learnt means) e knows after =
      let φ = with_word f n offset y in
      let one = content_weighs l f list n offset y (inside_listed l f list n h.name knows.inside) in
      let names = same_names l.slots (range_of l f n) (f.now n) (φ.now n) (pended h.pending (map_now f)) knows.means after.means in
      let before = unlowered l.slots (names_in l.slots (range_of l f n) (f.now n)) h.pending h.old clean.pending in
      let stays = unlowered l.slots (names_in l.slots (range_of l f n) (φ.now n)) h.pending h.old clean.pending in
      inl (omega arith)
  own_weighs list (commits {n = n} {w = w} {y = y} {offset = offset} {h = h} {k = k} {dirty = dirty} {old = old} {c = c} has content small clean durable soiled old_known about learnt means) e knows after =
      let φ = with_word f n offset y in
      let one = content_weighs l f list n offset y (inside_listed l f list n h.name knows.inside) in
      let before = unlowered l.slots (names_in l.slots (range_of l f n) (f.now n)) h.pending h.old clean.pending in
      let stays : lowered_by l.slots (names_in l.slots (range_of l f n) (φ.now n)) (Some c) h.old ≡ lowered_by l.slots (names_in l.slots (range_of l f n) (φ.now n)) (Some c) (Some old) =
      ap (lowered_by l.slots (names_in l.slots (range_of l f n) (φ.now n)) (Some c)) old_known in
      let weighs = change_weighs l.slots (range_of l f n) (f.now n) (φ.now n) (map_now f) c old (subst IsName (sym about) knows.named)
      (subst (λ (name : List ℕ). range_of l f n name ≡ true) (sym about) knows.inside)
      (ap (at (map_now f)) about ∙ old_is f caller index since n w h None old knows clean.placed old_known)
      (clean_means f caller index since n w h knows clean.pending) after.means in
      ⊎_elim
      (λ (less : node_weight l.slots (range_of l f n) (φ.now n) + lowered_by l.slots (names_in l.slots (range_of l f n) (φ.now n)) (Some c) (Some old) ≤ node_weight l.slots (range_of l f n) (f.now n)). inl (omega arith))
      (λ (more : IsNewPut c old × (node_weight l.slots (range_of l f n) (φ.now n) + lowered_by l.slots (names_in l.slots (range_of l f n) (φ.now n)) (Some c) (Some old) ≤ node_weight l.slots (range_of l f n) (f.now n) + 1)).
      let put = more.0 in
      let most = more.1 in
      ⊎_elim
      (λ (bits : offset ≡ bitmap_offset).
      inr (
        record {
          node = n;
          lock = w;
          before = h;
          after = record h { known = k; dirty = dirty; hand = None; pending = Some c };
          was = refl;
          is = refl;
          unshown = clean.pending;
          unplaced = clean.placed;
          new = old_known ∙ ap Some put.new;
          name = put.name;
          value = put.value;
          shows = ap Some put.put;
          bitmap = y;
          stores = ap (λ o. Store (word_address l n o) y) bits;
        },
        omega arith,
      ))
      (λ (other : offset ≢ bitmap_offset).
      -- no other store adds a name
      let few = names_by_bits l.slots (range_of l f n) (f.now n) (φ.now n) (clean_means f caller index since n w h knows clean.pending).tidy knows.stays
      (set_other f.now n offset y n bitmap_offset (λ _ e. other (sym e))) in
      let none : lowered_by l.slots (names_in l.slots (range_of l f n) (φ.now n)) (Some c) (Some old) ≡ 0 = ap (λ d. lowered_by l.slots (names_in l.slots (range_of l f n) (φ.now n)) (Some d) (Some old)) put.put in
      inl (omega arith))
      (cases_eq offset bitmap_offset))
      weighs
  own_weighs list (drains has small unready hand cleans) e knows after = inl (omega arith)
  own_weighs list (counts durable ready pending unplaced) e knows after = inl (omega arith)
  own_weighs list (unlocks next pending durable unready answers) e knows after = inl (omega arith)
  own_weighs list (claims unplaced here same) e knows after = inl (omega arith)
  own_weighs list (publishes next left fresh) e knows after = inl (omega arith)
  own_weighs list (leaves next) e knows after = inl (omega arith)
  own_weighs list (merges k) e knows after = inl (merge_weighs list k knows after)
  own_weighs list (splits k) e knows after =
      let weighs = split_weighs list k knows after in
      let none = (split_lowers l g f k).0 in
      let none' = (split_lowers l g (split_after k f) k).1 in
      inl (omega arith)

  -- what the GONE nodes weigh, with the one that a merge makes GONE
  gone_step : {s : Stage} {a : Action} {x : ℕ} {t : Stage} {r : Option (Once Placed)} → (k : Step l g s a x t r)
      → (gone_weight (l.slots / 2) (fact_after k f caller index).status l.nodes ≤ gone_weight (l.slots / 2) f.status l.nodes)
      ⊎ ((own_sum l (fact_after k f caller index) t + l.slots / 2 ≤ own_sum l f s)
      × (gone_weight (l.slots / 2) (fact_after k f caller index).status l.nodes ≤ gone_weight (l.slots / 2) f.status l.nodes + l.slots / 2))
  gone_step (looks look) = inl (omega arith)
  gone_step (locks same named live between) = inl (omega arith)
  gone_step (locks_read same named live between unworn taken small) = inl (omega arith)
  gone_step (stores has content small clean soils learnt means) = inl (omega arith)
  gone_step (commits has content small clean durable soiled old about learnt means) = inl (omega arith)
  gone_step (drains has small unready hand cleans) = inl (omega arith)
  gone_step (counts durable ready pending unplaced) = inl (omega arith)
  gone_step (unlocks next pending durable unready answers) = inl (omega arith)
  gone_step (claims unplaced here same) = inl (omega arith)
  gone_step (publishes next left fresh) = inl (omega arith)
  gone_step (leaves next) = inl (omega arith)
  gone_step (splits (fills has positive small within soils told)) = inl (omega arith)
  gone_step (splits (lights {fresh = fresh} here leads)) = inl (gone_less (l.slots / 2) f.status (λ m. cond (m == fresh.node) live_status (f.status m)) l.nodes (λ n within is. ⊎_elim
      (λ (e : n ≡ fresh.node). absurd (let no : 1 ≡ 2 = sym (ap (λ (b : Bool). cond b live_status (f.status n)) (eq-eqb n fresh.node e)) ∙ is in omega arith))
      (λ (other : n ≢ fresh.node). sym (ap (λ (b : Bool). cond b live_status (f.status n)) (ne_eqb n fresh.node other)) ∙ is)
      (cases_eq n fresh.node)))
  gone_step (splits (switches here small durable soiled cut told means)) = inl (omega arith)
  gone_step (splits (glances_left has learnt)) = inl (omega arith)
  gone_step (splits (glances_fresh has)) = inl (omega arith)
  gone_step (splits (drains_left has small hand cleans)) = inl (omega arith)
  gone_step (splits (drains_fresh has small hand cleans)) = inl (omega arith)
  gone_step (splits (trims here small durable soiled anchor told means)) = inl (omega arith)
  gone_step (merges (meets here same untimed leads)) = inl (omega arith)
  gone_step (merges (knows_own has positive learnt)) = inl (omega arith)
  gone_step (merges (knows_right has positive told)) = inl (omega arith)
  gone_step (merges (copies has content small soils learnt means)) = inl (omega arith)
  gone_step (merges (takes_up has)) = inl (omega arith)
  gone_step (merges (puts_down has small hand cleans)) = inl (omega arith)
  gone_step (merges (parts next)) = inl (omega arith)
  gone_step (merges (gathers small durable soiled told gathered)) = inl (omega arith)
  gone_step (merges (joins small durable soiled next told)) = inl (omega arith)
  gone_step (merges (glances_joined has learnt)) = inl (omega arith)
  gone_step (merges (drains_joined has small hand cleans)) = inl (omega arith)
  gone_step (merges (retires {right = right} durable)) = inr (
    omega arith,
    gone_more (l.slots / 2) f.status (λ m. cond (m == right.node) gone_status (f.status m)) right.node l.nodes (λ n within is. ⊎_elim
        (λ (e : n ≡ right.node). inr e)
        (λ (other : n ≢ right.node). inl (sym (ap (λ (b : Bool). cond b gone_status (f.status n)) (ne_eqb n right.node other)) ∙ is))
        (cases_eq n right.node)),
  )
  gone_step (merges (yields next durable)) = inl (omega arith)

-- what a call has lowered stays where its node is steady
lowered_alike : (l : Layout) (f f' : Facts) (s : Stage) → ((n : ℕ) → HoldsNode s n → IsSteady l f f' n) → lowered_in l f' s ≡ lowered_in l f s
lowered_alike l f f' Idle same = refl
lowered_alike l f f' (Saw n v w k) same = refl
lowered_alike l f f' (Holds n w h) same = λ i. lowered_by l.slots (names_in l.slots ((same n refl).range i) ((same n refl).now i)) h.pending h.old
lowered_alike l f f' (Eyes n w h m v u free) same = refl
lowered_alike l f f' (Splits left fresh phase) same = refl
lowered_alike l f f' (Wears n v) same = refl
lowered_alike l f f' (Reads n v sight told) same = refl
lowered_alike l f f' (Leaves left) same = refl
lowered_alike l f f' (Meets n w h right) same = refl
lowered_alike l f f' (Joins h left right pace) same = refl

-- the sum over the parties, where each one's part is the same
sum_same : (l : Layout) (f f' : Facts) (parties : List Party) → ((j : ℕ) (d : Party) → get_elem? parties j ≡ some d → lowered_in l f' d.stage ≡ lowered_in l f d.stage)
    → lowered_sum l f' parties ≡ lowered_sum l f parties
sum_same l f f' [] alike = refl
sum_same l f f' (d ∷ parties) alike =
    let first = alike 0 d refl in
    let rest = sum_same l f f' parties (λ j e at. alike (suc j) e at) in
    omega arith

-- the sum over the parties, where only one party's part is another
sum_set : (l : Layout) (f f' : Facts) (parties : List Party) (i : ℕ) (p q : Party) → get_elem? parties i ≡ some p
    → ((j : ℕ) (d : Party) → j ≢ i → get_elem? parties j ≡ some d → lowered_in l f' d.stage ≡ lowered_in l f d.stage)
    → lowered_sum l f' (set parties i q) + lowered_in l f p.stage ≡ lowered_sum l f parties + lowered_in l f' q.stage
sum_set l f f' [] i p q there others = absurd (some-ne-none p (sym there))
sum_set l f f' (d ∷ parties) zero p q there others =
    let first : lowered_in l f d.stage ≡ lowered_in l f p.stage = ap (λ (e : Party). lowered_in l f e.stage) (some-injective d p there) in
    let rest = sum_same l f f' parties (λ j e at. others (suc j) e (λ no. omega arith) at) in
    omega arith
sum_set l f f' (d ∷ parties) (suc i) p q there others =
    let first = others 0 d (λ no. omega arith) refl in
    let rest = sum_set l f f' parties i p q there (λ j e apart at. others (suc j) e (λ same. apart (omega arith)) at) in
    omega arith

pub step_weighs : StepWeighs
step_weighs w i p a x t r lawful there k told =
    let l = w.layout in
    let f = facts w in
    let known = lawful.sure i p there in
    let given = gives w.words w.base w.history p.caller p.index p.since k lawful.clock told known in
    let φ = fact_after k f p.caller p.index in
    let after = mine f p.caller p.index p.since (lawful.begun i p there) lawful.versions lawful.list lawful.live lawful.settled k given known in
    let same = facts_step w.words w.base w.history p.caller p.index p.since k lawful.row lawful.list told known in
    let sums = sum_set l f φ w.parties i p (moved_on p t) there (λ j d other at.
    lowered_alike l f φ d.stage (λ n holds.
    (steadies f p.caller p.index p.since k given lawful.list known d.caller d.index d.since d.stage (λ m mine theirs. other (lawful.alone j i m d p at there theirs mine)) (lawful.sure j d at) n holds))) in
    subst (λ (ψ : Facts). RisesBy (AddsName l p.stage a t) (weight_sum w) (index_weight l ψ + lowered_sum l ψ (set w.parties i (moved_on p t)))) (sym same)
    (⊎_elim
    (λ fewer. ⊎_elim
    (λ less. inl (omega arith))
    (λ more. inr (more.0, let most = more.1 in omega arith))
    (own_weighs f p.caller p.index p.since lawful.list k given known after))
    (λ retired. let less = retired.0 in let more = retired.1 in inl (omega arith))
    (gone_step {g = w.generation} f p.caller p.index p.since k))

-- who relies on nothing has lowered nothing
idle_lowers : (l : Layout) (f : Facts) (p : Party) → p.stage ≡ Idle → lowered_in l f p.stage ≡ 0
idle_lowers l f p idle = ap (lowered_in l f) idle

-- a party that relies on nothing in the place of one that did so neither adds anything nor takes it away
pub swap_weighs : (w : World) (i : ℕ) (p q : Party) → get_elem? w.parties i ≡ some p → p.stage ≡ Idle → q.stage ≡ Idle → weight_sum (record w { parties = set w.parties i q }) ≡ weight_sum w
swap_weighs w i p q there idle idle' =
    let sums = sum_set w.layout (facts w) (facts w) w.parties i p q there (λ j d other at. refl) in
    let none = idle_lowers w.layout (facts w) p idle in
    let none' = idle_lowers w.layout (facts w) q idle' in
    omega arith

pub start_weighs : StartWeighs
start_weighs w i p index there idle = swap_weighs w i p (record { caller = p.caller; index = index; since = length w.history; stage = Idle }) there idle refl

sum_more : (l : Layout) (f : Facts) (parties : List Party) (p : Party) → p.stage ≡ Idle → lowered_sum l f (parties ++ p ∷ []) ≡ lowered_sum l f parties
sum_more l f [] p idle = let none = idle_lowers l f p idle in omega arith
sum_more l f (d ∷ parties) p idle = ap (λ (rest : ℕ). lowered_in l f d.stage + rest) (sum_more l f parties p idle)

pub join_weighs : JoinWeighs
join_weighs w p idle = ap (λ (sum : ℕ). index_weight w.layout (facts w) + sum) (sum_more w.layout (facts w) w.parties p idle)

pub evict_weighs : EvictWeighs
evict_weighs w word = ap (λ (f : Facts). index_weight w.layout f + lowered_sum w.layout f w.parties) (evict_facts w word)

idle_sum : (l : Layout) (f : Facts) (parties : List Party) → Each (λ p. p.stage ≡ Idle) parties → lowered_sum l f parties ≡ 0
idle_sum l f [] idle = refl
idle_sum l f (p ∷ parties) idle =
    let first = idle_lowers l f p (idle 0 p refl) in
    let rest = idle_sum l f parties (λ j d at. idle (suc j) d at) in
    omega arith

pub idle_weighs : IdleWeighs
idle_weighs w idle = let none = idle_sum w.layout (facts w) w.parties idle in omega arith

-- What is told of a change that a node shows: its name belongs there, and it is known what the name had.
record IsTold (range : List ℕ → Bool) (m : Map) (old : Option (Option ℕ)) (c : Change) : Type 0 where
  pub named : IsName (name_of c)
  pub inside : range (name_of c) ≡ true
  pub had : old ≡ Some (at m (name_of c))

-- a node without the change that it shows weighs no more than with it, with what that has lowered
back_weighs : (slots : ℕ) (range : List ℕ → Bool) (s t : Spot) (m : Map) (pending : Option Change) (old : Option (Option ℕ)) → IfSome pending (IsTold range m old)
    → Means slots range t m → Means slots range s (pended pending m) → node_weight slots range t ≤ node_weight slots range s + lowered_by slots (names_in slots range s) pending old
back_weighs slots range s t m None old told before after = let same = same_names slots range s t m after before in omega arith
back_weighs slots range s t m (Some (Put name value)) old told before after =
    let kept = put_keeps_names slots range t s m name told.named told.inside value before after in
    omega arith
back_weighs slots range s t m (Some (Del name)) old told before after =
    elim (at m name) as (λ o. at m name ≡ o → node_weight slots range t ≤ node_weight slots range s + lowered_by slots (names_in slots range s) (Some (Del name)) old) [
      | None ↦ λ had.
          let same = del_keeps_names slots range t s m name told.named told.inside before after had in
          omega arith
      | Some value ↦ λ had.
          let less = taken slots (names_in slots range s) (names_in slots range t) (del_takes_one slots range t s m name told.named told.inside before after value had) in
          let lowered : lowered_by slots (names_in slots range s) (Some (Del name)) old ≡ lowered_by slots (names_in slots range s) (Some (Del name)) (Some (Some value)) =
          ap (lowered_by slots (names_in slots range s) (Some (Del name))) (told.had ∙ ap Some had) in
          omega arith
    ] refl

-- what the name had is known where it is there and right
known_old : (old : Option (Option ℕ)) (has : Option ℕ) → IsSome old → IfSome old (λ o. has ≡ o) → old ≡ Some has
known_old None has known is = absurd (let no_way : false ≡ true = known in cc)
known_old (Some o) has known is = ap Some (sym is)

module _ (l : Layout) (g : ℕ) (f : Facts) (words : List ℕ) (caller index since : ℕ) where
  -- of a change that is pending all this is told
  pending_told : (n w : ℕ) (h : Held) (pending : Option Change) → SureHolds l g f caller index since n w h → h.pending ≡ pending → IfSome pending (IsTold (range_of l f n) (map_now f) h.old)
  pending_told n w h None knows is = tt
  pending_told n w h (Some c) knows is =
      let about = subst (λ (p : Option Change). IfSome p (λ d. name_of d ≡ h.name)) is knows.about in
      let shown = subst (λ (p : Option Change). IfSome p (λ d. (h.placed ≡ None) × IsSome h.old)) is knows.shown in
      let had = known_old h.old (at (map_now f) h.name) shown.1 (subst (λ (p : Option ℕ). IfSome h.old (λ old. at (map_before f p) h.name ≡ old)) shown.0 knows.old) in
      record {
        named = subst IsName (sym about) knows.named;
        inside = subst (λ (name : List ℕ). range_of l f n name ≡ true) (sym about) knows.inside;
        had = had ∙ ap (λ (name : List ℕ). Some (at (map_now f) name)) (sym about);
      }

  -- the durable words of the node that a call holds
  held_weighs : (n w : ℕ) (h : Held) → SureHolds l g f caller index since n w h → IsBacked l f (durable_spot l words n) n h
      → node_weight l.slots (range_of l f n) (durable_spot l words n) ≤ node_weight l.slots (range_of l f n) (f.now n) + lowered_in l f (Holds n w h)
  held_weighs n w h knows backed = ⊎_elim
      (λ was. back_weighs l.slots (range_of l f n) (f.now n) (durable_spot l words n) (map_now f) h.pending h.old (pending_told n w h h.pending knows refl) was knows.means)
      (λ shows. let same = same_names l.slots (range_of l f n) (f.now n) (durable_spot l words n) (pended h.pending (map_now f)) knows.means shows in omega arith)
      (backed.mixes (durable_spot l words n) (λ offset. inl refl))

-- the node at which a call has lowered the weight
abbrev node_of : Stage → ℕ
node_of (Holds n w h) = n
node_of (Joins h left right pace) = left.node
node_of _ = 0

-- what the calls have lowered at a node
abbrev lowered_at : Layout → Facts → List Party → ℕ → ℕ
lowered_at l f [] n = 0
lowered_at l f (p ∷ parties) n = part_at (node_of p.stage) (lowered_in l f p.stage) n + lowered_at l f parties n

-- over all listed nodes that is no more than all that the calls have lowered
lowered_total : (l : Layout) (f : Facts) → IsList l f → (parties : List Party) → total (lowered_at l f parties) 0 f.list ≤ lowered_sum l f parties
lowered_total l f list [] = let none = total_zero 0 f.list in omega arith
lowered_total l f list (p ∷ parties) =
    let first = total_part f.now (node_of p.stage) (lowered_in l f p.stage) 0 f.list list.chain (rise_from l f list) in
    let rest = lowered_total l f list parties in
    let sums = total_plus (part_at (node_of p.stage) (lowered_in l f p.stage)) (lowered_at l f parties) 0 f.list in
    omega arith

lowered_has : (l : Layout) (f : Facts) (parties : List Party) (i : ℕ) (p : Party) (n w : ℕ) (h : Held) → get_elem? parties i ≡ some p → p.stage ≡ Holds n w h
    → lowered_in l f (Holds n w h) ≤ lowered_at l f parties n
lowered_has l f [] i p n w h there is = absurd (some-ne-none p (sym there))
lowered_has l f (d ∷ parties) zero p n w h there is =
    let stage : d.stage ≡ Holds n w h = ap (λ (e : Party). e.stage) (some-injective d p there) ∙ is in
    let part : part_at (node_of d.stage) (lowered_in l f d.stage) n ≡ lowered_in l f (Holds n w h) =
    ap (λ s. part_at (node_of s) (lowered_in l f s) n) stage ∙ part-here n (lowered_in l f (Holds n w h)) n refl in
    omega arith
lowered_has l f (d ∷ parties) (suc i) p n w h there is = let rest = lowered_has l f parties i p n w h there is in omega arith

-- what any stage has lowered at its node
lowered_there : (l : Layout) (f : Facts) (parties : List Party) (i : ℕ) (p : Party) (stage : Stage) → get_elem? parties i ≡ some p → p.stage ≡ stage
    → lowered_in l f stage ≤ lowered_at l f parties (node_of stage)
lowered_there l f [] i p stage there is = absurd (some-ne-none p (sym there))
lowered_there l f (d ∷ parties) zero p stage there is =
    let same : d.stage ≡ stage = ap (λ (e : Party). e.stage) (some-injective d p there) ∙ is in
    let part : part_at (node_of d.stage) (lowered_in l f d.stage) (node_of stage) ≡ lowered_in l f stage =
    ap (λ s. part_at (node_of s) (lowered_in l f s) (node_of stage)) same ∙ part-here (node_of stage) (lowered_in l f stage) (node_of stage) refl in
    omega arith
lowered_there l f (d ∷ parties) (suc i) p stage there is = let rest = lowered_there l f parties i p stage there is in omega arith

or_true : (b : Bool) → (b || true) ≡ true
or_true true = refl
or_true false = refl

-- two halves weigh no less than the whole
whole_weighs : (slots one other all : ℕ) → all ≤ one + other → slots / 2 + (all - slots / 2) ≤ (slots / 2 + (one - slots / 2)) + (slots / 2 + (other - slots / 2))
whole_weighs slots one other all most = omega arith

more_weighs : (slots few many : ℕ) → few ≤ many → slots / 2 + (few - slots / 2) ≤ slots / 2 + (many - slots / 2)
more_weighs slots few many less = omega arith

module _ (w : World) (lawful : Lawful w) where
  abbrev f : Facts
  f = facts w

  abbrev slots : ℕ
  slots = w.layout.slots

  abbrev safe : ℕ → Spot
  safe = durable_spot w.layout w.words

  abbrev cost : ℕ → ℕ
  cost n = weight_at w.layout f n + lowered_at w.layout f w.parties n

  equal_weighs : (n : ℕ) → ((offset : ℕ) → safe n offset ≡ f.now n offset) → node_weight slots (range_of w.layout f n) (safe n) ≤ cost n
  equal_weighs n same = let is : node_weight slots (range_of w.layout f n) (safe n) ≡ weight_at w.layout f n = ap (node_weight slots (range_of w.layout f n)) (λ k offset. same offset k) in omega arith

  means_weighs : (n : ℕ) → Means slots (range_of w.layout f n) (safe n) (map_now f) → Means slots (range_of w.layout f n) (f.now n) (map_now f) → node_weight slots (range_of w.layout f n) (safe n) ≤ cost n
  means_weighs n durably now = let same = same_names slots (range_of w.layout f n) (safe n) (f.now n) (map_now f) durably now in omega arith

  linked_means : (left fresh : Grip) → IsLinked w.layout f left fresh → BacksSplit w.layout f w.words left fresh Linked
      → Means slots (λ name. range_of w.layout f left.node name || range_of w.layout f fresh.node name) (safe left.node) (map_now f)
  linked_means left fresh at backed =
      means_beside slots (λ name. range_of w.layout f left.node name || range_of w.layout f fresh.node name) (f.now left.node) (safe left.node) (map_now f) backed.left_backed.0 at.means

  -- what the durable words of a node weigh on its range
  stage_weighs : (n i : ℕ) (p : Party) (stage : Stage) → get_elem? w.parties i ≡ some p → p.stage ≡ stage → HoldsNode stage n → IsListed f n
      → Sure w.layout w.generation f p.caller p.index p.since stage → BacksStage w.layout f w.words stage → node_weight slots (range_of w.layout f n) (safe n) ≤ cost n
  stage_weighs n i p Idle there is holds listed sure backed = absurd holds
  stage_weighs n i p (Saw m v u k) there is holds listed sure backed = absurd holds
  stage_weighs n i p (Holds m u h) there is holds listed sure backed = subst (λ k. node_weight slots (range_of w.layout f k) (safe k) ≤ cost k) holds
      (let less = held_weighs w.layout w.generation f w.words p.caller p.index p.since m u h sure backed in
      let has = lowered_has w.layout f w.parties i p m u h there is in
      omega arith)
  stage_weighs n i p (Eyes m u h k v z free) there is holds listed sure backed = subst (λ k. node_weight slots (range_of w.layout f k) (safe k) ≤ cost k) holds
      (let less = held_weighs w.layout w.generation f w.words p.caller p.index p.since m u h sure.0 backed in
      let none = unlowered slots (names_in slots (range_of w.layout f m) (f.now m)) h.pending h.old sure.1.clean.pending in
      omega arith)
  stage_weighs n i p (Wears m v) there is holds listed sure backed = absurd holds
  stage_weighs n i p (Reads m v sight told) there is holds listed sure backed = absurd holds
  stage_weighs n i p (Leaves left) there is holds listed sure backed = subst (λ k. node_weight slots (range_of w.layout f k) (safe k) ≤ cost k) holds (equal_weighs left.node backed)
  stage_weighs n i p (Splits left fresh (Filling lit)) there is (inl holds) listed sure backed =
      subst (λ k. node_weight slots (range_of w.layout f k) (safe k) ≤ cost k) holds (equal_weighs left.node backed.left_backed)
  stage_weighs n i p (Splits left fresh (Filling lit)) there is (inr holds) listed sure backed = absurd (sure.at.unlisted (subst (IsListed f) (sym holds) listed))
  stage_weighs n i p (Splits left fresh Linked) there is (inl holds) listed sure backed =
      let both : List ℕ → Bool = λ name. range_of w.layout f left.node name || range_of w.layout f fresh.node name in
      let part : (name : List ℕ) → range_of w.layout f left.node name ≡ true → both name ≡ true = λ name inside. ap (λ b. b || range_of w.layout f fresh.node name) inside in
      subst (λ k. node_weight slots (range_of w.layout f k) (safe k) ≤ cost k) holds
      (means_weighs left.node (means_less slots both (range_of w.layout f left.node) (safe left.node) (map_now f) part (linked_means left fresh sure.at backed))
      (means_less slots both (range_of w.layout f left.node) (f.now left.node) (map_now f) part sure.at.means))
  stage_weighs n i p (Splits left fresh Linked) there is (inr holds) listed sure backed =
      subst (λ k. node_weight slots (range_of w.layout f k) (safe k) ≤ cost k) holds (equal_weighs fresh.node backed.fresh_backed)
  stage_weighs n i p (Splits left fresh Parted) there is (inl holds) listed sure backed =
      subst (λ k. node_weight slots (range_of w.layout f k) (safe k) ≤ cost k) holds
      (means_weighs left.node (backed.left_backed.1 (safe left.node) (λ offset. inl refl)) sure.at.settled_left.means)
  stage_weighs n i p (Splits left fresh Parted) there is (inr holds) listed sure backed =
      subst (λ k. node_weight slots (range_of w.layout f k) (safe k) ≤ cost k) holds (equal_weighs fresh.node backed.fresh_backed)
  stage_weighs n i p (Meets m u h right) there is (inl holds) listed sure backed = subst (λ k. node_weight slots (range_of w.layout f k) (safe k) ≤ cost k) holds
      (let less = held_weighs w.layout w.generation f w.words p.caller p.index p.since m u h sure.0 backed.0 in
      let none = unlowered slots (names_in slots (range_of w.layout f m) (f.now m)) h.pending h.old sure.1.still.pending in
      omega arith)
  stage_weighs n i p (Meets m u h right) there is (inr holds) listed sure backed =
      subst (λ k. node_weight slots (range_of w.layout f k) (safe k) ≤ cost k) holds (equal_weighs right.node backed.1)
  stage_weighs n i p (Joins h left right Gathered) there is (inl holds) listed sure backed =
      let both : List ℕ → Bool = λ name. range_of w.layout f left.node name || range_of w.layout f right.node name in
      subst (λ k. node_weight slots (range_of w.layout f k) (safe k) ≤ cost k) holds
      (means_weighs left.node (backed.left_backed.1 (safe left.node) (λ offset. inl refl))
      (means_less slots both (range_of w.layout f left.node) (f.now left.node) (map_now f) (λ name inside. ap (λ b. b || range_of w.layout f right.node name) inside) sure.at.linked.means))
  stage_weighs n i p (Joins h left right Gathered) there is (inr holds) listed sure backed =
      subst (λ k. node_weight slots (range_of w.layout f k) (safe k) ≤ cost k) holds (equal_weighs right.node backed.right_backed)
  stage_weighs n i p (Joins h left right Joined) there is (inl holds) listed sure backed =
      subst (λ k. node_weight slots (range_of w.layout f k) (safe k) ≤ cost k) holds
      (means_weighs left.node (means_beside slots (range_of w.layout f left.node) (f.now left.node) (safe left.node) (map_now f) backed.left_backed.0 sure.at.settled.means) sure.at.settled.means)
  stage_weighs n i p (Joins h left right Joined) there is (inr holds) listed sure backed = absurd (sure.at.unlisted (subst (IsListed f) (sym holds) listed))
  stage_weighs n i p (Joins h left right Gone) there is (inl holds) listed sure backed =
      subst (λ k. node_weight slots (range_of w.layout f k) (safe k) ≤ cost k) holds (equal_weighs left.node backed.left_backed)
  stage_weighs n i p (Joins h left right Gone) there is (inr holds) listed sure backed = absurd (sure.at.unlisted (subst (IsListed f) (sym holds) listed))

  listed_weighs : (n : ℕ) → IsListed f n → node_weight slots (range_of w.layout f n) (safe n) ≤ cost n
  listed_weighs n listed =
      let here = listed_within w.layout f lawful.list lawful.row.layout n listed in
      ⊎_elim
      (λ (free : IsFree (f.version n) w.generation). equal_weighs n (lawful.durable n here free))
      (λ (held : IsHeld w.parties n). stage_weighs n held.number held.party held.party.stage held.there refl held.holds listed
      (lawful.sure held.number held.party held.there) (lawful.backed held.number held.party held.there))
      (lawful.held n here)

  -- and where it skips one, on the ranges of both
  skips_weighs : (n : ℕ) → IsSkip w n
      → node_weight slots (λ name. range_of w.layout f n name || range_of w.layout f (f.now n next_offset) name) (safe n) ≤ cost n + cost (f.now n next_offset)
  skips_weighs n skip =
      let y : ℕ = f.now n next_offset in
      let both : List ℕ → Bool = λ name. range_of w.layout f n name || range_of w.layout f y name in
      let parts = names_or slots (range_of w.layout f n) (range_of w.layout f y) (safe n) in
      let moved = same_names slots (range_of w.layout f y) (safe n) (safe y) (map_now f)
      (means_less slots both (range_of w.layout f y) (safe n) (map_now f) (λ name inside. ap (λ b. range_of w.layout f n name || b) inside ∙ or_true (range_of w.layout f n name)) skip.means) skip.beyond in
      let all = whole_weighs slots (names_in slots (range_of w.layout f n) (safe n)) (names_in slots (range_of w.layout f y) (safe y)) (names_in slots both (safe n)) (omega arith) in
      let one = listed_weighs n skip.listed in
      let other = listed_weighs y (leads_on w.layout f lawful.list n skip.listed skip.ne) in
      omega arith

  -- and with the node that is put back behind it
  backs_weigh : (n r few more : ℕ) → IsBack w n r → few ≤ names_in slots (range_of w.layout f n) (safe n)
      → more ≤ names_in slots (from_key (range_of w.layout f n) (anchor_in (safe r))) (safe r) → (slots / 2 + (few - slots / 2)) + (slots / 2 + (more - slots / 2)) ≤ cost n
  backs_weigh n r few more back low high =
      let lowered : slots / 2 ≤ lowered_at w.layout f w.parties n =
      subst (λ k. slots / 2 ≤ lowered_at w.layout f w.parties k) back.at_left (lowered_there w.layout f w.parties back.number back.party (Joins back.held back.left back.right Joined) back.there back.stage) in
      let a = back.few in
      let b = back.few_right in
      omega arith

  weight_thin : total (λ n. node_weight slots (λ name. target_from 0 (thinned w lawful).to (key_of name) == n) (safe n)) 0 (thinned w lawful).to ≤ weight_sum w
  weight_thin =
      let thin = thinned w lawful in
      let weighs = thin.weighs (λ n. node_weight slots (λ name. target_from 0 thin.to (key_of name) == n) (safe n)) cost
      (λ n is same.
      let few = names_less slots (λ name. target_from 0 thin.to (key_of name) == n) (range_of w.layout f n) (safe n) (λ name inside. plain_within w lawful n is same name inside) in
      let less = more_weighs slots (names_in slots (λ name. target_from 0 thin.to (key_of name) == n) (safe n)) (names_in slots (range_of w.layout f n) (safe n)) few in
      let listed = listed_weighs n is in
      omega arith)
      (λ n is skip.
      let both : List ℕ → Bool = λ name. range_of w.layout f n name || range_of w.layout f (f.now n next_offset) name in
      let few = names_less slots (λ name. target_from 0 thin.to (key_of name) == n) both (safe n) (λ name inside. skip_within w lawful n is name inside) in
      let less = more_weighs slots (names_in slots (λ name. target_from 0 thin.to (key_of name) == n) (safe n)) (names_in slots both (safe n)) few in
      let listed = skips_weighs n skip in
      omega arith)
      (λ n r is back.
      let few = names_less slots (λ name. target_from 0 thin.to (key_of name) == n) (range_of w.layout f n) (safe n) (λ name inside. back_within w lawful n r back name inside) in
      let more = names_less slots (λ name. target_from 0 thin.to (key_of name) == r) (from_key (range_of w.layout f n) (anchor_in (safe r))) (safe r) (λ name inside. put_within w lawful n r back name inside) in
      backs_weigh n r (names_in slots (λ name. target_from 0 thin.to (key_of name) == n) (safe n)) (names_in slots (λ name. target_from 0 thin.to (key_of name) == r) (safe r)) back few more) in
      let sums = total_plus (weight_at w.layout f) (lowered_at w.layout f w.parties) 0 f.list in
      let lowered = lowered_total w.layout f lawful.list w.parties in
      omega arith

pub crash_weighs : CrashWeighs
crash_weighs w lawful = subst
    (λ (to : List ListNode). total (λ n. node_weight w.layout.slots (λ name. target_from 0 to (key_of name) == n) (durable_spot w.layout w.words n)) 0 to ≤ weight_sum w)
    (sym (same_list w lawful)) (weight_thin w lawful)
