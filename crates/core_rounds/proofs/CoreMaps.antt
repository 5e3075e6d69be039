-- The index as a map of names: its names counted, its calls left, and its shape.
use native.Mathlib.Nat.{mul-le-mul}
use Rattle.std.proofs.Common.{◌≡◌, ◌≢◌, ℕ, ◌+◌, ◌-◌, ◌*◌, ◌/◌, ◌<◌, ◌≤◌, ◌==◌, ◌&&◌, Bool, true, false, cond, zero, suc}
use Rattle.std.proofs.Common.{List, [], ◌∷◌, length, ◌⊎◌, ⊎_elim, refl, le_trans, inl, inr, sym, ap, ◌∙◌, subst}
use Rattle.std.proofs.Common.{arith, length-append, ◌++◌, append-nil}
use Rattle.std.specs.Prelude.{Option, ◌↔◌, ◌^◌, is_none, nat_lt, Some, None, OnErr, Result, Ok, Err}
use Rattle.std.specs.List.{flat_map, AllByRecursion}
use Rattle.std.specs.Option.{is_some}
use Rattle.std.specs.FinMap.{insert, remove, len, len-insert, len-remove, empty_of_len, get-empty}
use Rattle.std.proofs.lemmas.Bool.{cases_eq, cases_lt, eq-eqb, false≢true, le-ltb, lt-ltb}
use Rattle.std.proofs.Math.Nat.{le-min, min-le_right}
use Rattle.std.proofs.lemmas.Cmp.{nat_list_cmp_total}
use Rattle.cat_key.specs.Names.{IsName, name_cmp}
use Rattle.cat_history.specs.Maps.{Map, at, map_of}
use Rattle.cat_history.specs.Writes.{after_all}
use Rattle.pm_words.specs.Codes.{empty_state, ready_state}
use Rattle.pm_words.specs.declared.layout.Layout.{Layout}
use Rattle.shapes.specs.Members.{Member, members}
use Rattle.shapes.specs.ShapeRounds.{PutsFull}
use Rattle.cat_history.specs.Records.{as_op, change_of}
use Rattle.cat_history.specs.declared.op.Change.{Change}
use Rattle.cat_history.specs.declared.op.Write.{Write}
use Rattle.call_stages.specs.Stages.{pended}
use Rattle.index_law.specs.Worlds.{written}
use Rattle.index_law.proofs.Maps.{after_all-push}
use Rattle.shapes.specs.Anchors.{merges}
use Rattle.shapes.proofs.Agreements.{length-members, put-stays}
use Rattle.shapes.proofs.Shapes.{len-keys, del-stays}
use Rattle.shapes.proofs.Targets.{members_part_names}
use Rattle.call_stages.specs.declared.once.Once.{Once}
use Rattle.call_stages.specs.declared.once.Once.TheVariants as once
use Rattle.call_stages.specs.declared.once.Placed.{Placed}
use Rattle.recovery.specs.node_ops.specs.declared.part.PartWords.{PartWords}
use Rattle.pm_words.specs.declared.again.Again.{Again}
use Rattle.recovery.specs.node_ops.specs.Asked.{name_asked}
use Rattle.data_node.specs.Lists.{key_of}
use Rattle.data_node.proofs.ListLemmas.{chain_closed, target_in}
use Rattle.shapes.specs.ShapeRounds.{IsShapeWithin}
use Rattle.index_law.specs.Anchors.{anchors_of, anchors_in}
use Rattle.index_law.specs.Worlds.{World, facts}
use Rattle.index_law.proofs.Holding.{idle_has_shape}
use Rattle.index_law.proofs.Starts.{listed_within}
use Rattle.recovery.specs.lone_call_law.specs.Merging.{NextIsWorn, next_node}
use Rattle.recovery.specs.lone_call_law.specs.Locks.{fewest_locks}
use Rattle.recovery.specs.lone_call_law.proofs.Locks.{worn_has_none}
use Rattle.recovery.specs.index_core.specs.Indexes.{Index, IsIndex, map_of_index, world}
use Rattle.recovery.specs.index_core.specs.Lone.{IsQuiet, FindsNoRoom, FindsWornNode, HasSameList, IsOver, IsWornNode}
use Rattle.recovery.specs.index_core.specs.Lone.{IsWholeAnswer, RunsAlone, LeavesList, most_tries, SplitsFor}
use Rattle.recovery.specs.index_core.specs.Lone.{SplitsNothing, MergesFor, MergesNothing, node_for, locks_left}
use Rattle.recovery.specs.index_core.specs.Lone.{IsMadeAgain, TakesLocks, alone_writes, whole_of, part_whole}
use Rattle.recovery.specs.index_core.specs.declared.party.CoreCall.TheVariants as call
use Rattle.recovery.specs.index_core.specs.declared.party.CoreCall.{CoreCall}
use Rattle.recovery.specs.index_core.specs.declared.party.Whole.{Whole}
use Rattle.recovery.specs.index_core.specs.declared.party.Whole.TheVariants as whole
use Rattle.recovery.specs.index_core.specs.CoreCalls.{op_of, most_writes}
use Rattle.recovery.specs.index_core.specs.Fulls.{HasLowStamps}
use Rattle.recovery.specs.index_core.specs.Weights.{added_if, added_whole, put_count, weight_of}
use Rattle.cat_history.specs.declared.op.NameOp.{NameOp}
use Rattle.cat_history.specs.declared.op.NameOp.TheVariants as op
use Rattle.recovery.specs.lone_updater_law.specs.CallLogs.{is_own_empty}
use Rattle.recovery.specs.lone_updater_law.specs.LoneTurns.{is_ready, line_state, stamp_in, stamp_then}
use Rattle.recovery.specs.updater_row_law.specs.Columns.{column, line_count, line_word}
use Rattle.recovery.specs.updater_row_law.proofs.RowColumns.{column-here}
use Rattle.recovery.specs.image_recovery_law.proofs.RowColumns.{word_if-here}
use Rattle.recovery.specs.updater.specs.Events.{how_many}
use Rattle.recovery.specs.updater.specs.declared.terms.Turned.{Turned}
use Rattle.recovery.specs.index_core.specs.Turns.{TurnsAlone}
use Rattle.recovery.specs.index_core.proofs.WornNodes.{worn_target}
use Rattle.recovery.specs.index_core.proofs.Retrying.{stamped_are_gone, tries_between}
use Rattle.recovery.specs.index_core.proofs.Quiet.{quiet_parties}
use Rattle.recovery.specs.index_core.proofs.Fulls.{no_room_is_full_put}
use Rattle.std.proofs.lemmas.List.{length-map}
use Rattle.std.specs.FinMap.{entries, len-entries}
use Rattle.cat_history.proofs.ReplayLemmas.{map_of-pairs_of}
use Rattle.pm_words.specs.Images.{Row}
use Rattle.pm_words.specs.Locations.{Cached}
use Rattle.pm_words.specs.Locations as positions
use Rattle.pm_words.specs.Offsets.{state_offset}
use Rattle.image_rules.specs.Sound.{IsMapOf, image_map}
use Rattle.index_law.specs.Anchors.{image_anchors}
use Rattle.core_rounds.specs.CoreMaps.{calls_left_of, writes_left_of, IsUnlimited, HasNoLines, IsCoreMap, IsOfRun}
use Rattle.core_rounds.specs.CoreMaps.{OpenedIsMap, StaysQuiet, Waits, anchors_made, state_of}
use Rattle.core_rounds.specs.Updated.{HoldsSame, IsInShape, UsesUp}
use Rattle.core_rounds.specs.Waiting.{one_if}
use Rattle.recovery.specs.Opened.{IsOpenedFrom}
use Rattle.recovery.proofs.Opened.{with_room}

-- names are counted beside what leaves a map of so many names
names_counted : (s s' : Index) (m : Map) (count : ℕ → ℕ) (names names' : ℕ) → IsCoreMap s names → {calls writes : ℕ} → StaysQuiet s s' calls writes →
    map_of_index s' ≡ m → len m ≡ count (len (map_of_index s)) → names' ≡ count names → IsCoreMap s' names'
names_counted s s' m count names names' was stays after size counts = record {
  index = stays.index;
  quiet = stays.quiet;
  stamps = stays.stamps was.stamps;
  counted = counts ∙ ap count was.counted ∙ sym (ap len after ∙ size);
}

-- a put of a name that the map lacks adds one, and of one that it has adds none
pub put_counted : (s s' : Index) (name : List ℕ) (value names names' : ℕ) (old : Option ℕ) (b : Bool) → IsCoreMap s names → {calls writes : ℕ} → StaysQuiet s s' calls writes →
    old ≡ at (map_of_index s) name → map_of_index s' ≡ insert (map_of_index s) name value → is_some old ≡ b → names' ≡ cond b names (names + 1) → IsCoreMap s' names'
put_counted s s' name value names names' old b was stays told after is counts =
    let m = map_of_index s in
    let has : is_some (at m name) ≡ b = sym (ap is_some told) ∙ is in
    names_counted s s' (insert m name value) (λ (n : ℕ). cond b n (n + 1)) names names' was stays after
    (len-insert nat_list_cmp_total m name value ∙ ap (λ (c : Bool). cond c (len m) (len m + 1)) has) counts

-- and so many names it has as long as it holds the same
pub same_counted : (s s' : Index) (names : ℕ) → IsCoreMap s names → {calls writes : ℕ} → StaysQuiet s s' calls writes → HoldsSame (state_of s) (state_of s') → IsCoreMap s' names
same_counted s s' names was stays same = names_counted s s' (map_of_index s) (λ (n : ℕ). n) names names was stays same.contents refl refl

-- a map that has a name has one at least
some_name : (m : Map) (name : List ℕ) → is_some (at m name) ≡ true → 1 ≤ len m
some_name m name has =
    elim (cases_eq (len m) 0) [
      | inl none ↦
          let lacks : is_some (at m name) ≡ false = ap (λ (n : Map). is_some (at n name)) (empty_of_len m none) ∙ ap is_some (get-empty name_cmp name) in
          absurd (false≢true (sym lacks ∙ has))
      | inr other ↦ omega arith
    ]

-- a count of names from which a name that is there can be taken
pub told_name : (s : Index) (name : List ℕ) (names : ℕ) (old : Option ℕ) → IsCoreMap s names → old ≡ at (map_of_index s) name → is_some old ≡ true → 1 ≤ names
told_name s name names old was told is = let one = some_name (map_of_index s) name (sym (ap is_some told) ∙ is) in let counted = was.counted in omega (arith, one, counted)

-- a removal of a name that the map has takes one, and of one that it lacks takes none
pub removal_counted : (s s' : Index) (name : List ℕ) (names names' : ℕ) (old : Option ℕ) (b : Bool) → IsCoreMap s names → {calls writes : ℕ} → StaysQuiet s s' calls writes →
    old ≡ at (map_of_index s) name → map_of_index s' ≡ remove (map_of_index s) name → is_some old ≡ b → names' ≡ cond b (names - 1) names → IsCoreMap s' names'
removal_counted s s' name names names' old b was stays told after is counts =
    let m = map_of_index s in
    let has : is_some (at m name) ≡ b = sym (ap is_some told) ∙ is in
    names_counted s s' (remove m name) (λ (n : ℕ). cond b (n - 1) n) names names' was stays after
    (len-remove nat_list_cmp_total m name ∙ ap (λ (c : Bool). cond c (len m - 1) (len m)) has) counts

-- members have no more names in all than slots
each_few : (members_are : List Member) (slots : ℕ) → slots ≤ 64 → AllByRecursion (λ (m : Member). length m.names ≤ slots) members_are →
    length (flat_map (λ (m : Member). m.names) members_are) ≤ length members_are * 64
each_few [] slots most fits = omega arith
each_few (m ∷ later) slots most fits =
    let here = fits.0 in
    let rest = each_few later slots most fits.1 in
    let both = length-append m.names (flat_map (λ (n : Member). n.names) later) in
    omega arith

-- so there is always a number for one name more
pub few_names : (s : Index) (names : ℕ) → IsCoreMap s names → names ≤ 262144
few_names s names is =
    let w = world s in
    let m = map_of_index s in
    let shape = (idle_has_shape w is.index.lawful (quiet_parties s is.quiet)).0 in
    let row = is.index.lawful.row.layout in
    let slots = row.slots in
    let nodes = row.nodes in
    let members_few = shape.few in
    let size = len-keys m in
    let parts = ap length (members_part_names m (anchors_in w) shape.ordered) in
    let each = each_few (members m (anchors_in w)) s.layout.slots slots.1 shape.fits in
    let as_many = length-members m (anchors_in w) in
    let counted = is.counted in
    omega arith

-- calls and turns leave it that of its run
pub same_run : (s s' : Index) {l : Layout} {number : ℕ} → IsOfRun l number s → s'.layout ≡ s.layout → s'.generation ≡ s.generation → IsOfRun l number s'
same_run s s' was layout generation = record { layout = layout ∙ was.layout; generation = generation ∙ was.generation }

pub stays_run : (s s' : Index) {l : Layout} {number calls writes : ℕ} → IsOfRun l number s → StaysQuiet s s' calls writes → IsOfRun l number s'
stays_run s s' was stays = same_run s s' was stays.layout stays.generation

-- where calls are left, so are four locks of each node
pub locks_remain : (s : Index) → 0 < calls_left_of s → 4 ≤ locks_left s
locks_remain s left = omega (arith, left)

-- then no node is worn, and no clock has come to a limit that is none
pub unworn : (s : Index) (c : CoreCall) → IsIndex s → 0 < calls_left_of s → FindsWornNode c s → ⊥
unworn s c is left worn =
    let f = facts (world s) in
    let here = listed_within s.layout f is.lawful.list is.lawful.row.layout (node_for s (name_asked (op_of c))) (target_in 0 f.list (key_of (name_asked (op_of c)))) in
    let none : locks_left s ≡ 0 = worn_has_none s.generation f.version (node_for s (name_asked (op_of c))) s.layout.nodes here (worn_target (world s) (op_of c) worn) in
    let some_left = locks_remain s left in
    omega arith

pub in_time : (s : Index) (c : CoreCall) → IsUnlimited c → most_writes c ≤ writes_left_of s → IsOver c s → ⊥
in_time s (call.Put name value limit) unlimited left over = let room : 0 < 2 ^ 62 - length s.history = le_trans left (min-le_right s.spare (2 ^ 62 - length s.history)) in omega (arith, room, unlimited, over)
in_time s (call.Get name) unlimited left over = over
in_time s (call.Part low count) unlimited left over = over
in_time s (call.Recheck node version) unlimited left over = over
in_time s (call.Turn stamp release) unlimited left over = over
in_time s (call.Del name limit) unlimited left over = let room : 0 < 2 ^ 62 - length s.history = le_trans left (min-le_right s.spare (2 ^ 62 - length s.history)) in omega (arith, room, unlimited, over)

pub goes_through : (s : Index) (i : ℕ) (c : CoreCall) (new : Index) (r : Once Placed) → IsIndex s → IsUnlimited c → 0 < calls_left_of s → most_writes c ≤ writes_left_of s → IsWholeAnswer (most_tries c) s i c new (whole_of r)
    → ((clock : ℕ) × (r ≡ once.Spent clock)) ⊎ ((node : ℕ) × (word : ℕ) × (r ≡ once.Worn node word)) → ⊥
goes_through s i c new r is unlimited left writes answer = ⊎_elim
    (λ (late : (clock : ℕ) × (r ≡ once.Spent clock)). in_time s c unlimited writes (subst (λ (o : Once Placed). IsWholeAnswer (most_tries c) s i c new (whole_of o)) late.1 answer).1)
    (λ (worn : (node : ℕ) × (word : ℕ) × (r ≡ once.Worn node word)). both_worn worn.0 worn.1 (subst (λ (o : Once Placed). IsWholeAnswer (most_tries c) s i c new (whole_of o)) worn.2 answer))
  where
    both_worn : (node word : ℕ) → IsWornNode (most_tries c) s i c new node word → ⊥
    both_worn node word (inl first) = unworn s c is left first.0
    both_worn node word (inr again) =
        let four = locks_remain s left in
        let few = (tries_between c).1 in
        let less = again.1 in
        omega (arith, four, few, less)

-- a call finds no room exactly where it is a put that is full in the shape
pub full_exactly : (s : Index) (c : CoreCall) → IsIndex s → IsQuiet s → IsName (name_asked (op_of c)) → 0 < calls_left_of s → HasLowStamps s →
    FindsNoRoom c s ↔ PutsFull s.layout.slots s.layout.nodes (map_of_index s) (anchors_in (world s)) (as_op (op_of c))
full_exactly s (call.Put name value limit) is quiet named left low = let four = locks_remain s left in no_room_is_full_put s name value limit is quiet named (omega arith) low
full_exactly s (call.Get name) is quiet named left low = ((λ none. none), (λ none. none))
full_exactly s (call.Del name limit) is quiet named left low = ((λ none. none), (λ none. none))
full_exactly s (call.Part low_name count) is quiet named left low = ((λ none. none), (λ none. none))
full_exactly s (call.Recheck node version) is quiet named left low = ((λ none. none), (λ none. none))
full_exactly s (call.Turn stamp release) is quiet named left low = ((λ none. none), (λ none. none))

-- no call gives a stamp above 1
pub stays_low : (s : Index) (i : ℕ) (c : CoreCall) (new : Index) (r : Whole) → RunsAlone s i c new r → HasLowStamps s → HasLowStamps new
stays_low s i c new r runs low n here =
    let within : n < s.layout.nodes = subst (λ (l : Layout). n < l.nodes) runs.layout here in
    let was = low n within in
    ⊎_elim
    (λ (same : stamp_in (world new) n ≡ stamp_in (world s) n). omega arith)
    (λ (small : stamp_in (world new) n ≤ 1). small)
    (runs.stamps n within)

-- nor is the node worn behind that of a name
pub next_unworn : (s : Index) (name : List ℕ) → IsIndex s → 0 < calls_left_of s → NextIsWorn (world s) name → ⊥
next_unworn s name is left worn =
    let f = facts (world s) in
    let n = node_for s name in
    let next = next_node (world s) name in
    let within : next < s.layout.nodes =
    listed_within s.layout f is.lawful.list is.lawful.row.layout next
    (elim (cases_eq next 0) [ inl none ↦ inl none | inr some_one ↦ inr (chain_closed f.now 0 f.list is.lawful.list.chain n (target_in 0 f.list (key_of name)) some_one) ]) in
    let none : locks_left s ≡ 0 = worn_has_none s.generation f.version next s.layout.nodes within worn in
    let some_left = locks_remain s left in
    omega arith

-- one that takes place leaves the anchors that it makes
same_made : (s : Index) (c : CoreCall) (new : Index) → anchors_in (world s) ≡ anchors_made s c → HasSameList s new → anchors_in (world new) ≡ anchors_made s c
same_made s c new made same = ap anchors_of same ∙ made

made : (s : Index) (c : CoreCall) (new : Index) (placed : Placed) → IsIndex s → IsUnlimited c → 0 < calls_left_of s → LeavesList c (whole.Placed placed) s new → anchors_in (world new) ≡ anchors_made s c
made s (call.Put name value limit) new placed is unlimited left list = ⊎_elim
    (λ (kept : HasSameList s new × SplitsNothing (call.Put name value limit) s × Unit {0}).
    same_made s (call.Put name value limit) new (sym (put-stays s.layout.slots (map_of_index s) (anchors_in (world s)) name kept.1)) kept.0)
    (λ (changed : SplitsFor (call.Put name value limit) s new ⊎ ⊥). ⊎_elim (λ (cut : SplitsFor (call.Put name value limit) s new). cut.1) (λ (merge : ⊥). absurd merge) changed)
    list
made s (call.Get name) new placed is unlimited left list = ⊎_elim
    (λ (kept : HasSameList s new × Unit {0} × Unit {0}). same_made s (call.Get name) new refl kept.0)
    (λ (changed : ⊥ ⊎ ⊥). ⊎_elim (λ (cut : ⊥). absurd cut) (λ (merge : ⊥). absurd merge) changed)
    list
made s (call.Part low count) new placed is unlimited left list = absurd unlimited
made s (call.Recheck node version) new placed is unlimited left list = absurd unlimited
made s (call.Turn stamp release) new placed is unlimited left list = absurd unlimited
made s (call.Del name limit) new placed is unlimited left list = ⊎_elim
    (λ (kept : HasSameList s new × Unit {0} × MergesNothing (call.Del name limit) s).
    let stays : merges s.layout.slots (map_of_index s) (anchors_in (world s)) name ≡ false =
    ⊎_elim (λ (none : merges s.layout.slots (map_of_index s) (anchors_in (world s)) name ≡ false). none) (λ (worn : NextIsWorn (world s) name). absurd (next_unworn s name is left worn)) kept.2 in
    same_made s (call.Del name limit) new (sym (del-stays s.layout.slots (map_of_index s) (anchors_in (world s)) name stays)) kept.0)
    (λ (changed : ⊥ ⊎ MergesFor (call.Del name limit) s new). ⊎_elim (λ (cut : ⊥). absurd cut) (λ (merge : MergesFor (call.Del name limit) s new). merge.1) changed)
    list

-- what a whole call that was answered so says of room and of the shape
pub told_placed : (s : Index) (c : CoreCall) (new : Index) (r : Whole) (placed : Placed) → IsIndex s → IsUnlimited c → 0 < calls_left_of s → r ≡ whole.Placed placed → {caller : ℕ} → RunsAlone s caller c new r →
    (FindsNoRoom c s → ⊥) × (anchors_in (world new) ≡ anchors_made s c)
told_placed s c new r placed index unlimited left is {caller} runs =
    let run : RunsAlone s caller c new (whole.Placed placed) = subst (RunsAlone s caller c new) is runs in
    (run.answer.1.2, made s c new placed index unlimited left run.list)

pends : (m : Map) (history : List Write) (caller index : ℕ) (change : Option Change) → after_all m (history ++ written caller index change) ≡ pended change (after_all m history)
pends m history caller index None = ap (after_all m) (append-nil history)
pends m history caller index (Some change) = after_all-push m history (record { caller = caller; index = index; change = change })

-- and of its map
pub told_map : (s : Index) (c : CoreCall) (new : Index) (r : Whole) (placed : Placed) → r ≡ whole.Placed placed → {caller : ℕ} → RunsAlone s caller c new r →
    map_of_index new ≡ pended (change_of (op_of c)) (map_of_index s)
told_map s c new r placed is {caller} runs =
    let run : RunsAlone s caller c new (whole.Placed placed) = subst (RunsAlone s caller c new) is runs in
    (λ k. after_all (map_of (run.base k)) (run.history k)) ∙ pends (map_of s.base) s.history caller run.state.index (change_of (op_of c))

pub told_full : (s : Index) (c : CoreCall) (new : Index) (r : Whole) → r ≡ whole.Full → {caller : ℕ} → RunsAlone s caller c new r → FindsNoRoom c s × (anchors_in (world new) ≡ anchors_in (world s))
told_full s c new r is {caller} runs =
    let run : RunsAlone s caller c new whole.Full = subst (RunsAlone s caller c new) is runs in
    (run.answer.2, ap anchors_of run.list)

-- with no call in flight it has a shape that its members can have, and these weigh no more than all of it
pub core_in_shape : (s : Index) (names : ℕ) → IsCoreMap s names → IsInShape (state_of s)
core_in_shape s names is =
    let both = idle_has_shape (world s) is.index.lawful (quiet_parties s is.quiet) in
    let few = both.0.few in
    let light = both.1 in
    let slots = is.index.lawful.row.layout.slots in
    record {
      shape = record { ordered = both.0.ordered; few = omega arith; fits = both.0.fits };
      enough = omega (arith, slots);
      light = omega (arith, light);
    }

-- of what is left for writes a call takes one at most, for its write
few_writes : (c : CoreCall) (r : Whole) (caller index : ℕ) → length (alone_writes caller index c r) ≤ most_writes c
few_writes (call.Put name value limit) (whole.Placed placed) caller index = omega arith
few_writes (call.Get name) (whole.Placed placed) caller index = omega arith
few_writes (call.Del name limit) (whole.Placed placed) caller index = omega arith
few_writes (call.Part low count) (whole.Placed placed) caller index = omega arith
few_writes (call.Recheck node version) (whole.Placed placed) caller index = omega arith
few_writes (call.Turn stamp release) (whole.Placed placed) caller index = omega arith
few_writes c (whole.Part words) caller index = omega arith
few_writes c (whole.Spent clock) caller index = omega arith
few_writes c (whole.Same place) caller index = omega arith
few_writes c (whole.Turned turned) caller index = omega arith
few_writes c whole.Full caller index = omega arith
few_writes c (whole.Worn node word) caller index = omega arith

pub writes_fall : (s s' : Index) (c : CoreCall) (r : Whole) (caller : ℕ) → RunsAlone s caller c s' r → s.spare + length s.history ≤ s'.spare + length s'.history →
    writes_left_of s ≤ writes_left_of s' + most_writes c
writes_fall s s' c r caller runs spare =
    let few = few_writes c r caller runs.state.index in
    let grown = ap length runs.history in
    let both = length-append s.history (alone_writes caller runs.state.index c r) in
    omega (arith, few, grown, both, spare)

pub calls_fall : (s s' : Index) (c : CoreCall) (caller : ℕ) → TakesLocks caller c s s' → calls_left_of s ≤ calls_left_of s' + 1
calls_fall s s' c caller takes = ⊎_elim
    (λ (one : locks_left s ≤ locks_left s' + 1). omega (arith, one))
    (λ (again : IsMadeAgain caller c s × (locks_left s ≤ locks_left s' + most_tries c)). let few = (tries_between c).1 in let more = again.1 in omega (arith, few, more))
    takes

-- what a whole call leaves
pub call_stays : (s s' : Index) (c : CoreCall) (r : Whole) (caller : ℕ) → RunsAlone s caller c s' r → IsIndex s' → IsQuiet s' → calls_left_of s ≤ calls_left_of s' + 1 → s.spare + length s.history ≤ s'.spare + length s'.history →
    StaysQuiet s s' 1 (most_writes c)
call_stays s s' c r caller runs index quiet calls spare = record {
  index = index;
  quiet = quiet;
  stamps = stays_low s caller c s' r runs;
  layout = runs.layout;
  generation = runs.generation;
  calls_left = calls;
  writes_left = writes_fall s s' c r caller runs spare;
}

-- so much is used up of the map, which is seen as it was
pub uses_of : (s seen s' : Index) {calls writes : ℕ} → s ≡ seen → StaysQuiet s s' calls writes → UsesUp (state_of seen) (state_of s') calls writes
uses_of s seen s' {calls} {writes} is stays = subst (λ (v : Index). UsesUp (state_of v) (state_of s') calls writes) is (record {
  bounds = record { slots = ap (λ (l : Layout). l.slots) stays.layout; most = ap (λ (l : Layout). l.nodes) stays.layout; callers = ap (λ (l : Layout). l.callers) stays.layout };
  calls_left = stays.calls_left;
  writes_left = stays.writes_left;
})

pub same_of : (s seen s' : Index) → s ≡ seen → HoldsSame (state_of s) (state_of s') → HoldsSame (state_of seen) (state_of s')
same_of s seen s' is same = subst (λ (v : Index). HoldsSame (state_of v) (state_of s')) is same

-- ---- turns of the updater

stamp_low : (w : World) (n : ℕ) → stamp_in w n ≤ 1 → stamp_then w 1 n ≤ 1
stamp_low w n low = elim (stamp_in w n == 0) as (λ b. cond b 1 (stamp_in w n) ≤ 1) [ true ↦ omega arith | false ↦ low ]

-- a turn takes no lock
pub turned_calls : (s s' : Index) (answer : Turned) → TurnsAlone s 1 1 answer s' → calls_left_of s' ≡ calls_left_of s
turned_calls s s' answer t =
    let locks : locks_left s' ≡ locks_left s = λ k. fewest_locks (t.is k).generation (t.lone.kept.facts k).version (t.is k).layout.nodes in
    ap (λ (n : ℕ). n / 4) locks

module _ (s s' : Index) (answer : Turned) (t : TurnsAlone s 1 1 answer s') where
  -- a turn leaves no stamp above its own
  turn_low : IsIndex s' → HasLowStamps s → HasLowStamps s'
  turn_low is low n here = ⊎_elim
      (λ (none : stamp_in (world s') n ≡ 0). omega arith)
      (λ (some_stamp : stamp_in (world s') n ≢ 0).
      let within : n < s.layout.nodes = subst (λ (l : Layout). n < l.nodes) (ap (λ (v : Index). v.layout) t.is) here in
      let left = t.lone.stamps n within (stamped_are_gone s' is.layered n some_stamp) in
      let small = stamp_low (world s) n (low n within) in
      omega arith)
      (cases_eq (stamp_in (world s') n) 0)

  -- nor does it change what it holds
  pub turned_same : HoldsSame (state_of s) (state_of s')
  turned_same = let weighs = t.weighs in record { contents = ap map_of_index t.is; anchors = (λ k. anchors_of (t.lone.kept.facts k).list); weighs = omega (arith, weighs) }

  -- it uses up nothing; a core that was kept until then with no call in flight is kept so
  pub turned_stays : {before : Index} → StaysQuiet before s 0 0 → IsIndex s' → IsQuiet s' → StaysQuiet before s' 0 0
  turned_stays {before} was index quiet =
      let calls = turned_calls s s' answer t in
      let writes : writes_left_of s' ≡ writes_left_of s = ap writes_left_of t.is in
      let calls_before = was.calls_left in
      let writes_before = was.writes_left in
      record {
        index = index;
        quiet = quiet;
        stamps = λ low. turn_low index (was.stamps low);
        layout = ap (λ (v : Index). v.layout) t.is ∙ was.layout;
        generation = ap (λ (v : Index). v.generation) t.is ∙ was.generation;
        calls_left = omega (arith, calls, calls_before);
        writes_left = omega (arith, writes, writes_before);
      }

  pub turned_map : (names : ℕ) → IsCoreMap s names → IsIndex s' → IsQuiet s' → IsCoreMap s' names
  turned_map names was index quiet = record { index = index; quiet = quiet; stamps = turn_low index was.stamps; counted = was.counted ∙ ap (λ (v : Index). len (map_of_index v)) (sym t.is) }

  pub turned_run : {l : Layout} {number : ℕ} → IsOfRun l number s → IsOfRun l number s'
  turned_run was = record { layout = ap (λ (v : Index). v.layout) t.is ∙ was.layout; generation = ap (λ (v : Index). v.generation) t.is ∙ was.generation }

-- ---- parts of scans

-- where calls are left a part is done
pub part_goes_through : (s : Index) (i : ℕ) (low : List ℕ) (count : ℕ) (new : Index) (r : Once PartWords) → IsIndex s → 0 < calls_left_of s → IsWholeAnswer 1 s i (call.Part low count) new (part_whole r) →
    ((clock : ℕ) × (r ≡ once.Spent clock)) ⊎ (((node : ℕ) × (word : ℕ) × (r ≡ once.Worn node word)) ⊎ ((why : Again) × (r ≡ once.Again why))) → ⊥
part_goes_through s i low count new r is left answer = ⊎_elim
    (λ (late : (clock : ℕ) × (r ≡ once.Spent clock)). (at late.1).1)
    (λ (rest : ((node : ℕ) × (word : ℕ) × (r ≡ once.Worn node word)) ⊎ ((why : Again) × (r ≡ once.Again why))). ⊎_elim
    (λ (worn : (node : ℕ) × (word : ℕ) × (r ≡ once.Worn node word)). is_worn worn.0 worn.1 (at worn.2))
    (λ (turned : (why : Again) × (r ≡ once.Again why)). (at turned.1).2)
    rest)
  where
    at : {o : Once PartWords} → r ≡ o → IsWholeAnswer 1 s i (call.Part low count) new (part_whole o)
    at same = subst (λ (o : Once PartWords). IsWholeAnswer 1 s i (call.Part low count) new (part_whole o)) same answer

    is_worn : (node word : ℕ) → IsWornNode 1 s i (call.Part low count) new node word → ⊥
    is_worn node word (inl first) = unworn s (call.Part low count) is left first.0
    is_worn node word (inr again) = again.0

-- ---- images

-- an index that an image is opened as, once room for writes is made
pub opened_core : (image : Row) (s s' : Index) → IsOpenedFrom image s → s' ≡ record s { spare = s'.spare } → IsOpenedFrom image s'
opened_core image s s' is kept = subst (IsOpenedFrom image) (sym kept) (with_room image s s'.spare is)

-- it has the map of the image, each of whose names is counted once
opened_contents : (image : Row) (s : Index) → IsOpenedFrom image s → map_of_index s ≡ image_map image.layout image.words
opened_contents image s is = (λ k. after_all (map_of (is.base k)) (is.history k)) ∙ map_of-pairs_of (image_map image.layout image.words)

opened_counted : (image : Row) (s : Index) (names : ℕ) → IsOpenedFrom image s → names ≡ length s.base → names ≡ len (map_of_index s)
opened_counted image s names is counts =
    counts ∙ ap length is.base ∙ length-map (entries (image_map image.layout image.words)) (λ (e : List ℕ × ℕ). record { name = e.0; value = e.1 })
    ∙ sym (len-entries (image_map image.layout image.words)) ∙ sym (ap len (opened_contents image s is))

pub opened_map : (image : Row) (s : Index) (names : ℕ) → IsOpenedFrom image s → names ≡ length s.base → IsCoreMap s names
opened_map image s names is counts = record { index = is.index; quiet = is.quiet; stamps = is.stamps; counted = opened_counted image s names is counts }

-- its log is empty, and no node is GONE
opened_line : (image : Row) (s : Index) (j : ℕ) → IsOpenedFrom image s → j < line_count s.layout → line_state (world s) j ≡ empty_state
opened_line image s j is small =
    let l = s.layout in
    let inside : (nat_lt j (line_count l) && nat_lt 0 8) ≡ true = rw (lt-ltb j (line_count l) small) refl in
    column-here l s.words (line_count l) (λ n. Cached (line_word state_offset n)) j small
    ∙ sym (word_if-here (nat_lt j (line_count l) && nat_lt 0 8) (positions.at l s.words (Cached (line_word state_offset j))) inside)
    ∙ is.rests.empty j

pub all_many : (test : ℕ → Bool) (n : ℕ) → ((k : ℕ) → k < n → test k ≡ true) → how_many test n ≡ n
all_many test zero all = refl
all_many test (suc n) all =
    let before = all_many test n (λ k small. all k (omega arith)) in
    ap (λ b. cond b (how_many test n + 1) (how_many test n)) (all n (omega arith)) ∙ omega (arith, before)

pub none_many : (test : ℕ → Bool) (n : ℕ) → ((k : ℕ) → k < n → test k ≡ false) → how_many test n ≡ 0
none_many test zero none = refl
none_many test (suc n) none = ap (λ b. cond b (how_many test n + 1) (how_many test n)) (none n (omega arith)) ∙ none_many test n (λ k small. none k (omega arith))

opened_waits : (image : Row) (s : Index) → IsOpenedFrom image s → (lines puts : ℕ) → lines ≤ 8 → length (image_anchors image.layout image.words) + puts < image.layout.nodes → Waits s 0 lines puts
opened_waits image s is lines puts few room =
    let size : length (anchors_in (world s)) ≡ length (image_anchors image.layout image.words) = ap length is.anchors in
    let gone = is.gone in
    let nodes : s.layout.nodes ≡ image.layout.nodes = ap (λ (l : Layout). l.nodes) is.layout in
    record {
      ready = none_many (is_ready (world s)) (line_count s.layout)
          (λ k small. ap (λ (state : ℕ). state == ready_state) (opened_line image s k is small));
      lines = λ caller here.
          (let all = all_many (is_own_empty caller (world s)) 8 (λ k small. eq-eqb (line_state (world s) (8 * caller + k)) empty_state (opened_line image s (8 * caller + k) is (omega (arith, here, small)))) in
          omega (arith, all, few));
      nodes = omega arith;
    }

-- no line waits in it
no_line : (s : Index) (j : ℕ) → line_count s.layout ≤ j → line_state (world s) j ≡ empty_state
unfolding column
no_line s j large = ap (λ b. cond b (positions.at s.layout s.words (Cached (line_word state_offset j))) 0) (le-ltb j (line_count s.layout) large)

pub opened_lines : (image : Row) (s : Index) → IsOpenedFrom image s → HasNoLines s
opened_lines image s is j = elim (cases_lt j (line_count s.layout)) [
  | inl small ↦ opened_line image s j is small
  | inr large ↦ no_line s j large
]

-- with a shape that weighs no more than it does
opened_within : (image : Row) (s : Index) → IsOpenedFrom image s →
    IsShapeWithin s.layout.slots s.layout.nodes (weight_of s) (len (map_of_index s)) (map_of_index s) (anchors_in (world s))
opened_within image s is =
    let both = idle_has_shape (world s) is.index.lawful (quiet_parties s is.quiet) in
    let few = both.0.few in
    let light = both.1 in
    record {
      shape = record { ordered = both.0.ordered; few = omega (arith, few); fits = both.0.fits };
      light = omega (arith, light);
      few = omega arith;
    }

pub opened_is_map : OpenedIsMap
opened_is_map image s is = record {
  contents = opened_contents image s is;
  anchors = is.anchors;
  weighs = is.weighs;
  keeps = subst (IsMapOf image.layout image.words) (ap map_of is.base ∙ map_of-pairs_of (image_map image.layout image.words)) is.keeps;
  counted = opened_counted image s (length s.base) is refl;
  within = opened_within image s is;
  lines = opened_lines image s is;
  waits = opened_waits image s is;
}

-- its calls and its nodes are few enough for all locks, and its clock is 0
pub opened_calls : (image : Row) (s : Index) (calls : ℕ) → IsOpenedFrom image s → calls ≤ 100000 → calls * s.layout.nodes ≤ calls_left_of s
opened_calls image s calls is few =
    let row = is.index.lawful.row.layout in
    let nodes : s.layout.nodes ≤ 4096 = omega (arith, row.nodes) in
    let product : calls * s.layout.nodes ≤ 100000 * 4096 = mul-le-mul few nodes in
    let locks = is.locks in
    omega (arith, product, locks)

pub opened_writes : (image : Row) (s : Index) (calls : ℕ) → IsOpenedFrom image s → calls ≤ s.spare → calls ≤ 100000 → calls ≤ writes_left_of s
opened_writes image s calls is spare few = let none : length s.history ≡ 0 = ap length is.history in le-min spare (omega (arith, none, few))

-- ---- weights

-- what holds anyway holds at an error
pub on-err : {A E : Type 0} (r : Result A E) (P : Type 0) → P → OnErr r P
on-err (Ok a) P p = tt
on-err (Err e) P p = p

-- a call adds one at most, and only where it adds a name
pub told_weighs : (s : Index) (c : CoreCall) (new : Index) (r : Whole) (placed : Placed) → r ≡ whole.Placed placed → {caller : ℕ} → RunsAlone s caller c new r →
    weight_of new ≤ weight_of s + added_if (op_of c) placed.old
told_weighs s c new r placed is {caller} runs = let run : RunsAlone s caller c new (whole.Placed placed) = subst (RunsAlone s caller c new) is runs in run.weighs

-- what writes nothing and leaves the list holds what it held
holds_same : (s new : Index) → new.base ≡ s.base → new.history ≡ s.history ++ [] → HasSameList s new → weight_of new ≤ weight_of s → HoldsSame (state_of s) (state_of new)
holds_same s new base history list light = record {
  contents = (λ k. after_all (map_of (base k)) (history k)) ∙ ap (after_all (map_of s.base)) (append-nil s.history);
  anchors = ap anchors_of list;
  weighs = light;
}

-- so does one that found no room
pub full_same : (s : Index) (c : CoreCall) (new : Index) (r : Whole) → r ≡ whole.Full → {caller : ℕ} → RunsAlone s caller c new r → HoldsSame (state_of s) (state_of new)
full_same s c new r is {caller} runs =
    let run : RunsAlone s caller c new whole.Full = subst (RunsAlone s caller c new) is runs in
    let weighs = run.weighs in
    holds_same s new run.base run.history run.list (omega (arith, weighs))

pub no_put_adds : (o : Option ℕ) (asked : NameOp) → put_count asked ≡ 0 → added_if asked o ≡ 0
no_put_adds None asked none = none
no_put_adds (Some old) asked none = refl

pub put_adds : (o : Option ℕ) (name : List ℕ) (value : ℕ) → added_if (op.Put name value) o ≡ one_if (is_none o)
put_adds None name value = refl
put_adds (Some old) name value = refl

listed_adds : (low : List ℕ) (count : ℕ) (r : Whole) → added_whole (op_of (call.Part low count)) r ≡ 0
listed_adds low count (whole.Placed placed) = no_put_adds placed.old (op_of (call.Part low count)) refl
listed_adds low count (whole.Part words) = refl
listed_adds low count (whole.Spent clock) = refl
listed_adds low count (whole.Same place) = refl
listed_adds low count (whole.Turned turned) = refl
listed_adds low count whole.Full = refl
listed_adds low count (whole.Worn node word) = refl

pub part_weighs : (s : Index) (low : List ℕ) (count : ℕ) (new : Index) (r : Whole) {caller : ℕ} → RunsAlone s caller (call.Part low count) new r → weight_of new ≤ weight_of s
part_weighs s low count new r runs = let weighs = runs.weighs in let none = listed_adds low count r in omega (arith, weighs, none)

-- a part of a scan holds what it held
pub part_same : (s : Index) (low : List ℕ) (count : ℕ) (new : Index) (r : Whole) (words : PartWords) → r ≡ whole.Part words → {caller : ℕ} → RunsAlone s caller (call.Part low count) new r → HoldsSame (state_of s) (state_of new)
part_same s low count new r words is {caller} runs =
    let run : RunsAlone s caller (call.Part low count) new (whole.Part words) = subst (RunsAlone s caller (call.Part low count) new) is runs in
    holds_same s new run.base run.history run.list (part_weighs s low count new (whole.Part words) run)
